-- How far a reader is behind.
use Rattle.std.specs.Prelude.{◌≡◌, ℕ, ◌+◌, ◌<◌, Bool, false, List}
use Rattle.std.specs.List.{list_any}
use Rattle.pgn_base.specs.declared.format.Format.{Format}
use Rattle.pgn_base.specs.declared.limits.TheConstants.{CLEANUP_DELAY_PAGES}
use Rattle.pgn_journal.specs.declared.tx.Tx.{Tx}
use Rattle.pgn_journal.specs.Journal.{entries_between}
use Rattle.pgn_journal.specs.Packing.{page_of, place}

-- a reader at the mark need not read up to x: from the mark on and before x stands no transaction that matters to it, and the
-- one numbered x begins less than four pages after the one numbered by the mark
pub record Near (format : Format) (matters : Tx → Bool) (journal : List Tx) (mark x : ℕ) : Type 0 where
  pub nothing_due : list_any matters (entries_between journal mark x) ≡ false
  pub few_pages : page_of (place format journal x) < page_of (place format journal mark) + CLEANUP_DELAY_PAGES
