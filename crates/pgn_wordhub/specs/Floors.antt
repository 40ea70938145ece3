-- The least mark that looks have met, and who stands there.
use Rattle.std.specs.Prelude.{◌≡◌, ℕ, ◌^◌, ◌<◌, List, Option}
use Rattle.pgn_base.specs.declared.format.Format.{Format}
use Rattle.pgn_journal.specs.declared.tx.Tx.{Tx}
use Rattle.pgn_journal.specs.Journal.{next_xid}
use Rattle.pgn_journal.specs.Packing.{place}
use Rattle.pgn_hub.specs.Calls.{IsFloor}
use Rattle.pgn_words.specs.Positions.{packed}

-- The floor is the least of the next number and of the marks that were met. It has its place in the journal, and fits into a word with it.
pub record IsFloorOf (format : Format) (seen : List Tx) (met : List (ℕ × ℕ)) (least mark at : ℕ) (holder : Option ℕ) : Type 0 where
  pub floor : IsFloor (next_xid seen) met mark holder
  pub least_is : least ≡ packed mark at
  pub at_is : at ≡ place format seen mark
  pub low : at < 2 ^ 32
