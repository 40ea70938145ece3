-- When the queue is full, and how much of it is in use.
use Rattle.std.specs.Prelude.{◌≡◌, ◌↔◌, ◌⊎◌, ℕ, ◌+◌, ◌<◌, ◌≤◌, true, false, List, length, take, Option, Some, None, IfSome, IsSomeAnd, slice_get}
use Rattle.pgn_base.specs.declared.format.Format.{Format}
use Rattle.pgn_base.specs.declared.queue_answers.Full.{Full}
use Rattle.pgn_base.specs.declared.queue_answers.Usage.{Usage}
use Rattle.pgn_journal.specs.declared.tx.Tx.{Tx}
use Rattle.pgn_journal.specs.declared.tx.Fate.TheVariants.{Aborted}
use Rattle.pgn_journal.specs.Journal.{next_xid, entry}
use Rattle.pgn_journal.specs.Bytes.{entry_length}
use Rattle.pgn_journal.specs.Packing.{page_of, is_page_start, fits, place, put_all}

-- a transaction that begins at this place was aborted with so many notifications queued, and not all, where the next did not fit:
-- they end where a page begins, or the next one does not fit on the rest of the page
pub record IsCutShort (format : Format) (at queued : ℕ) (tx : Tx) : Type 0 where
  pub aborted : tx.fate ≡ Aborted
  pub some : tx.queued ≡ queued
  pub not_all : queued < length tx.notes
  pub stopped : let end = put_all format at (take queued tx.notes) in
      (is_page_start end ≡ true) ⊎ IsSomeAnd (slice_get tx.notes queued) (λ note. fits end (entry_length format note) ≡ false)

-- why it is right that the queue was full: the transaction was cut short, and from the floor's page up to the head's there are as
-- many pages as the limit
pub record NoPage (format : Format) (limit : ℕ) (journal : List Tx) (full : Full) : Type 0 where
  pub cut_short : IsSomeAnd (entry journal full.xid) (IsCutShort format (place format journal full.xid) full.queued)
  -- the floor
  pub floor_below : full.floor_mark ≤ full.xid
  pub floor : full.floor_page ≡ page_of (place format journal full.floor_mark)
  -- the head, after the transaction
  pub head : full.head_page ≡ page_of (place format journal (full.xid + 1))
  pub no_page : full.floor_page + limit ≤ full.head_page
  -- no session holds the floor exactly where it is at the transaction itself
  pub holder : (full.holder ≡ None) ↔ (full.floor_mark ≡ full.xid)

-- what a usage shows: the limit, and the pages from the floor's up to the one where the transaction numbered `at` would begin
pub record ShowsUsage (format : Format) (limit : ℕ) (journal : List Tx) (usage : Usage) : Type 0 where
  pub limited : usage.limit ≡ limit
  -- the number is within the journal, so that a longer journal changes nothing
  pub in_journal : usage.at ≤ next_xid journal
  -- the floor
  pub floor_below : usage.floor_mark ≤ usage.at
  pub in_use : page_of (place format journal usage.floor_mark) + usage.occupied ≡ page_of (place format journal usage.at)
  -- no session holds the floor exactly where it is at the number itself
  pub holder : (usage.holder ≡ None) ↔ (usage.floor_mark ≡ usage.at)

-- a floor that is shown is not above the session's own mark, and the session holds it only where it is that mark
pub record IsFloorFor (session : ℕ) (mark : Option ℕ) (floor : ℕ) (holder : Option ℕ) : Type 0 where
  pub below : IfSome mark (λ own. floor ≤ own)
  pub own : holder ≡ Some session → mark ≡ Some floor
