-- Laws of batches, and of the statuses in a word.
use Rattle.std.specs.Prelude.{◌≡◌, ◌≢◌, ℕ, ◌+◌, ◌-◌, ◌*◌, ◌<◌, ◌≤◌, ◌^◌, true, List, [], ◌∷◌, ◌++◌, length, take, drop, Option, All, bit_or}
use Rattle.std.specs.Int.{bit_at}
use Rattle.pgn_base.specs.declared.limits.TheConstants.{FIRST_XID}
use Rattle.pgn_base.specs.declared.format.Format.{Format}
use Rattle.pgn_base.specs.declared.note.Note.{Note}
use Rattle.pgn_base.specs.Notes.{IsNote}
use Rattle.pgn_journal.specs.declared.tx.Tx.{Tx}
use Rattle.pgn_journal.specs.declared.tx.Fate.{Fate}
use Rattle.pgn_journal.specs.declared.tx.Fate.TheVariants.{Committed, Aborted}
use Rattle.pgn_journal.specs.Journal.{next_xid}
use Rattle.pgn_journal.specs.Bytes.{IsEntryLength}
use Rattle.pgn_journal.specs.Packing.{Sender, sender_of, next_page, is_page_start, bytes_left, notes_cells, image, put_all, HasRoom}
use Rattle.pgn_journal.specs.QueueUse.{IsCutShort}
use Rattle.pgn_journal.specs.Pieces.{draft}
use Rattle.pgn_layout.specs.declared.batch.Batch.{Batch}
use Rattle.pgn_layout.specs.Batches.{Runs, IsPlanned, empty_cells, padded_to, entries_of, batch_cells, AreBatches, batches_end, with_batches, batch_fillers, fillers_from, IsPlaced}
use Rattle.pgn_layout.specs.Status.{status_word, status_shift, status_code, status_in, status_set}

-- notifications whose entries run on a page are these entries, one after another, and then the rest of the page
pub record RunsAreCells : Type 0 where
  pub cells : (format : Format) (sender : Sender) (at : ℕ) (notes : List Note) → HasRoom format at → Runs format at notes
      → notes_cells format sender at notes ≡ entries_of format sender notes ++ empty_cells (put_all format at notes - (at + length (entries_of format sender notes)))
  pub within : (format : Format) (at : ℕ) (notes : List Note) → Runs format at notes → put_all format at notes ≤ next_page at
  pub tight : (format : Format) (sender : Sender) (at : ℕ) (notes : List Note) → Runs format at notes → put_all format at notes < next_page at
      → put_all format at notes ≡ at + length (entries_of format sender notes)
  pub ends : (format : Format) (sender : Sender) (at : ℕ) (notes : List Note) → HasRoom format at → Runs format at notes
      → at + length (entries_of format sender notes) ≤ put_all format at notes
  pub firsts : (format : Format) (at count : ℕ) (notes : List Note) → Runs format at notes → Runs format at (take count notes)

-- a planned batch is written on one page, and leaves a notification only where the next page begins
pub record BatchesStay : Type 0 where
  pub cells : (format : Format) (sender : Sender) (at : ℕ) (notes : List Note) (batch : Batch) → HasRoom format at → IsPlanned format at notes batch
      → at + length (batch_cells format sender notes batch) ≤ batch.next
  pub page : (format : Format) (at : ℕ) (notes : List Note) (batch : Batch) → IsPlanned format at notes batch → batch.next ≤ next_page at
  pub room : (format : Format) (at : ℕ) (notes : List Note) (batch : Batch) → HasRoom format at → IsPlanned format at notes batch → HasRoom format batch.next
  pub leaves : (format : Format) (at : ℕ) (notes : List Note) (batch : Batch) → IsPlanned format at notes batch → batch.fits < length notes → batch.next ≡ next_page at

-- its filler stands behind its entries, and takes the rest of the page
pub record FillersTakeRests : Type 0 where
  pub stands : (format : Format) (sender : Sender) (at : ℕ) (notes : List Note) (batch : Batch) → IsPlanned format at notes batch → 0 < batch.filler
      → batch.filler ≡ bytes_left (at + length (entries_of format sender (take batch.fits notes)))
  pub long : (format : Format) (at : ℕ) (notes : List Note) (batch : Batch) → HasRoom format at → IsPlanned format at notes batch → 0 < batch.filler
      → IsEntryLength format batch.filler

-- no two batches are planned for the same notifications from the same place
abbrev pub OneBatch : Type 0
OneBatch = (format : Format) (at : ℕ) (notes : List Note) (a b : Batch) → IsPlanned format at notes a → IsPlanned format at notes b → a ≡ b

-- a writer begins with nothing placed
abbrev pub PlacingBegins : Type 0
PlacingBegins = (format : Format) (sender : Sender) (before : List (Option ℕ)) (notes : List Note) → IsPlaced format sender before notes 0 (length before) before

-- it stands at the end of its cells, where an entry may begin
pub record PlacingStands : Type 0 where
  pub end : (format : Format) (sender : Sender) (before : List (Option ℕ)) (notes : List Note) (count at : ℕ) (cells : List (Option ℕ)) → HasRoom format (length before)
      → IsPlaced format sender before notes count at cells → at ≡ length cells
  pub room : (format : Format) (sender : Sender) (before : List (Option ℕ)) (notes : List Note) (count at : ℕ) (cells : List (Option ℕ)) → HasRoom format (length before)
      → IsPlaced format sender before notes count at cells → HasRoom format at

-- a batch that is planned for the notifications that are left takes it further
abbrev pub PlacingGoesOn : Type 0
PlacingGoesOn = (format : Format) (sender : Sender) (before : List (Option ℕ)) (notes : List Note) (count at : ℕ) (cells : List (Option ℕ)) (batch : Batch)
    → HasRoom format (length before) → All IsNote notes → IsPlaced format sender before notes count at cells → IsPlanned format at (drop count notes) batch
    → IsPlaced format sender before notes (count + batch.fits) batch.next (padded_to batch.next (cells ++ batch_cells format sender (drop count notes) batch))

-- once all are placed, their cells lie behind those that were there
pub record PlacingEnds : Type 0 where
  pub at_end : (format : Format) (sender : Sender) (before : List (Option ℕ)) (notes : List Note) (at : ℕ) (cells : List (Option ℕ))
      → IsPlaced format sender before notes (length notes) at cells → at ≡ put_all format (length before) notes
  pub cells : (format : Format) (sender : Sender) (before : List (Option ℕ)) (notes : List Note) (at : ℕ) (cells : List (Option ℕ))
      → IsPlaced format sender before notes (length notes) at cells → cells ≡ before ++ notes_cells format sender (length before) notes

-- cells are the image of a journal and, behind it, of a draft with some fate
pub record HasImage (format : Format) (seen : List Tx) (session db : ℕ) (notes : List Note) (count : ℕ) (cells : List (Option ℕ)) : Type 0 where
  pub fate : Fate
  pub image : image format (seen ++ draft session db notes count fate ∷ []) ≡ cells

-- what is placed behind a journal's cells is the image of the journal with a draft of the transaction, whatever is placed; with an
-- aborted one where a page begins there, and with a committed one where all is placed
pub record PlacedIsDraft : Type 0 where
  pub some : (format : Format) (seen : List Tx) (session db : ℕ) (notes : List Note) (count at : ℕ) (cells : List (Option ℕ)) → All IsNote notes
      → IsPlaced format (sender_of (next_xid seen) (draft session db notes count Committed)) (image format seen) notes count at cells
      → HasImage format seen session db notes count cells
  pub aborted : (format : Format) (seen : List Tx) (session db : ℕ) (notes : List Note) (count at : ℕ) (cells : List (Option ℕ)) → All IsNote notes
      → IsPlaced format (sender_of (next_xid seen) (draft session db notes count Committed)) (image format seen) notes count at cells → is_page_start at ≡ true
      → image format (seen ++ draft session db notes count Aborted ∷ []) ≡ cells
  pub committed : (format : Format) (seen : List Tx) (session db : ℕ) (notes : List Note) (at : ℕ) (cells : List (Option ℕ))
      → IsPlaced format (sender_of (next_xid seen) (draft session db notes (length notes) Committed)) (image format seen) notes (length notes) at cells
      → image format (seen ++ draft session db notes (length notes) Committed ∷ []) ≡ cells

-- where a writer stops at the beginning of a page with a notification left, the transaction is cut short there
abbrev pub PlacedIsCutShort : Type 0
PlacedIsCutShort = (format : Format) (sender : Sender) (before : List (Option ℕ)) (session db : ℕ) (notes : List Note) (count at : ℕ) (cells : List (Option ℕ))
    → IsPlaced format sender before notes count at cells → is_page_start at ≡ true → count < length notes
    → IsCutShort format (length before) count (draft session db notes count Aborted)

-- batch after batch is notification after notification: the same cells, the same end and the same fillers
pub record BatchesArePut : Type 0 where
  pub ends : (format : Format) (at : ℕ) (notes : List Note) (batches : List Batch) → HasRoom format at → All IsNote notes → AreBatches format at notes batches
      → batches_end at batches ≡ put_all format at notes
  pub fillers : (format : Format) (at : ℕ) (notes : List Note) (batches : List Batch) → HasRoom format at → All IsNote notes → AreBatches format at notes batches
      → batch_fillers batches ≡ fillers_from format at notes
  pub cells : (format : Format) (sender : Sender) (before : List (Option ℕ)) (notes : List Note) (batches : List Batch) → HasRoom format (length before) → All IsNote notes
      → AreBatches format (length before) notes batches
      → with_batches format sender before notes batches ≡ before ++ notes_cells format sender (length before) notes

-- the statuses of an empty word are those of transactions in progress
abbrev pub NoneIsSet : Type 0
NoneIsSet = (xid : ℕ) → status_in 0 xid ≡ 0

-- a status that is set by an or, where the transaction is in progress, is read back
abbrev pub SetIsRead : Type 0
SetIsRead = (word xid : ℕ) (fate : Fate) → status_in word xid ≡ 0 → status_in (bit_or word (status_set xid fate)) xid ≡ status_code fate

-- the statuses of the other transactions of the word stay
abbrev pub OthersStay : Type 0
OthersStay = (word xid other : ℕ) (fate : Fate) → FIRST_XID ≤ xid → FIRST_XID ≤ other → other ≢ xid → status_word other ≡ status_word xid
    → status_in (bit_or word (status_set xid fate)) other ≡ status_in word other

-- a word stays one of 64 bits
abbrev pub SetFits : Type 0
SetFits = (word xid : ℕ) (fate : Fate) → word < 2 ^ 64 → bit_or word (status_set xid fate) < 2 ^ 64

-- a fate is told by its code, which is not that of a transaction in progress
pub record CodesTell : Type 0 where
  pub some : (fate : Fate) → 0 < status_code fate
  pub apart : (a b : Fate) → status_code a ≡ status_code b → a ≡ b

-- a status by its two bits
abbrev pub StatusHasBits : Type 0
StatusHasBits = (word xid : ℕ) → status_in word xid ≡ bit_at word (status_shift xid) + 2 * bit_at word (status_shift xid + 1)
