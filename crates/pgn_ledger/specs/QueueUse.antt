-- Tests of a full queue and of a floor, and what is known of a journal to which questions are put.
use Rattle.std.specs.Prelude.{◌≡◌, ℕ, ◌+◌, ◌<◌, nat_le, Bool, false, true, cond, not, ◌&&◌, ◌||◌, ◌==◌, List, [], take, Option, None, Some, slice_get, All, ◌^◌}
use Rattle.pgn_base.specs.declared.format.Format.{Format}
use Rattle.pgn_base.specs.declared.note.Note.{Note}
use Rattle.pgn_base.specs.declared.queue_answers.Full.{Full}
use Rattle.pgn_journal.specs.declared.tx.Tx.{Tx}
use Rattle.pgn_journal.specs.declared.tx.Fate.{Fate}
use Rattle.pgn_journal.specs.declared.tx.Fate.TheVariants.{Committed, Aborted}
use Rattle.pgn_journal.specs.Journal.{next_xid}
use Rattle.pgn_journal.specs.Bytes.{entry_length}
use Rattle.pgn_journal.specs.Packing.{page_of, place, is_page_start, fits, put_all}
use Rattle.pgn_ledger.specs.Places.{notes_in, places_from}
use Rattle.pgn_ledger.specs.Turns.{ranks_from, AreTurns}

-- what is known of a journal: its places and turns, and that there are not too many
pub record IsLedger (format : Format) (journal : List Tx) (places ranks counts : List ℕ) : Type 0 where
  pub placed : places ≡ places_from format 0 journal
  pub ranked : ranks ≡ ranks_from [] journal
  pub counted : AreTurns journal counts
  pub low : All (λ at. at < 2 ^ 53) places
  pub few : next_xid journal < 2 ^ 32
  pub few_notes : notes_in journal < 2 ^ 40

-- no session holds the floor exactly where it is at the number itself
abbrev pub is_held : Option ℕ → ℕ → ℕ → Bool
is_held None floor at = floor == at
is_held (Some session) floor at = not (floor == at)

-- the notifications end where a page begins, or the next does not fit on the rest of the page
abbrev pub is_stopped : Format → ℕ → List Note → Note → Bool
is_stopped format at queued next = is_page_start (put_all format at queued) || not (fits (put_all format at queued) (entry_length format next))

-- the same, if there is a next one
abbrev pub is_stopped_at : Format → ℕ → List Note → Option Note → Bool
is_stopped_at format at queued None = false
is_stopped_at format at queued (Some next) = is_stopped format at queued next

-- it was aborted
abbrev pub is_aborted : Fate → Bool
is_aborted Committed = false
is_aborted Aborted = true

-- a transaction that begins at a place was aborted with so many notifications queued, where the next did not fit
abbrev pub is_cut_short : Format → ℕ → ℕ → Tx → Bool
is_cut_short format at queued tx = is_aborted tx.fate && (tx.queued == queued && is_stopped_at format at (take queued tx.notes) (slice_get tx.notes queued))

-- the pages are those of the floor and of the head, and there is no page left between them
abbrev pub has_no_page : Format → ℕ → List Tx → Full → Bool
has_no_page format limit journal full =
    nat_le full.floor_mark full.xid && (full.floor_page == page_of (place format journal full.floor_mark) && (full.head_page == page_of (place format journal (full.xid + 1))
    && (nat_le (full.floor_page + limit) full.head_page && is_held full.holder full.floor_mark full.xid)))

-- the floor is not above a mark
abbrev pub is_below : Option ℕ → ℕ → Bool
is_below None floor = true
is_below (Some own) floor = nat_le floor own

-- the session is no holder, or its mark is the floor
abbrev pub is_own_floor : ℕ → Option ℕ → ℕ → Option ℕ → Bool
is_own_floor session mark floor None = true
is_own_floor session None floor (Some holder) = not (holder == session)
is_own_floor session (Some own) floor (Some holder) = cond (holder == session) (own == floor) true
