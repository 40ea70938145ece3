-- A writer that places the notifications of its transaction, batch by batch.
use Rattle.std.specs.Prelude.{◌≡◌, ℕ, ◌+◌, ◌<◌, ◌≤◌, ◌^◌, List, [], ◌++◌, length, All, Contains, Option}
use Rattle.pgn_base.specs.declared.limits.TheConstants.{PID_BASE}
use Rattle.pgn_base.specs.declared.note.Note.{Note}
use Rattle.pgn_base.specs.Notes.{IsNote}
use Rattle.pgn_hub.specs.declared.known.Known.{Known}
use Rattle.pgn_journal.specs.Journal.{next_xid}
use Rattle.pgn_journal.specs.Packing.{Sender, page_of, page_start, image, place, HasRoom}
use Rattle.pgn_hub.specs.Shape.{Shape}
use Rattle.pgn_hub.specs.Calls.{met_by, LooksTwice, IsFloor}
use Rattle.pgn_layout.specs.Batches.{IsPlaced}
use Rattle.pgn_words.specs.declared.view.View.{View}
use Rattle.pgn_words.specs.declared.view.Phase.TheVariants.{Open}
use Rattle.pgn_words.specs.declared.view.Look.TheVariants.{Second}
use Rattle.pgn_words.specs.Told.{head_known, stop_known, drawn}

-- who sends the transaction that a pass writes
abbrev pub writer_of : Known → Sender
writer_of k = record { db = k.db; xid = next_xid k.seen; pid = PID_BASE + k.session }

-- the pass has loaded the head and the oldest kept page, and has drawn a number for a transaction of these notifications
abbrev pub begun_view : List Note → ℕ → View → View
begun_view notes stop v = drawn notes (stop_known stop (head_known v))

-- more cells are stored past the head
abbrev pub stored_more : List (Option ℕ) → View → View
stored_more cells v = record v { pen = record v.pen { batch = v.pen.batch ++ cells } }

-- the first few of the transaction's notifications lie behind the journal, up to a place
pub record IsPlacing (v : View) (notes : List Note) (placed at : ℕ) : Type 0 where
  pub phase : v.phase ≡ Open
  pub notes_are : v.pen.notes ≡ notes
  pub valid : All IsNote notes
  pub fresh : v.pen.batch ≡ []
  pub lies : IsPlaced v.setup.format (writer_of v.known) (image v.setup.format v.known.seen) notes placed at v.pen.cells
  pub end : at ≡ length v.pen.cells
  pub room : HasRoom v.setup.format at
  pub low : at < 2 ^ 32
  pub within : at ≤ page_start (v.stop + v.setup.pages)

-- all of it but the cells up to the head, the look, and what it has loaded
abbrev pub placed_view : View → View → View
placed_view w v = record v { pen = record v.pen { cells = w.pen.cells; batch = w.pen.batch }; eye = w.eye; known = record v.known { advance = w.known.advance } }

-- of the pass a writer changes, as it places, the cells, the oldest kept page, the look and what its looks have met, of which it names more
pub record HasWritten (v w : View) : Type 0 where
  pub more : List (ℕ × ℕ)
  pub view : w ≡ record v {
    stop = w.stop;
    eye = w.eye;
    pen = record v.pen { cells = w.pen.cells; batch = w.pen.batch };
    known = record v.known { named = v.known.named ++ more; advance = w.known.advance };
  }

-- not all are placed, since no page is left: what the last advance found is named by this call, and no page from the floor on was freed
pub record IsHeldUp (z : Shape) (v w : View) (count placed at mark floor : ℕ) (holder : Option ℕ) : Type 0 where
  pub left : placed < count
  pub more : List (ℕ × ℕ)
  pub named_is : w.known.named ≡ v.known.named ++ more
  pub looked : LooksTwice z v.known.session v.known.mark w.known.advance
  pub floor_is : IsFloor (next_xid v.known.seen) (met_by w.known.advance) mark holder
  pub met : All (Contains more) (met_by w.known.advance)
  pub at_is : floor ≡ place z.format v.known.seen mark
  pub second : w.eye.look ≡ Second
  pub all : w.eye.looked ≡ length z.seats
  pub kept : page_of w.eye.target ≤ w.stop
  pub floor_kept : page_of floor ≤ w.stop
  pub no_page : w.stop + z.pages ≤ page_of at
