-- A writer that goes from batch to batch.
use Rattle.std.proofs.Common.{◌≡◌, ℕ, ◌+◌, ◌<◌, ◌≤◌, ◌^◌, true, List, [], ◌∷◌, ◌++◌, length, take, drop, Option, All, Contains, sym, refl, ap, ◌∙◌, subst, arith}
use Rattle.std.proofs.lemmas.List.{append-nil, append_assoc, drop_all}
use Rattle.std.proofs.lemmas.Bool.Decides.{nat_tests}
use Rattle.pgn_base.specs.declared.format.Format.{Format}
use Rattle.pgn_base.specs.declared.note.Note.{Note}
use Rattle.pgn_base.specs.Notes.{IsNote}
use Rattle.pgn_journal.specs.declared.tx.Tx.{Tx}
use Rattle.pgn_journal.specs.declared.tx.Fate.{Fate}
use Rattle.pgn_journal.specs.declared.tx.Fate.TheVariants.{Committed, Aborted}
use Rattle.pgn_journal.specs.Journal.{next_xid}
use Rattle.pgn_journal.specs.Packing.{page_of, next_page, is_page_start, image, place, put_all}
use Rattle.pgn_journal.specs.Pieces.{draft}
use Rattle.pgn_journal.proofs.PackingLemmas.{room_of_image}
use Rattle.pgn_journal.proofs.DraftLaws.{one_more_image}
use Rattle.pgn_layout.specs.declared.batch.Batch.{Batch}
use Rattle.pgn_layout.specs.Batches.{FirstIsTooLong, IsPlanned, padded_to, batch_cells, IsPlaced, AfterNotes, AfterFiller}
use Rattle.pgn_layout.proofs.BatchLaws.{batches_stay}
use Rattle.pgn_layout.proofs.PlacingLaws.{placing_stands, placing_goes_on, placed_is_draft}
use Rattle.pgn_words.specs.declared.view.View.{View}
use Rattle.pgn_words.specs.Views.{stored_by}
use Rattle.pgn_words.specs.Positions.{listens_at}
use Rattle.pgn_words.specs.Told.{MayShow, IsWrittenOf, head_stored}
use Rattle.std.proofs.lemmas.List.Elements.{All-weaker, Contains-append_right}
use Rattle.pgn_hub.specs.Shape.{Shape}
use Rattle.pgn_hub.specs.Calls.{met_by, LooksTwice, IsFloor}
use Rattle.pgn_wordhub.specs.Placing.{writer_of, stored_more, IsPlacing, HasWritten, IsHeldUp, placed_view}
use Rattle.pgn_wordhub.specs.Advancing.{advanced_view, HasAdvancedTo}
use Rattle.pgn_wordhub.proofs.StoringLaws.{stored_long}

-- some are left where the next one is too long
some_left : (format : Format) (end count : ℕ) (notes : List Note) → FirstIsTooLong format end (drop count notes) → length notes ≤ count → ⊥
some_left format end count notes past none = subst (λ (ns : List Note). FirstIsTooLong format end ns) (drop_all count notes none) past

left_of : (format : Format) (end count : ℕ) (notes : List Note) → count ≤ length notes → FirstIsTooLong format end (drop count notes) → count < length notes
left_of format end count notes within past = by_le (native.Mathlib.Decide.dec_le (length notes) count)
  where
    by_le : Dec (length notes ≤ count) → count < length notes
    by_le (yes none) = absurd (some_left format end count notes past none)
    by_le (no more) = omega (arith, more)

-- what is placed is the image of the journal and a draft, which is as far written as its fate says
pub record Drafted (format : Format) (seen : List Tx) (session db : ℕ) (notes : List Note) (count : ℕ) (cells : List (Option ℕ)) : Type 0 where
  pub fate : Fate
  pub image_is : image format (seen ++ draft session db notes count fate ∷ []) ≡ cells
  pub written : IsWrittenOf fate count (length notes)

pub drafted : (format : Format) (seen : List Tx) (session db : ℕ) (notes : List Note) (count at : ℕ) (cells : List (Option ℕ)) → All IsNote notes
    → IsPlaced format (record { db = db; xid = next_xid seen; pid = 1000 + session }) (image format seen) notes count at cells → Drafted format seen session db notes count cells
drafted format seen session db notes count at cells valid (AfterNotes stands) = record {
  fate = Committed;
  image_is = one_more_image.committed format seen (draft session db notes count Committed) refl ∙ sym stands.cells_are;
  written = stands.within;
}
drafted format seen session db notes count at cells valid (AfterFiller stands) = record {
  fate = Aborted;
  image_is = placed_is_draft.aborted format seen session db notes count at cells valid (AfterFiller stands) (starts (put_all format (length (image format seen)) (take count notes)) at stands.ends);
  written = left_of format (put_all format (length (image format seen)) (take count notes)) count notes stands.within stands.too_long;
}
  where
    starts : (end at : ℕ) → at ≡ next_page end → is_page_start at ≡ true
    starts end at is = grind (arith, nat_tests)

-- the head may move up to the end of a planned batch
pub may_show : (v w : View) (notes : List Note) (placed at : ℕ) (batch : Batch) → IsPlacing v notes placed at → IsPlanned v.setup.format at (drop placed notes) batch → page_of at < v.stop + v.setup.pages
    → w ≡ stored_more (batch_cells v.setup.format (writer_of v.known) (drop placed notes) batch) v → MayShow w batch.next
may_show v w notes placed at batch h planned below e =
    let cells = batch_cells v.setup.format (writer_of v.known) (drop placed notes) batch in
    let room = room_of_image v.setup.format v.known.seen in
    let next = placing_goes_on v.setup.format (writer_of v.known) (image v.setup.format v.known.seen) notes placed at v.pen.cells batch room h.valid h.lies planned in
    let d = drafted v.setup.format v.known.seen v.known.session v.known.db notes (placed + batch.fits) batch.next (padded_to batch.next (v.pen.cells ++ cells)) h.valid next in
    let W : View = stored_more cells v in
    let stored : stored_by W ≡ v.pen.cells ++ cells = ap (λ b. v.pen.cells ++ (b ++ cells)) h.fresh in
    let long = stored_long v W cells refl in
    let size : length (stored_by v) ≡ length v.pen.cells = ap (λ b. length (v.pen.cells ++ b)) h.fresh ∙ ap length (append-nil v.pen.cells) in
    let end = h.end in
    let stays = batches_stay.cells v.setup.format (writer_of v.known) at (drop placed notes) batch h.room planned in
    let page = batches_stay.page v.setup.format at (drop placed notes) batch planned in
    subst (λ (x : View). MayShow x batch.next) (sym e) (record {
      queued = placed + batch.fits;
      fate = d.fate;
      image_is = ap (λ (ns : List Note). image v.setup.format (v.known.seen ++ draft v.known.session v.known.db ns (placed + batch.fits) d.fate ∷ [])) h.notes_are ∙ d.image_is ∙ ap (padded_to batch.next) (sym stored);
      written = subst (λ (ns : List Note). IsWrittenOf d.fate (placed + batch.fits) (length ns)) (sym h.notes_are) d.written;
      up = omega (arith, long, size, end, stays);
      within = omega (arith, page, below);
    })

-- and the writer has then come further
pub places_on : (v w x : View) (notes : List Note) (placed at : ℕ) (batch : Batch) → IsPlacing v notes placed at → IsPlanned v.setup.format at (drop placed notes) batch → page_of at < v.stop + v.setup.pages
    → w ≡ stored_more (batch_cells v.setup.format (writer_of v.known) (drop placed notes) batch) v → x ≡ head_stored batch.next w → batch.next < 2 ^ 32 → IsPlacing x notes (placed + batch.fits) batch.next
places_on v w x notes placed at batch h planned below e f low =
    let cells = batch_cells v.setup.format (writer_of v.known) (drop placed notes) batch in
    let room = room_of_image v.setup.format v.known.seen in
    let next = placing_goes_on v.setup.format (writer_of v.known) (image v.setup.format v.known.seen) notes placed at v.pen.cells batch room h.valid h.lies planned in
    let W : View = stored_more cells v in
    let X : View = head_stored batch.next W in
    let stored : stored_by W ≡ v.pen.cells ++ cells = ap (λ b. v.pen.cells ++ (b ++ cells)) h.fresh in
    let lies : IsPlaced v.setup.format (writer_of v.known) (image v.setup.format v.known.seen) notes (placed + batch.fits) batch.next (padded_to batch.next (stored_by W)) =
    subst (λ (l : List (Option ℕ)). IsPlaced v.setup.format (writer_of v.known) (image v.setup.format v.known.seen) notes (placed + batch.fits) batch.next (padded_to batch.next l)) (sym stored) next in
    let page = batches_stay.page v.setup.format at (drop placed notes) batch planned in
    subst (λ (y : View). IsPlacing y notes (placed + batch.fits) batch.next) (sym (f ∙ ap (head_stored batch.next) e)) (record {
      phase = h.phase;
      notes_are = h.notes_are;
      valid = h.valid;
      fresh = refl;
      lies = lies;
      end = placing_stands.end v.setup.format (writer_of v.known) (image v.setup.format v.known.seen) notes (placed + batch.fits) batch.next (padded_to batch.next (stored_by W)) room lies;
      room = batches_stay.room v.setup.format at (drop placed notes) batch h.room planned;
      low = low;
      within = omega (arith, page, below);
    })

-- an advance that finds no page holds the writer up
pub held_up : (z : Shape) (v w x : View) (count placed at mark floor : ℕ) (holder : Option ℕ) → HasWritten v w → HasAdvancedTo z w x mark floor holder → placed < count → x.stop + z.pages ≤ page_of at
    → IsHeldUp z v x count placed at mark floor holder
held_up z v w x count placed at mark floor holder written adv left none =
    let seen : w.known.seen ≡ v.known.seen = ap (λ (u : View). u.known.seen) written.view in
    let session : w.known.session ≡ v.known.session = ap (λ (u : View). u.known.session) written.view in
    let own : w.known.mark ≡ v.known.mark = ap (λ (u : View). u.known.mark) written.view in
    let named : w.known.named ≡ v.known.named ++ written.more = ap (λ (u : View). u.known.named) written.view in
    record {
      left = left;
      more = written.more ++ adv.named;
      named_is = adv.named_is ∙ ap (λ l. l ++ adv.named) named ∙ append_assoc v.known.named written.more adv.named;
      looked = subst (λ (m : Option ℕ). LooksTwice z v.known.session m x.known.advance) own (subst (λ (n : ℕ). LooksTwice z n w.known.mark x.known.advance) session adv.looked);
      floor_is = subst (λ (txs : List Tx). IsFloor (next_xid txs) (met_by x.known.advance) mark holder) seen adv.floor;
      met = All-weaker (Contains adv.named) (Contains (written.more ++ adv.named)) (λ pair has. Contains-append_right written.more adv.named pair has) (met_by x.known.advance) adv.met;
      at_is = adv.at_is ∙ ap (λ (txs : List Tx). place z.format txs mark) seen;
      second = adv.second;
      all = adv.all;
      kept = adv.kept;
      floor_kept = adv.floor_kept;
      no_page = none;
    }

-- a writer that is a listener stays one
pub writes_on : (v w : View) → HasWritten v w → v.known.mark ≡ listens_at v.post → w.known.mark ≡ listens_at w.post
writes_on v w h listens = ap (λ (u : View). u.known.mark) h.view ∙ listens ∙ sym (ap (λ (u : View). listens_at u.post) h.view)

-- a writer that has placed nothing has changed nothing
pub nothing_written : (v : View) → HasWritten v v
nothing_written v = record { more = []; view = ap (λ (n : List (ℕ × ℕ)). let y : View = record v { known = record v.known { named = n } } in y) (sym (append-nil v.known.named)) }

-- what was written on, and on
pub then_written : (v w x : View) → HasWritten v w → HasWritten w x → HasWritten v x
then_written v w x h k = record {
  more = h.more ++ k.more;
  view = k.view
      ∙ ap (λ (u : View). let y : View = record u { stop = x.stop; eye = x.eye; pen = record u.pen { cells = x.pen.cells; batch = x.pen.batch }; known = record u.known { named = u.known.named ++ k.more; advance = x.known.advance } } in y) h.view
      ∙ ap (λ (n : List (ℕ × ℕ)). let y : View = record v { stop = x.stop; eye = x.eye; pen = record v.pen { cells = x.pen.cells; batch = x.pen.batch }; known = record v.known { named = n; advance = x.known.advance } } in y) (append_assoc v.known.named h.more k.more);
}

-- to place a batch is to write
pub batch_written : (x y : View) → y ≡ placed_view y x → HasWritten x y
batch_written x y is = record {
  more = [];
  view = is
      ∙ ap (λ (n : ℕ). let u : View = record x { stop = n; eye = y.eye; pen = record x.pen { cells = y.pen.cells; batch = y.pen.batch }; known = record x.known { advance = y.known.advance } } in u) (sym (ap (λ (u : View). u.stop) is))
      ∙ ap (λ (n : List (ℕ × ℕ)). let u : View = record x { stop = y.stop; eye = y.eye; pen = record x.pen { cells = y.pen.cells; batch = y.pen.batch }; known = record x.known { named = n; advance = y.known.advance } } in u) (sym (append-nil x.known.named));
}

-- an advance leaves what is placed
pub placing_on : (w x : View) (notes : List Note) (placed at : ℕ) → x ≡ advanced_view x w → w.stop ≤ x.stop → IsPlacing w notes placed at → IsPlacing x notes placed at
placing_on w x notes placed at is grows h =
    let within = h.within in
    subst (λ (u : View). IsPlacing u notes placed at) (sym is)
    (record { phase = h.phase; notes_are = h.notes_are; valid = h.valid; fresh = h.fresh; lies = h.lies; end = h.end; room = h.room; low = h.low; within = omega (arith, within, grows) })

-- to advance is to write, of which nothing is placed
pub advance_written : (z : Shape) (v w : View) (mark at : ℕ) (holder : Option ℕ) → w ≡ advanced_view w v → HasAdvancedTo z v w mark at holder → HasWritten v w
advance_written z v w mark at holder is adv = record {
  more = adv.named;
  view = is ∙ ap (λ (n : List (ℕ × ℕ)). let u : View = record v { stop = w.stop; eye = w.eye; known = record v.known { named = n; advance = w.known.advance } } in u) adv.named_is
      ∙ ap (λ (x : View). let u : View = record v { stop = w.stop; eye = w.eye; pen = record v.pen { cells = x.pen.cells; batch = x.pen.batch }; known = record v.known { named = v.known.named ++ adv.named; advance = w.known.advance } } in u) (sym is);
}
