-- Proofs of the laws of a transaction that isn't finished, and of a journal that goes on.
use Rattle.std.proofs.Common.{◌≡◌, ℕ, ◌+◌, ◌-◌, true, false, cond, ◌==◌, List, [], ◌∷◌, ◌++◌, length, take, drop, Option, sym, ap, ◌∙◌, refl, subst, arith, append_assoc, add-zero}
use Rattle.std.proofs.lemmas.List.{append-nil, length-append, take-append-le}
use Rattle.std.proofs.lemmas.List.Elements.{All-take}
use Rattle.pgn_base.specs.declared.format.Format.{Format}
use Rattle.pgn_journal.specs.declared.tx.Tx.{Tx}
use Rattle.pgn_journal.specs.declared.tx.Fate.{Fate}
use Rattle.pgn_journal.specs.declared.tx.Fate.TheVariants.{Committed, Aborted}
use Rattle.pgn_journal.specs.Begins.{Begins}
use Rattle.pgn_journal.specs.Journal.{next_xid, IsQueued, xids_from}
use Rattle.pgn_journal.specs.Due.{due}
use Rattle.pgn_base.specs.Notes.{IsNote}
use Rattle.pgn_journal.specs.Packing.{sender_of, is_page_start, filler_cells, notes_cells, end_cells, tx_cells, image_from, image, place, put_all}
use Rattle.pgn_journal.specs.Pieces.{draft}
use Rattle.pgn_journal.specs.laws.Pieces.{FinishedAreWritten, OneMoreImage, DraftAtPageStart, FinishedAreDrafts, DraftsFinish, DraftsAreWritten, LongerAgrees, XidsGoOn}
use Rattle.pgn_journal.proofs.BeginsLaws.{begins-rest, begins-continued}
use Rattle.pgn_journal.proofs.DueLaws.{due-grows}
use Rattle.pgn_journal.proofs.PackingLemmas.{packed_notes, packed_tx, images_agree, places_agree, room_of_image}

-- what a finished transaction has queued is written, where its session and its database are in range
pub finished_are_written : FinishedAreWritten
finished_are_written tx finished some small session = record {
  queued_notes = All-take IsNote tx.queued tx.notes finished.valid;
  some_db = some;
  db_fits = small;
  session_fits = session;
}

-- what a draft has queued is written, where its notifications can be sent
pub drafts_are_written : DraftsAreWritten
drafts_are_written session db notes queued fate sent some small within = record {
  queued_notes = All-take IsNote queued notes sent;
  some_db = some;
  db_fits = small;
  session_fits = within;
}

-- the image of one transaction more
one_more : (format : Format) (seen : List Tx) (tx : Tx)
    → image format (seen ++ tx ∷ []) ≡ image format seen ++ tx_cells format (next_xid seen) (length (image format seen)) tx
unfolding image_from
one_more format seen tx = images_agree format seen (tx ∷ []) ∙ ap (λ cells. image format seen ++ cells) (append-nil (tx_cells format (next_xid seen) (length (image format seen)) tx))

-- the cells of a transaction, by its fate
cells_by_fate : (format : Format) (x at : ℕ) (tx : Tx) (fate : Fate) → tx.fate ≡ fate
    → tx_cells format x at tx ≡ notes_cells format (sender_of x tx) at (take tx.queued tx.notes) ++ end_cells format (sender_of x tx) fate (at + length (notes_cells format (sender_of x tx) at (take tx.queued tx.notes)))
unfolding tx_cells
cells_by_fate format x at tx fate e =
    let queued = notes_cells format (sender_of x tx) at (take tx.queued tx.notes) in
    ap (λ (f : Fate). queued ++ end_cells format (sender_of x tx) f (at + length queued)) e

-- the cells of a journal with one transaction more, by its notifications and its fate
pub one_more_image : OneMoreImage
unfolding end_cells
one_more_image = record {
  committed = λ format seen tx e.
      let at = length (image format seen) in
      let queued = notes_cells format (sender_of (next_xid seen) tx) at (take tx.queued tx.notes) in
      one_more format seen tx ∙ ap (λ cells. image format seen ++ cells) (cells_by_fate format (next_xid seen) at tx Committed e ∙ append-nil queued);
  aborted = λ format seen tx e.
      let at = length (image format seen) in
      let sender = sender_of (next_xid seen) tx in
      let queued = notes_cells format sender at (take tx.queued tx.notes) in
      let end : at + length queued ≡ put_all format at (take tx.queued tx.notes) = packed_notes format sender at (take tx.queued tx.notes) (room_of_image format seen) in
      let filled : ℕ → List (Option ℕ) = λ n. cond (is_page_start n) [] (filler_cells format sender n) in
      one_more format seen tx ∙ ap (λ cells. image format seen ++ cells) (cells_by_fate format (next_xid seen) at tx Aborted e ∙ ap (λ n. queued ++ filled n) end)
      ∙ sym (append_assoc (image format seen) queued (filled (put_all format at (take tx.queued tx.notes))));
  ends = λ format seen tx.
      let at = length (image format seen) in
      ap length (one_more format seen tx) ∙ length-append (image format seen) (tx_cells format (next_xid seen) at tx) ∙ packed_tx format (next_xid seen) at tx (room_of_image format seen);
}

-- whatever its fate, a draft that stops at a page's start has the same cells
pub draft_at_page_start : DraftAtPageStart
draft_at_page_start format seen session db notes queued starts =
    let at = length (image format seen) in
    let tx = draft session db notes queued Aborted in
    let sender = sender_of (next_xid seen) tx in
    let cells = notes_cells format sender at (take queued notes) in
    let end = put_all format at (take queued notes) in
    one_more_image.aborted format seen tx refl ∙ ap (λ b. image format seen ++ cells ++ cond b [] (filler_cells format sender end)) starts
    ∙ append-nil (image format seen ++ cells) ∙ sym (one_more_image.committed format seen (draft session db notes queued Committed) refl)

queued_all : (fate : Fate) (queued count : ℕ) → fate ≡ Committed → IsQueued fate queued count → queued ≡ count
queued_all Committed queued count e h = h
queued_all Aborted queued count e h = absurd (cc)

-- a finished transaction is a draft that has queued as many notifications as its fate says
pub finished_are_drafts : FinishedAreDrafts
finished_are_drafts = record {
  committed = λ tx finished e.
      ap (λ (q : ℕ). draft tx.session tx.db tx.notes q tx.fate) (queued_all tx.fate tx.queued (length tx.notes) e finished.queueing)
      ∙ ap (draft tx.session tx.db tx.notes (length tx.notes)) e;
  aborted = λ tx e. ap (draft tx.session tx.db tx.notes tx.queued) e;
}

-- a draft with as many notifications as its end asks for is finished
pub drafts_finish : DraftsFinish
drafts_finish session db notes queued fate some different sent queueing = record { some = some; valid = sent; different = different; queueing = queueing }

-- what stands in front of a journal's new part stays: places, cells, transactions, what is due
pub longer_agrees : LongerAgrees
longer_agrees = record {
  places = λ format xs ys x begins low.
      ap (λ (txs : List Tx). place format txs x) (begins-rest xs ys begins) ∙ places_agree format xs (drop (length xs) ys) x low;
  images = λ format xs ys begins.
      let rest = drop (length xs) ys in
      let more = image_from format (next_xid xs) (length (image format xs)) rest in
      subst (λ (cells : List (Option ℕ)). Begins (image format xs) cells) (sym (ap (image format) (begins-rest xs ys begins) ∙ images_agree format xs rest)) (begins-continued (image format xs) more);
  entries = λ xs ys m n begins low.
      ap (λ (txs : List Tx). drop (m - 3) (take (n - 3) txs)) (begins-rest xs ys begins) ∙ ap (drop (m - 3)) (take-append-le (n - 3) xs (drop (length xs) ys) (omega (arith, low)));
  dues = λ xs ys m n db channels begins low.
      ap (λ (txs : List Tx). due txs m n db channels) (begins-rest xs ys begins) ∙ due-grows xs (drop (length xs) ys) m n db channels low;
}

xids-append : (session x : ℕ) (xs ys : List Tx) → xids_from session x (xs ++ ys) ≡ xids_from session x xs ++ xids_from session (x + length xs) ys
xids-append session x [] ys = ap (λ n. xids_from session n ys) (sym (add-zero x))
xids-append session x (tx ∷ xs) ys =
    let count : (x + 1) + length xs ≡ x + length (tx ∷ xs) = omega arith in
    let rest = xids-append session (x + 1) xs ys ∙ ap (λ n. xids_from session (x + 1) xs ++ xids_from session n ys) count in
    let later = xids_from session (x + length (tx ∷ xs)) ys in
    let here = xids_from session (x + 1) xs in
    let whole = xids_from session (x + 1) (xs ++ ys) in
    elim (tx.session == session) as (λ b. cond b (x ∷ whole) whole ≡ cond b (x ∷ here) here ++ later) [
      | true ↦ ap (λ ns. x ∷ ns) rest
      | false ↦ rest
    ]

-- a session's numbers in two journals, one behind the other, are those in each of them
pub xids_go_on : XidsGoOn
xids_go_on = record {
  more = λ session xs ys. xids-append session 3 xs ys;
  one = λ session journal tx. xids-append session 3 journal (tx ∷ []);
}
