-- Cells that are stored past the head, one after another.
use Rattle.std.proofs.Common.{◌≡◌, ℕ, zero, suc, ◌+◌, ◌*◌, ◌/◌, ◌<◌, ◌≤◌, ◌==◌, false, cond, List, [], ◌∷◌, ◌++◌, length, take, drop, slice_get, Option, Some, unwrap_or, sym, ap, ◌∙◌, arith}
use Rattle.std.specs.Int.{w32, from_le_bytes}
use Rattle.std.proofs.lemmas.List.{append-nil, append_assoc, length-append, length-take, take_all}
use Rattle.std.proofs.Math.Seq.{take-suc}
use Rattle.std.proofs.lemmas.Option.{slice_get_within, get_or_from_slice_get}
use Rattle.std.proofs.lemmas.Bool.Decides.{nat_tests}
use Rattle.pgn_base.specs.declared.format.Format.{Format}
use Rattle.pgn_base.specs.declared.note.Note.{Note}
use Rattle.pgn_base.specs.declared.limits.TheConstants.{PID_BASE}
use Rattle.pgn_journal.specs.Journal.{next_xid}
use Rattle.pgn_hub.specs.declared.known.Known.{Known}
use Rattle.pgn_journal.specs.Bytes.{entry_length, spelled, filler, IsEntryLength}
use Rattle.pgn_journal.specs.Packing.{Sender, filled_cells, page_of, page_start, HasRoom}
use Rattle.pgn_journal.proofs.BytesLemmas.{length-spelled, length-filler}
use Rattle.pgn_layout.specs.declared.batch.Batch.{Batch}
use Rattle.pgn_layout.specs.Batches.{IsPlanned, entry_of, entries_of, batch_cells}
use Rattle.pgn_layout.proofs.BatchLaws.{batches_stay, fillers_take_rests}
use Rattle.pgn_journal.proofs.PackingLemmas.{least_within, length-filled_cells}
use Rattle.pgn_journal.proofs.PieceLaws.{cells_hold_numbers}
use Rattle.pgn_words.specs.declared.view.View.{View}
use Rattle.pgn_words.specs.Views.{stored_by}
use Rattle.pgn_words.specs.Told.{cell_stored}
use Rattle.pgn_wordhub.specs.Placing.{stored_more, writer_of}

-- how many cells are stored
pub stored_long : (v w : View) (cells : List (Option ℕ)) → w ≡ stored_more cells v → length (stored_by w) ≡ length (stored_by v) + length cells
stored_long v w cells e =
    ap (λ (u : View). length (stored_by u)) e ∙ ap length (sym (append_assoc v.pen.cells v.pen.batch cells)) ∙ length-append (v.pen.cells ++ v.pen.batch) cells

pub stored_on : (v w u : View) (xs ys : List (Option ℕ)) → w ≡ stored_more xs v → u ≡ stored_more ys w → u ≡ stored_more (xs ++ ys) v
stored_on v w u xs ys e f = f ∙ ap (stored_more ys) e ∙ ap (λ b. let y : View = record v { pen = record v.pen { batch = b } } in y) (append_assoc v.pen.batch xs ys)

-- the next cell of bytes
pub next_cell : (bytes : List ℕ) (k : ℕ) → k < length bytes / 4 → take (k + 1) (filled_cells bytes) ≡ take k (filled_cells bytes) ++ Some (from_le_bytes w32 (drop (4 * k) bytes)) ∷ []
next_cell bytes k below =
    let cells = filled_cells bytes in
    let d : Option ℕ = Some (from_le_bytes w32 (drop (4 * k) bytes)) in
    let is : slice_get cells k ≡ Some d = cells_hold_numbers bytes k below in
    let inside : k < length cells = slice_get_within cells k d is in
    let more : k + 1 ≡ suc k = omega arith in
    ap (λ (n : ℕ). take n cells) more ∙ take-suc cells k d inside ∙ ap (λ (y : Option ℕ). take k cells ++ y ∷ []) (get_or_from_slice_get cells k d d is)

-- with the next cell stored there is one more of a piece's cells
pub stores_next : (v w u : View) (bytes : List ℕ) (k x : ℕ) → w ≡ stored_more (take k (filled_cells bytes)) v → k < length bytes / 4 → x ≡ from_le_bytes w32 (drop (4 * k) bytes) → u ≡ cell_stored x w
    → u ≡ stored_more (take (k + 1) (filled_cells bytes)) v
stores_next v w u bytes k x e below value f =
    stored_on v w u (take k (filled_cells bytes)) (Some x ∷ []) e f ∙ ap (λ n. stored_more (take k (filled_cells bytes) ++ Some n ∷ []) v) value
    ∙ ap (λ cells. stored_more cells v) (sym (next_cell bytes k below))

-- once all its cells are stored, the piece is
pub stores_all : (v w : View) (bytes : List ℕ) (k : ℕ) → w ≡ stored_more (take k (filled_cells bytes)) v → length bytes / 4 ≤ k → w ≡ stored_more (filled_cells bytes) v
stores_all v w bytes k e past = e ∙ ap (λ cells. stored_more cells v) (take_all k (filled_cells bytes) (let all = length-filled_cells bytes in omega (arith, all, past)))

-- where the next cell lies
pub next_at : (v w : View) (bytes : List ℕ) (k at : ℕ) → w ≡ stored_more (take k (filled_cells bytes)) v → k < length bytes / 4 → at ≡ length (stored_by v) → at + k ≡ length (stored_by w)
next_at v w bytes k at e below is =
    let long = stored_long v w (take k (filled_cells bytes)) e in
    let all = length-filled_cells bytes in
    let part = length-take k (filled_cells bytes) in omega (arith, long, all, part, below, is)

-- the bytes of an entry, by what a writer says of itself
pub spelled_by : (format : Format) (w : Sender) (note : Note) (db xid pid : ℕ) → db ≡ w.db → xid ≡ w.xid → pid ≡ w.pid → spelled format note db xid pid ≡ spelled format note w.db w.xid w.pid
spelled_by format w note db xid pid a b c =
    ap (λ (n : ℕ). spelled format note n xid pid) a ∙ ap (λ (n : ℕ). spelled format note w.db n pid) b ∙ ap (λ (n : ℕ). spelled format note w.db w.xid n) c

-- the entry of a notification takes as many cells as its length says
pub entry_long : (format : Format) (sender : Sender) (note : Note) → length (entry_of format sender note) ≡ entry_length format note / 4
entry_long format sender note = length-filled_cells (spelled format note sender.db sender.xid sender.pid) ∙ ap (λ n. n / 4) (length-spelled format note sender.db sender.xid sender.pid)

-- each entry of a run stands within the run
pub entry_within : (format : Format) (sender : Sender) (run : List Note) (i : ℕ) (note : Note) → slice_get run i ≡ Some note
    → length (entries_of format sender (take i run)) + length (entry_of format sender note) ≤ length (entries_of format sender run)
entry_within format sender [] i note e = absurd (let inside = slice_get_within [] i note e in omega (arith, inside))
entry_within format sender (n ∷ run) zero note e =
    let same : n ≡ note = ap (λ (o : Option Note). unwrap_or o n) e in
    let all = length-append (entry_of format sender n) (entries_of format sender run) in
    let size = ap (λ (m : Note). length (entry_of format sender m)) same in omega (arith, all, size)
entry_within format sender (n ∷ run) (suc i) note e =
    let before = entry_within format sender run i note e in
    let part = length-append (entry_of format sender n) (entries_of format sender (take i run)) in
    let all = length-append (entry_of format sender n) (entries_of format sender run) in omega (arith, before, part, all)

-- the cells of a planned batch end on its page
pub batch_within : (format : Format) (sender : Sender) (at : ℕ) (notes : List Note) (batch : Batch) (end : ℕ) → HasRoom format at → IsPlanned format at notes batch → page_of at < end
    → at + length (batch_cells format sender notes batch) ≤ page_start end
batch_within format sender at notes batch end room planned below =
    let cells = batches_stay.cells format sender at notes batch room planned in
    let page = batches_stay.page format at notes batch planned in omega (arith, cells, page, below)

-- each entry of a planned batch ends before the pages do that are there
pub entries_within : (format : Format) (sender : Sender) (at : ℕ) (notes : List Note) (batch : Batch) (end i : ℕ) (note : Note) → HasRoom format at → IsPlanned format at notes batch → page_of at < end → slice_get (take batch.fits notes) i ≡ Some note
    → at + length (entries_of format sender (take i (take batch.fits notes))) + length (entry_of format sender note) ≤ page_start end
entries_within format sender at notes batch end i note room planned below e =
    let all = batch_within format sender at notes batch end room planned below in
    let entries = entries_of format sender (take batch.fits notes) in
    let filler = cond (batch.filler == 0) [] (filled_cells (filler format batch.filler sender.xid sender.pid)) in
    let size = length-append entries filler in
    let part = entry_within format sender (take batch.fits notes) i note e in omega (arith, all, size, part)

-- the filler of a batch stands behind its entries
pub filler_within : (format : Format) (sender : Sender) (at : ℕ) (notes : List Note) (batch : Batch) (end : ℕ) → HasRoom format at → IsPlanned format at notes batch → page_of at < end → 0 < batch.filler
    → (IsEntryLength format batch.filler) × (at + length (entries_of format sender (take batch.fits notes)) + batch.filler / 4 ≤ page_start end)
filler_within format sender at notes batch end room planned below some =
    let long = fillers_take_rests.long format at notes batch room planned some in
    let left = fillers_take_rests.stands format sender at notes batch planned some in
    let all = batch_within format sender at notes batch end room planned below in
    let entries = entries_of format sender (take batch.fits notes) in
    let least = long.least in
    let head = least_within format in
    let none : batch.filler == 0 ≡ false = grind (arith, nat_tests, some) in
    let size : length (batch_cells format sender notes batch) ≡ length entries + length (filled_cells (filler format batch.filler sender.xid sender.pid)) =
    ap (λ b. length (entries ++ cond b [] (filled_cells (filler format batch.filler sender.xid sender.pid)))) none ∙ length-append entries (filled_cells (filler format batch.filler sender.xid sender.pid)) in
    let cells = length-filled_cells (filler format batch.filler sender.xid sender.pid) in
    let bytes = length-filler format batch.filler sender.xid sender.pid (omega (arith, least, head.0)) in
    let quarter : length (filler format batch.filler sender.xid sender.pid) / 4 ≡ batch.filler / 4 = ap (λ n. n / 4) bytes in
    (long, omega (arith, all, size, cells, quarter))

-- the cells of a run with one entry more
entries_more : (format : Format) (sender : Sender) (run : List Note) (i : ℕ) (note : Note) → slice_get run i ≡ Some note
    → entries_of format sender (take (suc i) run) ≡ entries_of format sender (take i run) ++ entry_of format sender note
entries_more format sender [] i note e = absurd (let inside = slice_get_within [] i note e in omega (arith, inside))
entries_more format sender (n ∷ run) zero note e = append-nil (entry_of format sender n) ∙ ap (λ (o : Option Note). entry_of format sender (unwrap_or o n)) e
entries_more format sender (n ∷ run) (suc i) note e =
    ap (λ l. entry_of format sender n ++ l) (entries_more format sender run i note e) ∙ sym (append_assoc (entry_of format sender n) (entries_of format sender (take i run)) (entry_of format sender note))

-- a writer that has stored so many entries of a run, and then the next
pub entries_on : (format : Format) (v w x : View) (run : List Note) (i at next end : ℕ) (note : Note) → slice_get run i ≡ Some note → w ≡ stored_more (entries_of format (writer_of v.known) (take i run)) v
    → next ≡ at + length (entries_of format (writer_of v.known) (take i run)) → x ≡ stored_more (entry_of format (writer_of w.known) note) w → end ≡ next + length (entry_of format (writer_of w.known) note)
    → (x ≡ stored_more (entries_of format (writer_of v.known) (take (i + 1) run)) v) × (end ≡ at + length (entries_of format (writer_of v.known) (take (i + 1) run)))
entries_on format v w x run i at next end note there e is f ends =
    let by = writer_of v.known in
    let same : w.known ≡ v.known = ap (λ (u : View). u.known) e in
    let more = ap (λ (n : ℕ). entries_of format by (take n run)) (let next : i + 1 ≡ suc i = omega arith in next) ∙ entries_more format by run i note there in
    let all = ap length more ∙ length-append (entries_of format by (take i run)) (entry_of format by note) in
    let size = ap (λ (k : Known). length (entry_of format (writer_of k) note)) same in (
      stored_on v w x (entries_of format by (take i run)) (entry_of format by note) e (f ∙ ap (λ (k : Known). stored_more (entry_of format (writer_of k) note) w) same) ∙ ap (λ cells. stored_more cells v) (sym more),
      omega (arith, is, ends, all, size),
    )

-- where the next entry of a run lies, or what is behind the run
pub entries_end : (format : Format) (v w : View) (notes : List Note) (at next : ℕ) → w ≡ stored_more (entries_of format (writer_of v.known) notes) v → next ≡ at + length (entries_of format (writer_of v.known) notes) → at ≡ length (stored_by v)
    → next ≡ length (stored_by w)
entries_end format v w notes at next e is begins = let long = stored_long v w (entries_of format (writer_of v.known) notes) e in omega (arith, is, begins, long)

-- a batch is stored once its entries are, where it has no filler
pub batch_stored : (format : Format) (v w : View) (notes : List Note) (batch : Batch) (i : ℕ) → w ≡ stored_more (entries_of format (writer_of v.known) (take i (take batch.fits notes))) v → length (take batch.fits notes) ≤ i → batch.filler ≡ 0
    → w ≡ stored_more (batch_cells format (writer_of v.known) notes batch) v
batch_stored format v w notes batch i e past none =
    let by = writer_of v.known in
    let run = take batch.fits notes in
    let filler : ℕ → List (Option ℕ) = λ n. filled_cells (filler format n by.xid by.pid) in
    e ∙ ap (λ l. stored_more (entries_of format by l) v) (take_all i run past) ∙ ap (λ cells. stored_more cells v) (sym (append-nil (entries_of format by run)))
    ∙ ap (λ n. stored_more (entries_of format by run ++ cond (n == 0) [] (filler n)) v) (sym none)

-- and else once its filler is
pub batch_filled : (format : Format) (v w x : View) (notes : List Note) (batch : Batch) (i xid : ℕ) → w ≡ stored_more (entries_of format (writer_of v.known) (take i (take batch.fits notes))) v → length (take batch.fits notes) ≤ i → 0 < batch.filler
    → xid ≡ next_xid v.known.seen → x ≡ stored_more (filled_cells (filler format batch.filler xid (PID_BASE + w.known.session))) w → x ≡ stored_more (batch_cells format (writer_of v.known) notes batch) v
batch_filled format v w x notes batch i xid e past some number f =
    let by = writer_of v.known in
    let run = take batch.fits notes in
    let filler : ℕ → ℕ → List (Option ℕ) = λ n session. filled_cells (filler format batch.filler n (PID_BASE + session)) in
    let none : batch.filler == 0 ≡ false = grind (arith, nat_tests, some) in
    stored_on v w x (entries_of format by (take i run)) (filler xid w.known.session) e f ∙ ap (λ l. stored_more (entries_of format by l ++ filler xid w.known.session) v) (take_all i run past)
    ∙ ap (λ (u : View). stored_more (entries_of format by run ++ filler xid u.known.session) v) e ∙ ap (λ n. stored_more (entries_of format by run ++ filler n v.known.session) v) number
    ∙ ap (λ b. stored_more (entries_of format by run ++ cond b [] (filler by.xid v.known.session)) v) (sym none)
