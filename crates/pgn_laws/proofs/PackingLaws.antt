-- Proofs of the laws of where the entries of a journal lie.
use Rattle.std.proofs.Common.{◌≡◌, ℕ, ◌+◌, ◌-◌, ◌%◌, ◌<◌, Bool, true, false, cond, List, [], ◌∷◌, ◌++◌, length, take, drop, sym, ap, ◌∙◌, refl, arith, inl, inr}
use Rattle.std.specs.Prelude.{All}
use Rattle.std.proofs.lemmas.List.{take_at, drop_at, take-append-drop}
use Rattle.std.proofs.lemmas.Nat.{le_bytes_4}
use Rattle.std.specs.Int.{w32, from_le_bytes}
use Rattle.std.proofs.lemmas.Bool.{cases_lt}
use Rattle.std.proofs.lemmas.List.Elements.{All-head, All-tail}
use Rattle.std.proofs.lemmas.Grind.{common_steps}
use Rattle.pgn_journal.specs.declared.tx.Fate.{Fate}
use Rattle.pgn_journal.specs.declared.tx.Fate.TheVariants.{Aborted}
use Rattle.pgn_journal.specs.Bytes.{four_bytes, entry_length, spelled, filler}
use Rattle.pgn_journal.specs.Packing.{next_page, is_page_start, filled_cells, tx_cells, image_from, image, place, put_all, ended, after, bytes_of}
use Rattle.pgn_journal.specs.laws.Packing.{CellsGiveBytes, IsPacked, LeavesRoom, AbortedEnds, CellsOfEach, CellsApart}
use Rattle.pgn_journal.proofs.BytesLemmas.{length-spelled, length-filler, are_bytes}
use Rattle.pgn_journal.proofs.PackingLemmas.{least_within, whole_cells, entry_whole, packed_bytes, length-filler_cells, packed_note, room_put_all, packed_notes, packed_end, packed_tx, images_agree, room_place, place_grows, image_next, next_place, four_below}

-- transactions and notifications leave room behind them
pub leaves_room : LeavesRoom
leaves_room = record { at_start = room_place; after_notes = room_put_all }

-- each step of the arithmetic counts the cells of what it passes
pub is_packed : IsPacked
is_packed = record {
  of_bytes = packed_bytes;
  of_filler = length-filler_cells;
  of_note = packed_note;
  of_notes = packed_notes;
  of_end = packed_end;
  of_tx = packed_tx;
}

-- a cell is one of at most one transaction
pub cells_apart : CellsApart
cells_apart format journal x y cell p q = elim (cases_lt x y) as (λ _. x ≡ y) [
  | inl lt ↦ absurd (omega (arith, place_grows format journal (x + 1) y (omega (arith, lt)), p.before, q.from))
  | inr ge ↦ elim (cases_lt y x) as (λ _. x ≡ y) [
    | inl lt ↦ absurd (omega (arith, place_grows format journal (y + 1) x (omega (arith, lt)), q.before, p.from))
    | inr le ↦ omega (arith, ge, le)
  ]
]

-- between the places of a transaction and of the next one lie its cells
pub cells_of_each : CellsOfEach
unfolding place
cells_of_each format journal x tx h e =
    let next = take ((x + 1) - 3) journal in
    let rest = drop ((x + 1) - 3) journal in
    let more = image_from format (3 + length next) (length (image format next)) rest in
    let whole : image format journal ≡ image format next ++ more = ap (image format) (sym (take-append-drop ((x + 1) - 3) journal)) ∙ images_agree format next rest in
    let front : take (length (image format next)) (image format journal) ≡ image format (take (x - 3) journal) ++ tx_cells format x (place format journal x) tx
    = ap (take (length (image format next))) whole ∙ take_at (image format next) more (length (image format next)) refl ∙ image_next format journal x tx h e in
    ap (drop (length (image format (take (x - 3) journal)))) front ∙ drop_at (image format (take (x - 3) journal)) (tx_cells format x (place format journal x) tx) (length (image format (take (x - 3) journal))) refl

starts : (b : Bool) (at : ℕ) → is_page_start at ≡ b → is_page_start (cond b at (next_page at)) ≡ true
starts true at e = e
starts false at e = grind (arith, common_steps)

ended_starts : (at : ℕ) → is_page_start (ended Aborted at) ≡ true
unfolding ended
ended_starts at = starts (is_page_start at) at refl

-- behind an aborted transaction a page begins
pub aborted_ends : AbortedEnds
unfolding after
aborted_ends format journal x tx h e aborted =
    let at = put_all format (place format journal x) (take tx.queued tx.notes) in
    ap is_page_start (next_place format journal x tx h e ∙ ap (λ (fate : Fate). ended fate at) aborted) ∙ ended_starts at

filled_cells-give : (bytes : List ℕ) → length bytes % 4 ≡ 0 → All (λ byte. byte < 256) bytes → bytes_of (filled_cells bytes) ≡ bytes
unfolding filled_cells
filled_cells-give [] whole below = refl
filled_cells-give (a ∷ []) whole below = absurd (omega (arith, whole))
filled_cells-give (a ∷ b ∷ []) whole below = absurd (omega (arith, whole))
filled_cells-give (a ∷ b ∷ c ∷ []) whole below = absurd (omega (arith, whole))
filled_cells-give (a ∷ b ∷ c ∷ d ∷ bytes) whole below =
    let P : ℕ → Type 0 = λ n. n < 256 in
    let from_b = All-tail P a (b ∷ c ∷ d ∷ bytes) below in
    let from_c = All-tail P b (c ∷ d ∷ bytes) from_b in
    let from_d = All-tail P c (d ∷ bytes) from_c in
    let rest = All-tail P d bytes from_d in
    let each = four_below a b c d (All-head P a (b ∷ c ∷ d ∷ bytes) below) (All-head P b (c ∷ d ∷ bytes) from_b) (All-head P c (d ∷ bytes) from_c) (All-head P d bytes from_d) in
    let four : four_bytes (from_le_bytes w32 (a ∷ b ∷ c ∷ d ∷ [])) ≡ a ∷ b ∷ c ∷ d ∷ [] = le_bytes_4 (a ∷ b ∷ c ∷ d ∷ []) (from_le_bytes w32 (a ∷ b ∷ c ∷ d ∷ [])) refl each refl in
    let more : bytes_of (filled_cells bytes) ≡ bytes = filled_cells-give bytes (omega (arith, whole)) rest in
    ap (λ (front : List ℕ). front ++ bytes_of (filled_cells bytes)) four ∙ ap (λ (ys : List ℕ). a ∷ b ∷ c ∷ d ∷ ys) more

-- the bytes of an entry, read from its cells
pub cells_give_bytes : CellsGiveBytes
cells_give_bytes = record {
  of_bytes = filled_cells-give;
  of_entry = λ format note db xid pid h. filled_cells-give (spelled format note db xid pid)
      (omega (arith, length-spelled format note db xid pid, whole_cells format (entry_length format note) (entry_whole format note).0)) (are_bytes.of_entry format note db xid pid h);
  of_filler = λ format len xid pid h. filled_cells-give (filler format len xid pid)
      (omega (arith, length-filler format len xid pid (omega (arith, least_within format, h.least)), whole_cells format len h.whole)) (are_bytes.of_filler format len xid pid);
}
