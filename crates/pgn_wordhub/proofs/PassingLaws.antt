-- How a reader tells that an entry is on none of its channels.
use Rattle.std.proofs.Common.{◌≡◌, ◌≢◌, ℕ, zero, suc, ◌+◌, ◌*◌, ◌%◌, ◌<◌, ◌==◌, Bool, true, false, not, ◌||◌, cond, List, [], ◌∷◌, ◌++◌, length, sum, fold, drop, slice_get, Option, Some, All, sym, refl, ap, ◌∙◌, arith, bytes_eq, true≢false, append_assoc}
use Rattle.std.specs.Prelude.{Contains}
use Rattle.std.specs.Int.{w32, from_le_bytes, bit_at}
use Rattle.std.proofs.lemmas.Bool.Decides.{nat_tests}
use Rattle.std.proofs.lemmas.Slice.Eq.{bytes_eq-Decides}
use Rattle.std.proofs.lemmas.List.Elements.{All-head, All-tail}
use Rattle.std.proofs.lemmas.Nat.{le_bytes_4}
use Rattle.pgn_base.specs.Names.{has_name}
use Rattle.pgn_base.specs.Interest.{channel_bit}
use Rattle.pgn_base.specs.declared.format.Format.{Format}
use Rattle.pgn_base.specs.declared.format.Format.TheVariants.{One, Two}
use Rattle.pgn_base.specs.declared.note.Note.{Note}
use Rattle.pgn_journal.specs.Interest.{Covers}
use Rattle.pgn_journal.specs.Bytes.{header_bytes, four_bytes, header, spelled}
use Rattle.pgn_journal.specs.Packing.{Sender, cells_in, filled_cells}
use Rattle.pgn_journal.specs.Pieces.{Piece, AnEntry, piece_bytes}
use Rattle.pgn_journal.proofs.PackingLemmas.{four_below}
use Rattle.pgn_journal.proofs.PieceLaws.{piece_has_bytes, cells_hold_numbers}
use Rattle.pgn_wordhub.specs.Walks.{StandsAt, IsCell, sum_to_zero}
use Rattle.pgn_wordhub.proofs.WayLaws.{cell_of}

-- a byte that is not zero counts, and one that is zero ends the sum
pub counts : (byte : ℕ) (bytes : List ℕ) → byte ≢ 0 → sum_to_zero (byte ∷ bytes) ≡ byte + sum_to_zero bytes
counts byte bytes some = ap (λ b. cond b 0 (byte + sum_to_zero bytes)) (by_test (byte == 0) refl)
  where
    by_test : (b : Bool) → (byte == 0) ≡ b → (byte == 0) ≡ false
    by_test true e = absurd (some (grind (arith, nat_tests)))
    by_test false e = e

-- a sum that begins with a byte
sum_from : (a b : ℕ) (bytes : List ℕ) → fold ◌+◌ (a + b) bytes ≡ a + fold ◌+◌ b bytes
sum_from a b [] = refl
sum_from a b (byte ∷ bytes) =
    let same : a + b + byte ≡ a + (b + byte) = omega arith in
    ap (λ (n : ℕ). fold ◌+◌ n bytes) same ∙ sum_from a (b + byte) bytes

sum_more : (byte : ℕ) (bytes : List ℕ) → byte + sum bytes ≡ sum (byte ∷ bytes)
sum_more byte bytes =
    let same : byte + 0 ≡ 0 + byte = omega arith in
    sym (sum_from byte 0 bytes) ∙ ap (λ (n : ℕ). fold ◌+◌ n bytes) same

-- the sum of a text that has no zero byte, where one follows
sum_of_text : (text rest : List ℕ) → (Contains text 0 → ⊥) → sum_to_zero ((text ++ 0 ∷ []) ++ rest) ≡ sum text
sum_of_text [] rest none = refl
sum_of_text (byte ∷ text) rest none =
    counts byte ((text ++ 0 ∷ []) ++ rest) (λ is. none (0, omega arith, is))
    ∙ ap (λ n. byte + n) (sum_of_text text rest (λ there. let within = there.1 in none (suc there.0, omega (arith, within), there.2))) ∙ sum_more byte text

texts_sum : (channel payload pad : List ℕ) → (Contains channel 0 → ⊥) → sum_to_zero (((channel ++ 0 ∷ []) ++ payload) ++ pad) ≡ sum channel
texts_sum channel payload pad none = ap sum_to_zero (append_assoc (channel ++ 0 ∷ []) payload pad) ∙ sum_of_text channel (payload ++ pad) none

-- behind the head of an entry stands its channel
pub channel_sum : (format : Format) (note : Note) (sender : Sender) → (Contains note.channel 0 → ⊥) → sum_to_zero (drop (header_bytes format) (piece_bytes format (AnEntry note sender))) ≡ sum note.channel
unfolding spelled header
channel_sum One note sender none = texts_sum note.channel (note.payload ++ 0 ∷ []) _ none
channel_sum Two note sender none = texts_sum note.channel (note.payload ++ 0 ∷ []) _ none

-- where the channel begins, in cells and in bytes
pub head_whole : (format : Format) → 4 * cells_in (header_bytes format) ≡ header_bytes format
head_whole One = refl
head_whole Two = refl

-- from a cell's place on stand its four bytes, and then those from the next one's on
cell_bytes_at : (bytes : List ℕ) (k : ℕ) → 4 * k + 4 < length bytes + 1 → All (λ byte. byte < 256) bytes → four_bytes (from_le_bytes w32 (drop (4 * k) bytes)) ++ drop (4 * (k + 1)) bytes ≡ drop (4 * k) bytes
cell_bytes_at [] k within small = absurd (omega (arith, within))
cell_bytes_at (a ∷ []) k within small = absurd (omega (arith, within))
cell_bytes_at (a ∷ b ∷ []) k within small = absurd (omega (arith, within))
cell_bytes_at (a ∷ b ∷ c ∷ []) k within small = absurd (omega (arith, within))
cell_bytes_at (a ∷ b ∷ c ∷ d ∷ bytes) zero within small =
    let P : ℕ → Type 0 = λ byte. byte < 256 in
    let from_b = All-tail P a (b ∷ c ∷ d ∷ bytes) small in
    let from_c = All-tail P b (c ∷ d ∷ bytes) from_b in
    let from_d = All-tail P c (d ∷ bytes) from_c in
    let each = four_below a b c d (All-head P a (b ∷ c ∷ d ∷ bytes) small) (All-head P b (c ∷ d ∷ bytes) from_b) (All-head P c (d ∷ bytes) from_c) (All-head P d bytes from_d) in
    let four : four_bytes (from_le_bytes w32 (a ∷ b ∷ c ∷ d ∷ bytes)) ≡ a ∷ b ∷ c ∷ d ∷ [] = le_bytes_4 (a ∷ b ∷ c ∷ d ∷ []) (from_le_bytes w32 (a ∷ b ∷ c ∷ d ∷ bytes)) refl each refl in
    ap (λ (front : List ℕ). front ++ bytes) four
cell_bytes_at (a ∷ b ∷ c ∷ d ∷ bytes) (suc k) within small =
    let P : ℕ → Type 0 = λ byte. byte < 256 in
    let rest = All-tail P d bytes (All-tail P c (d ∷ bytes) (All-tail P b (c ∷ d ∷ bytes) (All-tail P a (b ∷ c ∷ d ∷ bytes) small))) in
    let here : 4 * suc k ≡ suc (suc (suc (suc (4 * k)))) = omega arith in
    let next : 4 * (suc k + 1) ≡ suc (suc (suc (suc (4 * (k + 1))))) = omega arith in
    ap (λ (n : ℕ). four_bytes (from_le_bytes w32 (drop n (a ∷ b ∷ c ∷ d ∷ bytes))) ++ drop (4 * (suc k + 1)) (a ∷ b ∷ c ∷ d ∷ bytes)) here
    ∙ ap (λ (n : ℕ). four_bytes (from_le_bytes w32 (drop (4 * k) bytes)) ++ drop n (a ∷ b ∷ c ∷ d ∷ bytes)) next
    ∙ cell_bytes_at bytes k (omega (arith, within)) rest ∙ ap (λ (n : ℕ). drop n (a ∷ b ∷ c ∷ d ∷ bytes)) (sym here)

-- a loaded cell of a piece is its next four bytes
pub cell_is : (format : Format) (cells : List (Option ℕ)) (at k x : ℕ) (piece : Piece) → StandsAt format cells at piece → 4 * k + 4 < length (piece_bytes format piece) + 1 → IsCell cells (at + k) x
    → four_bytes x ++ drop (4 * (k + 1)) (piece_bytes format piece) ≡ drop (4 * k) (piece_bytes format piece)
cell_is format cells at k x piece stands within is =
    let bytes = piece_bytes format piece in
    let n = from_le_bytes w32 (drop (4 * k) bytes) in
    let held : slice_get (filled_cells bytes) k ≡ Some (Some n) = cells_hold_numbers bytes k (omega (arith, within)) in
    let same : x ≡ n = is n (cell_of format cells at k n piece stands held) in
    ap (λ (m : ℕ). four_bytes m ++ drop (4 * (k + 1)) bytes) same ∙ cell_bytes_at bytes k within (piece_has_bytes.below format piece stands.readable)

-- what is left to sum at a cell of a piece, by that cell
pub left_at : (format : Format) (cells : List (Option ℕ)) (at k x : ℕ) (piece : Piece) → StandsAt format cells at piece → 4 * k + 4 < length (piece_bytes format piece) + 1 → IsCell cells (at + k) x
    → sum_to_zero (drop (4 * k) (piece_bytes format piece)) ≡ sum_to_zero (four_bytes x ++ drop (4 * (k + 1)) (piece_bytes format piece))
left_at format cells at k x piece stands within is = sym (ap sum_to_zero (cell_is format cells at k x piece stands within is))

-- what a cell with a zero byte adds is the last, and what another one adds is not
pub stops_with : (so_far left more bit : ℕ) → (so_far + left) % 64 ≡ bit → left ≡ more → (so_far + more) % 64 ≡ bit
stops_with so_far left more bit is same = ap (λ n. (so_far + n) % 64) (sym same) ∙ is

-- a sum goes on with what one more cell adds to it
pub goes_with : (so_far left more rest bit : ℕ) → (so_far + left) % 64 ≡ bit → left ≡ more + rest → ((so_far + more) % 64 + rest) % 64 ≡ bit
goes_with so_far left more rest bit is same = omega (arith, is, same)

-- a channel whose bit no channel of a set has is none of them
pub none_has : (word : ℕ) (channels : List (List ℕ)) (channel : List ℕ) → Covers word channels → (bit_at word (channel_bit channel) == 1) ≡ false → has_name channels channel ≡ false
none_has word [] channel covers none = refl
none_has word (first ∷ channels) channel covers none = by_first (bytes_eq channel first) refl (none_has word channels channel (All-tail has_bit first channels covers) none)
  where
    has_bit : List ℕ → Type 0
    has_bit c = bit_at word (channel_bit c) ≡ 1

    by_first : (b : Bool) → bytes_eq channel first ≡ b → has_name channels channel ≡ false → has_name (first ∷ channels) channel ≡ false
    by_first true e rest =
        let one : bit_at word (channel_bit channel) ≡ 1 = ap (λ (c : List ℕ). bit_at word (channel_bit c)) ((bytes_eq-Decides channel first).0 e) ∙ All-head has_bit first channels covers in
        let is : (bit_at word (channel_bit channel) == 1) ≡ true = grind (arith, nat_tests) in absurd (true≢false (sym is ∙ none))
    by_first false e rest = ap (λ (b : Bool). b || has_name channels channel) e ∙ rest

-- what is not so is false
pub not_true : (b : Bool) → not b ≡ true → b ≡ false
not_true true e = sym e
not_true false e = refl
