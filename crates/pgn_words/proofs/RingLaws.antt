-- What the cells keep of a list of cells, after a store.
use Rattle.std.proofs.Common.{◌≡◌, ◌≢◌, ◌⊎◌, ℕ, zero, suc, ◌+◌, ◌-◌, ◌%◌, ◌^◌, ◌<◌, ◌≤◌, List, [], ◌∷◌, ◌++◌, length, get_or, set, replicate, Option, Some, None, slice_get, sym, refl, ap, ◌∙◌, ⊎_elim, inl, inr, arith, mod-lt, get_or-set_other, get_or-set_same}
use Rattle.std.proofs.lemmas.List.{length-append, length-replicate}
use Rattle.std.proofs.lemmas.Option.{none-some, same_Some, slice_get_within}
use native.Mathlib.Decide.{ℕ_discrete}
use Rattle.atomic_table.proofs.Lists.{one_turn}
use Rattle.pgn_layout.specs.Batches.{padded_to}
use Rattle.std.proofs.Math.Nat.{suc-mod, mod-eq_of_lt, mod_self}
use Rattle.pgn_hub.specs.Shape.{Shape}
use Rattle.pgn_words.specs.Words.{cells_at, room_of, word_count, cell_word, IsCellWord}
use Rattle.pgn_words.specs.Rule.{Keeps}

-- an item of a list that is one item longer
pub at_end : {A : Type 0} (l : List A) (a b : A) (i : ℕ) → slice_get (l ++ a ∷ []) i ≡ Some b → (slice_get l i ≡ Some b) ⊎ ((i ≡ length l) × (a ≡ b))
at_end [] a b zero e = inr (refl, same_Some a b e)
at_end [] a b (suc i) e = absurd (none-some b e)
at_end (x ∷ xs) a b zero e = inl e
at_end (x ∷ xs) a b (suc i) e = ⊎_elim (λ p. inl p) (λ t. inr (ap suc t.0, t.1)) (at_end xs a b i e)

-- a store at a place at or past a list's end changes nothing of the list, as far as the pages are not used again
pub keeps_below : (room from at x : ℕ) (log : List (Option ℕ)) (cells : List ℕ) → length log ≤ at → at < from + room → Keeps room from log cells → Keeps room from log (set cells (at % room) x)
keeps_below room from at x log cells past near kept i y low there =
    let within : i < length log = slice_get_within log i (Some y) there in
    let other : i % room ≢ at % room = λ same. let one = one_turn i at room (omega (arith, within, past)) (omega (arith, near, low)) same in omega (arith, one, within, past) in
    get_or-set_other cells (at % room) (i % room) x 0 other ∙ kept i y low there

-- a store at a list's end
pub keeps_more : (room from at x : ℕ) (log : List (Option ℕ)) (cells : List ℕ) → at ≡ length log → at < from + room → length cells ≡ room → 0 < room → Keeps room from log cells
    → Keeps room from (log ++ Some x ∷ []) (set cells (at % room) x)
keeps_more room from at x log cells here near long positive kept i y low there =
    ⊎_elim
    (λ before. keeps_below room from at x log cells (omega (arith, here)) near kept i y low before)
    (λ t.
    let place : i ≡ at = t.0 ∙ sym here in
    let value : x ≡ y = same_Some x y t.1 in
    let within : at % room < length cells = let m : at % room < room = mod-lt at positive in omega (arith, m, long) in
    ap (λ n. get_or (set cells (at % room) x) (n % room) 0) place ∙ get_or-set_same cells (at % room) x 0 within ∙ value)
    (at_end log (Some x) (Some y) i there)

-- empty cells hold nothing
empty_holds : (n i x : ℕ) → slice_get (replicate {A = Option ℕ} n None) i ≡ Some (Some x) → ⊥
empty_holds zero i x e = none-some (Some x) e
empty_holds (suc n) zero x e = none-some x (same_Some None (Some x) e)
empty_holds (suc n) (suc i) x e = empty_holds n i x e

padded_holds : (log : List (Option ℕ)) (n i x : ℕ) → slice_get (log ++ replicate {A = Option ℕ} n None) i ≡ Some (Some x) → slice_get log i ≡ Some (Some x)
padded_holds [] n i x e = absurd (empty_holds n i x e)
padded_holds (y ∷ log) n zero x e = e
padded_holds (y ∷ log) n (suc i) x e = padded_holds log n i x e

-- a list that is padded is kept as it was
pub keeps_padded : (room from to : ℕ) (log : List (Option ℕ)) (cells : List ℕ) → Keeps room from log cells → Keeps room from (padded_to to log) cells
keeps_padded room from to log cells kept i x low there = kept i x low (padded_holds log (to - length log) i x there)

-- padded to a length that it does not exceed, a list has this length
pub length-padded : (to : ℕ) (log : List (Option ℕ)) → length log ≤ to → length (padded_to to log) ≡ to
length-padded to log up = omega (arith, length-append log (replicate {A = Option ℕ} (to - length log) None), length-replicate {A = Option ℕ} (to - length log) None)

-- numbers below a bound, after a store of one
pub small_set : (cells : List ℕ) (i x : ℕ) → i < length cells → x < 2 ^ 32 → ((k : ℕ) → get_or cells k 0 < 2 ^ 32) → (k : ℕ) → get_or (set cells i x) k 0 < 2 ^ 32
small_set cells i x within low all k = by_place (ℕ_discrete k i)
  where
    by_place : Dec (k ≡ i) → get_or (set cells i x) k 0 < 2 ^ 32
    by_place (yes e) = let same : get_or (set cells i x) k 0 ≡ x = ap (λ n. get_or (set cells i x) n 0) e ∙ get_or-set_same cells i x 0 within in omega (arith, same, low)
    by_place (no ne) = let same = get_or-set_other cells i k x 0 ne in let was = all k in omega (arith, same, was)

-- the number of the next cell's word: the next number, or that of the first cell's word where there is none
pub next_inside : (z : Shape) (at next : ℕ) → next ≡ cell_word z at + 1 → next < word_count z → next ≡ cell_word z (at + 1)
next_inside z at next is inside =
    let more : at + 1 ≡ suc at = omega arith in
    let turns = suc-mod at (room_of z) in
    let same : suc (at % room_of z) % room_of z ≡ suc (at % room_of z) = mod-eq_of_lt (omega (arith, is, inside)) in
    let there : (at + 1) % room_of z ≡ suc (at % room_of z) = ap (λ n. n % room_of z) more ∙ turns ∙ same in
    is ∙ omega (arith, there)

-- behind the last word of the ring comes its first
pub next_around : (z : Shape) (at : ℕ) → word_count z ≤ cell_word z at + 1 → cells_at z ≡ cell_word z (at + 1)
next_around z at past =
    let more : at + 1 ≡ suc at = omega arith in
    let turns = suc-mod at (room_of z) in
    let below : at % room_of z < room_of z = mod-lt at (omega arith) in
    let full : suc (at % room_of z) ≡ room_of z = omega (arith, past, below) in
    let there : (at + 1) % room_of z ≡ 0 = ap (λ n. n % room_of z) more ∙ turns ∙ ap (λ n. n % room_of z) full ∙ mod_self (room_of z) in
    omega (arith, there)

-- a cell's word is one of the words
pub word_within : (z : Shape) (word at : ℕ) → word ≡ cell_word z at → word < word_count z
word_within z word at is = let below : at % room_of z < room_of z = mod-lt at (omega arith) in omega (arith, is, below)

-- the number of a cell's word is that of the word of some cell
pub cell_there : (z : Shape) (word : ℕ) → IsCellWord z word → word ≡ cell_word z (word - cells_at z)
cell_there z word is =
    let from = is.from in
    let within = is.within in
    let same : (word - cells_at z) % room_of z ≡ word - cells_at z = mod-eq_of_lt (omega (arith, from, within)) in
    omega (arith, from, same)
