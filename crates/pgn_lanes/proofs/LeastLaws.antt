-- The least of a list, by its parts and lane by lane.
use Rattle.std.proofs.Common.{◌≡◌, ℕ, ◌+◌, ◌≤◌, min, cond, ltb, Some, List, [], ◌∷◌, ◌++◌, length, take, drop, refl, sym, ap, ◌∙◌, arith}
use Rattle.std.specs.Simd.Lanes.{zip2, sel_l, chunk}
use Rattle.std.proofs.Math.Seq.{take-add}
use Rattle.std.proofs.lemmas.List.{take-append-drop, take_all}
use Rattle.std.proofs.Common.{length-drop, ◌-◌}
use Rattle.std.specs.Prelude.{slice_get}
use Rattle.std.proofs.lemmas.Bool.Decides.{nat_tests}
use Rattle.pgn_lanes.specs.Least.{lesser, plain_least, least_with}

-- what the least is taken with may come first or last
pub least_with-min : (a b : ℕ) (xs : List ℕ) → least_with (min a b) xs ≡ min a (least_with b xs)
least_with-min a b [] = refl
least_with-min a b (x ∷ xs) =
    let e : min (min a b) x ≡ min a (min b x) = omega arith in
    ap (λ m. least_with m xs) e ∙ least_with-min a (min b x) xs

-- the least of two lists is that of the second, beginning with that of the first
pub least_with-append : (m : ℕ) (xs ys : List ℕ) → least_with m (xs ++ ys) ≡ least_with (least_with m xs) ys
least_with-append m [] ys = refl
least_with-append m (x ∷ xs) ys = least_with-append (min m x) xs ys

-- the lesser of each two, and both lists one after the other, have one least
pub least_with-merged : (m : ℕ) (more lanes : List ℕ) → length more ≡ length lanes → least_with m (sel_l (zip2 ltb more lanes) more lanes) ≡ least_with (least_with m lanes) more
least_with-merged m [] [] h = refl
least_with-merged m [] (y ∷ ys) h = absurd (omega arith)
least_with-merged m (x ∷ xs) [] h = absurd (omega arith)
least_with-merged m (x ∷ xs) (y ∷ ys) h =
    let one : cond (ltb x y) x y ≡ min x y = grind (arith, nat_tests) in
    let two : min m (min x y) ≡ min x (min m y) = omega arith in
    let three : min x (least_with (min m y) ys) ≡ min (least_with (min m y) ys) x = omega arith in
    ap (λ k. least_with (min m k) (sel_l (zip2 ltb xs ys) xs ys)) one ∙ ap (λ k. least_with k (sel_l (zip2 ltb xs ys) xs ys)) two
    ∙ least_with-merged (min x (min m y)) xs ys (omega arith)
    ∙ ap (λ k. least_with k xs) (least_with-min x (min m y) ys ∙ three)

-- one more block of words
pub least_with-block : (m n at : ℕ) (lanes words : List ℕ) → length lanes ≡ n → at + n ≤ length words → length (chunk at n words) ≡ n → least_with m lanes ≡ least_with m (take at words)
    → least_with m (sel_l (zip2 ltb (chunk at n words) lanes) (chunk at n words) lanes) ≡ least_with m (take (at + n) words)
least_with-block m n at lanes words long room loaded same =
    least_with-merged m (chunk at n words) lanes (loaded ∙ sym long)
    ∙ ap (λ k. least_with k (chunk at n words)) same
    ∙ sym (ap (least_with m) (take-add at n words) ∙ least_with-append m (take at words) (chunk at n words))

lesser_is : (x : ℕ) (xs : List ℕ) → lesser x (plain_least xs) ≡ least_with x xs
lesser_is x [] = refl
lesser_is x (y ∷ ys) = ap (min x) (lesser_is y ys) ∙ sym (least_with-min x y ys)

-- the least, taken with the first word as the start
pub plain_least-start : (x : ℕ) (xs : List ℕ) → plain_least (x ∷ xs) ≡ Some (least_with x (x ∷ xs))
plain_least-start x xs = let e : min x x ≡ x = omega arith in ap Some (lesser_is x xs ∙ ap (λ k. least_with k xs) (sym e))

-- the least of lanes that stand for a front of the words, and of the rest
pub plain_least-parts : (first : ℕ) (words lanes : List ℕ) (whole front result : ℕ) → Some first ≡ slice_get words 0 → least_with first lanes ≡ least_with first (take whole words)
    → front ≡ least_with first lanes → result ≡ least_with front (take (length words - whole) (drop whole words)) → Some result ≡ plain_least words
plain_least-parts first [] lanes whole front result h same f r = absurd (cc)
plain_least-parts first (x ∷ xs) lanes whole front result h same f r =
    let words = x ∷ xs in
    let is : first ≡ x = cc in
    let rest : take (length words - whole) (drop whole words) ≡ drop whole words = take_all (length words - whole) (drop whole words) (omega (arith, length-drop whole words)) in
    let whole_is : result ≡ least_with first words =
    r ∙ ap (least_with front) rest ∙ ap (λ k. least_with k (drop whole words)) (f ∙ same)
    ∙ sym (least_with-append first (take whole words) (drop whole words)) ∙ ap (least_with first) (take-append-drop whole words)
    in
    ap Some (whole_is ∙ ap (λ k. least_with k words) is) ∙ sym (plain_least-start x xs)
