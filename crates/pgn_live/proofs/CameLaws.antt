-- Items by session, in lists that grow.
use Rattle.std.proofs.Common.{◌≡◌, ◌≢◌, ℕ, ◌==◌, Bool, true, false, cond, List, [], ◌∷◌, ◌++◌, flat_map, sym, refl, ap, ◌∙◌, append-nil}
use Rattle.std.proofs.lemmas.Bool.{ne_eqb}
use Rattle.std.proofs.lemmas.Grind.{flat_map-append}
use Rattle.pgn_model.specs.declared.item.Item.{Item}
use Rattle.pgn_outlet.specs.Cames.{what_of}
use Rattle.pgn_live.specs.Cames.{Came, items_in, items_of}

-- the items of a session in two parts, one after another
pub items_of-append : (n : ℕ) (xs ys : List Came) → items_of n (xs ++ ys) ≡ items_of n xs ++ items_of n ys
items_of-append n xs ys = flat_map-append (items_in n) xs ys

-- what another session recorded has none of its items
pub none_of_other : (n : ℕ) (came : Came) → came.session ≢ n → items_in n came ≡ []
none_of_other n came other = ap (λ b. cond b came.what []) (ne_eqb came.session n other)

-- one more at the end
pub items_of-pushed : (n : ℕ) (came : Came) (xs : List Came) → items_of n (xs ++ came ∷ []) ≡ items_of n xs ++ items_in n came
items_of-pushed n came xs = items_of-append n xs (came ∷ []) ∙ ap (λ (l : List Item). items_of n xs ++ l) (append-nil (items_in n came))

-- what was pushed for another session adds nothing to this one's items
pub pushed_other : (n : ℕ) (came : Came) (xs : List Came) → came.session ≢ n → items_of n (xs ++ came ∷ []) ≡ items_of n xs
pushed_other n came xs other = items_of-pushed n came xs ∙ ap (λ (l : List Item). items_of n xs ++ l) (none_of_other n came other) ∙ append-nil (items_of n xs)

-- the items of what was pushed together
abbrev same : List Item → List Item
same items = items

piece : (b : Bool) (items more : List Item) (rest : List (List Item)) → more ≡ flat_map same rest → cond b items [] ++ more ≡ flat_map same (cond b (items ∷ []) [] ++ rest)
piece true items more rest e = ap (λ (l : List Item). items ++ l) e
piece false items more rest e = e

pieces : (n : ℕ) (xs : List Came) → items_of n xs ≡ flat_map same (what_of n xs)
pieces n [] = refl
pieces n (x ∷ xs) = piece (x.session == n) x.what (items_of n xs) (what_of n xs) (pieces n xs)

-- who has the same pieces of a session has the same items
pub items_same : (n : ℕ) (xs ys : List Came) → what_of n xs ≡ what_of n ys → items_of n xs ≡ items_of n ys
items_same n xs ys e = pieces n xs ∙ ap (λ (ws : List (List Item)). flat_map same ws) e ∙ sym (pieces n ys)
