-- Items by session, in lists that grow.
use Rattle.std.proofs.Common.{◌≡◌, ◌≢◌, ℕ, cond, List, [], ◌∷◌, ◌++◌, sym, refl, ap, ◌∙◌, append_assoc, append-nil}
use Rattle.std.proofs.lemmas.Bool.{ne_eqb}
use Rattle.pgn_outlet.specs.declared.came.Came.{Came}
use Rattle.pgn_outlet.specs.Cames.{what_in, what_of}

module _ {T : Type 0} where
  -- what came of a session in two lists is what came in the first, and then in the second
  pub what_of-append : (n : ℕ) (xs ys : List (Came T)) → what_of n (xs ++ ys) ≡ what_of n xs ++ what_of n ys
  what_of-append n [] ys = refl
  what_of-append n (x ∷ xs) ys = ap (λ (l : List T). what_in n x ++ l) (what_of-append n xs ys) ∙ sym (append_assoc (what_in n x) (what_of n xs) (what_of n ys))

  -- what another session recorded has none of its items
  pub none_of_other : (n : ℕ) (came : Came T) → came.session ≢ n → what_in n came ≡ []
  none_of_other n came other = ap (λ b. cond b (came.what ∷ []) []) (ne_eqb came.session n other)

  -- one more at the end
  pub what_of-pushed : (n : ℕ) (came : Came T) (xs : List (Came T)) → what_of n (xs ++ came ∷ []) ≡ what_of n xs ++ what_in n came
  what_of-pushed n came xs = what_of-append n xs (came ∷ []) ∙ ap (λ (l : List T). what_of n xs ++ l) (append-nil (what_in n came))

  -- two lists with the same of a session have the same of it with one more behind both
  pub pushed_both : (n : ℕ) (came : Came T) (xs ys : List (Came T)) → what_of n xs ≡ what_of n ys → what_of n (xs ++ came ∷ []) ≡ what_of n (ys ++ came ∷ [])
  pushed_both n came xs ys same = what_of-pushed n came xs ∙ ap (λ (l : List T). l ++ what_in n came) same ∙ sym (what_of-pushed n came ys)

  -- what another session sends changes nothing of it
  pub pushed_other : (n : ℕ) (came : Came T) (xs : List (Came T)) → came.session ≢ n → what_of n (xs ++ came ∷ []) ≡ what_of n xs
  pushed_other n came xs other = what_of-pushed n came xs ∙ ap (λ (l : List T). what_of n xs ++ l) (none_of_other n came other) ∙ append-nil (what_of n xs)
