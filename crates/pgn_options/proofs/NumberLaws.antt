-- A word that is a number is what `clap` takes as one.
use Rattle.std.proofs.Common.{◌≡◌, ◌∙◌, ℕ, ◌≤◌, ◌&&◌, ◌||◌, Bool, true, false, cond, List, [], ◌∷◌, length, Option, Some, None, is_some, refl, ap, arith}
use Rattle.std.specs.Prelude.{nat_le, nat_lt}
use Rattle.std.proofs.lemmas.Bool.Decides.{nat_tests}
use Rattle.std.specs.Str.Parse.{digits_value}
use Rattle.clap.specs.Kinds.{Kinds, or_else, value_kinds}
use Rattle.clap.specs.ValueTests.{accepts}
use Rattle.clap.specs.declared.error.kind.ErrorKind.TheVariants.{ValueValidation}
use Rattle.clap.specs.declared.builder.value_parser.ValueParser.TheVariants.{Unsigned}
use Rattle.pgn_options.specs.Words.{number_in}

-- the same tests, one of which follows from the last
tests : (a b c d : Bool) (n : ℕ) → (d ≡ true → b ≡ true) → (a && (b && (c && d))) ≡ is_some (cond (a && (c && d)) (Some n) None)
tests false b c d n h = refl
tests true true true true n h = refl
tests true true true false n h = refl
tests true true false d n h = refl
tests true false c true n h = absurd (let bad : false ≡ true = h refl in cc)
tests true false true false n h = refl
tests true false false false n h = refl

fits : (n most : ℕ) → most ≤ 18446744073709551615 → nat_le n most ≡ true → nat_lt n 18446744073709551616 ≡ true
fits n most h e = grind (arith, nat_tests)

-- a word is accepted as a number between two bounds where it is one
pub accepted : (least most : ℕ) (word : List ℕ) → most ≤ 18446744073709551615 → accepts false (Unsigned least most) word ≡ is_some (number_in least most word)
accepted least most word h = tests _ _ _ _ _ (fits _ most h)

-- a word that begins with a hyphen is no number
pub hyphen : (least most : ℕ) (bytes : List ℕ) → number_in least most (45 ∷ bytes) ≡ None
hyphen least most bytes = go (nat_lt 0 (length (45 ∷ bytes)))
  where
    go : (b : Bool) → cond ((b && false) && (nat_le least (digits_value 10 (45 ∷ bytes)) && nat_le (digits_value 10 (45 ∷ bytes)) most)) (Some (digits_value 10 (45 ∷ bytes))) None ≡ None
    go true = refl
    go false = refl

value-kinds-are : (least most : ℕ) (word : List ℕ) (o : Option ℕ) → most ≤ 18446744073709551615 → number_in least most word ≡ o
    → value_kinds false (Unsigned least most) word ≡ cond (is_some o) [] (ValueValidation ∷ [])
value-kinds-are least most word o h e = ap (λ (b : Bool). cond b [] (ValueValidation ∷ [])) (accepted least most word h ∙ ap is_some e)

-- what is wrong with a value that is no number
pub refused : (least most : ℕ) (word : List ℕ) (kinds : Kinds) → most ≤ 18446744073709551615 → kinds ≡ or_else (value_kinds false (Unsigned least most) word) []
    → number_in least most word ≡ None → kinds ≡ [] → ⊥
refused least most word kinds h is e empty =
    let all : kinds ≡ ValueValidation ∷ [] = is ∙ ap (λ (k : Kinds). or_else k []) (value-kinds-are least most word None h e) in
    cc

-- nothing is wrong with a number
pub passed : (least most : ℕ) (word : List ℕ) (n : ℕ) (kinds : Kinds) → most ≤ 18446744073709551615 → kinds ≡ or_else (value_kinds false (Unsigned least most) word) []
    → number_in least most word ≡ Some n → kinds ≡ []
passed least most word n kinds h is e = is ∙ ap (λ (k : Kinds). or_else k []) (value-kinds-are least most word (Some n) h e)

-- a choice on what is true anyhow is the first
pub either : {A : Type 0} (b : Bool) (x y : A) → cond (b || true) x y ≡ x
either true x y = refl
either false x y = refl
