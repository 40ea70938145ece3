-- The forms of a word.
use Rattle.std.proofs.Common.{◌≡◌, inl, inr, ℕ, ◌==◌, false, [], ◌∷◌, None, refl, sym, subst, codes}
use Rattle.std.specs.Prelude.{take}
use Rattle.std.specs.Str.{bytes_eq}
use Rattle.std.proofs.lemmas.Bool.Decides.{eqb_tells}
use Rattle.clap.specs.Lexer.{long_of, short_of}
use Rattle.clap.specs.Walk.{Text}

-- what all words have that do not begin with two hyphens
pub record IsNoLong (w : Text) : Type 0 where
  pub front : bytes_eq (take 2 w) (codes "--") ≡ false
  pub not_dashes : bytes_eq w (codes "--") ≡ false
  pub no_long : long_of w ≡ None

-- no flag; one or more short flags; `--`; a long flag
pub data Form : Text → Type 0 where
  plain : (w : Text) → IsNoLong w → short_of w ≡ None → Form w
  short : (y : ℕ) (ys : Text) → (y == 45) ≡ false → Form (45 ∷ y ∷ ys)
  dashes : Form (45 ∷ 45 ∷ [])
  long : (z : ℕ) (zs : Text) → Form (45 ∷ 45 ∷ z ∷ zs)

-- no hyphen stands first
other : (x : ℕ) (xs : Text) → (x == 45) ≡ false → Form (x ∷ xs)
other x xs e = plain (x ∷ xs) (record { front = rw e refl; not_dashes = rw e refl; no_long = rw e refl }) (rw e refl)

-- two hyphens stand first
double : (ys : Text) → Form (45 ∷ 45 ∷ ys)
double [] = dashes
double (z ∷ zs) = long z zs

behind : (y : ℕ) (ys : Text) → Form (45 ∷ y ∷ ys)
behind y ys = elim (eqb_tells y 45) [
  | inl same ↦ subst (λ (n : ℕ). Form (45 ∷ n ∷ ys)) (sym same.1) (double ys)
  | inr differs ↦ short y ys differs.0
]

hyphened : (xs : Text) → Form (45 ∷ xs)
hyphened [] = plain (45 ∷ []) (record { front = refl; not_dashes = refl; no_long = refl }) refl
hyphened (y ∷ ys) = behind y ys

-- each word has one of the forms that a walk over words tells apart
pub form : (w : Text) → Form w
form [] = plain [] (record { front = refl; not_dashes = refl; no_long = refl }) refl
form (x ∷ xs) = elim (eqb_tells x 45) [
  | inl same ↦ subst (λ (n : ℕ). Form (n ∷ xs)) (sym same.1) (hyphened xs)
  | inr differs ↦ other x xs differs.0
]
