-- The bytes of UTF-8 are below 256.
use Rattle.std.proofs.Common.{◌≡◌, ℕ, ◌+◌, ◌/◌, ◌%◌, ◌<◌, Bool, true, false, cond, ltb, List, [], ◌∷◌, refl, subst, arith, ⊎_elim}
use Rattle.std.specs.Prelude.{All, IsUtf8, ◌&&◌}
use Rattle.std.specs.Str.{encode_utf8_all, all_scalars}
use Rattle.std.proofs.Math.Utf8.{encode, scalar, scalar_cases}
use Rattle.std.proofs.lemmas.List.Elements.{All-append, All-cons, All-replicate}
use Rattle.std.proofs.lemmas.Bool.Decides.{nat_tests}

abbrev pub AreAll : List ℕ → Type 0
AreAll xs = All (λ byte. byte < 256) xs

none_are : AreAll []
none_are = let P : ℕ → Type 0 = λ byte. byte < 256 in All-replicate P 0 0 (omega arith)

more_are : (x : ℕ) (xs : List ℕ) → x < 256 → AreAll xs → AreAll (x ∷ xs)
more_are x xs h rest = let P : ℕ → Type 0 = λ byte. byte < 256 in All-cons P x xs h rest

either : (b : Bool) (xs ys : List ℕ) → (b ≡ true → AreAll xs) → (b ≡ false → AreAll ys) → AreAll (cond b xs ys)
either true xs ys f g = f refl
either false xs ys f g = g refl

both : (x y : Bool) → x && y ≡ true → (x ≡ true) × (y ≡ true)
both true y e = (refl, e)
both false y e = (e, absurd (cc))

scalar_below : (c : ℕ) → scalar c ≡ true → c < 1114112
scalar_below c e = ⊎_elim (λ h. omega (arith, h)) (λ h. h.1) (scalar_cases c e)

under : (c n : ℕ) → ltb c n ≡ true → c < n
under c n e = grind (arith, nat_tests)

encode_are : (c : ℕ) → c < 1114112 → AreAll (encode c)
unfolding encode
encode_are c h =
    either (ltb c 128) (c ∷ []) (cond (ltb c 2048) ((192 + c / 64) ∷ (128 + c % 64) ∷ []) (cond (ltb c 65536) ((224 + c / 4096) ∷ (128 + c / 64 % 64) ∷ (128 + c % 64) ∷ []) ((240 + c / 262144) ∷ (128 + c / 4096 % 64) ∷ (128 + c / 64 % 64) ∷ (128 + c % 64) ∷ [])))
    (λ e. more_are c [] (let low = under c 128 e in omega (arith, low)) none_are)
    (λ _. either (ltb c 2048) ((192 + c / 64) ∷ (128 + c % 64) ∷ []) (cond (ltb c 65536) ((224 + c / 4096) ∷ (128 + c / 64 % 64) ∷ (128 + c % 64) ∷ []) ((240 + c / 262144) ∷ (128 + c / 4096 % 64) ∷ (128 + c / 64 % 64) ∷ (128 + c % 64) ∷ []))
    (λ e. more_are (192 + c / 64) ((128 + c % 64) ∷ []) (let low = under c 2048 e in omega (arith, low)) (more_are (128 + c % 64) [] (omega arith) none_are))
    (λ _. either (ltb c 65536) ((224 + c / 4096) ∷ (128 + c / 64 % 64) ∷ (128 + c % 64) ∷ []) ((240 + c / 262144) ∷ (128 + c / 4096 % 64) ∷ (128 + c / 64 % 64) ∷ (128 + c % 64) ∷ [])
    (λ e. more_are (224 + c / 4096) ((128 + c / 64 % 64) ∷ (128 + c % 64) ∷ []) (let low = under c 65536 e in omega (arith, low)) (more_are (128 + c / 64 % 64) ((128 + c % 64) ∷ []) (omega arith) (more_are (128 + c % 64) [] (omega arith) none_are)))
    (λ _. more_are (240 + c / 262144) ((128 + c / 4096 % 64) ∷ (128 + c / 64 % 64) ∷ (128 + c % 64) ∷ []) (omega arith) (more_are (128 + c / 4096 % 64) ((128 + c / 64 % 64) ∷ (128 + c % 64) ∷ []) (omega arith) (more_are (128 + c / 64 % 64) ((128 + c % 64) ∷ []) (omega arith) (more_are (128 + c % 64) [] (omega arith) none_are))))))

all_are : (cs : List ℕ) → all_scalars cs ≡ true → AreAll (encode_utf8_all cs)
all_are [] e = none_are
all_are (c ∷ cs) e =
    let parts = both (scalar c) (all_scalars cs) e in
    let P : ℕ → Type 0 = λ byte. byte < 256 in
    All-append P (encode c) (encode_utf8_all cs) (encode_are c (scalar_below c parts.0)) (all_are cs parts.1)

-- the bytes of a text are below 256
pub utf8_are : (bytes : List ℕ) → IsUtf8 bytes → AreAll bytes
utf8_are bytes h = subst AreAll h.1.1 (all_are h.0 h.1.0)
