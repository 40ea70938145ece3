-- Cut names.
use Rattle.std.proofs.Common.{◌≡◌, ℕ, true, zero, suc, ◌+◌, ◌*◌, ◌<◌, ◌≤◌, inl, inr, List, [], ◌∷◌, map, length, take, drop, sym, ap, ◌∙◌, refl, subst, arith, IsUtf8, IsCharBoundary, length-take, length-append}
use Rattle.std.specs.Char.{to_ascii_lowercase}
use Rattle.std.specs.List.{repeat, list_all}
use Rattle.std.specs.Str.{str_to_ascii_lowercase}
use Rattle.std.proofs.lemmas.Bool.{cases_lt, cases_Bool, and_parts, eqb-true}
use Rattle.std.proofs.lemmas.Bool.Decides.{nat_tests}
use Rattle.std.proofs.lemmas.Str.{IsUtf8-take, IsCharBoundary-from_take}
use Rattle.std.proofs.Math.Seq.{take-length}
use Rattle.std.proofs.lemmas.List.{take-map}
use Rattle.pgn_language.specs.Grammar.{begins_character, cut}
use Rattle.pgn_language.specs.laws.Tokens.{IsLongestPrefix}
use Rattle.pgn_language.proofs.TokenLaws.{cut-longest}
use Rattle.pgn_command.specs.Statements.{is_folded}

-- a text is cut at the last character that begins early enough
pub cut-at : (n k : ℕ) (text : List ℕ) → IsUtf8 text → k ≤ n → IsCharBoundary text k → ((i : ℕ) → k < i → i ≤ n → IsCharBoundary text i → ⊥) → cut n text ≡ take k text
cut-at n k text u l b last =
    let part : List ℕ = cut n text in
    let longest : IsLongestPrefix n text part = cut-longest n text u in
    let within : length part ≤ length text = omega (arith, ap length longest.prefix, length-take (length part) text) in
    let low : k ≤ length part = longest.longest k l b.0 (IsUtf8-take text k u b) in
    let whole : IsUtf8 (take (length part) text) = subst (λ (x : List ℕ). IsUtf8 x) longest.prefix longest.whole in
    let same : length part ≡ k = elim (cases_lt k (length part)) [
      | inl m ↦ absurd (last (length part) m longest.short (IsCharBoundary-from_take text (length part) u within whole))
      | inr m ↦ omega arith
    ] in
    longest.prefix ∙ ap (λ (i : ℕ). take i text) same

-- a short text is not cut
pub cut-short : (n : ℕ) (text : List ℕ) → IsUtf8 text → length text ≤ n → cut n text ≡ text
cut-short n text u short =
    let longest : IsLongestPrefix n text (cut n text) = cut-longest n text u in
    let whole : IsUtf8 (take (length text) text) = subst (λ (x : List ℕ). IsUtf8 x) (sym (take-length text)) u in
    let low : length text ≤ length (cut n text) = longest.longest (length text) short (omega arith) whole in
    let within : length (cut n text) ≤ length text = omega (arith, ap length longest.prefix, length-take (length (cut n text)) text) in
    let same : length (cut n text) ≡ length text = omega arith in
    longest.prefix ∙ ap (λ (i : ℕ). take i text) same ∙ take-length text

lower_begins : (b : ℕ) (bytes : List ℕ) → begins_character (to_ascii_lowercase b ∷ bytes) ≡ begins_character (b ∷ bytes)
lower_begins b bytes = grind (arith, nat_tests)

begins_lower : (bytes : List ℕ) → begins_character (map to_ascii_lowercase bytes) ≡ begins_character bytes
begins_lower [] = refl
begins_lower (b ∷ bytes) = lower_begins b bytes

drop_lower : (n : ℕ) (bytes : List ℕ) → drop n (map to_ascii_lowercase bytes) ≡ map to_ascii_lowercase (drop n bytes)
drop_lower zero bytes = refl
drop_lower (suc n) [] = refl
drop_lower (suc n) (b ∷ bytes) = drop_lower n bytes

-- a folded text is cut where the text is
pub cut-folded : (n : ℕ) (text : List ℕ) → cut n (str_to_ascii_lowercase text) ≡ str_to_ascii_lowercase (cut n text)
unfolding cut
cut-folded zero text = refl
cut-folded (suc n) text =
    let same : begins_character (drop (suc n) (map to_ascii_lowercase text)) ≡ begins_character (drop (suc n) text) = ap begins_character (drop_lower (suc n) text) ∙ begins_lower (drop (suc n) text) in
    elim (cases_Bool (begins_character (drop (suc n) text))) [
      | inl e ↦ rw (same ∙ e, e, cut) (take-map to_ascii_lowercase (suc n) text)
      | inr e ↦ rw (same ∙ e, e, cut) (cut-folded n text)
    ]

-- a text whose bytes are all what they are folded to
pub folded-same : (text : List ℕ) → list_all is_folded text ≡ true → str_to_ascii_lowercase text ≡ text
folded-same [] e = refl
folded-same (b ∷ bytes) e =
    let parts = and_parts (is_folded b) (list_all is_folded bytes) e in
    ap (λ (c : ℕ). c ∷ map to_ascii_lowercase bytes) (eqb-true (to_ascii_lowercase b) b parts.0) ∙ ap (λ (cs : List ℕ). b ∷ cs) (folded-same bytes parts.1)

sum : (n m : ℕ) → m + n * m ≡ suc n * m
sum n m = grind (arith)

-- a repeated text is measured without being built
pub length-repeated : (n : ℕ) (text : List ℕ) → length (repeat n text) ≡ n * length text
length-repeated zero text = omega arith
length-repeated (suc n) text = let rest : length (repeat n text) ≡ n * length text = length-repeated n text in length-append text (repeat n text) ∙ ap (λ (k : ℕ). length text + k) rest ∙ sum n (length text)
