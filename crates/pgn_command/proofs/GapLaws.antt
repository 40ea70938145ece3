-- Blanks and comments between tokens.
use Rattle.std.proofs.Common.{◌≡◌, ℕ, suc, ◌+◌, ◌<◌, ◌≤◌, Bool, true, false, cond, ◌==◌, inl, inr, List, [], ◌∷◌, ◌++◌, take, drop, length, sym, ap, ◌∙◌, refl, subst, arith, IsUtf8, IsCharBoundary}
use Rattle.std.specs.List.{prefix_len, list_all}
use Rattle.std.proofs.lemmas.Bool.{cases_Bool, and_parts}
use Rattle.std.proofs.lemmas.List.{take-append-drop, drop-drop, length-take-le, length-drop}
use Rattle.std.proofs.lemmas.Bool.Decides.{nat_tests}
use Rattle.std.proofs.lemmas.Str.{IsUtf8-drop, IsCharBoundary-start, IsCharBoundary-after_ascii, IsCharBoundary-from_rest, IsCharBoundary-before_ascii, IsCharBoundary-end}
use Rattle.pgn_language.specs.Tokens.{Token, tokens_from, Kind, ABlank, AComment, AWord, ANumber, ASign, AQuoted, ALiteral, ANothing, kind, Front, Blank, Comment, OneToken, NoToken, front, is_blank, begins_comment, begins_word, goes_on_word, is_sign, Wrong}
use Rattle.pgn_language.specs.laws.Tokens.{NoneFollows}
use Rattle.std.specs.Char.{is_ascii_digit}

-- the first bytes that pass a test
pub front-passes : (test : ℕ → Bool) (b : ℕ) (bytes : List ℕ) → test b ≡ true → prefix_len test (b ∷ bytes) ≡ suc (prefix_len test bytes)
front-passes test b bytes e = let p : prefix_len test (b ∷ bytes) ≡ 1 + prefix_len test bytes = rw e refl in omega (arith, p)

-- no byte is in front where the first fails the test
pub front-fails : (test : ℕ → Bool) (b : ℕ) (bytes : List ℕ) → test b ≡ false → prefix_len test (b ∷ bytes) ≡ 0
front-fails test b bytes e = rw e refl

-- behind the first bytes that pass a test stands none that passes it
pub front-ends : (test : ℕ → Bool) (bytes : List ℕ) → NoneFollows test (drop (prefix_len test bytes) bytes)
front-ends test [] = tt
front-ends test (b ∷ bytes) = elim (cases_Bool (test b)) [
  | inl e ↦ subst (λ (n : ℕ). NoneFollows test (drop n (b ∷ bytes))) (sym (front-passes test b bytes e)) (front-ends test bytes)
  | inr e ↦ subst (λ (n : ℕ). NoneFollows test (drop n (b ∷ bytes))) (sym (front-fails test b bytes e)) e
]

-- they are no more than all bytes
pub front-bound : (test : ℕ → Bool) (bytes : List ℕ) → prefix_len test bytes ≤ length bytes
front-bound test [] = omega arith
front-bound test (b ∷ bytes) = elim (cases_Bool (test b)) [
  | inl e ↦ let p : prefix_len test bytes ≤ length bytes = front-bound test bytes in omega (arith, front-passes test b bytes e, p)
  | inr e ↦ omega (arith, front-fails test b bytes e)
]

front-all : (test : ℕ → Bool) (some more : List ℕ) → list_all test some ≡ true → prefix_len test (some ++ more) ≡ length some + prefix_len test more
front-all test [] more h = omega arith
front-all test (b ∷ some) more h =
    let parts : (test b ≡ true) × (list_all test some ≡ true) = and_parts (test b) (list_all test some) h in
    let rest : prefix_len test (some ++ more) ≡ length some + prefix_len test more = front-all test some more parts.1 in
    omega (arith, front-passes test b (some ++ more) parts.0, rest)

-- a group of bytes that all pass it
pub front-group : (test : ℕ → Bool) (bytes : List ℕ) (end n : ℕ) → end + n ≤ length bytes → list_all test (take n (drop end bytes)) ≡ true → prefix_len test (drop end bytes) ≡ n + prefix_len test (drop (end + n) bytes)
front-group test bytes end n l h =
    let group : List ℕ = take n (drop end bytes) in
    let long : length group ≡ n = length-take-le n (drop end bytes) (omega (arith, length-drop end bytes)) in
    let split : drop end bytes ≡ group ++ drop (end + n) bytes = sym (take-append-drop n (drop end bytes)) ∙ ap (λ (r : List ℕ). group ++ r) (drop-drop n end bytes) in
    ap (prefix_len test) split ∙ front-all test group (drop (end + n) bytes) h ∙ ap (λ (k : ℕ). k + prefix_len test (drop (end + n) bytes)) long

-- what stands at the front decides the tokens
abbrev pub after_front : ℕ → List ℕ → Front → List Token
after_front at bytes f = elim f [
  | Blank ↦ tokens_from (at + 1) 0 bytes
  | Comment ↦ []
  | OneToken lexeme more ↦ record { lexeme = lexeme; at = at } ∷ tokens_from (at + 1) more bytes
  | NoToken ↦ record { lexeme = Wrong; at = at } ∷ []
]

-- the kind of the first byte decides the tokens
pub of_kind : (at b : ℕ) (bytes : List ℕ) (k : Kind) → k ≡ kind b bytes → tokens_from at 0 (b ∷ bytes) ≡ after_front at bytes (front k b bytes)
of_kind at b bytes k e = ap (λ (x : Kind). after_front at bytes (front x b bytes)) (sym e)

kind_blank : (b : ℕ) (bytes : List ℕ) → is_blank b ≡ true → ABlank ≡ kind b bytes
kind_blank b bytes h = sym (ap (λ t. cond t ABlank (cond (begins_comment b bytes) AComment (cond (begins_word b) AWord (cond (is_ascii_digit b) ANumber (cond (is_sign b) ASign (cond (b == 34) AQuoted (cond (b == 39) ALiteral ANothing))))))) h)

one_blank : (at b : ℕ) (bytes : List ℕ) → is_blank b ≡ true → tokens_from at 0 (b ∷ bytes) ≡ tokens_from (at + 1) 0 bytes
one_blank at b bytes h = of_kind at b bytes ABlank (kind_blank b bytes h)

-- blanks before a token are nothing
pub past-blanks : (at : ℕ) (bytes : List ℕ) → tokens_from at 0 bytes ≡ tokens_from (at + prefix_len is_blank bytes) 0 (drop (prefix_len is_blank bytes) bytes)
past-blanks at [] = refl
past-blanks at (b ∷ bytes) = elim (cases_Bool (is_blank b)) [
  | inl e ↦
      let n : prefix_len is_blank (b ∷ bytes) ≡ suc (prefix_len is_blank bytes) = front-passes is_blank b bytes e in
      one_blank at b bytes e ∙ past-blanks (at + 1) bytes
      ∙ ap (λ (k : ℕ). tokens_from k 0 (drop (prefix_len is_blank bytes) bytes)) (omega (arith, n))
      ∙ ap (λ (k : ℕ). tokens_from (at + prefix_len is_blank (b ∷ bytes)) 0 (drop k (b ∷ bytes))) (sym n)
  | inr e ↦
      let n : prefix_len is_blank (b ∷ bytes) ≡ 0 = front-fails is_blank b bytes e in
      ap (λ (k : ℕ). tokens_from k 0 (b ∷ bytes)) (omega (arith, n)) ∙ ap (λ (k : ℕ). tokens_from (at + prefix_len is_blank (b ∷ bytes)) 0 (drop k (b ∷ bytes))) (sym n)
]

blank_ascii : (b : ℕ) → is_blank b ≡ true → b < 128
blank_ascii b h = grind (arith, nat_tests)

-- after bytes that pass a test which only ASCII bytes pass, a character begins
pub ascii-boundary : (test : ℕ → Bool) → ((b : ℕ) → test b ≡ true → b < 128) → (bytes : List ℕ) → IsUtf8 bytes → IsCharBoundary bytes (prefix_len test bytes)
ascii-boundary test ascii [] u = IsCharBoundary-start [] u
ascii-boundary test ascii (b ∷ bytes) u = elim (cases_Bool (test b)) [
  | inl e ↦
      let n : prefix_len test (b ∷ bytes) ≡ 1 + prefix_len test bytes = omega (arith, front-passes test b bytes e) in
      let one : IsCharBoundary (b ∷ bytes) (0 + 1) = IsCharBoundary-after_ascii (b ∷ bytes) 0 u (omega arith) (ascii b e) in
      let rest : IsUtf8 bytes = IsUtf8-drop (b ∷ bytes) 1 u one in
      subst (λ (k : ℕ). IsCharBoundary (b ∷ bytes) k) (sym n) (IsCharBoundary-from_rest (b ∷ bytes) 1 (prefix_len test bytes) (omega arith) (ascii-boundary test ascii bytes rest))
  | inr e ↦ subst (λ (k : ℕ). IsCharBoundary (b ∷ bytes) k) (sym (front-fails test b bytes e)) (IsCharBoundary-start (b ∷ bytes) u)
]

-- behind the blanks at the front a character begins
pub blanks-boundary : (bytes : List ℕ) → IsUtf8 bytes → IsCharBoundary bytes (prefix_len is_blank bytes)
blanks-boundary bytes u = ascii-boundary is_blank blank_ascii bytes u

digit_ascii : (b : ℕ) → is_ascii_digit b ≡ true → b < 128
digit_ascii b h = grind (arith, nat_tests)

-- so it does behind the digits at the front
pub digits-boundary : (bytes : List ℕ) → IsUtf8 bytes → IsCharBoundary bytes (prefix_len is_ascii_digit bytes)
digits-boundary bytes u = ascii-boundary is_ascii_digit digit_ascii bytes u

-- a test that only ASCII bytes fail ends where a character begins
pub ends-boundary : (test : ℕ → Bool) → ((b : ℕ) → test b ≡ false → b < 128) → (bytes : List ℕ) → IsCharBoundary bytes (prefix_len test bytes)
ends-boundary test ascii [] = IsCharBoundary-end []
ends-boundary test ascii (b ∷ bytes) = elim (cases_Bool (test b)) [
  | inl e ↦
      let n : prefix_len test (b ∷ bytes) ≡ 1 + prefix_len test bytes = omega (arith, front-passes test b bytes e) in
      subst (λ (k : ℕ). IsCharBoundary (b ∷ bytes) k) (sym n) (IsCharBoundary-from_rest (b ∷ bytes) 1 (prefix_len test bytes) (omega arith) (ends-boundary test ascii bytes))
  | inr e ↦ subst (λ (k : ℕ). IsCharBoundary (b ∷ bytes) k) (sym (front-fails test b bytes e)) (IsCharBoundary-before_ascii (b ∷ bytes) 0 (omega arith) (ascii b e))
]

past_word_ascii : (b : ℕ) → goes_on_word b ≡ false → b < 128
past_word_ascii b h = grind (arith, nat_tests)

-- and behind a word
pub word-boundary : (bytes : List ℕ) → IsCharBoundary bytes (prefix_len goes_on_word bytes)
word-boundary bytes = ends-boundary goes_on_word past_word_ascii bytes

-- what begins a word goes on with it
pub begins-goes_on : (b : ℕ) → begins_word b ≡ true → goes_on_word b ≡ true
begins-goes_on b h = grind (arith, nat_tests)

-- a sign is an ASCII byte
pub sign-ascii : (b : ℕ) → is_sign b ≡ true → b < 128
sign-ascii b h = grind (arith, nat_tests)
