-- A body asks for something, and for one thing.
use Rattle.std.proofs.Common.{◌≡◌, ℕ, ◌⊎◌, Bool, true, false, ◌==◌, inl, inr, List, [], ◌∷◌, ◌++◌, length, get_or, sym, ap, ◌∙◌, refl, subst, arith, IsUtf8, Contains}
use Rattle.std.specs.Str.{is_utf8}
use Rattle.std.proofs.lemmas.Bool.{cases_Bool, eqb-true, eq-eqb, false≢true}
use Rattle.std.proofs.lemmas.List.{length-append, append_cancel_right, same_from_push}
use Rattle.std.proofs.lemmas.List.Elements.{Contains-append_cases, Contains-append_right}
use Rattle.std.proofs.lemmas.Str.{IsUtf8-from_is_utf8, is_utf8-from_IsUtf8}
use Rattle.pgn_language.specs.Grammar.{ReadsAs, reading}
use Rattle.pgn_language.proofs.GrammarLaws.{reading-computes, reads-computes}
use Rattle.pgn_requests.specs.Texts.{bare}
use Rattle.pgn_requests.specs.Reading as asked
use Rattle.pgn_requests.specs.Reading.{body_of, IsGarbled, request_of}
use Rattle.pgn_requests.specs.Laws.{EachHasRequest, OneRequest}

both : (b : Bool) → b ≡ true → b ≡ false → ⊥
both b e f = false≢true (sym f ∙ e)

nul_cons : (b : ℕ) (bytes : List ℕ) → (b == 0) ≡ false → (Contains bytes 0 → ⊥) → Contains (b ∷ bytes) 0 → ⊥
nul_cons b bytes e n c = elim (Contains-append_cases (b ∷ []) bytes 0 c) [
  | inl d ↦ let first : d.0 ≡ 0 = omega (arith, d.1) in both (b == 0) (eq-eqb b 0 (subst (λ (k : ℕ). get_or (b ∷ []) k 0 ≡ 0) first d.2)) e
  | inr d ↦ n d
]

-- a zero byte stands in a text, or none
nul_or : (text : List ℕ) → Contains text 0 ⊎ (Contains text 0 → ⊥)
nul_or [] = inr (λ c. absurd (omega (arith, c.1)))
nul_or (b ∷ bytes) = elim (cases_Bool (b == 0)) [
  | inl e ↦ inl (0, omega arith, eqb-true b 0 e)
  | inr e ↦ elim (nul_or bytes) [
    | inl c ↦ inl (Contains-append_right (b ∷ []) bytes 0 c)
    | inr n ↦ inr (nul_cons b bytes e n)
  ]
]

-- the last byte of some
record Ends (bytes : List ℕ) : Type 0 where
  front : List ℕ
  last : ℕ
  split : bytes ≡ front ++ last ∷ []

last_of : (x : ℕ) (xs : List ℕ) → Ends (x ∷ xs)
last_of x [] = record { front = []; last = x; split = refl }
last_of x (y ∷ ys) = let end = last_of y ys in record { front = x ∷ end.front; last = end.last; split = ap (λ (zs : List ℕ). x ∷ zs) end.split }

-- a body is that of a text without a zero byte, or garbled
record IsWhole (body : List ℕ) : Type 0 where
  text : List ℕ
  is : body ≡ body_of text
  no_nul : Contains text 0 → ⊥

whole_or : (body : List ℕ) → IsWhole body ⊎ IsGarbled body
whole_or [] = inr (λ text same n. absurd (omega (arith, ap length same, length-append text (0 ∷ []))))
whole_or (x ∷ xs) =
    let end = last_of x xs in
    elim (cases_Bool (end.last == 0)) [
      | inl e ↦ elim (nul_or end.front) [
        | inl c ↦ inr (λ text same n. n (subst (λ (t : List ℕ). Contains t 0) (same_from_push end.front text end.last 0 (sym end.split ∙ same)).0 c))
        | inr n ↦ inl (record { text = end.front; is = end.split ∙ ap (λ (b : ℕ). end.front ++ b ∷ []) (eqb-true end.last 0 e); no_nul = n })
      ]
      | inr e ↦ inr (λ text same n. both (end.last == 0) (eq-eqb end.last 0 (same_from_push end.front text end.last 0 (sym end.split ∙ same)).1) e)
    ]

-- each body asks for something
pub each_request : EachHasRequest
each_request body = elim (whole_or body) [
  | inr garbled ↦ (_, asked.RequestIs.Garbled garbled)
  | inl whole ↦ elim (cases_Bool (is_utf8 whole.text)) [
    | inl u ↦
        let reads : ReadsAs (bare whole.text) (reading (bare whole.text)) = (reading-computes (bare whole.text) (reading (bare whole.text))).1 refl in
        (request_of (bare whole.text) (reading (bare whole.text)), asked.RequestIs.Reads whole.text (reading (bare whole.text)) whole.is whole.no_nul (IsUtf8-from_is_utf8 whole.text u) reads)
    | inr u ↦ (_, asked.RequestIs.Encoded whole.text whole.is whole.no_nul (λ t. both (is_utf8 whole.text) (is_utf8-from_IsUtf8 whole.text t) u))
  ]
]

-- two texts of one body are the same
same_text : (body text other : List ℕ) → body ≡ body_of text → body ≡ body_of other → text ≡ other
same_text body text other e f = append_cancel_right text other (0 ∷ []) (sym e ∙ f)

-- and for one thing alone
pub one_request : OneRequest
one_request body _ _ (asked.RequestIs.Garbled g) (asked.RequestIs.Garbled h) = refl
one_request body _ _ (asked.RequestIs.Garbled g) (asked.RequestIs.Encoded text e n u) = absurd (g text e n)
one_request body _ _ (asked.RequestIs.Garbled g) (asked.RequestIs.Reads text command e n u r) = absurd (g text e n)
one_request body _ _ (asked.RequestIs.Encoded text e n u) (asked.RequestIs.Garbled g) = absurd (g text e n)
one_request body _ _ (asked.RequestIs.Encoded text e n u) (asked.RequestIs.Encoded other f m v) = refl
one_request body _ _ (asked.RequestIs.Encoded text e n u) (asked.RequestIs.Reads other command f m v r) = absurd (u (subst (λ (t : List ℕ). IsUtf8 t) (same_text body other text f e) v))
one_request body _ _ (asked.RequestIs.Reads text command e n u r) (asked.RequestIs.Garbled g) = absurd (g text e n)
one_request body _ _ (asked.RequestIs.Reads text command e n u r) (asked.RequestIs.Encoded other f m v) = absurd (v (subst (λ (t : List ℕ). IsUtf8 t) (same_text body text other e f) u))
one_request body _ _ (asked.RequestIs.Reads text command e n u r) (asked.RequestIs.Reads other second f m v s) =
    let texts : text ≡ other = same_text body text other e f in
    let commands : command ≡ second = sym (reads-computes (bare text) command r) ∙ ap (λ (t : List ℕ). reading (bare t)) texts ∙ reads-computes (bare other) second s in
    ap (λ (t : List ℕ). request_of (bare t) command) texts ∙ ap (request_of (bare other)) commands
