-- Laws of a text without its comments.
use Rattle.std.proofs.Common.{◌≡◌, ℕ, zero, suc, ◌+◌, ◌-◌, ◌<◌, ◌≤◌, Bool, true, false, cond, ◌==◌, ◌||◌, ◌&&◌, inl, inr, List, [], ◌∷◌, ◌++◌, length, drop, get_or, sym, ap, ◌∙◌, refl, subst, arith, append_assoc, length-append, Contains, IsUtf8, IsCharBoundary, None, Some}
use Rattle.std.proofs.lemmas.Bool.{cases_Bool, eqb-true, or_parts, false≢true}
use Rattle.pgn_language.proofs.CleanTokens.{NoNul, nul-from, nul-none}
use Rattle.pgn_requests.specs.declared.mode.Mode.{Mode}
use Rattle.pgn_requests.specs.declared.mode.Mode.TheVariants.{Outside, Slash, Dash, Single, Double, Comment, Star, Open, Rest}
use Rattle.pgn_requests.specs.Texts.{is_tail, ends_line, entered, commented, left, next_mode, given, left_gives, mode_gives, end_gives, plain_from, plain}
use Rattle.std.specs.List.{prefix_len}
use Rattle.std.proofs.lemmas.Bool.Decides.{nat_tests}
use Rattle.std.proofs.lemmas.Str.{IsUtf8-drop, IsCharBoundary-start, IsCharBoundary-after_ascii, IsCharBoundary-from_rest}
use Rattle.memchr.specs.Find.{is_byte3, IsFirstByte, Nowhere, Passes}
use Rattle.pgn_statements.specs.Modes.{byte_before, is_break, is_calm}

-- the other of two
pub pick_no : {A : Type 0} (x : Bool) (one other : A) → x ≡ false → cond x one other ≡ other
pick_no true one other e = absurd (false≢true (sym e))
pick_no false one other e = refl

-- a byte after one that was held back, with which it begins no comment
pub slash-gives : (b : ℕ) → (b == 42) ≡ false → mode_gives Slash b ≡ 47 ∷ given b
slash-gives b e = pick_no (b == 42) [] (47 ∷ given b) e

-- a byte behind a `/` that begins no comment stands as outside
pub slash-next : (b : ℕ) → (b == 42) ≡ false → next_mode Slash b ≡ entered b
slash-next b e = pick_no (b == 42) (Comment 0) (entered b) e

-- a byte behind a `-` that begins no comment gives both
pub dash-gives : (b : ℕ) → (b == 45) ≡ false → mode_gives Dash b ≡ 45 ∷ given b
dash-gives b e = pick_no (b == 45) [] (45 ∷ given b) e

-- and stands as outside
pub dash-next : (b : ℕ) → (b == 45) ≡ false → next_mode Dash b ≡ entered b
dash-next b e = pick_no (b == 45) Rest (entered b) e

-- what is held back
abbrev pub held : Mode → List ℕ
held Slash = 47 ∷ []
held Dash = 45 ∷ []
held mode = []

-- a byte is one of those that lead somewhere, or another
pub record Other (b : ℕ) : Type 0 where
  pub feed : (b == 10) ≡ false
  pub slash : (b == 47) ≡ false
  pub dash : (b == 45) ≡ false
  pub single : (b == 39) ≡ false
  pub double : (b == 34) ≡ false
  pub star : (b == 42) ≡ false

by_byte : (P : ℕ → Type 0) (b : ℕ) → P 10 → P 47 → P 45 → P 39 → P 34 → P 42 → (Other b → P b) → P b
by_byte P b feed slash dash single double star other = elim (cases_Bool (b == 10)) [
  | inl e ↦ subst P (sym (eqb-true b 10 e)) feed
  | inr n1 ↦ elim (cases_Bool (b == 47)) [
    | inl e ↦ subst P (sym (eqb-true b 47 e)) slash
    | inr n2 ↦ elim (cases_Bool (b == 45)) [
      | inl e ↦ subst P (sym (eqb-true b 45 e)) dash
      | inr n3 ↦ elim (cases_Bool (b == 39)) [
        | inl e ↦ subst P (sym (eqb-true b 39 e)) single
        | inr n4 ↦ elim (cases_Bool (b == 34)) [
          | inl e ↦ subst P (sym (eqb-true b 34 e)) double
          | inr n5 ↦ elim (cases_Bool (b == 42)) [
            | inl e ↦ subst P (sym (eqb-true b 42 e)) star
            | inr n6 ↦ other (record { feed = n1; slash = n2; dash = n3; single = n4; double = n5; star = n6 })
          ]
        ]
      ]
    ]
  ]
]

-- what another byte gives, and where it leads
pub other-given : (b : ℕ) → Other b → given b ≡ b ∷ []
other-given b o = rw (o.feed, o.slash, o.dash) refl

-- such a byte outside begins nothing
pub other-entered : (b : ℕ) → Other b → entered b ≡ Outside
other-entered b o = rw (o.slash, o.dash, o.single, o.double) refl

-- such a byte in a comment ends none and begins none
pub other-commented : (depth b : ℕ) → Other b → commented depth b ≡ Comment depth
other-commented depth b o = rw (o.star, o.slash) refl

-- a byte before may have led here without a comment
abbrev Follows : Mode → ℕ → Type 0
Follows Outside before = Unit {0}
Follows Slash before = before ≡ 47
Follows Dash before = before ≡ 45
Follows Single before = Unit {0}
Follows Double before = Unit {0}
Follows mode before = ⊥

follows-entered : (b : ℕ) → Follows (entered b) b
follows-entered b = by_byte (λ x. Follows (entered x) x) b tt refl refl tt tt tt (λ o. rw (other-entered b o) tt)

-- a byte outside stays where it is no line feed
gives-entered : (b : ℕ) (bytes : List ℕ) → (b == 10) ≡ false → given b ++ held (entered b) ++ bytes ≡ b ∷ bytes
gives-entered b bytes n = by_byte (λ x. (x == 10) ≡ false → given x ++ held (entered x) ++ bytes ≡ x ∷ bytes) b
    (λ m. absurd (false≢true (sym m))) (λ m. refl) (λ m. refl) (λ m. refl) (λ m. refl) (λ m. refl) (λ o m. rw (other-given b o, other-entered b o) refl) n

-- neither of two
pub or-none : (x y : Bool) → x ≡ false → y ≡ false → (x || y) ≡ false
or-none true y e f = absurd (false≢true (sym e))
or-none false y e f = f

-- a byte that is a break, and one that is none
calm-stop : (before b : ℕ) (bytes : List ℕ) → is_break before b ≡ true → is_calm before (b ∷ bytes) ≡ false
calm-stop before b bytes e = rw e refl

calm-on : (before b : ℕ) (bytes : List ℕ) → is_break before b ≡ false → is_calm before (b ∷ bytes) ≡ is_calm b bytes
calm-on before b bytes e = rw e refl

and-none : (x : Bool) → (x && false) ≡ false
and-none true = refl
and-none false = refl

-- a byte that is none of the three is no break, whatever stands before it
none-break : (before b : ℕ) → is_byte3 10 42 45 b ≡ false → is_break before b ≡ false
none-break before b n =
    let first = or_parts (b == 10 || b == 42) (b == 45) n in
    let second = or_parts (b == 10) (b == 42) first.0 in
    rw (second.0, second.1, first.1) (or-none (before == 47 && false) (before == 45 && false) (and-none (before == 47)) (and-none (before == 45)))

byte_before-later : (before : ℕ) (bytes : List ℕ) (n : ℕ) → byte_before before bytes (suc n) ≡ get_or bytes n 0
byte_before-later before bytes n =
    let some : (suc n == 0) ≡ false = grind (arith, nat_tests) in
    pick_no (suc n == 0) before (get_or bytes (suc n - 1) 0) some ∙ ap (λ (k : ℕ). get_or bytes k 0) (let less : suc n - 1 ≡ n = omega arith in less)

-- bytes behind another
behind : (before b : ℕ) (bytes : List ℕ) (n : ℕ) → byte_before b bytes n ≡ byte_before before (b ∷ bytes) (suc n)
behind before b bytes zero = sym (byte_before-later before (b ∷ bytes) zero)
behind before b bytes (suc n) = byte_before-later b bytes n ∙ sym (byte_before-later before (b ∷ bytes) (suc n))

-- bytes that are none of the three begin no comment, and go on as what stands behind them
pub calm-skip : (before : ℕ) (bytes : List ℕ) (n : ℕ) → n ≤ length bytes → ((k : ℕ) → k < n → is_byte3 10 42 45 (get_or bytes k 0) ≡ false)
    → is_calm before bytes ≡ is_calm (byte_before before bytes n) (drop n bytes)
calm-skip before bytes zero l none = refl
calm-skip before [] (suc n) l none = absurd (omega arith)
calm-skip before (b ∷ bytes) (suc n) l none =
    let here : is_byte3 10 42 45 b ≡ false = none 0 (omega arith) in
    calm-on before b bytes (none-break before b here) ∙ calm-skip b bytes n (omega arith) (λ k m. none (suc k) (omega (arith, m)))
    ∙ ap (λ (c : ℕ). is_calm c (drop n bytes)) (behind before b bytes n)

-- where one of the three stands, the text is calm if it is no break and what stands behind it is calm
pub calm-at : (before : ℕ) (bytes : List ℕ) (n : ℕ) → n < length bytes → is_calm before (drop n bytes) ≡ cond (is_break before (get_or bytes n 0)) false (is_calm (get_or bytes n 0) (drop (suc n) bytes))
calm-at before [] n l = absurd (omega arith)
calm-at before (b ∷ bytes) zero l = refl
calm-at before (b ∷ bytes) (suc n) l = calm-at before bytes n (omega (arith, l))

-- behind all of them nothing is left
pub calm-end : (before : ℕ) (bytes : List ℕ) → is_calm before (drop (length bytes) bytes) ≡ true
calm-end before [] = refl
calm-end before (b ∷ bytes) = calm-end before bytes

-- where the search found nothing, none of the three stands
nowhere-none : (bytes : List ℕ) (n : ℕ) → Nowhere (Passes (is_byte3 10 42 45) bytes) 0 n → (k : ℕ) → k < n → is_byte3 10 42 45 (get_or bytes k 0) ≡ false
nowhere-none bytes n h k l = elim (cases_Bool (is_byte3 10 42 45 (get_or bytes k 0))) [ inl e ↦ absurd (h k (omega arith) l e) | inr e ↦ e ]

-- up to the first of the three a text is calm, and it goes on behind it if this is no break
pub calm-step : (before : ℕ) (bytes : List ℕ) (at : ℕ) → IsFirstByte (is_byte3 10 42 45) bytes (Some at) → is_break (byte_before before bytes at) (get_or bytes at 0) ≡ false
    → is_calm before bytes ≡ is_calm (get_or bytes at 0) (drop (at + 1) bytes)
calm-step before bytes at h e =
    let l : at < length bytes = h.0.high in
    calm-skip before bytes at (omega (arith, l)) (nowhere-none bytes at h.0.before) ∙ calm-at (byte_before before bytes at) bytes at l ∙ pick_no (is_break (byte_before before bytes at) (get_or bytes at 0)) false _ e
    ∙ ap (λ (k : ℕ). is_calm (get_or bytes at 0) (drop k bytes)) (let next : suc at ≡ at + 1 = omega arith in next)

-- with a break it is not calm
pub calm-broken : (before : ℕ) (bytes : List ℕ) (at : ℕ) → IsFirstByte (is_byte3 10 42 45) bytes (Some at) → is_break (byte_before before bytes at) (get_or bytes at 0) ≡ true → is_calm before bytes ≡ false
calm-broken before bytes at h e =
    let l : at < length bytes = h.0.high in
    let first : is_calm before bytes ≡ cond (is_break (byte_before before bytes at) (get_or bytes at 0)) false (is_calm (get_or bytes at 0) (drop (suc at) bytes)) =
    calm-skip before bytes at (omega (arith, l)) (nowhere-none bytes at h.0.before) ∙ calm-at (byte_before before bytes at) bytes at l in
    first ∙ ap (λ (b : Bool). cond b false (is_calm (get_or bytes at 0) (drop (suc at) bytes))) e

-- without one of the three it is calm
pub calm-whole : (before : ℕ) (bytes : List ℕ) → IsFirstByte (is_byte3 10 42 45) bytes None → is_calm before bytes ≡ true
calm-whole before bytes h = calm-skip before bytes (length bytes) (omega arith) (nowhere-none bytes (length bytes) h) ∙ calm-end (byte_before before bytes (length bytes)) bytes

-- a text that goes on so is not changed
outside-plain : (b : ℕ) (bytes : List ℕ) → (b == 10) ≡ false → plain_from (entered b) bytes ≡ held (entered b) ++ bytes → given b ++ plain_from (entered b) bytes ≡ b ∷ bytes
outside-plain b bytes n h = ap (λ (some : List ℕ). given b ++ some) h ∙ sym (append_assoc (given b) (held (entered b)) bytes) ∙ gives-entered b bytes n

record CalmParts (before b : ℕ) (bytes : List ℕ) : Type 0 where
  pub unbroken : (b == 10) ≡ false
  pub slash : (before == 47 && b == 42) ≡ false
  pub dash : (before == 45 && b == 45) ≡ false
  pub rest : is_calm b bytes ≡ true

calm-parts : (before b : ℕ) (bytes : List ℕ) → is_calm before (b ∷ bytes) ≡ true → CalmParts before b bytes
calm-parts before b bytes c = elim (cases_Bool (is_break before b)) [
  | inl e ↦ absurd (false≢true (sym (calm-stop before b bytes e) ∙ c))
  | inr e ↦
      let neither = or_parts (b == 10) ((before == 47 && b == 42) || (before == 45 && b == 45)) e in
      let none = or_parts (before == 47 && b == 42) (before == 45 && b == 45) neither.1 in
      record { unbroken = neither.0; slash = none.0; dash = none.1; rest = sym (calm-on before b bytes e) ∙ c }
]

-- a text that is calm is not changed
pub calm-plain : (mode : Mode) (before : ℕ) (bytes : List ℕ) → Follows mode before → is_calm before bytes ≡ true → plain_from mode bytes ≡ held mode ++ bytes
calm-plain Outside before [] f c = refl
calm-plain Slash before [] f c = refl
calm-plain Dash before [] f c = refl
calm-plain Single before [] f c = refl
calm-plain Double before [] f c = refl
calm-plain (Comment depth) before bytes f c = absurd f
calm-plain (Star depth) before bytes f c = absurd f
calm-plain (Open depth) before bytes f c = absurd f
calm-plain Rest before bytes f c = absurd f
calm-plain Outside before (b ∷ bytes) f c =
    let parts = calm-parts before b bytes c in
    outside-plain b bytes parts.unbroken (calm-plain (entered b) b bytes (follows-entered b) parts.rest)
calm-plain Slash before (b ∷ bytes) f c =
    let parts = calm-parts before b bytes c in
    let other : (b == 42) ≡ false = subst (λ (x : ℕ). (x == 47 && b == 42) ≡ false) f parts.slash in
    rw other (ap (λ (some : List ℕ). 47 ∷ some) (outside-plain b bytes parts.unbroken (calm-plain (entered b) b bytes (follows-entered b) parts.rest)))
calm-plain Dash before (b ∷ bytes) f c =
    let parts = calm-parts before b bytes c in
    let other : (b == 45) ≡ false = subst (λ (x : ℕ). (x == 45 && b == 45) ≡ false) f parts.dash in
    ap (λ (some : List ℕ). some ++ plain_from (next_mode Dash b) bytes) (dash-gives b other) ∙ ap (λ (m : Mode). (45 ∷ given b) ++ plain_from m bytes) (dash-next b other)
    ∙ ap (λ (some : List ℕ). 45 ∷ some) (outside-plain b bytes parts.unbroken (calm-plain (entered b) b bytes (follows-entered b) parts.rest))
calm-plain Single before (b ∷ bytes) f c =
    let parts = calm-parts before b bytes c in
    elim (cases_Bool (b == 39)) [
      | inl e ↦ rw e (ap (λ (some : List ℕ). b ∷ some) (calm-plain Outside b bytes tt parts.rest))
      | inr e ↦ rw e (ap (λ (some : List ℕ). b ∷ some) (calm-plain Single b bytes tt parts.rest))
    ]
calm-plain Double before (b ∷ bytes) f c =
    let parts = calm-parts before b bytes c in
    elim (cases_Bool (b == 34)) [
      | inl e ↦ rw e (ap (λ (some : List ℕ). b ∷ some) (calm-plain Outside b bytes tt parts.rest))
      | inr e ↦ rw e (ap (λ (some : List ℕ). b ∷ some) (calm-plain Double b bytes tt parts.rest))
    ]

-- How long a text is.

-- how many bytes more may be given
abbrev room : Mode → ℕ
room Outside = 0
room Slash = 1
room Dash = 1
room Single = 0
room Double = 0
room (Comment depth) = 1
room (Star depth) = 1
room (Open depth) = 1
room Rest = 0

room-end : (mode : Mode) → length (end_gives mode) ≤ room mode
room-end Outside = omega arith
room-end Slash = omega arith
room-end Dash = omega arith
room-end Single = omega arith
room-end Double = omega arith
room-end (Comment depth) = omega arith
room-end (Star depth) = omega arith
room-end (Open depth) = omega arith
room-end Rest = omega arith

-- what a byte gives outside, and what may be given after it
abbrev Within : List ℕ → Mode → ℕ → Type 0
Within some mode most = length some + room mode ≤ most

room-entered : (b : ℕ) → Within (given b) (entered b) 1
room-entered b = by_byte (λ x. Within (given x) (entered x) 1) b (omega arith) (omega arith) (omega arith) (omega arith) (omega arith) (omega arith)
    (λ o. rw (other-given b o, other-entered b o) (omega arith))

room-commented : (depth b : ℕ) → room (commented depth b) ≡ 1
room-commented depth b = by_byte (λ x. room (commented depth x) ≡ 1) b refl refl refl refl refl refl (λ o. rw (other-commented depth b o) refl)

room-left : (depth : ℕ) → Within (left_gives depth) (left depth) 2
room-left depth = elim (cases_Bool (depth == 0)) [ inl e ↦ rw e (omega arith) | inr e ↦ rw e (omega arith) ]

room-step : (mode : Mode) (b : ℕ) → Within (mode_gives mode b) (next_mode mode b) (room mode + 1)
room-step Outside b = room-entered b
room-step Slash b = let h = room-entered b in elim (cases_Bool (b == 42)) [ inl e ↦ rw e (omega arith) | inr e ↦ rw e (omega arith) ]
room-step Dash b = let h = room-entered b in elim (cases_Bool (b == 45)) [
  | inl e ↦ subst (λ (x : ℕ). Within (mode_gives Dash x) (next_mode Dash x) 2) (sym (eqb-true b 45 e)) (omega arith)
  | inr e ↦ omega (arith, ap length (dash-gives b e), ap room (dash-next b e))
]
room-step Single b = elim (cases_Bool (b == 39)) [ inl e ↦ rw e (omega arith) | inr e ↦ rw e (omega arith) ]
room-step Double b = elim (cases_Bool (b == 34)) [ inl e ↦ rw e (omega arith) | inr e ↦ rw e (omega arith) ]
room-step (Comment depth) b = omega (arith, room-commented depth b)
room-step (Star depth) b = elim (cases_Bool (b == 47)) [
  | inl e ↦ subst (λ (x : ℕ). Within (mode_gives (Star depth) x) (next_mode (Star depth) x) 2) (sym (eqb-true b 47 e)) (room-left depth)
  | inr e ↦ omega (arith, ap length (pick_no (b == 47) (left_gives depth) [] e), ap room (pick_no (b == 47) (left depth) (commented depth b) e), room-commented depth b)
]
room-step (Open depth) b = elim (cases_Bool (b == 42)) [
  | inl e ↦ subst (λ (x : ℕ). Within (mode_gives (Open depth) x) (next_mode (Open depth) x) 2) (sym (eqb-true b 42 e)) (omega arith)
  | inr e ↦ omega (arith, ap room (pick_no (b == 42) (Comment (depth + 1)) (commented depth b) e), room-commented depth b)
]
room-step Rest b = elim (cases_Bool (ends_line b)) [ inl e ↦ rw e (omega arith) | inr e ↦ rw e (omega arith) ]

pub plain-length : (mode : Mode) (bytes : List ℕ) → length (plain_from mode bytes) ≤ room mode + length bytes
plain-length mode [] = omega (arith, room-end mode)
plain-length mode (b ∷ bytes) =
    let step : Within (mode_gives mode b) (next_mode mode b) (room mode + 1) = room-step mode b in
    let rest : length (plain_from (next_mode mode b) bytes) ≤ room (next_mode mode b) + length bytes = plain-length (next_mode mode b) bytes in
    omega (arith, length-append (mode_gives mode b) (plain_from (next_mode mode b) bytes))

-- a text is no longer without its comments
pub plain-short : (text : List ℕ) → length (plain text) ≤ length text
plain-short text = let h : length (plain_from Outside text) ≤ 0 + length text = plain-length Outside text in omega arith

-- A text without a zero byte.

nul-both : (a b : List ℕ) → NoNul a → NoNul b → NoNul (a ++ b)
nul-both [] b h k = k
nul-both (x ∷ a) b h k = (h.0, nul-both a b h.1 k)

solid : (n : ℕ) → 0 < n → NoNul (n ∷ [])
solid n l = (λ e. absurd (omega arith), tt)

nul-given : (b : ℕ) → (b ≡ 0 → ⊥) → NoNul (given b)
nul-given b n = by_byte (λ x. NoNul (given x)) b (solid 32 (omega arith)) tt tt (solid 39 (omega arith)) (solid 34 (omega arith)) (solid 42 (omega arith)) (λ o. rw (other-given b o) (n, tt))

nul-gives : (mode : Mode) (b : ℕ) → (b ≡ 0 → ⊥) → NoNul (mode_gives mode b)
nul-gives Outside b n = nul-given b n
nul-gives Slash b n = elim (cases_Bool (b == 42)) [ inl e ↦ rw e tt | inr e ↦ rw e (nul-both (47 ∷ []) (given b) (solid 47 (omega arith)) (nul-given b n)) ]
nul-gives Dash b n = elim (cases_Bool (b == 45)) [
  | inl e ↦ subst (λ (x : ℕ). NoNul (mode_gives Dash x)) (sym (eqb-true b 45 e)) tt
  | inr e ↦ subst (λ (some : List ℕ). NoNul some) (sym (dash-gives b e)) (nul-both (45 ∷ []) (given b) (solid 45 (omega arith)) (nul-given b n))
]
nul-gives Single b n = (n, tt)
nul-gives Double b n = (n, tt)
nul-gives (Comment depth) b n = tt
nul-gives (Star depth) b n = elim (cases_Bool (b == 47)) [ inl e ↦ rw e (elim (cases_Bool (depth == 0)) [ inl f ↦ rw f (solid 32 (omega arith)) | inr f ↦ rw f tt ]) | inr e ↦ rw e tt ]
nul-gives (Open depth) b n = tt
nul-gives Rest b n = elim (cases_Bool (ends_line b)) [ inl e ↦ rw e (solid 32 (omega arith)) | inr e ↦ rw e tt ]

nul-end : (mode : Mode) → NoNul (end_gives mode)
nul-end Outside = tt
nul-end Slash = solid 47 (omega arith)
nul-end Dash = solid 45 (omega arith)
nul-end Single = tt
nul-end Double = tt
nul-end (Comment depth) = solid 47 (omega arith)
nul-end (Star depth) = solid 47 (omega arith)
nul-end (Open depth) = solid 47 (omega arith)
nul-end Rest = tt

plain-nul : (mode : Mode) (bytes : List ℕ) → NoNul bytes → NoNul (plain_from mode bytes)
plain-nul mode [] h = nul-end mode
plain-nul mode (b ∷ bytes) h = nul-both (mode_gives mode b) (plain_from (next_mode mode b) bytes) (nul-gives mode b h.0) (plain-nul (next_mode mode b) bytes h.1)

-- a text without a zero byte has none when it is plain
pub plain-clean : (text : List ℕ) → (Contains text 0 → ⊥) → Contains (plain text) 0 → ⊥
plain-clean text h = nul-none (plain text) (plain-nul Outside text (nul-from text h))

-- what is left behind some bytes has no zero byte either
pub nul-drop : (n : ℕ) (bytes : List ℕ) → NoNul bytes → NoNul (drop n bytes)
nul-drop zero bytes h = h
nul-drop (suc n) [] h = tt
nul-drop (suc n) (b ∷ bytes) h = nul-drop n bytes h.1

-- a text without a zero byte has none behind its first bytes
pub drop-clean : (n : ℕ) (bytes : List ℕ) → (Contains bytes 0 → ⊥) → Contains (drop n bytes) 0 → ⊥
drop-clean n bytes h = nul-none (drop n bytes) (nul-drop n bytes (nul-from bytes h))

-- a blank and a `;` are ASCII bytes
tail-ascii : (b : ℕ) → is_tail b ≡ true → b < 128
tail-ascii b h = grind (arith, nat_tests)

-- behind bytes that pass a test which only ASCII bytes pass, a character begins
front-boundary : (test : ℕ → Bool) → ((b : ℕ) → test b ≡ true → b < 128) → (bytes : List ℕ) → IsUtf8 bytes → IsCharBoundary bytes (prefix_len test bytes)
front-boundary test ascii [] u = IsCharBoundary-start [] u
front-boundary test ascii (b ∷ bytes) u = elim (cases_Bool (test b)) [
  | inl e ↦
      let more : prefix_len test (b ∷ bytes) ≡ 1 + prefix_len test bytes = rw e refl in
      let one : IsCharBoundary (b ∷ bytes) (0 + 1) = IsCharBoundary-after_ascii (b ∷ bytes) 0 u (omega arith) (ascii b e) in
      let rest : IsUtf8 bytes = IsUtf8-drop (b ∷ bytes) 1 u one in
      subst (λ (k : ℕ). IsCharBoundary (b ∷ bytes) k) (sym more) (IsCharBoundary-from_rest (b ∷ bytes) 1 (prefix_len test bytes) (omega arith) (front-boundary test ascii bytes rest))
  | inr e ↦
      let none : prefix_len test (b ∷ bytes) ≡ 0 = rw e refl in
      subst (λ (k : ℕ). IsCharBoundary (b ∷ bytes) k) (sym none) (IsCharBoundary-start (b ∷ bytes) u)
]

-- so it does behind the blanks and `;` at the front
pub head-boundary : (bytes : List ℕ) → IsUtf8 bytes → IsCharBoundary bytes (prefix_len is_tail bytes)
head-boundary bytes u = front-boundary is_tail tail-ascii bytes u
