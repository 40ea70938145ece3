-- A text without its comments is text, and so is one line.
use Rattle.std.proofs.Common.{◌≡◌, ℕ, suc, ◌+◌, ◌<◌, ◌≤◌, true, false, ◌||◌, ◌==◌, inl, inr, List, [], ◌∷◌, ◌++◌, map, length, get_or, sym, ap, ◌∙◌, refl, subst, arith, append_assoc, IsUtf8}
use lib.Utf8.{scalar, scalars, encodes, encode}
use Rattle.std.proofs.lemmas.Bool.{cases_Bool, cases_lt, and_parts, and_from, eqb-true}
use Rattle.std.proofs.lemmas.Bool.Decides.{nat_tests}
use Rattle.std.proofs.lemmas.List.{append-nil, map-append}
use Rattle.std.proofs.lemmas.Str.{IsUtf8-append, IsUtf8-nil, IsUtf8-from_ascii, encode_ascii, inside_one, length-encode, len_utf8_bounds}
use Rattle.std.proofs.lemmas.Str.Ascii.{IsAscii-cons, IsAscii-nil}
use Rattle.pgn_requests.specs.declared.mode.Mode.{Mode}
use Rattle.pgn_requests.specs.declared.mode.Mode.TheVariants.{Outside, Slash, Dash, Single, Double, Comment, Star, Open, Rest}
use Rattle.pgn_requests.specs.Texts.{commented, left, next_mode, given, mode_gives, end_gives, plain_from, plain, ends_line, unbroken}
use Rattle.pgn_statements.proofs.PlainLaws.{or-none, held, Other, other-given, other-entered, other-commented, pick_no, slash-gives, slash-next, dash-gives, dash-next}

-- one ASCII byte
one_byte : (b : ℕ) → b < 128 → IsUtf8 (b ∷ [])
one_byte b l = IsUtf8-from_ascii (b ∷ []) (IsAscii-cons b [] l IsAscii-nil)

given-text : (b : ℕ) → b < 128 → IsUtf8 (given b)
given-text b l = elim (cases_Bool (b == 10)) [
  | inl e ↦ rw e (one_byte 32 (omega arith))
  | inr e ↦ elim (cases_Bool (b == 47 || b == 45)) [ inl f ↦ rw (e, f) IsUtf8-nil | inr f ↦ rw (e, f) (one_byte b l) ]
]

gives-text : (mode : Mode) (b : ℕ) → b < 128 → IsUtf8 (mode_gives mode b)
gives-text Outside b l = given-text b l
gives-text Slash b l = elim (cases_Bool (b == 42)) [ inl e ↦ rw e IsUtf8-nil | inr e ↦ rw e (IsUtf8-append (47 ∷ []) (given b) (one_byte 47 (omega arith)) (given-text b l)) ]
gives-text Dash b l = elim (cases_Bool (b == 45)) [
  | inl e ↦ subst (λ (x : ℕ). IsUtf8 (mode_gives Dash x)) (sym (eqb-true b 45 e)) IsUtf8-nil
  | inr e ↦ subst (λ (some : List ℕ). IsUtf8 some) (sym (dash-gives b e)) (IsUtf8-append (45 ∷ []) (given b) (one_byte 45 (omega arith)) (given-text b l))
]
gives-text Single b l = one_byte b l
gives-text Double b l = one_byte b l
gives-text (Comment depth) b l = IsUtf8-nil
gives-text (Star depth) b l = elim (cases_Bool (b == 47)) [
  | inl e ↦ rw e (elim (cases_Bool (depth == 0)) [ inl f ↦ rw f (one_byte 32 (omega arith)) | inr f ↦ rw f IsUtf8-nil ])
  | inr e ↦ rw e IsUtf8-nil
]
gives-text (Open depth) b l = IsUtf8-nil
gives-text Rest b l = elim (cases_Bool (ends_line b)) [ inl e ↦ rw e (one_byte 32 (omega arith)) | inr e ↦ rw e IsUtf8-nil ]

end-text : (mode : Mode) → IsUtf8 (end_gives mode)
end-text Outside = IsUtf8-nil
end-text Slash = one_byte 47 (omega arith)
end-text Dash = one_byte 45 (omega arith)
end-text Single = IsUtf8-nil
end-text Double = IsUtf8-nil
end-text (Comment depth) = one_byte 47 (omega arith)
end-text (Star depth) = one_byte 47 (omega arith)
end-text (Open depth) = one_byte 47 (omega arith)
end-text Rest = IsUtf8-nil

held-text : (mode : Mode) → IsUtf8 (held mode)
held-text Outside = IsUtf8-nil
held-text Slash = one_byte 47 (omega arith)
held-text Dash = one_byte 45 (omega arith)
held-text Single = IsUtf8-nil
held-text Double = IsUtf8-nil
held-text (Comment depth) = IsUtf8-nil
held-text (Star depth) = IsUtf8-nil
held-text (Open depth) = IsUtf8-nil
held-text Rest = IsUtf8-nil

-- Bytes of a character past ASCII.

-- each byte is past ASCII
abbrev pub AreHigh : List ℕ → Type 0
AreHigh [] = Unit {0}
AreHigh (b ∷ bytes) = (128 ≤ b) × AreHigh bytes

high-from : (bytes : List ℕ) → ((k : ℕ) → k < length bytes → 128 ≤ get_or bytes k 0) → AreHigh bytes
high-from [] h = tt
high-from (b ∷ bytes) h = (h 0 (omega arith), high-from bytes (λ k l. h (suc k) (omega (arith, l))))

high-at : (c k : ℕ) → 128 ≤ c → k < length (encode c) → 128 ≤ get_or (encode c) k 0
high-at c k l m = elim (cases_lt (get_or (encode c) k 0) 128) [
  | inl low ↦ let same : c ≡ get_or (encode c) k 0 = inside_one c [] (encode c) k (sym (append-nil (encode c))) m low in absurd (omega arith)
  | inr high ↦ high
]

-- each byte of a character past ASCII is
pub high-encode : (c : ℕ) → 128 ≤ c → AreHigh (encode c)
high-encode c l = high-from (encode c) (λ k m. high-at c k l m)

-- a greater byte is another
differs : (b k : ℕ) → k < b → (b == k) ≡ false
differs b k l = grind (arith, nat_tests)

-- a byte past ASCII is none that begins or ends a comment, a quote or a line
other-high : (b : ℕ) → 128 ≤ b → Other b
other-high b l = record {
  feed = differs b 10 (omega arith);
  slash = differs b 47 (omega arith);
  dash = differs b 45 (omega arith);
  single = differs b 39 (omega arith);
  double = differs b 34 (omega arith);
  star = differs b 42 (omega arith);
}

-- where such bytes lead, and what they give after what was held back
abbrev settled : Mode → Mode
settled Outside = Outside
settled Slash = Outside
settled Dash = Outside
settled Single = Single
settled Double = Double
settled (Comment depth) = Comment depth
settled (Star depth) = Comment depth
settled (Open depth) = Comment depth
settled Rest = Rest

-- what of such bytes is given in a mode: all outside comments, nothing in one
abbrev kept : Mode → List ℕ → List ℕ
kept Outside bytes = bytes
kept Slash bytes = bytes
kept Dash bytes = bytes
kept Single bytes = bytes
kept Double bytes = bytes
kept mode bytes = []

-- such a byte gives itself or nothing
high-gives : (mode : Mode) (b : ℕ) → Other b → ends_line b ≡ false → mode_gives mode b ≡ held mode ++ kept mode (b ∷ [])
high-gives Outside b o n = other-given b o
high-gives Slash b o n = slash-gives b o.star ∙ ap (λ (some : List ℕ). 47 ∷ some) (other-given b o)
high-gives Dash b o n = dash-gives b o.dash ∙ ap (λ (some : List ℕ). 45 ∷ some) (other-given b o)
high-gives Single b o n = refl
high-gives Double b o n = refl
high-gives (Comment depth) b o n = refl
high-gives (Star depth) b o n = rw o.slash refl
high-gives (Open depth) b o n = refl
high-gives Rest b o n = rw n refl

high-next : (mode : Mode) (b : ℕ) → Other b → ends_line b ≡ false → next_mode mode b ≡ settled mode
high-next Outside b o n = other-entered b o
high-next Slash b o n = slash-next b o.star ∙ other-entered b o
high-next Dash b o n = dash-next b o.dash ∙ other-entered b o
high-next Single b o n = rw o.single refl
high-next Double b o n = rw o.double refl
high-next (Comment depth) b o n = other-commented depth b o
high-next (Star depth) b o n = let first : next_mode (Star depth) b ≡ commented depth b = pick_no (b == 47) (left depth) (commented depth b) o.slash in first ∙ other-commented depth b o
high-next (Open depth) b o n = let first : next_mode (Open depth) b ≡ commented depth b = pick_no (b == 42) (Comment (depth + 1)) (commented depth b) o.star in first ∙ other-commented depth b o
high-next Rest b o n = rw n refl

-- there nothing is held back
settled-held : (mode : Mode) → held (settled mode) ≡ []
settled-held Outside = refl
settled-held Slash = refl
settled-held Dash = refl
settled-held Single = refl
settled-held Double = refl
settled-held (Comment depth) = refl
settled-held (Star depth) = refl
settled-held (Open depth) = refl
settled-held Rest = refl

settled-twice : (mode : Mode) → settled (settled mode) ≡ settled mode
settled-twice Outside = refl
settled-twice Slash = refl
settled-twice Dash = refl
settled-twice Single = refl
settled-twice Double = refl
settled-twice (Comment depth) = refl
settled-twice (Star depth) = refl
settled-twice (Open depth) = refl
settled-twice Rest = refl

kept-cons : (mode : Mode) (b : ℕ) (bytes : List ℕ) → kept mode (b ∷ bytes) ≡ kept mode (b ∷ []) ++ kept (settled mode) bytes
kept-cons Outside b bytes = refl
kept-cons Slash b bytes = refl
kept-cons Dash b bytes = refl
kept-cons Single b bytes = refl
kept-cons Double b bytes = refl
kept-cons (Comment depth) b bytes = refl
kept-cons (Star depth) b bytes = refl
kept-cons (Open depth) b bytes = refl
kept-cons Rest b bytes = refl

kept-nil : (mode : Mode) → kept (settled mode) [] ≡ []
kept-nil Outside = refl
kept-nil Slash = refl
kept-nil Dash = refl
kept-nil Single = refl
kept-nil Double = refl
kept-nil (Comment depth) = refl
kept-nil (Star depth) = refl
kept-nil (Open depth) = refl
kept-nil Rest = refl

-- bytes past ASCII, after one of them
run-on : (mode : Mode) (bytes rest : List ℕ) → AreHigh bytes → plain_from (settled mode) (bytes ++ rest) ≡ kept (settled mode) bytes ++ plain_from (settled mode) rest
run-on mode [] rest h = ap (λ (some : List ℕ). some ++ plain_from (settled mode) rest) (sym (kept-nil mode))
run-on mode (b ∷ bytes) rest h =
    let o : Other b = other-high b h.0 in
    let n : ends_line b ≡ false = or-none (b == 10) (b == 13) o.feed (differs b 13 (omega (arith, h.0))) in
    let first : mode_gives (settled mode) b ≡ kept (settled mode) (b ∷ []) = high-gives (settled mode) b o n ∙ ap (λ (some : List ℕ). some ++ kept (settled mode) (b ∷ [])) (settled-held mode) in
    let next : next_mode (settled mode) b ≡ settled mode = high-next (settled mode) b o n ∙ settled-twice mode in
    let whole : kept (settled mode) (b ∷ bytes) ≡ kept (settled mode) (b ∷ []) ++ kept (settled mode) bytes = kept-cons (settled mode) b bytes ∙ ap (λ (m : Mode). kept (settled mode) (b ∷ []) ++ kept m bytes) (settled-twice mode) in
    ap (λ (some : List ℕ). some ++ plain_from (next_mode (settled mode) b) (bytes ++ rest)) first
    ∙ ap (λ (m : Mode). kept (settled mode) (b ∷ []) ++ plain_from m (bytes ++ rest)) next
    ∙ ap (λ (some : List ℕ). kept (settled mode) (b ∷ []) ++ some) (run-on mode bytes rest h.1)
    ∙ sym (append_assoc (kept (settled mode) (b ∷ [])) (kept (settled mode) bytes) (plain_from (settled mode) rest))
    ∙ ap (λ (some : List ℕ). some ++ plain_from (settled mode) rest) (sym whole)

-- bytes past ASCII, one at least
run-first : (mode : Mode) (b : ℕ) (bytes rest : List ℕ) → AreHigh (b ∷ bytes) → plain_from mode ((b ∷ bytes) ++ rest) ≡ held mode ++ (kept mode (b ∷ bytes) ++ plain_from (settled mode) rest)
run-first mode b bytes rest h =
    let o : Other b = other-high b h.0 in
    let n : ends_line b ≡ false = or-none (b == 10) (b == 13) o.feed (differs b 13 (omega (arith, h.0))) in
    ap (λ (some : List ℕ). some ++ plain_from (next_mode mode b) (bytes ++ rest)) (high-gives mode b o n)
    ∙ ap (λ (m : Mode). (held mode ++ kept mode (b ∷ [])) ++ plain_from m (bytes ++ rest)) (high-next mode b o n)
    ∙ ap (λ (some : List ℕ). (held mode ++ kept mode (b ∷ [])) ++ some) (run-on mode bytes rest h.1)
    ∙ append_assoc (held mode) (kept mode (b ∷ [])) (kept (settled mode) bytes ++ plain_from (settled mode) rest)
    ∙ ap (λ (some : List ℕ). held mode ++ some) (sym (append_assoc (kept mode (b ∷ [])) (kept (settled mode) bytes) (plain_from (settled mode) rest)) ∙ ap (λ (some : List ℕ). some ++ plain_from (settled mode) rest) (sym (kept-cons mode b bytes)))

-- some bytes past ASCII, in any mode
run-of : (mode : Mode) (bytes rest : List ℕ) → AreHigh bytes → 0 < length bytes → plain_from mode (bytes ++ rest) ≡ held mode ++ (kept mode bytes ++ plain_from (settled mode) rest)
run-of mode [] rest h l = absurd (omega arith)
run-of mode (b ∷ bytes) rest h l = run-first mode b bytes rest h

-- what is given of a text in a mode is text
kept-text : (mode : Mode) (bytes : List ℕ) → IsUtf8 bytes → IsUtf8 (kept mode bytes)
kept-text Outside bytes u = u
kept-text Slash bytes u = u
kept-text Dash bytes u = u
kept-text Single bytes u = u
kept-text Double bytes u = u
kept-text (Comment depth) bytes u = IsUtf8-nil
kept-text (Star depth) bytes u = IsUtf8-nil
kept-text (Open depth) bytes u = IsUtf8-nil
kept-text Rest bytes u = IsUtf8-nil

-- one character is text
one_char : (c : ℕ) → scalar c ≡ true → IsUtf8 (encode c)
one_char c s = (c ∷ [], (and_from (scalar c) true s refl, append-nil (encode c)))

-- a character has a byte
some_bytes : (c : ℕ) → 0 < length (encode c)
some_bytes c = omega (arith, length-encode c, (len_utf8_bounds c).0)

-- characters without their comments, from any mode on, are text
chars-text : (mode : Mode) (cs : List ℕ) → scalars cs ≡ true → IsUtf8 (plain_from mode (encodes cs))
chars-text mode [] s = end-text mode
chars-text mode (c ∷ cs) s =
    let parts = and_parts (scalar c) (scalars cs) s in
    elim (cases_lt c 128) [
      | inl l ↦
          subst (λ (front : List ℕ). IsUtf8 (plain_from mode (front ++ encodes cs))) (sym (encode_ascii c l))
          (IsUtf8-append (mode_gives mode c) (plain_from (next_mode mode c) (encodes cs)) (gives-text mode c l) (chars-text (next_mode mode c) cs parts.1))
      | inr l ↦
          subst (λ (some : List ℕ). IsUtf8 some) (sym (run-of mode (encode c) (encodes cs) (high-encode c l) (some_bytes c)))
          (IsUtf8-append (held mode) (kept mode (encode c) ++ plain_from (settled mode) (encodes cs)) (held-text mode)
          (IsUtf8-append (kept mode (encode c)) (plain_from (settled mode) (encodes cs)) (kept-text mode (encode c) (one_char c parts.0)) (chars-text (settled mode) cs parts.1)))
    ]

-- a text without its comments is UTF-8 again
pub plain-text : (text : List ℕ) → IsUtf8 text → IsUtf8 (plain text)
plain-text text u = subst (λ (some : List ℕ). IsUtf8 (plain some)) u.1.1 (chars-text Outside u.0 u.1.0)

-- One line.

unbroken-high : (bytes : List ℕ) → AreHigh bytes → map unbroken bytes ≡ bytes
unbroken-high [] h = refl
unbroken-high (b ∷ bytes) h = ap (λ (c : ℕ). c ∷ map unbroken bytes) (let same : unbroken b ≡ b = rw (differs b 10 (omega (arith, h.0))) refl in same) ∙ ap (λ (some : List ℕ). b ∷ some) (unbroken-high bytes h.1)

unbroken-byte : (b : ℕ) → b < 128 → IsUtf8 (unbroken b ∷ [])
unbroken-byte b l = elim (cases_Bool (b == 10)) [ inl e ↦ rw e (one_byte 32 (omega arith)) | inr e ↦ rw e (one_byte b l) ]

unbroken-chars : (cs : List ℕ) → scalars cs ≡ true → IsUtf8 (map unbroken (encodes cs))
unbroken-chars [] s = IsUtf8-nil
unbroken-chars (c ∷ cs) s =
    let parts = and_parts (scalar c) (scalars cs) s in
    subst (λ (some : List ℕ). IsUtf8 some) (sym (map-append unbroken (encode c) (encodes cs)))
    (IsUtf8-append (map unbroken (encode c)) (map unbroken (encodes cs)) (elim (cases_lt c 128) [
      | inl l ↦ subst (λ (front : List ℕ). IsUtf8 (map unbroken front)) (sym (encode_ascii c l)) (unbroken-byte c l)
      | inr l ↦ subst (λ (some : List ℕ). IsUtf8 some) (sym (unbroken-high (encode c) (high-encode c l))) (one_char c parts.0)
    ]) (unbroken-chars cs parts.1))

-- one line of a text is UTF-8 again
pub one_line-text : (text : List ℕ) → IsUtf8 text → IsUtf8 (map unbroken text)
one_line-text text u = subst (λ (some : List ℕ). IsUtf8 (map unbroken some)) u.1.1 (unbroken-chars u.0 u.1.0)
