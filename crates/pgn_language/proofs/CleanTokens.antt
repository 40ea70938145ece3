-- The tokens of a text of UTF-8 without a zero byte are such texts.
use Rattle.std.proofs.Common.{◌≡◌, ◌≢◌, ℕ, zero, suc, ◌+◌, ◌<◌, Bool, true, false, cond, ◌==◌, inl, inr, List, [], ◌∷◌, ◌++◌, map, length, get_or, flat_map, sym, ap, ◌∙◌, refl, subst, arith, append_assoc, length-append, IsUtf8, IsCharBoundary, Contains}
use Rattle.std.specs.Prelude.{All}
use Rattle.std.specs.List.{repeat}
use Rattle.std.specs.Char.{is_ascii_digit, to_ascii_lowercase}
use Rattle.std.specs.Str.{str_to_ascii_lowercase}
use Rattle.std.proofs.lemmas.Bool.{eqb-true, cases_Bool, cases_lt}
use Rattle.std.proofs.lemmas.Bool.Decides.{nat_tests}
use Rattle.std.proofs.lemmas.List.{take_at, drop_at, append-nil, get_or-append-add}
use Rattle.std.proofs.lemmas.List.Elements.{All-head, All-tail, Contains-append_right, Contains-append_cases}
use Rattle.std.proofs.lemmas.Str.{IsUtf8-take, IsUtf8-drop, IsUtf8-append, IsUtf8-nil, IsUtf8-from_ascii, IsCharBoundary-before_ascii, IsCharBoundary-after_ascii, IsCharBoundary-end}
use Rattle.std.proofs.lemmas.Str.Ascii.{IsAscii-cons, IsAscii-nil, lowercase_ascii, lowercase_is}
use Rattle.pgn_language.specs.Quotes.{doubled_byte, quoted}
use Rattle.pgn_language.specs.Tokens.{Lexeme, Word, Quoted, Literal, Number, Sign, Wrong, Token, tokens, is_blank, goes_on_word, is_sign}
use Rattle.pgn_language.specs.Grammar.{lexemes_of}
use Rattle.pgn_language.specs.laws.Tokens.{written, NoneFollows, IsWhole, Covers, Ended, Commented, Spaced, Tokened, Stuck}
use Rattle.pgn_language.proofs.CoverLaws.{tokens-cover}

-- no byte is zero
abbrev pub NoNul : List ℕ → Type 0
NoNul [] = Unit {0}
NoNul (b ∷ bytes) = (b ≡ 0 → ⊥) × NoNul bytes

-- bytes of which none is 0, by a walk over them
pub nul-from : (bytes : List ℕ) → (Contains bytes 0 → ⊥) → NoNul bytes
nul-from [] h = tt
nul-from (b ∷ bytes) h = (λ e. h (0, omega arith, e), nul-from bytes (λ c. h (Contains-append_right (b ∷ []) bytes 0 c)))

-- what the walk finds free of 0 has none
pub nul-none : (bytes : List ℕ) → NoNul bytes → Contains bytes 0 → ⊥
nul-none [] h c = absurd (omega (arith, c.1))
nul-none (b ∷ bytes) h c = elim (Contains-append_cases (b ∷ []) bytes 0 c) [
  | inl d ↦ let first : d.0 ≡ 0 = omega (arith, d.1) in h.0 (subst (λ (k : ℕ). get_or (b ∷ []) k 0 ≡ 0) first d.2)
  | inr d ↦ nul-none bytes h.1 d
]

nul-left : (a b : List ℕ) → NoNul (a ++ b) → NoNul a
nul-left [] b h = tt
nul-left (x ∷ a) b h = (h.0, nul-left a b h.1)

nul-right : (a b : List ℕ) → NoNul (a ++ b) → NoNul b
nul-right [] b h = h
nul-right (x ∷ a) b h = nul-right a b h.1

nul-append : (a b : List ℕ) → NoNul a → NoNul b → NoNul (a ++ b)
nul-append [] b h k = k
nul-append (x ∷ a) b h k = (h.0, nul-append a b h.1 k)

-- UTF-8 without a zero byte
pub record IsText (bytes : List ℕ) : Type 0 where
  pub utf8 : IsUtf8 bytes
  pub no_nul : NoNul bytes

-- the first byte, if there is one, is no part of a character past ASCII
abbrev IsAsciiFirst : List ℕ → Type 0
IsAsciiFirst [] = Unit {0}
IsAsciiFirst (b ∷ bytes) = b < 128

seam : (a b : List ℕ) → IsAsciiFirst b → IsCharBoundary (a ++ b) (length a)
seam a [] h = subst (λ (l : List ℕ). IsCharBoundary l (length a)) (sym (append-nil a)) (IsCharBoundary-end a)
seam a (x ∷ b) h =
    let at : get_or (a ++ x ∷ b) (length a) 0 ≡ x = ap (λ (n : ℕ). get_or (a ++ x ∷ b) n 0) (let n : length a ≡ length a + 0 = omega arith in n) ∙ get_or-append-add a (x ∷ b) 0 0 in
    IsCharBoundary-before_ascii (a ++ x ∷ b) (length a) (omega (arith, length-append a (x ∷ b))) (omega (arith, at))

-- a text is cut before an ASCII byte
split-utf8 : (a b : List ℕ) → IsAsciiFirst b → IsUtf8 (a ++ b) → IsUtf8 a × IsUtf8 b
split-utf8 a b h u = (
  subst (λ (l : List ℕ). IsUtf8 l) (take_at a b (length a) refl) (IsUtf8-take (a ++ b) (length a) u (seam a b h)),
  subst (λ (l : List ℕ). IsUtf8 l) (drop_at a b (length a) refl) (IsUtf8-drop (a ++ b) (length a) u (seam a b h)),
)

tail-utf8 : (b : ℕ) (bytes : List ℕ) → b < 128 → IsUtf8 (b ∷ bytes) → IsUtf8 bytes
tail-utf8 b bytes l u = IsUtf8-drop (b ∷ bytes) 1 u (IsCharBoundary-after_ascii (b ∷ bytes) 0 u (omega arith) l)

one-utf8 : (b : ℕ) → b < 128 → IsUtf8 (b ∷ [])
one-utf8 b l = IsUtf8-from_ascii (b ∷ []) (IsAscii-cons b [] l IsAscii-nil)

split : (a b : List ℕ) → IsAsciiFirst b → IsText (a ++ b) → IsText a × IsText b
split a b h t =
    let u : IsUtf8 a × IsUtf8 b = split-utf8 a b h t.utf8 in
    (record { utf8 = u.0; no_nul = nul-left a b t.no_nul }, record { utf8 = u.1; no_nul = nul-right a b t.no_nul })

tail : (b : ℕ) (bytes : List ℕ) → b < 128 → IsText (b ∷ bytes) → IsText bytes
tail b bytes l t = record { utf8 = tail-utf8 b bytes l t.utf8; no_nul = t.no_nul.1 }

-- a text keeps when each of its quotes is written once
undoubled-utf8 : (quote : ℕ) → quote < 128 → (before text : List ℕ) → IsUtf8 (before ++ flat_map (doubled_byte quote) text) → IsUtf8 (before ++ text)
undoubled-utf8 quote l before [] u = u
undoubled-utf8 quote l before (b ∷ text) u = elim (cases_Bool (b == quote)) [
  | inl e ↦
      let same : b ≡ quote = eqb-true b quote e in
      let here : IsUtf8 (before ++ quote ∷ quote ∷ flat_map (doubled_byte quote) text) =
      subst (λ (l : List ℕ). IsUtf8 (before ++ (l ++ flat_map (doubled_byte quote) text))) (ap (λ (t : Bool). cond t (quote ∷ quote ∷ []) (b ∷ [])) e) u in
      let parts : IsUtf8 before × IsUtf8 (quote ∷ quote ∷ flat_map (doubled_byte quote) text) = split-utf8 before (quote ∷ quote ∷ flat_map (doubled_byte quote) text) l here in
      let after : IsUtf8 (flat_map (doubled_byte quote) text) = tail-utf8 quote (flat_map (doubled_byte quote) text) l (tail-utf8 quote (quote ∷ flat_map (doubled_byte quote) text) l parts.1) in
      let rest : IsUtf8 text = undoubled-utf8 quote l [] text after in
      IsUtf8-append before (b ∷ text) parts.0 (IsUtf8-append (b ∷ []) text (one-utf8 b (omega (arith, same))) rest)
  | inr e ↦
      let here : IsUtf8 (before ++ b ∷ flat_map (doubled_byte quote) text) =
      subst (λ (l : List ℕ). IsUtf8 (before ++ (l ++ flat_map (doubled_byte quote) text))) (ap (λ (t : Bool). cond t (quote ∷ quote ∷ []) (b ∷ [])) e) u in
      let rest : IsUtf8 ((before ++ b ∷ []) ++ text) =
      undoubled-utf8 quote l (before ++ b ∷ []) text (subst (λ (l : List ℕ). IsUtf8 l) (sym (append_assoc before (b ∷ []) (flat_map (doubled_byte quote) text))) here) in
      subst (λ (l : List ℕ). IsUtf8 l) (append_assoc before (b ∷ []) text) rest
]

undoubled-nul : (quote : ℕ) (text : List ℕ) → NoNul (flat_map (doubled_byte quote) text) → NoNul text
undoubled-nul quote [] h = tt
undoubled-nul quote (b ∷ text) h = elim (cases_Bool (b == quote)) [
  | inl e ↦
      let here : NoNul (quote ∷ quote ∷ flat_map (doubled_byte quote) text) =
      subst (λ (l : List ℕ). NoNul (l ++ flat_map (doubled_byte quote) text)) (ap (λ (t : Bool). cond t (quote ∷ quote ∷ []) (b ∷ [])) e) h in
      (λ z. here.0 (sym (eqb-true b quote e) ∙ z), undoubled-nul quote text here.1.1)
  | inr e ↦
      let here : NoNul (b ∷ flat_map (doubled_byte quote) text) =
      subst (λ (l : List ℕ). NoNul (l ++ flat_map (doubled_byte quote) text)) (ap (λ (t : Bool). cond t (quote ∷ quote ∷ []) (b ∷ [])) e) h in
      (here.0, undoubled-nul quote text here.1)
]

undoubled : (quote : ℕ) (text : List ℕ) → quote < 128 → IsText (flat_map (doubled_byte quote) text) → IsText text
undoubled quote text l t = record { utf8 = undoubled-utf8 quote l [] text t.utf8; no_nul = undoubled-nul quote text t.no_nul }

-- a text keeps when its letters are folded
folded-utf8 : (before text : List ℕ) → IsUtf8 (before ++ text) → IsUtf8 (before ++ map to_ascii_lowercase text)
folded-utf8 before [] u = u
folded-utf8 before (b ∷ text) u = elim (cases_lt b 128) [
  | inl l ↦
      let parts : IsUtf8 before × IsUtf8 (b ∷ text) = split-utf8 before (b ∷ text) l u in
      let rest : IsUtf8 (map to_ascii_lowercase text) = folded-utf8 [] text (tail-utf8 b text l parts.1) in
      IsUtf8-append before (to_ascii_lowercase b ∷ map to_ascii_lowercase text) parts.0
      (IsUtf8-append (to_ascii_lowercase b ∷ []) (map to_ascii_lowercase text) (one-utf8 (to_ascii_lowercase b) (lowercase_ascii b l)) rest)
  | inr l ↦
      let same : to_ascii_lowercase b ≡ b = (lowercase_is b).2 (omega (arith, l)) in
      let rest : IsUtf8 ((before ++ b ∷ []) ++ map to_ascii_lowercase text) = folded-utf8 (before ++ b ∷ []) text (subst (λ (l : List ℕ). IsUtf8 l) (sym (append_assoc before (b ∷ []) text)) u) in
      subst (λ (x : ℕ). IsUtf8 (before ++ x ∷ map to_ascii_lowercase text)) (sym same) (subst (λ (l : List ℕ). IsUtf8 l) (append_assoc before (b ∷ []) (map to_ascii_lowercase text)) rest)
]

folded-zero : (b : ℕ) → to_ascii_lowercase b ≡ 0 → b ≡ 0
folded-zero b e = grind (arith, nat_tests)

folded-nul : (text : List ℕ) → NoNul text → NoNul (map to_ascii_lowercase text)
folded-nul [] h = tt
folded-nul (b ∷ text) h = (λ e. h.0 (folded-zero b e), folded-nul text h.1)

-- a text in small letters is still a text
pub folded : (text : List ℕ) → IsText text → IsText (str_to_ascii_lowercase text)
folded text t = record { utf8 = folded-utf8 [] text t.utf8; no_nul = folded-nul text t.no_nul }

-- no bytes are a text
pub none-text : IsText []
none-text = record { utf8 = IsUtf8-nil; no_nul = tt }

-- a text many times over is a text
pub repeated-text : (n : ℕ) (text : List ℕ) → IsText text → IsText (repeat n text)
repeated-text zero text t = none-text
repeated-text (suc n) text t =
    let rest : IsText (repeat n text) = repeated-text n text t in
    record { utf8 = IsUtf8-append text (repeat n text) t.utf8 rest.utf8; no_nul = nul-append text (repeat n text) t.no_nul rest.no_nul }

-- the text of a token: it has a byte where the token may be a name
abbrev pub IsClean : Lexeme → Type 0
IsClean (Word text) = IsText text × (text ≢ [])
IsClean (Quoted text) = IsText text × (text ≢ [])
IsClean (Literal text) = IsText text
IsClean (Number digits) = Unit {0}
IsClean (Sign sign) = Unit {0}
IsClean Wrong = Unit {0}

-- each of these tokens is clean
abbrev pub AllClean : List Lexeme → Type 0
AllClean [] = Unit {0}
AllClean (lexeme ∷ lexemes) = IsClean lexeme × AllClean lexemes

word_ends-ascii : (b : ℕ) → goes_on_word b ≡ false → b < 128
word_ends-ascii b h = grind (arith, nat_tests)

word_ends : (rest : List ℕ) → NoneFollows goes_on_word rest → IsAsciiFirst rest
word_ends [] h = tt
word_ends (b ∷ rest) h = word_ends-ascii b h

digit-ascii : (b : ℕ) → is_ascii_digit b ≡ true → b < 128
digit-ascii b h = grind (arith, nat_tests)

blank-ascii : (b : ℕ) → is_blank b ≡ true → b < 128
blank-ascii b h = grind (arith, nat_tests)

sign-ascii : (b : ℕ) → is_sign b ≡ true → b < 128
sign-ascii b h = grind (arith, nat_tests)

past_digits : (digits rest : List ℕ) → All (λ byte. is_ascii_digit byte ≡ true) digits → IsText (digits ++ rest) → IsText rest
past_digits [] rest h t = t
past_digits (d ∷ digits) rest h t =
    let P : ℕ → Type 0 = λ byte. is_ascii_digit byte ≡ true in
    past_digits digits rest (All-tail P d digits h) (tail d (digits ++ rest) (digit-ascii d (All-head P d digits h)) t)

-- between quotes and after them
past_quotes : (quote : ℕ) (text rest : List ℕ) → quote < 128 → IsText (quoted quote text ++ rest) → IsText text × IsText rest
past_quotes quote text rest l t =
    let inner : IsText ((flat_map (doubled_byte quote) text ++ quote ∷ []) ++ rest) = tail quote ((flat_map (doubled_byte quote) text ++ quote ∷ []) ++ rest) l t in
    let parts : IsText (flat_map (doubled_byte quote) text) × IsText (quote ∷ rest) =
    split (flat_map (doubled_byte quote) text) (quote ∷ rest) l (subst IsText (append_assoc (flat_map (doubled_byte quote) text) (quote ∷ []) rest) inner) in
    (undoubled quote text l parts.0, tail quote rest l parts.1)

past_token : (lexeme : Lexeme) (rest : List ℕ) → IsWhole lexeme rest → IsText (written lexeme ++ rest) → IsClean lexeme × IsText rest
past_token (Word []) rest h t = absurd h.0
past_token (Word (b ∷ text)) rest h t =
    let parts : IsText (b ∷ text) × IsText rest = split (b ∷ text) rest (word_ends rest h.1) t in
    ((parts.0, λ e. absurd (cc)), parts.1)
past_token (Quoted text) rest h t = let parts : IsText text × IsText rest = past_quotes 34 text rest (omega arith) t in ((parts.0, h.0), parts.1)
past_token (Literal text) rest h t = past_quotes 39 text rest (omega arith) t
past_token (Number []) rest h t = absurd h.0
past_token (Number (b ∷ digits)) rest h t = (tt, past_digits digits rest h.0.1 (tail b (digits ++ rest) (digit-ascii b h.0.0) t))
past_token (Sign sign) rest h t = (tt, tail sign rest (sign-ascii sign h) t)
past_token Wrong rest h t = absurd h

covered-clean : (at : ℕ) (bytes : List ℕ) (some : List Token) → Covers at bytes some → IsText bytes → AllClean (lexemes_of some)
covered-clean at _ _ (Ended _) t = tt
covered-clean at _ _ (Commented _ b bytes h) t = tt
covered-clean at _ some (Spaced _ b bytes _ h next) t = covered-clean (at + 1) bytes some next (tail b bytes (blank-ascii b h) t)
covered-clean at _ _ (Tokened _ lexeme rest some h next) t =
    let parts : IsClean lexeme × IsText rest = past_token lexeme rest h t in
    (parts.0, covered-clean (at + length (written lexeme)) rest some next parts.1)
covered-clean at _ _ (Stuck _ b bytes n) t = (tt, tt)

-- all tokens of a text are clean
pub tokens-clean : (text : List ℕ) → IsText text → AllClean (lexemes_of (tokens text))
tokens-clean text t = covered-clean 0 text (tokens text) (tokens-cover text) t
