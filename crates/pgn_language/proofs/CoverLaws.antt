-- The tokens of a text cover it, and no others do.
use Rattle.std.proofs.Common.{◌≡◌, ◌≢◌, ℕ, zero, suc, ◌+◌, Bool, true, false, cond, ◌==◌, inl, inr, List, [], ◌∷◌, ◌++◌, length, drop, flat_map, slice_get, Option, None, Some, sym, ap, ◌∙◌, refl, subst, arith, append_assoc, length-append}
use Rattle.std.specs.Prelude.{All, take_while}
use Rattle.std.specs.List.{prefix_len}
use Rattle.std.specs.Char.{is_ascii_digit}
use Rattle.std.proofs.lemmas.Bool.{eqb-true, eq-eqb, ne_eqb, both_ways, cases_Bool, and_parts, false_from_ne_true}
use Rattle.std.proofs.lemmas.Bool.Decides.{nat_tests}
use Rattle.std.proofs.lemmas.List.{take-append-drop}
use Rattle.std.proofs.lemmas.List.Folds.{length-prefix_len}
use Rattle.std.proofs.lemmas.List.Elements.{All-nil, All-cons, All-head, All-tail}
use Rattle.std.proofs.lemmas.List.Sums.{take_while-cons}
use Rattle.pgn_language.specs.Quotes.{doubled_byte, quoted}
use Rattle.pgn_language.specs.Tokens.{Lexeme, Word, Quoted, Literal, Number, Sign, Wrong, Token, tokens, tokens_from, Inside, closed, Kind, ABlank, AComment, AWord, ANumber, ASign, AQuoted, ALiteral, ANothing, kind, Front, Blank, Comment, OneToken, NoToken, front, quoted_front, literal_front, is_blank, begins_comment, begins_word, goes_on_word, is_sign}
use Rattle.pgn_language.specs.laws.Tokens.{IsClosed, written, NoneFollows, IsWhole, NothingStands, Covers, Ended, Commented, Spaced, Tokened, Stuck}
use Rattle.pgn_language.proofs.TokenLaws.{closed-spells, closed-doubled}

-- the longest front of bytes that pass a test
while-true : (test : ℕ → Bool) (b : ℕ) (bytes : List ℕ) → test b ≡ true → take_while test (b ∷ bytes) ≡ b ∷ take_while test bytes
while-true test b bytes e = take_while-cons test b bytes ∙ ap (λ t. cond t (b ∷ take_while test bytes) []) e

while-false : (test : ℕ → Bool) (b : ℕ) (bytes : List ℕ) → test b ≡ false → take_while test (b ∷ bytes) ≡ []
while-false test b bytes e = take_while-cons test b bytes ∙ ap (λ t. cond t (b ∷ take_while test bytes) []) e

while-passes : (test : ℕ → Bool) (bytes : List ℕ) → All (λ byte. test byte ≡ true) (take_while test bytes)
while-passes test [] = let P : ℕ → Type 0 = λ byte. test byte ≡ true in All-nil P
while-passes test (b ∷ bytes) = let P : ℕ → Type 0 = λ byte. test byte ≡ true in elim (cases_Bool (test b)) [
  | inl e ↦ subst (λ (l : List ℕ). All P l) (sym (while-true test b bytes e)) (All-cons P b (take_while test bytes) e (while-passes test bytes))
  | inr e ↦ subst (λ (l : List ℕ). All P l) (sym (while-false test b bytes e)) (All-nil P)
]

while-stops : (test : ℕ → Bool) (bytes : List ℕ) → NoneFollows test (drop (length (take_while test bytes)) bytes)
while-stops test [] = tt
while-stops test (b ∷ bytes) = elim (cases_Bool (test b)) [
  | inl e ↦ subst (λ (l : List ℕ). NoneFollows test (drop (length l) (b ∷ bytes))) (sym (while-true test b bytes e)) (while-stops test bytes)
  | inr e ↦ subst (λ (l : List ℕ). NoneFollows test (drop (length l) (b ∷ bytes))) (sym (while-false test b bytes e)) e
]

while-rest : (test : ℕ → Bool) (bytes : List ℕ) → bytes ≡ take_while test bytes ++ drop (length (take_while test bytes)) bytes
while-rest test bytes = sym (ap (λ (n : ℕ). take_while test bytes ++ drop n bytes) (length-prefix_len test bytes) ∙ take-append-drop (prefix_len test bytes) bytes)

while-is : (test : ℕ → Bool) (bytes rest : List ℕ) → All (λ byte. test byte ≡ true) bytes → NoneFollows test rest → take_while test (bytes ++ rest) ≡ bytes
while-is test [] [] h n = refl
while-is test [] (b ∷ rest) h n = while-false test b rest n
while-is test (b ∷ bytes) rest h n =
    let P : ℕ → Type 0 = λ byte. test byte ≡ true in
    while-true test b (bytes ++ rest) (All-head P b bytes h) ∙ ap (λ (l : List ℕ). b ∷ l) (while-is test bytes rest (All-tail P b bytes h) n)

-- the first of some tests that passes
abbrev first_kind : Bool → Bool → Bool → Bool → Bool → Bool → Bool → Kind
first_kind a b c d e f g = cond a ABlank (cond b AComment (cond c AWord (cond d ANumber (cond e ASign (cond f AQuoted (cond g ALiteral ANothing))))))

-- what it says of the tests
abbrev Tells : Kind → Bool → Bool → Bool → Bool → Bool → Bool → Bool → Type 0
Tells ABlank a b c d e f g = a ≡ true
Tells AComment a b c d e f g = b ≡ true
Tells AWord a b c d e f g = c ≡ true
Tells ANumber a b c d e f g = d ≡ true
Tells ASign a b c d e f g = e ≡ true
Tells AQuoted a b c d e f g = f ≡ true
Tells ALiteral a b c d e f g = g ≡ true
Tells ANothing a b c d e f g = Unit {0}

first_kind-tells : (a b c d e f g : Bool) → Tells (first_kind a b c d e f g) a b c d e f g
first_kind-tells true b c d e f g = refl
first_kind-tells false true c d e f g = refl
first_kind-tells false false true d e f g = refl
first_kind-tells false false false true e f g = refl
first_kind-tells false false false false true f g = refl
first_kind-tells false false false false false true g = refl
first_kind-tells false false false false false false true = refl
first_kind-tells false false false false false false false = tt

kind-tells : (b : ℕ) (bytes : List ℕ) → Tells (kind b bytes) (is_blank b) (begins_comment b bytes) (begins_word b) (is_ascii_digit b) (is_sign b) (b == 34) (b == 39)
kind-tells b bytes = first_kind-tells (is_blank b) (begins_comment b bytes) (begins_word b) (is_ascii_digit b) (is_sign b) (b == 34) (b == 39)

first_word : (a b c d e f g : Bool) → a ≡ false → b ≡ false → c ≡ true → first_kind a b c d e f g ≡ AWord
first_word a b c d e f g ha hb hc = rw (ha, hb, hc) refl

first_number : (a b c d e f g : Bool) → a ≡ false → b ≡ false → c ≡ false → d ≡ true → first_kind a b c d e f g ≡ ANumber
first_number a b c d e f g ha hb hc hd = rw (ha, hb, hc, hd) refl

first_sign : (a b c d e f g : Bool) → a ≡ false → b ≡ false → c ≡ false → d ≡ false → e ≡ true → first_kind a b c d e f g ≡ ASign
first_sign a b c d e f g ha hb hc hd he = rw (ha, hb, hc, hd, he) refl

pub no_comment : (b : ℕ) (bytes : List ℕ) → (b == 45) ≡ false → begins_comment b bytes ≡ false
no_comment b [] h = refl
no_comment b (c ∷ bytes) h = rw h refl

comment_byte : (b : ℕ) (bytes : List ℕ) → begins_comment b bytes ≡ true → b ≡ 45
comment_byte b [] h = absurd (cc)
comment_byte b (c ∷ bytes) h = eqb-true b 45 (and_parts (b == 45) (c == 45) h).0

word_tests : (b : ℕ) → begins_word b ≡ true → (is_blank b ≡ false) × ((b == 45) ≡ false)
word_tests b h = (grind (arith, nat_tests), grind (arith, nat_tests))

number_tests : (b : ℕ) → is_ascii_digit b ≡ true → (is_blank b ≡ false) × ((b == 45) ≡ false) × (begins_word b ≡ false)
number_tests b h = (grind (arith, nat_tests), grind (arith, nat_tests), grind (arith, nat_tests))

sign_tests : (b : ℕ) → is_sign b ≡ true → (is_blank b ≡ false) × ((b == 45) ≡ false) × (begins_word b ≡ false) × (is_ascii_digit b ≡ false)
sign_tests b h = (grind (arith, nat_tests), grind (arith, nat_tests), grind (arith, nat_tests), grind (arith, nat_tests))

kind-word : (b : ℕ) (bytes : List ℕ) → begins_word b ≡ true → kind b bytes ≡ AWord
kind-word b bytes h =
    let t : (is_blank b ≡ false) × ((b == 45) ≡ false) = word_tests b h in
    first_word (is_blank b) (begins_comment b bytes) (begins_word b) (is_ascii_digit b) (is_sign b) (b == 34) (b == 39) t.0 (no_comment b bytes t.1) h

kind-number : (b : ℕ) (bytes : List ℕ) → is_ascii_digit b ≡ true → kind b bytes ≡ ANumber
kind-number b bytes h =
    let t : (is_blank b ≡ false) × ((b == 45) ≡ false) × (begins_word b ≡ false) = number_tests b h in
    first_number (is_blank b) (begins_comment b bytes) (begins_word b) (is_ascii_digit b) (is_sign b) (b == 34) (b == 39) t.0 (no_comment b bytes t.1) t.2 h

kind-sign : (b : ℕ) (bytes : List ℕ) → is_sign b ≡ true → kind b bytes ≡ ASign
kind-sign b bytes h =
    let t : (is_blank b ≡ false) × ((b == 45) ≡ false) × (begins_word b ≡ false) × (is_ascii_digit b ≡ false) = sign_tests b h in
    first_sign (is_blank b) (begins_comment b bytes) (begins_word b) (is_ascii_digit b) (is_sign b) (b == 34) (b == 39) t.0 (no_comment b bytes t.1) t.2 t.3 h

kind-quoted : (bytes : List ℕ) → kind 34 bytes ≡ AQuoted
kind-quoted [] = refl
kind-quoted (c ∷ bytes) = refl

kind-literal : (bytes : List ℕ) → kind 39 bytes ≡ ALiteral
kind-literal [] = refl
kind-literal (c ∷ bytes) = refl

-- what stands at the front of a blank
pub front-blank : (b : ℕ) (bytes : List ℕ) → is_blank b ≡ true → front (kind b bytes) b bytes ≡ Blank
front-blank b bytes h =
    let k : kind b bytes ≡ ABlank = ap (λ t. first_kind t (begins_comment b bytes) (begins_word b) (is_ascii_digit b) (is_sign b) (b == 34) (b == 39)) h in
    ap (λ (x : Kind). front x b bytes) k

-- and of a comment
pub front-comment : (b : ℕ) (bytes : List ℕ) → begins_comment b bytes ≡ true → front (kind b bytes) b bytes ≡ Comment
front-comment b bytes h =
    let blank : is_blank b ≡ false = ap is_blank (comment_byte b bytes h) in
    let k : kind b bytes ≡ AComment =
    ap (λ t. first_kind t (begins_comment b bytes) (begins_word b) (is_ascii_digit b) (is_sign b) (b == 34) (b == 39)) blank
    ∙ ap (λ t. first_kind false t (begins_word b) (is_ascii_digit b) (is_sign b) (b == 34) (b == 39)) h in
    ap (λ (x : Kind). front x b bytes) k

-- no quote follows
none-get : (quote : ℕ) (rest : List ℕ) → NoneFollows (λ byte. byte == quote) rest → slice_get rest 0 ≢ Some quote
none-get quote [] h x = absurd (cc)
none-get quote (c ∷ rest) h x = let e : c ≡ quote = cc in both_ways (c == quote) h (eq-eqb c quote e)

get-none : (quote : ℕ) (rest : List ℕ) → slice_get rest 0 ≢ Some quote → NoneFollows (λ byte. byte == quote) rest
get-none quote [] h = tt
get-none quote (c ∷ rest) h = ne_eqb c quote (λ e. h (ap (λ (n : ℕ). Some n) e))

length-quoted : (quote : ℕ) (text : List ℕ) → length (quoted quote text) ≡ (length (flat_map (doubled_byte quote) text) + 1) + 1
length-quoted quote text = omega (arith, length-append (flat_map (doubled_byte quote) text) (quote ∷ []))

closed-quoted : (quote : ℕ) (text rest : List ℕ) → NoneFollows (λ byte. byte == quote) rest
    → closed quote ((flat_map (doubled_byte quote) text ++ quote ∷ []) ++ rest) ≡ Some (record { text = text; size = length (flat_map (doubled_byte quote) text) + 1 })
closed-quoted quote text rest h =
    ap (closed quote) (append_assoc (flat_map (doubled_byte quote) text) (quote ∷ []) rest) ∙ closed-doubled quote text rest (none-get quote rest h)

-- what stands at the front of some bytes
abbrev pub front_of : List ℕ → Front
front_of [] = NoToken
front_of (b ∷ bytes) = front (kind b bytes) b bytes

-- a token is at the front, and takes so many bytes after its first
abbrev pub Leads : List ℕ → Lexeme → Type 0
Leads bytes lexeme = (more : ℕ) × (front_of bytes ≡ OneToken lexeme more) × (length (written lexeme) ≡ more + 1)

quoted_front-some : (text : List ℕ) (size : ℕ) → text ≢ [] → quoted_front (Some (record { text = text; size = size })) ≡ OneToken (Quoted text) size
quoted_front-some [] size h = absurd (h refl)
quoted_front-some (c ∷ text) size h = refl

-- a whole token leads the text that it begins
pub whole-leads : (lexeme : Lexeme) (rest : List ℕ) → IsWhole lexeme rest → Leads (written lexeme ++ rest) lexeme
whole-leads (Word []) rest h = absurd h.0
whole-leads (Word (b ∷ text)) rest h = (
  length text,
  ap (λ (k : Kind). front k b (text ++ rest)) (kind-word b (text ++ rest) h.0.0) ∙ ap (λ (l : List ℕ). OneToken (Word (b ∷ l)) (length l)) (while-is goes_on_word text rest h.0.1 h.1),
  omega arith,
)
whole-leads (Quoted text) rest h =
    let bytes : List ℕ = (flat_map (doubled_byte 34) text ++ 34 ∷ []) ++ rest in (
      length (flat_map (doubled_byte 34) text) + 1,
      ap (λ (k : Kind). front k 34 bytes) (kind-quoted bytes) ∙ ap quoted_front (closed-quoted 34 text rest h.1) ∙ quoted_front-some text (length (flat_map (doubled_byte 34) text) + 1) h.0,
      length-quoted 34 text,
    )
whole-leads (Literal text) rest h =
    let bytes : List ℕ = (flat_map (doubled_byte 39) text ++ 39 ∷ []) ++ rest in (
      length (flat_map (doubled_byte 39) text) + 1,
      ap (λ (k : Kind). front k 39 bytes) (kind-literal bytes) ∙ ap literal_front (closed-quoted 39 text rest h),
      length-quoted 39 text,
    )
whole-leads (Number []) rest h = absurd h.0
whole-leads (Number (b ∷ digits)) rest h = (
  length digits,
  ap (λ (k : Kind). front k b (digits ++ rest)) (kind-number b (digits ++ rest) h.0.0) ∙ ap (λ (l : List ℕ). OneToken (Number (b ∷ l)) (length l)) (while-is is_ascii_digit digits rest h.0.1 h.1),
  omega arith,
)
whole-leads (Sign sign) rest h = (0, ap (λ (k : Kind). front k sign rest) (kind-sign sign rest h), refl)
whole-leads Wrong rest h = absurd h

-- what a front says of the bytes
abbrev pub Says : ℕ → List ℕ → Front → Type 0
Says b bytes Blank = is_blank b ≡ true
Says b bytes Comment = begins_comment b bytes ≡ true
Says b bytes (OneToken lexeme more) = IsWhole lexeme (drop more bytes) × (b ∷ bytes ≡ written lexeme ++ drop more bytes) × (length (written lexeme) ≡ more + 1)
Says b bytes NoToken = Unit {0}

-- what is closed after a quote is a text between quotes
closed-says : (quote : ℕ) (bytes text : List ℕ) (size : ℕ) → closed quote bytes ≡ Some (record { text = text; size = size })
    → NoneFollows (λ byte. byte == quote) (drop size bytes) × (quote ∷ bytes ≡ quoted quote text ++ drop size bytes) × (length (quoted quote text) ≡ size + 1)
closed-says quote bytes text size e =
    let c : IsClosed quote bytes (record { text = text; size = size }) = closed-spells quote bytes (record { text = text; size = size }) e in (
      get-none quote (drop size bytes) c.ends,
      ap (λ (l : List ℕ). quote ∷ l) (c.spelled ∙ sym (append_assoc (flat_map (doubled_byte quote) text) (quote ∷ []) (drop size bytes))),
      length-quoted quote text ∙ ap (λ (n : ℕ). n + 1) (sym c.size),
    )

quoted-says : (bytes text : List ℕ) (size : ℕ) → closed 34 bytes ≡ Some (record { text = text; size = size }) → Says 34 bytes (quoted_front (Some (record { text = text; size = size })))
quoted-says bytes [] size e = tt
quoted-says bytes (c ∷ text) size e =
    let s : NoneFollows (λ byte. byte == 34) (drop size bytes) × (34 ∷ bytes ≡ quoted 34 (c ∷ text) ++ drop size bytes) × (length (quoted 34 (c ∷ text)) ≡ size + 1) = closed-says 34 bytes (c ∷ text) size e in
    let some : c ∷ text ≢ [] = λ h. absurd (cc) in
    ((some, s.0), s.1, s.2)

quoted_front-says : (bytes : List ℕ) (o : Option Inside) → closed 34 bytes ≡ o → Says 34 bytes (quoted_front o)
quoted_front-says bytes None e = tt
quoted_front-says bytes (Some inside) e = quoted-says bytes inside.text inside.size e

literal_front-says : (bytes : List ℕ) (o : Option Inside) → closed 39 bytes ≡ o → Says 39 bytes (literal_front o)
literal_front-says bytes None e = tt
literal_front-says bytes (Some inside) e = closed-says 39 bytes inside.text inside.size e

kind-says : (k : Kind) (b : ℕ) (bytes : List ℕ) → Tells k (is_blank b) (begins_comment b bytes) (begins_word b) (is_ascii_digit b) (is_sign b) (b == 34) (b == 39) → Says b bytes (front k b bytes)
kind-says ABlank b bytes h = h
kind-says AComment b bytes h = h
kind-says AWord b bytes h = (((h, while-passes goes_on_word bytes), while-stops goes_on_word bytes), ap (λ (l : List ℕ). b ∷ l) (while-rest goes_on_word bytes), omega arith)
kind-says ANumber b bytes h = (((h, while-passes is_ascii_digit bytes), while-stops is_ascii_digit bytes), ap (λ (l : List ℕ). b ∷ l) (while-rest is_ascii_digit bytes), omega arith)
kind-says ASign b bytes h = (h, refl, refl)
kind-says AQuoted b bytes h = subst (λ (x : ℕ). Says x bytes (quoted_front (closed x bytes))) (sym (eqb-true b 34 h)) (quoted_front-says bytes (closed 34 bytes) refl)
kind-says ALiteral b bytes h = subst (λ (x : ℕ). Says x bytes (literal_front (closed x bytes))) (sym (eqb-true b 39 h)) (literal_front-says bytes (closed 39 bytes) refl)
kind-says ANothing b bytes h = tt

-- the front says what stands there
pub front-says : (b : ℕ) (bytes : List ℕ) → Says b bytes (front (kind b bytes) b bytes)
front-says b bytes = kind-says (kind b bytes) b bytes (kind-tells b bytes)

-- a front that is no token has nothing
nothing-stands : (b : ℕ) (bytes : List ℕ) → front (kind b bytes) b bytes ≡ NoToken → NothingStands b bytes
nothing-stands b bytes e = record {
  no_blank = false_from_ne_true (is_blank b) (λ h. let p : Blank ≡ NoToken = sym (front-blank b bytes h) ∙ e in absurd (cc));
  no_comment = false_from_ne_true (begins_comment b bytes) (λ h. let p : Comment ≡ NoToken = sym (front-comment b bytes h) ∙ e in absurd (cc));
  no_token = λ lexeme rest same h.
      let leads : Leads (written lexeme ++ rest) lexeme = whole-leads lexeme rest h in
      let p : OneToken lexeme leads.0 ≡ NoToken = sym leads.1 ∙ sym (ap front_of same) ∙ e in absurd (cc);
}

-- the tokens of bytes after the first, from what stands at the front
abbrev pub after_front : ℕ → List ℕ → Front → List Token
after_front at bytes f = elim f [
  | Blank ↦ tokens_from (at + 1) 0 bytes
  | Comment ↦ []
  | OneToken lexeme more ↦ record { lexeme = lexeme; at = at } ∷ tokens_from (at + 1) more bytes
  | NoToken ↦ record { lexeme = Wrong; at = at } ∷ []
]

cover-front : (at b : ℕ) (bytes : List ℕ) (f : Front) → Says b bytes f → front (kind b bytes) b bytes ≡ f
    → ((taken : ℕ) → Covers ((at + 1) + taken) (drop taken bytes) (tokens_from (at + 1) taken bytes)) → Covers at (b ∷ bytes) (after_front at bytes f)
cover-front at b bytes Blank s e next =
    let more : Covers (at + 1) bytes (tokens_from (at + 1) 0 bytes) = subst (λ (n : ℕ). Covers n bytes (tokens_from (at + 1) 0 bytes)) (omega arith) (next 0) in
    Spaced at b bytes (tokens_from (at + 1) 0 bytes) s more
cover-front at b bytes Comment s e next = Commented at b bytes s
cover-front at b bytes (OneToken lexeme more) s e next =
    let rest : Covers (at + length (written lexeme)) (drop more bytes) (tokens_from (at + 1) more bytes) =
    subst (λ (n : ℕ). Covers n (drop more bytes) (tokens_from (at + 1) more bytes)) (omega (arith, s.2)) (next more) in
    subst (λ (l : List ℕ). Covers at l (record { lexeme = lexeme; at = at } ∷ tokens_from (at + 1) more bytes)) (sym s.1) (Tokened at lexeme (drop more bytes) (tokens_from (at + 1) more bytes) s.0 rest)
cover-front at b bytes NoToken s e next = Stuck at b bytes (nothing-stands b bytes e)

cover-from : (at taken : ℕ) (bytes : List ℕ) → Covers (at + taken) (drop taken bytes) (tokens_from at taken bytes)
cover-from at zero [] = Ended (at + 0)
cover-from at (suc taken) [] = Ended (at + suc taken)
cover-from at (suc taken) (b ∷ bytes) = subst (λ (n : ℕ). Covers n (drop taken bytes) (tokens_from (at + 1) taken bytes)) (omega arith) (cover-from (at + 1) taken bytes)
cover-from at zero (b ∷ bytes) = subst (λ (n : ℕ). Covers n (b ∷ bytes) (tokens_from at 0 (b ∷ bytes))) (omega arith)
    (cover-front at b bytes (front (kind b bytes) b bytes) (front-says b bytes) refl (λ taken. cover-from (at + 1) taken bytes))

-- the tokens of a text cover it from its first byte on
pub tokens-cover : (text : List ℕ) → Covers 0 text (tokens text)
tokens-cover text = cover-from 0 0 text
