-- One token, and those after it.
use Rattle.std.proofs.Common.{◌≡◌, ◌≢◌, ℕ, suc, ◌+◌, ◌<◌, ◌≤◌, ◌==◌, true, false, inl, inr, List, [], ◌∷◌, take, drop, length, get_or, Option, None, Some, sym, ap, ◌∙◌, refl, subst, arith, IsUtf8, IsCharBoundary, length-drop}
use Rattle.std.specs.List.{prefix_len}
use Rattle.std.specs.Char.{is_ascii_digit, digit_value}
use Rattle.std.specs.Str.Parse.{IsNumeral, AllDigits}
use Rattle.std.proofs.lemmas.List.Folds.{length-prefix_len}
use Rattle.std.proofs.lemmas.Str.{IsCharBoundary-after_ascii}
use Rattle.pgn_language.specs.Tokens.{Lexeme, Word, Number, Sign, Quoted, Literal, Token, tokens_from, Inside, closed, NoToken, OneToken, AWord, ANumber, ASign, AQuoted, ALiteral, goes_on_word, quoted_front, literal_front}
use Rattle.pgn_language.proofs.SlotLaws.{tokens-skip}
use Rattle.std.proofs.lemmas.Bool.{eqb-true, eqb-false, cases_Bool}
use Rattle.std.proofs.lemmas.Bool.Decides.{nat_tests}
use Rattle.pgn_command.specs.Texts.{single, IsInside}
use denote.Bor.{Bor}
use Rattle.pgn_command.specs.Lexing.{shown, EndsAt, HasDigits, Starts, IsStuck, IsRead}
use Rattle.pgn_command.specs.declared.bytes.Start.{Start as Begins}
use Rattle.pgn_command.specs.declared.token.Lexeme.{Lexeme as Kinds}
use Rattle.pgn_command.specs.declared.enclosed.Enclosed.{Enclosed as Found}
use Rattle.pgn_command.specs.declared.bytes.Start.TheVariants as start
use Rattle.pgn_command.specs.declared.token.Lexeme.TheVariants as lexeme
use Rattle.pgn_command.proofs.GapLaws.{of_kind, after_front, front-passes, front-fails, front-bound, begins-goes_on, sign-ascii}
use Rattle.pgn_command.proofs.QuoteLaws.{once-some}

abbrev one : Lexeme → ℕ → List Token → List Token
one lexeme at tokens = let token : Token = record { lexeme = lexeme; at = at } in token ∷ tokens

-- a token of some bytes, and what follows it
past-token : (at b : ℕ) (bytes : List ℕ) (lexeme : Lexeme) (n : ℕ) → tokens_from at 0 (b ∷ bytes) ≡ one lexeme at (tokens_from (at + 1) n bytes)
    → tokens_from at 0 (b ∷ bytes) ≡ one lexeme at (tokens_from (at + suc n) 0 (drop (suc n) (b ∷ bytes)))
past-token at b bytes lexeme n e =
    e ∙ ap (λ (ts : List Token). one lexeme at ts) (tokens-skip (at + 1) n bytes ∙ ap (λ (k : ℕ). tokens_from k 0 (drop n bytes)) (omega arith))

-- a word is as long as it can be
pub past-word : (at : ℕ) (rest : List ℕ) → Starts start.Word rest
    → tokens_from at 0 rest ≡ one (Word (take (prefix_len goes_on_word rest) rest)) at (tokens_from (at + prefix_len goes_on_word rest) 0 (drop (prefix_len goes_on_word rest) rest))
past-word at [] h = absurd h
past-word at (b ∷ bytes) h =
    let n : ℕ = prefix_len goes_on_word bytes in
    let long : prefix_len goes_on_word (b ∷ bytes) ≡ suc n = front-passes goes_on_word b bytes (begins-goes_on b h.1) in
    let word : Lexeme = Word (b ∷ take n bytes) in
    let first : tokens_from at 0 (b ∷ bytes) ≡ one word at (tokens_from (at + suc n) 0 (drop (suc n) (b ∷ bytes))) =
    past-token at b bytes word n (of_kind at b bytes AWord h.0 ∙ ap (λ (k : ℕ). one word at (tokens_from (at + 1) k bytes)) (length-prefix_len goes_on_word bytes)) in
    first ∙ ap (λ (k : ℕ). one (Word (take k (b ∷ bytes))) at (tokens_from (at + k) 0 (drop k (b ∷ bytes)))) (sym long)

-- so is a number
pub past-number : (at : ℕ) (rest : List ℕ) → Starts start.Number rest
    → tokens_from at 0 rest ≡ one (Number (take (prefix_len is_ascii_digit rest) rest)) at (tokens_from (at + prefix_len is_ascii_digit rest) 0 (drop (prefix_len is_ascii_digit rest) rest))
past-number at [] h = absurd h
past-number at (b ∷ bytes) h =
    let n : ℕ = prefix_len is_ascii_digit bytes in
    let long : prefix_len is_ascii_digit (b ∷ bytes) ≡ suc n = front-passes is_ascii_digit b bytes h.1 in
    let number : Lexeme = Number (b ∷ take n bytes) in
    let first : tokens_from at 0 (b ∷ bytes) ≡ one number at (tokens_from (at + suc n) 0 (drop (suc n) (b ∷ bytes))) =
    past-token at b bytes number n (of_kind at b bytes ANumber h.0 ∙ ap (λ (k : ℕ). one number at (tokens_from (at + 1) k bytes)) (length-prefix_len is_ascii_digit bytes)) in
    first ∙ ap (λ (k : ℕ). one (Number (take k (b ∷ bytes))) at (tokens_from (at + k) 0 (drop k (b ∷ bytes)))) (sym long)

pub past-sign : (at b : ℕ) (bytes : List ℕ) → Starts start.Sign (b ∷ bytes) → tokens_from at 0 (b ∷ bytes) ≡ one (Sign b) at (tokens_from (at + 1) 0 (drop 1 (b ∷ bytes)))
past-sign at b bytes h = let sign : Lexeme = Sign b in past-token at b bytes sign 0 (of_kind at b bytes ASign h.0)

two : (n : ℕ) → suc (n + 1) ≡ n + 2
two n = omega arith

-- a literal is what is closed
inside_literal : (at : ℕ) (bytes raw : List ℕ) → IsInside 39 bytes 39 raw → Starts start.Literal (39 ∷ bytes)
    → tokens_from at 0 (39 ∷ bytes) ≡ one (Literal (single 39 raw)) at (tokens_from (at + (length raw + 2)) 0 (drop (length raw + 2) (39 ∷ bytes)))
inside_literal at bytes raw h k =
    let text : Lexeme = Literal (single 39 raw) in
    let front_is : literal_front (closed 39 bytes) ≡ OneToken text (length raw + 1) = ap literal_front h.closes in
    past-token at 39 bytes text (length raw + 1) (of_kind at 39 bytes ALiteral k.0 ∙ ap (after_front at bytes) front_is)
    ∙ ap (λ (n : ℕ). one text at (tokens_from (at + n) 0 (drop n (39 ∷ bytes)))) (two (length raw))

pub past-literal : (at : ℕ) (rest raw : List ℕ) → Starts start.Literal rest → IsInside 39 (drop 1 rest) 39 raw
    → tokens_from at 0 rest ≡ one (Literal (single 39 raw)) at (tokens_from (at + (length raw + 2)) 0 (drop (length raw + 2) rest))
past-literal at [] raw k h = absurd k
past-literal at (b ∷ bytes) raw k h =
    let e : 39 ≡ b = sym k.1 in
    subst (λ (x : ℕ). tokens_from at 0 (x ∷ bytes) ≡ one (Literal (single 39 raw)) at (tokens_from (at + (length raw + 2)) 0 (drop (length raw + 2) (x ∷ bytes)))) e
    (inside_literal at bytes raw h (subst (λ (x : ℕ). Starts start.Literal (x ∷ bytes)) k.1 k))

-- behind a quote that no other closes nothing is read
pub open-literal : (at : ℕ) (rest : List ℕ) → Starts start.Literal rest → closed 39 (drop 1 rest) ≡ None → IsStuck at rest
open-literal at [] k h = absurd k
open-literal at (b ∷ bytes) k h =
    of_kind at b bytes ALiteral k.0 ∙ ap (λ (x : ℕ). after_front at bytes (literal_front (closed x bytes))) k.1 ∙ ap (λ (o : Option Inside). after_front at bytes (literal_front o)) h

-- a quoted identifier too, if it has a character
quoted_front-some : (text : List ℕ) (size : ℕ) → text ≢ [] → quoted_front (Some (record { text = text; size = size })) ≡ OneToken (Quoted text) size
quoted_front-some [] size h = absurd (h refl)
quoted_front-some (c ∷ text) size h = refl

inside_quoted : (at : ℕ) (bytes raw : List ℕ) → IsInside 34 bytes 34 raw → raw ≢ [] → Starts start.Quoted (34 ∷ bytes)
    → tokens_from at 0 (34 ∷ bytes) ≡ one (Quoted (single 34 raw)) at (tokens_from (at + (length raw + 2)) 0 (drop (length raw + 2) (34 ∷ bytes)))
inside_quoted at bytes raw h some k =
    let text : Lexeme = Quoted (single 34 raw) in
    let front_is : quoted_front (closed 34 bytes) ≡ OneToken text (length raw + 1) = ap quoted_front h.closes ∙ quoted_front-some (single 34 raw) (length raw + 1) (once-some 34 raw some) in
    past-token at 34 bytes text (length raw + 1) (of_kind at 34 bytes AQuoted k.0 ∙ ap (after_front at bytes) front_is)
    ∙ ap (λ (n : ℕ). one text at (tokens_from (at + n) 0 (drop n (34 ∷ bytes)))) (two (length raw))

pub past-quoted : (at : ℕ) (rest raw : List ℕ) → Starts start.Quoted rest → IsInside 34 (drop 1 rest) 34 raw → raw ≢ []
    → tokens_from at 0 rest ≡ one (Quoted (single 34 raw)) at (tokens_from (at + (length raw + 2)) 0 (drop (length raw + 2) rest))
past-quoted at [] raw k h some = absurd k
past-quoted at (b ∷ bytes) raw k h some =
    let e : 34 ≡ b = sym k.1 in
    subst (λ (x : ℕ). tokens_from at 0 (x ∷ bytes) ≡ one (Quoted (single 34 raw)) at (tokens_from (at + (length raw + 2)) 0 (drop (length raw + 2) (x ∷ bytes)))) e
    (inside_quoted at bytes raw h some (subst (λ (x : ℕ). Starts start.Quoted (x ∷ bytes)) k.1 k))

-- behind a double quote that no other closes nothing is read
pub open-quoted : (at : ℕ) (rest : List ℕ) → Starts start.Quoted rest → closed 34 (drop 1 rest) ≡ None → IsStuck at rest
open-quoted at [] k h = absurd k
open-quoted at (b ∷ bytes) k h =
    of_kind at b bytes AQuoted k.0 ∙ ap (λ (x : ℕ). after_front at bytes (quoted_front (closed x bytes))) k.1 ∙ ap (λ (o : Option Inside). after_front at bytes (quoted_front o)) h

pub empty-quoted : (at : ℕ) (rest raw : List ℕ) → Starts start.Quoted rest → IsInside 34 (drop 1 rest) 34 raw → raw ≡ [] → IsStuck at rest
empty-quoted at [] raw k h none = absurd k
empty-quoted at (b ∷ bytes) raw k h none =
    let front_is : quoted_front (closed 34 bytes) ≡ NoToken =
    ap quoted_front (h.closes ∙ ap (λ (t : List ℕ). let i : Inside = record { text = single 34 t; size = length raw + 1 } in Some i) none) in
    of_kind at b bytes AQuoted k.0 ∙ ap (λ (x : ℕ). after_front at bytes (quoted_front (closed x bytes))) k.1 ∙ ap (after_front at bytes) front_is

-- after a closing quote a character begins
pub closed-boundary : (rest raw : List ℕ) (quote : ℕ) → IsUtf8 rest → quote < 128 → 1 ≤ length rest → IsInside quote (drop 1 rest) quote raw → IsCharBoundary rest (length raw + 2)
closed-boundary [] raw quote u l some h = absurd (omega (arith, h.short))
closed-boundary (b ∷ bytes) raw quote u l some h =
    let last : get_or bytes (length raw) 0 ≡ quote = h.last in
    let short : length raw + 1 ≤ length bytes = h.short in
    let at : IsCharBoundary (b ∷ bytes) (suc (length raw) + 1) = IsCharBoundary-after_ascii (b ∷ bytes) (suc (length raw)) u (omega arith) (omega (arith, last)) in
    subst (λ (n : ℕ). IsCharBoundary (b ∷ bytes) n) (omega arith) at

-- a token of the first n bytes is read
read-front : (at : ℕ) (rest : List ℕ) (n next : ℕ) (left : List ℕ) (token : Kinds) (whole : tokens_from at 0 rest ≡ shown token at (tokens_from (at + n) 0 (drop n rest))) → n ≤ length rest → next ≡ at + n → left ≡ drop n rest
    → EndsAt token at left (at + length rest) → HasDigits token → IsRead token at rest next left
read-front at rest n next left token whole l e f ends digits = record {
  tokens = whole ∙ ap (λ (k : ℕ). shown token at (tokens_from k 0 (drop n rest))) (sym e) ∙ ap (λ (r : List ℕ). shown token at (tokens_from next 0 r)) (sym f);
  same_end = omega (arith, e, ap length f, length-drop n rest);
  end = ends;
  digits = digits;
}

-- the bytes that go on with a word are read as this word
pub read-word : (at : ℕ) (rest : List ℕ) (n next : ℕ) (left : List ℕ) (text : Bor (List ℕ)) → Starts start.Word rest → n ≡ prefix_len goes_on_word rest → text.now ≡ take n rest → next ≡ at + n → left ≡ drop n rest
    → IsRead (lexeme.Word text) at rest next left
read-word at rest n next left text h long t e f =
    let whole : tokens_from at 0 rest ≡ one (Word (take n rest)) at (tokens_from (at + n) 0 (drop n rest)) =
    past-word at rest h ∙ ap (λ (k : ℕ). one (Word (take k rest)) at (tokens_from (at + k) 0 (drop k rest))) (sym long) in
    read-front at rest n next left (lexeme.Word text) (whole ∙ ap (λ (w : List ℕ). one (Word w) at (tokens_from (at + n) 0 (drop n rest))) (sym t)) (omega (arith, long, front-bound goes_on_word rest)) e f tt tt

digit : (b : ℕ) → is_ascii_digit b ≡ true → digit_value b < 10
digit b h = grind (arith, nat_tests)

all_digits : (bytes : List ℕ) → AllDigits 10 (take (prefix_len is_ascii_digit bytes) bytes)
all_digits [] = tt
all_digits (b ∷ bytes) = elim (cases_Bool (is_ascii_digit b)) [
  | inl e ↦ subst (λ (k : ℕ). AllDigits 10 (take k (b ∷ bytes))) (sym (front-passes is_ascii_digit b bytes e)) (digit b e, all_digits bytes)
  | inr e ↦ subst (λ (k : ℕ). AllDigits 10 (take k (b ∷ bytes))) (sym (front-fails is_ascii_digit b bytes e)) tt
]

numeral : (rest : List ℕ) → Starts start.Number rest → IsNumeral 10 (take (prefix_len is_ascii_digit rest) rest)
numeral [] h = absurd h
numeral (b ∷ bytes) h =
    let some : 0 < length (take (prefix_len is_ascii_digit (b ∷ bytes)) (b ∷ bytes)) =
    subst (λ (k : ℕ). 0 < length (take k (b ∷ bytes))) (sym (front-passes is_ascii_digit b bytes h.1)) (omega arith) in
    (some, all_digits (b ∷ bytes))

-- the digits at the front are read as their number
pub read-number : (at : ℕ) (rest : List ℕ) (n next : ℕ) (left : List ℕ) (text : Bor (List ℕ)) → Starts start.Number rest → n ≡ prefix_len is_ascii_digit rest → text.now ≡ take n rest → next ≡ at + n → left ≡ drop n rest
    → IsRead (lexeme.Number text) at rest next left
read-number at rest n next left text h long t e f =
    let whole : tokens_from at 0 rest ≡ one (Number (take n rest)) at (tokens_from (at + n) 0 (drop n rest)) =
    past-number at rest h ∙ ap (λ (k : ℕ). one (Number (take k rest)) at (tokens_from (at + k) 0 (drop k rest))) (sym long) in
    read-front at rest n next left (lexeme.Number text) (whole ∙ ap (λ (w : List ℕ). one (Number w) at (tokens_from (at + n) 0 (drop n rest))) (sym t)) (omega (arith, long, front-bound is_ascii_digit rest)) e f tt
    (subst (λ (ds : List ℕ). IsNumeral 10 ds) (ap (λ (k : ℕ). take k rest) (sym long) ∙ sym t) (numeral rest h))

-- where something begins a byte stands
pub starts-some : (start : Begins) (rest : List ℕ) → Starts start rest → 1 ≤ length rest
starts-some start [] h = absurd h
starts-some start (b ∷ rest) h = omega arith

read_sign : (at b : ℕ) (bytes : List ℕ) (next : ℕ) (left : List ℕ) → Starts start.Sign (b ∷ bytes) → next ≡ at + 1 → left ≡ drop 1 (b ∷ bytes) → IsRead (lexeme.Sign b) at (b ∷ bytes) next left
read_sign at b bytes next left h e f = read-front at (b ∷ bytes) 1 next left (lexeme.Sign b) (past-sign at b bytes h) (omega arith) e f tt tt

-- a sign is read as itself
pub read-sign : (at : ℕ) (rest : List ℕ) (b next : ℕ) (left : List ℕ) → Starts start.Sign rest → b ≡ get_or rest 0 0 → next ≡ at + 1 → left ≡ drop 1 rest → IsRead (lexeme.Sign b) at rest next left
read-sign at [] b next left h e f g = absurd h
read-sign at (c ∷ bytes) b next left h e f g = subst (λ (x : ℕ). IsRead (lexeme.Sign x) at (c ∷ bytes) next left) (sym e) (read_sign at c bytes next left h f g)

-- behind a sign a character begins
pub sign-boundary : (rest : List ℕ) → IsUtf8 rest → Starts start.Sign rest → IsCharBoundary rest 1
sign-boundary [] u h = absurd h
sign-boundary (b ∷ bytes) u h = IsCharBoundary-after_ascii (b ∷ bytes) 0 u (omega arith) (sign-ascii b h.1)

-- after an opening quote a character begins
pub quoted-boundary : (rest : List ℕ) → IsUtf8 rest → Starts start.Quoted rest → IsCharBoundary rest 1
quoted-boundary [] u h = absurd h
quoted-boundary (b ∷ bytes) u h = IsCharBoundary-after_ascii (b ∷ bytes) 0 u (omega arith) (omega (arith, h.1))

-- so it does behind the opening quote of a literal
pub literal-boundary : (rest : List ℕ) → IsUtf8 rest → Starts start.Literal rest → IsCharBoundary rest 1
literal-boundary [] u h = absurd h
literal-boundary (b ∷ bytes) u h = IsCharBoundary-after_ascii (b ∷ bytes) 0 u (omega arith) (omega (arith, h.1))

-- what stands between two quotes is read as a literal
pub read-literal : (at : ℕ) (rest : List ℕ) (next : ℕ) (left : List ℕ) (inside : Found) → Starts start.Literal rest → IsInside 39 (drop 1 rest) inside.quote inside.raw.now → next ≡ at + (length inside.raw.now + 2) → left ≡ drop (length inside.raw.now + 2) rest
    → IsRead (lexeme.Literal inside) at rest next left
read-literal at rest next left inside h k e f =
    let i : IsInside 39 (drop 1 rest) 39 inside.raw.now = subst (λ (q : ℕ). IsInside 39 (drop 1 rest) q inside.raw.now) k.quote_is k in
    read-front at rest (length inside.raw.now + 2) next left (lexeme.Literal inside) (past-literal at rest inside.raw.now h i ∙ ap (λ (q : ℕ). one (Literal (single q inside.raw.now)) at (tokens_from (at + (length inside.raw.now + 2)) 0 (drop (length inside.raw.now + 2) rest))) (sym k.quote_is)) (omega (arith, i.short, length-drop 1 rest)) e f tt tt

-- what stands between two double quotes is read as an identifier, if it has a byte
pub read-quoted : (at : ℕ) (rest : List ℕ) (next : ℕ) (left : List ℕ) (inside : Found) → Starts start.Quoted rest → IsInside 34 (drop 1 rest) inside.quote inside.raw.now → inside.raw.now ≢ [] → next ≡ at + (length inside.raw.now + 2)
    → left ≡ drop (length inside.raw.now + 2) rest → IsRead (lexeme.Quoted inside) at rest next left
read-quoted at rest next left inside h k some e f =
    let i : IsInside 34 (drop 1 rest) 34 inside.raw.now = subst (λ (q : ℕ). IsInside 34 (drop 1 rest) q inside.raw.now) k.quote_is k in
    read-front at rest (length inside.raw.now + 2) next left (lexeme.Quoted inside) (past-quoted at rest inside.raw.now h i some ∙ ap (λ (q : ℕ). one (Quoted (single q inside.raw.now)) at (tokens_from (at + (length inside.raw.now + 2)) 0 (drop (length inside.raw.now + 2) rest))) (sym k.quote_is)) (omega (arith, i.short, length-drop 1 rest)) e f tt tt

-- a text with a length other than zero has a byte
pub none-some : (raw : List ℕ) → (length raw == 0) ≡ false → raw ≢ []
none-some raw h e = eqb-false (length raw) 0 h (ap length e)

-- a text of length zero has none
pub some-none : (raw : List ℕ) → (length raw == 0) ≡ true → raw ≡ []
some-none [] h = refl
some-none (b ∷ raw) h = absurd (omega (arith, eqb-true (suc (length raw)) 0 h))

-- two double quotes with nothing between them are no token
pub stuck-empty : (at : ℕ) (rest : List ℕ) (inside : Found) → Starts start.Quoted rest → IsInside 34 (drop 1 rest) inside.quote inside.raw.now → inside.raw.now ≡ [] → IsStuck at rest
stuck-empty at rest inside h k none =
    let i : IsInside 34 (drop 1 rest) 34 inside.raw.now = subst (λ (q : ℕ). IsInside 34 (drop 1 rest) q inside.raw.now) k.quote_is k in
    empty-quoted at rest inside.raw.now h i none

-- behind the closing quote a character begins
pub found-boundary : (rest : List ℕ) (quote : ℕ) (inside : Found) → IsUtf8 rest → quote < 128 → 1 ≤ length rest → IsInside quote (drop 1 rest) inside.quote inside.raw.now → IsCharBoundary rest (length inside.raw.now + 2)
found-boundary rest quote inside u l some k =
    closed-boundary rest inside.raw.now quote u l some (subst (λ (q : ℕ). IsInside quote (drop 1 rest) q inside.raw.now) k.quote_is k)
