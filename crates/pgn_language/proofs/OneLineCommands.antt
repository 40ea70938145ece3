-- Where no LF stands in a line, none stands in the names and payloads of the command that it reads as.
use Rattle.std.proofs.Common.{◌≡◌, ℕ, zero, suc, ◌+◌, Bool, true, false, cond, ◌==◌, inl, inr, List, [], ◌∷◌, ◌++◌, map, length, take, drop, get_or, flat_map, Option, None, Some, sym, ap, ◌∙◌, refl, subst, arith}
use Rattle.std.specs.List.{repeat}
use Rattle.std.specs.Char.{to_ascii_lowercase}
use Rattle.std.specs.Str.{str_to_ascii_lowercase}
use Rattle.std.proofs.lemmas.Bool.{eqb-true, eq-eqb, both_ways, cases_Bool, false≢true}
use Rattle.std.proofs.lemmas.Bool.Decides.{nat_tests}
use Rattle.std.proofs.lemmas.List.{take-append-drop}
use Rattle.std.proofs.lemmas.List.Elements.{Contains-append_left, Contains-append_right, Contains-append_cases}
use Rattle.pgn_base.specs.declared.note.Note.{Note}
use Rattle.pgn_base.specs.declared.answers.Which.{Which}
use Rattle.pgn_base.specs.declared.answers.Which.TheVariants.{PayloadTooLong}
use Rattle.pgn_base.specs.declared.command.Command.{Command}
use Rattle.pgn_base.specs.declared.command.Command.TheVariants as command
use Rattle.pgn_language.specs.Quotes.{doubled_byte, quoted}
use Rattle.pgn_language.specs.Tokens.{Lexeme, Word, Quoted, Literal, Number, Sign, Wrong, Token, tokens}
use Rattle.pgn_language.specs.Grammar.{Name, fits_slot, cut, begins_character, name_of, text_of, lexemes_of, is_long, past_limit, limited, ReadsAs, reading}
use Rattle.pgn_language.specs.laws.Tokens.{written, Covers, Ended, Commented, Spaced, Tokened, Stuck}
use Rattle.pgn_language.specs.Inputs.{IsOneLine, IsOneLineCommand}
use Rattle.pgn_language.proofs.GrammarLaws.{reading-reads}
use Rattle.pgn_language.proofs.CoverLaws.{tokens-cover}
use Rattle.pgn_language.proofs.KeptForms.{Rule, AllClean, Keeps, IsPlain, kept-reading}

-- no bytes stand on one line
pub none-line : IsOneLine []
none-line c = omega (arith, c.1)

-- a byte that is no LF, before bytes on one line
pub line-cons : (b : ℕ) (text : List ℕ) → (b == 10) ≡ false → IsOneLine text → IsOneLine (b ∷ text)
line-cons b text e h c = elim (Contains-append_cases (b ∷ []) text 10 c) [
  | inl d ↦
      let first : d.0 ≡ 0 = omega (arith, d.1) in
      let ten : b ≡ 10 = subst (λ (k : ℕ). get_or (b ∷ []) k 10 ≡ 10) first d.2 in
      both_ways (b == 10) e (eq-eqb b 10 ten)
  | inr d ↦ h d
]

line-left : (a b : List ℕ) → IsOneLine (a ++ b) → IsOneLine a
line-left a b h c = h (Contains-append_left a b 10 c)

line-right : (a b : List ℕ) → IsOneLine (a ++ b) → IsOneLine b
line-right a b h c = h (Contains-append_right a b 10 c)

line-append : (a b : List ℕ) → IsOneLine a → IsOneLine b → IsOneLine (a ++ b)
line-append a b h k c = elim (Contains-append_cases a b 10 c) [ inl d ↦ h d | inr d ↦ k d ]

line-tail : (b : ℕ) (bytes : List ℕ) → IsOneLine (b ∷ bytes) → IsOneLine bytes
line-tail b bytes h = line-right (b ∷ []) bytes h

line-head : (b : ℕ) (bytes : List ℕ) → IsOneLine (b ∷ bytes) → (b == 10) ≡ false
line-head b bytes h = elim (cases_Bool (b == 10)) [
  | inl e ↦ absurd (h (0, omega arith, eqb-true b 10 e))
  | inr e ↦ e
]

-- with each quote once
undoubled : (quote : ℕ) (text : List ℕ) → IsOneLine (flat_map (doubled_byte quote) text) → IsOneLine text
undoubled quote [] h = none-line
undoubled quote (b ∷ text) h = elim (cases_Bool (b == quote)) [
  | inl e ↦
      let here : IsOneLine (quote ∷ quote ∷ flat_map (doubled_byte quote) text) =
      subst (λ (l : List ℕ). IsOneLine (l ++ flat_map (doubled_byte quote) text)) (ap (λ (t : Bool). cond t (quote ∷ quote ∷ []) (b ∷ [])) e) h in
      let no : (b == 10) ≡ false = ap (λ (n : ℕ). n == 10) (eqb-true b quote e) ∙ line-head quote (quote ∷ flat_map (doubled_byte quote) text) here in
      line-cons b text no (undoubled quote text (line-tail quote (flat_map (doubled_byte quote) text) (line-tail quote (quote ∷ flat_map (doubled_byte quote) text) here)))
  | inr e ↦
      let here : IsOneLine (b ∷ flat_map (doubled_byte quote) text) =
      subst (λ (l : List ℕ). IsOneLine (l ++ flat_map (doubled_byte quote) text)) (ap (λ (t : Bool). cond t (quote ∷ quote ∷ []) (b ∷ [])) e) h in
      line-cons b text (line-head b (flat_map (doubled_byte quote) text) here) (undoubled quote text (line-tail b (flat_map (doubled_byte quote) text) here))
]

-- in lower case
folded-byte : (b : ℕ) → (b == 10) ≡ false → (to_ascii_lowercase b == 10) ≡ false
folded-byte b h = grind (arith, nat_tests)

folded : (text : List ℕ) → IsOneLine text → IsOneLine (map to_ascii_lowercase text)
folded [] h = none-line
folded (b ∷ text) h = line-cons (to_ascii_lowercase b) (map to_ascii_lowercase text) (folded-byte b (line-head b text h)) (folded text (line-tail b text h))

-- cut
cut-front : (n : ℕ) (text : List ℕ) → (k : ℕ) × (cut n text ≡ take k text)
unfolding cut
cut-front zero text = (0, refl)
cut-front (suc n) text = elim (cases_Bool (begins_character (drop (suc n) text))) [
  | inl e ↦ (suc n, rw (e, cut) refl)
  | inr e ↦ let rest : (k : ℕ) × (cut n text ≡ take k text) = cut-front n text in (rest.0, rw (e, cut) rest.1)
]

cut-line : (n : ℕ) (text : List ℕ) → IsOneLine text → IsOneLine (cut n text)
cut-line n text h =
    let part : (k : ℕ) × (cut n text ≡ take k text) = cut-front n text in
    subst IsOneLine (sym part.1) (line-left (take part.0 text) (drop part.0 text) (subst IsOneLine (sym (take-append-drop part.0 text)) h))

-- so many times
repeated : (n : ℕ) (text : List ℕ) → IsOneLine text → IsOneLine (repeat n text)
repeated zero text h = none-line
repeated (suc n) text h = line-append text (repeat n text) h (repeated n text h)

-- the text of a token
abbrev IsClean : Lexeme → Type 0
IsClean (Word text) = IsOneLine text
IsClean (Quoted text) = IsOneLine text
IsClean (Literal text) = IsOneLine text
IsClean other = Unit {0}

abbrev one_line : Rule
one_line = record { clean = IsClean; suits = λ sort text. IsOneLine text; valid = IsOneLineCommand }

between : (quote : ℕ) (text rest : List ℕ) → IsOneLine (quoted quote text ++ rest) → IsOneLine text
between quote text rest h =
    undoubled quote text (line-left (flat_map (doubled_byte quote) text) (quote ∷ []) (line-tail quote (flat_map (doubled_byte quote) text ++ quote ∷ []) (line-left (quoted quote text) rest h)))

token-clean : (lexeme : Lexeme) (rest : List ℕ) → IsOneLine (written lexeme ++ rest) → IsClean lexeme
token-clean (Word text) rest h = line-left text rest h
token-clean (Quoted text) rest h = between 34 text rest h
token-clean (Literal text) rest h = between 39 text rest h
token-clean (Number digits) rest h = tt
token-clean (Sign sign) rest h = tt
token-clean Wrong rest h = tt

covered-clean : (at : ℕ) (bytes : List ℕ) (some : List Token) → Covers at bytes some → IsOneLine bytes → AllClean one_line (lexemes_of some)
covered-clean at _ _ (Ended _) h = tt
covered-clean at _ _ (Commented _ b bytes e) h = tt
covered-clean at _ some (Spaced _ b bytes _ e next) h = covered-clean (at + 1) bytes some next (line-tail b bytes h)
covered-clean at _ _ (Tokened _ lexeme rest some whole next) h = (token-clean lexeme rest h, covered-clean (at + length (written lexeme)) rest some next (line-right (written lexeme) rest h))
covered-clean at _ _ (Stuck _ b bytes n) h = (tt, tt)

name-line : (lexeme : Lexeme) → fits_slot Name lexeme ≡ true → IsClean lexeme → IsOneLine (name_of lexeme)
name-line (Word text) h c = cut-line 63 (str_to_ascii_lowercase text) (folded text c)
name-line (Quoted text) h c = cut-line 63 text c
name-line (Literal text) h c = absurd (false≢true h)
name-line (Number digits) h c = absurd (false≢true h)
name-line (Sign sign) h c = absurd (false≢true h)
name-line Wrong h c = absurd (false≢true h)

text-line : (lexeme : Lexeme) → IsClean lexeme → IsOneLine (text_of lexeme)
text-line (Literal text) c = c
text-line (Word text) c = none-line
text-line (Quoted text) c = none-line
text-line (Number digits) c = none-line
text-line (Sign sign) c = none-line
text-line Wrong c = none-line

plain-line : (one : Command) → IsPlain one → IsOneLineCommand (limited one)
plain-line command.Empty h = tt
plain-line command.Begin h = tt
plain-line command.Start h = tt
plain-line command.Commit h = tt
plain-line command.Rollback h = tt
plain-line command.UnlistenAll h = tt
plain-line command.ListeningChannels h = tt
plain-line command.QueueUsage h = tt
plain-line other h = absurd h

notify-line : (n : Note) → IsOneLine n.channel → IsOneLine n.payload → IsOneLineCommand (limited (command.Notify n))
notify-line n channel payload = elim (is_long n.payload) as (λ (b : Bool). IsOneLineCommand (cond b (command.Invalid PayloadTooLong) (command.Notify n))) [
  | true ↦ tt
  | false ↦ (channel, payload)
]

pg_notify-line : (n : Note) → IsOneLine n.channel → IsOneLine n.payload → IsOneLineCommand (limited (command.PgNotify n))
pg_notify-line n channel payload = elim (past_limit n) as (λ (o : Option Which). IsOneLineCommand (elim o as (λ _. Command) [ None ↦ command.PgNotify n | Some which ↦ command.Invalid which ])) [
  | None ↦ (channel, payload)
  | Some which ↦ tt
]

keeps-line : Keeps one_line
keeps-line = record {
  nothing = tt;
  named = name-line;
  written = text-line;
  empty = none-line;
  again = repeated;
  plain = plain-line;
  savepoint = λ text h. h;
  rollback_to = λ text h. h;
  release = λ text h. h;
  listen = λ text h. h;
  unlisten = λ text h. h;
  notify = notify-line;
  pg_notify = pg_notify-line;
}

-- what is computed of a text on one line names and sends on one line
pub reads-one_line : (text : List ℕ) → IsOneLine text → IsOneLineCommand (reading text)
reads-one_line text h = kept-reading one_line keeps-line text (reading text) (covered-clean 0 text (tokens text) (tokens-cover text) h) (λ at. tt) (reading-reads text)

-- what a text on one line reads as names and sends on one line
pub commands-one_line : (text : List ℕ) (one : Command) → IsOneLine text → ReadsAs text one → IsOneLineCommand one
commands-one_line text one h read = kept-reading one_line keeps-line text one (covered-clean 0 text (tokens text) (tokens-cover text) h) (λ at. tt) read
