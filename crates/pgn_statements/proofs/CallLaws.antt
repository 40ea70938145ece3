-- What the call of pg_notify in a text notifies can be sent, or is past a limit.
use Rattle.std.proofs.Common.{◌≡◌, ℕ, zero, suc, ◌+◌, ◌<◌, Bool, true, false, cond, ◌==◌, ◌&&◌, inl, inr, List, [], ◌∷◌, ◌++◌, length, take, drop, get_or, Option, None, Some, sym, ap, ◌∙◌, refl, subst, arith, IsUtf8, Contains}
use Rattle.std.specs.Prelude.{nat_le, codes}
use Rattle.std.specs.List.{prefix_len}
use Rattle.std.specs.Str.{byte, str_eq_ignore_ascii_case}
use Rattle.std.proofs.lemmas.Bool.{cases_Bool, eqb-true, eqb-false, leb-false, false≢true}
use Rattle.std.proofs.lemmas.Str.{IsUtf8-take, IsUtf8-drop, IsUtf8-from_ascii, IsCharBoundary-before_ascii, IsCharBoundary-after_ascii}
use Rattle.std.proofs.lemmas.Str.Ascii.{IsAscii-cons, IsAscii-nil}
use Rattle.pgn_base.specs.declared.note.Note.{Note}
use Rattle.pgn_base.specs.declared.answers.Which.{Which}
use Rattle.pgn_base.specs.declared.answers.Which.TheVariants.{ChannelEmpty, ChannelTooLong, PayloadTooLong}
use Rattle.pgn_base.specs.declared.command.Command.{Command}
use Rattle.pgn_base.specs.declared.command.Command.TheVariants as command
use Rattle.pgn_base.specs.Notes.{IsNote}
use Rattle.pgn_language.specs.Tokens as model
use Rattle.pgn_language.specs.Grammar.{lexemes_of, past_limit, is_long, Punct, fits_slot}
use Rattle.pgn_language.specs.laws.Commands.{IsValid}
use Rattle.pgn_language.proofs.CleanTokens.{NoNul, nul-from, nul-none, IsText, IsClean, AllClean, none-text, tokens-clean}
use Rattle.pgn_requests.specs.Phrases.{going, after_two, after_sign, Argued, argued, bracketed, unbracketed, argument_of, first_of, second_of, called, is_one_sign, is_before_equals, begins_equals, spread, spread_at, few, is_key}
use Rattle.pgn_statements.specs.Calls.{CallIsValid}
use Rattle.pgn_statements.proofs.PlainLaws.{nul-drop, pick_no}
use Rattle.pgn_statements.proofs.AskLaws.{pick_yes}

-- The tokens of a text are clean.

nul-take : (n : ℕ) (bytes : List ℕ) → NoNul bytes → NoNul (take n bytes)
nul-take zero bytes h = tt
nul-take (suc n) [] h = tt
nul-take (suc n) (b ∷ bytes) h = (h.0, nul-take n bytes h.1)

-- where a `=` stands
equals-there : (n : ℕ) (bytes : List ℕ) → begins_equals (drop n bytes) ≡ true → (n < length bytes) × (get_or bytes n 0 ≡ 61)
equals-there zero [] e = absurd (false≢true e)
equals-there zero (b ∷ bytes) e = (omega arith, eqb-true b 61 e)
equals-there (suc n) [] e = absurd (false≢true e)
equals-there (suc n) (b ∷ bytes) e = let later = equals-there n bytes e in (omega (arith, later.0), later.1)

clean-both : (a b : List model.Lexeme) → AllClean a → AllClean b → AllClean (a ++ b)
clean-both [] b h k = k
clean-both (x ∷ a) b h k = (h.0, clean-both a b h.1 k)

to-text : IsText (codes "to")
to-text = record { utf8 = IsUtf8-from_ascii (codes "to") (IsAscii-cons 116 (111 ∷ []) (omega arith) (IsAscii-cons 111 [] (omega arith) IsAscii-nil)); no_nul = (λ e. absurd (omega arith), (λ e. absurd (omega arith), tt)) }

spread_at-clean : (at : ℕ) (text : List ℕ) → IsText text → at < length text → get_or text at 0 ≡ 61 → AllClean (spread_at at text)
spread_at-clean at text t l e =
    let ascii : get_or text at 0 < 128 = omega (arith, e) in
    let one : IsText (take at text) = record { utf8 = IsUtf8-take text at t.utf8 (IsCharBoundary-before_ascii text at l ascii); no_nul = nul-take at text t.no_nul } in
    let other : IsText (drop (at + 1) text) = record { utf8 = IsUtf8-drop text (at + 1) t.utf8 (IsCharBoundary-after_ascii text at t.utf8 l ascii); no_nul = nul-drop (at + 1) text t.no_nul } in
    let to : List model.Lexeme = model.Word (codes "to") ∷ [] in
    let word : AllClean to = ((to-text, λ w. let l : 2 ≡ 0 = ap length w in absurd (omega (arith, l))), tt) in
    let before : AllClean (lexemes_of (model.tokens (take at text)) ++ to) = clean-both (lexemes_of (model.tokens (take at text))) to (tokens-clean (take at text) one) word in
    clean-both (lexemes_of (model.tokens (take at text)) ++ to) (lexemes_of (model.tokens (drop (at + 1) text))) before (tokens-clean (drop (at + 1) text) other)

spread-clean : (text : List ℕ) → IsText text → AllClean (spread text)
spread-clean text t =
    let at : ℕ = prefix_len is_before_equals text in
    elim (cases_Bool (begins_equals (drop at text))) [
      | inl e ↦ let there = equals-there at text e in subst AllClean (sym (pick_yes (begins_equals (drop at text)) (spread_at at text) (lexemes_of (model.tokens text)) e)) (spread_at-clean at text t there.0 there.1)
      | inr e ↦ subst AllClean (sym (pick_no (begins_equals (drop at text)) (spread_at at text) (lexemes_of (model.tokens text)) e)) (tokens-clean text t)
    ]

few-clean : (lexemes : List model.Lexeme) → AllClean lexemes → AllClean (few lexemes)
few-clean lexemes h = elim (cases_Bool (nat_le (length lexemes) 24)) [ inl e ↦ rw e h | inr e ↦ rw e tt ]

-- The texts of a call of clean tokens are clean.

record GoesTo (o : Option (List model.Lexeme)) (goes : List model.Lexeme → Option Note) (note : Note) : Type 0 where
  rest : List model.Lexeme
  is : o ≡ Some rest
  goes_on : goes rest ≡ Some note

went : (o : Option (List model.Lexeme)) (goes : List model.Lexeme → Option Note) (note : Note) → going o goes None ≡ Some note → GoesTo o goes note
went None goes note e = absurd (cc)
went (Some rest) goes note e = record { rest = rest; is = refl; goes_on = e }

picked : {A : Type 0} (b : Bool) (x y : A) → cond b (Some x) None ≡ Some y → x ≡ y
picked {A = A} true x y e = ap (λ (o : Option A). elim o as (λ _. A) [ Some z ↦ z | None ↦ x ]) e
picked false x y e = absurd (cc)

two-clean : (one other : List ℕ) (lexemes rest : List model.Lexeme) → AllClean lexemes → after_two one other lexemes ≡ Some rest → AllClean rest
two-clean one other [] rest h e = absurd (cc)
two-clean one other (a ∷ []) rest h e = absurd (cc)
two-clean one other (a ∷ b ∷ lexemes) rest h e = subst AllClean (picked (is_key one a && is_key other b) lexemes rest e) h.1.1

sign-clean : (mark : ℕ) (lexemes rest : List model.Lexeme) → AllClean lexemes → after_sign mark lexemes ≡ Some rest → AllClean rest
sign-clean mark [] rest h e = absurd (cc)
sign-clean mark (a ∷ lexemes) rest h e = subst AllClean (picked (fits_slot (Punct mark) a) lexemes rest e) h.1

-- the text of an argument, and the tokens after it
abbrev ArgumentIsClean : Argued → Type 0
ArgumentIsClean one = IsText one.text × AllClean one.rest

argued-clean : (a : model.Lexeme) (rest : List model.Lexeme) (one : Argued) → IsClean a → AllClean rest → argued a rest ≡ Some one → ArgumentIsClean one
argued-clean (model.Literal text) rest one c h e = subst ArgumentIsClean (picked true (record { text = text; rest = rest }) one e) (c, h)
argued-clean (model.Word text) rest one c h e = subst ArgumentIsClean (picked (str_eq_ignore_ascii_case (codes "null") text) (record { text = []; rest = rest }) one e) (none-text, h)
argued-clean (model.Quoted text) rest one c h e = absurd (cc)
argued-clean (model.Number digits) rest one c h e = absurd (cc)
argued-clean (model.Sign sign) rest one c h e = absurd (cc)
argued-clean model.Wrong rest one c h e = absurd (cc)

chosen-clean : (b : Bool) (a : model.Lexeme) (rest : List model.Lexeme) (one : Argued) → IsClean a → AllClean rest → cond b (argued a rest) None ≡ Some one → ArgumentIsClean one
chosen-clean true a rest one c h e = argued-clean a rest one c h e
chosen-clean false a rest one c h e = absurd (cc)

bracketed-clean : (lexemes : List model.Lexeme) (one : Argued) → AllClean lexemes → bracketed lexemes ≡ Some one → ArgumentIsClean one
bracketed-clean [] one h e = absurd (cc)
bracketed-clean (a ∷ []) one h e = absurd (cc)
bracketed-clean (a ∷ b ∷ []) one h e = absurd (cc)
bracketed-clean (a ∷ b ∷ c ∷ lexemes) one h e = chosen-clean (fits_slot (Punct (byte "(")) a && fits_slot (Punct (byte ")")) c) b lexemes one h.1.0 h.1.1.1 e

unbracketed-clean : (lexemes : List model.Lexeme) (one : Argued) → AllClean lexemes → unbracketed lexemes ≡ Some one → ArgumentIsClean one
unbracketed-clean [] one h e = absurd (cc)
unbracketed-clean (a ∷ lexemes) one h e = argued-clean a lexemes one h.0 h.1 e

either-clean : (lexemes : List model.Lexeme) (one : Argued) (found : Option Argued) → AllClean lexemes → bracketed lexemes ≡ found → elim found as (λ _. Option Argued) [ Some some ↦ Some some | None ↦ unbracketed lexemes ] ≡ Some one → ArgumentIsClean one
either-clean lexemes one (Some some) h f e = bracketed-clean lexemes one h (f ∙ e)
either-clean lexemes one None h f e = unbracketed-clean lexemes one h e

argument-clean : (lexemes : List model.Lexeme) (one : Argued) → AllClean lexemes → argument_of lexemes ≡ Some one → ArgumentIsClean one
argument-clean lexemes one h e = either-clean lexemes one (bracketed lexemes) h refl e

-- the two texts of a notification
abbrev NoteIsClean : Note → Type 0
NoteIsClean note = IsText note.channel × IsText note.payload

second-by : (channel : List ℕ) (lexemes : List model.Lexeme) (note : Note) (found : Option Argued) → IsText channel → AllClean lexemes → argument_of lexemes ≡ found
    → elim found as (λ _. Option Note) [ None ↦ None | Some payload ↦ cond (is_one_sign (byte ")") payload.rest) (Some (record { channel = channel; payload = payload.text })) None ] ≡ Some note → NoteIsClean note
second-by channel lexemes note None t h f e = absurd (cc)
second-by channel lexemes note (Some payload) t h f e = subst NoteIsClean (picked (is_one_sign (byte ")") payload.rest) (record { channel = channel; payload = payload.text }) note e) (t, (argument-clean lexemes payload h f).0)

second-clean : (channel : List ℕ) (lexemes : List model.Lexeme) (note : Note) → IsText channel → AllClean lexemes → second_of channel lexemes ≡ Some note → NoteIsClean note
second-clean channel lexemes note t h e = second-by channel lexemes note (argument_of lexemes) t h refl e

first-by : (lexemes : List model.Lexeme) (note : Note) (found : Option Argued) → AllClean lexemes → argument_of lexemes ≡ found
    → elim found as (λ _. Option Note) [ None ↦ None | Some channel ↦ going (after_sign (byte ",") channel.rest) (second_of channel.text) None ] ≡ Some note → NoteIsClean note
first-by lexemes note None h f e = absurd (cc)
first-by lexemes note (Some channel) h f e =
    let clean : ArgumentIsClean channel = argument-clean lexemes channel h f in
    let w = went (after_sign (byte ",") channel.rest) (second_of channel.text) note e in
    second-clean channel.text w.rest note clean.0 (sign-clean (byte ",") channel.rest w.rest clean.1 w.is) w.goes_on

first-clean : (lexemes : List model.Lexeme) (note : Note) → AllClean lexemes → first_of lexemes ≡ Some note → NoteIsClean note
first-clean lexemes note h e = first-by lexemes note (argument_of lexemes) h refl e

called-clean : (lexemes : List model.Lexeme) (note : Note) → AllClean lexemes → called lexemes ≡ Some note → NoteIsClean note
called-clean lexemes note h e =
    let one = went (after_two (codes "select") (codes "pg_notify") lexemes) (λ rest. going (after_sign (byte "(") rest) first_of None) note e in
    let clean : AllClean one.rest = two-clean (codes "select") (codes "pg_notify") lexemes one.rest h one.is in
    let other = went (after_sign (byte "(") one.rest) first_of note one.goes_on in
    first-clean other.rest note (sign-clean (byte "(") one.rest other.rest clean other.is) other.goes_on

-- Such a notification can be sent where it is past no limit.

past_none : (a b c : Bool) (x y z : Which) → cond a (Some x) (cond b (Some y) (cond c (Some z) None)) ≡ None → (a ≡ false) × (b ≡ false) × (c ≡ false)
past_none true b c x y z h = absurd (cc)
past_none false true c x y z h = absurd (cc)
past_none false false true x y z h = absurd (cc)
past_none false false false x y z h = (refl, refl, refl)

sendable : (note : Note) → NoteIsClean note → past_limit note ≡ None → IsNote note
sendable note t h =
    let tests = past_none (length note.channel == 0) (nat_le 64 (length note.channel)) (is_long note.payload) ChannelEmpty ChannelTooLong PayloadTooLong h in
    let some : length note.channel ≡ 0 → ⊥ = eqb-false (length note.channel) 0 tests.0 in
    let named : length note.channel < 64 = leb-false 64 (length note.channel) tests.1 in
    let short : length note.payload < 8000 = leb-false 8000 (length note.payload) tests.2 in
    record {
      name = record { text = t.0.utf8; some = omega (arith, some); short = omega (arith, named); no_nul = nul-none note.channel t.0.no_nul };
      text = record { text = t.1.utf8; short = omega (arith, short); no_nul = nul-none note.payload t.1.no_nul };
    }

valid-by : (note : Note) (limit : Option Which) → NoteIsClean note → past_limit note ≡ limit → IsValid (elim limit as (λ _. Command) [ None ↦ command.PgNotify note | Some which ↦ command.Invalid which ])
valid-by note None t h = sendable note t h
valid-by note (Some which) t h = tt

-- what the tokens of a text call for is valid
pub spread-valid : (text : List ℕ) → IsUtf8 text → (Contains text 0 → ⊥) → CallIsValid (few (spread text))
spread-valid text u n note e =
    let clean : AllClean (few (spread text)) = few-clean (spread text) (spread-clean text (record { utf8 = u; no_nul = nul-from text n })) in
    valid-by note (past_limit note) (called-clean (few (spread text)) note clean e) refl
