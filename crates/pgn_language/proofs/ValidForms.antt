-- What the table of commands makes of clean tokens is valid.
use Rattle.std.proofs.Common.{◌≡◌, ◌≢◌, ℕ, Bool, true, false, cond, nat_le, ◌==◌, inl, inr, List, [], ◌∷◌, length, Option, None, Some, sym, refl, subst, arith, IsUtf8, Contains, ◌<◌}
use Rattle.std.specs.Str.{str_to_ascii_lowercase}
use Rattle.std.proofs.lemmas.Bool.{false≢true, cases_Bool, leb-false, eqb-false}
use Rattle.pgn_base.specs.Texts.{IsName, IsPayload}
use Rattle.pgn_base.specs.declared.note.Note.{Note}
use Rattle.pgn_base.specs.declared.answers.Which.{Which}
use Rattle.pgn_base.specs.declared.answers.Which.TheVariants.{ChannelEmpty, ChannelTooLong, PayloadTooLong}
use Rattle.pgn_base.specs.declared.command.Command.{Command}
use Rattle.pgn_base.specs.declared.command.Command.TheVariants as command
use Rattle.pgn_base.specs.Notes.{IsNote}
use Rattle.pgn_language.specs.Tokens.{Lexeme, Word, Quoted, Literal, Number, Sign, Wrong, tokens}
use Rattle.pgn_language.specs.Grammar.{Name, fits_slot, cut, name_of, text_of, sign, lexemes_of, is_long, past_limit, limited, ReadsAs}
use Rattle.pgn_language.specs.laws.Commands.{IsValid}
use Rattle.pgn_language.proofs.TokenLaws.{cut-name}
use Rattle.pgn_language.proofs.KeptForms as kept
use Rattle.pgn_language.proofs.KeptForms.{Sort, AName, AText, Rule, Keeps, IsPlain, kept-reading}
use Rattle.pgn_language.proofs.CleanTokens.{nul-from, nul-none, IsText, IsClean, AllClean, folded, none-text, repeated-text, tokens-clean}

-- names are names, texts are texts, and commands are valid
abbrev suits : Sort → List ℕ → Type 0
suits AName text = IsName text
suits AText text = IsText text

abbrev validity : Rule
validity = record { clean = IsClean; suits = suits; valid = IsValid }

all-clean : (lexemes : List Lexeme) → AllClean lexemes → kept.AllClean validity lexemes
all-clean [] h = tt
all-clean (lexeme ∷ lexemes) h = (h.0, all-clean lexemes h.1)

text_of-text : (lexeme : Lexeme) → IsClean lexeme → IsText (text_of lexeme)
text_of-text (Word text) h = none-text
text_of-text (Quoted text) h = none-text
text_of-text (Literal text) h = h
text_of-text (Number digits) h = none-text
text_of-text (Sign sign) h = none-text
text_of-text Wrong h = none-text

cut-named : (text : List ℕ) → IsText text → text ≢ [] → IsName (cut 63 text)
cut-named [] t some = absurd (some refl)
cut-named (b ∷ text) t some = cut-name (b ∷ text) t.utf8 (omega arith) (nul-none (b ∷ text) t.no_nul)

folded-some : (text : List ℕ) → text ≢ [] → str_to_ascii_lowercase text ≢ []
folded-some [] h e = h refl
folded-some (b ∷ text) h e = absurd (cc)

name-named : (lexeme : Lexeme) → fits_slot Name lexeme ≡ true → IsClean lexeme → IsName (name_of lexeme)
name-named (Word text) h c = cut-named (str_to_ascii_lowercase text) (folded text c.0) (folded-some text c.1)
name-named (Quoted text) h c = cut-named text c.0 c.1
name-named (Literal text) h c = absurd (false≢true h)
name-named (Number digits) h c = absurd (false≢true h)
name-named (Sign sign) h c = absurd (false≢true h)
name-named Wrong h c = absurd (false≢true h)

payload-from : (payload : List ℕ) → IsText payload → is_long payload ≡ false → IsPayload payload
payload-from payload t e = record { text = t.utf8; short = let e : length payload < 8000 = leb-false 8000 (length payload) e in omega (arith, e); no_nul = nul-none payload t.no_nul }

limited-notify : (n : Note) → IsName n.channel → IsText n.payload → IsValid (limited (command.Notify n))
limited-notify n channel payload = elim (cases_Bool (is_long n.payload)) [
  | inl e ↦ subst (λ (b : Bool). IsValid (cond b (command.Invalid PayloadTooLong) (command.Notify n))) (sym e) tt
  | inr e ↦ subst (λ (b : Bool). IsValid (cond b (command.Invalid PayloadTooLong) (command.Notify n))) (sym e) (record { name = channel; text = payload-from n.payload payload e })
]

no_test : (a b c : Bool) (x y z : Which) → cond a (Some x) (cond b (Some y) (cond c (Some z) None)) ≡ None → (a ≡ false) × (b ≡ false) × (c ≡ false)
no_test true b c x y z h = absurd (cc)
no_test false true c x y z h = absurd (cc)
no_test false false true x y z h = absurd (cc)
no_test false false false x y z h = (refl, refl, refl)

within_limits : (n : Note) → IsText n.channel → IsText n.payload → past_limit n ≡ None → IsNote n
within_limits n channel payload h =
    let tests : ((length n.channel == 0) ≡ false) × (nat_le 64 (length n.channel) ≡ false) × (is_long n.payload ≡ false) =
    no_test (length n.channel == 0) (nat_le 64 (length n.channel)) (is_long n.payload) ChannelEmpty ChannelTooLong PayloadTooLong h in
    record {
      name = record {
        text = channel.utf8;
        some = let some : length n.channel ≡ 0 → ⊥ = eqb-false (length n.channel) 0 tests.0 in omega (arith, some);
        short = let e : length n.channel < 64 = leb-false 64 (length n.channel) tests.1 in omega (arith, e);
        no_nul = nul-none n.channel channel.no_nul;
      };
      text = payload-from n.payload payload tests.2;
    }

limited-pg_notify : (n : Note) → IsText n.channel → IsText n.payload → (limit : Option Which) → past_limit n ≡ limit
    → IsValid (elim limit as (λ _. Command) [ None ↦ command.PgNotify n | Some which ↦ command.Invalid which ])
limited-pg_notify n channel payload None h = within_limits n channel payload h
limited-pg_notify n channel payload (Some which) h = tt

plain-valid : (one : Command) → IsPlain one → IsValid (limited one)
plain-valid command.Empty h = tt
plain-valid command.Begin h = tt
plain-valid command.Start h = tt
plain-valid command.Commit h = tt
plain-valid command.Rollback h = tt
plain-valid command.UnlistenAll h = tt
plain-valid command.ListeningChannels h = tt
plain-valid command.QueueUsage h = tt
plain-valid other h = absurd h

keeps-validity : Keeps validity
keeps-validity = record {
  nothing = tt;
  named = name-named;
  written = text_of-text;
  empty = none-text;
  again = repeated-text;
  plain = plain-valid;
  savepoint = λ text h. h;
  rollback_to = λ text h. h;
  release = λ text h. h;
  listen = λ text h. h;
  unlisten = λ text h. h;
  notify = limited-notify;
  pg_notify = λ n channel payload. limited-pg_notify n channel payload (past_limit n) refl;
}

-- what a text without 0 reads as is within the limits of names and payloads
pub readings-valid : (text : List ℕ) (one : Command) → IsUtf8 text → (Contains text 0 → ⊥) → ReadsAs text one → IsValid one
readings-valid text one u n h =
    let clean : AllClean (lexemes_of (tokens text)) = tokens-clean text (record { utf8 = u; no_nul = nul-from text n }) in
    kept-reading validity keeps-validity text one (all-clean (lexemes_of (tokens text)) clean) (λ at. tt) h
