-- Laws of lines, of their texts and of the parts of meta lines.
use Rattle.std.proofs.Common.{◌≡◌, ◌↔◌, ℕ, Bool, true, false, cond, ◌&&◌, ◌==◌, inl, inr, List, [], ◌∷◌, length, bytes_eq, codes, sym, ap, ◌∙◌, refl, subst}
use Rattle.std.specs.Str.Parse.{digits_value}
use Rattle.std.proofs.lemmas.Bool.{cases_Bool, eqb-true}
use Rattle.pgn_base.specs.declared.command.Command.{Command}
use Rattle.pgn_base.specs.declared.command.Command.TheVariants as command
use Rattle.pgn_language.specs.Tokens.{Wrong, Token, tokens}
use Rattle.pgn_language.specs.Grammar.{table, ReadsAs, lexemes_of, reading, reading_of, command_of}
use Rattle.pgn_language.specs.Lines.{Says, SaysNothing, Opens, Signals, Awaits, Quits, NoMeta, says, text_says, command_says, meta_says, trimmed, is_label, is_database, parts_of}
use Rattle.pgn_language.specs.laws.Inputs.{LinesAreCut}
use Rattle.pgn_language.proofs.GrammarLaws.{reading-computes}
use Rattle.pgn_language.proofs.LineLaws.{lines-cut, lines_last}

-- lines are cut at LF, and what stands behind the last LF is one too
pub lines-are_cut : LinesAreCut
lines-are_cut = record { ended = lines-cut; last = lines_last; none = refl }

-- Blank lines.

-- a command says nothing where it is Empty
command-nothing : (some : Command) → (command_says some ≡ SaysNothing) ↔ (some ≡ command.Empty)
command-nothing command.Empty = (λ h. refl, λ h. refl)
command-nothing other = (λ h. absurd (cc), λ h. absurd (cc))

cond_not : (b : Bool) (x y : Says) → (x ≡ SaysNothing → ⊥) → (y ≡ SaysNothing → ⊥) → cond b x y ≡ SaysNothing → ⊥
cond_not true x y f g h = f h
cond_not false x y f g h = g h

-- a meta line says something
meta-something : (parts : List (List ℕ)) → meta_says parts ≡ SaysNothing → ⊥
meta-something [] h = absurd (cc)
meta-something (word ∷ []) h = cond_not (bytes_eq word (codes "\\quit")) Quits NoMeta (λ e. absurd (cc)) (λ e. absurd (cc)) h
meta-something (word ∷ flag ∷ []) h =
    cond_not (bytes_eq word (codes "\\signal") && is_label flag) (Signals flag) (cond (bytes_eq word (codes "\\await") && is_label flag) (Awaits flag) NoMeta) (λ e. absurd (cc))
    (cond_not (bytes_eq word (codes "\\await") && is_label flag) (Awaits flag) NoMeta (λ e. absurd (cc)) (λ e. absurd (cc))) h
meta-something (word ∷ name ∷ digits ∷ []) h =
    cond_not (bytes_eq word (codes "\\session") && is_label name && is_database digits) (Opens name (digits_value 10 digits)) NoMeta (λ e. absurd (cc)) (λ e. absurd (cc)) h
meta-something (a ∷ b ∷ c ∷ d ∷ parts) h = absurd (cc)

-- what begins with `\` has one token, and that is none
one-wrong : (bytes : List ℕ) → tokens (92 ∷ bytes) ≡ record { lexeme = Wrong; at = 0 } ∷ []
one-wrong [] = refl
one-wrong (b ∷ bytes) = refl

-- so it is no command
meta-bad : (bytes : List ℕ) → reading (92 ∷ bytes) ≡ command.Bad 0
unfolding table
meta-bad bytes = ap (λ (ts : List Token). reading_of (length (92 ∷ bytes)) ts (command_of table (lexemes_of ts))) (one-wrong bytes)

text-nothing : (text : List ℕ) → (text_says text ≡ SaysNothing) ↔ (reading text ≡ command.Empty)
text-nothing [] = command-nothing (reading [])
text-nothing (byte ∷ bytes) = elim (cases_Bool (byte == 92)) [
  | inl e ↦ (
    (λ h. absurd (meta-something (parts_of (byte ∷ bytes)) (subst (λ (b : Bool). cond b (meta_says (parts_of (byte ∷ bytes))) (command_says (reading (byte ∷ bytes))) ≡ SaysNothing) e h))),
    (λ h. let bad : command.Bad 0 ≡ command.Empty = sym (meta-bad bytes) ∙ ap (λ (b : ℕ). reading (b ∷ bytes)) (sym (eqb-true byte 92 e)) ∙ h in absurd (cc)),
  )
  | inr e ↦ (
    (λ h. (command-nothing (reading (byte ∷ bytes))).0 (subst (λ (b : Bool). cond b (meta_says (parts_of (byte ∷ bytes))) (command_says (reading (byte ∷ bytes))) ≡ SaysNothing) e h)),
    (λ h. rw e ((command-nothing (reading (byte ∷ bytes))).1 h)),
  )
]

-- a line says nothing exactly where its text reads as no command
pub blank-reads_empty : (line : List ℕ) → (says line ≡ SaysNothing) ↔ ReadsAs (trimmed line) command.Empty
unfolding says
blank-reads_empty line = (
  (λ h. (reading-computes (trimmed line) command.Empty).1 ((text-nothing (trimmed line)).0 h)),
  (λ h. (text-nothing (trimmed line)).1 ((reading-computes (trimmed line) command.Empty).0 h)),
)
