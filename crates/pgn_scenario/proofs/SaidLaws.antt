-- What a text says, by its command.
use Rattle.std.proofs.Common.{◌≡◌, ℕ, List, sym, ap, refl}
use Rattle.pgn_base.specs.declared.command.Command.{Command}
use Rattle.pgn_base.specs.declared.command.Command.TheVariants as command
use Rattle.pgn_language.specs.Grammar.{ReadsAs, reading}
use Rattle.pgn_language.specs.Lines.{Runs, command_says}
use Rattle.pgn_language.proofs.GrammarLaws.{reading-computes}

-- a command that is read says what the reading says
pub says-read : (text : List ℕ) (one : Command) → ReadsAs text one → command_says one ≡ command_says (reading text)
says-read text one h = ap command_says (sym ((reading-computes text one).0 h))

-- a command that is not Empty runs
pub runs : (one : Command) → (one ≡ command.Empty → ⊥) → Runs one ≡ command_says one
runs command.Empty h = absurd (h refl)
runs other h = refl
