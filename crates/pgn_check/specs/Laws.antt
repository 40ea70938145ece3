-- What is seen of a legal run: it is readable, and none of its lines is to blame.
use Rattle.std.specs.Prelude.{ℕ, ◌^◌, ◌<◌, ◌≤◌, List, length, map, All}
use Rattle.pgn_base.specs.declared.command.Command.{Command}
use Rattle.pgn_base.specs.declared.command.Command.TheVariants as command
use Rattle.pgn_base.specs.Texts.{IsName}
use Rattle.pgn_base.specs.Notes.{IsNote}
use Rattle.pgn_journal.specs.declared.tx.Tx.{Tx}
use Rattle.pgn_language.specs.declared.scenario.Act.{Act}
use Rattle.pgn_language.specs.declared.scenario.Act.TheVariants.{Run}
use Rattle.pgn_language.specs.declared.scenario.Scenario.{Scenario}
use Rattle.pgn_language.specs.Inputs.{IsSound}
use Rattle.pgn_model.specs.declared.trace.Trace.{Trace}
use Rattle.pgn_model.specs.Walk.{Settings}
use Rattle.pgn_model.specs.Legal.{Legal}
use Rattle.pgn_model.specs.Text.{text}
use Rattle.pgn_reading.specs.Completed.{seen}
use Rattle.pgn_reading.specs.Form.{IsReadable}
use Rattle.pgn_reading.specs.Blame.{Blames, IsLegalText}

-- a text that is checked has at most so many bytes
abbrev pub checked_bytes : ℕ
checked_bytes = 67108864

-- what the type of a command holds: its names are names, its notifications notifications, and its place has 32 bits
abbrev pub IsHeldCommand : Command → Type 0
IsHeldCommand (command.Savepoint name) = IsName name
IsHeldCommand (command.RollbackTo name) = IsName name
IsHeldCommand (command.Release name) = IsName name
IsHeldCommand (command.Listen name) = IsName name
IsHeldCommand (command.Unlisten name) = IsName name
IsHeldCommand (command.Notify note) = IsNote note
IsHeldCommand (command.PgNotify note) = IsNote note
IsHeldCommand (command.Bad at) = at < 2 ^ 32
IsHeldCommand other = Unit {0}

-- what that of an act holds
abbrev pub IsHeldAct : Act → Type 0
IsHeldAct (Run command) = IsHeldCommand command
IsHeldAct act = Unit {0}

-- what the types of a scenario and of what the command line sets hold
pub record IsHeld (scenario : Scenario) (settings : Settings) : Type 0 where
  pub acts : All (λ section. All (λ line. IsHeldAct line.act) section.lines) scenario.sections
  pub limit : settings.limit < 2 ^ 32
  pub patience : settings.patience < 2 ^ 64

-- a trace as its lines show it
abbrev pub seen_trace : Trace → Trace
seen_trace trace = record { session = trace.session; db = trace.db; items = seen trace.items; last = trace.last }

-- what is seen of a legal run whose text is not too long is readable
abbrev pub LegalIsReadable : Type 0
LegalIsReadable = (scenario : Scenario) (settings : Settings) (journal : List Tx) (traces : List Trace) → IsSound scenario → IsHeld scenario settings
    → length (text scenario journal traces) ≤ checked_bytes → Legal scenario settings journal traces → IsReadable scenario journal (map seen_trace traces)

-- of a text that is a legal run's no line is to blame
abbrev pub LegalIsUnblamed : Type 0
LegalIsUnblamed = (scenario : Scenario) (settings : Settings) (out : List ℕ) (n : ℕ) → IsSound scenario → IsHeld scenario settings → length out ≤ checked_bytes
    → IsLegalText scenario settings out → Blames scenario settings out n → ⊥
