-- A session whose script is open: a `\quit` ends it, and before that lines are put in and taken, one after another.
use Rattle.std.specs.Prelude.{◌≡◌, ◌+◌, ◌⊎◌, List, [], ◌∷◌, ◌++◌, length}
use Rattle.pgn_base.specs.declared.command.Command.{Command}
use Rattle.pgn_answers.specs.declared.block_state.BlockState.TheVariants.{Idle}
use Rattle.pgn_language.specs.declared.scenario.Act.TheVariants.{Run, Quit}
use Rattle.pgn_language.specs.declared.scenario.ScriptLine.{ScriptLine}
use Rattle.pgn_language.specs.declared.scenario.Section.{Section}
use Rattle.pgn_model.specs.declared.item.Item.{Item}
use Rattle.pgn_model.specs.declared.item.Item.TheVariants.{Read}
use Rattle.pgn_model.specs.Walk.{State}
use Rattle.pgn_hub.specs.declared.known.Known.{Known}
use Rattle.pgn_hub.specs.Shape.{Shape}
use Rattle.pgn_session.specs.declared.session.Session.{Session}
use Rattle.pgn_session.specs.declared.doing.Doing.TheVariants.{Lines}
use Rattle.pgn_session.specs.Standing.{StandsAt, terms_of}
use Rattle.pgn_session.specs.Feed.{EndsByQuit, fed}
use Rattle.pgn_session.specs.FirstRead.{HasReadTold}

-- the session's trace so far is lawful over what its pass has seen, and shows what the pass knows
pub record HasStood {P : Type 0} (shape : Shape) (known : P → Known) (s : Session P) : Type 0 where
  pub state : State
  pub stands : StandsAt (terms_of shape s.section s.patience) (known s.pass) s.items.items state

-- the session stands between two lines, and all but the `\quit` that ends its script have begun
pub record IsOpen {P : Type 0} (s : Session P) : Type 0 where
  pub ends : EndsByQuit s.section.lines
  pub begun : s.done ≡ length ends.front
  pub between : s.doing ≡ Lines

-- a session that may begin: its script is a `\quit`
pub record BeginsEmpty {P : Type 0} (s : Session P) : Type 0 where
  pub last : ScriptLine
  pub lines : s.section.lines ≡ last ∷ []
  pub quits : last.act ≡ Quit
  pub begun : s.done ≡ 0
  pub between : s.doing ≡ Lines
  pub shown : s.items.items ≡ []

-- outside of a block a listener has read up to what it was told of
abbrev pub HasReadOutside : {P : Type 0} → (P → Known) → Session P → Type 0
HasReadOutside known s = s.block.state ≡ Idle → HasReadTold (known s.pass)

-- the line runs a command
abbrev pub RunsCommand : ScriptLine → Type 0
RunsCommand line = (command : Command) × (line.act ≡ Run command)

-- nothing of what the session was given has changed but its script
pub record IsSameClient {P : Type 0} (old new : Session P) : Type 0 where
  pub section : new.section ≡ record old.section { lines = new.section.lines }
  pub plan : new.plan ≡ old.plan
  pub patience : new.patience ≡ old.patience

-- the script is as it was, or has the line more
abbrev pub IsFedOrNot : Section → ScriptLine → Section → Type 0
IsFedOrNot old line new = (new ≡ old) ⊎ (new ≡ fed old line)

-- the session stands between two lines: this one is to come, and behind it the `\quit` that ends the script
pub record IsBefore {P : Type 0} (s : Session P) (line : ScriptLine) : Type 0 where
  pub front : List ScriptLine
  pub last : ScriptLine
  pub split : s.section.lines ≡ front ++ line ∷ last ∷ []
  pub quits : last.act ≡ Quit
  pub begun : s.done ≡ length front
  pub between : s.doing ≡ Lines

-- nothing, or one read
abbrev pub IsReadAtMost : List Item → Type 0
IsReadAtMost [] = Unit {0}
IsReadAtMost (Read from to got ∷ []) = Unit {0}
IsReadAtMost items = ⊥

-- behind the items a read is shown at most
pub record ShowsRead (before after : List Item) : Type 0 where
  pub reads : List Item
  pub shown : after ≡ before ++ reads
  pub are : IsReadAtMost reads
