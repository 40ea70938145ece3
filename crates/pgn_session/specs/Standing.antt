-- What holds of a session between its calls, said of its section, of what is known of its pass, of its items, its set and its block.
use Rattle.std.specs.Prelude.{◌≡◌, ℕ, ◌+◌, ◌-◌, ◌<◌, ◌≤◌, List, [], ◌++◌, drop, IfSome, All, Contains, length}
use Rattle.pgn_base.specs.declared.note.Note.{Note}
use Rattle.pgn_base.specs.declared.answers.Tag.{Tag}
use Rattle.pgn_base.specs.declared.action.Action.{Action}
use Rattle.pgn_answers.specs.declared.block_state.BlockState.TheVariants.{Idle}
use Rattle.pgn_base.specs.declared.command.Command.{Command}
use Rattle.pgn_language.specs.declared.scenario.Act.{Act}
use Rattle.pgn_language.specs.declared.scenario.Act.TheVariants.{Signal, Await}
use Rattle.pgn_language.specs.declared.scenario.ScriptLine.{ScriptLine}
use Rattle.pgn_language.specs.declared.scenario.Section.{Section}
use Rattle.pgn_model.specs.declared.item.Item.{Item}
use Rattle.pgn_hub.specs.declared.known.Known.{Known}
use Rattle.pgn_hub.specs.Shape.{Shape}
use Rattle.pgn_answers.specs.Savepoints.{count_noted}
use Rattle.pgn_language.specs.Inputs.{QuitsLast, note_lines_of}
use Rattle.pgn_model.specs.Walk.{Terms, State, Owed, Nothing}
use Rattle.pgn_model.specs.Walk as walk
use Rattle.pgn_model.specs.Trace.{IsUpToDate}
use Rattle.pgn_model.specs.Legal.{finished_xids}
use Rattle.pgn_model.specs.laws.NextLine.{HoldsSoFar, CommitsNext}
use Rattle.pgn_block.specs.Kept.{StandsFor}
use Rattle.pgn_block.specs.Views.{BlockView, idle_view}
use Rattle.pgn_session.specs.declared.doing.FlagPlan.{FlagPlan}
use Rattle.pgn_session.specs.declared.doing.Doing.{Doing}
use Rattle.pgn_session.specs.declared.doing.Doing.TheVariants.{Lines, Committing, Awaiting, Ending, Over}

-- by what a session's trace is judged, at a hub of this shape
abbrev pub terms_of : Shape → Section → ℕ → Terms
terms_of shape section patience = record { section = section; settings = record { format = shape.format; limit = shape.pages; patience = patience } }

-- the flag that an act names is below this number
abbrev pub IsFlagBelow : ℕ → Act → Type 0
IsFlagBelow flags (Signal flag) = flag < flags
IsFlagBelow flags (Await flag) = flag < flags
IsFlagBelow flags act = Unit {0}

-- the flag that a session raises where its script ends
abbrev pub end_flag : FlagPlan → ℕ → ℕ
end_flag plan session = plan.first_end + (session - 1)

-- a hub of this shape has each flag of the section and of the plan, and the plan has the section
pub record IsServedBy (shape : Shape) (section : Section) (plan : FlagPlan) : Type 0 where
  pub acts : All (λ line. IsFlagBelow shape.flags line.act) section.lines
  pub ends : plan.first_end + plan.sessions ≤ shape.flags
  pub session : section.no ≤ plan.sessions

-- each member of the one is a member of the other
pub record HaveSameMembers (xs ys : List ℕ) : Type 0 where
  pub of_left : All (Contains ys) xs
  pub of_right : All (Contains xs) ys

-- the trace so far leads to a state of the walk, and shows what the pass knows
pub record StandsAt (terms : Terms) (k : Known) (items : List Item) (s : State) : Type 0 where
  pub holds : HoldsSoFar terms k.seen items s
  pub session : k.session ≡ terms.section.no
  pub database : k.db ≡ terms.section.db
  -- the transactions that the trace shows as finished are the pass's own
  pub own : finished_xids items ≡ k.own
  pub mark : s.mark ≡ k.mark
  -- a listener has told the hub the set that it reads by
  pub interested : IfSome k.mark (λ _. k.set ≡ s.set)
  -- a read that moved nothing puts its end into the pass's list once more, and shows nothing
  pub marks : HaveSameMembers s.marks k.marks
  pub stood : IfSome k.mark (Contains k.marks)
  -- each holder that the trace names was met by the pass
  pub named : All (Contains k.named) s.named
  -- an await looks at its flag at least once
  pub patient : 1 ≤ terms.settings.patience

-- the pass was told, has raised and has found what the trace shows, and nothing else
pub record TellsAll (k : Known) (s : State) : Type 0 where
  pub told : s.told ≡ k.told
  pub raised : s.raised ≡ k.raised
  pub found : s.found ≡ k.found

-- it is the number of an end flag
abbrev pub IsEndPair : FlagPlan → ℕ × ℕ → Type 0
IsEndPair plan pair = (plan.first_end ≤ pair.0) × (pair.0 < plan.first_end + plan.sessions)

-- the second is the first, and behind it pairs of end flags
pub record GoesOnByEnds (plan : FlagPlan) (shown known : List (ℕ × ℕ)) : Type 0 where
  pub more : List (ℕ × ℕ)
  pub whole : known ≡ shown ++ more
  pub ends : All (IsEndPair plan) more

-- the pass was told no less than the trace shows, and has raised and found end flags besides
pub record TellsMore (plan : FlagPlan) (k : Known) (s : State) : Type 0 where
  pub told : s.told ≤ k.told
  pub raised : GoesOnByEnds plan s.raised k.raised
  pub found : GoesOnByEnds plan s.found k.found

-- so many notifications may be sent beyond those of the lines that the script has: for lines that are put into it later
abbrev pub spare_of : Section → ℕ
spare_of section = section.note_lines - note_lines_of section.lines

-- the script goes on, and so many notifications are to be kept back: the block is the walk's, and what the current line still has to show
-- is this
pub record IsInScript (spare : ℕ) (block : BlockView) (k : Known) (s : State) (owed : Owed) : Type 0 where
  pub owes : s.owed ≡ owed
  pub block_state : s.block ≡ block.state
  pub list : StandsFor s.changes block.kept
  pub tells : TellsAll k s
  pub budget : spare + count_noted s.changes + note_lines_of s.rest ≤ k.notes_left
  pub quits_last : QuitsLast s.rest

-- the script is done, and what was open is dropped
pub record IsPastScript (plan : FlagPlan) (block : BlockView) (k : Known) (s : State) : Type 0 where
  pub owes : s.owed ≡ Nothing
  pub done : s.rest ≡ []
  pub dropped : block.state ≡ Idle
  pub tells : TellsMore plan k s

-- the block has handed out the next line's commit, and is done with it
pub record IsCommitting (terms : Terms) (block : BlockView) (k : Known) (s : State) (actions : List Action) (notes : List Note) (tag : Tag) : Type 0 where
  pub line : ScriptLine
  pub lines : List ScriptLine
  pub command : Command
  pub next : CommitsNext terms k.seen s line lines command tag actions notes
  pub handed_out : block ≡ idle_view
  pub tells : TellsAll k s
  pub budget : spare_of terms.section + length notes + note_lines_of lines ≤ k.notes_left
  pub quits_last : QuitsLast lines

-- a line of the section awaits the flag
pub record IsAwaitedIn (section : Section) (flag : ℕ) : Type 0 where
  pub line : ScriptLine
  pub among : Contains section.lines line
  pub does : line.act ≡ Await flag

-- the flag was found
abbrev pub WasFound : List (ℕ × ℕ) → ℕ → Type 0
WasFound found flag = (value : ℕ) × Contains found (flag, value)

-- the end flags of the first sessions, so many of them, were found
abbrev pub HaveEnded : FlagPlan → ℕ → List (ℕ × ℕ) → Type 0
HaveEnded plan count found = (i : ℕ) → i < count → WasFound found (plan.first_end + i)

-- where the session stands in its script: each line so far has its whole answer, but that the last may be an await that has found
-- nothing yet
abbrev pub HasAnswered : Terms → FlagPlan → BlockView → Known → State → Doing → Type 0
HasAnswered terms plan block k s Lines = IsInScript (spare_of terms.section) block k s Nothing
HasAnswered terms plan block k s (Committing actions notes tag) = ⊥
HasAnswered terms plan block k s (Awaiting flag looks) = IsInScript (spare_of terms.section) block k s (walk.Awaiting flag) × (looks < terms.settings.patience) × IsAwaitedIn terms.section flag
HasAnswered terms plan block k s (Ending found looks) = IsPastScript plan block k s × (looks < terms.settings.patience) × (found ≤ plan.sessions) × HaveEnded plan found k.found
HasAnswered terms plan block k s Over = IsPastScript plan block k s

-- no read was left out where the session stands
abbrev pub HasReadUp : Terms → Known → State → Doing → Type 0
HasReadUp terms k s Lines = s.block ≡ Idle → IsUpToDate terms k.seen s
HasReadUp terms k s (Committing actions notes tag) = ⊥
HasReadUp terms k s (Awaiting flag looks) = s.block ≡ Idle → IsUpToDate terms k.seen s
HasReadUp terms k s (Ending found looks) = IsUpToDate terms k.seen s
HasReadUp terms k s Over = IsUpToDate terms k.seen s

-- each line so far has its answer and no read was left out; or a commit was handed out to which no memory was given
abbrev pub HasRested : Terms → FlagPlan → BlockView → Known → State → Doing → Type 0
HasRested terms plan block k s (Committing actions notes tag) = IsCommitting terms block k s actions notes tag
HasRested terms plan block k s doing = HasAnswered terms plan block k s doing × HasReadUp terms k s doing

-- at some state of the walk the trace shows what the pass knows, the rest of the script is to come, and the set is the session's
pub record IsAt (terms : Terms) (done : ℕ) (set : List (List ℕ)) (k : Known) (items : List Item) (P : State → Type 0) : Type 0 where
  pub state : State
  pub stands : StandsAt terms k items state
  pub rest : state.rest ≡ drop done terms.section.lines
  pub channels : state.set ≡ set
  pub here : P state

-- the session has answered: it may have to read
abbrev pub IsAnswered : Terms → FlagPlan → ℕ → BlockView → List (List ℕ) → Doing → Known → List Item → Type 0
IsAnswered terms plan done block set doing k items = IsAt terms done set k items (λ s. HasAnswered terms plan block k s doing)

-- the session has rested: it left no read out
abbrev pub IsRested : Terms → FlagPlan → ℕ → BlockView → List (List ℕ) → Doing → Known → List Item → Type 0
IsRested terms plan done block set doing k items = IsAt terms done set k items (λ s. HasRested terms plan block k s doing)

-- the last line that began awaits this flag, which is to be looked for
abbrev pub IsLookingFor : Terms → ℕ → BlockView → List (List ℕ) → ℕ → Known → List Item → Type 0
IsLookingFor terms done block set flag k items = IsAt terms done set k items (λ s. IsInScript (spare_of terms.section) block k s (walk.Awaiting flag) × (s.block ≡ Idle → IsUpToDate terms k.seen s) × IsAwaitedIn terms.section flag)
