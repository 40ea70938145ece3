-- What a session has done for what its desk was asked so far, what was told of it, and how each part of a turn carries that on.
use Rattle.std.specs.Prelude.{◌≡◌, ℕ, false, List, [], ◌∷◌, ◌++◌, Option, None, Some, All, Result, OnErr, OnOk}
use Rattle.std.specs.List.{list_any}
use Rattle.pgn_hub.specs.declared.known.Known.{Known}
use Rattle.pgn_hub.specs.Shape.{Shape}
use Rattle.pgn_language.specs.declared.scenario.ScriptLine.{ScriptLine}
use Rattle.pgn_language.specs.Inputs.{note_lines_of}
use Rattle.pgn_model.specs.declared.item.Item.{Item}
use Rattle.pgn_model.specs.declared.item.Item.TheVariants.{Line}
use Rattle.pgn_model.specs.Trace.{reads_first}
use Rattle.pgn_messages.specs.Laws.{begins_line}
use Rattle.pgn_session.specs.declared.doing.Doing.TheVariants.{Over}
use Rattle.pgn_session.specs.declared.session.Session.{Session}
use Rattle.pgn_session.specs.Feed.{fed}
use Rattle.pgn_session.specs.Open.{IsBefore, IsOpen, IsSameClient, RunsCommand}
use Rattle.pgn_session.specs.Runs.{IsLawful}
use Rattle.pgn_session.specs.Standing.{IsServedBy}
use Rattle.pgn_session.specs.FirstRead.{HasReadTold, IsToReadFirst}
use Rattle.pgn_session.specs.Whole.{HasRest, IsSameScript}
use Rattle.pgn_outlet.specs.declared.hand.Hand.{Hand}
use Rattle.pgn_outlet.specs.Cames.{what_of}
use Rattle.pgn_outlet.specs.Rule.{MayPush}
use Rattle.pgn_messages.specs.declared.asked.Ask.{Ask}
use Rattle.pgn_messages.specs.declared.saying.Saying.{Saying}
use Rattle.pgn_messages.specs.Asks.{seat_quit}
use Rattle.pgn_messages.specs.Sayings.{all_told}
use Rattle.pgn_messages.specs.Turns.{Turn, IsPlain, asks_of, items_of, lines_of, said, telling_of}
use Rattle.pgn_requests.specs.Settings.{Kept}
use Rattle.pgn_seats.specs.declared.desk.Desk.{Desk}
use Rattle.pgn_seats.specs.Serving.{HasPushedFor, HasQuitBehind, IsInTurns}

-- a session at work: its pass is the hub's, which has each flag that it may name, it left no read out, and its script is open
pub record IsAtWork {P : Type 0} (is_own : P → Type 0) (shape : Shape) (known : P → Known) (s : Session P) : Type 0 where
  pub own : is_own s.pass
  pub served : IsServedBy shape s.section s.plan
  pub rested : HasRest shape known s
  pub is_open : IsOpen s

-- the same, where this line is to come before the `\quit`
pub record IsAtLine {P : Type 0} (is_own : P → Type 0) (shape : Shape) (known : P → Known) (line : ScriptLine) (s : Session P) : Type 0 where
  pub own : is_own s.pass
  pub served : IsServedBy shape s.section s.plan
  pub rested : HasRest shape known s
  pub before : IsBefore s line
  pub runs : RunsCommand line

-- a session that may take a step: what it is to read before the line that is to come, it has read
pub record MayStep {P : Type 0} (is_own : P → Type 0) (shape : Shape) (known : P → Known) (s : Session P) : Type 0 where
  pub own : is_own s.pass
  pub served : IsServedBy shape s.section s.plan
  pub rested : HasRest shape known s
  pub read_up : IsToReadFirst s → HasReadTold (known s.pass)

-- the session has run a line: it and its items stand behind what was shown, and no other line begins among them
pub record HasRun {P : Type 0} (old : Session P) (line : ScriptLine) (new : Session P) : Type 0 where
  pub more : List Item
  pub shown : new.items.items ≡ old.items.items ++ Line line.line ∷ more
  pub one_line : list_any begins_line more ≡ false

-- it has, and is at work behind it
pub record HasRunLine {P : Type 0} (is_own : P → Type 0) (shape : Shape) (known : P → Known) (old : Session P) (line : ScriptLine) (new : Session P) : Type 0 where
  pub ran : HasRun old line new
  pub work : IsAtWork is_own shape known new

-- the session has taken the `\quit` that ends its script, whatever turns are before that: it is over, and no listener
pub record HasQuit {P : Type 0} (known : P → Known) (old new : Session P) : Type 0 where
  pub over : new.doing ≡ Over
  pub left : (known new.pass).mark ≡ None
  pub behind : (turns : List Turn) → IsInTurns old turns → HasQuitBehind new turns

-- the session has run two lines, which were put into its script
pub record HasRunBoth {P : Type 0} (old : Session P) (first second : ScriptLine) (new : Session P) : Type 0 where
  pub one : List Item
  pub two : List Item
  pub shown : new.items.items ≡ old.items.items ++ (Line first.line ∷ one ++ Line second.line ∷ two)
  pub one_line : list_any begins_line one ≡ false
  pub one_more : list_any begins_line two ≡ false
  pub section : new.section ≡ fed (fed old.section first) second

-- the session has run a line, which was put into its script
pub record HasRunPut {P : Type 0} (old : Session P) (line : ScriptLine) (new : Session P) : Type 0 where
  pub section : new.section ≡ fed old.section line
  pub ran : HasRun old line new

-- all that was asked, and nothing else, was done in turns, they are what was told, and the settings are those behind them. These lines are to
-- come, and then the `\quit`
pub record HasDone {P : Type 0} (rest : List ScriptLine) (asks : List Ask) (s : Session P) (kept : Kept) (tells : Hand Saying) : Type 0 where
  pub turns : List Turn
  pub plain : All IsPlain turns
  pub asked : asks_of turns ≡ asks
  pub lines : s.section.lines ≡ lines_of turns ++ (rest ++ seat_quit ∷ [])
  pub items : s.items.items ≡ items_of turns
  pub told : all_told (what_of s.section.no tells.sent) ≡ said s.section.no turns
  pub settings : kept ≡ (telling_of turns).kept

-- it was, and of what followed nothing was told
pub record HasDoneFirst {P : Type 0} (asks : List Ask) (s : Session P) (tells : Hand Saying) : Type 0 where
  pub turns : List Turn
  pub plain : All IsPlain turns
  pub asked : asks_of turns ≡ asks
  pub rest : List ScriptLine
  pub lines : s.section.lines ≡ lines_of turns ++ (rest ++ seat_quit ∷ [])
  pub more : List Item
  pub items : s.items.items ≡ items_of turns ++ more
  pub told : all_told (what_of s.section.no tells.sent) ≡ said s.section.no turns

-- whatever was done first stays done first
abbrev pub StaysDone : {P : Type 0} → Session P → Session P → Type 0
StaysDone old new = (asks : List Ask) (tells : Hand Saying) → HasDoneFirst asks old tells → HasDoneFirst asks new tells

-- a line was put into the script of a desk's session, with this answer, or nothing has changed
pub record HasPut {P T E : Type 0} (known : P → Known) (old : Desk P) (line : ScriptLine) (new : Desk P) (r : Result T E) : Type 0 where
  pub same : new ≡ record old { session = new.session; notes = new.notes }
  pub fed : OnOk r (new.session ≡ record old.session { section = fed old.session.section line })
  pub unchanged : OnErr r (new.session ≡ old.session)
  pub rested : (shape : Shape) → HasRest shape known old.session → OnOk r (HasRest shape known new.session)
  pub counted : new.notes ≡ note_lines_of new.session.section.lines

-- a session has taken a step, with this answer: a line, or the `\quit`
pub record HasGone {P T E : Type 0} (is_own : P → Type 0) (shape : Shape) (known : P → Known) (old new : Session P) (r : Result T E) : Type 0 where
  pub own : is_own new.pass
  pub same : IsSameScript old new
  pub lawful : IsLawful shape new
  pub first : StaysDone old new
  pub rested : OnOk r (HasRest shape known new)
  pub ran : OnOk r ((line : ScriptLine) → IsAtLine is_own shape known line old → HasRunLine is_own shape known old line new)
  pub quits : OnOk r (IsOpen old → HasQuit known old new)

-- a desk that may put this line into the script of its session and run it: it is none before which a session reads
pub record MayTake {P : Type 0} (is_own : P → Type 0) (shape : Shape) (known : P → Known) (line : ScriptLine) (desk : Desk P) : Type 0 where
  pub work : IsAtWork is_own shape known desk.session
  pub runs : RunsCommand line
  pub unread : reads_first line.act ≡ false
  pub counted : desk.notes ≡ note_lines_of desk.session.section.lines

-- it has run lines, with this answer: with them Q holds
pub record HasTaken {P T E : Type 0} (is_own : P → Type 0) (shape : Shape) (known : P → Known) (Q : Type 0) (old new : Desk P) (r : Result T E) : Type 0 where
  pub asks : new.asks ≡ old.asks
  pub settings : new.settings ≡ old.settings
  pub same : IsSameClient old.session new.session
  pub lawful : IsLawful shape new.session
  pub first : StaysDone old.session new.session
  pub counted : new.notes ≡ note_lines_of new.session.section.lines
  pub work : OnOk r (IsAtWork is_own shape known new.session)
  pub ran : OnOk r Q

-- what was asked, and this besides, if it is one
abbrev pub with_ask : List Ask → Option Ask → List Ask
with_ask asks None = asks
with_ask asks (Some ask) = asks ++ ask ∷ []

-- a part of a turn that was done: all that was asked is done and told still, and this besides. The settings stay
abbrev pub GoesOn : {P : Type 0} → List ScriptLine → List ScriptLine → Option Ask → Session P → Session P → Hand Saying → Hand Saying → Type 0
GoesOn rest next asked old new before after = (kept : Kept) (asks : List Ask) → HasDone rest asks old kept before → HasDone next (with_ask asks asked) new kept after

-- a part for which memory did not suffice: all that was asked was done first
abbrev pub StopsFirst : {P : Type 0} → List ScriptLine → Session P → Session P → Hand Saying → Hand Saying → Type 0
StopsFirst rest old new before after = (kept : Kept) (asks : List Ask) → HasDone rest asks old kept before → HasDoneFirst asks new after

-- a desk that has done what it was asked: all that was asked before is done and told still, and this besides, which leads to its settings
abbrev pub HasDoneAsk : {P : Type 0} → Ask → Desk P → Desk P → Hand Saying → Hand Saying → Type 0
HasDoneAsk ask old new before after = (asks : List Ask) → HasDone [] asks old.session old.settings before → HasDone [] (asks ++ ask ∷ []) new.session new.settings after

-- what was told for number n grew by these signs
abbrev pub HasSaid : ℕ → List (Option ℕ) → Hand Saying → Hand Saying → Type 0
HasSaid n signs old new = all_told (what_of n new.sent) ≡ all_told (what_of n old.sent) ++ signs

-- a desk that may do what it is asked, and tell it
pub record MayDo {P : Type 0} (is_own : P → Type 0) (shape : Shape) (known : P → Known) (desk : Desk P) (tells : Hand Saying) : Type 0 where
  pub may : MayPush tells desk.session.section.no
  pub work : IsAtWork is_own shape known desk.session
  pub counted : desk.notes ≡ note_lines_of desk.session.section.lines

-- a desk has done this and told it; or it was refused memory, and all that was asked before was done first
pub record HasTried {P T E : Type 0} (is_own : P → Type 0) (shape : Shape) (known : P → Known) (ask : Ask) (old new : Desk P) (before after : Hand Saying) (r : Result T E) : Type 0 where
  pub alone : HasPushedFor old.session.section.no before after
  pub asks : new.asks ≡ old.asks
  pub same : IsSameClient old.session new.session
  pub lawful : IsLawful shape new.session
  pub counted : new.notes ≡ note_lines_of new.session.section.lines
  pub work : OnOk r (IsAtWork is_own shape known new.session)
  pub went : OnOk r (HasDoneAsk ask old new before after)
  pub stopped : OnErr r (StopsFirst [] old.session new.session before after)
