-- What a step does, by where the session stood in its script.
use Rattle.std.specs.Prelude.{◌≡◌, ℕ, ◌+◌, ◌<◌, ◌≤◌, ◌⊎◌, Bool, true, false, ◌&&◌, cond, nat_lt, List, [], ◌∷◌, ◌++◌, length, Option, Some, None, All}
use Rattle.pgn_language.specs.declared.scenario.Act.{Act}
use Rattle.pgn_language.specs.declared.scenario.Act.TheVariants.{Run, Signal, Await, Quit}
use Rattle.pgn_language.specs.declared.scenario.ScriptLine.{ScriptLine}
use Rattle.pgn_model.specs.declared.item.Item.{Item}
use Rattle.pgn_model.specs.declared.item.Item.TheVariants as item
use Rattle.pgn_hub.specs.declared.known.Known.{Known}
use Rattle.pgn_model.specs.laws.NextLine.{quit_items}
use Rattle.pgn_hub.specs.Calls.{HasFound, HasFoundNone, HasInterest, HasLooked, HasRaised}
use Rattle.pgn_session.specs.declared.doing.FlagPlan.{FlagPlan}
use Rattle.pgn_session.specs.declared.doing.Step.{Step}
use Rattle.pgn_session.specs.declared.doing.Step.TheVariants.{Did, Waiting, Ended}
use Rattle.pgn_session.specs.declared.doing.Doing.{Doing}
use Rattle.pgn_session.specs.declared.doing.Doing.TheVariants as doing
use Rattle.pgn_session.specs.Standing.{end_flag, HaveEnded}
use Rattle.pgn_session.specs.Parts.{HasQuit, looked_items}

-- where the session stands after a look at an awaited flag that found this, with so many looks so far
abbrev pub looked_doing : ℕ → ℕ → ℕ → Option ℕ → Doing
looked_doing flag looks patience (Some value) = doing.Lines
looked_doing flag looks patience None = cond (nat_lt looks patience) (doing.Awaiting flag looks) doing.Lines

-- what its step comes to
abbrev pub looked_step : ℕ → ℕ → Option ℕ → Step
looked_step looks patience (Some value) = Did
looked_step looks patience None = cond (nat_lt looks patience) Waiting Did

-- a turn of an await: one look at its flag, which is the line's look of this number; those before it were made or slept over. It is shown
-- where it found the flag, and where it found nothing and was the last that the patience allows
pub record HasTurned (flag looks patience : ℕ) (old new : Known) (before after : List Item) (stands : Doing) (step : Step) : Type 0 where
  pub found : Option ℕ
  pub looked : HasLooked old new flag found
  pub shown : after ≡ looked_items before looks patience found
  pub place : stands ≡ looked_doing flag looks patience found
  pub comes_to : step ≡ looked_step looks patience found

-- looks at flags from this one on, one after another, that found each of them with these numbers
abbrev pub FindsEach : Known → ℕ → List ℕ → Known → Type 0
FindsEach old flag [] new = new ≡ old
FindsEach old flag (value ∷ values) new = (next : Known) × HasFound old next flag value × FindsEach next (flag + 1) values new

-- the last look found nothing, unless all flags were found
abbrev pub HasEndedLooks : Bool → Known → ℕ → Known → Type 0
HasEndedLooks true old flag new = HasFoundNone old new flag
HasEndedLooks false old flag new = new ≡ old

-- looks at the end flags of the sessions behind the first ones, in order, until one found nothing: so many are found then
pub record HasLookedOn (plan : FlagPlan) (first reached : ℕ) (old new : Known) : Type 0 where
  pub values : List ℕ
  pub between : Known
  pub finds : FindsEach old (plan.first_end + first) values between
  pub count : reached ≡ first + length values
  pub within : reached ≤ plan.sessions
  pub last : HasEndedLooks (nat_lt reached plan.sessions) between (plan.first_end + reached) new

-- the session goes on waiting for the others: not all end flags were found, and its patience is not spent
abbrev pub is_waiting_on : FlagPlan → ℕ → ℕ → ℕ → Bool
is_waiting_on plan reached looks patience = nat_lt reached plan.sessions && nat_lt (looks + 1) patience

-- a turn of the end phase, where the end flags of the first sessions were found and so many looks gave nothing, made or slept over
pub record HasWaited (plan : FlagPlan) (first looks patience : ℕ) (old new : Known) (stands : Doing) (step : Step) : Type 0 where
  pub reached : ℕ
  pub looked : HasLookedOn plan first reached old new
  pub place : stands ≡ cond (is_waiting_on plan reached looks patience) (doing.Ending reached (looks + 1)) doing.Over
  pub comes_to : step ≡ cond (is_waiting_on plan reached looks patience) Waiting Ended

-- a line that raises a flag
pub record HasSignalled (old new : Known) (line flag : ℕ) (before after : List Item) : Type 0 where
  pub raised : HasRaised old new flag old.told
  pub shown : after ≡ before ++ item.Line line ∷ [] ++ item.Raise old.told ∷ []

-- a line that quits: a listener leaves, and the end flag is raised
pub record HasQuitAt (plan : FlagPlan) (session : ℕ) (old new : Known) (line : ℕ) (before after : List Item) : Type 0 where
  pub left : Known
  pub leaves : HasQuit old left
  pub raised : HasRaised left new (end_flag plan session) left.told
  pub shown : after ≡ before ++ item.Line line ∷ [] ++ quit_items old.mark

-- the item shows what the block and the listening set tell: the hub has no part in it
abbrev pub IsWithoutHub : Item → Type 0
IsWithoutHub (item.Reply tag warning) = Unit {0}
IsWithoutHub (item.Refuse refusal) = Unit {0}
IsWithoutHub (item.Channels names) = Unit {0}
IsWithoutHub shown = ⊥

-- the item begins no line
abbrev pub IsNoLine : Item → Type 0
IsNoLine (item.Line line) = ⊥
IsNoLine shown = Unit {0}

-- the pass is as it was, but that it may have told its channels
abbrev pub HasToldAtMost : Known → Known → Type 0
HasToldAtMost old new = (new ≡ old) ⊎ ((channels : List (List ℕ)) × HasInterest old new channels)

-- a line was begun, and shows more, in which no other line begins; where the hub has no part in any of that, the pass is untouched, but
-- that a commit may have told its channels
pub record ShowsLine (line : ℕ) (old new : Known) (before after : List Item) : Type 0 where
  pub more : List Item
  pub shown : after ≡ before ++ item.Line line ∷ [] ++ more
  pub one_line : All IsNoLine more
  pub untouched : All IsWithoutHub more → HasToldAtMost old new

-- a line with this act: what was done, where the session stands then, and what the step came to
abbrev pub HasBegun : FlagPlan → ℕ → ℕ → ℕ → Act → Known → Known → List Item → List Item → Doing → Step → Type 0
HasBegun plan session patience line (Run command) old new before after stands step = ShowsLine line old new before after × (stands ≡ doing.Lines) × (step ≡ Did)
HasBegun plan session patience line (Signal flag) old new before after stands step = HasSignalled old new line flag before after × (stands ≡ doing.Lines) × (step ≡ Did)
HasBegun plan session patience line (Await flag) old new before after stands step = HasTurned flag 1 patience old new (before ++ item.Line line ∷ []) after stands step
HasBegun plan session patience line Quit old new before after stands step = HasQuitAt plan session old new line before after × (stands ≡ doing.Over) × (step ≡ Did)

-- the script's end: the end flag is raised, and no flag is looked at
pub record HasBegunEnd (plan : FlagPlan) (session : ℕ) (old new : Known) (before after : List Item) (stands : Doing) (step : Step) : Type 0 where
  pub raised : HasRaised old new (end_flag plan session) old.told
  pub shown : after ≡ before
  pub place : stands ≡ doing.Ending 0 0
  pub comes_to : step ≡ Did

-- between two lines: the next line, or the script's end where these are the lines to come. The count of lines that have begun is given
-- before and after
abbrev pub HasGoneOn : FlagPlan → ℕ → ℕ → List ScriptLine → ℕ → ℕ → Known → Known → List Item → List Item → Doing → Step → Type 0
HasGoneOn plan session patience [] done counted old new before after stands step = HasBegunEnd plan session old new before after stands step × (counted ≡ done)
HasGoneOn plan session patience (line ∷ lines) done counted old new before after stands step = HasBegun plan session patience line.line line.act old new before after stands step × (counted ≡ done + 1)

-- the first of the lines to come shows its commit
abbrev pub ShowsNext : List ScriptLine → Known → Known → List Item → List Item → Type 0
ShowsNext [] old new before after = ⊥
ShowsNext (line ∷ lines) old new before after = ShowsLine line.line old new before after

-- a step, by where the session stood
abbrev pub HasMoved : FlagPlan → ℕ → ℕ → List ScriptLine → Doing → ℕ → ℕ → Known → Known → List Item → List Item → Doing → Step → Type 0
HasMoved plan session patience lines doing.Lines done counted old new before after stands step = HasGoneOn plan session patience lines done counted old new before after stands step
HasMoved plan session patience lines (doing.Committing actions notes tag) done counted old new before after stands step =
    ShowsNext lines old new before after × (stands ≡ doing.Lines) × (step ≡ Did) × (counted ≡ done + 1)
HasMoved plan session patience lines (doing.Awaiting flag looks) done counted old new before after stands step = HasTurned flag (looks + 1) patience old new before after stands step × (counted ≡ done)
HasMoved plan session patience lines (doing.Ending first looks) done counted old new before after stands step =
    HasWaited plan first looks patience old new stands step × (after ≡ before) × (counted ≡ done)
HasMoved plan session patience lines doing.Over done counted old new before after stands step = (new ≡ old) × (after ≡ before) × (stands ≡ doing.Over) × (step ≡ Ended) × (counted ≡ done)

-- after a step that was refused the session stands as it did, but that the block may have handed out a commit; at the end no step is
-- refused
abbrev pub StandsStill : Doing → Doing → Type 0
StandsStill doing.Lines (doing.Committing actions notes tag) = Unit {0}
StandsStill doing.Lines stands = stands ≡ doing.Lines
StandsStill (doing.Committing actions notes tag) stands = stands ≡ doing.Committing actions notes tag
StandsStill (doing.Awaiting flag looks) stands = stands ≡ doing.Awaiting flag looks
StandsStill (doing.Ending first looks) stands = ⊥
StandsStill doing.Over stands = ⊥

-- how many of the lines that have begun have not their whole answer: the last, while it awaits a flag
abbrev pub unanswered : Doing → ℕ
unanswered (doing.Awaiting flag looks) = 1
unanswered doing.Lines = 0
unanswered (doing.Committing actions notes tag) = 0
unanswered (doing.Ending first looks) = 0
unanswered doing.Over = 0

-- a line got its whole answer
abbrev pub AnswersLine : Doing → ℕ → Doing → ℕ → Type 0
AnswersLine stood done stands counted = counted + unanswered stood ≡ done + unanswered stands + 1

-- the script's end began, in which the pass raises the session's end flag and looks at none
pub record BeginsEnd (plan : FlagPlan) (session : ℕ) (lines : List ScriptLine) (stood stands : Doing) (old new : Known) : Type 0 where
  pub stood_between : stood ≡ doing.Lines
  pub no_line : lines ≡ []
  pub place : stands ≡ doing.Ending 0 0
  pub raised : HasRaised old new (end_flag plan session) old.told

-- the last look of this call was at this flag, and found nothing
pub record LooksInVain (old new : Known) (flag : ℕ) : Type 0 where
  pub looked : old.looks < new.looks
  pub none : new.flag_look ≡ Some (flag, None)

-- the session waits: the last look gave nothing, and the patience is not spent by looks that were made or slept over
abbrev pub Waits : FlagPlan → ℕ → Known → Known → Doing → Type 0
Waits plan patience old new (doing.Awaiting flag looks) = LooksInVain old new flag × (looks < patience)
Waits plan patience old new (doing.Ending first looks) = LooksInVain old new (plan.first_end + first) × (looks < patience) × (first < plan.sessions)
Waits plan patience old new stands = ⊥

-- the session is over, where it stood so at the call: it has quit or waited before; or by now all end flags are found; or so many looks
-- as the patience is, made or slept over, gave nothing
abbrev pub Ends : FlagPlan → ℕ → Doing → Known → Type 0
Ends plan patience doing.Over new = Unit {0}
Ends plan patience (doing.Ending first looks) new = HaveEnded plan plan.sessions new.found ⊎ (patience ≤ looks + 1)
Ends plan patience stood new = ⊥
