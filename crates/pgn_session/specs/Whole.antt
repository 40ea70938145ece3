-- What holds of a whole session, with what is known of its pass.
use Rattle.std.specs.Prelude.{◌≡◌, ◌⊎◌, ℕ, ◌+◌, ◌∷◌, drop}
use Rattle.pgn_hub.specs.declared.known.Known.{Known}
use Rattle.pgn_language.specs.declared.scenario.Act.{Act}
use Rattle.pgn_language.specs.declared.scenario.ScriptLine.{ScriptLine}
use Rattle.pgn_hub.specs.Shape.{Shape}
use Rattle.pgn_session.specs.declared.session.Session.{Session}
use Rattle.pgn_session.specs.declared.doing.Doing.{Doing}
use Rattle.pgn_session.specs.declared.doing.Doing.TheVariants.{Lines}
use Rattle.pgn_session.specs.declared.doing.IdleDone.{IdleDone}
use Rattle.pgn_session.specs.declared.doing.Step.{Step}
use Rattle.pgn_session.specs.declared.doing.Step.TheVariants.{Ended}
use Rattle.pgn_session.specs.Standing.{terms_of, IsAnswered, IsRested}
use Rattle.pgn_session.specs.Parts.{HasFinished, HasIdled}
use Rattle.pgn_session.specs.Steps.{AnswersLine, BeginsEnd, Waits, Ends, HasMoved, StandsStill}

-- the session, where it stands so in its script, has answered: it may have to read
abbrev pub AnswersAt : {P : Type 0} → Shape → (P → Known) → Session P → Doing → Type 0
AnswersAt shape known s doing = IsAnswered (terms_of shape s.section s.patience) s.plan s.done s.block s.set.channels doing (known s.pass) s.items.items

-- it has rested: it left no read out
abbrev pub RestsAt : {P : Type 0} → Shape → (P → Known) → Session P → Doing → Type 0
RestsAt shape known s doing = IsRested (terms_of shape s.section s.patience) s.plan s.done s.block s.set.channels doing (known s.pass) s.items.items

-- the session has answered: it may have to read
abbrev pub HasAnswer : {P : Type 0} → Shape → (P → Known) → Session P → Type 0
HasAnswer shape known s = AnswersAt shape known s s.doing

-- the session has rested: it left no read out
abbrev pub HasRest : {P : Type 0} → Shape → (P → Known) → Session P → Type 0
HasRest shape known s = RestsAt shape known s s.doing

-- the next line of the script has this number and does this
pub record ComesWith {P : Type 0} (s : Session P) (line : ℕ) (act : Act) : Type 0 where
  pub next : ScriptLine
  pub split : drop s.done s.section.lines ≡ next ∷ drop (s.done + 1) s.section.lines
  pub number : next.line ≡ line
  pub does : next.act ≡ act

-- the script, the plan and the patience are the same
pub record IsSameScript {P : Type 0} (old new : Session P) : Type 0 where
  pub section : new.section ≡ old.section
  pub plan : new.plan ≡ old.plan
  pub patience : new.patience ≡ old.patience

-- a step by where the session stood
abbrev pub Moves : {P : Type 0} → (P → Known) → Session P → Session P → Step → Type 0
Moves known old new step = HasMoved old.plan old.section.no old.patience (drop old.done old.section.lines) old.doing old.done new.done
    (known old.pass) (known new.pass) old.items.items new.items.items new.doing step

-- a line got its whole answer, or the script's end began
abbrev pub HasDone : {P : Type 0} → (P → Known) → Session P → Session P → Type 0
HasDone known old new = AnswersLine old.doing old.done new.doing new.done
    ⊎ BeginsEnd old.plan old.section.no (drop old.done old.section.lines) old.doing new.doing (known old.pass) (known new.pass)

-- the last look gave nothing, and the patience is not spent
abbrev pub WaitsOn : {P : Type 0} → (P → Known) → Session P → Session P → Type 0
WaitsOn known old new = Waits old.plan old.patience (known old.pass) (known new.pass) new.doing

-- the session is over from where it stood
abbrev pub EndsThere : {P : Type 0} → (P → Known) → Session P → Session P → Type 0
EndsThere known old new = Ends old.plan old.patience old.doing (known new.pass)

-- what an idle session did
abbrev pub IdlesAs : {P : Type 0} → Shape → (P → Known) → Session P → Session P → IdleDone → Type 0
IdlesAs shape known old new done = HasIdled shape.format (known old.pass) (known new.pass) old.set.channels old.items.items new.items.items done

-- what its last read did
abbrev pub FinishesAs : {P : Type 0} → (P → Known) → Session P → Session P → Type 0
FinishesAs known old new = HasFinished (known old.pass) (known new.pass) old.set.channels old.items.items new.items.items

-- a step of a session that stood so: each line has its answer, and where it is over no read was left out
pub record HasStepped {P : Type 0} (shape : Shape) (known : P → Known) (old : Session P) (stood : Doing) (new : Session P) (step : Step) : Type 0 where
  pub same : IsSameScript old new
  pub answered : HasAnswer shape known new
  pub rested : step ≡ Ended → HasRest shape known new
  pub moved : HasMoved old.plan old.section.no old.patience (drop old.done old.section.lines) stood old.done new.done
      (known old.pass) (known new.pass) old.items.items new.items.items new.doing step

-- a step that was refused: the pass and the trace are as they were, and the session may go on
pub record HasRefused {P : Type 0} (shape : Shape) (known : P → Known) (old : Session P) (stood : Doing) (new : Session P) : Type 0 where
  pub same : IsSameScript old new
  pub place : StandsStill stood new.doing
  pub pass : new.pass ≡ old.pass
  pub shown : new.items.items ≡ old.items.items
  pub counted : new.done ≡ old.done
  pub channels : new.set.channels ≡ old.set.channels
  pub rested : HasRest shape known new

-- a step from between two lines
abbrev pub StepsBetween : {P : Type 0} → Shape → (P → Known) → Session P → Session P → Step → Type 0
StepsBetween shape known old new step = HasStepped shape known old Lines new step

-- one that was refused
abbrev pub StaysBetween : {P : Type 0} → Shape → (P → Known) → Session P → Session P → Type 0
StaysBetween shape known old new = HasRefused shape known old Lines new
