-- What holds of a session before it runs, while it takes turns, and once it has run.
use Rattle.std.specs.Prelude.{◌≡◌, ◌⊎◌, ◌≤◌, ℕ, List, map, Contains}
use Rattle.pgn_hub.specs.declared.known.Known.{Known}
use Rattle.pgn_language.specs.declared.scenario.Section.{Section}
use Rattle.pgn_hub.specs.Shape.{Shape}
use Rattle.pgn_journal.specs.declared.tx.Tx.{Tx}
use Rattle.pgn_model.specs.declared.item.Item.{Item}
use Rattle.pgn_model.specs.Walk.{Terms, State}
use Rattle.pgn_model.specs.laws.NextLine.{HoldsSoFar}
use Rattle.pgn_session.specs.declared.session.Session.{Session}
use Rattle.pgn_session.specs.declared.doing.FlagPlan.{FlagPlan}
use Rattle.pgn_session.specs.declared.doing.Doing.TheVariants.{Over}
use Rattle.pgn_session.specs.Standing.{IsServedBy, end_flag, terms_of}
use Rattle.pgn_session.specs.Sleep.{slept_doing}
use Rattle.pgn_session.specs.Whole.{HasRest}

-- what a session was given to run
pub record Script : Type 0 where
  pub section : Section
  pub plan : FlagPlan
  pub patience : ℕ

abbrev pub script_of : {P : Type 0} → Session P → Script
script_of s = record { section = s.section; plan = s.plan; patience = s.patience }

-- what it has shown so far
abbrev pub shown_of : {P : Type 0} → Session P → List Item
shown_of s = s.items.items

-- the items are those of a trace that is lawful so far, over some journal
pub record AreLawful (terms : Terms) (items : List Item) : Type 0 where
  pub journal : List Tx
  pub state : State
  pub holds : HoldsSoFar terms journal items state

-- the session's trace so far is lawful, over some journal
abbrev pub IsLawful : {P : Type 0} → Shape → Session P → Type 0
IsLawful shape s = AreLawful (terms_of shape s.section s.patience) s.items.items

-- the session's pass is the hub's, which has each flag that the session may name, and the session left no read out
pub record IsReady {P : Type 0} (is_own : P → Type 0) (shape : Shape) (known : P → Known) (s : Session P) : Type 0 where
  pub own : is_own s.pass
  pub served : IsServedBy shape s.section s.plan
  pub rested : HasRest shape known s

-- the session's pass is the hub's, the session is over, and it left no read out
pub record IsOver {P : Type 0} (is_own : P → Type 0) (shape : Shape) (known : P → Known) (s : Session P) : Type 0 where
  pub own : is_own s.pass
  pub over : s.doing ≡ Over
  pub rested : HasRest shape known s

-- the session's pass is the hub's, which has each flag that the session may name: it can give up
pub record IsHeld {P : Type 0} (is_own : P → Type 0) (shape : Shape) (s : Session P) : Type 0 where
  pub own : is_own s.pass
  pub served : IsServedBy shape s.section s.plan

-- the session, once a sleep of so many microseconds was counted
abbrev pub slept : {P : Type 0} → ℕ → Session P → Session P
slept micros s = record s { doing = slept_doing s.patience micros s.doing }

-- a sleep of the same time was counted for each session, of so many microseconds at most
abbrev pub HaveSlept : {P : Type 0} → ℕ → List (Session P) → List (Session P) → Type 0
HaveSlept longest old new = (micros : ℕ) × (micros ≤ longest) × (new ≡ map (slept micros) old)

-- the session has raised its end flag with what it was told, so that no other waits for it
abbrev pub HasGivenUp : {P : Type 0} → (P → Known) → Session P → Type 0
HasGivenUp known s = Contains (known s.pass).raised (end_flag s.plan s.section.no, (known s.pass).told)

-- the session is over, or it has given up
abbrev pub HasStopped : {P : Type 0} → (P → Type 0) → Shape → (P → Known) → Session P → Type 0
HasStopped is_own shape known s = IsOver is_own shape known s ⊎ HasGivenUp known s
