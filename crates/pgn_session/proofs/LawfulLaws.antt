-- A session's trace is lawful between its calls, and grows.
use Rattle.std.proofs.Common.{◌≡◌, ℕ, sym, ap, ◌∙◌, subst}
use Rattle.pgn_hub.specs.declared.known.Known.{Known}
use Rattle.pgn_hub.specs.Shape.{Shape}
use Rattle.pgn_language.specs.declared.scenario.Section.{Section}
use Rattle.pgn_model.specs.Walk.{State}
use Rattle.pgn_session.specs.declared.session.Session.{Session}
use Rattle.pgn_session.specs.declared.doing.FlagPlan.{FlagPlan}
use Rattle.pgn_session.specs.Standing.{terms_of, IsAt, IsServedBy}
use Rattle.pgn_session.specs.Whole.{HasAnswer, HasRest, IsSameScript}
use Rattle.pgn_session.specs.Runs.{IsLawful, Script, script_of}
use Rattle.pgn_session.proofs.GrowthLaws.{begins-then}

module _ {P : Type 0} (shape : Shape) (known : P → Known) (s : Session P) where
  at-lawful : (Q : State → Type 0) → IsAt (terms_of shape s.section s.patience) s.done s.set.channels (known s.pass) s.items.items Q → IsLawful shape s
  at-lawful Q at = record { journal = (known s.pass).seen; state = at.state; holds = at.stands.holds }

  -- the trace of a session that has rested is lawful so far
  pub rest-lawful : HasRest shape known s → IsLawful shape s
  rest-lawful h = at-lawful _ h

  -- so is that of one that has answered
  pub answer-lawful : HasAnswer shape known s → IsLawful shape s
  answer-lawful h = at-lawful _ h

-- what a turn's clauses take: growth, and lawful traces at rest and behind an answer
pub ruleset turn_laws = (begins-then, rest-lawful, answer-lawful)

-- a session that has read has the script that it had
module _ {P : Type 0} (s new : Session P) (same : new ≡ record s { pass = new.pass; items = new.items }) where
  -- the hub serves it still
  pub read-served : (shape : Shape) → IsServedBy shape s.section s.plan → IsServedBy shape new.section new.plan
  read-served shape served = subst (λ (x : Session P). IsServedBy shape x.section x.plan) (sym same) served

  -- with what it was given to run
  pub read-script : script_of new ≡ script_of s
  read-script = ap (λ (x : Session P). script_of x) same

-- so has one that has made a step
module _ {P : Type 0} (s new : Session P) (same : IsSameScript s new) where
  -- the hub serves it still
  pub step-served : (shape : Shape) → IsServedBy shape s.section s.plan → IsServedBy shape new.section new.plan
  step-served shape served =
      subst (λ (section : Section). IsServedBy shape section new.plan) (sym same.section) (subst (λ (plan : FlagPlan). IsServedBy shape s.section plan) (sym same.plan) served)

  -- with what it was given to run
  pub step-script : script_of new ≡ script_of s
  step-script =
      ap (λ (section : Section). let script : Script = record { section = section; plan = new.plan; patience = new.patience } in script) same.section
      ∙ ap (λ (plan : FlagPlan). let script : Script = record { section = s.section; plan = plan; patience = new.patience } in script) same.plan
      ∙ ap (λ (patience : ℕ). let script : Script = record { section = s.section; plan = s.plan; patience = patience } in script) same.patience
