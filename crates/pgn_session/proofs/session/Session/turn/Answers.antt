use Rattle.std.proofs.Common.{◌≡◌, ap, Ok, ◌∙◌, rules}
use Rattle.pgn_session.specs.declared.doing.Step.TheVariants.{Ended}
use Rattle.pgn_session.proofs.GrowthLaws.{begins-then}
use Rattle.pgn_session.proofs.LawfulLaws.{rest-lawful, answer-lawful, read-served, read-script, step-served, step-script}
use Rattle.pgn_session.proofs.session.Session.turn.Goals as goal

pub returns-in_err-read_before_line-clause-lawful : goal.returns-in_err-read_before_line-clause-lawful
returns-in_err-read_before_line-clause-lawful g c = rest-lawful (g.H.Hub.shape c.args.hub.now) g.P.PassView.known c.read_before_line.new.self c.read_before_line.ensures.rested

pub returns-in_err-step-clause-lawful : goal.returns-in_err-step-clause-lawful
returns-in_err-step-clause-lawful g c = rest-lawful (g.H.Hub.shape c.args.hub.now) g.P.PassView.known c.step.new.self c.in_err-step.ensures.refused

pub returns-in_err-step-clause-grows : goal.returns-in_err-step-clause-grows
returns-in_err-step-clause-grows g c = begins-then _ _ _ c.read_before_line.ensures.grows c.step.ensures.grows

pub returns-then-eq-clause-lawful : goal.returns-then-eq-clause-lawful
returns-then-eq-clause-lawful g c = answer-lawful (g.H.Hub.shape c.args.hub.now) g.P.PassView.known c.step.new.self c.in_ok-step.ensures.answered

pub returns-then-eq-clause-grows : goal.returns-then-eq-clause-grows
returns-then-eq-clause-grows g c = begins-then _ _ _ c.read_before_line.ensures.grows c.step.ensures.grows

pub returns-in_err-_done-clause-lawful : goal.returns-in_err-_done-clause-lawful
returns-in_err-_done-clause-lawful g c = answer-lawful (g.H.Hub.shape c.args.hub.now) g.P.PassView.known c.idle.new.self c.in_err-_done.ensures.refused

pub returns-in_err-_done-clause-grows : goal.returns-in_err-_done-clause-grows
returns-in_err-_done-clause-grows g c = begins-then _ _ _ c.read_before_line.ensures.grows (begins-then _ _ _ c.step.ensures.grows c.idle.ensures.grows)

pub returns-clause-lawful : goal.returns-clause-lawful
returns-clause-lawful g c = rest-lawful (g.H.Hub.shape c.args.hub.now) g.P.PassView.known c.idle.new.self c.in_ok-_done.ensures.rested

pub returns-clause-grows : goal.returns-clause-grows
returns-clause-grows g c = begins-then _ _ _ c.read_before_line.ensures.grows (begins-then _ _ _ c.step.ensures.grows c.idle.ensures.grows)

pub returns-in_err-read_before_line-clause-held : goal.returns-in_err-read_before_line-clause-held
returns-in_err-read_before_line-clause-held g c = record { own = c.read_before_line.ensures.own; served = read-served c.args.self.now c.read_before_line.new.self c.read_before_line.ensures.same (g.H.Hub.shape c.args.hub.now) c.requires.ready.served }

pub returns-in_err-read_before_line-clause-script : goal.returns-in_err-read_before_line-clause-script
returns-in_err-read_before_line-clause-script g c = read-script c.args.self.now c.read_before_line.new.self c.read_before_line.ensures.same

pub returns-in_err-step-clause-held : goal.returns-in_err-step-clause-held
returns-in_err-step-clause-held g c = record { own = c.step.ensures.own; served = step-served c.read_before_line.new.self c.step.new.self c.step.ensures.same (g.H.Hub.shape c.args.hub.now) (read-served c.args.self.now c.read_before_line.new.self c.read_before_line.ensures.same (g.H.Hub.shape c.args.hub.now) c.requires.ready.served) }

pub returns-in_err-step-clause-script : goal.returns-in_err-step-clause-script
returns-in_err-step-clause-script g c = step-script c.read_before_line.new.self c.step.new.self c.step.ensures.same ∙ read-script c.args.self.now c.read_before_line.new.self c.read_before_line.ensures.same

pub returns-then-eq-clause-held : goal.returns-then-eq-clause-held
returns-then-eq-clause-held g c = record { own = c.step.ensures.own; served = step-served c.read_before_line.new.self c.step.new.self c.step.ensures.same (g.H.Hub.shape c.args.hub.now) (read-served c.args.self.now c.read_before_line.new.self c.read_before_line.ensures.same (g.H.Hub.shape c.args.hub.now) c.requires.ready.served) }

pub returns-then-eq-clause-script : goal.returns-then-eq-clause-script
returns-then-eq-clause-script g c = step-script c.read_before_line.new.self c.step.new.self c.step.ensures.same ∙ read-script c.args.self.now c.read_before_line.new.self c.read_before_line.ensures.same

pub returns-in_err-_done-clause-held : goal.returns-in_err-_done-clause-held
returns-in_err-_done-clause-held g c = record { own = c.idle.ensures.own; served = read-served c.step.new.self c.idle.new.self c.idle.ensures.same (g.H.Hub.shape c.args.hub.now) (step-served c.read_before_line.new.self c.step.new.self c.step.ensures.same (g.H.Hub.shape c.args.hub.now) (read-served c.args.self.now c.read_before_line.new.self c.read_before_line.ensures.same (g.H.Hub.shape c.args.hub.now) c.requires.ready.served)) }

pub returns-in_err-_done-clause-script : goal.returns-in_err-_done-clause-script
returns-in_err-_done-clause-script g c = read-script c.step.new.self c.idle.new.self c.idle.ensures.same ∙ step-script c.read_before_line.new.self c.step.new.self c.step.ensures.same ∙ read-script c.args.self.now c.read_before_line.new.self c.read_before_line.ensures.same

pub returns-clause-held : goal.returns-clause-held
returns-clause-held g c = record { own = c.idle.ensures.own; served = read-served c.step.new.self c.idle.new.self c.idle.ensures.same (g.H.Hub.shape c.args.hub.now) (step-served c.read_before_line.new.self c.step.new.self c.step.ensures.same (g.H.Hub.shape c.args.hub.now) (read-served c.args.self.now c.read_before_line.new.self c.read_before_line.ensures.same (g.H.Hub.shape c.args.hub.now) c.requires.ready.served)) }

pub returns-clause-script : goal.returns-clause-script
returns-clause-script g c = read-script c.step.new.self c.idle.new.self c.idle.ensures.same ∙ step-script c.read_before_line.new.self c.step.new.self c.step.ensures.same ∙ read-script c.args.self.now c.read_before_line.new.self c.read_before_line.ensures.same

pub returns-clause-ready : goal.returns-clause-ready
returns-clause-ready g c = record { own = c.idle.ensures.own; served = read-served c.step.new.self c.idle.new.self c.idle.ensures.same (g.H.Hub.shape c.args.hub.now) (step-served c.read_before_line.new.self c.step.new.self c.step.ensures.same (g.H.Hub.shape c.args.hub.now) (read-served c.args.self.now c.read_before_line.new.self c.read_before_line.ensures.same (g.H.Hub.shape c.args.hub.now) c.requires.ready.served)); rested = c.in_ok-_done.ensures.rested }

pub returns-then-eq-clause-ready : goal.returns-then-eq-clause-ready
returns-then-eq-clause-ready g c =
    let ended : c.in_ok-step.step ≡ Ended = search rules in
    record { own = c.step.ensures.own; served = step-served c.read_before_line.new.self c.step.new.self c.step.ensures.same (g.H.Hub.shape c.args.hub.now) (read-served c.args.self.now c.read_before_line.new.self c.read_before_line.ensures.same (g.H.Hub.shape c.args.hub.now) c.requires.ready.served); rested = c.step.ensures.rested (c.in_ok-step.was ∙ ap Ok ended) }

pub returns-then-eq-clause-over : goal.returns-then-eq-clause-over
returns-then-eq-clause-over g c = λ over.
    let ended : c.in_ok-step.step ≡ Ended = search rules in
    record { own = c.step.ensures.own; over = c.step.ensures.over (c.in_ok-step.was ∙ ap Ok ended); rested = c.step.ensures.rested (c.in_ok-step.was ∙ ap Ok ended) }

pub step-requires-clause-served : goal.step-requires-clause-served
step-requires-clause-served g c = read-served c.args.self.now c.read_before_line.new.self c.read_before_line.ensures.same (g.H.Hub.shape c.args.hub.now) c.requires.ready.served
