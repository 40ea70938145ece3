use Rattle.std.proofs.Common.{subst, sym}
use Rattle.pgn_service.proofs.ClientLaws.{opened-served}
use Rattle.pgn_service.proofs.client.open.Goals as goal

pub returns-in-Ok-clause-shape : goal.returns-in-Ok-clause-shape
returns-in-Ok-clause-shape g c = c.in_ok-hub.ensures.shape

pub returns-in-Ok-clause-own : goal.returns-in-Ok-clause-own
returns-in-Ok-clause-own g c = subst (g.H.Hub.is_pass c.in_ok-hub.hub) (sym c.in-Ok.ensures.pass) c.in_ok-hub.ensures.own

pub returns-in-Ok-clause-served : goal.returns-in-Ok-clause-served
returns-in-Ok-clause-served g c = opened-served (g.H.Hub.shape c.in_ok-hub.hub) c.in-Ok.session.section c.in-Ok.session.plan c.in_ok-hub.ensures.shape c.in-Ok.ensures.section c.in-Ok.ensures.plan

pub returns-in-Ok-clause-rested : goal.returns-in-Ok-clause-rested
returns-in-Ok-clause-rested g c = c.in-Ok.ensures.rested (g.H.Hub.shape c.in_ok-hub.hub)

pub returns-in-Ok-clause-begins : goal.returns-in-Ok-clause-begins
returns-in-Ok-clause-begins g c = c.in-Ok.ensures.begins

pub returns-in-Ok-clause-section : goal.returns-in-Ok-clause-section
returns-in-Ok-clause-section g c = c.in-Ok.ensures.section

pub returns-in-Ok-clause-plan : goal.returns-in-Ok-clause-plan
returns-in-Ok-clause-plan g c = c.in-Ok.ensures.plan

pub returns-in-Ok-clause-patience : goal.returns-in-Ok-clause-patience
returns-in-Ok-clause-patience g c = c.in-Ok.ensures.patience
