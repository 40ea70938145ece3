use Rattle.pgn_session.proofs.GrowthLaws.{begins-then}
use Rattle.pgn_session.proofs.OpenLaws.{stood-answer, stood-rest}
use Rattle.pgn_wire.proofs.TakenLaws.{on_ok, read-both, whatever}
use Rattle.pgn_wire.proofs.taking.read_behind.Goals as goal

pub returns-in_err-_done-clause-stood : goal.returns-in_err-_done-clause-stood
returns-in_err-_done-clause-stood g c = stood-answer (g.H.Hub.shape c.args.hub.now) g.P.PassView.known c.idle.new.self c.in_err-_done.ensures.refused

pub returns-in_err-_done-clause-same : goal.returns-in_err-_done-clause-same
returns-in_err-_done-clause-same g c = c.idle.ensures.same

pub returns-in_err-_done-clause-grows : goal.returns-in_err-_done-clause-grows
returns-in_err-_done-clause-grows g c = c.idle.ensures.grows

pub returns-clause-same : goal.returns-clause-same
returns-clause-same g c = read-both c.args.session.now c.idle.new.self c.read_first.new.self c.idle.ensures.same c.read_first.ensures.same

pub returns-clause-grows : goal.returns-clause-grows
returns-clause-grows g c = begins-then _ _ _ c.idle.ensures.grows c.read_first.ensures.grows

pub returns-clause-rested : goal.returns-clause-rested
returns-clause-rested g c = on_ok c.read_first.result _ c.read_first.ensures.rested

pub returns-clause-stood : goal.returns-clause-stood
returns-clause-stood g c = stood-rest (g.H.Hub.shape c.args.hub.now) g.P.PassView.known c.read_first.new.self c.read_first.ensures.rested

pub returns-clause-read_up : goal.returns-clause-read_up
returns-clause-read_up g c = whatever c.read_first.result _ _ c.read_first.ensures.read_up
