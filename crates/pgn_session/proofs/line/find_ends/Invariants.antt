use Rattle.pgn_session.proofs.EndLaws.{EndsSoFar}
use Rattle.pgn_session.proofs.line.find_ends.Given as goal

abbrev pub invariant-loop-session : goal.invariant-loop-session
invariant-loop-session g l = EndsSoFar (g.H.Hub.is_pass l.hub l.pass) l.plan l.first l.session (g.P.PassView.known l.fn.pass) (g.P.PassView.known l.pass)
