use Rattle.std.proofs.Common.{◌≡◌, ◌++◌, map, take, drop}
use Rattle.pgn_session.specs.Runs.{slept}
use Rattle.pgn_session.proofs.together.sleep_over_all.Given as goal

abbrev pub invariant-loop-session : goal.invariant-loop-session
invariant-loop-session g l = l.sessions ≡ map (slept l.micros) (take l.session-index l.fn.sessions) ++ drop l.session-index l.fn.sessions
