use Rattle.pgn_threads.specs.Drain.{HaveHeardUp, HaveHeardDown, HaveRead}
use Rattle.pgn_threads.proofs.draining.drain.Given as goal

abbrev pub invariant-loop-i : goal.invariant-loop-i
invariant-loop-i g l = HaveHeardUp (g.H.Hub.is_pass l.fn.hub) (g.H.Hub.shape l.fn.hub) g.P.PassView.known l.fn.sessions l.sessions l.i

abbrev pub invariant-loop-k : goal.invariant-loop-k
invariant-loop-k g l = HaveHeardDown (g.H.Hub.is_pass l.fn.hub) (g.H.Hub.shape l.fn.hub) g.P.PassView.known l.fn.sessions l.sessions l.k

abbrev pub invariant-loop-i-2 : goal.invariant-loop-i-2
invariant-loop-i-2 g l = HaveRead (g.H.Hub.is_pass l.fn.hub) (g.H.Hub.shape l.fn.hub) g.P.PassView.known l.fn.sessions l.sessions l.i
