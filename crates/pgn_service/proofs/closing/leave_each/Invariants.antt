use Rattle.pgn_service.proofs.ClosingLaws.{HaveClosed}
use Rattle.pgn_service.proofs.closing.leave_each.Given as goal

abbrev pub invariant-loop-place : goal.invariant-loop-place
invariant-loop-place g l = HaveClosed l.place l.fn.desks.rest.items l.desks.rest.items l.fn.callers.rest.items l.callers.rest.items l.passes.items l.so_far
