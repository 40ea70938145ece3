use Rattle.std.proofs.Common.{◌≡◌, true}
use Rattle.pgn_outlet.specs.Passes.{IsPassOf, knows}
use Rattle.pgn_service.proofs.ClosingLaws.{HasTakenMore}
use Rattle.pgn_service.proofs.closing.take_rest.Given as goal

abbrev pub invariant-loop : goal.invariant-loop
invariant-loop g l = record {
  own : IsPassOf l.fn.inbox l.pass;
  takes : (knows l.pass).takes ≡ true;
  got : HasTakenMore (knows l.fn.pass) (knows l.pass);
}
