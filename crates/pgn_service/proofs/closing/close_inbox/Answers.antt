use Rattle.pgn_outlet.specs.Passes.{knows}
use Rattle.pgn_service.proofs.ClosingLaws.{taken-first}
use Rattle.pgn_service.proofs.closing.close_inbox.Goals as goal

pub returns : goal.returns
returns g c = taken-first (knows c.args.put) (knows c.args.asks) (knows c.close.new.pass) (knows c.take_rest.new.pass) c.close.ensures.taken_over c.take_rest.ensures
