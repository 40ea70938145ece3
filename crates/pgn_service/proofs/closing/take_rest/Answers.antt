use Rattle.pgn_outlet.specs.Passes.{knows}
use Rattle.pgn_service.proofs.ClosingLaws.{no-more}
use Rattle.pgn_service.proofs.closing.take_rest.Goals as goal

pub loop-init : goal.loop-init
loop-init g c = record { own = c.requires.own; takes = c.requires.takes; got = no-more (knows c.args.pass.now) }
