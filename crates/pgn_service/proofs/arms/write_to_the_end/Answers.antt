use Rattle.std.proofs.Common.{ap}
use Rattle.pgn_outlet.specs.declared.hand.Hand.{Hand}
use Rattle.pgn_outlet.specs.Passes.{knows}
use Rattle.pgn_messages.specs.declared.saying.Saying.{Saying}
use Rattle.pgn_service.proofs.ArmLaws.{rest-written}
use Rattle.pgn_service.proofs.arms.write_to_the_end.Goals as goal

pub close-requires-clause-takes : goal.close-requires-clause-takes
close-requires-clause-takes g c = c.requires.takes

pub write_rest-requires-clause-takes : goal.write_rest-requires-clause-takes
write_rest-requires-clause-takes g c = ap (λ (v : Hand Saying). v.takes) c.close.ensures.taken_over

pub returns : goal.returns
returns g c =
    rest-written g.K.Sink.held g.K.Sink.faults (knows c.args.tells.pass) (knows c.args.writing.takes) (knows c.close.new.pass) (knows c.write_rest.new.pass) c.args.sink.now c.write_rest.new.sink c.args.writing.out
    c.write_rest.new.out c.close.ensures.taken_over c.write_rest.ensures.wrote c.write_rest.ensures.has_all c.write_rest.ensures.sent
