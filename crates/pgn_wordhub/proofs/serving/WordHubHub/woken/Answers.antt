use Rattle.pgn_words.specs.Passes.{view_of}
use Rattle.pgn_wordhub.specs.Passes.{hub_shape}
use Rattle.pgn_wordhub.proofs.StayLaws.{taken_stays}
use Rattle.pgn_wordhub.proofs.serving.WordHubHub.woken.Goals as goal

pub returns-clause-own : goal.returns-clause-own
returns-clause-own c = record {
  own = c.take_wake-was_set.ensures.own;
  view = taken_stays (hub_shape c.args.self.now) (view_of c.args.pass.now) (view_of c.take_wake-was_set.new.pass) c.take_wake-was_set.result c.requires.own.view c.take_wake-was_set.ensures.taken;
}
