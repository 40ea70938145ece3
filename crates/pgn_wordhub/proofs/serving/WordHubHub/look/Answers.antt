use Rattle.pgn_words.specs.Passes.{view_of}
use Rattle.pgn_wordhub.specs.Passes.{hub_shape}
use Rattle.pgn_wordhub.proofs.StayLaws.{looked_stays}
use Rattle.pgn_wordhub.proofs.serving.WordHubHub.look.Goals as goal

pub returns-clause-own : goal.returns-clause-own
returns-clause-own c = record {
  own = c.look_flag.ensures.own;
  view = looked_stays (hub_shape c.args.self.now) (view_of c.args.pass.now) (view_of c.look_flag.new.pass) c.args.flag c.look_flag.result c.requires.own.view c.look_flag.ensures.looked;
}
