use Rattle.pgn_words.specs.Passes.{view_of}
use Rattle.pgn_wordhub.specs.Passes.{hub_shape}
use Rattle.pgn_wordhub.proofs.StayLaws.{raised_stays}
use Rattle.pgn_wordhub.proofs.serving.WordHubHub.raise.Goals as goal

pub returns-clause-own : goal.returns-clause-own
returns-clause-own c = record {
  own = c.raise_flag-told.ensures.own;
  view = raised_stays (hub_shape c.args.self.now) (view_of c.args.pass.now) (view_of c.raise_flag-told.new.pass) c.args.flag c.requires.own.view c.raise_flag-told.ensures.view;
}
