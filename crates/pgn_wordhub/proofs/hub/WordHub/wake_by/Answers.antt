use Rattle.pgn_words.specs.Passes.{view_of}
use Rattle.pgn_wordhub.proofs.WakeLaws.{signalled}
use Rattle.pgn_wordhub.proofs.hub.WordHub.wake_by.Goals as goal

pub returns-clause-view : goal.returns-clause-view
returns-clause-view c = signalled (view_of c.args.pass.now) (view_of c.decide-mask.new.pass) (view_of c.set_wakes.new.pass) c.decide-mask.ensures.view c.set_wakes.ensures.view
