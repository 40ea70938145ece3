use Rattle.pgn_words.specs.Passes.{view_of}
use Rattle.pgn_wordhub.proofs.AdvanceSteps.{begun_as, announced_as}
use Rattle.pgn_wordhub.proofs.hub.WordHub.announce.Goals as goal

pub returns-then-lt-clause-view : goal.returns-then-lt-clause-view
returns-then-lt-clause-view c = announced_as (view_of c.args.pass.now) (view_of c.load_tail-mark.new.pass) (view_of c.store_tail.new.pass) _ c.load_tail-mark.ensures.view c.store_tail.ensures.view

pub returns-else-lt-clause-view : goal.returns-else-lt-clause-view
returns-else-lt-clause-view c = begun_as (view_of c.args.pass.now) (view_of c.load_tail-mark.new.pass) _ c.load_tail-mark.ensures.view
