use Rattle.std.proofs.Common.{ap, ◌∙◌}
use Rattle.pgn_words.specs.Passes.{view_of}
use Rattle.pgn_words.specs.Told.{fin_stored}
use Rattle.pgn_wordhub.specs.Wakes.{signalled_as}
use Rattle.pgn_wordhub.proofs.hub.WordHub.finish.Goals as goal

pub returns-clause-view : goal.returns-clause-view
returns-clause-view c =
    let w = view_of c.wake.new.pass in c.wake.ensures.view ∙ ap (signalled_as w.verdicts w.concerned) (c.store_fin.ensures.view ∙ ap fin_stored c.set_status.ensures.view)
