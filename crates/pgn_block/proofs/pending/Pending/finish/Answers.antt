use Rattle.std.proofs.Common.{sym, ◌∙◌}
use Rattle.pgn_block.proofs.KeptLemmas.{kept-actions, kept-notes}
use Rattle.pgn_block.proofs.pending.Pending.finish.Goals as goal

pub returns-clause-actions : goal.returns-clause-actions
returns-clause-actions c = λ changes h. c.from_items.ensures ∙ kept-actions changes _ (h ∙ sym c.self.view_is)

pub returns-clause-notes : goal.returns-clause-notes
returns-clause-notes c = λ changes h. c.in_list.ensures ∙ kept-notes changes _ (h ∙ sym c.self.view_is)
