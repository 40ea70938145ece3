use Rattle.std.proofs.Common.{[], ◌∷◌, ◌++◌, sym, ◌∙◌}
use Rattle.pgn_answers.specs.Savepoints.{Saved}
use Rattle.pgn_block.proofs.KeptLemmas.{after-saved}
use Rattle.pgn_block.proofs.pending.Pending.mark.Goals as goal

pub invariant_of-self-2 : goal.invariant_of-self-2
invariant_of-self-2 c =
    let history = c.self.invariant.2 in
    let count = c.len-2.ensures ∙ c.self.inside.actions.ok.0 in
    rw c.in_ok-push.ensures.ok (c.self.invariant.0, c.self.invariant.1, (history.0 ++ Saved c.args.name ∷ [], after-saved history.0 _ c.args.name _ _ c.len.ensures.len count history.1))

pub returns-clause-ok : goal.returns-clause-ok
returns-clause-ok c =
    let count = c.len-2.ensures ∙ c.self.inside.actions.ok.0 in
    λ changes h. rw c.in_ok-push.ensures.ok (after-saved changes _ c.args.name _ _ c.len.ensures.len count (h ∙ sym c.self.view_is))
