use Rattle.std.proofs.Common.{[], ◌∷◌, ◌++◌, sym, ◌∙◌}
use Rattle.pgn_answers.specs.Savepoints.{Acted}
use Rattle.pgn_block.proofs.KeptLemmas.{after-acted}
use Rattle.pgn_block.proofs.pending.Pending.action.Goals as goal

pub invariant_of-self-2 : goal.invariant_of-self-2
invariant_of-self-2 c =
    let history = c.self.invariant.2 in
    rw c.in_ok-push.ensures.items (c.self.invariant.0, c.self.invariant.1, (history.0 ++ Acted c.args.action ∷ [], after-acted history.0 _ c.args.action history.1))

pub returns-clause-ok : goal.returns-clause-ok
returns-clause-ok c = λ changes h. rw c.in_ok-push.ensures.items (after-acted changes _ c.args.action (h ∙ sym c.self.view_is))
