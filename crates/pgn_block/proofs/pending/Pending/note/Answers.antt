use Rattle.std.proofs.Common.{◌≤◌, [], ◌∷◌, ◌++◌, length, sym, ◌∙◌, arith, vec_capacity}
use Rattle.pgn_answers.specs.Savepoints.{Noted}
use Rattle.pgn_block.proofs.KeptLemmas.{after-noted}
use Rattle.pgn_block.proofs.pending.Pending.note.Goals as goal

pub invariant_of-self-2 : goal.invariant_of-self-2
invariant_of-self-2 c =
    let history = c.self.invariant.2 in
    let fits : length c.keep.new.notes.keys ≤ vec_capacity c.reserve.new.self = grind (arith, c.in_ok-reserve.ensures.ok, c.keep.ensures.most) in
    (c.reserve.ensures.items ∙ c.self.invariant.0, fits, (history.0 ++ Noted c.args.note ∷ [], rw c.in_ok-keep.ensures.keys (after-noted history.0 _ c.args.note history.1)))

pub returns-clause-ok : goal.returns-clause-ok
returns-clause-ok c = λ changes h. rw c.in_ok-keep.ensures.keys (after-noted changes _ c.args.note (h ∙ sym c.self.view_is))

pub invariant_of-self : goal.invariant_of-self
invariant_of-self c =
    let fits : length c.self.inside.notes.keys ≤ vec_capacity c.reserve.new.self = omega (arith, c.self.invariant.1, c.reserve.ensures.capacity) in
    (c.reserve.ensures.items ∙ c.self.invariant.0, fits, c.self.invariant.2)

pub invariant_of-self-in_err-keep : goal.invariant_of-self-in_err-keep
invariant_of-self-in_err-keep c =
    let fits : length c.self.inside.notes.keys ≤ vec_capacity c.reserve.new.self = omega (arith, c.self.invariant.1, c.reserve.ensures.capacity) in
    rw c.in_err-keep.ensures.err (c.reserve.ensures.items ∙ c.self.invariant.0, fits, c.self.invariant.2)
