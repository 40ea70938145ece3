use Rattle.std.proofs.Common.{◌≡◌, ◌≤◌, false, [], ◌∷◌, ◌++◌, length, vec_capacity, sym, ap, ◌∙◌, arith, length-take}
use Rattle.pgn_answers.specs.Savepoints.{RolledBack}
use Rattle.pgn_block.specs.Kept.{is_saved}
use Rattle.pgn_block.proofs.KeptLemmas.{IsNewest, none-saved, newest-saved, refused, granted, live-is_saved, after-rolled_back_none, after-rolled_back}
use Rattle.pgn_block.proofs.pending.Pending.back_to.Goals as goal

pub returns-in_default-clause-not_live : goal.returns-in_default-clause-not_live
returns-in_default-clause-not_live c =
    let none : is_saved c.args.name.now c.self.inside.savepoints ≡ false = none-saved c.args.name.now _ c.in_default.ensures.none in
    λ changes h. refused _ (live-is_saved changes _ c.args.name.now (h ∙ sym c.self.view_is) ∙ none)

pub returns-in_default-clause-after : goal.returns-in_default-clause-after
returns-in_default-clause-after c =
    let none : is_saved c.args.name.now c.self.inside.savepoints ≡ false = none-saved c.args.name.now _ c.in_default.ensures.none in
    λ changes h. after-rolled_back_none changes _ c.args.name.now none (h ∙ sym c.self.view_is) ∙ c.self.view_is

pub invariant_of-self : goal.invariant_of-self
invariant_of-self c =
    let found : IsNewest c.args.name.now c.self.inside.savepoints c.in-Some.at =
    record { within = c.in-Some.ensures.within; named = c.in-Some.ensures.named; newest = c.in-Some.ensures.newest } in
    let history = c.self.invariant.2 in
    let fits : length c.truncate.new.self.keys ≤ vec_capacity c.self.inside.room =
    omega (arith, c.self.invariant.1, ap length c.truncate.ensures.keys, length-take c.at-savepoint.result.now.notes c.self.inside.notes.keys) in (
      c.self.invariant.0,
      fits,
      (
        history.0 ++ RolledBack c.args.name.now ∷ [],
        rw (c.truncate.ensures.keys, c.truncate-2.ensures.items, c.truncate-3.ensures) (after-rolled_back history.0 _ c.args.name.now c.in-Some.at c.at-savepoint.result.now found c.at-savepoint.ensures history.1),
      ),
    )

pub returns-clause-not_live : goal.returns-clause-not_live
returns-clause-not_live c =
    let found : IsNewest c.args.name.now c.self.inside.savepoints c.in-Some.at =
    record { within = c.in-Some.ensures.within; named = c.in-Some.ensures.named; newest = c.in-Some.ensures.newest } in
    λ changes h. granted _ (live-is_saved changes _ c.args.name.now (h ∙ sym c.self.view_is) ∙ newest-saved c.args.name.now _ c.in-Some.at found)

pub returns-clause-after : goal.returns-clause-after
returns-clause-after c =
    let found : IsNewest c.args.name.now c.self.inside.savepoints c.in-Some.at =
    record { within = c.in-Some.ensures.within; named = c.in-Some.ensures.named; newest = c.in-Some.ensures.newest } in
    λ changes h. rw (c.truncate.ensures.keys, c.truncate-2.ensures.items, c.truncate-3.ensures)
    (after-rolled_back changes _ c.args.name.now c.in-Some.at c.at-savepoint.result.now found c.at-savepoint.ensures (h ∙ sym c.self.view_is))
