use Rattle.std.proofs.Common.{◌≡◌, false, [], ◌∷◌, ◌++◌, sym, ◌∙◌}
use Rattle.pgn_answers.specs.Savepoints.{Released}
use Rattle.pgn_block.specs.Kept.{is_saved}
use Rattle.pgn_block.proofs.KeptLemmas.{IsNewest, none-saved, newest-saved, refused, granted, live-is_saved, after-released_none, after-released}
use Rattle.pgn_block.proofs.pending.Pending.release.Goals as goal

pub returns-in_default-clause-not_live : goal.returns-in_default-clause-not_live
returns-in_default-clause-not_live c =
    let none : is_saved c.args.name.now c.self.inside.savepoints ≡ false = none-saved c.args.name.now _ c.in_default.ensures.none in
    λ changes h. refused _ (live-is_saved changes _ c.args.name.now (h ∙ sym c.self.view_is) ∙ none)

pub returns-in_default-clause-after : goal.returns-in_default-clause-after
returns-in_default-clause-after c =
    let none : is_saved c.args.name.now c.self.inside.savepoints ≡ false = none-saved c.args.name.now _ c.in_default.ensures.none in
    λ changes h. after-released_none changes _ c.args.name.now none (h ∙ sym c.self.view_is) ∙ c.self.view_is

pub invariant_of-self : goal.invariant_of-self
invariant_of-self c =
    let found : IsNewest c.args.name.now c.self.inside.savepoints c.in-Some.from =
    record { within = c.in-Some.ensures.within; named = c.in-Some.ensures.named; newest = c.in-Some.ensures.newest } in
    let history = c.self.invariant.2 in
    (c.self.invariant.0, c.self.invariant.1, (history.0 ++ Released c.args.name.now ∷ [], rw c.truncate.ensures (after-released history.0 _ c.args.name.now c.in-Some.from found history.1)))

pub returns-clause-not_live : goal.returns-clause-not_live
returns-clause-not_live c =
    let found : IsNewest c.args.name.now c.self.inside.savepoints c.in-Some.from =
    record { within = c.in-Some.ensures.within; named = c.in-Some.ensures.named; newest = c.in-Some.ensures.newest } in
    λ changes h. granted _ (live-is_saved changes _ c.args.name.now (h ∙ sym c.self.view_is) ∙ newest-saved c.args.name.now _ c.in-Some.from found)

pub returns-clause-after : goal.returns-clause-after
returns-clause-after c =
    let found : IsNewest c.args.name.now c.self.inside.savepoints c.in-Some.from =
    record { within = c.in-Some.ensures.within; named = c.in-Some.ensures.named; newest = c.in-Some.ensures.newest } in
    λ changes h. rw c.truncate.ensures (after-released changes _ c.args.name.now c.in-Some.from found (h ∙ sym c.self.view_is))
