use Rattle.std.proofs.Common.{◌≡◌, ◌↔◌, true, sym, subst}
use Rattle.std.specs.Prelude.{All, Contains}
use Rattle.pgn_model.specs.declared.item.Item.{Item}
use Rattle.pgn_model.specs.Walk as walk
use Rattle.pgn_reading.specs.Shown.{found_shown, raised_in}
use Rattle.pgn_ledger.specs.declared.to_show.ToShow.{ToShow}
use Rattle.pgn_ledger.specs.ToShow.{owed_of}
use Rattle.pgn_walk.proofs.BorneLaws.{all_one, found_none}
use Rattle.pgn_walk.proofs.borne.was_raised.Goals as goal

pub returns-in_default : goal.returns-in_default
returns-in_default c = λ sections traces is.
    subst (λ (left : ToShow). (true ≡ true) ↔ All (Contains (raised_in sections traces)) (found_shown (owed_of left) c.args.item.now)) (sym c.in_default.is-0)
    (found_none (raised_in sections traces) c.in_default.field-0-0 c.args.item.now c.in_default.not-Found-1)

pub returns-in-Awaiting-Found : goal.returns-in-Awaiting-Found
returns-in-Awaiting-Found c = λ sections traces is.
    subst (λ (left : ToShow). (c.was_raised.result ≡ true) ↔ All (Contains (raised_in sections traces)) (found_shown (owed_of left) c.args.item.now)) (sym c.in-Awaiting-Found.is-0)
    (subst (λ (i : Item). (c.was_raised.result ≡ true) ↔ All (Contains (raised_in sections traces)) (found_shown (walk.Awaiting c.in-Awaiting-Found.flag) i)) (sym c.in-Awaiting-Found.is-1)
    (all_one (Contains (raised_in sections traces)) (c.in-Awaiting-Found.flag, c.in-Awaiting-Found.value) c.was_raised.result (c.was_raised.ensures sections traces is)))
