use Rattle.std.proofs.Common.{true, sym, subst}
use Rattle.pgn_model.specs.declared.item.Item.TheVariants as item
use Rattle.pgn_ledger.specs.declared.to_show.ToShow.{ToShow}
use Rattle.pgn_walk.specs.Steps.{Moves}
use Rattle.pgn_walk.proofs.FlagLaws.{raise_never, raise_on, told_is}
use Rattle.pgn_walk.proofs.standing.Standing.raise.Goals as goal

pub returns-in_default : goal.returns-in_default
returns-in_default c = λ terms journal. raise_never terms journal c.args.self.now c.args.self.now c.args.value c.in_default.not-Raising

pub returns : goal.returns
returns c = λ terms journal.
    subst (λ (left : ToShow). Moves terms journal c.args.self.now (item.Raise c.args.value) true (record c.know.new.self { owed = left })) (sym c.set.ensures)
    (raise_on terms journal c.args.self.now c.know.new.self c.in-Raising.flag c.args.value c.in-Raising.is (told_is c.args.value c.args.self.now.told c.ne.result c.ne.ensures c.if-ne.false) c.in_ok-know.ensures)
