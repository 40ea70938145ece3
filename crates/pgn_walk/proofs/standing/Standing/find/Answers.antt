use Rattle.std.proofs.Common.{true, sym, subst}
use Rattle.pgn_model.specs.declared.item.Item.TheVariants as item
use Rattle.pgn_walk.specs.declared.standing.Standing.{Standing}
use Rattle.pgn_walk.specs.Steps.{Moves}
use Rattle.pgn_walk.proofs.FlagLaws.{find_never, find_on, find_small}
use Rattle.pgn_walk.proofs.standing.Standing.find.Goals as goal

pub returns-in_default : goal.returns-in_default
returns-in_default c = λ terms journal. find_never terms journal c.args.self.now c.args.self.now c.args.value c.in_default.not-Awaiting

pub returns-then-not-is_greatest : goal.returns-then-not-is_greatest
returns-then-not-is_greatest c = λ terms journal. find_small terms journal c.args.self.now c.args.self.now c.in-Awaiting.flag c.args.value c.is_greatest.result c.in-Awaiting.is c.is_greatest.ensures c.if-not-is_greatest.true

pub returns : goal.returns
returns c = λ terms journal.
    subst (λ (new : Standing). Moves terms journal c.args.self.now (item.Found c.args.value) true new) (sym c.hear.ensures)
    (find_on terms journal c.args.self.now c.know.new.self c.in-Awaiting.flag c.args.value c.is_greatest.result c.in-Awaiting.is c.is_greatest.ensures c.if-not-is_greatest.false c.in_ok-know.ensures)
