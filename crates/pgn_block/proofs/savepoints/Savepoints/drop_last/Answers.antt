use Rattle.std.proofs.Common.{◌≤◌, ◌<◌, arith, length}
use Rattle.pgn_block.proofs.CountLaws.{counted-less, counted-few}
use Rattle.pgn_block.proofs.savepoints.Savepoints.drop_last.Goals as goal

pub invariant_of-self-then-len-ge-FEW : goal.invariant_of-self-then-len-ge-FEW
invariant_of-self-then-len-ge-FEW c =
    let past : 32 ≤ length c.pop.new.self.items = omega (arith, c.if-len-ge-FEW.true, c.len.ensures, c.pop.new.self.ok.0) in
    counted-less 32 c.self.inside.list.items c.pop.new.self.items c.in-Some.field-0 _ _ c.in-Some.ensures.items past c.self.invariant c.count_one_less.ensures

pub invariant_of-self-else-len-ge-FEW : goal.invariant_of-self-else-len-ge-FEW
invariant_of-self-else-len-ge-FEW c =
    let short : length c.pop.new.self.items < 32 = omega (arith, c.if-len-ge-FEW.false, c.len.ensures, c.pop.new.self.ok.0) in
    counted-few 32 c.self.inside.list.items c.pop.new.self.items c.in-Some.field-0 _ c.in-Some.ensures.items short c.self.invariant
