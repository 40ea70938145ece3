use Rattle.std.proofs.Common.{◌≡◌, ◌+◌, ◌<◌, ◌≤◌, List, length, take, drop, get_or, ap, subst, arith}
use Rattle.pgn_model.specs.declared.item.Item.{Item}
use Rattle.pgn_check.specs.Walked.{CountsOn}
use Rattle.pgn_check.proofs.LoopLaws.{around_at, come_next, end_at, end_fits, line_next, lines_fit, own_all, own_next}
use Rattle.pgn_check.proofs.walker.Walker.go.Goals as goal

pub returns-in-Some : goal.returns-in-Some
returns-in-Some c =
    let trace = c.args.trace.now in
    let k = c.loop-item.item-index in
    let i = c.item-item.result in
    let lt : k < length trace.items = omega (arith, ap length c.as_slice-item-items.ensures) in
    let is : i ≡ get_or trace.items k i = subst (λ (xs : List Item). i ≡ get_or xs k i) c.as_slice-item-items.ensures c.item-item.is in
    let inv = c.loop-item.invariant in
    λ sections traces tells read.
    let around = around_at c.args.basis.now sections traces c.args.self.now.line trace k i c.loop-item.self lt is inv.line inv.own tells read (inv.come sections traces tells read) in
    rw c.in-Some.is at (c.in_ok-line.ensures.come sections traces c.args.self.now.line trace (take k trace.items) (drop (k + 1) trace.items) around)

pub step-requires : goal.step-requires
step-requires c =
    let trace = c.args.trace.now in
    let k = c.loop-item.item-index in
    let i = c.item-item.result in
    let lt : k < length trace.items = omega (arith, ap length c.as_slice-item-items.ensures) in
    let is : i ≡ get_or trace.items k i = subst (λ (xs : List Item). i ≡ get_or xs k i) c.as_slice-item-items.ensures c.item-item.is in
    let inv = c.loop-item.invariant in
    let fits = lines_fit c.args.basis.now.section.now trace k i c.args.self.now.line c.loop-item.self.line lt is inv.line c.requires.fits in
    record { line = omega arith; next = omega arith; own = inv.few }

pub loop-item-preserved : goal.loop-item-preserved
loop-item-preserved c =
    let trace = c.args.trace.now in
    let section = c.args.basis.now.section.now in
    let k = c.loop-item.item-index in
    let i = c.item-item.result in
    let lt : k < length trace.items = omega (arith, ap length c.as_slice-item-items.ensures) in
    let is : i ≡ get_or trace.items k i = subst (λ (xs : List Item). i ≡ get_or xs k i) c.as_slice-item-items.ensures c.item-item.is in
    let inv = c.loop-item.invariant in
    let counts : CountsOn c.loop-item.self i c.step.new.self = c.in_ok-line.ensures.counted cc in
    record {
      line = line_next section trace k i c.args.self.now.line c.loop-item.self.line c.step.new.self.line lt is inv.line (counts.line section.lines);
      own = own_next section trace k i c.loop-item.self.own c.step.new.self.own lt is (counts.own (take k trace.items) inv.own);
      few = counts.few;
      come = λ sections traces tells read.
          let around = around_at c.args.basis.now sections traces c.args.self.now.line trace k i c.loop-item.self lt is inv.line inv.own tells read (inv.come sections traces tells read) in
          come_next c.args.basis.now sections traces trace.items k i c.step.new.self.at lt is
          (rw c.in-None.is at (c.in_ok-line.ensures.come sections traces c.args.self.now.line trace (take k trace.items) (drop (k + 1) trace.items) around));
    }

pub end-requires : goal.end-requires
end-requires c =
    let trace = c.args.trace.now in
    let le : length trace.items ≤ c.loop-item.item-index = omega (arith, ap length c.as_slice-item-items.ensures) in
    let inv = c.loop-item.invariant in
    record {
      next = end_fits c.args.basis.now.section.now trace c.args.self.now.line c.loop-item.self.line c.loop-item.item-index le inv.line c.requires.fits;
      own = own_all trace.items c.loop-item.item-index c.loop-item.self.own le inv.own;
    }

pub returns : goal.returns
returns c =
    let trace = c.args.trace.now in
    let le : length trace.items ≤ c.loop-item.item-index = omega (arith, ap length c.as_slice-item-items.ensures) in
    let inv = c.loop-item.invariant in
    λ sections traces tells read.
    c.end.ensures sections traces c.args.self.now.line
    (end_at c.args.basis.now sections traces c.args.self.now.line trace c.loop-item.item-index c.loop-item.self le inv.line (inv.come sections traces tells read))

pub loop-item-init : goal.loop-item-init
loop-item-init c = record {
  line = omega arith;
  own = c.requires.own;
  few = omega (arith, c.requires.own);
  come = λ sections traces tells read. c.requires.come sections traces;
}
