use Rattle.std.proofs.Common.{List, ◌≡◌, ◌+◌, length, arith, subst, sym, ap, ◌∙◌}
use Rattle.pgn_hub.specs.Shape.{Shape}
use Rattle.pgn_words.specs.declared.pass.WordPass.{WordPass}
use Rattle.pgn_words.specs.Passes.{shape_of}
use Rattle.pgn_words.proofs.OpenedLaws.{AreMade, next_made, all_known, all_own, all_fresh}
use Rattle.pgn_words.proofs.pass.WordQueue.open.Goals as goal

pub loop-k-preserved : goal.loop-k-preserved
loop-k-preserved c =
    let made = c.make_pass.ensures in
    let seats = c.seats-seats.ensures.value in
    let test = c.loop-k-test.true in
    let size : length c.seats-seats.result.now ≡ length (shape_of c.in_ok-queue.queue).seats = ap length seats ∙ ap (λ (z : Shape). length z.seats) (sym c.in_ok-queue.ensures.shape) in
    subst (λ (ps : List WordPass). AreMade c.in_ok-queue.queue c.make_pass.new.first ps (c.loop-k.k + 1)) (sym {A = List WordPass} c.in_ok-push.ensures.items)
    (next_made c.in_ok-queue.queue c.loop-k.first c.make_pass.new.first c.make_pass.result c.loop-k.passes.items c.loop-k.k c.loop-k.invariant (omega (arith, test, size)) made.own made.view made.made_own made.made_view)

pub returns-clause-passes : goal.returns-clause-passes
returns-clause-passes c =
    let done = c.loop-k-test.false in
    let seats = c.seats-seats.ensures.value in
    let size : length c.seats-seats.result.now ≡ length c.args.setup.now.seats = ap length seats in
    all_known c.in_ok-queue.queue c.loop-k.first c.loop-k.passes.items c.insert.new.self.items c.loop-k.k c.loop-k.invariant c.in_ok-insert.ensures.items c.args.setup.now c.in_ok-queue.ensures.shape (omega (arith, done, size))

pub returns-clause-own : goal.returns-clause-own
returns-clause-own c = all_own c.in_ok-queue.queue c.loop-k.first c.loop-k.passes.items c.insert.new.self.items c.loop-k.k c.loop-k.invariant c.in_ok-insert.ensures.items

pub returns-clause-free : goal.returns-clause-free
returns-clause-free c = all_fresh c.in_ok-queue.queue c.loop-k.first c.loop-k.passes.items c.insert.new.self.items c.loop-k.k c.loop-k.invariant c.in_ok-insert.ensures.items
