use Rattle.std.proofs.Common.{◌*◌, refl, sym, ap, ◌∙◌, arith}
use Rattle.pgn_words.specs.declared.view.View.{View}
use Rattle.pgn_words.specs.Passes.{view_of}
use Rattle.pgn_words.specs.Waking.{verdict_of}
use Rattle.pgn_wordhub.proofs.DecidingLaws.{decides_none, wake_decides}
use Rattle.pgn_wordhub.proofs.hub.WordHub.set_wakes_of.Goals as goal

pub loop-seat-init : goal.loop-seat-init
loop-seat-init c = (c.requires.own, refl, decides_none (view_of c.args.pass.now).verdicts (64 * c.args.word) _ (omega arith), omega arith)

pub set_wake_of-requires-clause-phase : goal.set_wake_of-requires-clause-phase
set_wake_of-requires-clause-phase c = ap (λ (u : View). u.phase) c.loop-seat.invariant.1 ∙ c.requires.phase

pub set_wake_of-requires-clause-verdict : goal.set_wake_of-requires-clause-verdict
set_wake_of-requires-clause-verdict c =
    let inv = c.loop-seat.invariant in
    inv.2.behind c.loop-seat.seat (omega arith) ∙ c.requires.named c.loop-seat.seat inv.3 ∙ ap verdict_of (sym c.names.ensures)

pub set_wake_of-requires-clause-long : goal.set_wake_of-requires-clause-long
set_wake_of-requires-clause-long c = c.loop-seat.invariant.2.long ∙ c.requires.long

pub loop-seat-preserved : goal.loop-seat-preserved
loop-seat-preserved c =
    let inv = c.loop-seat.invariant in
    let from = inv.3 in
    let more = wake_decides (view_of c.args.pass.now) (view_of c.loop-seat.pass) (view_of c.set_wake_of.new.pass) (64 * c.args.word) c.loop-seat.seat inv.3 c.set_wake_of.ensures.view inv.1 inv.2 in
    (c.set_wake_of.ensures.own, more.0, more.1, omega (arith, from))
