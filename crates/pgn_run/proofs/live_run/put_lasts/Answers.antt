use Rattle.std.proofs.Common.{arith}
use Rattle.pgn_text.proofs.PutsLaws.{Toward-all, Toward-more, Toward-none}
use Rattle.pgn_run.proofs.LiveLaws.{lasts-end, tagged-next}
use Rattle.pgn_run.proofs.live_run.put_lasts.Goals as goal

pub loop-i-init : goal.loop-i-init
loop-i-init g c = Toward-none _ _ _ _ _

pub loop-i-preserved : goal.loop-i-preserved
loop-i-preserved g c =
    Toward-more c.loop-i.invariant (rw (c.behind.ensures, c.as_slice.ensures) at c.write_items.ensures)
    (tagged-next c.args.sections.now c.args.told.now c.args.traces.now c.loop-i.i c.index-traces-i.result (omega arith) (omega arith) c.index-traces-i.is)

pub returns : goal.returns
returns g c = Toward-all c.loop-i.invariant (lasts-end c.args.sections.now c.args.told.now c.args.traces.now c.loop-i.i (omega arith))
