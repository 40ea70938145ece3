use Rattle.pgn_drill.specs.Drill.{await_line}
use Rattle.pgn_drill.proofs.LineLaws.{AddsLines-more, AddsLines-start, await-adds}
use Rattle.pgn_drill.proofs.scenario.awaits.Goals as goal

pub loop-i-init : goal.loop-i-init
loop-i-init c = AddsLines-start c.args.text.now.items await_line

pub loop-i-preserved : goal.loop-i-preserved
loop-i-preserved c = AddsLines-more _ _ _ await_line c.loop-i.i c.loop-i.invariant (await-adds _ _ _ c.in_ok-numbered.ensures)
