use Rattle.pgn_drill.proofs.LineLaws.{notify-adds}
use Rattle.pgn_drill.proofs.scenario.notify.Goals as goal

pub returns : goal.returns
returns c = notify-adds c.args.j c.args.r _ _ _ c.in_ok-numbered.ensures c.in_ok-numbered-2.ensures
