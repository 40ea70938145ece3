use Rattle.pgn_drill.proofs.LineLaws.{block-adds}
use Rattle.pgn_drill.proofs.scenario.in_block.Goals as goal

pub returns : goal.returns
returns c = block-adds c.args.j c.args.r _ _ _ _ c.in_ok-put.ensures c.in_ok-notify.ensures c.in_ok-put-2.ensures
