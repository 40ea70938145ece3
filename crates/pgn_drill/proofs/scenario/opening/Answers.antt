use Rattle.pgn_drill.proofs.LineLaws.{opening-adds}
use Rattle.pgn_drill.proofs.scenario.opening.Goals as goal

pub returns : goal.returns
returns c =
    opening-adds c.args.sessions c.args.i _ _ _ _ _ _ c.in_ok-numbered.ensures c.in_ok-numbered-2.ensures c.in_ok-numbered-3.ensures c.in_ok-awaits.ensures c.in_ok-put.ensures
