use Rattle.pgn_live.proofs.WriteLaws.{stand-fresh}
use Rattle.pgn_live.proofs.lives.run_live.Goals as goal

pub run_to_the_end-came-requires-clause-stand : goal.run_to_the_end-came-requires-clause-stand
run_to_the_end-came-requires-clause-stand g c κs o = stand-fresh c.args.sections.now c.in-Ok.writer.cursors.items c.in-Ok.ensures.fresh
