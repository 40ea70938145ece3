use Rattle.pgn_live.proofs.lives.play_and_end.Goals as goal

pub play-played-requires-clause-none : goal.play-played-requires-clause-none
play-played-requires-clause-none g c κs within = c.requires.none
