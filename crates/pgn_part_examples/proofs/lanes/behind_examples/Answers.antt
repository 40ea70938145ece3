use Rattle.std.proofs.Common.{true, false, [], ◌∷◌, arith}
use Rattle.pgn_lanes.proofs.WakeLaws.{mask_of_answers}
use Rattle.pgn_part_examples.proofs.lanes.behind_examples.Goals as goal

pub returns-clause-mask : goal.returns-clause-mask
returns-clause-mask c = mask_of_answers (false ∷ true ∷ true ∷ []) (omega arith)

pub returns-clause-one_too_many : goal.returns-clause-one_too_many
returns-clause-one_too_many c marks = let e = marks 0 in cc

pub returns-clause-one_left_out : goal.returns-clause-one_left_out
returns-clause-one_left_out c marks = let e = marks 2 in cc

pub returns-clause-past_the_end : goal.returns-clause-past_the_end
returns-clause-past_the_end c marks = let e = marks 64 in cc
