use Rattle.std.proofs.Common.{arith}
use Rattle.pgn_part_examples.proofs.hub.between_calls.Goals as goal

pub returns-clause-raised_past_told : goal.returns-clause-raised_past_told
returns-clause-raised_past_told c h = omega (arith, h.raised 0 (0, 4) (omega arith))
