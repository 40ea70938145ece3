use Rattle.std.proofs.Common.{length}
use Rattle.pgn_rows.proofs.parts.write_out.Given as goal

abbrev pub decreases-loop-part : goal.decreases-loop-part
decreases-loop-part l = length l.rest
