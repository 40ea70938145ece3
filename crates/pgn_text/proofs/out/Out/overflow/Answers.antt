use Rattle.std.proofs.Common.{is_err, ap}
use Rattle.pgn_text.proofs.PutsLaws.{Puts-failed}
use Rattle.pgn_text.proofs.out.Out.overflow.Goals as goal

pub returns-in-Err : goal.returns-in-Err
returns-in-Err g c = Puts-failed _ _ _ _ _ _ _ (ap is_err c.in-Err.is)
