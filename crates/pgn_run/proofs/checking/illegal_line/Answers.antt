use Rattle.pgn_text.proofs.PutsLaws.{Puts-trans, Writes-from_Puts}
use Rattle.pgn_service.proofs.ArmLaws.{cause-from_Puts}
use Rattle.pgn_run.proofs.checking.illegal_line.Goals as goal

pub returns-clause-bytes : goal.returns-clause-bytes
returns-clause-bytes g c =
    Writes-from_Puts c.new-out.ensures.nothing c.new-out.ensures.fine
    (Puts-trans (Puts-trans c.text.ensures c.number.ensures) c.text-2.ensures) c.send.ensures.puts c.send.ensures.emptied

pub returns-clause-cause : goal.returns-clause-cause
returns-clause-cause g c = cause-from_Puts c.new-out.ensures.fine (Puts-trans (Puts-trans (Puts-trans c.text.ensures c.number.ensures) c.text-2.ensures) c.send.ensures.puts)
