use Rattle.std.proofs.Common.{append_assoc, refl}
use Rattle.pgn_text.proofs.PutsLaws.{Puts-same, Puts-trans}
use Rattle.pgn_text.proofs.out.Out.fate.Goals as goal

pub returns-in-Committed : goal.returns-in-Committed
returns-in-Committed g c = Puts-same (rw (c.in-Committed.is, c.as_slice.ensures) refl) c.labelled.ensures

pub returns-in-Aborted : goal.returns-in-Aborted
returns-in-Aborted g c =
    Puts-same (simp (c.in-Aborted.is, c.as_slice.ensures, c.from.ensures, append_assoc)) (Puts-trans c.labelled-in-Aborted.ensures c.labelled-in-Aborted-2.ensures)
