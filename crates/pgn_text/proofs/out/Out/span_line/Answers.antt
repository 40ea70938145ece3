use Rattle.std.proofs.Common.{append_assoc}
use Rattle.pgn_text.proofs.PutsLaws.{Puts-behind, Puts-same, Puts-trans}
use Rattle.pgn_text.proofs.out.Out.span_line.Goals as goal

pub returns : goal.returns
returns g c =
    Puts-behind _ c.mark.ensures
    (Puts-same (simp (append_assoc, c.from.ensures, c.get.ensures.value, c.from-2.ensures, c.get-2.ensures.value)) (Puts-trans c.number_in.ensures c.number_end.ensures))
