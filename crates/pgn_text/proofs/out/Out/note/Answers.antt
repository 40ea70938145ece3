use Rattle.std.proofs.Common.{append_assoc}
use Rattle.pgn_text.proofs.PutsLaws.{Puts-same, Puts-trans}
use Rattle.pgn_text.proofs.out.Out.note.Goals as goal

pub returns : goal.returns
returns g c = Puts-same (simp (append_assoc, c.as_bytes.ensures.value, c.as_bytes-2.ensures.value)) (Puts-trans c.quoted_in.ensures c.quoted_in-2.ensures)
