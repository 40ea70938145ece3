use Rattle.std.proofs.Common.{refl}
use Rattle.pgn_text.proofs.PutsLaws.{Puts-same, Puts-trans}
use Rattle.pgn_text.proofs.out.Out.entry.Goals as goal

pub returns : goal.returns
returns g c =
    Puts-same (rw (c.from.ensures, c.get.ensures.value, c.as_slice.ensures) refl) (Puts-trans (Puts-trans (Puts-trans c.numbers.ensures c.fate.ensures) c.text.ensures) c.note_lines.ensures)
