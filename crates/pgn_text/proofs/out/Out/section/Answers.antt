use Rattle.std.proofs.Common.{[], ◌∷◌, ap}
use Rattle.pgn_model.specs.Text.{joined}
use Rattle.pgn_text.proofs.PutsLaws.{Puts-trans, Puts-lines, Puts-one, Puts-same, marked_items-none}
use Rattle.pgn_text.proofs.out.Out.section.Goals as goal

pub returns : goal.returns
returns g c =
    let items = rw (c.as_slice.ensures, c.as_slice-2.ensures) at c.items.ensures.puts in
    Puts-trans c.section_line.ensures (Puts-lines _ (_ ∷ []) (Puts-same (ap joined (marked_items-none c.args.section.now.lines c.args.trace.now.items)) items) (Puts-one _ c.end.ensures))
