use Rattle.std.proofs.Common.{◌∙◌, [], ◌∷◌, ◌++◌, codes, decimal, sym, append_assoc}
use Rattle.pgn_text.specs.Rendering.{note_behind}
use Rattle.pgn_text.proofs.PutsLaws.{Puts-behind, Puts-same, Puts-trans}
use Rattle.pgn_text.proofs.out.Out.delivery_line.Goals as goal

pub returns : goal.returns
returns g c =
    let numbers = codes "  " ++ decimal c.args.delivery.now.xid ++ codes " " ++ decimal c.args.delivery.now.pid in
    let rest = note_behind c.args.delivery.now.note ++ 10 ∷ [] in
    Puts-behind _ c.mark.ensures
    (Puts-same (append_assoc numbers (codes " \"") rest ∙ sym (append_assoc numbers (codes " ") (34 ∷ rest)) ∙ sym (append_assoc (numbers ++ codes " ") (34 ∷ note_behind c.args.delivery.now.note) (10 ∷ [])))
    (Puts-trans c.sender.ensures c.note.ensures))
