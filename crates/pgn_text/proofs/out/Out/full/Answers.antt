use Rattle.std.proofs.Common.{◌≡◌, ℕ, List, [], ◌∷◌, ◌++◌, codes, decimal, ap, sym, ◌∙◌, append_assoc}
use Rattle.pgn_model.specs.Text.{full_line, holder_text}
use Rattle.pgn_text.specs.Rendering.{ended}
use Rattle.pgn_text.proofs.PutsLaws.{Puts-behind, Puts-same, Puts-trans}
use Rattle.pgn_text.proofs.out.Out.full.Goals as goal

-- a text, and one of six parts
six : (s a b c d e f : List ℕ) → s ++ (a ++ b ++ c ++ d ++ e ++ f) ≡ s ++ a ++ b ++ c ++ d ++ e ++ f
six s a b c d e f = simp append_assoc

pub returns : goal.returns
returns g c =
    let full = c.args.full.now in
    let start : List ℕ = codes "+full " ++ decimal full.xid ++ codes " queued " ++ decimal full.queued ++ codes " head " ++ decimal full.head_page in
    let floor : List ℕ = codes " floor " ++ decimal full.floor_mark ++ codes " page " ++ decimal full.floor_page ++ codes " holder " ++ holder_text full.holder in
    let whole : start ++ floor ≡ full_line full = six start (codes " floor ") (decimal full.floor_mark) (codes " page ") (decimal full.floor_page) (codes " holder ") (holder_text full.holder) in
    Puts-behind _ c.mark.ensures (Puts-same (sym (append_assoc start floor (10 ∷ [])) ∙ ap ended whole) (Puts-trans c.full_head.ensures c.full_floor.ensures))
