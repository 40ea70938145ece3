use Rattle.std.proofs.Common.{◌≡◌, ℕ, ◌+◌, ◌≤◌, ◌∙◌, List, ◌++◌, ap, length, length-append, arith}
use Rattle.pgn_text.specs.declared.buffer.TheConstants.{SIZE}
use Rattle.pgn_text.proofs.PutsLaws.{Puts-kept, three-kept}
use Rattle.pgn_text.proofs.out.Out.text_in.Goals as goal

-- there is room for the text behind the front, and for the back behind both
fits-two : (kept front one : List ℕ) (text back room : ℕ) → one ≡ kept ++ front → length front + text + back ≤ room → room + length kept ≡ SIZE → length one + text ≤ SIZE
fits-two kept front one text back room e few all = let long : length one ≡ length kept + length front = ap length e ∙ length-append kept front in omega arith

fits-three : (kept front text one two : List ℕ) (back room : ℕ) → one ≡ kept ++ front → two ≡ one ++ text → length front + length text + back ≤ room → room + length kept ≡ SIZE → length two + back ≤ SIZE
fits-three kept front text one two back room e f few all =
    let long : length one ≡ length kept + length front = ap length e ∙ length-append kept front in
    let longer : length two ≡ length one + length text = ap length f ∙ length-append one text in omega arith

pub push-requires-2 : goal.push-requires-2
push-requires-2 g c = fits-two _ _ _ _ _ _ c.push.ensures c.if-front-text.false c.room.ensures

pub push-requires-3 : goal.push-requires-3
push-requires-3 g c = fits-three _ _ _ _ _ _ _ c.push.ensures c.push-2.ensures c.if-front-text.false c.room.ensures

pub returns : goal.returns
returns g c = Puts-kept _ _ _ _ _ _ _ (three-kept _ _ _ _ _ _ _ c.push.ensures c.push-2.ensures c.push-3.ensures)
