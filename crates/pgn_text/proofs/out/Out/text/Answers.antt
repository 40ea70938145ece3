use Rattle.pgn_text.proofs.PutsLaws.{Puts-kept}
use Rattle.pgn_text.proofs.out.Out.text.Goals as goal

pub returns-then-piece-room : goal.returns-then-piece-room
returns-then-piece-room g c = c.overflow.ensures

pub returns : goal.returns
returns g c = Puts-kept _ _ _ _ _ _ _ c.push.ensures
