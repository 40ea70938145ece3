use Rattle.std.proofs.Common.{take-append-drop}
use Rattle.pgn_text.proofs.PutsLaws.{Puts-parts}
use Rattle.pgn_text.proofs.out.Out.refill.Goals as goal

pub returns : goal.returns
returns g c = Puts-parts _ c.requires.fine c.push.ensures c.send.ensures.puts c.keep.ensures (rw (c.split_at.ensures.front, c.split_at.ensures.back) (take-append-drop c.room.result c.args.piece.now))
