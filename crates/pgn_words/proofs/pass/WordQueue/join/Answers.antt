use Rattle.std.proofs.Common.{arith}
use Rattle.pgn_words.proofs.NoteKept.{join_allowed}
use Rattle.pgn_words.proofs.pass.WordQueue.join.Goals as goal

pub join_seat-requires : goal.join_seat-requires
join_seat-requires c = (
  c.requires.own.table,
  c.requires.note.table,
  c.requires.note.bare,
  (let counted = c.args.self.now.counted in omega (arith, counted)),
  join_allowed _ _ _ _ _ c.requires.note.number,
)
