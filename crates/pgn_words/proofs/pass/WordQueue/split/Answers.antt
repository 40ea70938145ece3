use Rattle.std.proofs.Common.{arith}
use Rattle.pgn_words.proofs.NoteKept.{note_allowed}
use Rattle.pgn_words.proofs.pass.WordQueue.split.Goals as goal

pub split_seat-seat-requires : goal.split_seat-seat-requires
split_seat-seat-requires c = (c.requires.own.table, (let counted = c.args.self.now.counted in omega (arith, counted)), note_allowed _ _ _)
