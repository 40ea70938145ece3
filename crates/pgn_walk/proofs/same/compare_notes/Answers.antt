use Rattle.std.proofs.Common.{sym}
use Rattle.pgn_answers.specs.Savepoints.{same_note}
use Rattle.pgn_walk.proofs.SameLaws.{same_long}
use Rattle.pgn_walk.proofs.same.compare_notes.Goals as goal

pub returns-then-a-b : goal.returns-then-a-b
returns-then-a-b c = sym (same_long same_note c.args.a.now c.args.b.now c.if-a-b.true)
