use Rattle.std.proofs.Common.{sym}
use Rattle.std.specs.Prelude.{bytes_eq}
use Rattle.pgn_walk.proofs.SameLaws.{same_long}
use Rattle.pgn_walk.proofs.same.compare_names.Goals as goal

pub returns-then-a-b : goal.returns-then-a-b
returns-then-a-b c = sym (same_long bytes_eq c.args.a.now c.args.b.now c.if-a-b.true)
