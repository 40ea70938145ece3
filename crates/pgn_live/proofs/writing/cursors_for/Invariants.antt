use Rattle.std.proofs.Common.{All}
use Rattle.pgn_live.specs.Lives.{IsFresh}
use Rattle.pgn_live.proofs.writing.cursors_for.Given as goal

abbrev pub invariant-loop : goal.invariant-loop
invariant-loop l = All IsFresh l.cursors.items
