use Rattle.std.proofs.Common.{[], ◌∷◌, ◌++◌}
use Rattle.std.proofs.lemmas.List.Elements.{All-push, All-same}
use Rattle.pgn_live.specs.Lives.{IsFresh}
use Rattle.pgn_live.proofs.writing.cursors_for.Goals as goal

pub loop-preserved : goal.loop-preserved
loop-preserved c =
    All-same IsFresh c.push.new.self.items (c.loop.cursors.items ++ c.new.result ∷ []) c.in_ok-push.ensures.items (All-push IsFresh c.loop.cursors.items c.new.result c.loop.invariant c.new.ensures)
