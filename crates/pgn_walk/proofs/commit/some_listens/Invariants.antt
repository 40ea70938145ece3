use Rattle.std.proofs.Common.{◌≡◌, drop}
use Rattle.std.specs.List.{list_any}
use Rattle.pgn_answers.specs.Savepoints.{is_listen}
use Rattle.pgn_walk.proofs.commit.some_listens.Given as goal

abbrev pub invariant-loop-action : goal.invariant-loop-action
invariant-loop-action l = list_any is_listen (drop l.action-index l.actions) ≡ list_any is_listen l.actions
