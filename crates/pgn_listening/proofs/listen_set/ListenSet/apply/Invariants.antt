use Rattle.std.proofs.Common.{◌≡◌, ◌+◌, ◌≤◌, length}
use Rattle.pgn_base.specs.Channels.{applied}
use Rattle.pgn_listening.proofs.listen_set.ListenSet.apply.Given as goal

abbrev pub invariant-loop-action : goal.invariant-loop-action
invariant-loop-action l =
    (goal.iterator-loop-action).can_next l.action-iterator ×
    (goal.iterator-loop-action).is_finite l.action-iterator ×
    (l.self.channels ≡ applied l.fn.self.channels l.yielded) ×
    (l.fn.self.room ≤ l.self.room + length l.yielded)
