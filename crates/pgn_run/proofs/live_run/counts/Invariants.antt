use Rattle.std.proofs.Common.{◌≡◌, length, map, take}
use Rattle.pgn_run.proofs.live_run.counts.Given as goal

abbrev pub invariant-loop-session : goal.invariant-loop-session
invariant-loop-session g l = l.counts.items ≡ map (λ s. length s.items.items) (take l.session-index l.sessions)
