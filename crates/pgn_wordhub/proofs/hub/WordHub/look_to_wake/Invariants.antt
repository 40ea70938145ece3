use Rattle.std.proofs.Common.{◌≡◌, ◌-◌, ◌≤◌, ◌++◌, length, take, replicate, map, All}
use Rattle.pgn_lanes.specs.Behind.{plain_behind}
use Rattle.pgn_words.specs.Passes.{IsPassOf, view_of, known_of}
use Rattle.pgn_words.specs.declared.view.Verdict.TheVariants.{Unseen}
use Rattle.pgn_words.specs.Waking.{verdict_of}
use Rattle.pgn_wordhub.specs.Wakes.{decided_as}
use Rattle.pgn_wordhub.proofs.hub.WordHub.look_to_wake.Given as goal

abbrev pub invariant-loop-seat : goal.invariant-loop-seat
invariant-loop-seat l = IsPassOf l.self.queue l.pass × (length l.places ≡ length l.fn.places) × All (λ place. place ≤ l.fn.head) (take l.seat l.places)
    × (view_of l.pass ≡ decided_as (map verdict_of (plain_behind l.fn.head (known_of l.fn.pass).db (take l.seat l.places) (take l.seat l.owns)) ++ replicate (length l.owns - l.seat) Unseen) (view_of l.fn.pass))
