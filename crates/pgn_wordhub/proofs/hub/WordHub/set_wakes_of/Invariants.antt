use Rattle.std.proofs.Common.{◌≡◌, ◌*◌, ◌≤◌}
use Rattle.pgn_words.specs.Passes.{IsPassOf, view_of}
use Rattle.pgn_wordhub.specs.Wakes.{decided_as}
use Rattle.pgn_wordhub.proofs.DecidingLaws.{HasDecided}
use Rattle.pgn_wordhub.proofs.hub.WordHub.set_wakes_of.Given as goal

abbrev pub invariant-loop-seat : goal.invariant-loop-seat
invariant-loop-seat l = IsPassOf l.self.queue l.pass × (view_of l.pass ≡ decided_as (view_of l.pass).verdicts (view_of l.fn.pass))
    × HasDecided (view_of l.fn.pass).verdicts (view_of l.pass).verdicts (64 * l.fn.word) l.seat × (64 * l.fn.word ≤ l.seat)
