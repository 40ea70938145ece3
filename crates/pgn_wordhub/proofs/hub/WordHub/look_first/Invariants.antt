use Rattle.std.proofs.Common.{◌≡◌}
use Rattle.pgn_words.specs.Passes.{IsPassOf, view_of}
use Rattle.pgn_wordhub.specs.Advancing.{advanced_view}
use Rattle.pgn_wordhub.specs.Looks.{begun_at, HasSeenFirst}
use Rattle.pgn_wordhub.proofs.hub.WordHub.look_first.Given as goal

abbrev pub invariant-loop-seat : goal.invariant-loop-seat
invariant-loop-seat l = IsPassOf l.self.queue l.pass × (view_of l.pass ≡ advanced_view (view_of l.pass) (view_of l.fn.pass))
    × HasSeenFirst (view_of l.fn.pass) (begun_at l.seat (view_of l.pass)) l.seat l.floor.mark l.floor.at l.floor.holder
