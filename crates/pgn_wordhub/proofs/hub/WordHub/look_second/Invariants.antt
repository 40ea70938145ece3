use Rattle.std.proofs.Common.{◌≡◌, suc, length, take, slice_get, Some}
use Rattle.pgn_lanes.specs.Least.{least_with}
use Rattle.pgn_words.specs.Passes.{IsPassOf, view_of}
use Rattle.pgn_wordhub.specs.Looks.{HasSeenSecond}
use Rattle.pgn_wordhub.proofs.hub.WordHub.look_second.Given as goal

abbrev pub invariant-loop-seat : goal.invariant-loop-seat
invariant-loop-seat g l = IsPassOf l.self.queue l.pass × HasSeenSecond (view_of l.fn.pass) (view_of l.pass) l.seat l.floor.mark l.floor.at l.floor.holder
    × ((view_of l.pass).eye.target ≡ least_with l.fn.tail (take (suc l.seat) l.places)) × (length l.places ≡ 257) × (slice_get l.places 0 ≡ Some l.fn.tail)
