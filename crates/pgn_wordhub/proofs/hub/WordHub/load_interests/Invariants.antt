use Rattle.std.proofs.Common.{◌≡◌, length}
use Rattle.pgn_words.specs.Passes.{IsPassOf, view_of}
use Rattle.pgn_wordhub.specs.Wakes.{deemed_as}
use Rattle.pgn_wordhub.proofs.DecidingLaws.{HasLoaded}
use Rattle.pgn_wordhub.proofs.hub.WordHub.load_interests.Given as goal

abbrev pub invariant-loop-seat : goal.invariant-loop-seat
invariant-loop-seat l = IsPassOf l.self.queue l.pass × (view_of l.pass ≡ deemed_as (view_of l.pass).concerned (view_of l.fn.pass)) × (length l.owns ≡ length l.fn.owns) × HasLoaded (view_of l.pass) l.owns l.seat
