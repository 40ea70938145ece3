use Rattle.std.proofs.Common.{◌≡◌, ◌≤◌, length}
use Rattle.pgn_words.specs.Passes.{IsPassOf, view_of}
use Rattle.pgn_wordhub.specs.Placing.{IsPlacing, HasWritten}
use Rattle.pgn_wordhub.proofs.hub.WordHub.place_all.Given as goal

abbrev pub invariant-batches : goal.invariant-batches
invariant-batches g l =
    (goal.iterator-batches g).can_next l.iterator' × (goal.iterator-batches g).is_finite l.iterator' × IsPassOf l.self.queue l.pass
    × HasWritten (view_of l.fn.pass) (view_of l.pass) × IsPlacing (view_of l.pass) l.fn.tx.notes.now l.placing.placed l.placing.at × (l.placing.placed ≤ length l.fn.tx.notes.now) × (l.placing.stop ≡ (view_of l.pass).stop)
