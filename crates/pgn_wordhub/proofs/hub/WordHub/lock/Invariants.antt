use Rattle.pgn_words.specs.Passes.{IsPassOf, view_of}
use Rattle.pgn_wordhub.proofs.LockLaws.{IsTrying}
use Rattle.pgn_wordhub.proofs.hub.WordHub.lock.Given as goal

abbrev pub invariant-tries : goal.invariant-tries
invariant-tries g l =
    (goal.iterator-tries g).can_next l.iterator' × (goal.iterator-tries g).is_finite l.iterator' × IsPassOf l.self.queue l.pass × IsTrying (view_of l.fn.pass) (view_of l.pass)
