use Rattle.std.proofs.Common.{◌≡◌, All}
use Rattle.pgn_words.specs.Passes.{IsPassOf, IsAtRest, view_of}
use Rattle.pgn_words.proofs.CloseLaws.{HasTakenIn}
use Rattle.pgn_words.proofs.pass.WordQueue.close.Given as goal

abbrev pub invariant-loop-pass : goal.invariant-loop-pass
invariant-loop-pass l =
    (l.self ≡ l.fn.self) × HasTakenIn l.fn.self l.fn.passes.items l.yielded l.pass-iterator.rest.items l.first
    × All (IsPassOf l.fn.self) l.fn.passes.items × All (λ pass. IsAtRest (view_of pass)) l.fn.passes.items
    × (goal.iterator-loop-pass).can_next l.pass-iterator × (goal.iterator-loop-pass).is_finite l.pass-iterator
