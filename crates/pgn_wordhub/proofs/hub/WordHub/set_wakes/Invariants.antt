use Rattle.std.proofs.Common.{◌≡◌, ◌*◌}
use Rattle.pgn_words.specs.Passes.{IsPassOf, view_of}
use Rattle.pgn_wordhub.specs.Wakes.{decided_as}
use Rattle.pgn_wordhub.proofs.DecidingLaws.{HasDecided}
use Rattle.pgn_wordhub.proofs.hub.WordHub.set_wakes.Given as goal

abbrev pub invariant-loop-word : goal.invariant-loop-word
invariant-loop-word l = IsPassOf l.self.queue l.pass × (view_of l.pass ≡ decided_as (view_of l.pass).verdicts (view_of l.fn.pass)) × HasDecided (view_of l.fn.pass).verdicts (view_of l.pass).verdicts 0 (64 * l.word)
