use Rattle.std.proofs.Common.{◌≡◌, drop}
use Rattle.pgn_lanes.specs.Least.{least_with}
use Rattle.pgn_lanes.proofs.minimum.least_of.Given as goal

abbrev pub invariant-loop-word : goal.invariant-loop-word
invariant-loop-word l = least_with l.least (drop l.word-index l.words) ≡ least_with l.start l.words
