use Rattle.std.proofs.Common.{◌≡◌, take}
use Rattle.pgn_listening.specs.Listening.{listed}
use Rattle.pgn_listening.proofs.listen_set.names_of.Given as goal

abbrev pub invariant-loop-place : goal.invariant-loop-place
invariant-loop-place l = l.names ≡ listed (take l.place-index l.places)
