use Rattle.std.proofs.Common.{◌≡◌, length}
use Rattle.pgn_statements.specs.Choices.{named_among}
use Rattle.pgn_statements.proofs.settings_named.named_among.Given as goal

abbrev pub invariant-loop-settings : goal.invariant-loop-settings
invariant-loop-settings l = named_among l.settings l.name ≡ named_among l.initial.settings l.name

abbrev pub decreases-loop-settings : goal.decreases-loop-settings
decreases-loop-settings l = length l.settings
