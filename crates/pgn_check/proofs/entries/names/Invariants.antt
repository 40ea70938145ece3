use Rattle.std.proofs.Common.{◌≡◌, drop}
use Rattle.pgn_model.specs.Legal.{names_section}
use Rattle.pgn_check.proofs.entries.names.Given as goal

abbrev pub invariant-loop-section : goal.invariant-loop-section
invariant-loop-section l = names_section (drop l.section-index l.sections) l.session ≡ names_section l.sections l.session
