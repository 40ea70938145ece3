use Rattle.std.proofs.Common.{◌≡◌, drop}
use Rattle.pgn_reading.specs.Form.{database_of}
use Rattle.pgn_form.proofs.draft.database_of.Given as goal

abbrev pub invariant-loop-section : goal.invariant-loop-section
invariant-loop-section l = database_of (drop l.section-index l.sections) l.session ≡ database_of l.sections l.session
