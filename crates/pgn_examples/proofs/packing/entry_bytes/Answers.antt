use Rattle.std.proofs.Common.{refl}
use Rattle.pgn_base.specs.declared.format.Format.TheVariants.{One, Two}
use Rattle.pgn_journal.specs.Bytes.{header, entry_length, spelled, filler}
use Rattle.pgn_journal.specs.Packing.{filled_cells}
use Rattle.pgn_examples.proofs.PackingSteps.{length-longest}
use Rattle.pgn_examples.proofs.packing.entry_bytes.Goals as goal

pub returns-clause-whole : goal.returns-clause-whole
unfolding spelled entry_length header
returns-clause-whole c = refl

pub returns-clause-cells : goal.returns-clause-cells
unfolding filled_cells
returns-clause-cells c = refl

pub returns-clause-shortest : goal.returns-clause-shortest
unfolding spelled entry_length header
returns-clause-shortest c = refl

pub returns-clause-filler : goal.returns-clause-filler
unfolding filler header
returns-clause-filler c = refl

pub returns-clause-longest : goal.returns-clause-longest
returns-clause-longest c = length-longest One

pub returns-clause-two_shortest : goal.returns-clause-two_shortest
unfolding spelled entry_length header
returns-clause-two_shortest c = refl

pub returns-clause-two_least : goal.returns-clause-two_least
unfolding entry_length
returns-clause-two_least c = refl

pub returns-clause-two_whole : goal.returns-clause-two_whole
unfolding entry_length
returns-clause-two_whole c = refl

pub returns-clause-two_longest : goal.returns-clause-two_longest
returns-clause-two_longest c = length-longest Two

pub returns-clause-two_large_number : goal.returns-clause-two_large_number
unfolding spelled entry_length header
returns-clause-two_large_number c = refl

pub returns-clause-two_filler : goal.returns-clause-two_filler
unfolding filler header
returns-clause-two_filler c = refl
