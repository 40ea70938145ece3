use Rattle.pgn_base.specs.declared.format.Format.TheVariants.{Two}
use Rattle.pgn_examples.proofs.PackingSteps.{length-letters, length-longest, edge_two, short_of_edge_two, past_edge_two, filler_cells-edge_two}
use Rattle.pgn_examples.proofs.packing.page_edge_of_two.Goals as goal

pub returns-clause-lengths : goal.returns-clause-lengths
returns-clause-lengths c = simp (length-letters Two, length-longest Two)

pub returns-clause-edge : goal.returns-clause-edge
returns-clause-edge c = edge_two

pub returns-clause-no_filler : goal.returns-clause-no_filler
returns-clause-no_filler c = short_of_edge_two

pub returns-clause-filler_cells : goal.returns-clause-filler_cells
returns-clause-filler_cells c = filler_cells-edge_two

pub returns-clause-after_filler : goal.returns-clause-after_filler
returns-clause-after_filler c = past_edge_two
