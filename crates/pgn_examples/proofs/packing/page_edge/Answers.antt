use Rattle.pgn_base.specs.declared.format.Format.TheVariants.{One}
use Rattle.pgn_examples.proofs.PackingSteps.{length-letters, edge, short_of_edge, past_edge, no_room, rest_empty, filler_cells-edge}
use Rattle.pgn_examples.proofs.packing.page_edge.Goals as goal

pub returns-clause-lengths : goal.returns-clause-lengths
returns-clause-lengths c = simp (length-letters One)

pub returns-clause-edge : goal.returns-clause-edge
returns-clause-edge c = edge

pub returns-clause-no_filler : goal.returns-clause-no_filler
returns-clause-no_filler c = short_of_edge

pub returns-clause-after_filler : goal.returns-clause-after_filler
returns-clause-after_filler c = past_edge

pub returns-clause-no_room : goal.returns-clause-no_room
returns-clause-no_room c = no_room

pub returns-clause-empty_cells : goal.returns-clause-empty_cells
returns-clause-empty_cells c = rest_empty

pub returns-clause-filler_cells : goal.returns-clause-filler_cells
returns-clause-filler_cells c = filler_cells-edge
