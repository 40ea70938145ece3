use Rattle.pgn_part_examples.proofs.LayoutSteps.{edge_batch, filled_batch, whole_batch, both_batches, one_filler}
use Rattle.pgn_part_examples.proofs.layout.page_edge.Goals as goal

pub returns-clause-fits : goal.returns-clause-fits
returns-clause-fits c = edge_batch

pub returns-clause-fits_not : goal.returns-clause-fits_not
returns-clause-fits_not c = filled_batch

pub returns-clause-next_page : goal.returns-clause-next_page
returns-clause-next_page c = whole_batch

pub returns-clause-both : goal.returns-clause-both
returns-clause-both c = both_batches

pub returns-clause-one_filler : goal.returns-clause-one_filler
returns-clause-one_filler c = one_filler
