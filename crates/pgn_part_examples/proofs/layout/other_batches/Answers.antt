use Rattle.std.proofs.Common.{ap, arith}
use Rattle.pgn_base.specs.declared.format.Format.TheVariants.{One}
use Rattle.pgn_layout.specs.declared.batch.Batch.{Batch}
use Rattle.pgn_part_examples.specs.Layout.{to_the_edge, over_the_edge, first_batch}
use Rattle.pgn_part_examples.proofs.LayoutSteps.{edge_batch, filled_batch, not_planned, not_one_page}
use Rattle.pgn_part_examples.proofs.layout.other_batches.Goals as goal

pub returns-clause-fills_for_nothing : goal.returns-clause-fills_for_nothing
returns-clause-fills_for_nothing c = not_planned One 0 to_the_edge _ _ edge_batch (λ e. omega (arith, ap (λ (b : Batch). b.fits) e))

pub returns-clause-goes_on : goal.returns-clause-goes_on
returns-clause-goes_on c = not_planned One 0 over_the_edge first_batch _ filled_batch (λ e. omega (arith, ap (λ (b : Batch). b.fits) e))

pub returns-clause-no_filler : goal.returns-clause-no_filler
returns-clause-no_filler c = not_planned One 0 over_the_edge first_batch _ filled_batch (λ e. omega (arith, ap (λ (b : Batch). b.filler) e))

pub returns-clause-long_filler : goal.returns-clause-long_filler
returns-clause-long_filler c = not_planned One 0 over_the_edge first_batch _ filled_batch (λ e. omega (arith, ap (λ (b : Batch). b.filler) e))

pub returns-clause-one_page : goal.returns-clause-one_page
returns-clause-one_page c = not_one_page
