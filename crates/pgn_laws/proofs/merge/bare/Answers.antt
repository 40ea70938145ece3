use Rattle.pgn_laws.proofs.BareLaws.{others-bare, none-bare, legal-bare}
use Rattle.pgn_laws.proofs.merge.bare.Goals as goal

pub returns-clause-others : goal.returns-clause-others
returns-clause-others c = others-bare

pub returns-clause-none : goal.returns-clause-none
returns-clause-none c = none-bare

pub returns-clause-legal : goal.returns-clause-legal
returns-clause-legal c = legal-bare
