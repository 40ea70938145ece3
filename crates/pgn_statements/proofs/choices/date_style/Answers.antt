use Rattle.std.proofs.Common.{◌∙◌}
use Rattle.pgn_statements.proofs.ChoiceLaws.{or_cond}
use Rattle.pgn_statements.proofs.choices.date_style.Goals as goal

pub returns-clause-value : goal.returns-clause-value
returns-clause-value c = c.beside.ensures.value ∙ simp or_cond
