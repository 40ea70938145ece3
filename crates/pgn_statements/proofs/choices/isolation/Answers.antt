use Rattle.std.proofs.Common.{ℕ, false, List, map, ap, ◌∙◌}
use Rattle.pgn_statements.specs.Choices.{beside}
use Rattle.pgn_statements.specs.declared.choices.TheConstants.{ISOLATIONS}
use Rattle.pgn_statements.proofs.choices.isolation.Goals as goal

pub returns-clause-value : goal.returns-clause-value
returns-clause-value c = c.beside.ensures.value ∙ ap (λ (l : List ℕ). beside false (map (λ row. (row.0.now, row.1.now)) ISOLATIONS) l) c.as_bytes.ensures.value
