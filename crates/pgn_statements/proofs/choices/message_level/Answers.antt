use Rattle.std.proofs.Common.{◌≡◌, ℕ, false, List, map, ap, ◌∙◌}
use Rattle.pgn_requests.specs.Values.{message_level}
use Rattle.pgn_statements.specs.Choices.{beside}
use Rattle.pgn_statements.specs.declared.choices.TheConstants.{MESSAGE_LEVELS}
use Rattle.pgn_statements.proofs.ChoiceLaws.{or_cond}
use Rattle.pgn_statements.proofs.choices.message_level.Goals as goal

told : (value : List ℕ) → beside false (map (λ row. (row.0.now, row.1.now)) MESSAGE_LEVELS) value ≡ message_level value
told value = simp or_cond

pub returns-clause-value : goal.returns-clause-value
returns-clause-value c = c.beside.ensures.value ∙ ap (λ (l : List ℕ). beside false (map (λ row. (row.0.now, row.1.now)) MESSAGE_LEVELS) l) c.as_bytes.ensures.value ∙ told c.args.value.now
