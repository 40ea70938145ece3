use Rattle.std.proofs.Common.{◌≡◌, ℕ, false, List, ap, ◌∙◌}
use Rattle.std.specs.List.{list_any}
use Rattle.pgn_requests.specs.Values.{says_off}
use Rattle.pgn_statements.specs.Choices.{is_same}
use Rattle.pgn_statements.specs.declared.choices.TheConstants.{OFF}
use Rattle.pgn_statements.proofs.ChoiceLaws.{or_assoc, or_none}
use Rattle.pgn_statements.proofs.choices.says_off.Goals as goal

told : (value : List ℕ) → list_any (λ word. is_same false word.now value) OFF ≡ says_off value
told value = simp (or_assoc, or_none)

pub returns : goal.returns
returns c = c.is_among.ensures ∙ ap (λ (l : List ℕ). list_any (λ word. is_same false word.now l) OFF) c.as_bytes.ensures.value ∙ told c.args.value.now
