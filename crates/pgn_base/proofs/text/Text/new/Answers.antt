use Rattle.std.proofs.Common.{◌∙◌}
use Rattle.pgn_base.proofs.FaultLaws.{held-ok, held-err}
use Rattle.pgn_base.proofs.text.Text.new.Goals as goal

pub returns-then-text-le-TEXT_BYTES_IN_PLACE : goal.returns-then-text-le-TEXT_BYTES_IN_PLACE
returns-then-text-le-TEXT_BYTES_IN_PLACE c = record { ok = c.new.ensures ∙ c.as_bytes.ensures.value; memory = tt }

pub returns-in_err-from_str : goal.returns-in_err-from_str
returns-in_err-from_str c = record { ok = held-ok _ _ c.from_residual.ensures.0; memory = held-err _ _ c.if-text-le-TEXT_BYTES_IN_PLACE.false }
