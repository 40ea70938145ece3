use Rattle.std.proofs.Common.{ℕ, List, sym, subst}
use Rattle.pgn_base.specs.Texts.{IsPayload}
use Rattle.pgn_base.proofs.FaultLaws.{held-ok, held-err}
use Rattle.pgn_base.proofs.payload.Payload.of_valid.Goals as goal

pub invariant_of-result : goal.invariant_of-result
invariant_of-result c = subst (λ (bytes : List ℕ). IsPayload bytes) (sym c.in_ok-text.ensures.ok) c.requires

pub returns-in_err-text : goal.returns-in_err-text
returns-in_err-text c = record { ok = held-ok _ _ c.from_residual.ensures.0; memory = held-err _ _ c.in_err-text.ensures.memory }

pub returns : goal.returns
returns c = record { ok = c.in_ok-text.ensures.ok; memory = tt }
