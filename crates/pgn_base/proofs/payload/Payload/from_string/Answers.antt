use Rattle.std.proofs.Common.{◌≡◌, ◌∙◌, ℕ, List, sym, subst}
use Rattle.pgn_base.specs.Texts.{IsPayload}
use Rattle.pgn_base.specs.declared.payload.PayloadFault.TheVariants.{TooLong, Nul, Memory}
use Rattle.pgn_base.proofs.FaultLaws.{fault-same, fault-moved, fault-none, fault-other, ok-fault}
use Rattle.pgn_base.proofs.payload.Payload.from_string.Goals as goal

-- faults that differ
apart : (Memory ≡ TooLong → ⊥) × (Memory ≡ Nul → ⊥)
apart = (λ q. cc, λ q. cc)

pub invariant_of-result : goal.invariant_of-result
invariant_of-result c = subst (λ (bytes : List ℕ). IsPayload bytes) (c.as_str.ensures.value ∙ sym c.in-Ok.ensures.ok) c.in_default.ensures.ok

pub returns-in-Err : goal.returns-in-Err
returns-in-Err c =
    record {
      ok = tt;
      too_long = fault-same _ TooLong (rw c.as_str.ensures.value at c.in-Err.ensures.too_long);
      nul = fault-same _ Nul (rw c.as_str.ensures.value at c.in-Err.ensures.nul);
      memory = λ q. absurd (c.in-Err.ensures.memory (fault-moved _ Memory q));
    }

pub returns-in-Ok : goal.returns-in-Ok
returns-in-Ok c =
    record {
      ok = c.in-Ok.ensures.ok;
      too_long = fault-none _ _ TooLong (rw c.as_str.ensures.value at c.in_default.ensures.too_long);
      nul = fault-none _ _ Nul (rw c.as_str.ensures.value at c.in_default.ensures.nul);
      memory = λ q. absurd (ok-fault _ Memory q);
    }

pub returns-in-Err-from_string : goal.returns-in-Err-from_string
returns-in-Err-from_string c =
    record {
      ok = tt;
      too_long = fault-other _ Memory TooLong apart.0 (rw c.as_str.ensures.value at c.in_default.ensures.too_long);
      nul = fault-other _ Memory Nul apart.1 (rw c.as_str.ensures.value at c.in_default.ensures.nul);
      memory = λ q. c.in-Err-from_string.ensures.memory;
    }
