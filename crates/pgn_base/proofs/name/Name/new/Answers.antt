use Rattle.std.proofs.Common.{◌≡◌, ℕ, List, sym, subst}
use Rattle.pgn_base.specs.Texts.{IsName}
use Rattle.pgn_base.specs.declared.name.NameFault.TheVariants.{Empty, TooLong, Nul, Memory}
use Rattle.pgn_base.proofs.FaultLaws.{fault-held, held-ok, held-not, fault-none, fault-other, ok-fault}
use Rattle.pgn_base.proofs.name.Name.new.Goals as goal

-- faults that differ
apart : (Memory ≡ Empty → ⊥) × (Memory ≡ TooLong → ⊥) × (Memory ≡ Nul → ⊥)
apart = (λ q. cc, λ q. cc, λ q. cc)

pub invariant_of-result : goal.invariant_of-result
invariant_of-result c = subst (λ (bytes : List ℕ). IsName bytes) (sym c.in-Ok.ensures.ok) c.in_ok-test.ensures.ok

pub returns-in_err-test : goal.returns-in_err-test
returns-in_err-test c =
    record {
      ok = held-ok _ _ c.from_residual.ensures.0;
      empty = fault-held _ _ Empty c.from_residual.ensures.1 c.in_err-test.ensures.empty;
      too_long = fault-held _ _ TooLong c.from_residual.ensures.1 c.in_err-test.ensures.too_long;
      nul = fault-held _ _ Nul c.from_residual.ensures.1 c.in_err-test.ensures.nul;
      memory = λ q. absurd (held-not _ _ Memory c.from_residual.ensures.1 c.in_err-test.ensures.memory q);
    }

pub returns-in-Ok : goal.returns-in-Ok
returns-in-Ok c =
    record {
      ok = c.in-Ok.ensures.ok;
      empty = fault-none _ _ Empty c.in_ok-test.ensures.empty;
      too_long = fault-none _ _ TooLong c.in_ok-test.ensures.too_long;
      nul = fault-none _ _ Nul c.in_ok-test.ensures.nul;
      memory = λ q. absurd (ok-fault _ Memory q);
    }

pub returns-in-Err : goal.returns-in-Err
returns-in-Err c =
    record {
      ok = tt;
      empty = fault-other _ Memory Empty apart.0 c.in_ok-test.ensures.empty;
      too_long = fault-other _ Memory TooLong apart.1 c.in_ok-test.ensures.too_long;
      nul = fault-other _ Memory Nul apart.2 c.in_ok-test.ensures.nul;
      memory = λ q. c.in-Err.ensures.memory;
    }
