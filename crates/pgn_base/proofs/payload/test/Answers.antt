use Rattle.std.proofs.Common.{◌≡◌, ◌∙◌, Contains, sym, arith}
use Rattle.std.proofs.lemmas.Bool.{false≢true}
use Rattle.pgn_base.specs.declared.payload.PayloadFault.TheVariants.{TooLong, Nul, Memory}
use Rattle.pgn_base.proofs.FaultLaws.{fault-differs, fault-here, fault-passed, fault-not, ok-fault}
use Rattle.pgn_base.proofs.payload.test.Goals as goal

-- faults that differ
apart : (TooLong ≡ Nul → ⊥) × (TooLong ≡ Memory → ⊥) × (Nul ≡ TooLong → ⊥) × (Nul ≡ Memory → ⊥)
apart = (λ q. cc, λ q. cc, λ q. cc, λ q. cc)

pub returns-then-text-gt-PAYLOAD_BYTES_MAX : goal.returns-then-text-gt-PAYLOAD_BYTES_MAX
returns-then-text-gt-PAYLOAD_BYTES_MAX c =
    let more = c.if-text-gt-PAYLOAD_BYTES_MAX.true in
    record {
      ok = tt;
      too_long = fault-here TooLong more;
      nul = fault-differs TooLong Nul apart.0 (λ h. omega (arith, h.0, more));
      memory = fault-not TooLong Memory apart.1;
    }

pub returns-then-has_nul : goal.returns-then-has_nul
returns-then-has_nul c =
    let within = c.if-text-gt-PAYLOAD_BYTES_MAX.false in
    record {
      ok = tt;
      too_long = fault-differs Nul TooLong apart.2 (λ more. omega (arith, more, within));
      nul = fault-here Nul (within, rw c.as_bytes.ensures.value at (c.has_nul.ensures.0 c.if-has_nul.true));
      memory = fault-not Nul Memory apart.3;
    }

pub returns : goal.returns
returns c =
    let within = c.if-text-gt-PAYLOAD_BYTES_MAX.false in
    let clean : Contains c.args.text.now 0 → ⊥ = λ h. absurd (false≢true (sym c.if-has_nul.false ∙ c.has_nul.ensures.1 (rw c.as_bytes.ensures.value h))) in
    record {
      ok = record { text = c.utf8.text; short = within; no_nul = clean };
      too_long = fault-passed _ TooLong (λ more. omega (arith, more, within));
      nul = fault-passed _ Nul (λ h. clean h.1);
      memory = ok-fault _ Memory;
    }
