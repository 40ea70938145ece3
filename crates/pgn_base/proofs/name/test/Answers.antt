use Rattle.std.proofs.Common.{◌≡◌, ◌∙◌, [], length, Contains, sym, ap, arith}
use Rattle.std.proofs.lemmas.Bool.{false≢true}
use Rattle.pgn_base.specs.declared.name.NameFault.TheVariants.{Empty, TooLong, Nul, Memory}
use Rattle.pgn_base.proofs.FaultLaws.{fault-differs, fault-here, fault-passed, fault-not, ok-fault, none-of, some-of}
use Rattle.pgn_base.proofs.name.test.Goals as goal

-- faults that differ
apart : (Empty ≡ TooLong → ⊥) × (Empty ≡ Nul → ⊥) × (Empty ≡ Memory → ⊥) × (TooLong ≡ Empty → ⊥) × (TooLong ≡ Nul → ⊥) × (TooLong ≡ Memory → ⊥) × (Nul ≡ Empty → ⊥) × (Nul ≡ TooLong → ⊥) × (Nul ≡ Memory → ⊥)
apart = (λ q. cc, λ q. cc, λ q. cc, λ q. cc, λ q. cc, λ q. cc, λ q. cc, λ q. cc, λ q. cc)

pub returns-then-is_empty : goal.returns-then-is_empty
returns-then-is_empty c =
    let none : c.args.text.now ≡ [] = none-of _ _ c.is_empty.ensures c.if-is_empty.true in
    let zero : length c.args.text.now ≡ 0 = ap length none in
    record {
      ok = tt;
      empty = fault-here Empty none;
      too_long = fault-differs Empty TooLong apart.0 (λ more. omega (arith, zero));
      nul = fault-differs Empty Nul apart.1 (λ h. let within = h.1.1 in omega (arith, zero));
      memory = fault-not Empty Memory apart.2;
    }

pub returns-then-text-gt-NAME_BYTES_MAX : goal.returns-then-text-gt-NAME_BYTES_MAX
returns-then-text-gt-NAME_BYTES_MAX c =
    let more = c.if-text-gt-NAME_BYTES_MAX.true in
    record {
      ok = tt;
      empty = fault-differs TooLong Empty apart.3 (λ none. omega (arith, ap length none, more));
      too_long = fault-here TooLong more;
      nul = fault-differs TooLong Nul apart.4 (λ h. omega (arith, h.0, more));
      memory = fault-not TooLong Memory apart.5;
    }

pub returns-then-has_nul : goal.returns-then-has_nul
returns-then-has_nul c =
    let within = c.if-text-gt-NAME_BYTES_MAX.false in
    let some = some-of _ _ c.is_empty.ensures c.if-is_empty.false in
    record {
      ok = tt;
      empty = fault-differs Nul Empty apart.6 (λ none. omega (arith, ap length none, some));
      too_long = fault-differs Nul TooLong apart.7 (λ more. omega (arith, more, within));
      nul = fault-here Nul (within, rw c.as_bytes.ensures.value at (c.has_nul.ensures.0 c.if-has_nul.true));
      memory = fault-not Nul Memory apart.8;
    }

pub returns : goal.returns
returns c =
    let within = c.if-text-gt-NAME_BYTES_MAX.false in
    let some = some-of _ _ c.is_empty.ensures c.if-is_empty.false in
    let clean : Contains c.args.text.now 0 → ⊥ = λ h. absurd (false≢true (sym c.if-has_nul.false ∙ c.has_nul.ensures.1 (rw c.as_bytes.ensures.value h))) in
    record {
      ok = record { text = c.utf8.text; some = some; short = within; no_nul = clean };
      empty = fault-passed _ Empty (λ none. omega (arith, ap length none, some));
      too_long = fault-passed _ TooLong (λ more. omega (arith, more, within));
      nul = fault-passed _ Nul (λ h. clean h.1);
      memory = ok-fault _ Memory;
    }
