-- Two bits of a word.
use Rattle.std.proofs.Common.{◌≡◌, ◌+◌, ◌/◌, ◌^◌, ◌<◌, ◌≤◌, sym, ap, ◌∙◌, refl, arith}
use Rattle.std.proofs.Math.Pow.{pow_mono}
use Rattle.std.proofs.Math.Nat.{div-div-eq-div-mul}
use Rattle.std.proofs.lemmas.Nat.{pow-add, or_lt}
use Rattle.pgn_journal.specs.declared.tx.Fate.{Fate}
use Rattle.pgn_journal.specs.declared.tx.Fate.TheVariants.{Committed, Aborted}
use Rattle.pgn_layout.specs.Status.{status_shift, status_code, status_set}
use Rattle.pgn_layout.specs.Laws.{SetFits, CodesTell, StatusHasBits}
use Rattle.pgn_layout.proofs.StatusLaws.{shifted_low, code_small, none_is_set, set_is_read, others_stay}

pub set_fits : SetFits
set_fits word xid fate h =
    let shift = status_shift xid in
    let at_most : 2 ^ (shift + 2) ≤ 2 ^ 64 = pow_mono {i = shift + 2} {j = 64} (omega arith) in
    or_lt 64 word (status_set xid fate) h (omega (arith, shifted_low (status_code fate) shift (code_small fate), at_most))

codes_apart : (a b : Fate) → status_code a ≡ status_code b → a ≡ b
codes_apart Committed Committed e = refl
codes_apart Committed Aborted e = absurd (omega (arith, e))
codes_apart Aborted Committed e = absurd (omega (arith, e))
codes_apart Aborted Aborted e = refl

code_some : (fate : Fate) → 0 < status_code fate
code_some Committed = omega arith
code_some Aborted = omega arith

pub codes_tell : CodesTell
codes_tell = record { some = code_some; apart = codes_apart }

pub status_has_bits : StatusHasBits
status_has_bits word xid =
    let shift = status_shift xid in
    let up : word / 2 ^ (shift + 1) ≡ word / 2 ^ shift / 2 = ap (λ n. word / n) (pow-add 2 shift 1) ∙ sym (div-div-eq-div-mul word (2 ^ shift) 2) in
    omega (arith, up)

-- the laws of a word of statuses
pub ruleset status_laws = (none_is_set, set_is_read, others_stay, set_fits, codes_tell, status_has_bits)
