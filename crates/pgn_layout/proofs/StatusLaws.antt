-- Two bits of a word.
use Rattle.std.proofs.Common.{◌≡◌, ◌≢◌, ℕ, ◌+◌, ◌-◌, ◌*◌, ◌/◌, ◌%◌, ◌^◌, ◌<◌, ◌≤◌, bit_or, sym, ap, ◌∙◌, arith, inl, inr}
use Rattle.std.specs.Int.Bits.{or_zero_l, or_zero_r}
use Rattle.std.proofs.Math.Pow.{pow_mono}
use Rattle.std.proofs.Math.Nat.{mod-eq_of_lt, div-eq_of_lt, mul-div_cancel, mul_assoc}
use Rattle.std.proofs.lemmas.Bool.{cases_lt}
use Rattle.std.proofs.lemmas.Nat.{pow_pos, pow-add, or_shr, or_mod}
use Rattle.pgn_base.specs.declared.limits.TheConstants.{FIRST_XID}
use Rattle.pgn_journal.specs.declared.tx.Fate.{Fate}
use Rattle.pgn_journal.specs.declared.tx.Fate.TheVariants.{Committed, Aborted}
use Rattle.pgn_layout.specs.Status.{status_word, status_shift, status_code, status_in, status_set}
use Rattle.pgn_layout.specs.Laws.{NoneIsSet, SetIsRead, OthersStay}

-- a number below 4 in its place is below what stands two bits higher
pub shifted_low : (code shift : ℕ) → code < 4 → code * 2 ^ shift < 2 ^ (shift + 2)
shifted_low code shift small =
    let some : 0 < 2 ^ shift = pow_pos shift in
    let times : code * 2 ^ shift ≤ 3 * 2 ^ shift = grind arith in
    let up : 2 ^ (shift + 2) ≡ 2 ^ shift * 4 = pow-add 2 shift 2 in
    omega (arith, times, up, some)

-- a status in its place fits in a word
pub shifted_fits : (code shift : ℕ) → code < 4 → shift ≤ 62 → code * 2 ^ shift % 18446744073709551616 ≡ code * 2 ^ shift
shifted_fits code shift small low =
    let at_most : 2 ^ (shift + 2) ≤ 2 ^ 64 = pow_mono {i = shift + 2} {j = 64} (omega arith) in
    mod-eq_of_lt (omega (arith, shifted_low code shift small, at_most))

-- a code has two bits
pub code_small : (fate : Fate) → status_code fate < 4
code_small Committed = omega arith
code_small Aborted = omega arith

-- two bits from a place on, of two words together
or_two_bits : (a b shift : ℕ) → bit_or a b / 2 ^ shift % 4 ≡ bit_or (a / 2 ^ shift % 4) (b / 2 ^ shift % 4)
or_two_bits a b shift = ap (λ n. n % 4) (or_shr a b shift) ∙ or_mod (a / 2 ^ shift) (b / 2 ^ shift) 2

-- in their place
two_bits_here : (code shift : ℕ) → code < 4 → code * 2 ^ shift / 2 ^ shift % 4 ≡ code
two_bits_here code shift small = ap (λ n. n % 4) (mul-div_cancel code (pow_pos shift)) ∙ mod-eq_of_lt small

-- below it
two_bits_below : (code shift other : ℕ) → other + 2 ≤ shift → code * 2 ^ shift / 2 ^ other % 4 ≡ 0
two_bits_below code shift other h =
    let rest : ℕ = shift - (other + 2) in
    let whole : shift ≡ (rest + 2) + other = omega arith in
    let up : code * 2 ^ shift ≡ code * 2 ^ (rest + 2) * 2 ^ other
    = ap (λ n. code * 2 ^ n) whole ∙ ap (λ n. code * n) (pow-add 2 (rest + 2) other) ∙ sym (mul_assoc code (2 ^ (rest + 2)) (2 ^ other)) in
    let four : code * 2 ^ (rest + 2) ≡ code * 2 ^ rest * 4 = ap (λ n. code * n) (pow-add 2 rest 2) ∙ sym (mul_assoc code (2 ^ rest) 4) in
    ap (λ n. n / 2 ^ other % 4) up ∙ ap (λ n. n % 4) (mul-div_cancel (code * 2 ^ (rest + 2)) (pow_pos other)) ∙ ap (λ n. n % 4) four ∙ (omega arith)

-- above it
two_bits_above : (code shift other : ℕ) → code < 4 → shift + 2 ≤ other → code * 2 ^ shift / 2 ^ other % 4 ≡ 0
two_bits_above code shift other small h =
    let up : 2 ^ (shift + 2) ≤ 2 ^ other = pow_mono h in
    let low : code * 2 ^ shift < 2 ^ other = omega (arith, shifted_low code shift small, up) in
    ap (λ n. n % 4) (div-eq_of_lt low)

-- in a word of zero each transaction is in progress
pub none_is_set : NoneIsSet
none_is_set xid = ap (λ n. n % 4) (div-eq_of_lt (pow_pos (status_shift xid)))

-- the status that was set is the one that is read
pub set_is_read : SetIsRead
set_is_read word xid fate none =
    let shift = status_shift xid in
    or_two_bits word (status_set xid fate) shift
    ∙ ap (λ n. bit_or n (status_set xid fate / 2 ^ shift % 4)) none
    ∙ or_zero_l (status_set xid fate / 2 ^ shift % 4)
    ∙ two_bits_here (status_code fate) shift (code_small fate)

-- the places of two transactions of a word
shifts_apart : (xid other : ℕ) → FIRST_XID ≤ xid → FIRST_XID ≤ other → other ≢ xid → status_word other ≡ status_word xid → status_shift other ≢ status_shift xid
shifts_apart xid other h k apart same e = apart (omega arith)

not_here : (fate : Fate) (xid other : ℕ) → status_shift other ≢ status_shift xid → status_set xid fate / 2 ^ status_shift other % 4 ≡ 0
not_here fate xid other apart =
    let shift = status_shift xid in
    let there = status_shift other in
    elim (cases_lt there shift) as (λ _. status_set xid fate / 2 ^ there % 4 ≡ 0) [
      | inl below ↦ two_bits_below (status_code fate) shift there (omega (arith, below))
      | inr above ↦ two_bits_above (status_code fate) shift there (code_small fate) (omega (arith, above, apart))
    ]

-- to set one status leaves the others of its word
pub others_stay : OthersStay
others_stay word xid other fate h k apart same =
    let there = status_shift other in
    or_two_bits word (status_set xid fate) there
    ∙ ap (λ n. bit_or (status_in word other) n) (not_here fate xid other (shifts_apart xid other h k apart same))
    ∙ or_zero_r (status_in word other)
