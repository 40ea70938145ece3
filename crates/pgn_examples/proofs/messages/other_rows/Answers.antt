use Rattle.std.proofs.Common.{◌≡◌, ℕ, ◌==◌, false, List, length, get_or, refl, ap}
use Rattle.std.proofs.lemmas.Bool.{both_ways, eq-eqb}
use Rattle.pgn_examples.proofs.messages.other_rows.Goals as goal

-- numbers that differ
apart : (a b : ℕ) → (a == b) ≡ false → a ≡ b → ⊥
apart a b e same = both_ways (a == b) e (eq-eqb a b same)

-- the byte at a place
abbrev byte_at : ℕ → List ℕ → ℕ
byte_at n bytes = get_or bytes n 0

pub returns-clause-column_of_text : goal.returns-clause-column_of_text
returns-clause-column_of_text c e = apart 8 0 refl (ap (byte_at 25) e)

pub returns-clause-no_zero_byte : goal.returns-clause-no_zero_byte
returns-clause-no_zero_byte c e = apart 16 15 refl (ap (byte_at 4) e)

pub returns-clause-value_first : goal.returns-clause-value_first
returns-clause-value_first c e = apart 85 84 refl (ap (byte_at 5) e)

pub returns-clause-severity : goal.returns-clause-severity
returns-clause-severity c e = apart 69 70 refl (ap (byte_at 6) e)

pub returns-clause-cut_first : goal.returns-clause-cut_first
returns-clause-cut_first c e = apart 34 98 refl (ap (byte_at 42) e)

pub returns-clause-zeros_at_end : goal.returns-clause-zeros_at_end
returns-clause-zeros_at_end c e = apart 3 10 refl (ap length e)
