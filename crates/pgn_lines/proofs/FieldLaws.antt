-- A number ends where a blank follows it.
use Rattle.std.proofs.Common.{◌≡◌, ◌≢◌, ℕ, zero, suc, ◌^◌, ◌<◌, ◌==◌, false, List, [], ◌∷◌, Option, None, Some, MatchOption, Result, Ok, length, get_or, Bor, decimal, sym, ◌∙◌, arith, eq-eqb}
use Rattle.std.proofs.lemmas.Bool.{false≢true}
use Rattle.std.specs.Int.{IsInRange}
use Rattle.std.proofs.lemmas.Fmt.{digits_decimal, decimal_injective}
use Rattle.std.proofs.lemmas.Str.Parse.{IsDigitsTest, numerals_by_value}
use Rattle.std.proofs.lemmas.Str.Pattern.{IsSplitOnceResult, split_after, split_parts}
use Rattle.pgn_lines.specs.Fields.{NotParted, IsParted}

-- digits
abbrev pub AreDigits : List ℕ → Type 0
AreDigits [] = Unit {0}
AreDigits (b ∷ bytes) = IsInRange 48 57 b × AreDigits bytes

-- the test of digits passes exactly on digits
pub are-digits : IsDigitsTest AreDigits
are-digits = record { empty = tt; parts = λ b bytes h. h; more = λ b bytes h k. (h, k) }

no-mark-among : (mark : ℕ) (digits : List ℕ) → mark < 48 → AreDigits digits → (i : ℕ) → i < length digits → get_or digits i 0 ≢ mark
no-mark-among mark [] low d i l = absurd (omega arith)
no-mark-among mark (b ∷ digits) low d zero l = λ e. omega (arith, d.0)
no-mark-among mark (b ∷ digits) low d (suc i) l = no-mark-among mark digits low d.1 i (omega arith)

-- a number has no mark
no-mark : (mark n : ℕ) → mark < 48 → n < 2 ^ 64 → (i : ℕ) → i < length (decimal n) → get_or (decimal n) i 0 ≢ mark
no-mark mark n low h = no-mark-among mark (decimal n) low (digits_decimal (numerals_by_value AreDigits are-digits) n h)

-- so a text is cut behind it
pub parted_at : (mark : ℕ) (text : List ℕ) (cut : Option (Bor (List ℕ) × Bor (List ℕ))) → IsSplitOnceResult mark text cut → mark < 48
    → MatchOption cut (NotParted mark text) (λ parts. IsParted mark text parts.0.now parts.1.now)
parted_at mark text None h low = λ n rest few e. split_after mark text (decimal n) rest None h (omega arith) e (no-mark mark n low few)
parted_at mark text (Some x) h low = record {
  parts = (split_parts mark text (Some x) h (omega arith)).0;
  first = λ n rest few e. let both = split_after mark text (decimal n) rest (Some x) h (omega arith) e (no-mark mark n low few) in (sym both.0, sym both.1);
}

-- two numbers with one text are the same
pub same_number : (n m : ℕ) (text : List ℕ) → n < 2 ^ 64 → m < 2 ^ 64 → decimal n ≡ text → decimal m ≡ text → n ≡ m
same_number n m text hn hm e f = decimal_injective n m hn hm (e ∙ sym f)

-- two numbers that a test tells apart are not the same
pub differ : (n m : ℕ) → n ≡ m → (n == m) ≡ false → ⊥
differ n m e f = absurd (false≢true (sym f ∙ eq-eqb n m e))

-- what was read is one number
pub same_ok : {E : Type 0} (read : Result ℕ E) (n m : ℕ) → read ≡ Ok n → read ≡ Ok m → n ≡ m
same_ok read n m e f = cc
