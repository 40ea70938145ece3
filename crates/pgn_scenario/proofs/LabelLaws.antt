-- Names and numbers in meta lines.
use Rattle.std.proofs.Common.{◌≡◌, ℕ, ◌<◌, ◌==◌, true, false, List, [], ◌∷◌, arith}
use Rattle.std.specs.List.{list_all}
use Rattle.std.specs.Char.{is_ascii_digit, digit_value}
use Rattle.std.specs.Str.Parse.{AllDigits}
use Rattle.std.proofs.lemmas.Bool.{and_parts}
use Rattle.std.proofs.lemmas.Bool.Decides.{nat_tests}

digit : (b : ℕ) → is_ascii_digit b ≡ true → digit_value b < 10
digit b h = grind (arith, nat_tests)

-- a number that is not 0 is greater
pub some_from : (n : ℕ) → (n == 0) ≡ false → 0 < n
some_from n h = grind (arith, nat_tests)

-- bytes that pass the test of digits are digits in base 10
pub all_digits : (bytes : List ℕ) → list_all is_ascii_digit bytes ≡ true → AllDigits 10 bytes
all_digits [] h = tt
all_digits (b ∷ bytes) h =
    let parts : (is_ascii_digit b ≡ true) × (list_all is_ascii_digit bytes ≡ true) = and_parts (is_ascii_digit b) (list_all is_ascii_digit bytes) h in
    (digit b parts.0, all_digits bytes parts.1)
