-- The digits of a number, and bytes that can be printed.
use Rattle.std.proofs.Common.{◌≡◌, ℕ, ◌<◌, ◌≤◌, ◌==◌, Bool, true, false, ◌&&◌, nat_le, nat_lt, List, [], ◌∷◌, ◌++◌, length, decimal, All, refl, ◌∙◌, arith}
use Rattle.std.specs.Int.{IsInRange}
use Rattle.std.specs.List.{list_all, list_any}
use Rattle.std.specs.Str.{is_utf8}
use Rattle.std.proofs.lemmas.Bool.{and_from, and_parts, or_from}
use Rattle.std.proofs.lemmas.Bool.Decides.{nat_tests}
use Rattle.std.proofs.lemmas.Fmt.{digits_decimal, decimal_nonempty, length-decimal-le}
use Rattle.std.proofs.lemmas.List.Elements.{All-cons, All-nil}
use Rattle.std.proofs.lemmas.List.Folds.{list_all-append}
use Rattle.std.proofs.lemmas.Str.{is_utf8-from_IsUtf8, IsUtf8-from_ascii}
use Rattle.std.proofs.lemmas.Str.Ascii.{IsAscii-from_all}
use Rattle.std.proofs.lemmas.Str.Parse.{IsDigitsTest, numerals_by_value}

-- digits
abbrev pub AreDigits : List ℕ → Type 0
AreDigits [] = Unit {0}
AreDigits (b ∷ bytes) = IsInRange 48 57 b × AreDigits bytes

are-digits : IsDigitsTest AreDigits
are-digits = record { empty = tt; parts = λ b bytes h. h; more = λ b bytes h k. (h, k) }

-- one to ten digits
pub record IsFigure (digits : List ℕ) : Type 0 where
  pub all : AreDigits digits
  pub some : 0 < length digits
  pub few : length digits ≤ 10

-- a number below ten thousand million is written with one to ten digits
pub figure : (n : ℕ) → n < 10000000000 → IsFigure (decimal n)
figure n h = record {
  all = digits_decimal (numerals_by_value AreDigits are-digits) n (omega arith);
  some = decimal_nonempty n (omega arith);
  few = length-decimal-le 10 n (omega arith) (omega arith) (omega arith);
}

-- a test that each digit passes, and one that each fails
pub each-digit : (test : ℕ → Bool) → ((b : ℕ) → 48 ≤ b → b ≤ 57 → test b ≡ true) → (digits : List ℕ) → AreDigits digits → list_all test digits ≡ true
each-digit test h [] d = refl
each-digit test h (b ∷ digits) d = and_from (test b) (list_all test digits) (h b d.0.0 d.0.1) (each-digit test h digits d.1)

-- a test that no digit passes no text of digits passes
pub no-digit : (test : ℕ → Bool) → ((b : ℕ) → 48 ≤ b → b ≤ 57 → test b ≡ false) → (digits : List ℕ) → AreDigits digits → list_any test digits ≡ false
no-digit test h [] d = refl
no-digit test h (b ∷ digits) d = or_from (test b) (list_any test digits) (h b d.0.0 d.0.1) (no-digit test h digits d.1)

-- a byte that can be printed
abbrev pub is_printed : ℕ → Bool
is_printed b = nat_le 32 b && nat_lt b 127

printed-digit : (b : ℕ) → 48 ≤ b → b ≤ 57 → is_printed b ≡ true
printed-digit b low high = grind (arith, nat_tests)

-- digits are printed bytes
pub digits-printed : (digits : List ℕ) → AreDigits digits → list_all is_printed digits ≡ true
digits-printed digits d = each-digit is_printed printed-digit digits d

-- a text of two texts of printed bytes is one
pub printed-append : (xs ys : List ℕ) → list_all is_printed xs ≡ true → list_all is_printed ys ≡ true → list_all is_printed (xs ++ ys) ≡ true
printed-append xs ys h k = list_all-append is_printed xs ys ∙ and_from (list_all is_printed xs) (list_all is_printed ys) h k

-- a byte below the blank stands in no such text
not-below : (x b : ℕ) → x < 32 → is_printed b ≡ true → (b == x) ≡ false
not-below x b low h = grind (arith, nat_tests)

-- a printed text has no control byte
pub printed-lacks : (x : ℕ) → x < 32 → (text : List ℕ) → list_all is_printed text ≡ true → list_any (λ b. b == x) text ≡ false
printed-lacks x low [] h = refl
printed-lacks x low (b ∷ text) h =
    let parts = and_parts (is_printed b) (list_all is_printed text) h in
    or_from (b == x) (list_any (λ c. c == x) text) (not-below x b low parts.0) (printed-lacks x low text parts.1)

-- such a text is ASCII
below-ascii : (b : ℕ) → is_printed b ≡ true → b < 128
below-ascii b h = grind (arith, nat_tests)

all-ascii : (text : List ℕ) → list_all is_printed text ≡ true → All (λ b. b < 128) text
all-ascii [] h = All-nil (λ b. b < 128)
all-ascii (b ∷ text) h =
    let parts = and_parts (is_printed b) (list_all is_printed text) h in
    All-cons (λ c. c < 128) b text (below-ascii b parts.0) (all-ascii text parts.1)

-- a printed text is UTF-8
pub printed-utf8 : (text : List ℕ) → list_all is_printed text ≡ true → is_utf8 text ≡ true
printed-utf8 text h = is_utf8-from_IsUtf8 text (IsUtf8-from_ascii text (IsAscii-from_all text (all-ascii text h)))
