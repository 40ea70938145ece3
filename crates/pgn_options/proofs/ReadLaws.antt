-- The number that is read of a word.
use Rattle.std.proofs.Common.{◌≡◌, ◌∙◌, ℕ, ◌<◌, ◌≤◌, ◌^◌, ◌&&◌, Bool, true, false, cond, List, Option, Some, None, Result, Ok, Err, is_some, refl, ap, subst, arith}
use Rattle.std.specs.Prelude.{nat_le}
use Rattle.std.specs.Str.Parse.{ParsesUnsigned, digits_value, without_leading_plus}
use Rattle.std.proofs.lemmas.Bool.{leb-true}
use Rattle.clap.specs.Matches.{ReadsOne, one_text}
use Rattle.clap.specs.Walk.{rows_of}
use Rattle.clap.specs.declared.builder.value_parser.ValueParser.TheVariants.{Unsigned}
use Rattle.clap.specs.declared.parser.matches.Found.{Found}
use Rattle.clap.proofs.ValueTestLemmas.{accepts-Accepts}
use Rattle.clap.proofs.WalkLemmas.{one_text-rows}
use Rattle.pgn_options.specs.Parse.{IsFoundAs}
use Rattle.pgn_options.specs.Words.{are_digits, number_in}
use Rattle.pgn_options.proofs.NumberLaws.{accepted}

-- a number is the one that its digits write, and in its range
pub number-is : (least most : ℕ) (word : List ℕ) (n : ℕ) → number_in least most word ≡ Some n → (digits_value 10 (without_leading_plus word) ≡ n) × (n ≤ most) × (least ≤ n)
number-is least most word n e =
    go (are_digits (without_leading_plus word)) (nat_le least (digits_value 10 (without_leading_plus word))) (nat_le (digits_value 10 (without_leading_plus word)) most) refl refl e
  where
    go : (a b c : Bool) → nat_le least (digits_value 10 (without_leading_plus word)) ≡ b → nat_le (digits_value 10 (without_leading_plus word)) most ≡ c
        → cond (a && (b && c)) (Some (digits_value 10 (without_leading_plus word))) None ≡ Some n → (digits_value 10 (without_leading_plus word) ≡ n) × (n ≤ most) × (least ≤ n)
    go true true true above within is =
        let same : digits_value 10 (without_leading_plus word) ≡ n = cc in
        (same, subst (λ (x : ℕ). x ≤ most) same (leb-true _ _ within), subst (λ (x : ℕ). least ≤ x) same (leb-true _ _ above))
    go true true false above within is = absurd (cc)
    go true false c above within is = absurd (cc)
    go false b c above within is = absurd (cc)

reads : (k top : ℕ) → top < 2 ^ k → top ≤ 18446744073709551615 → (E : Type 0) (G : List ℕ → Result ℕ E → Type 0) (least most : ℕ) (word : List ℕ) (n : ℕ) (r : Option ℕ) → most ≤ top
    → number_in least most word ≡ Some n → ReadsOne G word r → ((u : List ℕ) (x : Result ℕ E) → G u x → ParsesUnsigned k 10 u x) → r ≡ Some n
reads k top wide short E G least most word n (Some v) fits is read only = ap Some ((only word (Ok v) read).1 ∙ (number-is least most word n is).0)
reads k top wide short E G least most word n None fits is read only =
    let passes = accepts-Accepts false (Unsigned least most) word (accepted least most word (omega arith) ∙ ap is_some is) in
    let few : digits_value 10 (without_leading_plus word) ≤ most = passes.3 in
    absurd (only word (Err read.0) read.1 (passes.0, omega arith))

-- an option's number that was read at a type of k bits from what was found is the one that stands there
pub found-reads : (k top : ℕ) → top < 2 ^ k → top ≤ 18446744073709551615 → (E : Type 0) (G : List ℕ → Result ℕ E → Type 0) (found : Found) (id : List ℕ) (r : Option ℕ)
    → (one_text found id ≡ None → r ≡ None) → ((t : List ℕ) → one_text found id ≡ Some t → ReadsOne G t r)
    → ((u : List ℕ) (x : Result ℕ E) → G u x → ParsesUnsigned k 10 u x)
    → (least most : ℕ) (number : Option ℕ) → most ≤ top → IsFoundAs least most id (rows_of found) number → r ≡ number
found-reads k top wide short E G found id r when_none when_some only least most None fits h = when_none (one_text-rows found id ∙ h)
found-reads k top wide short E G found id r when_none when_some only least most (Some n) fits h =
    reads k top wide short E G least most h.0 n r fits h.2 (when_some h.0 (one_text-rows found id ∙ h.1)) only
