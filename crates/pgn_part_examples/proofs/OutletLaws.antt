-- Two sessions that have pushed a number each.
use Rattle.std.proofs.Common.{◌≡◌, ℕ, zero, suc, ◌==◌, true, false, true≢false, cond, List, [], ◌∷◌, ◌++◌, sym, refl, ap, subst, arith}
use mathlib.Core.Option.{some-injective, some-ne-none}
use Rattle.pgn_outlet.specs.declared.came.Came.{Came}
use Rattle.pgn_outlet.specs.declared.hand.Hand.{Hand}
use Rattle.pgn_outlet.specs.Cames.{what_of}
use Rattle.pgn_outlet.specs.Rule.{Fits, Each, Comes, hand}
use Rattle.pgn_part_examples.specs.Outlet.{number_of}
use Rattle.pgn_outlet.proofs.CameLaws.{none_of_other}

abbrev owner : ℕ → ℕ
owner n = cond (n == 2) 1 0

abbrev all : List (Came ℕ)
all = number_of 1 3 ∷ number_of 2 5 ∷ []

abbrev first : Hand ℕ
first = hand 1 1 (number_of 1 3 ∷ []) false []

abbrev second : Hand ℕ
second = hand 2 1 (number_of 2 5 ∷ []) false []

abbrev third : Hand ℕ
third = hand 1 0 [] true (number_of 1 3 ∷ [])

abbrev Holds : ℕ → Hand ℕ → Type 0
Holds port v = Fits owner 2 (number_of 1 3 ∷ []) all port v

first_fits : Holds 0 first
first_fits = record {
  owns = λ n mine. let low = mine.0 in let high = mine.1 in let e : 1 ≡ n = omega (arith, low, high) in subst (λ (m : ℕ). (owner m ≡ 0) × (what_of m all ≡ what_of m first.sent)) e (refl, refl);
  others = λ n out. ap (λ (l : List ℕ). l ++ []) (none_of_other n (number_of 1 3) (λ e. out (omega (arith, e), omega (arith, e))));
  has = λ takes. absurd (true≢false (sym takes));
}

second_fits : Holds 1 second
second_fits = record {
  owns = λ n mine. let low = mine.0 in let high = mine.1 in let e : 2 ≡ n = omega (arith, low, high) in subst (λ (m : ℕ). (owner m ≡ 1) × (what_of m all ≡ what_of m second.sent)) e (refl, refl);
  others = λ n out. ap (λ (l : List ℕ). l ++ []) (none_of_other n (number_of 2 5) (λ e. out (omega (arith, e), omega (arith, e))));
  has = λ takes. absurd (true≢false (sym takes));
}

third_fits : Holds 2 third
third_fits = record {
  owns = λ n mine. let low = mine.0 in let high = mine.1 in absurd (omega (arith, low, high));
  others = λ n out. refl;
  has = λ takes. (refl, refl);
}

each_fits : Each Holds (first ∷ second ∷ third ∷ [])
each_fits zero v e = subst (λ (x : Hand ℕ). Holds 0 x) (some-injective first v e) first_fits
each_fits (suc zero) v e = subst (λ (x : Hand ℕ). Holds 1 x) (some-injective second v e) second_fits
each_fits (suc (suc zero)) v e = subst (λ (x : Hand ℕ). Holds 2 x) (some-injective third v e) third_fits
each_fits (suc (suc (suc j))) v e = absurd (some-ne-none v (sym e))

-- the queue in which the 5 of session 2 waits is one that these three hands have made
pub two_numbers : Comes (number_of 2 5 ∷ []) (first ∷ second ∷ third ∷ [])
two_numbers = record { owner = owner; taker = 2; taken = number_of 1 3 ∷ []; fits = each_fits }
