use Rattle.std.proofs.Common.{◌≤◌, [], ◌∷◌, arith, rules}
use Rattle.std.proofs.lemmas.List.Elements.{All-nil, All-cons, All-head, All-tail}
use Rattle.std.specs.Prelude.{All}
use Rattle.pgn_examples.proofs.walks.refused_enlists.Goals as goal

pub returns-clause-twice : goal.returns-clause-twice
returns-clause-twice c = λ h. h.lawful.1.1.0.expected

pub returns-clause-again : goal.returns-clause-again
returns-clause-again c = λ h. h.lawful.1.1.1.1.0.expected

pub returns-clause-unasked : goal.returns-clause-unasked
returns-clause-unasked c = λ h. h.lawful.1.0.expected

pub returns-clause-base_too_low : goal.returns-clause-base_too_low
returns-clause-base_too_low c = λ h. let e = h.lawful.1.0.from_first in absurd (omega (arith, e))

pub returns-clause-base_past_point : goal.returns-clause-base_past_point
returns-clause-base_past_point c = λ h. let e = h.lawful.1.0.ordered in absurd (omega (arith, e))

pub returns-clause-below_told : goal.returns-clause-below_told
returns-clause-below_told c = λ h. let e = h.lawful.1.1.1.1.0.after_told in absurd (omega (arith, e))

pub returns-clause-past_journal : goal.returns-clause-past_journal
returns-clause-past_journal c = λ h. let e = h.lawful.1.0.in_journal in absurd (omega (arith, e))

pub returns-clause-below_a_mark : goal.returns-clause-below_a_mark
returns-clause-below_a_mark c = λ h. let e = All-head (λ mark. mark ≤ 4) 5 [] (All-tail (λ mark. mark ≤ 4) 3 (5 ∷ []) h.after_marks) in absurd (omega (arith, e))

pub returns-clause-at_a_mark : goal.returns-clause-at_a_mark
returns-clause-at_a_mark c =
    let marks : All (λ mark. mark ≤ 5) (3 ∷ 5 ∷ []) = All-cons (λ mark. mark ≤ 5) 3 (5 ∷ []) (omega arith) (All-cons (λ mark. mark ≤ 5) 5 [] (omega arith) (All-nil (λ mark. mark ≤ 5))) in
    search rules
