-- The rule refuses the small cases.
use Rattle.std.proofs.Common.{◌≡◌, ⊎_elim, ℕ, zero, suc, ◌^◌, true, false, List, [], ◌∷◌, ◌++◌, length, get_or, Some, sym, refl, ap, subst, arith, length-append, codes}
use Rattle.std.specs.Int.{bit_at}
use Rattle.std.proofs.lemmas.List.Elements.{All-head}
use Rattle.pgn_base.specs.Interest.{channel_bit}
use mathlib.Core.Option.{some-injective, some-ne-none}
use Rattle.pgn_base.specs.declared.format.Format.TheVariants.{One}
use Rattle.pgn_part_examples.specs.Hub.{two_seats, tx_3, published}
use Rattle.pgn_words.specs.Views.{no_eye}
use Rattle.pgn_words.specs.Rule.{Keeps, Locks, Draws, KnowsAll}
use Rattle.pgn_words.specs.ListenRule.{IsPlaced, ShowsPosition, Marks, Spared, IsSecond}
use Rattle.pgn_words.specs.WakeRule.{IsHeard, Signals, Covered, Deems, IsMost, IsTold, IsLast, IsTaken}
use Rattle.pgn_words.specs.Each.{Someone}
use Rattle.pgn_part_examples.specs.Words.{listener, listens_on_c, holder}
use Rattle.pgn_words.specs.declared.view.Phase.TheVariants.{Signalling}

pub no_other_cell : Keeps 2048 0 (Some 44 ∷ []) (45 ∷ []) → ⊥
no_other_cell h = let same = h 0 44 (omega arith) refl in omega (arith, same)

pub no_other_holder : Locks 1 0 0 holder → ⊥
no_other_holder h = let locked = h refl in let number = locked.1 in omega (arith, number)

pub not_drawn_twice : Draws 3 4 0 holder → ⊥
not_drawn_twice h = let xid = h refl in omega (arith, xid)

pub not_too_late : IsPlaced One [] 3 0 4 0 → ⊥
not_too_late h = let most = h.most in omega (arith, most)

pub no_page_gone : IsPlaced One [] 3 1 3 0 → ⊥
no_page_gone h = let kept = h.kept in omega (arith, kept)

pub not_hidden : ShowsPosition (0 ∷ []) 0 listener → ⊥
not_hidden h = let word = h 0 refl in omega (arith, word)

pub not_without_mark : Marks 0 listener → ⊥
not_without_mark h = absurd (cc)

pub not_before_target : Spared 1 2048 0 listener → ⊥
not_before_target h = let up = h refl (omega arith) in omega (arith, up)

pub no_other_target : IsSecond 0 2048 12884901888 no_eye → ⊥
no_other_target h = let begins = h.begins refl in omega (arith, begins)

pub not_heard_too_early : IsHeard 4 (λ i. true) 4 → ⊥
not_heard_too_early h = let low = h.decided 0 refl in omega (arith, low)

pub not_undecided : Signals (λ i. true) 0 holder → ⊥
not_undecided h = let waits = h refl 0 in absurd (cc)

pub not_uncovered : Covered (2 ^ 36 ∷ []) 0 listens_on_c → ⊥
not_uncovered h = let bit : bit_at (2 ^ 36) 35 ≡ 1 = All-head (λ (channel : List ℕ). bit_at (2 ^ 36) (channel_bit channel) ≡ 1) (codes "c") [] (h refl 0 refl) in absurd (cc)

pub not_deemed : Deems Signalling (λ i. true) (true ∷ false ∷ []) → ⊥
not_deemed h = let may = h 1 in absurd (cc)

pub no_greater : IsMost (3 ∷ []) (0, 4) → ⊥
no_greater h = let low = h.1 in omega (arith, low)

pub no_earlier_mark : IsLast (3 ∷ 4 ∷ []) 3 → ⊥
no_earlier_mark ([], is) = let long : 2 ≡ 1 = ap length is in omega (arith, long)
no_earlier_mark (x ∷ [], is) = let last : 4 ≡ 3 = ap (λ (l : List ℕ). get_or l 1 0) is in omega (arith, last)
no_earlier_mark (x ∷ y ∷ before, is) =
    let long : 2 ≡ length (x ∷ y ∷ (before ++ 3 ∷ [])) = ap length is in
    let more = length-append before (3 ∷ []) in omega (arith, long, more)

pub nobody_knows : Someone (KnowsAll (tx_3 ∷ [])) (listener ∷ []) → ⊥
nobody_knows (zero, v, there, positive, knows) =
    let all : KnowsAll (tx_3 ∷ []) listener = subst (KnowsAll (tx_3 ∷ [])) (sym (some-injective listener v there)) knows in
    ⊎_elim (λ seen. let long : 0 ≡ 1 = ap length seen in omega (arith, long)) (λ gone. let within = gone.2 in omega (arith, within)) all
nobody_knows (suc j, v, there, positive, knows) = absurd (some-ne-none v (sym there))

pub not_taken_too_early : IsTaken two_seats 2 3 (λ n. 0) (tx_3 ∷ []) 0 1 published → ⊥
not_taken_too_early h = let low = h.told in omega (arith, low)

pub not_told_too_much : IsTold 3 4 3 → ⊥
not_told_too_much h = let low = h.finished in omega (arith, low)

pub not_signalled_untold : IsTold 4 3 4 → ⊥
not_signalled_untold h = let low = h.below in omega (arith, low)

-- what no writer may do
pub ruleset refused_writers = (no_other_cell, no_other_holder, not_drawn_twice)

-- what no listener may do, and no look may find
pub ruleset refused_listeners = (not_too_late, no_page_gone, not_hidden, not_without_mark, not_before_target, no_other_target)

-- what may not be told of wakes, interests and flags
pub ruleset refused_wakes = (not_heard_too_early, not_undecided, not_uncovered, not_deemed, no_earlier_mark, nobody_knows, not_taken_too_early, not_told_too_much, not_signalled_untold, no_greater)
