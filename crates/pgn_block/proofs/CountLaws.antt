-- How many savepoints have a name, past the first few of a list.
use Rattle.std.proofs.Common.{◌≡◌, ℕ, suc, ◌+◌, ◌-◌, ◌<◌, ◌≤◌, Bool, true, false, cond, inl, inr, List, [], ◌∷◌, ◌++◌, Option, Some, None, bytes_eq, length, take, drop, get_or, All, IfSome, IfNone, refl, sym, ap, subst, ◌∙◌, arith, length-take, length-drop, length-append}
use Rattle.std.specs.Cmp.Lexicographic.{nat_list_eq_equiv}
use Rattle.std.proofs.lemmas.Bool.{cases_lt}
use Rattle.std.proofs.lemmas.List.{drop-append-le, drop_all, take-append-drop, get_or-take, get_or-drop}
use Rattle.std.proofs.lemmas.List.Elements.{All-nil, All-cons, All-append, All-get_or}
use Rattle.pgn_block.specs.declared.savepoint.Savepoint.{Savepoint}
use Rattle.pgn_block.specs.Kept.{is_named}
use Rattle.pgn_block.specs.Counts.{how_many, count_of, AreCounted, CountsLess, CountsAt}

-- one more savepoint at the end
how_many-push : (name : List ℕ) (savepoints : List Savepoint) (last : Savepoint) → how_many name (savepoints ++ last ∷ []) ≡ how_many name savepoints + cond (bytes_eq last.name name) 1 0
how_many-push name [] last =
    let swapped : bytes_eq name last.name ≡ bytes_eq last.name name = nat_list_eq_equiv.symm name last.name in
    ap (λ (b : Bool). cond b 1 0 + 0) swapped ∙ (omega arith)
how_many-push name (first ∷ savepoints) last =
    let rest : how_many name (savepoints ++ last ∷ []) ≡ how_many name savepoints + cond (bytes_eq last.name name) 1 0 = how_many-push name savepoints last in
    ap (λ (n : ℕ). cond (is_named name first) 1 0 + n) rest ∙ (omega arith)

-- no more than all have a name
pub how_many-le : (name : List ℕ) (savepoints : List Savepoint) → how_many name savepoints ≤ length savepoints
how_many-le name [] = omega arith
how_many-le name (first ∷ savepoints) =
    let rest : how_many name savepoints ≤ length savepoints = how_many-le name savepoints in
    elim (is_named name first) as (λ b. cond b 1 0 + how_many name savepoints ≤ suc (length savepoints)) [ true ↦ omega (arith, rest) | false ↦ omega (arith, rest) ]

-- where none is counted, none has the name
pub unnamed : (name : List ℕ) (savepoints : List Savepoint) → how_many name savepoints ≡ 0 → All (λ (savepoint : Savepoint). is_named name savepoint ≡ false) savepoints
unnamed name [] none = All-nil (λ (savepoint : Savepoint). is_named name savepoint ≡ false)
unnamed name (first ∷ savepoints) none =
    by (is_named name first) refl none (λ rest. unnamed name savepoints rest)
  where
    by : (b : Bool) → is_named name first ≡ b → cond b 1 0 + how_many name savepoints ≡ 0
        → (how_many name savepoints ≡ 0 → All (λ (savepoint : Savepoint). is_named name savepoint ≡ false) savepoints)
        → All (λ (savepoint : Savepoint). is_named name savepoint ≡ false) (first ∷ savepoints)
    by true e none rest = absurd (omega (arith, none))
    by false e none rest = All-cons (λ (savepoint : Savepoint). is_named name savepoint ≡ false) first savepoints e (rest (omega (arith, none)))

-- the counts after the last savepoint has gone, which was past the first few
pub counted-less : (few : ℕ) (old new : List Savepoint) (last : Savepoint) (before after : List (List ℕ × ℕ)) → old ≡ new ++ last ∷ [] → few ≤ length new
    → AreCounted few old before → CountsLess last.name before after → AreCounted few new after
counted-less few old new last before after is past counted less name =
    let parts : drop few old ≡ drop few new ++ last ∷ [] = ap (drop few) is ∙ drop-append-le few new (last ∷ []) past in
    let one : ℕ = cond (bytes_eq last.name name) 1 0 in
    let whole : count_of before name ≡ how_many name (drop few new) + one = counted name ∙ ap (how_many name) parts ∙ how_many-push name (drop few new) last in
    let left : count_of after name ≡ count_of before name - one = less name in
    left ∙ ap (λ (n : ℕ). n - one) whole ∙ (omega arith)

-- and where it was one of the first few
pub counted-few : (few : ℕ) (old new : List Savepoint) (last : Savepoint) (counts : List (List ℕ × ℕ)) → old ≡ new ++ last ∷ [] → length new < few
    → AreCounted few old counts → AreCounted few new counts
counted-few few old new last counts is short counted name =
    let grown : length old ≡ length new + 1 = ap length is ∙ length-append new (last ∷ []) in
    let none : drop few old ≡ drop few new = drop_all few old (omega (arith, grown, short)) ∙ sym (drop_all few new (omega (arith, short))) in
    counted name ∙ ap (how_many name) none

-- the counts after one more savepoint
pub counted-more : (few : ℕ) (old : List Savepoint) (one : Savepoint) (before after : List (List ℕ × ℕ)) → AreCounted few old before → CountsAt few (length old) one.name before after
    → AreCounted few (old ++ one ∷ []) after
counted-more few old one before after counted at name =
    elim (cases_lt (length old) few) [
      | inl short ↦
          let grown : length (old ++ one ∷ []) ≡ length old + 1 = length-append old (one ∷ []) in
          let none : drop few old ≡ drop few (old ++ one ∷ []) = drop_all few old (omega (arith, short)) ∙ sym (drop_all few (old ++ one ∷ []) (omega (arith, grown, short))) in
          ap (λ (counts : List (List ℕ × ℕ)). count_of counts name) (at.among_few short) ∙ counted name ∙ ap (how_many name) none
      | inr past ↦
          at.past_few past name ∙ ap (λ (n : ℕ). n + cond (bytes_eq one.name name) 1 0) (counted name)
          ∙ sym (ap (how_many name) (drop-append-le few old (one ∷ []) past) ∙ how_many-push name (drop few old) one)
    ]

-- where the first few have no savepoint of a name, and the later ones have none, no one has it
pub none-among : (name : List ℕ) (n : ℕ) (all : List Savepoint) (r : Option ℕ) → All (λ (savepoint : Savepoint). is_named name savepoint ≡ false) (drop n all)
    → IfNone r (All (λ (savepoint : Savepoint). is_named name savepoint ≡ false) (take n all)) → IfNone r (All (λ (savepoint : Savepoint). is_named name savepoint ≡ false) all)
none-among name n all (Some at) later here = tt
none-among name n all None later here =
    subst (λ (l : List Savepoint). All (λ (savepoint : Savepoint). is_named name savepoint ≡ false) l) (take-append-drop n all)
    (All-append (λ (savepoint : Savepoint). is_named name savepoint ≡ false) (take n all) (drop n all) here later)

-- one of the first few is one of all
pub within-all : (n : ℕ) (all : List Savepoint) (r : Option ℕ) → IfSome r (λ at. at < length (take n all)) → IfSome r (λ at. at < length all)
within-all n all None within = tt
within-all n all (Some at) within = let short : length (take n all) ≤ length all = omega (arith, length-take n all) in omega (arith, within, short)

-- and its place is a small number
pub next-all : (n most : ℕ) (all : List Savepoint) (r : Option ℕ) → n ≤ most → IfSome r (λ at. at < length (take n all)) → IfSome r (λ at. at < most)
next-all n most all None small within = tt
next-all n most all (Some at) small within = omega (arith, length-take n all, small, within)

-- it has its name
pub named-all : (name : List ℕ) (n : ℕ) (all : List Savepoint) (r : Option ℕ) → IfSome r (λ at. at < length (take n all))
    → IfSome r (λ at. (other : Savepoint) → is_named name (get_or (take n all) at other) ≡ true) → IfSome r (λ at. (other : Savepoint) → is_named name (get_or all at other) ≡ true)
named-all name n all None within named = tt
named-all name n all (Some at) within named = λ other. ap (is_named name) (sym (get_or-take n all at other (omega (arith, within, length-take n all)))) ∙ named other

-- and where it is the newest of the first few, and the later ones have not its name, it is the newest of all
pub newest-all : (name : List ℕ) (n : ℕ) (all : List Savepoint) (r : Option ℕ) → All (λ (savepoint : Savepoint). is_named name savepoint ≡ false) (drop n all)
    → IfSome r (λ at. (k : ℕ) (other : Savepoint) → at < k → k < length (take n all) → is_named name (get_or (take n all) k other) ≡ false)
    → IfSome r (λ at. (k : ℕ) (other : Savepoint) → at < k → k < length all → is_named name (get_or all k other) ≡ false)
newest-all name n all None later newest = tt
newest-all name n all (Some at) later newest = λ k other after inside.
    elim (cases_lt k n) [
      | inl short ↦ ap (is_named name) (sym (get_or-take n all k other short)) ∙ newest k other after (omega (arith, length-take n all, short, inside))
      | inr past ↦
          let place : n + (k - n) ≡ k = omega arith in
          ap (λ (i : ℕ). is_named name (get_or all i other)) (sym place) ∙ ap (is_named name) (sym (get_or-drop n all (k - n) other))
          ∙ All-get_or (λ (savepoint : Savepoint). is_named name savepoint ≡ false) (drop n all) (k - n) other (omega (arith, length-drop n all, past, inside)) later
    ]
