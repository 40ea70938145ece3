-- Which channels a set has after one more, after one less, and after actions, and where they stand.
use Rattle.std.proofs.Common.{◌≡◌, ℕ, zero, suc, ◌+◌, ◌<◌, ◌≤◌, Bool, true, false, cond, not, is_some, ◌||◌, List, [], ◌∷◌, ◌++◌, Option, Some, None, bytes_eq, filter, length, take, drop, set, refl, sym, ap, subst, ◌∙◌, arith, append-nil, length-append}
use Rattle.std.specs.Cmp.Lexicographic.{nat_list_eq_equiv}
use Rattle.std.specs.List.{list_any}
use Rattle.std.proofs.lemmas.Bool.{true≢false}
use Rattle.std.proofs.lemmas.Slice.Eq.{bytes_eq-Decides}
use Rattle.std.proofs.lemmas.List.{take-append-drop, length-set}
use Rattle.std.proofs.lemmas.List.Folds.{list_any-append}
use Rattle.std.proofs.lemmas.Option.{same_Some}
use Rattle.pgn_base.specs.Names.{has_name}
use Rattle.pgn_base.specs.Channels.{applied, after_action}
use Rattle.pgn_listening.specs.Listening.{listed, holds, place_from, AreOnce, AreThere, IsIndexed}
use Rattle.std.specs.Map.{lookup}
use Rattle.pgn_base.specs.declared.action.Action.{Action}

-- two texts are compared in either order
swapped : (a b : List ℕ) → bytes_eq a b ≡ bytes_eq b a
swapped a b = nat_list_eq_equiv.symm a b

-- where the second of two equal texts differs from a third, so does the first
differs : (a b other : List ℕ) → bytes_eq a b ≡ true → bytes_eq other b ≡ false → bytes_eq other a ≡ false
differs a b other same apart = swapped other a ∙ nat_list_eq_equiv.congr a b other same ∙ swapped b other ∙ apart

-- neither is among two where it is not among both
pub first-false : (a b : Bool) → a || b ≡ false → a ≡ false
first-false true b e = absurd (true≢false e)
first-false false b e = refl

pub second-false : (a b : Bool) → a || b ≡ false → b ≡ false
second-false true b e = absurd (true≢false e)
second-false false b e = e

-- a channel is among those of a list and one more
pub has-one-more : (name channel : List ℕ) (names : List (List ℕ)) → cond (bytes_eq name channel) true (has_name names channel) ≡ has_name (names ++ name ∷ []) channel
has-one-more name channel [] =
    (elim (bytes_eq name channel) as (λ b. cond b true false ≡ b || false) [ true ↦ refl | false ↦ refl ]) ∙ ap (λ (b : Bool). b || false) (swapped name channel)
has-one-more name channel (x ∷ xs) =
    (elim (bytes_eq channel x) as (λ a. cond (bytes_eq name channel) true (a || has_name xs channel) ≡ a || cond (bytes_eq name channel) true (has_name xs channel)) [
      | true ↦ elim (bytes_eq name channel) as (λ b. cond b true true ≡ true) [ true ↦ refl | false ↦ refl ]
      | false ↦ refl
    ])
    ∙ ap (λ (b : Bool). bytes_eq channel x || b) (has-one-more name channel xs)

-- where a channel is not among those of a list, the list without it is the same
pub none-less : (name : List ℕ) (names : List (List ℕ)) → has_name names name ≡ false → filter (λ other. not (bytes_eq name other)) names ≡ names
none-less name [] absent = refl
none-less name (x ∷ xs) absent =
    let rest : has_name xs name ≡ false = second-false (bytes_eq name x) (has_name xs name) absent in
    let kept : not (bytes_eq name x) ≡ true = ap not (first-false (bytes_eq name x) (has_name xs name) absent) in
    ap (λ (b : Bool). cond b (x ∷ filter (λ other. not (bytes_eq name other)) xs) (filter (λ other. not (bytes_eq name other)) xs)) kept
    ∙ ap (λ (names : List (List ℕ)). x ∷ names) (none-less name xs rest)

-- a text is not among texts where an equal one is not
pub absent-like : (name other : List ℕ) (names : List (List ℕ)) → bytes_eq name other ≡ true → has_name names other ≡ false → has_name names name ≡ false
absent-like name other names same absent = ap (has_name names) ((bytes_eq-Decides name other).0 same) ∙ absent

-- a set after actions and one more
pub applied-push : (set : List (List ℕ)) (actions : List Action) (action : Action) → applied set (actions ++ action ∷ []) ≡ after_action (applied set actions) action
applied-push set [] action = refl
applied-push set (first ∷ actions) action = applied-push (after_action set first) actions action

-- there are no more channels than places
pub listed-le : (places : List (Option (List ℕ))) → length (listed places) ≤ length places
listed-le [] = omega arith
listed-le (None ∷ places) = let rest : length (listed places) ≤ length places = listed-le places in omega (arith, rest)
listed-le (Some channel ∷ places) = let rest : length (listed places) ≤ length places = listed-le places in omega (arith, rest)

-- the channels of places and more places
pub listed-append : (places more : List (Option (List ℕ))) → listed (places ++ more) ≡ listed places ++ listed more
listed-append [] more = refl
listed-append (None ∷ places) more = listed-append places more
listed-append (Some channel ∷ places) more = ap (λ (names : List (List ℕ)). channel ∷ names) (listed-append places more)

-- without the empty places
pub listed-closed : (places : List (Option (List ℕ))) → listed (filter is_some places) ≡ listed places
listed-closed [] = refl
listed-closed (None ∷ places) = listed-closed places
listed-closed (Some channel ∷ places) = ap (λ (names : List (List ℕ)). channel ∷ names) (listed-closed places)

-- and then there are as many places as channels
pub length-closed : (places : List (Option (List ℕ))) → length (filter is_some places) ≡ length (listed places)
length-closed [] = refl
length-closed (None ∷ places) = length-closed places
length-closed (Some channel ∷ places) = ap suc (length-closed places)

-- some place holds a channel where it is listed
pub any-listed : (channel : List ℕ) (places : List (Option (List ℕ))) → list_any (holds channel) places ≡ has_name (listed places) channel
any-listed channel [] = refl
any-listed channel (None ∷ places) = any-listed channel places
any-listed channel (Some other ∷ places) = ap (λ (b : Bool). bytes_eq channel other || b) (any-listed channel places)

-- and then it has a place
pub is_some-place : (at : ℕ) (channel : List ℕ) (places : List (Option (List ℕ))) → is_some (place_from at channel places) ≡ has_name (listed places) channel
is_some-place at channel [] = refl
is_some-place at channel (None ∷ places) = is_some-place (at + 1) channel places
is_some-place at channel (Some other ∷ places) =
    elim (bytes_eq channel other) as (λ b. is_some (cond b (Some at) (place_from (at + 1) channel places)) ≡ b || has_name (listed places) channel) [
      | true ↦ refl
      | false ↦ is_some-place (at + 1) channel places
    ]

-- nothing is there
from-none : {A : Type 0} (o : Option A) → is_some o ≡ false → o ≡ None
from-none None e = refl
from-none (Some a) e = absurd (true≢false e)

-- a channel that is not listed has no place
pub none-place : (at : ℕ) (channel : List ℕ) (places : List (Option (List ℕ))) → has_name (listed places) channel ≡ false → place_from at channel places ≡ None
none-place at channel places absent = from-none (place_from at channel places) (is_some-place at channel places ∙ absent)

-- a place is one of those that are counted
pub place-within : (at place : ℕ) (channel : List ℕ) (places : List (Option (List ℕ))) → place_from at channel places ≡ Some place → (at ≤ place) × (place < at + length places)
place-within at place channel [] e = absurd (let no : ⊥ = cc in no)
place-within at place channel (first ∷ places) e =
    (elim (holds channel first) as (λ b. cond b (Some at) (place_from (at + 1) channel places) ≡ Some place → (at ≤ place) × (place < at + suc (length places))) [
      | true ↦ λ here. let same : at ≡ place = same_Some at place here in (omega arith, omega arith)
      | false ↦ λ later. let rest : (at + 1 ≤ place) × (place < at + 1 + length places) = place-within (at + 1) place channel places later in (omega (arith, rest.0), omega (arith, rest.1))
    ]) e

-- a channel that is put at the end has the last place, and the others keep theirs
pub place-push : (at : ℕ) (name channel : List ℕ) (places : List (Option (List ℕ))) → has_name (listed places) name ≡ false
    → cond (bytes_eq name channel) (Some (at + length places)) (place_from at channel places) ≡ place_from at channel (places ++ Some name ∷ [])
place-push at name channel [] absent =
    let here : at + 0 ≡ at = omega arith in
    ap (λ (k : ℕ). cond (bytes_eq name channel) (Some k) None) here ∙ ap (λ (b : Bool). cond b (Some at) None) (swapped name channel)
place-push at name channel (None ∷ places) absent =
    let next : at + suc (length places) ≡ at + 1 + length places = omega arith in
    ap (λ (k : ℕ). cond (bytes_eq name channel) (Some k) (place_from (at + 1) channel places)) next ∙ place-push (at + 1) name channel places absent
place-push at name channel (Some other ∷ places) absent =
    let next : at + suc (length places) ≡ at + 1 + length places = omega arith in
    let apart : bytes_eq name other ≡ false = first-false (bytes_eq name other) (has_name (listed places) name) absent in
    let rest : has_name (listed places) name ≡ false = second-false (bytes_eq name other) (has_name (listed places) name) absent in
    by (bytes_eq channel other) refl next apart (place-push (at + 1) name channel places rest)
  where
    by : (same : Bool) → bytes_eq channel other ≡ same → at + suc (length places) ≡ at + 1 + length places → bytes_eq name other ≡ false
        → cond (bytes_eq name channel) (Some (at + 1 + length places)) (place_from (at + 1) channel places) ≡ place_from (at + 1) channel (places ++ Some name ∷ [])
        → cond (bytes_eq name channel) (Some (at + suc (length places))) (cond same (Some at) (place_from (at + 1) channel places)) ≡ cond same (Some at) (place_from (at + 1) channel (places ++ Some name ∷ []))
    by true e next apart later = ap (λ (b : Bool). cond b (Some (at + suc (length places))) (Some at)) (differs channel other name e apart)
    by false e next apart later = ap (λ (k : ℕ). cond (bytes_eq name channel) (Some k) (place_from (at + 1) channel places)) next ∙ later

-- an empty place at the end changes nothing
pub place-push_empty : (at : ℕ) (channel : List ℕ) (places : List (Option (List ℕ))) → place_from at channel places ≡ place_from at channel (places ++ None ∷ [])
place-push_empty at channel [] = refl
place-push_empty at channel (first ∷ places) = ap (λ (o : Option ℕ). cond (holds channel first) (Some at) o) (place-push_empty (at + 1) channel places)

-- places, of which the first that holds a name is emptied
abbrev pub emptied : List ℕ → List (Option (List ℕ)) → List (Option (List ℕ))
emptied name [] = []
emptied name (place ∷ places) = cond (holds name place) (None ∷ places) (place ∷ emptied name places)

-- it is emptied by its number
pub set-emptied : (at k : ℕ) (name : List ℕ) (places : List (Option (List ℕ))) → place_from at name places ≡ Some (at + k) → set places k None ≡ emptied name places
set-emptied at k name [] e = refl
set-emptied at zero name (place ∷ places) e =
    (elim (holds name place) as (λ b. cond b (Some at) (place_from (at + 1) name places) ≡ Some (at + 0) → None ∷ places ≡ cond b (None ∷ places) (place ∷ emptied name places)) [
      | true ↦ λ here. refl
      | false ↦ λ later. let rest : at + 1 ≤ at + 0 = (place-within (at + 1) (at + 0) name places later).0 in absurd (omega (arith, rest))
    ]) e
set-emptied at (suc k) name (place ∷ places) e =
    (elim (holds name place) as (λ b. cond b (Some at) (place_from (at + 1) name places) ≡ Some (at + suc k) → place ∷ set places k None ≡ cond b (None ∷ places) (place ∷ emptied name places)) [
      | true ↦ λ here. let same : at ≡ at + suc k = same_Some at (at + suc k) here in absurd (omega (arith, same))
      | false ↦ λ later. let next : at + suc k ≡ at + 1 + k = omega arith in
          ap (λ (l : List (Option (List ℕ))). place ∷ l) (set-emptied (at + 1) k name places (later ∙ ap (λ (n : ℕ). let o : Option ℕ = Some n in o) next))
    ]) e

-- its channel is then the one that is missing
pub listed-emptied : (name : List ℕ) (places : List (Option (List ℕ))) → AreOnce (listed places) → listed (emptied name places) ≡ filter (λ other. not (bytes_eq name other)) (listed places)
listed-emptied name [] once = refl
listed-emptied name (None ∷ places) once = listed-emptied name places once
listed-emptied name (Some other ∷ places) once =
    by (bytes_eq name other) refl (listed-emptied name places once.1)
  where
    by : (same : Bool) → bytes_eq name other ≡ same → listed (emptied name places) ≡ filter (λ x. not (bytes_eq name x)) (listed places)
        → listed (cond same (None ∷ places) (Some other ∷ emptied name places)) ≡ cond (not same) (other ∷ filter (λ x. not (bytes_eq name x)) (listed places)) (filter (λ x. not (bytes_eq name x)) (listed places))
    by true e later = sym (none-less name (listed places) (absent-like name other (listed places) e once.0))
    by false e later = ap (λ (names : List (List ℕ)). other ∷ names) later

-- it has no place then, and the others keep theirs
pub place-emptied : (at : ℕ) (name channel : List ℕ) (places : List (Option (List ℕ))) → AreOnce (listed places)
    → cond (bytes_eq name channel) None (place_from at channel places) ≡ place_from at channel (emptied name places)
place-emptied at name channel [] once = elim (bytes_eq name channel) as (λ b. let none : Option ℕ = None in cond b none none ≡ none) [ true ↦ refl | false ↦ refl ]
place-emptied at name channel (None ∷ places) once = place-emptied (at + 1) name channel places once
place-emptied at name channel (Some other ∷ places) once =
    by (bytes_eq name other) refl (λ taken. gone (bytes_eq name channel) refl taken) (λ apart. here (bytes_eq channel other) refl apart (place-emptied (at + 1) name channel places once.1))
  where
    gone : (same : Bool) → bytes_eq name channel ≡ same → bytes_eq name other ≡ true
        → cond same None (cond (bytes_eq channel other) (Some at) (place_from (at + 1) channel places)) ≡ place_from (at + 1) channel places
    gone true e taken =
        let alike : bytes_eq channel other ≡ true = sym (nat_list_eq_equiv.congr name channel other e) ∙ taken in
        sym (none-place (at + 1) channel places (absent-like channel other (listed places) alike once.0))
    gone false e taken =
        let apart : bytes_eq channel other ≡ false = swapped channel other ∙ sym (nat_list_eq_equiv.congr name other channel taken) ∙ e in
        ap (λ (b : Bool). cond b (Some at) (place_from (at + 1) channel places)) apart

    here : (same : Bool) → bytes_eq channel other ≡ same → bytes_eq name other ≡ false
        → cond (bytes_eq name channel) None (place_from (at + 1) channel places) ≡ place_from (at + 1) channel (emptied name places)
        → cond (bytes_eq name channel) None (cond same (Some at) (place_from (at + 1) channel places)) ≡ cond same (Some at) (place_from (at + 1) channel (emptied name places))
    here true e apart later = ap (λ (b : Bool). cond b None (Some at)) (differs channel other name e apart)
    here false e apart later = later

    by : (taken : Bool) → bytes_eq name other ≡ taken
        → (bytes_eq name other ≡ true → cond (bytes_eq name channel) None (cond (bytes_eq channel other) (Some at) (place_from (at + 1) channel places)) ≡ place_from (at + 1) channel places)
        → (bytes_eq name other ≡ false → cond (bytes_eq name channel) None (cond (bytes_eq channel other) (Some at) (place_from (at + 1) channel places)) ≡ cond (bytes_eq channel other) (Some at) (place_from (at + 1) channel (emptied name places)))
        → cond (bytes_eq name channel) None (cond (bytes_eq channel other) (Some at) (place_from (at + 1) channel places)) ≡ place_from at channel (cond taken (None ∷ places) (Some other ∷ emptied name places))
    by true e left kept = left e
    by false e left kept = kept e

-- and there is one channel less
pub length-emptied : (at place : ℕ) (name : List ℕ) (places : List (Option (List ℕ))) → place_from at name places ≡ Some place → length (listed (emptied name places)) + 1 ≡ length (listed places)
length-emptied at place name [] e = absurd (let no : ⊥ = cc in no)
length-emptied at place name (None ∷ places) e = length-emptied (at + 1) place name places e
length-emptied at place name (Some other ∷ places) e =
    (elim (bytes_eq name other) as (λ b. cond b (Some at) (place_from (at + 1) name places) ≡ Some place → length (listed (cond b (None ∷ places) (Some other ∷ emptied name places))) + 1 ≡ suc (length (listed places))) [
      | true ↦ λ here. omega arith
      | false ↦ λ later. let rest : length (listed (emptied name places)) + 1 ≡ length (listed places) = length-emptied (at + 1) place name places later in omega (arith, rest)
    ]) e

-- a channel that is not among names is not among some of them
has-fewer : (test : List ℕ → Bool) (channel : List ℕ) (names : List (List ℕ)) → has_name names channel ≡ false → has_name (filter test names) channel ≡ false
has-fewer test channel [] absent = refl
has-fewer test channel (x ∷ xs) absent =
    let apart : bytes_eq channel x ≡ false = first-false (bytes_eq channel x) (has_name xs channel) absent in
    let rest : has_name (filter test xs) channel ≡ false = has-fewer test channel xs (second-false (bytes_eq channel x) (has_name xs channel) absent) in
    elim (test x) as (λ b. has_name (cond b (x ∷ filter test xs) (filter test xs)) channel ≡ false) [
      | true ↦ ap (λ (b : Bool). b || has_name (filter test xs) channel) apart ∙ rest
      | false ↦ rest
    ]

-- some names of which none stands twice
pub once-fewer : (test : List ℕ → Bool) (names : List (List ℕ)) → AreOnce names → AreOnce (filter test names)
once-fewer test [] once = tt
once-fewer test (x ∷ xs) once =
    let rest : AreOnce (filter test xs) = once-fewer test xs once.1 in
    let apart : has_name (filter test xs) x ≡ false = has-fewer test x xs once.0 in
    elim (test x) as (λ b. AreOnce (cond b (x ∷ filter test xs) (filter test xs))) [
      | true ↦ (apart, rest)
      | false ↦ rest
    ]

-- and one more that is not among them
pub once-push : (names : List (List ℕ)) (name : List ℕ) → AreOnce names → has_name names name ≡ false → AreOnce (names ++ name ∷ [])
once-push [] name once absent = (refl, tt)
once-push (x ∷ xs) name once absent =
    let apart : bytes_eq name x ≡ false = first-false (bytes_eq name x) (has_name xs name) absent in
    let first : has_name (xs ++ name ∷ []) x ≡ false = sym (has-one-more name x xs) ∙ ap (λ (b : Bool). cond b true (has_name xs x)) apart ∙ once.0 in
    (first, once-push xs name once.1 (second-false (bytes_eq name x) (has_name xs name) absent))

-- a name in the middle
has-middle : (channel name : List ℕ) (before after : List (List ℕ)) → has_name (before ++ name ∷ after) channel ≡ false → bytes_eq channel name ≡ false
has-middle channel name [] after absent = first-false (bytes_eq channel name) (has_name after channel) absent
has-middle channel name (x ∷ xs) after absent = has-middle channel name xs after (second-false (bytes_eq channel x) (has_name (xs ++ name ∷ after) channel) absent)

-- it does not stand before
once-before : (name : List ℕ) (before after : List (List ℕ)) → AreOnce (before ++ name ∷ after) → has_name before name ≡ false
once-before name [] after once = refl
once-before name (x ∷ xs) after once =
    let apart : bytes_eq name x ≡ false = swapped name x ∙ has-middle x name xs after once.0 in
    ap (λ (b : Bool). b || has_name xs name) apart ∙ once-before name xs after once.1

-- nor twice among some in front
once-front : (before after : List (List ℕ)) → AreOnce (before ++ after) → AreOnce before
once-front [] after once = tt
once-front (x ∷ xs) after once = (absent-front x xs after once.0, once-front xs after once.1)
  where
    absent-front : (name : List ℕ) (before after : List (List ℕ)) → has_name (before ++ after) name ≡ false → has_name before name ≡ false
    absent-front name before after absent = first-false (has_name before name) (has_name after name) (sym (list_any-append (bytes_eq name) before after) ∙ absent)

-- the channels of the first places stand once
pub once-take : (n : ℕ) (places : List (Option (List ℕ))) → AreOnce (listed places) → AreOnce (listed (take n places))
once-take n places once =
    let parts : listed places ≡ listed (take n places) ++ listed (drop n places) = ap listed (sym (take-append-drop n places)) ∙ listed-append (take n places) (drop n places) in
    once-front (listed (take n places)) (listed (drop n places)) (subst (λ (names : List (List ℕ)). AreOnce names) parts once)

-- a channel that has a place is there
pub has-placed : (channel : List ℕ) (at : ℕ) (places : List (Option (List ℕ))) → place_from 0 channel places ≡ Some at → has_name (listed places) channel ≡ true
has-placed channel at places place = sym (is_some-place 0 channel places) ∙ ap is_some place

-- the entries after one more channel that is not listed
pub there-push : (places : List (Option (List ℕ))) (name : List ℕ) (before after : List (List ℕ × ℕ)) (at : ℕ) (old : Option ℕ) → AreThere places before → has_name (listed places) name ≡ false → at ≡ length places
    → ((channel : List ℕ) → lookup (bytes_eq channel) after ≡ cond (bytes_eq name channel) (Some at) (lookup (bytes_eq channel) before))
    → old ≡ lookup (bytes_eq name) before → length after ≡ length before + cond (is_some old) 0 1
    → AreThere (places ++ Some name ∷ []) after
there-push places name before after at old there absent last put was grown =
    let place : at ≡ 0 + length places = omega (arith, last) in
    let new : is_some old ≡ false = ap is_some (was ∙ there.found name ∙ none-place 0 name places absent) in
    let one : length after ≡ length before + 1 = grown ∙ ap (λ (b : Bool). length before + cond b 0 1) new in
    let more : length (listed (places ++ Some name ∷ [])) ≡ length (listed places) + 1 = ap length (listed-append places (Some name ∷ [])) ∙ length-append (listed places) (name ∷ []) in
    record {
      found = λ channel. put channel
          ∙ ap (λ (k : ℕ). cond (bytes_eq name channel) (Some k) (lookup (bytes_eq channel) before)) place
          ∙ ap (λ (o : Option ℕ). cond (bytes_eq name channel) (Some (0 + length places)) o) (there.found channel)
          ∙ place-push 0 name channel places absent;
      counted = one ∙ ap (λ (n : ℕ). n + 1) there.counted ∙ sym more;
    }

-- and after one channel less, whose place is emptied
pub indexed-left : (places : List (Option (List ℕ))) (name : List ℕ) (capacity : ℕ) (before after : List (List ℕ × ℕ)) (spare left room at : ℕ) → IsIndexed places capacity before spare room
    → lookup (bytes_eq name) before ≡ Some at → ((channel : List ℕ) → lookup (bytes_eq channel) after ≡ cond (bytes_eq name channel) None (lookup (bytes_eq channel) before))
    → length after + 1 ≡ length before → spare ≤ left → IsIndexed (set places at None) capacity after left room
indexed-left places name capacity before after spare left room at indexed stood taken shrunk kept =
    let place : place_from 0 name places ≡ Some at = sym (indexed.there.found name) ∙ stood in
    let place_is : at ≡ 0 + at = omega arith in
    let empty : set places at None ≡ emptied name places = set-emptied 0 at name places (place ∙ ap (λ (n : ℕ). let o : Option ℕ = Some n in o) place_is) in
    let fewer : listed (set places at None) ≡ filter (λ other. not (bytes_eq name other)) (listed places) = ap listed empty ∙ listed-emptied name places indexed.once in
    let one : length (listed (set places at None)) + 1 ≡ length (listed places) = ap (λ (l : List (Option (List ℕ))). length (listed l) + 1) empty ∙ length-emptied 0 at name places place in
    let size : length (set places at None) ≡ length places = length-set places at None in
    record {
      there = record {
        found = λ channel. taken channel ∙ ap (λ (o : Option ℕ). cond (bytes_eq name channel) None o) (indexed.there.found channel) ∙ place-emptied 0 name channel places indexed.once
            ∙ ap (place_from 0 channel) (sym empty);
        counted = omega (arith, shrunk, one, indexed.there.counted);
      };
      once = subst (λ (names : List (List ℕ)). AreOnce names) (sym fewer) (once-fewer (λ other. not (bytes_eq name other)) (listed places) indexed.once);
      fits = omega (arith, size, indexed.fits);
      indexed = omega (arith, kept, indexed.indexed);
    }

-- the channels that are left then
pub listed-left : (places : List (Option (List ℕ))) (name : List ℕ) (at : ℕ) → AreOnce (listed places) → place_from 0 name places ≡ Some at
    → listed (set places at None) ≡ filter (λ other. not (bytes_eq name other)) (listed places)
listed-left places name at once place =
    let place_is : at ≡ 0 + at = omega arith in
    ap listed (set-emptied 0 at name places (place ∙ ap (λ (n : ℕ). let o : Option ℕ = Some n in o) place_is)) ∙ listed-emptied name places once

-- an empty place after places changes nothing
pub there-push_empty : (places : List (Option (List ℕ))) (entries : List (List ℕ × ℕ)) → AreThere places entries → AreThere (places ++ None ∷ []) entries
there-push_empty places entries there =
    record {
      found = λ channel. there.found channel ∙ place-push_empty 0 channel places;
      counted = there.counted ∙ ap length (sym (listed-append places (None ∷ []) ∙ append-nil (listed places)));
    }

-- the entries after one more place
pub there-put : (places : List (Option (List ℕ))) (name : List ℕ) (before after : List (List ℕ × ℕ)) (at : ℕ) (old : Option ℕ) → AreThere places before → at ≡ length places → AreOnce (listed (places ++ Some name ∷ []))
    → ((channel : List ℕ) → lookup (bytes_eq channel) after ≡ cond (bytes_eq name channel) (Some at) (lookup (bytes_eq channel) before))
    → old ≡ lookup (bytes_eq name) before → length after ≡ length before + cond (is_some old) 0 1
    → AreThere (places ++ Some name ∷ []) after
there-put places name before after at old there last once put was grown =
    let all : AreOnce (listed places ++ name ∷ []) = subst (λ (names : List (List ℕ)). AreOnce names) (listed-append places (Some name ∷ [])) once in
    there-push places name before after at old there (once-before name (listed places) [] all) last put was grown
