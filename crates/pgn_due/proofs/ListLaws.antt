-- Places of what was sent, and their lists.
use Rattle.std.proofs.Common.{◌≡◌, ℕ, zero, suc, ◌+◌, ◌<◌, ◌≤◌, Bool, true, false, ◌&&◌, ◌==◌, cond, List, [], ◌∷◌, ◌++◌, length, get_or, take, Option, None, Some, slice_get, refl, sym, ap, ◌∙◌, subst, inl, inr, arith, length-append}
use Rattle.std.proofs.Math.Dec.{ltb}
use Rattle.std.specs.Cmp.{IsEquivalence}
use Rattle.std.specs.Prelude.{bytes_eq}
use Rattle.std.specs.Global.{Vec}
use Rattle.std.specs.Map.{lookup}
use Rattle.std.proofs.lemmas.Cmp.{nat_eq_equiv, nat_list_eq_equiv}
use Rattle.std.proofs.lemmas.Bool.{and_from, and_parts, cases_Bool, cases_lt, false≢true, ltb-false, ltb-true}
use Rattle.std.proofs.lemmas.List.{append-nil, get_or_append_left, get_or_push, length-take}
use Rattle.std.proofs.lemmas.Option.{get_or_from_slice_get, none-some, slice_get-get_or, slice_get_within}
use Rattle.std.specs.List.Sorted.{IsNonDecreasingBy, IsPartitionPoint}
use Rattle.pgn_due.specs.Places.{IsFirst, passes, places}
use Rattle.pgn_due.specs.Lists.{AreLists, items_of, list_at, same_topic}
use Rattle.pgn_base.specs.declared.note.Delivery.{Delivery}
use Rattle.pgn_due.specs.Sent.{is_on}
use Rattle.pgn_due.specs.declared.lists.Topic.{Topic}
use Rattle.pgn_due.proofs.SendLaws.{take_one}

-- each is no less than the one before
abbrev Rise : ℕ → List ℕ → Type 0
Rise at ps = (i j : ℕ) (d : ℕ) → i ≤ j → j < length ps → (at ≤ get_or ps i d) × (get_or ps i d ≤ get_or ps j d)

rise_cons : (at : ℕ) (ps : List ℕ) → Rise (at + 1) ps → Rise at (at ∷ ps)
rise_cons at ps h zero zero d le lt = (omega arith, omega arith)
rise_cons at ps h zero (suc j) d le lt = (omega arith, let up = h j j d (omega arith) (omega (arith, lt)) in omega (arith, up.0))
rise_cons at ps h (suc i) zero d le lt = absurd (omega (arith, le))
rise_cons at ps h (suc i) (suc j) d le lt = let up = h i j d (omega (arith, le)) (omega (arith, lt)) in (omega (arith, up.0), up.1)

rise_sooner : (at : ℕ) (ps : List ℕ) → Rise (at + 1) ps → Rise at ps
rise_sooner at ps h = λ i j d le lt. let up = h i j d le lt in (omega (arith, up.0), up.1)

cond_push : (b : Bool) (ps qs : List ℕ) → cond b (ps ++ qs) ps ≡ ps ++ cond b qs []
cond_push true ps qs = refl
cond_push false ps qs = sym (append-nil ps)

module _ {X : Type 0} (test : X → Bool) where
  places-yes : (at : ℕ) (x : X) (xs : List X) → test x ≡ true → places test at (x ∷ xs) ≡ at ∷ places test (at + 1) xs
  places-yes at x xs h = ap (λ (b : Bool). cond b (at ∷ places test (at + 1) xs) (places test (at + 1) xs)) h

  places-no : (at : ℕ) (x : X) (xs : List X) → test x ≡ false → places test at (x ∷ xs) ≡ places test (at + 1) xs
  places-no at x xs h = ap (λ (b : Bool). cond b (at ∷ places test (at + 1) xs) (places test (at + 1) xs)) h

  -- so with places
  rise : (at : ℕ) (xs : List X) → Rise at (places test at xs)
  rise at [] = λ i j d le lt. absurd (omega (arith, lt))
  rise at (x ∷ xs) = elim (cases_Bool (test x)) [
    | inl is ↦ subst (Rise at) (sym (places-yes at x xs is)) (rise_cons at (places test (at + 1) xs) (rise (at + 1) xs))
    | inr off ↦ subst (Rise at) (sym (places-no at x xs off)) (rise_sooner at (places test (at + 1) xs) (rise (at + 1) xs))
  ]

  -- in each place stands one that passes
  abbrev Pass : ℕ → List X → List ℕ → Type 0
  Pass at xs ps = (i d : ℕ) → i < length ps → (k : ℕ) × (get_or ps i d ≡ at + k) × (passes test xs k ≡ true)

  pass_behind : (at : ℕ) (x : X) (xs : List X) (ps : List ℕ) → Pass (at + 1) xs ps → Pass at (x ∷ xs) ps
  pass_behind at x xs ps h i d lt = let p = h i d lt in (suc p.0, omega (arith, p.1), p.2)

  pass_cons : (at : ℕ) (x : X) (xs : List X) (ps : List ℕ) → test x ≡ true → Pass (at + 1) xs ps → Pass at (x ∷ xs) (at ∷ ps)
  pass_cons at x xs ps is h zero d lt = (zero, omega arith, is)
  pass_cons at x xs ps is h (suc i) d lt = pass_behind at x xs ps h i d (omega (arith, lt))

  pass : (at : ℕ) (xs : List X) → Pass at xs (places test at xs)
  pass at [] = λ i d lt. absurd (omega (arith, lt))
  pass at (x ∷ xs) = elim (cases_Bool (test x)) [
    | inl is ↦ subst (Pass at (x ∷ xs)) (sym (places-yes at x xs is)) (pass_cons at x xs (places test (at + 1) xs) is (pass (at + 1) xs))
    | inr off ↦ subst (Pass at (x ∷ xs)) (sym (places-no at x xs off)) (pass_behind at x xs (places test (at + 1) xs) (pass (at + 1) xs))
  ]

  -- each that passes has its place
  abbrev Found : ℕ → ℕ → List ℕ → Type 0
  Found at k ps = (i : ℕ) × (i < length ps) × ((d : ℕ) → get_or ps i d ≡ at + k)

  found : (at : ℕ) (xs : List X) (k : ℕ) → passes test xs k ≡ true → Found at k (places test at xs)
  found at [] k h = absurd (false≢true h)
  found at (x ∷ xs) zero h = subst (Found at zero) (sym (places-yes at x xs h)) (zero, omega arith, λ d. omega arith)
  found at (x ∷ xs) (suc k) h =
      let p = found (at + 1) xs k h in
      elim (cases_Bool (test x)) [
        | inl is ↦ subst (Found at (suc k)) (sym (places-yes at x xs is)) (suc p.0, omega (arith, p.1), λ d. omega (arith, p.2 d))
        | inr off ↦ subst (Found at (suc k)) (sym (places-no at x xs off)) (p.0, p.1, λ d. omega (arith, p.2 d))
      ]

  -- the places of what passes the test rise
  pub places_rise : (xs : List X) (ps : List ℕ) → ps ≡ places test 0 xs → IsNonDecreasingBy (λ x. x) ps
  places_rise xs ps e = λ i j d le lt. let up = subst (Rise 0) (sym e) (rise 0 xs) in (up i j d le lt).1

  -- from a given place on, the first stands where those below that place end
  first_none : (xs : List X) (ps : List ℕ) (from i : ℕ) → ps ≡ places test 0 xs → IsPartitionPoint (λ y. ltb y from ≡ true) (λ y. ltb y from ≡ false) ps i → slice_get ps i ≡ None → IsFirst test xs from None
  first_none xs ps from i e point none = λ at le. elim (cases_Bool (passes test xs at)) [
    | inl is ↦
        let p = subst (Found 0 at) (sym e) (found 0 xs at is) in
        elim (cases_lt p.0 i) as (λ _. passes test xs at ≡ false) [
          | inl lt ↦ absurd (let low : get_or ps p.0 0 < from = ltb-true _ _ (point.0 p.0 0 (omega arith) lt) in omega (arith, low, p.2 0, le))
          | inr ge ↦ absurd (none-some (get_or ps i 0) (sym none ∙ slice_get-get_or ps i 0 (omega (arith, ge, p.1))))
        ]
    | inr off ↦ off
  ]

  first_some : (xs : List X) (ps : List ℕ) (from i first : ℕ) → ps ≡ places test 0 xs → IsPartitionPoint (λ y. ltb y from ≡ true) (λ y. ltb y from ≡ false) ps i → slice_get ps i ≡ Some first → IsFirst test xs from (Some first)
  first_some xs ps from i first e point some =
      let within : i < length ps = slice_get_within ps i first some in
      let high : from ≤ first = subst (λ n. from ≤ n) is (ltb-false _ _ (point.1 i 0 (omega arith) within)) in
      let p = subst (Pass 0 xs) (sym e) (pass 0 xs) i 0 within in
      (high, subst (λ n. passes test xs n ≡ true) (let same : p.0 ≡ first = omega (arith, p.1, is) in same) p.2, before)
    where
      is : get_or ps i 0 ≡ first
      is = get_or_from_slice_get ps i first 0 some

      before : (at : ℕ) → from ≤ at → at < first → passes test xs at ≡ false
      before at le lt = elim (cases_Bool (passes test xs at)) [
        | inl there ↦
            let q = subst (Found 0 at) (sym e) (found 0 xs at there) in
            absurd (elim (cases_lt q.0 i) as (λ _. ⊥) [
              | inl lt ↦ let low : get_or ps q.0 0 < from = ltb-true _ _ (point.0 q.0 0 (omega arith) lt) in omega (arith, low, q.2 0, le)
              | inr ge ↦ let up = places_rise xs ps e i q.0 0 ge q.1 in omega (arith, up, is, q.2 0, lt)
            ])
        | inr off ↦ off
      ]

  -- the first place from a number on at which the test passes, found in the list of such places
  pub first_at : (xs : List X) (ps : List ℕ) (from i : ℕ) (found : Option ℕ) → ps ≡ places test 0 xs → IsPartitionPoint (λ y. ltb y from ≡ true) (λ y. ltb y from ≡ false) ps i → slice_get ps i ≡ found → IsFirst test xs from found
  first_at xs ps from i None e point h = first_none xs ps from i e point h
  first_at xs ps from i (Some first) e point h = first_some xs ps from i first e point h

  -- one more at the end
  places_push : (at : ℕ) (xs : List X) (x : X) → places test at (xs ++ x ∷ []) ≡ places test at xs ++ cond (test x) ((at + length xs) ∷ []) []
  places_push at [] x = ap (λ (n : ℕ). cond (test x) (n ∷ []) []) (omega arith)
  places_push at (y ∷ xs) x =
      let rest : places test (at + 1) (xs ++ x ∷ []) ≡ places test (at + 1) xs ++ cond (test x) ((at + length (y ∷ xs)) ∷ []) [] =
      places_push (at + 1) xs x ∙ ap (λ (n : ℕ). places test (at + 1) xs ++ cond (test x) (n ∷ []) []) (omega arith) in
      ap (λ (ps : List ℕ). cond (test y) (at ∷ ps) ps) rest ∙ by (test y) (places test (at + 1) xs) (cond (test x) ((at + length (y ∷ xs)) ∷ []) [])
    where
      by : (b : Bool) (ps qs : List ℕ) → cond b (at ∷ (ps ++ qs)) (ps ++ qs) ≡ cond b (at ∷ ps) ps ++ qs
      by true ps qs = refl
      by false ps qs = refl

  places_one : (xs : List X) (at : ℕ) (x : X) → slice_get xs at ≡ Some x → places test 0 (take (at + 1) xs) ≡ cond (test x) (places test 0 (take at xs) ++ at ∷ []) (places test 0 (take at xs))
  places_one xs at x e =
      let long : 0 + length (take at xs) ≡ at = omega (arith, length-take at xs, slice_get_within xs at x e) in
      ap (places test 0) (take_one xs at x e) ∙ places_push 0 (take at xs) x ∙ ap (λ (n : ℕ). places test 0 (take at xs) ++ cond (test x) (n ∷ []) []) long
      ∙ sym (cond_push (test x) (places test 0 (take at xs)) (at ∷ []))

-- Topics.

and_both : (a b c d : Bool) → a ≡ b → c ≡ d → (a && c) ≡ (b && d)
and_both a b c d e f = λ i. e i && f i

pub topics : IsEquivalence same_topic
topics = record {
  refl = λ x. and_from (x.db == x.db) (bytes_eq x.channel x.channel) (nat_eq_equiv.refl x.db) (nat_list_eq_equiv.refl x.channel);
  symm = λ x y. and_both (x.db == y.db) (y.db == x.db) (bytes_eq x.channel y.channel) (bytes_eq y.channel x.channel) (nat_eq_equiv.symm x.db y.db) (nat_list_eq_equiv.symm x.channel y.channel);
  congr = λ x y z h.
      let parts = and_parts (x.db == y.db) (bytes_eq x.channel y.channel) h in
      and_both (x.db == z.db) (y.db == z.db) (bytes_eq x.channel z.channel) (bytes_eq y.channel z.channel) (nat_eq_equiv.congr x.db y.db z.db parts.0) (nat_list_eq_equiv.congr x.channel y.channel z.channel parts.1);
}

-- a place at the end of a topic's list
pub put_in : (old new : List (Topic × Vec ℕ)) (topic other : Topic) (at : ℕ) (w : Vec ℕ) (found : Option (Vec ℕ)) → lookup (same_topic topic) old ≡ found → w.items ≡ items_of found ++ at ∷ []
    → lookup (same_topic other) new ≡ cond (same_topic topic other) (Some w) (lookup (same_topic other) old)
    → list_at new other ≡ cond (same_topic other topic) (list_at old other ++ at ∷ []) (list_at old other)
put_in old new topic other at w found was more now =
    ap items_of now ∙ ap (λ (b : Bool). items_of (cond b (Some w) (lookup (same_topic other) old))) (topics.symm topic other) ∙ by (same_topic other topic) refl
  where
    by : (b : Bool) → same_topic other topic ≡ b → items_of (cond b (Some w) (lookup (same_topic other) old)) ≡ cond b (list_at old other ++ at ∷ []) (list_at old other)
    by true same =
        let tests : same_topic topic ≡ same_topic other = λ i x. sym (topics.congr other topic x same) i in
        more ∙ ap (λ (o : Option (Vec ℕ)). items_of o ++ at ∷ []) (sym was) ∙ ap (λ (test : Topic → Bool). items_of (lookup test old) ++ at ∷ []) tests
    by false apart = refl

-- the channel of one that was sent
abbrev pub topic_of : ℕ × Delivery → Topic
topic_of one = record { db = one.0; channel = one.1.note.channel }

on_topic : (other : Topic) (one : ℕ × Delivery) → same_topic other (topic_of one) ≡ is_on other.db other.channel one
on_topic other one = ap (λ (b : Bool). b && bytes_eq other.channel one.1.note.channel) (nat_eq_equiv.symm other.db one.0)

-- no entries are the lists of nothing that was sent
pub lists_first : (sent : List (ℕ × Delivery)) (entries : List (Topic × Vec ℕ)) → entries ≡ [] → AreLists (take 0 sent) entries
lists_first sent entries e topic = ap (λ (es : List (Topic × Vec ℕ)). list_at es topic) e

-- one more that is sent, its place put at the end of its topic's list
pub lists_more : (sent : List (ℕ × Delivery)) (at : ℕ) (one : ℕ × Delivery) (topic : Topic) (old new : List (Topic × Vec ℕ)) → slice_get sent at ≡ Some one → topic ≡ topic_of one
    → ((other : Topic) → list_at new other ≡ cond (same_topic other topic) (list_at old other ++ at ∷ []) (list_at old other)) → AreLists (take at sent) old → AreLists (take (at + 1) sent) new
lists_more sent at one topic old new e is more h other =
    let test = is_on other.db other.channel in
    more other ∙ ap (λ (b : Bool). cond b (list_at old other ++ at ∷ []) (list_at old other)) (ap (same_topic other) is ∙ on_topic other one)
    ∙ ap (λ (ps : List ℕ). cond (test one) (ps ++ at ∷ []) ps) (h other) ∙ sym (places_one test sent at one e)

-- where there is no list, no notification is on the channel
pub first_nowhere : (sent : List (ℕ × Delivery)) (entries : List (Topic × Vec ℕ)) (topic : Topic) (from : ℕ) → AreLists sent entries → lookup (same_topic topic) entries ≡ None → IsFirst (is_on topic.db topic.channel) sent from None
first_nowhere sent entries topic from h none =
    let empty : [] ≡ places (is_on topic.db topic.channel) 0 sent = sym (ap items_of none) ∙ h topic in
    first_at (is_on topic.db topic.channel) sent [] from 0 None empty ((λ k d low high. absurd (omega (arith, high))), (λ k d low high. absurd (omega (arith, high)))) refl

-- Behind each the next of its channel.

-- so for the first few
pub record AreAfterTo (sent : List (ℕ × Delivery)) (count : ℕ) (after : List (Option ℕ)) : Type 0 where
  pub counted : length after ≡ count
  pub each : (at : ℕ) (one : ℕ × Delivery) → at < count → slice_get sent at ≡ Some one → IsFirst (is_on one.0 one.1.note.channel) sent (at + 1) (get_or after at None)

-- for none of them
pub after_none : (sent : List (ℕ × Delivery)) (after : List (Option ℕ)) → after ≡ [] → AreAfterTo sent 0 after
after_none sent after none = record { counted = ap length none; each = λ at one lt there. absurd (omega (arith, lt)) }

-- and for one more
pub after_more : (sent : List (ℕ × Delivery)) (at : ℕ) (after new : List (Option ℕ)) (one : ℕ × Delivery) (next : Option ℕ) → slice_get sent at ≡ Some one → IsFirst (is_on one.0 one.1.note.channel) sent (at + 1) next → new ≡ after ++ next ∷ []
    → AreAfterTo sent at after → AreAfterTo sent (at + 1) new
after_more sent at after new one next is first push h =
    let none : Option ℕ = None in
    record {
      counted = omega (arith, ap (λ (xs : List (Option ℕ)). length xs) push, length-append after (next ∷ []), h.counted);
      each = λ k other lt there. elim (cases_lt k at) as (λ _. IsFirst (is_on other.0 other.1.note.channel) sent (k + 1) (get_or new k none)) [
        | inl before ↦
            subst (λ (o : Option ℕ). IsFirst (is_on other.0 other.1.note.channel) sent (k + 1) o)
            (sym (ap (λ (xs : List (Option ℕ)). get_or xs k none) push ∙ get_or_append_left after (next ∷ []) none k (omega (arith, before, h.counted)))) (h.each k other before there)
        | inr behind ↦
            let here : at ≡ k = omega (arith, behind, lt) in
            let both : Some one ≡ Some other = sym is ∙ ap (λ (m : ℕ). slice_get sent m) here ∙ there in
            let same : one ≡ other = cc in
            subst (λ (o : Option ℕ). IsFirst (is_on other.0 other.1.note.channel) sent (k + 1) o)
            (sym (ap (λ (xs : List (Option ℕ)). get_or xs k none) push ∙ get_or_push after next none k (omega (arith, here, h.counted))))
            (subst (λ (m : ℕ). IsFirst (is_on other.0 other.1.note.channel) sent (m + 1) next) here
            (subst (λ (x : ℕ × Delivery). IsFirst (is_on x.0 x.1.note.channel) sent (at + 1) next) same first))
      ];
    }
