-- Laws of a watch: its channels change, and it goes along what is due.
use Rattle.std.proofs.Common.{◌≡◌, ◌↔◌, ℕ, ◌+◌, ◌<◌, ◌≤◌, ◌==◌, Bool, true, false, not, ◌&&◌, ◌||◌, cond, List, [], ◌∷◌, ◌++◌, length, take, drop, map, filter, get_or, Option, None, Some, sym, ap, ◌∙◌, refl, subst, inl, inr, arith, append_assoc, append-nil, take-append-drop}
use Rattle.std.specs.Prelude.{bytes_eq, slice_get}
use Rattle.std.specs.List.{list_any}
use Rattle.std.specs.Ordering.{is_gt, nat_cmp}
use Rattle.std.specs.BTreeMap.{is_at}
use Rattle.std.specs.BTreeSet.{BTreeSet, IsLowerBound, contains}
use Rattle.std.proofs.lemmas.Bool.{cases_Bool, cases_lt, false≢true}
use Rattle.std.proofs.lemmas.Bool.Decides.{Decides-eqb}
use Rattle.std.proofs.lemmas.List.{append_cancel_left, drop_more}
use Rattle.std.proofs.lemmas.List.Folds.{list_any-append}
use Rattle.pgn_base.specs.Names.{has_name}
use Rattle.pgn_base.specs.Channels.{after_action, applied}
use Rattle.pgn_base.specs.declared.action.Action.{Action}
use Rattle.pgn_base.specs.declared.action.Action.TheVariants.{Listen, Unlisten, UnlistenAll}
use Rattle.pgn_base.specs.declared.note.Delivery.{Delivery}
use Rattle.pgn_journal.specs.declared.tx.Tx.{Tx}
use Rattle.pgn_journal.specs.Due.{due, is_due_to}
use Rattle.pgn_journal.specs.Journal.{entries_between}
use Rattle.pgn_due.specs.Sent.{is_for, is_on, sent_before, sent_in}
use Rattle.pgn_due.specs.Places.{IsFirst, passes}
use Rattle.pgn_due.specs.Next.{AreNext, Changes, GoesOn, HasPassed, IsLess, IsMore, IsWatch, Passes, due_between}
use Rattle.pgn_due.specs.declared.watch.Watch.{Watch}
use Rattle.pgn_due.proofs.PlaceLaws.{any_between, any_of_none, first_between, none_between, passes_at}
use Rattle.pgn_due.proofs.NextLaws.{Adds, Drops, at_is, bytes_same, both, less_next, more_next, next_goes, none_before, none_next, passed_next, past_next, same_bytes, two}
use Rattle.pgn_due.proofs.DueLaws.{any_is, before_grows, due_is}

-- the journal that a watch goes over
abbrev pub journal_of : Watch → List Tx
journal_of watch = watch.feed.now.sends.journal.now

-- all that is sent in it
abbrev pub sent_of : Watch → List (ℕ × Delivery)
sent_of watch = sent_in (journal_of watch)

-- a place is one of those that a watch keeps
abbrev pub keeps : Watch → ℕ → Bool
keeps watch = contains nat_cmp watch.next

-- a lower bound of the kept places is no greater than any of them
pub least_is : (next : BTreeSet ℕ) (first : ℕ) → IsLowerBound nat_cmp next first → (at : ℕ) → contains nat_cmp next at ≡ true → first ≤ at
least_is next first least at on = elim (cases_lt at first) [
  | inr le ↦ le
  | inl lt ↦
      let off : is_gt (nat_cmp first at) ≡ false = least at on in
      absurd (let no : ⊥ = grind (arith, off, lt) in no)
]

-- The channels change.

-- the first place on a channel is kept besides: the watch is that of a set with the channel
pub put_one : (old new : Watch) (from : ℕ) (channel : List ℕ) (one : Option ℕ) → IsFirst (is_on old.db channel) (sent_of old) from one → new.feed ≡ old.feed → new.db ≡ old.db → Adds one (keeps old) (keeps new)
    → Changes from old (IsMore channel) new
put_one old new from channel one first feed db adds = record {
  feed = feed;
  db = db;
  next = λ set h other more. more_next old.db (sent_of old) from (keeps old) (keeps new) channel set other one first adds more h;
}

-- the first place on a channel is kept no more: the watch is that of a set without it
pub took_one : (old new : Watch) (from : ℕ) (channel : List ℕ) (one : Option ℕ) → IsFirst (is_on old.db channel) (sent_of old) from one → new.feed ≡ old.feed → new.db ≡ old.db → Drops one (keeps old) (keeps new)
    → Changes from old (IsLess channel) new
took_one old new from channel one first feed db drops = record {
  feed = feed;
  db = db;
  next = λ set h other less. less_next old.db (sent_of old) from (keeps old) (keeps new) channel set other one first drops less h;
}

-- an action, as its channel comes in or goes

-- two tests of three, and nothing besides
or_assoc : (a b : Bool) → (a || (b || false)) ≡ (a || b)
or_assoc true b = refl
or_assoc false true = refl
or_assoc false false = refl

-- a test, or nothing besides
or_false : (b : Bool) → (b || false) ≡ b
or_false true = refl
or_false false = refl

-- a channel that is there already adds none
more_there : (set : List (List ℕ)) (channel other : List ℕ) → has_name set channel ≡ true → has_name set other ≡ (has_name set other || bytes_eq other channel)
more_there set channel other there = elim (cases_Bool (bytes_eq other channel)) [
  | inl same ↦
      let on : has_name set other ≡ true = ap (has_name set) (same_bytes other channel same) ∙ there in
      on ∙ sym (ap (λ (b : Bool). b || bytes_eq other channel) on)
  | inr off ↦ sym (ap (λ (b : Bool). has_name set other || b) off ∙ or_false (has_name set other))
]

-- a channel more that is listened to
pub is_more : (set : List (List ℕ)) (channel : List ℕ) → IsMore channel set (after_action set (Listen channel))
is_more set channel = λ other. elim (cases_Bool (has_name set channel)) [
  | inl there ↦ ap (λ (b : Bool). has_name (cond b set (set ++ channel ∷ [])) other) there ∙ more_there set channel other there
  | inr absent ↦
      ap (λ (b : Bool). has_name (cond b set (set ++ channel ∷ [])) other) absent ∙ list_any-append (bytes_eq other) set (channel ∷ []) ∙ or_assoc (has_name set other) (bytes_eq other channel)
]

-- a name of the channel that goes is none of the set any more
less_same : (other channel one : List ℕ) (set : List (List ℕ)) → channel ≡ one → (has_name set other && not (bytes_eq other channel)) ≡ ((bytes_eq other one || has_name set other) && not (bytes_eq other channel))
less_same other channel one set e = subst (λ (c : List ℕ). (has_name set other && not (bytes_eq other channel)) ≡ ((bytes_eq other c || has_name set other) && not (bytes_eq other channel))) e
    (elim (cases_Bool (bytes_eq other channel)) [
      | inl on ↦ grind (arith, on)
      | inr off ↦ grind (arith, off)
    ])

-- of another name nothing changes
less_other : (other channel one : List ℕ) (set : List (List ℕ)) → bytes_eq channel one ≡ false
    → (bytes_eq other one || (has_name set other && not (bytes_eq other channel))) ≡ ((bytes_eq other one || has_name set other) && not (bytes_eq other channel))
less_other other channel one set apart = elim (cases_Bool (bytes_eq other one)) [
  | inr off ↦ grind (arith, off)
  | inl on ↦
      let differs : bytes_eq other channel ≡ false = elim (cases_Bool (bytes_eq other channel)) [
        | inl same ↦ absurd (false≢true (sym apart ∙ bytes_same channel one (sym (same_bytes other channel same) ∙ same_bytes other one on)))
        | inr off ↦ off
      ] in
      grind (arith, on, differs)
]

-- a channel less
pub is_less : (channel : List ℕ) (set : List (List ℕ)) → IsLess channel set (after_action set (Unlisten channel))
is_less channel [] = λ other. refl
is_less channel (one ∷ set) = λ other. elim (cases_Bool (bytes_eq channel one)) [
  | inl same ↦
      let e : channel ≡ one = same_bytes channel one same in
      let rest = is_less channel set other in
      ap (λ (b : Bool). has_name (cond (not b) (one ∷ filter (λ c. not (bytes_eq channel c)) set) (filter (λ c. not (bytes_eq channel c)) set)) other) same ∙ rest
      ∙ less_same other channel one set e
  | inr apart ↦
      let rest = is_less channel set other in
      ap (λ (b : Bool). has_name (cond (not b) (one ∷ filter (λ c. not (bytes_eq channel c)) set) (filter (λ c. not (bytes_eq channel c)) set)) other) apart
      ∙ ap (λ (b : Bool). bytes_eq other one || b) rest ∙ less_other other channel one set apart
]

-- a watch with a channel more is that after LISTEN
pub listened : (old new : Watch) (from : ℕ) (channel : List ℕ) → Changes from old (IsMore channel) new → Changes from old (λ set other. other ≡ after_action set (Listen channel)) new
listened old new from channel h = record {
  feed = h.feed;
  db = h.db;
  next = λ set are other e. subst (λ (s : List (List ℕ)). AreNext old.db s (sent_of old) from (keeps new)) (sym e) (h.next set are (after_action set (Listen channel)) (is_more set channel));
}

-- a watch with a channel less is that after UNLISTEN
pub unlistened : (old new : Watch) (from : ℕ) (channel : List ℕ) → Changes from old (IsLess channel) new → Changes from old (λ set other. other ≡ after_action set (Unlisten channel)) new
unlistened old new from channel h = record {
  feed = h.feed;
  db = h.db;
  next = λ set are other e. subst (λ (s : List (List ℕ)). AreNext old.db s (sent_of old) from (keeps new)) (sym e) (h.next set are (after_action set (Unlisten channel)) (is_less channel set));
}

-- a list of no length is empty
nil_of_none : (keys : List ℕ) → (0 < length keys → false ≡ true) → keys ≡ []
nil_of_none [] none = refl
nil_of_none (k ∷ keys) none = absurd (false≢true (none (omega arith)))

-- a watch without places keeps none
keeps_none : (next : BTreeSet ℕ) → next.keys ≡ [] → (at : ℕ) → contains nat_cmp next at ≡ false
keeps_none next e at = grind (arith, e)

-- where no place is kept, none is before an end
pub keeps_nothing : (next : BTreeSet ℕ) (end : ℕ) → (0 < length next.keys → false ≡ true) → (at : ℕ) → contains nat_cmp next at ≡ true → end ≤ at
keeps_nothing next end none at on = absurd (false≢true (sym (keeps_none next (nil_of_none next.keys none) at) ∙ on))

-- a watch that keeps no place is that after UNLISTEN *
pub unlistened_all : (old new : Watch) (from : ℕ) → new.feed ≡ old.feed → new.db ≡ old.db → new.next.keys ≡ [] → Changes from old (λ set other. other ≡ after_action set UnlistenAll) new
unlistened_all old new from feed db none = record {
  feed = feed;
  db = db;
  next = λ set are other e. subst (λ (s : List (List ℕ)). AreNext old.db s (sent_of old) from (keeps new)) (sym e) (none_next old.db (sent_of old) from (keeps old) (keeps new) (keeps_none new.next none));
}

-- What is due comes first, or does not.

-- where nothing is found, there is nothing
nil_of_map : (xs : List (ℕ × Delivery)) → map (λ (one : ℕ × Delivery). one.1) xs ≡ [] → xs ≡ []
nil_of_map [] e = refl
nil_of_map (x ∷ xs) e = absurd (let no : ⊥ = cc in no)

module _ (db : ℕ) (set : List (List ℕ)) (sent : List (ℕ × Delivery)) (from end : ℕ) (is : ℕ → Bool) (are : AreNext db set sent from is) where
  due_none : ((at : ℕ) → is at ≡ true → end ≤ at) → due_between db set sent from end ≡ []
  due_none past = ap (map (λ (one : ℕ × Delivery). one.1)) (none_between (is_for db set) sent from end (none_before db set sent from is are end past))

  due_first : (place : ℕ) (s : ℕ × Delivery) → is place ≡ true → ((at : ℕ) → is at ≡ true → place ≤ at) → place < end → slice_get sent place ≡ Some s → due_between db set sent from end ≡ s.1 ∷ due_between db set sent (place + 1) end
  due_first place s on least lt e =
      let n = (are place).0 on in
      ap (map (λ (one : ℕ × Delivery). one.1))
      (first_between (is_for db set) sent from end place s n.first.0 lt e (next_goes db set sent from place n) (none_before db set sent from is are place least))

  -- where nothing is due, no place is before the end
  none_due : due_between db set sent from end ≡ [] → (at : ℕ) → is at ≡ true → end ≤ at
  none_due none at on = elim (cases_lt at end) [
    | inr past ↦ past
    | inl lt ↦
        let n = (are at).0 on in
        let empty : filter (is_for db set) (drop from (take end sent)) ≡ [] = nil_of_map (filter (is_for db set) (drop from (take end sent))) none in
        absurd (false≢true (sym (any_of_none (is_for db set) (drop from (take end sent)) empty) ∙ any_between (is_for db set) sent from end at n.first.0 lt (next_goes db set sent from at n)))
  ]

-- no kept place is before an end exactly where nothing is due up to it
pub finds_by : (journal : List Tx) (db mark to : ℕ) (set : List (List ℕ)) (watch : Watch) (end : ℕ) (b : Bool) → IsWatch journal db set (Some mark) watch → end ≡ sent_before (journal_of watch) to
    → (b ≡ true) ↔ ((at : ℕ) → keeps watch at ≡ true → end ≤ at) → (b ≡ true) ↔ (list_any (is_due_to db set) (entries_between journal mark to) ≡ false)
finds_by journal db mark to set watch end b h is test =
    let from : ℕ = sent_before journal mark in
    let upto : ℕ = sent_before journal to in
    let same : end ≡ upto = is ∙ ap (λ (j : List Tx). sent_before j to) h.over in (
      λ t. any_is journal mark to db set
          ∙ any_of_none (is_for db set) (drop from (take upto (sent_in journal)))
          (none_between (is_for db set) (sent_in journal) from upto (none_before db set (sent_in journal) from (keeps watch) h.next upto (λ at on. omega (arith, same, test.0 t at on)))),
      λ none. test.1 (λ at on. elim (cases_lt at end) [
        | inr past ↦ past
        | inl lt ↦
            let n = (h.next at).0 on in
            absurd (false≢true (sym (sym (any_is journal mark to db set) ∙ none)
            ∙ any_between (is_for db set) (sent_in journal) from upto at n.first.0 (omega (arith, lt, same)) (next_goes db set (sent_in journal) from at n)))
      ]),
    )

-- One delivery.

-- where no kept place is before the end, nothing passes
pub pass_past : (end : ℕ) (old : Watch) (d : Delivery) → ((at : ℕ) → keeps old at ≡ true → end ≤ at) → Passes end old d false old
pass_past end old d past = λ from le. record {
  feed = refl;
  db = refl;
  next = λ set are. λ others e.
      let none : d ∷ others ≡ [] = sym e ∙ due_none old.db set (sent_of old) from end (keeps old) are past in
      let no : ⊥ = cc in no;
}

-- what differs from what is next does not pass
pub pass_other : (end place : ℕ) (old : Watch) (d : Delivery) (s : ℕ × Delivery) (b : Bool) → keeps old place ≡ true → ((at : ℕ) → keeps old at ≡ true → place ≤ at) → place < end → slice_get (sent_of old) place ≡ Some s
    → (b ≡ true) ↔ (d ≡ s.1) → b ≡ false → Passes end old d false old
pass_other end place old d s b on least lt e test off = λ from le. record {
  feed = refl;
  db = refl;
  next = λ set are. λ others due.
      let there : s.1 ∷ due_between old.db set (sent_of old) (place + 1) end ≡ d ∷ others = sym (due_first old.db set (sent_of old) from end (keeps old) are place s on least lt e) ∙ due in
      let same : d ≡ s.1 = cc in
      false≢true (sym off ∙ test.1 same);
}

-- what passes at a place is on the channel of what was sent there
its_channel : (db : ℕ) (channel : List ℕ) (sent : List (ℕ × Delivery)) (place : ℕ) (s : ℕ × Delivery) → slice_get sent place ≡ Some s → passes (is_on db channel) sent place ≡ true
    → passes (is_on db s.1.note.channel) sent place ≡ true
its_channel db channel sent place s e h =
    let on : is_on db channel s ≡ true = sym (passes_at (is_on db channel) sent place s e) ∙ h in
    passes_at (is_on db s.1.note.channel) sent place s e
    ∙ two (s.0 == db) (bytes_eq s.1.note.channel s.1.note.channel) (both (s.0 == db) (bytes_eq channel s.1.note.channel) on).0 (bytes_same s.1.note.channel s.1.note.channel refl)

-- what is next passes, and the watch goes on to the next place on its channel
pass_on : (end place : ℕ) (old new : Watch) (d : Delivery) (s : ℕ × Delivery) (b : Bool) (one : Option ℕ) (mid : ℕ → Bool) → keeps old place ≡ true → ((at : ℕ) → keeps old at ≡ true → place ≤ at) → place < end
    → slice_get (sent_of old) place ≡ Some s → (b ≡ true) ↔ (d ≡ s.1) → b ≡ true → IsFirst (is_on old.db s.1.note.channel) (sent_of old) (place + 1) one → new.feed ≡ old.feed → new.db ≡ old.db
    → Drops (Some place) (keeps old) mid → Adds one mid (keeps new) → Passes end old d true new
pass_on end place old new d s b one mid on least lt e test holds first feed db drops adds = λ from le. record {
  feed = feed;
  db = db;
  next = λ set are.
      let n = (are place).0 on in
      record {
        place = place + 1;
        within = omega (arith, lt);
        due = due_first old.db set (sent_of old) from end (keeps old) are place s on least lt e ∙ ap (λ (x : Delivery). x ∷ due_between old.db set (sent_of old) (place + 1) end) (sym (test.0 holds));
        next = passed_next old.db set (sent_of old) from (keeps old) are s.1.note.channel place one mid (keeps new) on least (its_channel old.db n.channel (sent_of old) place s e n.first.1) first drops adds;
      };
}

-- the next place on a channel is another than this one
not_itself : (test : ℕ × Delivery → Bool) (sent : List (ℕ × Delivery)) (place : ℕ) (one : Option ℕ) → IsFirst test sent (place + 1) one → one ≡ Some place → ⊥
not_itself test sent place one first same =
    let here = subst (λ (o : Option ℕ). IsFirst test sent (place + 1) o) same first in
    omega (arith, here.0)

-- two tests that are not both met may be asked in either order
turned : (here there was : Bool) → (here ≡ true → there ≡ true → ⊥) → cond here false (cond there true was) ≡ cond there true (cond here false was)
turned true true was apart = absurd (apart refl refl)
turned true false was apart = refl
turned false true was apart = refl
turned false false was apart = refl

-- the place of the next comes in first, and then the place itself goes
module _ (place : ℕ) (one : Option ℕ) (old mid new : ℕ → Bool) where
  abbrev without : ℕ → Bool
  without at = cond (is_at (nat_cmp place) at) false (old at)

  comes_last : (one ≡ Some place → ⊥) → Adds one old mid → Drops (Some place) mid new → Adds one without new
  comes_last = comes_last-by one
    where
      comes_last-by : (found : Option ℕ) → (found ≡ Some place → ⊥) → Adds found old mid → Drops (Some place) mid new → Adds found without new
      comes_last-by None other adds drops = λ at. drops at ∙ ap (λ (b : Bool). cond (is_at (nat_cmp place) at) false b) (adds at)
      comes_last-by (Some next) other adds drops = λ at. drops at ∙ ap (λ (b : Bool). cond (is_at (nat_cmp place) at) false b) (adds at) ∙ turned (is_at (nat_cmp place) at) (is_at (nat_cmp next) at) (old at)
          (λ here there. other (ap (λ (n : ℕ). Some n) (at_is next at there ∙ sym (at_is place at here))))

-- what is next passes, and the channel's next place is kept for its own
pub pass_next : (end place : ℕ) (old new : Watch) (d : Delivery) (s : ℕ × Delivery) (b : Bool) (one : Option ℕ) (mid : ℕ → Bool) → keeps old place ≡ true → ((at : ℕ) → keeps old at ≡ true → place ≤ at) → place < end
    → slice_get (sent_of old) place ≡ Some s → (b ≡ true) ↔ (d ≡ s.1) → b ≡ true → IsFirst (is_on s.0 s.1.note.channel) (sent_of old) (place + 1) one → new.feed ≡ old.feed → new.db ≡ old.db
    → Adds one (keeps old) mid → Drops (Some place) mid (keeps new) → Passes end old d true new
pass_next end place old new d s b one mid on least lt e test holds first feed db adds drops = λ from le. record {
  feed = feed;
  db = db;
  next = λ set are.
      let n = (are place).0 on in
      let its : is_on old.db n.channel s ≡ true = sym (passes_at (is_on old.db n.channel) (sent_of old) place s e) ∙ n.first.1 in
      let base : s.0 ≡ old.db = (Decides-eqb s.0 old.db).0 (both (s.0 == old.db) (bytes_eq n.channel s.1.note.channel) its).0 in
      let here : IsFirst (is_on old.db s.1.note.channel) (sent_of old) (place + 1) one = subst (λ (n : ℕ). IsFirst (is_on n s.1.note.channel) (sent_of old) (place + 1) one) base first in
      let other : one ≡ Some place → ⊥ = λ same. not_itself (is_on old.db s.1.note.channel) (sent_of old) place one here same in
      let p = pass_on end place old new d s b one (without place one (keeps old) mid (keeps new)) on least lt e test holds here feed db (λ at. refl) (comes_last place one (keeps old) mid (keeps new) other adds drops) in
      (p from le).next set are;
}

-- Deliveries one after another.

-- a watch after notifications that were received, one by one
abbrev pub HasTaken : ℕ → Watch → List Delivery → Watch → Type 0
HasTaken end old got now = (from : ℕ) → from ≤ end → GoesOn old from now (λ sent set. HasPassed old.db set sent from end got (keeps now))

-- before the first one a watch is as it was
pub taken_first : (end : ℕ) (old : Watch) → HasTaken end old [] old
taken_first end old = λ from le. record {
  feed = refl;
  db = refl;
  next = λ set are. record { place = from; within = le; due = refl; next = are };
}

-- a fact of a watch that kept its journal and its database is one of what it was
same_watch : (P : List (ℕ × Delivery) → ℕ → Type 0) (old new : Watch) → new.feed ≡ old.feed → new.db ≡ old.db → P (sent_of new) new.db → P (sent_of old) old.db
same_watch P old new feed db h = subst (λ (d : ℕ). P (sent_of old) d) db (subst (λ (f : _). P (sent_in f.now.sends.journal.now) new.db) feed h)

-- and one of what it was is one of the watch
watch_same : (P : List (ℕ × Delivery) → ℕ → Type 0) (old new : Watch) → new.feed ≡ old.feed → new.db ≡ old.db → P (sent_of old) old.db → P (sent_of new) new.db
watch_same P old new feed db h = subst (λ (d : ℕ). P (sent_of new) d) (sym db) (subst (λ (f : _). P (sent_in f.now.sends.journal.now) old.db) (sym feed) h)

-- after one more that passes
pub taken_more : (end : ℕ) (old mid new : Watch) (got : List Delivery) (d : Delivery) → HasTaken end old got mid → Passes end mid d true new → HasTaken end old (got ++ d ∷ []) new
taken_more end old mid new got d h passes = λ from le.
    let a = h from le in
    record {
      feed = (let p = passes from le in p.feed) ∙ a.feed;
      db = (let p = passes from le in p.db) ∙ a.db;
      next = λ set are.
          let p = a.next set are in
          let there : AreNext mid.db set (sent_of mid) p.place (keeps mid) = watch_same (λ sent base. AreNext base set sent p.place (keeps mid)) old mid a.feed a.db p.next in
          let q : HasPassed old.db set (sent_of old) p.place end (d ∷ []) (keeps new) =
          same_watch (λ sent base. HasPassed base set sent p.place end (d ∷ []) (keeps new)) old mid a.feed a.db ((passes p.place p.within).next set there) in
          record {
            place = q.place;
            within = q.within;
            due = p.due ∙ ap (λ (ds : List Delivery). got ++ ds) q.due ∙ sym (append_assoc got (d ∷ []) (due_between old.db set (sent_of old) q.place end));
            next = q.next;
          };
    }

-- what was taken, where the watch stood at a mark
record HasRead (journal : List Tx) (db : ℕ) (set : List (List ℕ)) (mark to : ℕ) (got : List Delivery) (now : Watch) : Type 0 where
  pub over : journal_of now ≡ journal
  pub within : now.db ≡ db
  pub passed : HasPassed db set (sent_in journal) (sent_before journal mark) (sent_before journal to) got (keeps now)

-- what a watch got, from where it stood on, is what is due up to its end
has_read : (journal : List Tx) (db : ℕ) (set : List (List ℕ)) (mark to end : ℕ) (got : List Delivery) (old now : Watch) → mark ≤ to → IsWatch journal db set (Some mark) old → end ≡ sent_before (journal_of old) to
    → HasTaken end old got now → HasRead journal db set mark to got now
has_read journal db set mark to end got old now le h is taken =
    let upto : end ≡ sent_before journal to = is ∙ ap (λ (j : List Tx). sent_before j to) h.over in
    let there : HasTaken (sent_before journal to) old got now = subst (λ (n : ℕ). HasTaken n old got now) upto taken in
    let a = there (sent_before journal mark) (before_grows journal mark to le) in
    let are : AreNext old.db set (sent_of old) (sent_before journal mark) (keeps old) =
    subst (λ (d : ℕ). AreNext d set (sent_of old) (sent_before journal mark) (keeps old)) (sym h.within) (subst (λ (j : List Tx). AreNext db set (sent_in j) (sent_before journal mark) (keeps old)) (sym h.over) h.next) in
    record {
      over = ap (λ (f : _). f.now.sends.journal.now) a.feed ∙ h.over;
      within = a.db ∙ h.within;
      passed = subst (λ (d : ℕ). HasPassed d set (sent_in journal) (sent_before journal mark) (sent_before journal to) got (keeps now)) h.within
          (subst (λ (j : List Tx). HasPassed old.db set (sent_in j) (sent_before journal mark) (sent_before journal to) got (keeps now)) h.over (a.next set are));
    }

-- a watch that took all it got is at the end exactly where that was all that is due
pub takes_end : (journal : List Tx) (db mark : ℕ) (set : List (List ℕ)) (to end : ℕ) (got : List Delivery) (old now : Watch) (b : Bool) → end ≡ sent_before (journal_of old) to → HasTaken end old got now
    → (b ≡ true) ↔ ((at : ℕ) → keeps now at ≡ true → end ≤ at) → 3 ≤ mark → mark ≤ to → IsWatch journal db set (Some mark) old
    → ((b ≡ true) ↔ (got ≡ due journal mark to db set)) × (b ≡ true → IsWatch journal db set (Some to) now)
takes_end journal db mark set to end got old now b is taken test low le h =
    let upto : end ≡ sent_before journal to = is ∙ ap (λ (j : List Tx). sent_before j to) h.over in
    let r = has_read journal db set mark to end got old now le h is taken in
    let p = r.passed in
    let all = due_is journal mark to db set low le in (
      (
        λ t.
            let none = due_none db set (sent_in journal) p.place (sent_before journal to) (keeps now) p.next (λ at on. omega (arith, upto, test.0 t at on)) in
            sym (all ∙ p.due ∙ ap (λ (ds : List Delivery). got ++ ds) none ∙ append-nil got),
        λ e.
            let whole : got ++ due_between db set (sent_in journal) p.place (sent_before journal to) ≡ got ++ [] = sym p.due ∙ sym all ∙ sym e ∙ sym (append-nil got) in
            let none = append_cancel_left got (due_between db set (sent_in journal) p.place (sent_before journal to)) [] whole in
            test.1 (λ at on. omega (arith, upto, none_due db set (sent_in journal) p.place (sent_before journal to) (keeps now) p.next none at on)),
      ),
      λ t. record {
        over = r.over;
        within = r.within;
        next = past_next db set (sent_in journal) p.place (keeps now) p.next (sent_before journal to) p.within (λ at on. omega (arith, upto, test.0 t at on));
      },
    )

-- what was got is not what is due, where one of it does not pass
pub takes_off : (journal : List Tx) (db mark : ℕ) (set : List (List ℕ)) (to end : ℕ) (got : List Delivery) (i : ℕ) (d : Delivery) (old mid new : Watch) → end ≡ sent_before (journal_of old) to → HasTaken end old (take i got) mid
    → Passes end mid d false new → i < length got → d ≡ get_or got i d → 3 ≤ mark → mark ≤ to → IsWatch journal db set (Some mark) old
    → ((false ≡ true) ↔ (got ≡ due journal mark to db set)) × (false ≡ true → IsWatch journal db set (Some to) new)
takes_off journal db mark set to end got i d old mid new is taken off lt its low le h =
    let upto : end ≡ sent_before journal to = is ∙ ap (λ (j : List Tx). sent_before j to) h.over in
    let r = has_read journal db set mark to end (take i got) old mid le h is taken in
    let p = r.passed in
    let there : AreNext mid.db set (sent_of mid) p.place (keeps mid) =
    subst (λ (n : ℕ). AreNext n set (sent_of mid) p.place (keeps mid)) (sym r.within) (subst (λ (j : List Tx). AreNext db set (sent_in j) p.place (keeps mid)) (sym r.over) p.next) in
    let fails = (off p.place (omega (arith, upto, p.within))).next set there in (
      (
        λ t. absurd (false≢true t),
        λ e.
            let rest : drop i got ≡ d ∷ drop (i + 1) got = drop_more got i d lt ∙ ap (λ (x : Delivery). x ∷ drop (i + 1) got) (sym its) in
            let split : take i got ++ (d ∷ drop (i + 1) got) ≡ take i got ++ due_between db set (sent_in journal) p.place (sent_before journal to) =
            ap (λ (ds : List Delivery). take i got ++ ds) (sym rest) ∙ take-append-drop i got ∙ e ∙ due_is journal mark to db set low le ∙ p.due in
            let comes : due_between db set (sent_in journal) p.place (sent_before journal to) ≡ d ∷ drop (i + 1) got =
            sym (append_cancel_left (take i got) (d ∷ drop (i + 1) got) (due_between db set (sent_in journal) p.place (sent_before journal to)) split) in
            let comes-mid : due_between mid.db set (sent_of mid) p.place end ≡ d ∷ drop (i + 1) got =
            ap (λ (n : ℕ). due_between n set (sent_of mid) p.place end) r.within ∙ ap (λ (j : List Tx). due_between db set (sent_in j) p.place end) r.over
            ∙ ap (λ (n : ℕ). due_between db set (sent_in journal) p.place n) upto ∙ comes in
            absurd (fails (drop (i + 1) got) comes-mid),
      ),
      λ t. absurd (false≢true t),
    )

-- Actions one after another.

-- a watch after actions, one by one
abbrev pub HasActed : ℕ → Watch → List Action → Watch → Type 0
HasActed from old actions now = Changes from old (λ set other. other ≡ applied set actions) now

-- before the first one a watch is as it was
pub acted_first : (from : ℕ) (old : Watch) → HasActed from old [] old
acted_first from old = record {
  feed = refl;
  db = refl;
  next = λ set are other e. subst (λ (s : List (List ℕ)). AreNext old.db s (sent_of old) from (keeps old)) (sym e) are;
}

applied-push : (set : List (List ℕ)) (actions : List Action) (action : Action) → applied set (actions ++ action ∷ []) ≡ after_action (applied set actions) action
applied-push set [] action = refl
applied-push set (a ∷ actions) action = applied-push (after_action set a) actions action

-- after one action more
pub acted_more : (from : ℕ) (old mid new : Watch) (actions : List Action) (action : Action) → HasActed from old actions mid → Changes from mid (λ set other. other ≡ after_action set action) new → HasActed from old (actions ++ action ∷ []) new
acted_more from old mid new actions action h one = record {
  feed = one.feed ∙ h.feed;
  db = one.db ∙ h.db;
  next = λ set are other e.
      let at_mid : AreNext mid.db (applied set actions) (sent_of mid) from (keeps mid) = watch_same (λ sent base. AreNext base (applied set actions) sent from (keeps mid)) old mid h.feed h.db (h.next set are (applied set actions) refl) in
      let at_new = one.next (applied set actions) at_mid (after_action (applied set actions) action) refl in
      subst (λ (s : List (List ℕ)). AreNext old.db s (sent_of old) from (keeps new)) (sym (e ∙ applied-push set actions action))
      (same_watch (λ sent base. AreNext base (after_action (applied set actions) action) sent from (keeps new)) old mid h.feed h.db at_new);
}

-- a watch after the actions of a listener is that of its set after them
pub acts_at : (journal : List Tx) (db mark : ℕ) (set : List (List ℕ)) (from : ℕ) (old new : Watch) (actions : List Action) → from ≡ sent_before (journal_of old) mark → HasActed from old actions new → IsWatch journal db set (Some mark) old
    → IsWatch journal db (applied set actions) (Some mark) new
acts_at journal db mark set from old new actions is h w =
    let at : from ≡ sent_before journal mark = is ∙ ap (λ (j : List Tx). sent_before j mark) w.over in
    let are : AreNext old.db set (sent_of old) from (keeps old) =
    subst (λ (n : ℕ). AreNext old.db set (sent_of old) n (keeps old)) (sym at)
    (subst (λ (d : ℕ). AreNext d set (sent_of old) (sent_before journal mark) (keeps old)) (sym w.within) (subst (λ (j : List Tx). AreNext db set (sent_in j) (sent_before journal mark) (keeps old)) (sym w.over) w.next)) in
    let done = h.next set are (applied set actions) refl in
    record {
      over = ap (λ (f : _). f.now.sends.journal.now) h.feed ∙ w.over;
      within = h.db ∙ w.within;
      next = subst (λ (n : ℕ). AreNext db (applied set actions) (sent_in journal) n (keeps new)) at
          (subst (λ (d : ℕ). AreNext d (applied set actions) (sent_in journal) from (keeps new)) w.within (subst (λ (j : List Tx). AreNext old.db (applied set actions) (sent_in j) from (keeps new)) w.over done));
    }

-- A session that begins to read.

-- a watch that begins to read from a place on, over these channels
pub record HasBegun (from : ℕ) (old : Watch) (names : List (List ℕ)) (now : Watch) : Type 0 where
  pub feed : now.feed ≡ old.feed
  pub db : now.db ≡ old.db
  pub next : AreNext old.db names (sent_of old) from (keeps now)

-- one name behind the others is one channel more
more_name : (names : List (List ℕ)) (name : List ℕ) → IsMore name names (names ++ name ∷ [])
more_name names name = λ other. list_any-append (bytes_eq other) names (name ∷ []) ∙ or_assoc (has_name names other) (bytes_eq other name)

-- over one channel more
pub begun_more : (from : ℕ) (old mid new : Watch) (names : List (List ℕ)) (name : List ℕ) → HasBegun from old names mid → Changes from mid (IsMore name) new → HasBegun from old (names ++ name ∷ []) new
begun_more from old mid new names name h one = record {
  feed = one.feed ∙ h.feed;
  db = one.db ∙ h.db;
  next = same_watch (λ sent base. AreNext base (names ++ name ∷ []) sent from (keeps new)) old mid h.feed h.db
      (one.next names (watch_same (λ sent base. AreNext base names sent from (keeps mid)) old mid h.feed h.db h.next) (names ++ name ∷ []) (more_name names name));
}

-- a watch that begins over a set is that of a listener with this set
pub begins_at : (journal : List Tx) (db mark : ℕ) (before set : List (List ℕ)) (was : Option ℕ) (from : ℕ) (old new : Watch) → from ≡ sent_before (journal_of old) mark → HasBegun from old set new → IsWatch journal db before was old
    → IsWatch journal db set (Some mark) new
begins_at journal db mark before set was from old new is h w =
    let at : from ≡ sent_before journal mark = is ∙ ap (λ (j : List Tx). sent_before j mark) w.over in
    record {
      over = ap (λ (f : _). f.now.sends.journal.now) h.feed ∙ w.over;
      within = h.db ∙ w.within;
      next = subst (λ (n : ℕ). AreNext db set (sent_in journal) n (keeps new)) at
          (subst (λ (d : ℕ). AreNext d set (sent_in journal) from (keeps new)) w.within (subst (λ (j : List Tx). AreNext old.db set (sent_in j) from (keeps new)) w.over h.next));
    }
