-- What the worked examples of whole runs need: traces in parts, and tests that compute.
use Rattle.std.proofs.Common.{◌≡◌, ℕ, ◌≤◌, Bool, true, ◌&&◌, nat_le, nat_eq, eqb-true, eq-eqb, leb-true, not, ◌||◌, sym, subst, List, [], ◌∷◌, ◌++◌, fold, refl, arith}
use Rattle.std.specs.Prelude.{All, Contains, flat_map}
use Rattle.std.specs.List.{list_all, list_any}
use Rattle.std.proofs.lemmas.List.Folds.{Any-from_list_any}
use Rattle.std.proofs.lemmas.Bool.{and_parts}
use Rattle.std.proofs.lemmas.List.Elements.{All-nil, All-cons}
use Rattle.pgn_base.specs.declared.note.Note.{Note}
use Rattle.pgn_journal.specs.declared.tx.Fate.TheVariants.{Committed, Aborted}
use Rattle.pgn_base.specs.Notes.{IsNote}
use Rattle.pgn_journal.specs.Journal.{IsFinished}
use Rattle.pgn_examples.specs.Scripts.{finished}
use Rattle.pgn_model.specs.declared.trace.Trace.{Trace}
use Rattle.pgn_model.specs.declared.item.Item.{Item}
use Rattle.pgn_model.specs.declared.item.Item.TheVariants.{Line, Enlist, Publish, QueueFull, Leave, Reply, Refuse, Channels, Used, Raise, Found, TimedOut, Read}
use Rattle.pgn_journal.specs.declared.tx.Tx.{Tx}
use Rattle.pgn_model.specs.Along.{Along}
use Rattle.pgn_model.specs.Walk.{Terms, start, after_item, Allowed, IsGreatest}
use Rattle.pgn_model.specs.Trace.{IsLawful, state_after}
use Rattle.pgn_model.specs.Legal.{IsShownWithin, End, WasRaised, StoodAt}

-- the same two numbers
abbrev pub same_pair : ℕ × ℕ → ℕ × ℕ → Bool
same_pair a b = nat_eq a.0 b.0 && nat_eq a.1 b.1

pair_same : (a b : ℕ × ℕ) → a.0 ≡ b.0 → a.1 ≡ b.1 → a ≡ b
pair_same (a, b) (c, d) h k = cc

same_pair-true : (a b : ℕ × ℕ) → same_pair a b ≡ true → a ≡ b
same_pair-true a b h =
    let parts = and_parts (nat_eq a.0 b.0) (nat_eq a.1 b.1) h in
    pair_same a b (eqb-true a.0 b.0 parts.0) (eqb-true a.1 b.1 parts.1)

contained : {X : Type 0} (same : X → X → Bool) → ((a b : X) → same a b ≡ true → a ≡ b) → (xs : List X) (x : X) → list_any (same x) xs ≡ true → Contains xs x
contained {X = X} same f xs x h =
    let there = Any-from_list_any (same x) xs h in
    subst (λ (y : X). Contains xs y) (sym (f x there.1 there.4)) (there.0, there.2, there.3)

-- what holds where a test passes holds of each of a list of which all pass it
pub tested : {X : Type 0} (P : X → Type 0) (p : X → Bool) → ((x : X) → p x ≡ true → P x) → (xs : List X) → list_all p xs ≡ true → All P xs
tested P p f [] h = All-nil P
tested P p f (x ∷ xs) h = let parts = and_parts (p x) (list_all p xs) h in All-cons P x xs (f x parts.0) (tested P p f xs parts.1)

-- each number with which a flag was found is one with which it was raised, by a test that computes
pub all_found : (all : List End) → list_all (λ pair. list_any (same_pair pair) (flat_map (λ end. end.state.raised) all)) (flat_map (λ end. end.state.found) all) ≡ true → All (WasRaised all) (flat_map (λ end. end.state.found) all)
all_found all h =
    tested (WasRaised all) (λ pair. list_any (same_pair pair) (flat_map (λ (end : End). end.state.raised) all))
    (λ pair. contained same_pair same_pair-true (flat_map (λ (end : End). end.state.raised) all) pair) (flat_map (λ (end : End). end.state.found) all) h

-- the session stood at the mark, by a test that computes
abbrev pub stood_at : List End → ℕ × ℕ → Bool
stood_at all pair = list_any (λ end. nat_eq end.session pair.0 && list_any (nat_eq pair.1) end.state.marks) all

stood_there : (all : List End) (pair : ℕ × ℕ) → stood_at all pair ≡ true → StoodAt all pair
stood_there all pair h =
    let there = Any-from_list_any (λ (end : End). nat_eq end.session pair.0 && list_any (nat_eq pair.1) end.state.marks) all h in
    let parts = and_parts (nat_eq there.1.session pair.0) (list_any (nat_eq pair.1) there.1.state.marks) there.4 in
    (there.0, there.1, there.2, there.3, (eqb-true there.1.session pair.0 parts.0, contained nat_eq eqb-true there.1.state.marks pair.1 parts.1))

-- each session that is named as a holder stood at the floor mark, by a test that computes
pub all_stood : (all : List End) → list_all (stood_at all) (flat_map (λ end. end.state.named) all) ≡ true → All (StoodAt all) (flat_map (λ end. end.state.named) all)
all_stood all h = tested (StoodAt all) (stood_at all) (stood_there all) (flat_map (λ (end : End). end.state.named) all) h

-- a committed transaction with one notification is finished
pub one_committed : (session db : ℕ) (note : Note) → IsNote note → IsFinished (finished session db (note ∷ []) 1 Committed)
one_committed session db note h = record {
  some = λ e. cc;
  valid = All-cons IsNote note [] h (All-nil IsNote);
  different = λ i j d before within. absurd (omega (arith, before, within));
  queueing = refl;
}

-- so is an aborted one of which nothing was queued
pub one_aborted : (session db : ℕ) (note : Note) → IsNote note → IsFinished (finished session db (note ∷ []) 0 Aborted)
one_aborted session db note h = record {
  some = λ e. cc;
  valid = All-cons IsNote note [] h (All-nil IsNote);
  different = λ i j d before within. absurd (omega (arith, before, within));
  queueing = omega arith;
}

-- no number is shown that is past n, by a test that computes
abbrev pub shown_within : ℕ → Item → Bool
shown_within n (Enlist base point) = nat_le base n && nat_le point n
shown_within n (Publish xid notes) = nat_le xid n
shown_within n (QueueFull full notes) = nat_le full.xid n && nat_le full.floor_mark n
shown_within n (Used usage) = nat_le usage.at n && nat_le usage.floor_mark n
shown_within n (Raise value) = nat_le value n
shown_within n (Found value) = nat_le value n
shown_within n (Read from to got) = nat_le from n && nat_le to n
shown_within n item = true

two_within : (a b n : ℕ) → (nat_le a n && nat_le b n) ≡ true → (a ≤ n) × (b ≤ n)
two_within a b n h = let parts = and_parts (nat_le a n) (nat_le b n) h in (leb-true a n parts.0, leb-true b n parts.1)

is_within : (n : ℕ) (item : Item) → shown_within n item ≡ true → IsShownWithin n item
is_within n (Line line) h = tt
is_within n (Enlist base point) h = two_within base point n h
is_within n (Publish xid notes) h = leb-true xid n h
is_within n (QueueFull full notes) h = two_within full.xid full.floor_mark n h
is_within n Leave h = tt
is_within n (Reply tag warning) h = tt
is_within n (Refuse refusal) h = tt
is_within n (Channels names) h = tt
is_within n (Used usage) h = two_within usage.at usage.floor_mark n h
is_within n (Raise value) h = leb-true value n h
is_within n (Found value) h = leb-true value n h
is_within n (TimedOut looks) h = tt
is_within n (Read from to got) h = two_within from to n h

-- where the computed test says so, all traces show numbers within a bound
pub all_shown : (n : ℕ) (traces : List Trace) → list_all (λ trace. list_all (shown_within n) trace.items) traces ≡ true → All (λ trace. All (IsShownWithin n) trace.items) traces
all_shown n traces h =
    tested (λ (trace : Trace). All (IsShownWithin n) trace.items) (λ (trace : Trace). list_all (shown_within n) trace.items)
    (λ (trace : Trace) p. tested (IsShownWithin n) (shown_within n) (is_within n) trace.items p) traces h

-- along the first items, and then along the others
pub Along-append : {S I : Type 0} (next : S → I → S) (P : S → I → Type 0) (s : S) (front back : List I) → Along next P s front → Along next P (fold next s front) back → Along next P s (front ++ back)
Along-append next P s [] back h k = k
Along-append next P s (i ∷ front) back h k = (h.0, Along-append next P (next s i) front back h.1 k)

-- the first items of a trace, and then the others
pub lawful_in_parts : (terms : Terms) (journal : List Tx) (front back : List Item) → IsLawful terms journal front → Along after_item (Allowed terms journal) (state_after terms front) back → IsLawful terms journal (front ++ back)
lawful_in_parts terms journal front back h k = Along-append after_item (Allowed terms journal) (start terms.section) front back h k

-- each number that pairs show for a flag is at most a value, by a test that computes
abbrev pub not_greater : ℕ → ℕ → ℕ × ℕ → Bool
not_greater flag value pair = not (nat_eq pair.0 flag) || nat_le pair.1 value

not_greater-true : (flag value : ℕ) (pair : ℕ × ℕ) → not_greater flag value pair ≡ true → pair.0 ≡ flag → pair.1 ≤ value
not_greater-true flag value pair h e =
    let same : nat_eq pair.0 flag ≡ true = eq-eqb pair.0 flag e in
    let le : nat_le pair.1 value ≡ true = subst (λ (b : Bool). (not b || nat_le pair.1 value) ≡ true) same h in
    leb-true pair.1 value le

-- where the computed test says so, a value is the greatest of a flag
pub greatest : (pairs : List (ℕ × ℕ)) (flag value : ℕ) → list_all (not_greater flag value) pairs ≡ true → IsGreatest pairs flag value
greatest pairs flag value h = tested (λ (pair : ℕ × ℕ). pair.0 ≡ flag → pair.1 ≤ value) (not_greater flag value) (not_greater-true flag value) pairs h
