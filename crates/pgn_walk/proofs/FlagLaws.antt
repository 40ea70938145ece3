-- Flags, where a session stands.
use Rattle.std.proofs.Common.{◌≡◌, ◌≢◌, ◌↔◌, ℕ, ◌≤◌, max, Bool, true, false, List, [], ◌∷◌, ◌++◌, length, Option, Some, None, inl, inr, cond, not, nat_eq, sym, ap, ◌∙◌, refl, subst, arith}
use Rattle.std.specs.Prelude.{All, IfSome}
use Rattle.std.proofs.lemmas.Bool.{cases_Bool, cases_lt, false≢true}
use Rattle.std.proofs.lemmas.Bool.Decides.{Decides-eqb}
use Rattle.std.proofs.lemmas.List.{take-append-le}
use Rattle.std.proofs.lemmas.List.Elements.{All-contains, All-push, All-take, Contains-push}
use Rattle.std.proofs.Math.Seq.{take-length}
use Rattle.pgn_journal.specs.declared.tx.Tx.{Tx}
use Rattle.pgn_model.specs.declared.item.Item.TheVariants as item
use Rattle.pgn_model.specs.Walk.{Owed, State, Terms, IsAwaiting, IsGreatest, IsRaising, IsUnknown}
use Rattle.pgn_model.specs.Walk as walk
use Rattle.pgn_walk.specs.declared.standing.Standing.{Standing}
use Rattle.pgn_ledger.specs.declared.to_show.ToShow.{ToShow}
use Rattle.pgn_ledger.specs.declared.to_show.ToShow.TheVariants as show
use Rattle.pgn_ledger.specs.ToShow.{owed_of}
use Rattle.pgn_walk.specs.Standing.{AreKnown, Holds, known_at}
use Rattle.pgn_walk.specs.Steps.{Knows, Moves}
use Rattle.pgn_walk.proofs.ItemLaws.{moves_not, moves_on}

-- One pair more.

front : (P : ℕ × ℕ → Type 0) (pairs more : List (ℕ × ℕ)) → All P (pairs ++ more) → All P pairs
front P pairs more h = subst (λ (ps : List (ℕ × ℕ)). All P ps) (take-append-le (length pairs) pairs more (omega arith) ∙ take-length pairs) (All-take P (length pairs) (pairs ++ more) h)

last : (P : ℕ × ℕ → Type 0) (pairs : List (ℕ × ℕ)) (pair : ℕ × ℕ) → All P (pairs ++ pair ∷ []) → P pair
last P pairs pair h = All-contains P (pairs ++ pair ∷ []) pair h (Contains-push pairs pair)

more_raised : (raised found : List (ℕ × ℕ)) (old new : Standing) (flag value : ℕ) → AreKnown raised found old.known.entries → Knows old flag value new → AreKnown (raised ++ (flag, value) ∷ []) found new.known.entries
more_raised raised found old new flag value h k = record {
  greatest = λ other most.
      let P : ℕ × ℕ → Type 0 = λ pair. pair.0 ≡ other → pair.1 ≤ most in (
        λ all. (k.more other most).1 ((h.greatest other most).0 (front P raised ((flag, value) ∷ []) all.0, all.1), λ e. last P raised (flag, value) all.0 (sym e)),
        λ most_known.
            let m = (k.more other most).0 most_known in
            let g = (h.greatest other most).1 m.0 in
            (All-push P raised (flag, value) g.0 (λ e. m.1 (sym e)), g.1),
      );
  unknown = λ other.
      let P : ℕ × ℕ → Type 0 = λ pair. pair.0 ≢ other in (
        λ all. (k.none other).1 ((h.unknown other).0 (front P raised ((flag, value) ∷ []) all.0, all.1), λ e. last P raised (flag, value) all.0 (sym e)),
        λ none.
            let m = (k.none other).0 none in
            let g = (h.unknown other).1 m.0 in
            (All-push P raised (flag, value) g.0 (λ e. m.1 (sym e)), g.1),
      );
}

swapped : (raised found known : List (ℕ × ℕ)) → AreKnown raised found known → AreKnown found raised known
swapped raised found known h = record {
  greatest = λ other most. (λ all. (h.greatest other most).0 (all.1, all.0), λ m. let g = (h.greatest other most).1 m in (g.1, g.0));
  unknown = λ other. (λ all. (h.unknown other).0 (all.1, all.0), λ m. let g = (h.unknown other).1 m in (g.1, g.0));
}

more_found : (raised found : List (ℕ × ℕ)) (old new : Standing) (flag value : ℕ) → AreKnown raised found old.known.entries → Knows old flag value new → AreKnown raised (found ++ (flag, value) ∷ []) new.known.entries
more_found raised found old new flag value h k = swapped (found ++ (flag, value) ∷ []) raised new.known.entries (more_raised found raised old new flag value (swapped raised found old.known.entries h) k)

-- What is kept of a flag.

most_some : (known : Option ℕ) (value most : ℕ) → IfSome known (λ n. n ≤ value) → (IfSome known (λ n. n ≤ most) × (value ≤ most)) ↔ (value ≤ most)
most_some None value most h = (λ p. p.1, λ le. (tt, le))
most_some (Some n) value most h = (λ p. p.1, λ le. (omega (arith, h, le), le))

most_kept : (known : Option ℕ) (value most : ℕ) → (IfSome known (λ n. n ≤ value) → ⊥) → IfSome known (λ n. n ≤ most) → value ≤ most
most_kept None value most h le = absurd (h tt)
most_kept (Some n) value most h le = elim (cases_lt value n) [
  | inr few ↦ absurd (h few)
  | inl much ↦ omega (arith, much, le)
]

some_kept : (known : Option ℕ) (value : ℕ) → (IfSome known (λ n. n ≤ value) → ⊥) → known ≡ None → ⊥
some_kept None value h e = h tt
some_kept (Some n) value h e = let no : ⊥ = cc in no

-- a number that is put for a flag is known, where none known for it is greater
pub knows_put : (old new : Standing) (flag value : ℕ) → new ≡ record old { known = new.known } → ((q : ℕ) → known_at new.known.entries q ≡ cond (nat_eq flag q) (Some value) (known_at old.known.entries q))
    → IfSome (known_at old.known.entries flag) (λ n. n ≤ value) → Knows old flag value new
knows_put old new flag value same puts few = record {
  same = same;
  more = λ other most. elim (cases_Bool (nat_eq flag other)) [
    | inl is ↦
        let e : flag ≡ other = (Decides-eqb flag other).0 is in
        let there : known_at new.known.entries other ≡ Some value = puts other ∙ ap (λ (b : Bool). cond b (Some value) (known_at old.known.entries other)) is in
        let f : IfSome (known_at old.known.entries other) (λ n. n ≤ value) = subst (λ (q : ℕ). IfSome (known_at old.known.entries q) (λ n. n ≤ value)) e few in (
          λ le. let fits : value ≤ most = subst (λ (o : Option ℕ). IfSome o (λ n. n ≤ most)) there le in (((most_some (known_at old.known.entries other) value most f).1 fits).0, λ _. fits),
          λ p. subst (λ (o : Option ℕ). IfSome o (λ n. n ≤ most)) (sym there) (p.1 (sym e)),
        )
    | inr is ↦
        let there : known_at new.known.entries other ≡ known_at old.known.entries other = puts other ∙ ap (λ (b : Bool). cond b (Some value) (known_at old.known.entries other)) is in (
          λ le. (subst (λ (o : Option ℕ). IfSome o (λ n. n ≤ most)) there le, λ e. absurd (false≢true (sym is ∙ (Decides-eqb flag other).1 (sym e)))),
          λ p. subst (λ (o : Option ℕ). IfSome o (λ n. n ≤ most)) (sym there) p.0,
        )
  ];
  none = λ other. elim (cases_Bool (nat_eq flag other)) [
    | inl is ↦
        let there : known_at new.known.entries other ≡ Some value = puts other ∙ ap (λ (b : Bool). cond b (Some value) (known_at old.known.entries other)) is in
        (λ e. absurd (let clash : Some value ≡ None = sym there ∙ e in let no : ⊥ = cc in no), λ p. absurd (p.1 (sym ((Decides-eqb flag other).0 is))))
    | inr is ↦
        let there : known_at new.known.entries other ≡ known_at old.known.entries other = puts other ∙ ap (λ (b : Bool). cond b (Some value) (known_at old.known.entries other)) is in
        (λ e. (sym there ∙ e, λ f. false≢true (sym is ∙ (Decides-eqb flag other).1 (sym f))), λ p. there ∙ p.0)
  ];
}

-- where a greater one is known, it stays
pub knows_kept : (old : Standing) (flag value : ℕ) → (IfSome (known_at old.known.entries flag) (λ n. n ≤ value) → ⊥) → Knows old flag value old
knows_kept old flag value much = record {
  same = refl;
  more = λ other most. (λ le. (le, λ e. most_kept (known_at old.known.entries flag) value most much (subst (λ (q : ℕ). IfSome (known_at old.known.entries q) (λ n. n ≤ most)) e le)), λ p. p.0);
  none = λ other. (λ e. (e, λ f. some_kept (known_at old.known.entries flag) value much (subst (λ (q : ℕ). known_at old.known.entries q ≡ None) f e)), λ p. p.0);
}

-- A flag is raised.

not_raising : (left : ToShow) → ((f : ℕ) → left ≡ show.Raising f → ⊥) → IsRaising (owed_of left) → ⊥
not_raising (show.Raising f) no_one is = no_one f refl
not_raising show.Nothing no_one is = is
not_raising (show.Enlisting a n f) no_one is = is
not_raising (show.Queueing a n f) no_one is = is
not_raising (show.Leaving f) no_one is = is
not_raising (show.Answering f) no_one is = is
not_raising (show.Listing n f) no_one is = is
not_raising (show.Measuring f) no_one is = is
not_raising (show.Awaiting f) no_one is = is
not_raising show.Quitting no_one is = is

-- who owes no flag may not raise one
pub raise_never : (terms : Terms) (journal : List Tx) (old new : Standing) (value : ℕ) → ((f : ℕ) → old.owed ≡ show.Raising f → ⊥) → Moves terms journal old (item.Raise value) false new
raise_never terms journal old new value no_one = moves_not terms journal old new (item.Raise value) (λ s h allowed. not_raising old.owed no_one (subst IsRaising h.owed allowed.expected))

-- nor with another number than what it was told of
pub raise_other : (terms : Terms) (journal : List Tx) (old new : Standing) (value : ℕ) → value ≢ old.told → Moves terms journal old (item.Raise value) false new
raise_other terms journal old new value other = moves_not terms journal old new (item.Raise value) (λ s h allowed. other (allowed.told ∙ h.told))

-- a flag that is owed is raised with that number, and it is known
pub raise_on : (terms : Terms) (journal : List Tx) (old mid : Standing) (flag value : ℕ) → old.owed ≡ show.Raising flag → value ≡ old.told → Knows old flag value mid
    → Moves terms journal old (item.Raise value) true (record mid { owed = show.Nothing })
raise_on terms journal old mid flag value e told k =
    moves_on terms journal old (record mid { owed = show.Nothing }) (item.Raise value)
    (λ s h. record { expected = subst IsRaising (sym (h.owed ∙ ap owed_of e)) tt; told = told ∙ sym h.told })
    (λ s h.
    let after : State = record s { raised = s.raised ++ (flag, value) ∷ []; owed = walk.Nothing } in
    let stands : Holds terms.section journal (record old { known = mid.known; owed = show.Nothing }) after = record {
      rest = h.rest;
      owed = refl;
      block = h.block;
      changes = h.changes;
      set = h.set;
      mark = h.mark;
      told = h.told;
      marks = h.marks;
      flags = more_raised s.raised s.found old mid flag value h.flags k;
      watch = h.watch;
    } in
    subst (λ (owed : Owed). Holds terms.section journal (record mid { owed = show.Nothing }) (walk.at_raise value s owed)) (sym (h.owed ∙ ap owed_of e))
    (subst (λ (m : Standing). Holds terms.section journal (record m { owed = show.Nothing }) after) (sym k.same) stands))

turned : (t : Bool) → not t ≡ false → t ≡ true
turned true h = refl
turned false h = absurd (false≢true (sym h))

-- the test finds two numbers the same
pub told_is : (value told : ℕ) (b : Bool) → b ≡ not (nat_eq value told) → b ≡ false → value ≡ told
told_is value told b test is = (Decides-eqb value told).0 (turned (nat_eq value told) (sym test ∙ is))

-- A flag is found, or not.

not_awaiting : (left : ToShow) (P : ℕ → Type 0) → ((f : ℕ) → left ≡ show.Awaiting f → ⊥) → IsAwaiting (owed_of left) P → ⊥
not_awaiting (show.Awaiting f) P no_one is = no_one f refl
not_awaiting show.Nothing P no_one is = is
not_awaiting (show.Enlisting a n f) P no_one is = is
not_awaiting (show.Queueing a n f) P no_one is = is
not_awaiting (show.Leaving f) P no_one is = is
not_awaiting (show.Answering f) P no_one is = is
not_awaiting (show.Listing n f) P no_one is = is
not_awaiting (show.Measuring f) P no_one is = is
not_awaiting (show.Raising f) P no_one is = is
not_awaiting show.Quitting P no_one is = is

-- who awaits no flag may not find one
pub find_never : (terms : Terms) (journal : List Tx) (old new : Standing) (value : ℕ) → ((f : ℕ) → old.owed ≡ show.Awaiting f → ⊥) → Moves terms journal old (item.Found value) false new
find_never terms journal old new value no_one = moves_not terms journal old new (item.Found value) (λ s h allowed.
    let P : ℕ → Type 0 = λ flag. IsGreatest s.raised flag value × IsGreatest s.found flag value in
    not_awaiting old.owed P no_one (subst (λ (owed : Owed). IsAwaiting owed P) h.owed allowed))

-- nor with a smaller number than one that is known
pub find_small : (terms : Terms) (journal : List Tx) (old new : Standing) (flag value : ℕ) (b : Bool) → old.owed ≡ show.Awaiting flag → (b ≡ true) ↔ IfSome (known_at old.known.entries flag) (λ most. most ≤ value) → b ≡ false
    → Moves terms journal old (item.Found value) false new
find_small terms journal old new flag value b e test is = moves_not terms journal old new (item.Found value) (λ s h allowed.
    let P : ℕ → Type 0 = λ f. IsGreatest s.raised f value × IsGreatest s.found f value in
    false≢true (sym is ∙ test.1 ((h.flags.greatest flag value).0 (subst (λ (owed : Owed). IsAwaiting owed P) (h.owed ∙ ap owed_of e) allowed))))

-- an awaited flag is found with each other number, and the session is told of it
pub find_on : (terms : Terms) (journal : List Tx) (old mid : Standing) (flag value : ℕ) (b : Bool) → old.owed ≡ show.Awaiting flag → (b ≡ true) ↔ IfSome (known_at old.known.entries flag) (λ most. most ≤ value) → b ≡ true → Knows old flag value mid
    → Moves terms journal old (item.Found value) true (record mid { told = max mid.told value; owed = show.Nothing })
find_on terms journal old mid flag value b e test is k =
    moves_on terms journal old (record mid { told = max mid.told value; owed = show.Nothing }) (item.Found value)
    (λ s h.
    let P : ℕ → Type 0 = λ f. IsGreatest s.raised f value × IsGreatest s.found f value in
    subst (λ (owed : Owed). IsAwaiting owed P) (sym (h.owed ∙ ap owed_of e)) ((h.flags.greatest flag value).1 (test.0 is)))
    (λ s h.
    let after : State = record s { told = max s.told value; found = s.found ++ (flag, value) ∷ []; owed = walk.Nothing } in
    let stands : Holds terms.section journal (record old { known = mid.known; told = max old.told value; owed = show.Nothing }) after = record {
      rest = h.rest;
      owed = refl;
      block = h.block;
      changes = h.changes;
      set = h.set;
      mark = h.mark;
      told = ap (λ (n : ℕ). max n value) h.told;
      marks = h.marks;
      flags = more_found s.raised s.found old mid flag value h.flags k;
      watch = h.watch;
    } in
    subst (λ (owed : Owed). Holds terms.section journal (record mid { told = max mid.told value; owed = show.Nothing }) (walk.at_found value s owed)) (sym (h.owed ∙ ap owed_of e))
    (subst (λ (m : Standing). Holds terms.section journal (record m { told = max m.told value; owed = show.Nothing }) after) (sym k.same) stands))

-- who awaits no flag may not give up
pub time_never : (terms : Terms) (journal : List Tx) (old new : Standing) (looks : ℕ) → ((f : ℕ) → old.owed ≡ show.Awaiting f → ⊥) → Moves terms journal old (item.TimedOut looks) false new
time_never terms journal old new looks no_one = moves_not terms journal old new (item.TimedOut looks) (λ s h allowed.
    let P : ℕ → Type 0 = λ flag. IsUnknown s.raised flag × IsUnknown s.found flag in
    not_awaiting old.owed P no_one (subst (λ (owed : Owed). IsAwaiting owed P) h.owed allowed.awaited))

-- nor after other looks than its patience
pub time_other : (terms : Terms) (journal : List Tx) (old new : Standing) (looks : ℕ) → looks ≢ terms.settings.patience → Moves terms journal old (item.TimedOut looks) false new
time_other terms journal old new looks other = moves_not terms journal old new (item.TimedOut looks) (λ s h allowed. other allowed.patient)

-- nor on a flag that is known
pub time_known : (terms : Terms) (journal : List Tx) (old new : Standing) (flag looks : ℕ) (b : Bool) → old.owed ≡ show.Awaiting flag → (b ≡ false) ↔ (known_at old.known.entries flag ≡ None) → b ≡ true → Moves terms journal old (item.TimedOut looks) false new
time_known terms journal old new flag looks b e test is = moves_not terms journal old new (item.TimedOut looks) (λ s h allowed.
    let P : ℕ → Type 0 = λ f. IsUnknown s.raised f × IsUnknown s.found f in
    false≢true (sym (test.1 ((h.flags.unknown flag).0 (subst (λ (owed : Owed). IsAwaiting owed P) (h.owed ∙ ap owed_of e) allowed.awaited))) ∙ is))

-- an awaited flag that is not known is given up after these looks
pub time_on : (terms : Terms) (journal : List Tx) (old : Standing) (flag looks : ℕ) (b : Bool) → old.owed ≡ show.Awaiting flag → looks ≡ terms.settings.patience → (b ≡ false) ↔ (known_at old.known.entries flag ≡ None) → b ≡ false
    → Moves terms journal old (item.TimedOut looks) true (record old { owed = show.Nothing })
time_on terms journal old flag looks b e patient test is =
    moves_on terms journal old (record old { owed = show.Nothing }) (item.TimedOut looks)
    (λ s h.
    let P : ℕ → Type 0 = λ f. IsUnknown s.raised f × IsUnknown s.found f in
    record { awaited = subst (λ (owed : Owed). IsAwaiting owed P) (sym (h.owed ∙ ap owed_of e)) ((h.flags.unknown flag).1 (test.0 is)); patient = patient })
    (λ s h. record {
      rest = h.rest;
      owed = refl;
      block = h.block;
      changes = h.changes;
      set = h.set;
      mark = h.mark;
      told = h.told;
      marks = h.marks;
      flags = h.flags;
      watch = h.watch;
    })
