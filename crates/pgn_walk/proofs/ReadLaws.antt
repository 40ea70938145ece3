-- A read, where a session stands.
use Rattle.std.proofs.Common.{◌≡◌, ◌↔◌, ◌⊎◌, ℕ, ◌≤◌, max, Bool, true, false, ◌||◌, nat_le, List, [], length, drop, Option, Some, sym, ap, ◌∙◌, refl, subst, inl, inr, arith}
use Rattle.std.proofs.lemmas.Bool.{false≢true}
use Rattle.std.proofs.lemmas.Bool.Decides.{leb_tells}
use Rattle.std.proofs.lemmas.List.{drop_all, length-drop}
use Rattle.pgn_base.specs.declared.note.Delivery.{Delivery}
use Rattle.pgn_answers.specs.declared.block_state.BlockState.{BlockState}
use Rattle.pgn_answers.specs.declared.block_state.BlockState.TheVariants.{Idle, InBlock, Failed}
use Rattle.pgn_journal.specs.declared.tx.Tx.{Tx}
use Rattle.pgn_journal.specs.Due.{due}
use Rattle.pgn_due.specs.Next.{IsWatch}
use Rattle.pgn_due.specs.declared.watch.Watch.{Watch}
use Rattle.pgn_language.specs.declared.scenario.ScriptLine.{ScriptLine}
use Rattle.pgn_model.specs.declared.item.Item.TheVariants as item
use Rattle.pgn_model.specs.Walk.{State, Terms, MayRead}
use Rattle.pgn_walk.specs.declared.standing.Standing.{Standing}
use Rattle.pgn_ledger.specs.declared.to_show.ToShow.{ToShow}
use Rattle.pgn_ledger.specs.declared.to_show.ToShow.TheVariants as show
use Rattle.pgn_ledger.specs.ToShow.{owed_of}
use Rattle.pgn_walk.specs.Standing.{Holds}
use Rattle.pgn_walk.specs.Steps.{Moves, Reaches, is_idle, may_read, may_read_at}
use Rattle.pgn_walk.proofs.ItemLaws.{moves_not, moves_on, one_mark}

-- Whether the session may read.

idle_is : (state : BlockState) → is_idle state ≡ true → state ≡ Idle
idle_is Idle h = refl
idle_is InBlock h = absurd (false≢true h)
idle_is Failed h = absurd (false≢true h)

-- the script is done
pub over_is : (lines : List ScriptLine) (next : ℕ) → length lines ≤ next → drop next lines ≡ []
over_is lines next h = drop_all next lines h

-- a script with no lines left is at its end
pub is_over : (lines : List ScriptLine) (next : ℕ) → drop next lines ≡ [] → length lines ≤ next
is_over lines next h = omega (arith, length-drop next lines, ap length h)

or_is : (a b : Bool) → (a || b) ≡ true → (a ≡ true) ⊎ (b ≡ true)
or_is true b h = inl refl
or_is false b h = inr h

or_true : (a b : Bool) → b ≡ true → (a || b) ≡ true
or_true true b h = refl
or_true false b h = h

-- numbers that the test finds in order are so
pub le_is : (a b : ℕ) → nat_le a b ≡ true → a ≤ b
le_is a b h = elim (leb_tells a b) [
  | inl t ↦ t.1
  | inr t ↦ absurd (false≢true (sym t.0 ∙ h))
]

-- the test finds numbers in order that are so
pub is_le : (a b : ℕ) → a ≤ b → nat_le a b ≡ true
is_le a b h = elim (leb_tells a b) [
  | inl t ↦ t.0
  | inr t ↦ absurd (omega (arith, h, t.1))
]

may_at : (s : State) (left : ToShow) (block : BlockState) (lines : List ScriptLine) (next : ℕ) → s.block ≡ block → s.rest ≡ drop next lines → may_read_at left (is_idle block) (nat_le (length lines) next) ≡ true → MayRead s (owed_of left)
may_at s show.Nothing block lines next b r h = elim (or_is (is_idle block) (nat_le (length lines) next) h) [
  | inl idle ↦ inl (b ∙ idle_is block idle)
  | inr over ↦ inr (r ∙ over_is lines next (le_is (length lines) next over))
]
may_at s (show.Awaiting f) block lines next b r h = b ∙ idle_is block h
may_at s (show.Enlisting a n f) block lines next b r h = absurd (false≢true h)
may_at s (show.Queueing a n f) block lines next b r h = absurd (false≢true h)
may_at s (show.Leaving f) block lines next b r h = absurd (false≢true h)
may_at s (show.Answering f) block lines next b r h = absurd (false≢true h)
may_at s (show.Listing n f) block lines next b r h = absurd (false≢true h)
may_at s (show.Measuring f) block lines next b r h = absurd (false≢true h)
may_at s (show.Raising f) block lines next b r h = absurd (false≢true h)
may_at s show.Quitting block lines next b r h = absurd (false≢true h)

at_may : (s : State) (left : ToShow) (block : BlockState) (lines : List ScriptLine) (next : ℕ) → s.block ≡ block → s.rest ≡ drop next lines → MayRead s (owed_of left) → may_read_at left (is_idle block) (nat_le (length lines) next) ≡ true
at_may s show.Nothing block lines next b r (inl idle) = ap (λ (state : BlockState). is_idle state || nat_le (length lines) next) (sym b ∙ idle)
at_may s show.Nothing block lines next b r (inr over) = or_true (is_idle block) (nat_le (length lines) next) (is_le (length lines) next (is_over lines next (sym r ∙ over)))
at_may s (show.Awaiting f) block lines next b r h = ap is_idle (sym b ∙ h)
at_may s (show.Enlisting a n f) block lines next b r h = absurd h
at_may s (show.Queueing a n f) block lines next b r h = absurd h
at_may s (show.Leaving f) block lines next b r h = absurd h
at_may s (show.Answering f) block lines next b r h = absurd h
at_may s (show.Listing n f) block lines next b r h = absurd h
at_may s (show.Measuring f) block lines next b r h = absurd h
at_may s (show.Raising f) block lines next b r h = absurd h
at_may s show.Quitting block lines next b r h = absurd h

-- A read.

-- no read comes where none may
pub read_never : (terms : Terms) (journal : List Tx) (old new : Standing) (from to : ℕ) (got : List Delivery) (b : Bool) → b ≡ may_read old terms.section → b ≡ false → Moves terms journal old (item.Read from to got) false new
read_never terms journal old new from to got b test is = moves_not terms journal old new (item.Read from to got) (λ s h allowed.
    false≢true (sym is ∙ test ∙ at_may s old.owed old.block.state terms.section.lines old.next h.block h.rest (subst (MayRead s) h.owed allowed.in_turn)))

-- nor one from elsewhere than the mark, or to where it may not lead
pub read_far : (terms : Terms) (journal : List Tx) (old new : Standing) (from to : ℕ) (got : List Delivery) (b : Bool) → (b ≡ true) ↔ Reaches old journal from to → b ≡ false → Moves terms journal old (item.Read from to got) false new
read_far terms journal old new from to got b test is = moves_not terms journal old new (item.Read from to got) (λ s h allowed.
    false≢true (sym is ∙ test.1 (sym h.mark ∙ allowed.from_mark, allowed.forward, omega (arith, h.told, allowed.after_told), allowed.in_journal)))

-- what a watch tells of what was received up to a number, and where it stands behind it
abbrev pub Takes : ℕ → List Delivery → Watch → Bool → Watch → Type 0
Takes to got old taken new = (journal : List Tx) (db mark : ℕ) (set : List (List ℕ)) → 3 ≤ mark → mark ≤ to → IsWatch journal db set (Some mark) old
    → ((taken ≡ true) ↔ (got ≡ due journal mark to db set)) × (taken ≡ true → IsWatch journal db set (Some to) new)

-- the same where the session stands
takes_there : (terms : Terms) (journal : List Tx) (old : Standing) (watch : Watch) (from to : ℕ) (got : List Delivery) (d f : Bool) (s : State) → 3 ≤ from → (d ≡ true) ↔ Reaches old journal from to → d ≡ true → Takes to got old.watch f watch
    → Holds terms.section journal old s → ((f ≡ true) ↔ (got ≡ due journal from to terms.section.db s.set)) × (f ≡ true → IsWatch journal terms.section.db old.set.channels (Some to) watch)
takes_there terms journal old watch from to got d f s first reach far takes h =
    let t = reach.0 far in
    let here : IsWatch journal terms.section.db old.set.channels (Some from) old.watch = subst (λ (m : Option ℕ). IsWatch journal terms.section.db old.set.channels m old.watch) t.0 h.watch in
    let told = takes journal terms.section.db from old.set.channels first (omega (arith, t.1)) here in
    (subst (λ (channels : List (List ℕ)). (f ≡ true) ↔ (got ≡ due journal from to terms.section.db channels)) (sym h.set) told.0, told.1)

-- nor one that gives anything but what is due
pub read_other : (terms : Terms) (journal : List Tx) (old new : Standing) (watch : Watch) (from to : ℕ) (got : List Delivery) (d f : Bool) → 3 ≤ from → (d ≡ true) ↔ Reaches old journal from to → d ≡ true → Takes to got old.watch f watch
    → f ≡ false → Moves terms journal old (item.Read from to got) false new
read_other terms journal old new watch from to got d f first reach far takes off = moves_not terms journal old new (item.Read from to got) (λ s h allowed.
    false≢true (sym off ∙ (takes_there terms journal old watch from to got d f s first reach far takes h).0.1 allowed.received))

-- a read that passes these tests moves the mark to its end
pub read_on : (terms : Terms) (journal : List Tx) (old : Standing) (watch : Watch) (from to : ℕ) (got : List Delivery) (b d f : Bool) → 3 ≤ from → b ≡ may_read old terms.section → b ≡ true → (d ≡ true) ↔ Reaches old journal from to → d ≡ true
    → Takes to got old.watch f watch → f ≡ true → Moves terms journal old (item.Read from to got) true (record old { mark = Some to; told = to; greatest = max old.greatest to; watch = watch })
read_on terms journal old watch from to got b d f first test is reach far takes same =
    let t = reach.0 far in
    moves_on terms journal old (record old { mark = Some to; told = to; greatest = max old.greatest to; watch = watch }) (item.Read from to got)
    (λ s h. record {
      in_turn = subst (MayRead s) (sym h.owed) (may_at s old.owed old.block.state terms.section.lines old.next h.block h.rest (sym test ∙ is));
      from_mark = h.mark ∙ t.0;
      forward = t.1;
      after_told = omega (arith, h.told, t.2);
      in_journal = t.3;
      received = (takes_there terms journal old watch from to got d f s first reach far takes h).0.0 same;
    })
    (λ s h. record {
      rest = h.rest;
      owed = h.owed;
      block = h.block;
      changes = h.changes;
      set = h.set;
      mark = refl;
      told = omega (arith, h.told, t.2);
      marks = one_mark s.marks old.greatest (max old.greatest to) to h.marks refl;
      flags = h.flags;
      watch = (takes_there terms journal old watch from to got d f s first reach far takes h).1 same;
    })
