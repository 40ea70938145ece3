-- A transaction commits.
use Rattle.std.proofs.Common.{◌≡◌, ℕ, ◌==◌, Bool, true, false, ◌&&◌, List, [], ◌∷◌, length, Option, is_some, is_none, if◌then◌else◌, sym, ap, ◌∙◌, refl, subst, arith}
use Rattle.std.specs.List.{list_any}
use Rattle.std.proofs.lemmas.Bool.{false≢true}
use Rattle.std.proofs.lemmas.Bool.Decides.{Decides-eqb}
use Rattle.pgn_base.specs.declared.note.Note.{Note}
use Rattle.pgn_base.specs.declared.action.Action.{Action}
use Rattle.pgn_base.specs.Channels.{applied}
use Rattle.pgn_listening.specs.Listening.{Listening}
use Rattle.pgn_answers.specs.Savepoints.{is_listen}
use Rattle.pgn_journal.specs.declared.tx.Tx.{Tx}
use Rattle.pgn_due.specs.Next.{IsWatch}
use Rattle.pgn_due.specs.declared.watch.Watch.{Watch}
use Rattle.pgn_language.specs.declared.scenario.Section.{Section}
use Rattle.pgn_model.specs.Walk.{State, is_empty_set, leaving_or_answering, queueing_or_settled, settled}
use Rattle.pgn_model.specs.Walk as walk
use Rattle.pgn_walk.specs.declared.standing.Standing.{Standing}
use Rattle.pgn_ledger.specs.declared.to_show.Ending.{Ending}
use Rattle.pgn_ledger.specs.declared.to_show.ToShow.{ToShow}
use Rattle.pgn_ledger.specs.declared.to_show.ToShow.TheVariants as show
use Rattle.pgn_ledger.specs.ToShow.{ending_of}
use Rattle.pgn_walk.specs.Standing.{GoesOn, Holds, IsReadyFor, Leads, commits}
use Rattle.pgn_walk.proofs.StandingLaws.{holds_owed}

-- the test that the walk makes is that of the session
tests_same : (section : Section) (journal : List Tx) (at : Standing) (s : State) → Holds section journal at s → (is_some s.mark && is_empty_set s.set) ≡ (is_some at.mark && is_empty_set at.set.channels)
tests_same section journal at s h = ap (λ (m : Option ℕ). is_some m && is_empty_set s.set) h.mark ∙ ap (λ (set : List (List ℕ)). is_some at.mark && is_empty_set set) h.set

-- a listener without channels owes to leave, and then its answer
pub leaves : (at : Standing) (ending : Ending) → (is_some at.mark && is_empty_set at.set.channels) ≡ true → Leads at (record at { owed = show.Leaving ending }) (λ s. leaving_or_answering s (ending_of ending))
leaves at ending test section journal s h =
    subst (λ (b : Bool). Holds section journal (record at { owed = show.Leaving ending }) (if b then record s { owed = walk.Leaving (ending_of ending) } else record s { owed = walk.Answering (ending_of ending) }))
    (sym (tests_same section journal at s h ∙ test)) (holds_owed section journal at s (show.Leaving ending) (walk.Leaving (ending_of ending)) h refl)

-- each other session owes its answer alone
pub answers : (at : Standing) (ending : Ending) → (is_some at.mark && is_empty_set at.set.channels) ≡ false → Leads at (record at { owed = show.Answering ending }) (λ s. leaving_or_answering s (ending_of ending))
answers at ending test section journal s h =
    subst (λ (b : Bool). Holds section journal (record at { owed = show.Answering ending }) (if b then record s { owed = walk.Leaving (ending_of ending) } else record s { owed = walk.Answering (ending_of ending) }))
    (sym (tests_same section journal at s h ∙ test)) (holds_owed section journal at s (show.Answering ending) (walk.Answering (ending_of ending)) h refl)

-- the set changes
pub acts : (at : Standing) (set : Listening) (watch : Watch) (actions : List Action) → set.channels ≡ applied at.set.channels actions
    → ((journal : List Tx) (db : ℕ) (channels : List (List ℕ)) → IsWatch journal db channels at.mark at.watch → IsWatch journal db (applied channels actions) at.mark watch)
    → Leads at (record at { set = set; watch = watch }) (λ s. record s { set = applied s.set actions })
acts at set watch actions e follows section journal s h = record {
  rest = h.rest;
  owed = h.owed;
  block = h.block;
  changes = h.changes;
  set = ap (λ (channels : List (List ℕ)). applied channels actions) h.set ∙ sym e;
  mark = h.mark;
  told = h.told;
  marks = h.marks;
  flags = h.flags;
  watch = subst (λ (channels : List (List ℕ)). IsWatch journal section.db channels at.mark watch) (sym e) (follows journal section.db at.set.channels h.watch);
}

-- a session that is ready for actions has them take effect
pub acts_ready : (old mid : Standing) (set : Listening) (actions : List Action) → IsReadyFor actions old mid → set.channels ≡ applied mid.set.channels actions → Leads old (record mid { set = set }) (λ s. record s { set = applied s.set actions })
acts_ready old mid set actions h e =
    subst (λ (at : Standing). Leads old (record at { set = set }) (λ s. record s { set = applied s.set actions })) (sym h.same)
    (acts old set mid.watch actions (e ∙ ap (λ (channels : List (List ℕ)). applied channels actions) h.channels) h.watch)

-- what is neither to enlist nor to publish goes nowhere
pub goes_nowhere : (left : ToShow) (old new : Standing) → ((a : List Action) (n : List Note) (f : Ending) → left ≡ show.Enlisting a n f → ⊥) → ((a : List Action) (n : List Note) (f : Ending) → left ≡ show.Queueing a n f → ⊥) → GoesOn left old new
goes_nowhere (show.Enlisting a n f) old new one other = absurd (one a n f refl)
goes_nowhere (show.Queueing a n f) old new one other = absurd (other a n f refl)
goes_nowhere show.Nothing old new one other = tt
goes_nowhere (show.Leaving f) old new one other = tt
goes_nowhere (show.Answering f) old new one other = tt
goes_nowhere (show.Listing n f) old new one other = tt
goes_nowhere (show.Measuring f) old new one other = tt
goes_nowhere (show.Raising f) old new one other = tt
goes_nowhere (show.Awaiting f) old new one other = tt
goes_nowhere show.Quitting old new one other = tt

-- the notifications come next
pub queues : (at : Standing) (actions : List Action) (notes : List Note) (ending : Ending) → (length notes == 0) ≡ false → Leads at (record at { owed = show.Queueing actions notes ending }) (λ s. queueing_or_settled s actions notes (ending_of ending))
queues at actions [] ending some section journal s h = absurd (false≢true (sym some ∙ (Decides-eqb 0 0).1 refl))
queues at actions (note ∷ notes) ending some section journal s h = holds_owed section journal at s (show.Queueing actions (note ∷ notes) ending) (walk.Queueing actions (note ∷ notes) (ending_of ending)) h refl

-- a commit without notifications is settled at once
pub settles : (at new : Standing) (actions : List Action) (notes : List Note) (ending : Ending) → (length notes == 0) ≡ true → Leads at new (λ s. settled s actions (ending_of ending)) → Leads at new (λ s. queueing_or_settled s actions notes (ending_of ending))
settles at new actions [] ending none h = h
settles at new actions (note ∷ notes) ending none h = absurd (let some : length (note ∷ notes) ≡ 0 = (Decides-eqb (length (note ∷ notes)) 0).0 none in omega (arith, some))

-- whether the session becomes a listener
pub enlists : (at : Standing) (actions : List Action) (notes : List Note) (ending : Ending) → (list_any is_listen actions && is_none at.mark) ≡ true
    → Leads at (record at { owed = show.Enlisting actions notes ending }) (λ s. commits s actions notes (ending_of ending))
enlists at actions notes ending test section journal s h =
    subst (λ (b : Bool). Holds section journal (record at { owed = show.Enlisting actions notes ending }) (if b then record s { owed = walk.Enlisting actions notes (ending_of ending) } else queueing_or_settled s actions notes (ending_of ending)))
    (sym (ap (λ (m : Option ℕ). list_any is_listen actions && is_none m) h.mark ∙ test)) (holds_owed section journal at s (show.Enlisting actions notes ending) (walk.Enlisting actions notes (ending_of ending)) h refl)

-- a commit that makes no listener goes on to its notifications
pub goes_on : (at new : Standing) (actions : List Action) (notes : List Note) (ending : Ending) → (list_any is_listen actions && is_none at.mark) ≡ false
    → Leads at new (λ s. queueing_or_settled s actions notes (ending_of ending)) → Leads at new (λ s. commits s actions notes (ending_of ending))
goes_on at new actions notes ending test next section journal s h =
    subst (λ (b : Bool). Holds section journal new (if b then record s { owed = walk.Enlisting actions notes (ending_of ending) } else queueing_or_settled s actions notes (ending_of ending)))
    (sym (ap (λ (m : Option ℕ). list_any is_listen actions && is_none m) h.mark ∙ test)) (next section journal s h)
