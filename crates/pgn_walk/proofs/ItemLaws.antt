-- Items, where a session stands: which is allowed, and where it leads.
use Rattle.std.proofs.Common.{◌≡◌, ◌≢◌, ◌↔◌, ℕ, ◌+◌, ◌≤◌, zero, suc, max, Bool, true, false, List, [], ◌∷◌, ◌++◌, drop, length, Option, Some, None, sym, ap, ◌∙◌, refl, subst, arith}
use Rattle.std.specs.Prelude.{All, IfSome, IsSomeAnd, slice_get}
use Rattle.std.proofs.lemmas.Bool.{false≢true}
use Rattle.std.proofs.lemmas.List.{drop_more, take-append-le}
use Rattle.std.proofs.lemmas.List.Elements.{All-contains, All-push, All-take, Contains-push}
use Rattle.std.proofs.lemmas.Option.{get_or_from_slice_get, slice_get_within}
use Rattle.std.proofs.Math.Seq.{take-length}
use Rattle.pgn_base.specs.declared.note.Note.{Note}
use Rattle.pgn_base.specs.declared.action.Action.{Action}
use Rattle.pgn_base.specs.declared.answers.Refusal.TheVariants as refused
use Rattle.pgn_base.specs.declared.queue_answers.Full.{Full}
use Rattle.pgn_journal.specs.declared.tx.Tx.{Tx}
use Rattle.pgn_journal.specs.Journal.{entry, next_xid}
use Rattle.pgn_journal.specs.QueueUse.{IsFloorFor}
use Rattle.pgn_due.specs.Next.{IsWatch}
use Rattle.pgn_due.specs.declared.watch.Watch.{Watch}
use Rattle.pgn_language.specs.declared.scenario.ScriptLine.{ScriptLine}
use Rattle.pgn_model.specs.declared.item.Item.{Item}
use Rattle.pgn_model.specs.declared.item.Item.TheVariants as item
use Rattle.pgn_model.specs.Walk.{Owed, State, Terms, Allowed, IsAbortedBy, IsCommittedBy, IsEnlisting, IsNext, IsQueueing, after_item, at_act, at_line, leaving_or_answering, queueing_or_settled}
use Rattle.pgn_model.specs.Walk as walk
use Rattle.pgn_reading.specs.Completed.{notes_of, with_owed}
use Rattle.pgn_walk.specs.declared.standing.Standing.{Standing}
use Rattle.pgn_ledger.specs.declared.to_show.Ending.{Ending}
use Rattle.pgn_ledger.specs.declared.to_show.Ending.TheVariants.{Refused}
use Rattle.pgn_ledger.specs.declared.to_show.ToShow.{ToShow}
use Rattle.pgn_ledger.specs.declared.to_show.ToShow.TheVariants as show
use Rattle.pgn_ledger.specs.ToShow.{ending_of, owed_of}
use Rattle.pgn_walk.specs.Standing.{GoesOn, Holds, IsGreatestMark, Leads}
use Rattle.pgn_walk.specs.Steps.{BeginsFrom, Moves}

-- What every item's judgement comes to.

-- an item that no state allows where the walk stands is refused
pub moves_not : (terms : Terms) (journal : List Tx) (old new : Standing) (i : Item) → ((s : State) → Holds terms.section journal old s → Allowed terms journal s (with_owed s.owed i) → ⊥) → Moves terms journal old i false new
moves_not terms journal old new i h = record {
  judged = λ s holds. (λ e. absurd (false≢true e), λ allowed. absurd (h s holds allowed));
  moved = λ s holds e. absurd (false≢true e);
}

-- an item that each state allows leads the walk on, where what it keeps stays true
pub moves_on : (terms : Terms) (journal : List Tx) (old new : Standing) (i : Item) → ((s : State) → Holds terms.section journal old s → Allowed terms journal s (with_owed s.owed i))
    → ((s : State) → Holds terms.section journal old s → Holds terms.section journal new (after_item s (with_owed s.owed i))) → Moves terms journal old i true new
moves_on terms journal old new i allowed holds = record {
  judged = λ s h. (λ e. allowed s h, λ a. refl);
  moved = λ s h e. holds s h;
}

-- by a test that is the item's last
pub moves_by : (terms : Terms) (journal : List Tx) (old new : Standing) (i : Item) (b : Bool) → ((s : State) → Holds terms.section journal old s → (b ≡ true) ↔ Allowed terms journal s (with_owed s.owed i))
    → ((s : State) → Holds terms.section journal old s → Holds terms.section journal new (after_item s (with_owed s.owed i))) → Moves terms journal old i b new
moves_by terms journal old new i b judged holds = record { judged = judged; moved = λ s h e. holds s h }

-- What is left to show.

-- what shows as nothing owed is nothing owed
pub nothing_is : (left : ToShow) → owed_of left ≡ walk.Nothing → left ≡ show.Nothing
nothing_is show.Nothing e = refl
nothing_is (show.Enlisting a n f) e = absurd (let no : ⊥ = cc in no)
nothing_is (show.Queueing a n f) e = absurd (let no : ⊥ = cc in no)
nothing_is (show.Leaving f) e = absurd (let no : ⊥ = cc in no)
nothing_is (show.Answering f) e = absurd (let no : ⊥ = cc in no)
nothing_is (show.Listing n f) e = absurd (let no : ⊥ = cc in no)
nothing_is (show.Measuring f) e = absurd (let no : ⊥ = cc in no)
nothing_is (show.Raising f) e = absurd (let no : ⊥ = cc in no)
nothing_is (show.Awaiting f) e = absurd (let no : ⊥ = cc in no)
nothing_is show.Quitting e = absurd (let no : ⊥ = cc in no)

-- A line of the script.

-- no line begins while the one before owes something
pub line_owing : (terms : Terms) (journal : List Tx) (old new : Standing) (n : ℕ) (b : Bool) → (b ≡ true) ↔ (old.owed ≡ show.Nothing) → b ≡ false → Moves terms journal old (item.Line n) false new
line_owing terms journal old new n b test is = moves_not terms journal old new (item.Line n) (λ s h allowed. false≢true (sym is ∙ test.1 (nothing_is old.owed (sym h.owed ∙ allowed.answered))))

drop_none : (lines : List ScriptLine) (k : ℕ) → slice_get lines k ≡ None → drop k lines ≡ []
drop_none [] zero e = refl
drop_none [] (suc k) e = refl
drop_none (l ∷ lines) zero e = absurd (let no : ⊥ = cc in no)
drop_none (l ∷ lines) (suc k) e = drop_none lines k e

drop_some : (lines : List ScriptLine) (k : ℕ) (l : ScriptLine) → slice_get lines k ≡ Some l → drop k lines ≡ l ∷ drop (k + 1) lines
drop_some lines k l e = drop_more lines k l (slice_get_within lines k l e) ∙ ap (λ (t : ScriptLine). t ∷ drop (k + 1) lines) (get_or_from_slice_get lines k l l e)

-- nor past the script's end
pub line_past : (terms : Terms) (journal : List Tx) (old new : Standing) (n : ℕ) → slice_get terms.section.lines old.next ≡ None → Moves terms journal old (item.Line n) false new
line_past terms journal old new n e = moves_not terms journal old new (item.Line n) (λ s h allowed. subst (λ (lines : List ScriptLine). IsNext n lines) (h.rest ∙ drop_none terms.section.lines old.next e) allowed.next)

-- nor with another number than the script's next line
pub line_other : (terms : Terms) (journal : List Tx) (old new : Standing) (n : ℕ) (l : ScriptLine) → slice_get terms.section.lines old.next ≡ Some l → l.line ≢ n → Moves terms journal old (item.Line n) false new
line_other terms journal old new n l e other =
    moves_not terms journal old new (item.Line n) (λ s h allowed. other (subst (λ (lines : List ScriptLine). IsNext n lines) (h.rest ∙ drop_some terms.section.lines old.next l e) allowed.next))

-- the script's next line begins where nothing is owed, as its act says
pub line_on : (terms : Terms) (journal : List Tx) (old new : Standing) (n : ℕ) (l : ScriptLine) → slice_get terms.section.lines old.next ≡ Some l → l.line ≡ n → old.owed ≡ show.Nothing
    → BeginsFrom (record old { next = old.next + 1 }) new (λ s. at_act s l.act) → Moves terms journal old (item.Line n) true new
line_on terms journal old new n l e same none begins =
    moves_on terms journal old new (item.Line n)
    (λ s h. record {
      answered = h.owed ∙ ap owed_of none;
      next = subst (λ (lines : List ScriptLine). IsNext n lines) (sym (h.rest ∙ drop_some terms.section.lines old.next l e)) same;
    })
    (λ s h.
    let stands : Holds terms.section journal (record old { next = old.next + 1 }) (record s { rest = drop (old.next + 1) terms.section.lines }) = record {
      rest = refl;
      owed = h.owed;
      block = h.block;
      changes = h.changes;
      set = h.set;
      mark = h.mark;
      told = h.told;
      marks = h.marks;
      flags = h.flags;
      watch = h.watch;
    } in
    subst (λ (lines : List ScriptLine). Holds terms.section journal new (at_line s lines)) (sym (h.rest ∙ drop_some terms.section.lines old.next l e))
    (begins terms.section journal (record s { rest = drop (old.next + 1) terms.section.lines }) stands (h.owed ∙ ap owed_of none)))

-- Enlist.

-- the greatest mark goes on
marks_front : (marks more : List ℕ) (point : ℕ) → All (λ m. m ≤ point) (marks ++ more) → All (λ m. m ≤ point) marks
marks_front marks more point h =
    subst (λ (ms : List ℕ). All (λ m. m ≤ point) ms) (take-append-le (length marks) marks more (omega arith) ∙ take-length marks) (All-take (λ (m : ℕ). m ≤ point) (length marks) (marks ++ more) h)

-- the greatest mark after one mark more
pub one_mark : (marks : List ℕ) (greatest next mark : ℕ) → IsGreatestMark marks greatest → (next ≡ max greatest mark) → IsGreatestMark (marks ++ mark ∷ []) next
one_mark marks greatest next mark h e point = (
  λ all.
      let old : greatest ≤ point = (h point).0 (marks_front marks (mark ∷ []) point all) in
      let own : mark ≤ point = All-contains (λ (m : ℕ). m ≤ point) (marks ++ mark ∷ []) mark all (Contains-push marks mark) in
      omega (arith, e, old, own),
  λ le. All-push (λ (m : ℕ). m ≤ point) marks mark ((h point).1 (omega (arith, e, le))) (omega (arith, e, le)),
)

two_marks : (marks : List ℕ) (greatest base point : ℕ) → IsGreatestMark marks greatest → greatest ≤ point → base ≤ point → IsGreatestMark (marks ++ base ∷ [] ++ point ∷ []) point
two_marks marks greatest base point h le few =
    one_mark (marks ++ base ∷ []) (max greatest base) point point (one_mark marks greatest (max greatest base) base h refl) (omega arith)

-- a commit goes on alike, whatever was left to show
pub queueing_same : (s : State) (owed : Owed) (actions : List Action) (notes : List Note) (ending : walk.Ending) → queueing_or_settled (record s { owed = owed }) actions notes ending ≡ queueing_or_settled s actions notes ending
queueing_same s owed actions [] ending = refl
queueing_same s owed actions (note ∷ notes) ending = refl

not_enlisting : (left : ToShow) → ((a : List Action) (n : List Note) (f : Ending) → left ≡ show.Enlisting a n f → ⊥) → IsEnlisting (owed_of left) → ⊥
not_enlisting (show.Enlisting a n f) no_one is = no_one a n f refl
not_enlisting show.Nothing no_one is = is
not_enlisting (show.Queueing a n f) no_one is = is
not_enlisting (show.Leaving f) no_one is = is
not_enlisting (show.Answering f) no_one is = is
not_enlisting (show.Listing n f) no_one is = is
not_enlisting (show.Measuring f) no_one is = is
not_enlisting (show.Raising f) no_one is = is
not_enlisting (show.Awaiting f) no_one is = is
not_enlisting show.Quitting no_one is = is

-- no session enlists out of order, or past the journal
pub enlist_early : (terms : Terms) (journal : List Tx) (old new : Standing) (base point : ℕ) (b : Bool) → (b ≡ true) ↔ ((base ≤ point) × (old.told ≤ point) × (old.greatest ≤ point) × (point ≤ next_xid journal)) → b ≡ false
    → Moves terms journal old (item.Enlist base point) false new
enlist_early terms journal old new base point b test is = moves_not terms journal old new (item.Enlist base point) (λ s h allowed.
    false≢true (sym is ∙ test.1 (allowed.ordered, omega (arith, h.told, allowed.after_told), (h.marks point).0 allowed.after_marks, allowed.in_journal)))

-- nor one that does not owe it
pub enlist_never : (terms : Terms) (journal : List Tx) (old new : Standing) (base point : ℕ) → ((a : List Action) (n : List Note) (f : Ending) → old.owed ≡ show.Enlisting a n f → ⊥) → Moves terms journal old (item.Enlist base point) false new
enlist_never terms journal old new base point no_one = moves_not terms journal old new (item.Enlist base point) (λ s h allowed. not_enlisting old.owed no_one (subst IsEnlisting h.owed allowed.expected))

-- a session that owes it enlists in order, and reads from its point on
pub enlist_on : (terms : Terms) (journal : List Tx) (old new : Standing) (watch : Watch) (base point : ℕ) (b : Bool) (actions : List Action) (notes : List Note) (ending : Ending)
    → (b ≡ true) ↔ ((base ≤ point) × (old.told ≤ point) × (old.greatest ≤ point) × (point ≤ next_xid journal)) → b ≡ true → 3 ≤ base → old.owed ≡ show.Enlisting actions notes ending
    → ((journal : List Tx) (db : ℕ) (before : List (List ℕ)) (was : Option ℕ) → IsWatch journal db before was old.watch → IsWatch journal db old.set.channels (Some point) watch)
    → GoesOn old.owed (record old { owed = show.Nothing; mark = Some point; told = point; greatest = point; watch = watch }) new → Moves terms journal old (item.Enlist base point) true new
enlist_on terms journal old new watch base point b actions notes ending test is first e begins goes =
    let t = test.0 is in
    let on = subst (λ (left : ToShow). GoesOn left (record old { owed = show.Nothing; mark = Some point; told = point; greatest = point; watch = watch }) new) e goes in
    moves_on terms journal old new (item.Enlist base point)
    (λ s h. record {
      expected = subst IsEnlisting (sym (h.owed ∙ ap owed_of e)) tt;
      from_first = first;
      ordered = t.0;
      after_told = omega (arith, h.told, t.1);
      after_marks = (h.marks point).1 t.2;
      in_journal = t.3;
    })
    (λ s h.
    let marked : State = record s { mark = Some point; told = max s.told point; marks = s.marks ++ base ∷ [] ++ point ∷ [] } in
    let stands : Holds terms.section journal (record old { owed = show.Nothing; mark = Some point; told = point; greatest = point; watch = watch }) (record marked { owed = walk.Nothing }) = record {
      rest = h.rest;
      owed = refl;
      block = h.block;
      changes = h.changes;
      set = h.set;
      mark = refl;
      told = omega (arith, h.told, t.1);
      marks = two_marks s.marks old.greatest base point h.marks t.2 t.0;
      flags = h.flags;
      watch = begins journal terms.section.db old.set.channels old.mark h.watch;
    } in
    subst (λ (owed : Owed). Holds terms.section journal new (walk.at_enlist marked owed)) (sym (h.owed ∙ ap owed_of e))
    (subst (λ (after : State). Holds terms.section journal new after) (queueing_same marked walk.Nothing actions notes (ending_of ending)) (on terms.section journal (record marked { owed = walk.Nothing }) stands)))

-- Publish.

not_queueing : (left : ToShow) (notes : List Note) → ((a : List Action) (n : List Note) (f : Ending) → left ≡ show.Queueing a n f → ⊥) → IsQueueing notes (owed_of left) → ⊥
not_queueing (show.Queueing a n f) notes no_one is = no_one a n f refl
not_queueing show.Nothing notes no_one is = is
not_queueing (show.Enlisting a n f) notes no_one is = is
not_queueing (show.Leaving f) notes no_one is = is
not_queueing (show.Answering f) notes no_one is = is
not_queueing (show.Listing n f) notes no_one is = is
not_queueing (show.Measuring f) notes no_one is = is
not_queueing (show.Raising f) notes no_one is = is
not_queueing (show.Awaiting f) notes no_one is = is
not_queueing show.Quitting notes no_one is = is

-- who owes no notifications may not publish
pub publish_never : (terms : Terms) (journal : List Tx) (old new : Standing) (xid : ℕ) (none : List Note) → ((a : List Action) (n : List Note) (f : Ending) → old.owed ≡ show.Queueing a n f → ⊥) → Moves terms journal old (item.Publish xid none) false new
publish_never terms journal old new xid none no_one =
    moves_not terms journal old new (item.Publish xid none) (λ s h allowed. not_queueing old.owed (notes_of s.owed) no_one (subst (λ (owed : Owed). IsQueueing (notes_of s.owed) owed) h.owed allowed.expected))

-- what is asked of the number
abbrev pub IsBehind : Standing → ℕ → Type 0
IsBehind at xid = (at.told ≤ xid) × IfSome at.mark (λ mark. mark ≤ xid)

notes_are : (terms : Terms) (journal : List Tx) (old : Standing) (s : State) (actions : List Action) (notes : List Note) (ending : Ending) → Holds terms.section journal old s → old.owed ≡ show.Queueing actions notes ending → notes_of s.owed ≡ notes
notes_are terms journal old s actions notes ending h e = ap notes_of (h.owed ∙ ap owed_of e)

-- nor a transaction before what the session was told of
pub publish_early : (terms : Terms) (journal : List Tx) (old new : Standing) (xid : ℕ) (none : List Note) (b : Bool) → (b ≡ true) ↔ IsBehind old xid → b ≡ false → Moves terms journal old (item.Publish xid none) false new
publish_early terms journal old new xid none b test is = moves_not terms journal old new (item.Publish xid none) (λ s h allowed.
    false≢true (sym is ∙ test.1 (omega (arith, h.told, allowed.after_told), subst (λ (m : Option ℕ). IfSome m (λ mark. mark ≤ xid)) h.mark allowed.after_mark)))

-- nor one that the journal has not as committed by it with these notifications
pub publish_other : (terms : Terms) (journal : List Tx) (old new : Standing) (xid : ℕ) (none : List Note) (b : Bool) (actions : List Action) (notes : List Note) (ending : Ending) → old.owed ≡ show.Queueing actions notes ending
    → (b ≡ true) ↔ IsSomeAnd (entry journal xid) (IsCommittedBy terms.section notes) → b ≡ false → Moves terms journal old (item.Publish xid none) false new
publish_other terms journal old new xid none b actions notes ending e test is = moves_not terms journal old new (item.Publish xid none) (λ s h allowed.
    false≢true (sym is ∙ test.1 (subst (λ (ns : List Note). IsSomeAnd (entry journal xid) (IsCommittedBy terms.section ns)) (notes_are terms journal old s actions notes ending h e) allowed.in_journal)))

-- a transaction that passes these tests is published, and the commit is settled
pub publish_on : (terms : Terms) (journal : List Tx) (old new : Standing) (xid : ℕ) (none : List Note) (b d : Bool) (actions : List Action) (notes : List Note) (ending : Ending) → old.owed ≡ show.Queueing actions notes ending
    → (b ≡ true) ↔ IsBehind old xid → b ≡ true → (d ≡ true) ↔ IsSomeAnd (entry journal xid) (IsCommittedBy terms.section notes) → d ≡ true
    → GoesOn old.owed (record old { owed = show.Nothing; told = xid + 1 }) new → Moves terms journal old (item.Publish xid none) true new
publish_on terms journal old new xid none b d actions notes ending e test is there found goes =
    let t = test.0 is in
    let on = subst (λ (left : ToShow). GoesOn left (record old { owed = show.Nothing; told = xid + 1 }) new) e goes in
    moves_on terms journal old new (item.Publish xid none)
    (λ s h. record {
      expected = subst (λ (owed : Owed). IsQueueing (notes_of owed) owed) (sym (h.owed ∙ ap owed_of e)) refl;
      after_told = omega (arith, h.told, t.0);
      after_mark = subst (λ (m : Option ℕ). IfSome m (λ mark. mark ≤ xid)) (sym h.mark) t.1;
      in_journal = subst (λ (ns : List Note). IsSomeAnd (entry journal xid) (IsCommittedBy terms.section ns)) (sym (notes_are terms journal old s actions notes ending h e)) (there.0 found);
    })
    (λ s h.
    let told : State = record s { told = max s.told (xid + 1) } in
    let stands : Holds terms.section journal (record old { owed = show.Nothing; told = xid + 1 }) (record told { owed = walk.Nothing }) = record {
      rest = h.rest;
      owed = refl;
      block = h.block;
      changes = h.changes;
      set = h.set;
      mark = h.mark;
      told = omega (arith, h.told, t.0);
      marks = h.marks;
      flags = h.flags;
      watch = h.watch;
    } in
    subst (λ (owed : Owed). Holds terms.section journal new (walk.at_publish told owed)) (sym (h.owed ∙ ap owed_of e)) (on terms.section journal (record told { owed = walk.Nothing }) stands))

-- A full queue.

-- who owes no notifications may not meet a full queue
pub full_never : (terms : Terms) (journal : List Tx) (old new : Standing) (full : Full) (none : List Note) → ((a : List Action) (n : List Note) (f : Ending) → old.owed ≡ show.Queueing a n f → ⊥) → Moves terms journal old (item.QueueFull full none) false new
full_never terms journal old new full none no_one =
    moves_not terms journal old new (item.QueueFull full none) (λ s h allowed. not_queueing old.owed (notes_of s.owed) no_one (subst (λ (owed : Owed). IsQueueing (notes_of s.owed) owed) h.owed allowed.expected))

-- nor with a transaction before what the session was told of
pub full_early : (terms : Terms) (journal : List Tx) (old new : Standing) (full : Full) (none : List Note) (b : Bool) → (b ≡ true) ↔ IsBehind old full.xid → b ≡ false → Moves terms journal old (item.QueueFull full none) false new
full_early terms journal old new full none b test is = moves_not terms journal old new (item.QueueFull full none) (λ s h allowed.
    false≢true (sym is ∙ test.1 (omega (arith, h.told, allowed.after_told), subst (λ (m : Option ℕ). IfSome m (λ mark. mark ≤ full.xid)) h.mark allowed.after_mark)))

-- nor with one that the journal has not as aborted by it with these notifications
pub full_other : (terms : Terms) (journal : List Tx) (old new : Standing) (full : Full) (none : List Note) (b : Bool) (actions : List Action) (notes : List Note) (ending : Ending) → old.owed ≡ show.Queueing actions notes ending
    → (b ≡ true) ↔ IsSomeAnd (entry journal full.xid) (IsAbortedBy terms.section notes full.queued) → b ≡ false → Moves terms journal old (item.QueueFull full none) false new
full_other terms journal old new full none b actions notes ending e test is = moves_not terms journal old new (item.QueueFull full none) (λ s h allowed.
    false≢true (sym is ∙ test.1 (subst (λ (ns : List Note). IsSomeAnd (entry journal full.xid) (IsAbortedBy terms.section ns full.queued)) (notes_are terms journal old s actions notes ending h e) allowed.in_journal)))

-- nor with a floor that is none for the session
pub full_floor : (terms : Terms) (journal : List Tx) (old new : Standing) (full : Full) (none : List Note) (b : Bool) → (b ≡ true) ↔ IsFloorFor terms.section.no old.mark full.floor_mark full.holder → b ≡ false
    → Moves terms journal old (item.QueueFull full none) false new
full_floor terms journal old new full none b test is = moves_not terms journal old new (item.QueueFull full none) (λ s h allowed.
    false≢true (sym is ∙ test.1 (subst (λ (m : Option ℕ). IsFloorFor terms.section.no m full.floor_mark full.holder) h.mark allowed.floor)))

-- a transaction that passes these tests meets a full queue, and the commit is refused
pub full_on : (terms : Terms) (journal : List Tx) (old new : Standing) (full : Full) (none : List Note) (b d f : Bool) (actions : List Action) (notes : List Note) (ending : Ending) → old.owed ≡ show.Queueing actions notes ending
    → (b ≡ true) ↔ IsBehind old full.xid → b ≡ true → (d ≡ true) ↔ IsSomeAnd (entry journal full.xid) (IsAbortedBy terms.section notes full.queued) → d ≡ true
    → (f ≡ true) ↔ IsFloorFor terms.section.no old.mark full.floor_mark full.holder → f ≡ true
    → Leads (record old { told = full.xid + 1 }) new (λ s. leaving_or_answering s (ending_of (Refused refused.QueueFull))) → Moves terms journal old (item.QueueFull full none) true new
full_on terms journal old new full none b d f actions notes ending e test is there found floor held on =
    let t = test.0 is in
    moves_on terms journal old new (item.QueueFull full none)
    (λ s h. record {
      expected = subst (λ (owed : Owed). IsQueueing (notes_of owed) owed) (sym (h.owed ∙ ap owed_of e)) refl;
      after_told = omega (arith, h.told, t.0);
      after_mark = subst (λ (m : Option ℕ). IfSome m (λ mark. mark ≤ full.xid)) (sym h.mark) t.1;
      in_journal = subst (λ (ns : List Note). IsSomeAnd (entry journal full.xid) (IsAbortedBy terms.section ns full.queued)) (sym (notes_are terms journal old s actions notes ending h e)) (there.0 found);
      floor = subst (λ (m : Option ℕ). IsFloorFor terms.section.no m full.floor_mark full.holder) (sym h.mark) (floor.0 held);
    })
    (λ s h.
    let told : State = record s { told = max s.told (full.xid + 1); named = s.named ++ walk.holder_at full.holder full.floor_mark } in
    let stands : Holds terms.section journal (record old { told = full.xid + 1 }) told = record {
      rest = h.rest;
      owed = h.owed;
      block = h.block;
      changes = h.changes;
      set = h.set;
      mark = h.mark;
      told = omega (arith, h.told, t.0);
      marks = h.marks;
      flags = h.flags;
      watch = h.watch;
    } in
    subst (λ (owed : Owed). Holds terms.section journal new (walk.at_full told owed)) (sym (h.owed ∙ ap owed_of e)) (on terms.section journal told stands))
