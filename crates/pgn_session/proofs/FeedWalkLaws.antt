-- A walk over a script into which lines were put: as long as a line is to come, it goes as it went.
use Rattle.std.proofs.Common.{◌≡◌, ◌≢◌, ℕ, zero, suc, ◌+◌, ◌≤◌, ◌⊎◌, max, Bool, true, false, ◌&&◌, List, [], ◌∷◌, ◌++◌, length, drop, fold, Option, Some, None, if◌then◌else◌, is_some, is_none, IsSomeAnd, sym, ap, ◌∙◌, refl, subst, inl, inr, arith}
use Rattle.std.specs.List.{list_any}
use Rattle.pgn_base.specs.declared.note.Note.{Note}
use Rattle.pgn_base.specs.declared.action.Action.{Action}
use Rattle.pgn_base.specs.declared.answers.Refusal.TheVariants as refused
use Rattle.pgn_base.specs.Channels.{applied}
use Rattle.pgn_journal.specs.declared.tx.Tx.{Tx}
use Rattle.pgn_answers.specs.declared.block_state.BlockState.TheVariants.{Idle}
use Rattle.pgn_answers.specs.Savepoints.{Change, live_names, surviving_actions, surviving_notes, firsts, is_listen, changes_of}
use Rattle.pgn_answers.specs.Answers.{Outcome, Commits, Replies, Refuses, Silent, GivesChannels, GivesUsage, answer, next_state, list_after}
use Rattle.pgn_language.specs.declared.scenario.Act.{Act}
use Rattle.pgn_language.specs.declared.scenario.Act.TheVariants.{Run, Signal, Await, Quit}
use Rattle.pgn_language.specs.declared.scenario.ScriptLine.{ScriptLine}
use Rattle.pgn_language.specs.declared.scenario.Section.{Section}
use Rattle.pgn_model.specs.declared.item.Item.{Item}
use Rattle.pgn_model.specs.declared.item.Item.TheVariants.{Line, Enlist, Publish, QueueFull, Leave, Reply, Refuse, Channels, Used, Raise, Found, TimedOut, Read}
use Rattle.pgn_model.specs.Along.{Along}
use Rattle.pgn_model.specs.Walk.{Terms, State, Owed, Nothing, Enlisting, Queueing, Leaving, Answering, Listing, Measuring, Raising, Awaiting, Quitting, Barred, Ending, Replied, Refused, is_empty_set, leaving_or_answering, queueing_or_settled, committing, owing, at_act, at_enlist, at_publish, at_full, at_leave, at_rows, at_raise, at_found, holder_at, after_item, Allowed, MayRead, IsCommittedBy, IsAbortedBy}
use Rattle.pgn_model.specs.Trace.{IsFreshAt}
use Rattle.pgn_session.specs.Steps.{IsNoLine}

-- the state, with these lines to come
abbrev pub with_rest : List ScriptLine → State → State
with_rest rest s = record s { rest = rest }

-- the terms, with these lines in the section
abbrev pub with_lines : List ScriptLine → Terms → Terms
with_lines lines terms = record terms { section = record terms.section { lines = lines } }

-- how many lines begin
abbrev pub lines_in : List Item → ℕ
lines_in [] = 0
lines_in (Line line ∷ items) = suc (lines_in items)
lines_in (item ∷ items) = lines_in items

-- The steps of an answer leave the lines to come as they are.

either-rest : (rest : List ScriptLine) (x y : State) (b : Bool) → (if b then with_rest rest x else with_rest rest y) ≡ with_rest rest (if b then x else y)
either-rest rest x y true = refl
either-rest rest x y false = refl

answering-rest : (rest : List ScriptLine) (s : State) (ending : Ending) → leaving_or_answering (with_rest rest s) ending ≡ with_rest rest (leaving_or_answering s ending)
answering-rest rest s ending = either-rest rest (record s { owed = Leaving ending }) (record s { owed = Answering ending }) (is_some s.mark && is_empty_set s.set)

queueing-rest : (rest : List ScriptLine) (s : State) (actions : List Action) (notes : List Note) (ending : Ending) → queueing_or_settled (with_rest rest s) actions notes ending ≡ with_rest rest (queueing_or_settled s actions notes ending)
queueing-rest rest s actions [] ending = answering-rest rest (record s { set = applied s.set actions }) ending
queueing-rest rest s actions (note ∷ notes) ending = refl

committing-rest : (rest : List ScriptLine) (s : State) (changes : List Change) (ending : Ending) → committing (with_rest rest s) changes ending ≡ with_rest rest (committing s changes ending)
committing-rest rest s changes ending =
    let actions : List Action = surviving_actions changes in
    let notes : List Note = firsts (surviving_notes changes) in
    let joins : State = record s { owed = Enlisting actions notes ending } in
    let b : Bool = list_any is_listen actions && is_none s.mark in
    ap (λ (t : State). if b then with_rest rest joins else t) (queueing-rest rest s actions notes ending) ∙ either-rest rest joins (queueing_or_settled s actions notes ending) b

owing-rest : (rest : List ScriptLine) (s : State) (changes : List Change) (outcome : Outcome) → owing (with_rest rest s) changes outcome ≡ with_rest rest (owing s changes outcome)
owing-rest rest s changes (Commits tag) = committing-rest rest s changes (Replied tag None)
owing-rest rest s changes (Replies tag warning next) = refl
owing-rest rest s changes (Refuses refusal next) = refl
owing-rest rest s changes Silent = refl
owing-rest rest s changes (GivesChannels names) = refl
owing-rest rest s changes GivesUsage = refl

act-rest : (rest : List ScriptLine) (s : State) (act : Act) → at_act (with_rest rest s) act ≡ with_rest rest (at_act s act)
act-rest rest s (Run command) =
    let outcome : Outcome = answer s.block (live_names s.changes) s.set command in
    owing-rest rest (record s { block = next_state s.block outcome; changes = list_after s.changes command outcome }) (s.changes ++ changes_of command) outcome
act-rest rest s (Signal flag) = refl
act-rest rest s (Await flag) = refl
act-rest rest s Quit =
    let ended : State = record s { block = Idle; changes = []; set = [] } in
    either-rest rest (record ended { owed = Quitting }) ended (is_some s.mark)

enlist-rest : (rest : List ScriptLine) (s : State) (owed : Owed) → at_enlist (with_rest rest s) owed ≡ with_rest rest (at_enlist s owed)
enlist-rest rest s (Enlisting actions notes ending) = queueing-rest rest s actions notes ending
enlist-rest rest s owed = refl

publish-rest : (rest : List ScriptLine) (s : State) (owed : Owed) → at_publish (with_rest rest s) owed ≡ with_rest rest (at_publish s owed)
publish-rest rest s (Queueing actions notes ending) = answering-rest rest (record s { set = applied s.set actions }) ending
publish-rest rest s owed = refl

full-rest : (rest : List ScriptLine) (s : State) (owed : Owed) → at_full (with_rest rest s) owed ≡ with_rest rest (at_full s owed)
full-rest rest s (Queueing actions notes ending) = answering-rest rest s (Refused refused.QueueFull)
full-rest rest s owed = refl

leave-rest : (rest : List ScriptLine) (s : State) (owed : Owed) → at_leave (with_rest rest s) owed ≡ with_rest rest (at_leave s owed)
leave-rest rest s (Leaving ending) = refl
leave-rest rest s owed = refl

rows-rest : (rest : List ScriptLine) (s : State) (owed : Owed) → at_rows (with_rest rest s) owed ≡ with_rest rest (at_rows s owed)
rows-rest rest s (Listing names ending) = refl
rows-rest rest s (Measuring ending) = refl
rows-rest rest s owed = refl

raise-rest : (value : ℕ) (rest : List ScriptLine) (s : State) (owed : Owed) → at_raise value (with_rest rest s) owed ≡ with_rest rest (at_raise value s owed)
raise-rest value rest s (Raising flag) = refl
raise-rest value rest s owed = refl

found-rest : (value : ℕ) (rest : List ScriptLine) (s : State) (owed : Owed) → at_found value (with_rest rest s) owed ≡ with_rest rest (at_found value s owed)
found-rest value rest s (Awaiting flag) = refl
found-rest value rest s owed = refl

-- an item that begins no line
after-rest : (rest : List ScriptLine) (s : State) (item : Item) → IsNoLine item → after_item (with_rest rest s) item ≡ with_rest rest (after_item s item)
after-rest rest s (Line line) none = absurd none
after-rest rest s (Enlist base point) none = enlist-rest rest (record s { mark = Some point; told = max s.told point; marks = s.marks ++ base ∷ [] ++ point ∷ [] }) s.owed
after-rest rest s (Publish xid notes) none = publish-rest rest (record s { told = max s.told (xid + 1) }) s.owed
after-rest rest s (QueueFull full notes) none = full-rest rest (record s { told = max s.told (full.xid + 1); named = s.named ++ holder_at full.holder full.floor_mark }) s.owed
after-rest rest s Leave none = leave-rest rest (record s { mark = None }) s.owed
after-rest rest s (Reply tag warning) none = refl
after-rest rest s (Refuse refusal) none = refl
after-rest rest s (Channels names) none = rows-rest rest s s.owed
after-rest rest s (Used usage) none = rows-rest rest (record s { named = s.named ++ holder_at usage.holder usage.floor_mark }) s.owed
after-rest rest s (Raise value) none = raise-rest value rest s s.owed
after-rest rest s (Found value) none = found-rest value rest s s.owed
after-rest rest s (TimedOut looks) none = refl
after-rest rest s (Read from to got) none = refl

-- What is allowed, whatever lines are to come, where some line is.

committed-fed : (section : Section) (lines : List ScriptLine) (notes : List Note) (found : Option Tx) → IsSomeAnd found (IsCommittedBy section notes) → IsSomeAnd found (IsCommittedBy (record section { lines = lines }) notes)
committed-fed section lines notes None h = h
committed-fed section lines notes (Some tx) h = record { by_session = h.by_session; in_database = h.in_database; with_notes = h.with_notes; committed = h.committed }

aborted-fed : (section : Section) (lines : List ScriptLine) (notes : List Note) (count : ℕ) (found : Option Tx) → IsSomeAnd found (IsAbortedBy section notes count) → IsSomeAnd found (IsAbortedBy (record section { lines = lines }) notes count)
aborted-fed section lines notes count None h = h
aborted-fed section lines notes count (Some tx) h = record { by_session = h.by_session; in_database = h.in_database; with_notes = h.with_notes; aborted = h.aborted; some = h.some }

-- a read was in no open block
read-fed : (rest other : List ScriptLine) (s : State) (owed : Owed) → rest ≢ [] → MayRead (with_rest rest s) owed → MayRead (with_rest other s) owed
read-fed rest other s Nothing some h = idle h
  where
    idle : (s.block ≡ Idle) ⊎ (rest ≡ []) → (s.block ≡ Idle) ⊎ (other ≡ [])
    idle (inl e) = inl e
    idle (inr e) = absurd (some e)
read-fed rest other s (Awaiting flag) some h = h
read-fed rest other s owed some h = h

allowed-rest : (terms : Terms) (lines : List ScriptLine) (journal : List Tx) (rest other : List ScriptLine) (s : State) (item : Item) → IsNoLine item → rest ≢ []
    → Allowed terms journal (with_rest rest s) item → Allowed (with_lines lines terms) journal (with_rest other s) item
allowed-rest terms lines journal rest other s (Line line) none some h = absurd none
allowed-rest terms lines journal rest other s (Enlist base point) none some h = record {
  expected = h.expected;
  from_first = h.from_first;
  ordered = h.ordered;
  after_told = h.after_told;
  after_marks = h.after_marks;
  in_journal = h.in_journal;
}
allowed-rest terms lines journal rest other s (Publish xid notes) none some h = record {
  expected = h.expected;
  after_told = h.after_told;
  after_mark = h.after_mark;
  in_journal = committed-fed terms.section lines notes _ h.in_journal;
}
allowed-rest terms lines journal rest other s (QueueFull full notes) none some h = record {
  expected = h.expected;
  after_told = h.after_told;
  after_mark = h.after_mark;
  in_journal = aborted-fed terms.section lines notes full.queued _ h.in_journal;
  floor = h.floor;
}
allowed-rest terms lines journal rest other s Leave none some h = h
allowed-rest terms lines journal rest other s (Reply tag warning) none some h = h
allowed-rest terms lines journal rest other s (Refuse refusal) none some h = h
allowed-rest terms lines journal rest other s (Channels names) none some h = h
allowed-rest terms lines journal rest other s (Used usage) none some h = record {
  expected = h.expected;
  after_told = h.after_told;
  after_mark = h.after_mark;
  shown = h.shown;
  floor = h.floor;
}
allowed-rest terms lines journal rest other s (Raise value) none some h = record { expected = h.expected; told = h.told }
allowed-rest terms lines journal rest other s (Found value) none some h = h
allowed-rest terms lines journal rest other s (TimedOut looks) none some h = record { awaited = h.awaited; patient = h.patient }
allowed-rest terms lines journal rest other s (Read from to got) none some h = record {
  in_turn = read-fed rest other s s.owed some h.in_turn;
  from_mark = h.from_mark;
  forward = h.forward;
  after_told = h.after_told;
  in_journal = h.in_journal;
  received = h.received;
}

-- The walk.

some-rest : (front : List ScriptLine) (last : ScriptLine) → front ++ last ∷ [] ≢ []
some-rest [] last e = let no : ⊥ = cc in no
some-rest (line ∷ front) last e = let no : ⊥ = cc in no

drop-none : (n : ℕ) → drop {A = ScriptLine} n [] ≡ []
drop-none zero = refl
drop-none (suc n) = refl

-- each line that begins is taken off the lines to come
pub rest-is : (items : List Item) (s : State) (rest : List ScriptLine) → (fold after_item (with_rest rest s) items).rest ≡ drop (lines_in items) rest
rest-is [] s rest = refl
rest-is (Line line ∷ items) s [] = rest-is items (record s { owed = Barred }) [] ∙ drop-none (lines_in items)
rest-is (Line line ∷ items) s (next ∷ rest) = ap (λ (t : State). (fold after_item t items).rest) (act-rest rest s next.act) ∙ rest-is items (at_act s next.act) rest
rest-is (item ∷ items) s rest = ap (λ (t : State). (fold after_item t items).rest) (after-rest rest s item tt) ∙ rest-is items (after_item s item) rest

-- where it ends
pub fed-state : (items : List Item) (s : State) (front tail more : List ScriptLine) → lines_in items ≤ length front
    → fold after_item (with_rest (front ++ more) s) items ≡ with_rest (drop (lines_in items) front ++ more) (fold after_item (with_rest (front ++ tail) s) items)
fed-state [] s front tail more few = refl
fed-state (Line line ∷ items) s [] tail more few = absurd (let no : ⊥ = omega (arith, few) in no)
fed-state (Line line ∷ items) s (next ∷ front) tail more few =
    ap (λ (t : State). fold after_item t items) (act-rest (front ++ more) s next.act) ∙ fed-state items (at_act s next.act) front tail more (omega (arith, few))
    ∙ ap (λ (t : State). with_rest (drop (lines_in items) front ++ more) (fold after_item t items)) (sym (act-rest (front ++ tail) s next.act))
fed-state (item ∷ items) s front tail more few =
    ap (λ (t : State). fold after_item t items) (after-rest (front ++ more) s item tt) ∙ fed-state items (after_item s item) front tail more few
    ∙ ap (λ (t : State). with_rest (drop (lines_in items) front ++ more) (fold after_item t items)) (sym (after-rest (front ++ tail) s item tt))

-- each item is allowed
pub fed-lawful : (terms : Terms) (lines : List ScriptLine) (journal : List Tx) (items : List Item) (s : State) (front : List ScriptLine) (last : ScriptLine) (more : List ScriptLine) → lines_in items ≤ length front
    → Along after_item (Allowed terms journal) (with_rest (front ++ last ∷ []) s) items → Along after_item (Allowed (with_lines lines terms) journal) (with_rest (front ++ more) s) items
fed-lawful terms lines journal [] s front last more few h = tt
fed-lawful terms lines journal (Line line ∷ items) s [] last more few h = absurd (let no : ⊥ = omega (arith, few) in no)
fed-lawful terms lines journal (Line line ∷ items) s (next ∷ front) last more few h = (
  record { answered = h.0.answered; next = h.0.next },
  subst (λ (t : State). Along after_item (Allowed (with_lines lines terms) journal) t items) (sym (act-rest (front ++ more) s next.act))
      (fed-lawful terms lines journal items (at_act s next.act) front last more (omega (arith, few))
      (subst (λ (t : State). Along after_item (Allowed terms journal) t items) (act-rest (front ++ last ∷ []) s next.act) h.1)),
)
fed-lawful terms lines journal (item ∷ items) s front last more few h = (
  allowed-rest terms lines journal (front ++ last ∷ []) (front ++ more) s item tt (some-rest front last) h.0,
  subst (λ (t : State). Along after_item (Allowed (with_lines lines terms) journal) t items) (sym (after-rest (front ++ more) s item tt))
      (fed-lawful terms lines journal items (after_item s item) front last more few
      (subst (λ (t : State). Along after_item (Allowed terms journal) t items) (after-rest (front ++ last ∷ []) s item tt) h.1)),
)

-- and left no read out
pub fed-fresh : (terms : Terms) (lines : List ScriptLine) (journal : List Tx) (items : List Item) (s : State) (front tail more : List ScriptLine) → lines_in items ≤ length front
    → Along after_item (IsFreshAt terms journal) (with_rest (front ++ tail) s) items → Along after_item (IsFreshAt (with_lines lines terms) journal) (with_rest (front ++ more) s) items
fed-fresh terms lines journal [] s front tail more few h = tt
fed-fresh terms lines journal (Line line ∷ items) s [] tail more few h = absurd (let no : ⊥ = omega (arith, few) in no)
fed-fresh terms lines journal (Line line ∷ items) s (next ∷ front) tail more few h = (
  λ idle. record { up_to_date = (h.0 idle).up_to_date; read_first = (h.0 idle).read_first },
  subst (λ (t : State). Along after_item (IsFreshAt (with_lines lines terms) journal) t items) (sym (act-rest (front ++ more) s next.act))
      (fed-fresh terms lines journal items (at_act s next.act) front tail more (omega (arith, few))
      (subst (λ (t : State). Along after_item (IsFreshAt terms journal) t items) (act-rest (front ++ tail) s next.act) h.1)),
)
fed-fresh terms lines journal (item ∷ items) s front tail more few h = (
  h.0,
  subst (λ (t : State). Along after_item (IsFreshAt (with_lines lines terms) journal) t items) (sym (after-rest (front ++ more) s item tt))
      (fed-fresh terms lines journal items (after_item s item) front tail more few
      (subst (λ (t : State). Along after_item (IsFreshAt terms journal) t items) (after-rest (front ++ tail) s item tt) h.1)),
)
