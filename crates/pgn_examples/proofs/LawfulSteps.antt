-- Whether a trace is lawful, and leaves no read out, by what computes: what each item shows beside what it is to show. Full queues and
-- usages are left to proofs of their own.
use Rattle.std.proofs.Common.{◌≡◌, ◌≢◌, ℕ, ◌≤◌, inl, inr, Bool, true, false, ◌&&◌, ◌||◌, not, nat_le, nat_lt, nat_eq, eqb-true, leb-true, List, [], ◌∷◌, get_or, fold, Option, None, Some, ap, refl, subst}
use Rattle.std.specs.Prelude.{All, IfSome, IsSomeAnd, flat_map}
use Rattle.std.specs.List.{list_all, list_any}
use Rattle.std.proofs.lemmas.Bool.{and_parts, or_cases, ltb-true, eqb-false, not-true}
use Rattle.pgn_base.specs.declared.limits.TheConstants.{FIRST_XID}
use Rattle.pgn_base.specs.declared.note.Note.{Note}
use Rattle.pgn_base.specs.declared.note.Delivery.{Delivery}
use Rattle.pgn_journal.specs.declared.tx.Tx.{Tx}
use Rattle.pgn_journal.specs.declared.tx.Fate.TheVariants.{Committed}
use Rattle.pgn_journal.specs.Journal.{entry, next_xid, xids_of, IsFinished}
use Rattle.pgn_journal.specs.Due.{due, is_due_to}
use Rattle.pgn_journal.specs.Near.{Near}
use Rattle.pgn_journal.proofs.NearLaws.{near-itself}
use Rattle.pgn_answers.specs.declared.block_state.BlockState.{BlockState}
use Rattle.pgn_answers.specs.declared.block_state.BlockState.TheVariants.{Idle, InBlock, Failed}
use Rattle.pgn_language.specs.declared.scenario.ScriptLine.{ScriptLine}
use Rattle.pgn_language.specs.declared.scenario.Section.{Section}
use Rattle.pgn_language.specs.declared.scenario.Scenario.{Scenario}
use Rattle.pgn_model.specs.declared.item.Item.{Item}
use Rattle.pgn_model.specs.declared.item.Item.TheVariants.{Line, Enlist, Publish, QueueFull, Leave, Reply, Refuse, Channels, Used, Raise, Found, TimedOut, Read}
use Rattle.pgn_model.specs.Along.{Along}
use Rattle.pgn_model.specs.Walk.{Terms, Settings, State, Owed, Nothing, Enlisting, Queueing, Leaving, Answering, Listing, Measuring, Raising, Awaiting, Quitting, Barred, Replied, Refused, start, after_item, Allowed, IsNext, IsEnlisting, IsQueueing, IsLeaving, IsListing, IsRaising, IsAwaiting, IsGreatest, IsUnknown, IsCommittedBy, MayRead}
use Rattle.pgn_model.specs.declared.trace.Trace.{Trace}
use Rattle.pgn_model.specs.Trace.{TraceOk, Fresh, IsFreshAt, IsUpToDate, IsReadUp, state_after}
use Rattle.pgn_model.specs.Legal.{Legal, EachTrace, IsFullThere, finished_xids, names_section, ends}
use Rattle.pgn_examples.proofs.RunSteps.{tested, not_greater, greatest, same_pair, stood_at, shown_within, all_found, all_stood, all_shown}
use Rattle.pgn_examples.proofs.ApartSteps.{is_idle, is_done}

-- what an item shows, or what it is to show
pub data Fact : Type 0 where
  OfTests : (tests : List Bool) → Fact
  OfOwed : (owed : Owed) → Fact
  OfLine : (owed : Owed) → (next : Option ℕ) → Fact
  OfNames : (names : Option (List (List ℕ))) → Fact
  OfSent : (notes : Option (List Note)) → (tests : List Bool) → (tx : Option Tx) → Fact
  OfRead : (mark : Option ℕ) → (tests : List Bool) → (got : List Delivery) → Fact

-- the parts of such a fact
abbrev test_at : ℕ → Fact → Bool
test_at n (OfTests tests) = get_or tests n false
test_at n (OfSent notes tests tx) = get_or tests n false
test_at n (OfRead mark tests got) = get_or tests n false
test_at n fact = false

abbrev owed_of : Fact → Owed
owed_of (OfOwed owed) = owed
owed_of (OfLine owed next) = owed
owed_of fact = Nothing

abbrev number_of : Fact → Option ℕ
number_of (OfLine owed next) = next
number_of (OfRead mark tests got) = mark
number_of fact = None

abbrev names_of : Fact → Option (List (List ℕ))
names_of (OfNames names) = names
names_of fact = None

abbrev notes_of : Fact → Option (List Note)
notes_of (OfSent notes tests tx) = notes
notes_of fact = None

abbrev tx_of : Fact → Option Tx
tx_of (OfSent notes tests tx) = tx
tx_of fact = None

abbrev got_of : Fact → List Delivery
got_of (OfRead mark tests got) = got
got_of fact = []

-- what a state says of its next item, by what computes
abbrev next_line : List ScriptLine → Option ℕ
next_line [] = None
next_line (line ∷ lines) = Some line.line

abbrev is_enlisting : Owed → Bool
is_enlisting (Enlisting actions notes ending) = true
is_enlisting owed = false

abbrev to_queue : Owed → Option (List Note)
to_queue (Queueing actions notes ending) = Some notes
to_queue owed = None

abbrev is_leaving : Owed → Bool
is_leaving (Leaving ending) = true
is_leaving Quitting = true
is_leaving owed = false

abbrev to_list : Owed → Option (List (List ℕ))
to_list (Listing names ending) = Some names
to_list owed = None

abbrev is_raising : Owed → Bool
is_raising (Raising flag) = true
is_raising owed = false

abbrev finds : State → ℕ → Owed → Bool
finds s value (Awaiting flag) = list_all (not_greater flag value) s.raised && list_all (not_greater flag value) s.found
finds s value owed = false

abbrev is_other : ℕ → ℕ × ℕ → Bool
is_other flag pair = not (nat_eq pair.0 flag)

abbrev knows_nothing : State → Owed → Bool
knows_nothing s (Awaiting flag) = list_all (is_other flag) s.raised && list_all (is_other flag) s.found
knows_nothing s owed = false

abbrev may_read : State → Owed → Bool
may_read s Nothing = is_idle s.block || is_done s.rest
may_read s (Awaiting flag) = is_idle s.block
may_read s owed = false

abbrev mark_within : Option ℕ → ℕ → Bool
mark_within None n = true
mark_within (Some mark) n = nat_le mark n

-- an entry, but for how many were queued
abbrev as_sent : Option Tx → Option Tx
as_sent None = None
as_sent (Some tx) = Some (record tx { queued = 0 })

-- what an item shows
abbrev pub fact_shown : Terms → List Tx → State → Item → Fact
fact_shown terms journal s (Line line) = OfLine s.owed (next_line s.rest)
fact_shown terms journal s (Enlist base point) =
    OfTests (is_enlisting s.owed ∷ nat_le FIRST_XID base ∷ nat_le base point ∷ nat_le s.told point ∷ list_all (λ mark. nat_le mark point) s.marks ∷ nat_le point (next_xid journal) ∷ [])
fact_shown terms journal s (Publish xid notes) = OfSent (to_queue s.owed) (nat_le s.told xid ∷ mark_within s.mark xid ∷ []) (as_sent (entry journal xid))
fact_shown terms journal s (QueueFull full notes) = OfTests (false ∷ [])
fact_shown terms journal s Leave = OfTests (is_leaving s.owed ∷ [])
fact_shown terms journal s (Reply tag warning) = OfOwed s.owed
fact_shown terms journal s (Refuse refusal) = OfOwed s.owed
fact_shown terms journal s (Channels names) = OfNames (to_list s.owed)
fact_shown terms journal s (Used usage) = OfTests (false ∷ [])
fact_shown terms journal s (Raise value) = OfTests (is_raising s.owed ∷ nat_eq value s.told ∷ [])
fact_shown terms journal s (Found value) = OfTests (finds s value s.owed ∷ [])
fact_shown terms journal s (TimedOut looks) = OfTests (knows_nothing s s.owed ∷ nat_eq looks terms.settings.patience ∷ [])
fact_shown terms journal s (Read from to got) = OfRead s.mark (may_read s s.owed ∷ nat_lt from to ∷ nat_le s.told to ∷ nat_le to (next_xid journal) ∷ []) got

-- what it is to show
abbrev pub fact_needed : Terms → List Tx → State → Item → Fact
fact_needed terms journal s (Line line) = OfLine Nothing (Some line)
fact_needed terms journal s (Enlist base point) = OfTests (true ∷ true ∷ true ∷ true ∷ true ∷ true ∷ [])
fact_needed terms journal s (Publish xid notes) =
    OfSent (Some notes) (true ∷ true ∷ []) (Some (record { session = terms.section.no; db = terms.section.db; notes = notes; queued = 0; fate = Committed }))
fact_needed terms journal s (QueueFull full notes) = OfTests (true ∷ [])
fact_needed terms journal s Leave = OfTests (true ∷ [])
fact_needed terms journal s (Reply tag warning) = OfOwed (Answering (Replied tag warning))
fact_needed terms journal s (Refuse refusal) = OfOwed (Answering (Refused refusal))
fact_needed terms journal s (Channels names) = OfNames (Some names)
fact_needed terms journal s (Used usage) = OfTests (true ∷ [])
fact_needed terms journal s (Raise value) = OfTests (true ∷ true ∷ [])
fact_needed terms journal s (Found value) = OfTests (true ∷ [])
fact_needed terms journal s (TimedOut looks) = OfTests (true ∷ true ∷ [])
fact_needed terms journal s (Read from to got) = OfRead (Some from) (true ∷ true ∷ true ∷ true ∷ []) (due journal from to terms.section.db s.set)

-- along a trace
abbrev pub facts_shown : Terms → List Tx → State → List Item → List Fact
facts_shown terms journal s [] = []
facts_shown terms journal s (item ∷ items) = fact_shown terms journal s item ∷ facts_shown terms journal (after_item s item) items

abbrev pub facts_needed : Terms → List Tx → State → List Item → List Fact
facts_needed terms journal s [] = []
facts_needed terms journal s (item ∷ items) = fact_needed terms journal s item ∷ facts_needed terms journal (after_item s item) items

next-is : (n : ℕ) (rest : List ScriptLine) → next_line rest ≡ Some n → IsNext n rest
next-is n [] h = absurd (cc)
next-is n (line ∷ lines) h = cc

enlisting-is : (owed : Owed) → is_enlisting owed ≡ true → IsEnlisting owed
enlisting-is Nothing h = absurd (cc)
enlisting-is (Enlisting actions notes ending) h = tt
enlisting-is (Queueing actions notes ending) h = absurd (cc)
enlisting-is (Leaving ending) h = absurd (cc)
enlisting-is (Answering ending) h = absurd (cc)
enlisting-is (Listing names ending) h = absurd (cc)
enlisting-is (Measuring ending) h = absurd (cc)
enlisting-is (Raising flag) h = absurd (cc)
enlisting-is (Awaiting flag) h = absurd (cc)
enlisting-is Quitting h = absurd (cc)
enlisting-is Barred h = absurd (cc)

queueing-is : (notes : List Note) (owed : Owed) → to_queue owed ≡ Some notes → IsQueueing notes owed
queueing-is notes Nothing h = absurd (cc)
queueing-is notes (Enlisting actions others ending) h = absurd (cc)
queueing-is notes (Queueing actions others ending) h = cc
queueing-is notes (Leaving ending) h = absurd (cc)
queueing-is notes (Answering ending) h = absurd (cc)
queueing-is notes (Listing names ending) h = absurd (cc)
queueing-is notes (Measuring ending) h = absurd (cc)
queueing-is notes (Raising flag) h = absurd (cc)
queueing-is notes (Awaiting flag) h = absurd (cc)
queueing-is notes Quitting h = absurd (cc)
queueing-is notes Barred h = absurd (cc)

leaving-is : (owed : Owed) → is_leaving owed ≡ true → IsLeaving owed
leaving-is Nothing h = absurd (cc)
leaving-is (Enlisting actions notes ending) h = absurd (cc)
leaving-is (Queueing actions notes ending) h = absurd (cc)
leaving-is (Leaving ending) h = tt
leaving-is (Answering ending) h = absurd (cc)
leaving-is (Listing names ending) h = absurd (cc)
leaving-is (Measuring ending) h = absurd (cc)
leaving-is (Raising flag) h = absurd (cc)
leaving-is (Awaiting flag) h = absurd (cc)
leaving-is Quitting h = tt
leaving-is Barred h = absurd (cc)

listing-is : (names : List (List ℕ)) (owed : Owed) → to_list owed ≡ Some names → IsListing names owed
listing-is names Nothing h = absurd (cc)
listing-is names (Enlisting actions notes ending) h = absurd (cc)
listing-is names (Queueing actions notes ending) h = absurd (cc)
listing-is names (Leaving ending) h = absurd (cc)
listing-is names (Answering ending) h = absurd (cc)
listing-is names (Listing others ending) h = cc
listing-is names (Measuring ending) h = absurd (cc)
listing-is names (Raising flag) h = absurd (cc)
listing-is names (Awaiting flag) h = absurd (cc)
listing-is names Quitting h = absurd (cc)
listing-is names Barred h = absurd (cc)

raising-is : (owed : Owed) → is_raising owed ≡ true → IsRaising owed
raising-is Nothing h = absurd (cc)
raising-is (Enlisting actions notes ending) h = absurd (cc)
raising-is (Queueing actions notes ending) h = absurd (cc)
raising-is (Leaving ending) h = absurd (cc)
raising-is (Answering ending) h = absurd (cc)
raising-is (Listing names ending) h = absurd (cc)
raising-is (Measuring ending) h = absurd (cc)
raising-is (Raising flag) h = tt
raising-is (Awaiting flag) h = absurd (cc)
raising-is Quitting h = absurd (cc)
raising-is Barred h = absurd (cc)

finds-is : (s : State) (value : ℕ) (owed : Owed) → finds s value owed ≡ true → IsAwaiting owed (λ flag. IsGreatest s.raised flag value × IsGreatest s.found flag value)
finds-is s value Nothing h = absurd (cc)
finds-is s value (Enlisting actions notes ending) h = absurd (cc)
finds-is s value (Queueing actions notes ending) h = absurd (cc)
finds-is s value (Leaving ending) h = absurd (cc)
finds-is s value (Answering ending) h = absurd (cc)
finds-is s value (Listing names ending) h = absurd (cc)
finds-is s value (Measuring ending) h = absurd (cc)
finds-is s value (Raising flag) h = absurd (cc)
finds-is s value (Awaiting flag) h =
    let parts = and_parts (list_all (not_greater flag value) s.raised) (list_all (not_greater flag value) s.found) h in
    (greatest s.raised flag value parts.0, greatest s.found flag value parts.1)
finds-is s value Quitting h = absurd (cc)
finds-is s value Barred h = absurd (cc)

unknown-is : (pairs : List (ℕ × ℕ)) (flag : ℕ) → list_all (is_other flag) pairs ≡ true → IsUnknown pairs flag
unknown-is pairs flag h = tested (λ (pair : ℕ × ℕ). pair.0 ≢ flag) (is_other flag) (λ (pair : ℕ × ℕ) p. eqb-false pair.0 flag (not-true (nat_eq pair.0 flag) p)) pairs h

knows-is : (s : State) (owed : Owed) → knows_nothing s owed ≡ true → IsAwaiting owed (λ flag. IsUnknown s.raised flag × IsUnknown s.found flag)
knows-is s Nothing h = absurd (cc)
knows-is s (Enlisting actions notes ending) h = absurd (cc)
knows-is s (Queueing actions notes ending) h = absurd (cc)
knows-is s (Leaving ending) h = absurd (cc)
knows-is s (Answering ending) h = absurd (cc)
knows-is s (Listing names ending) h = absurd (cc)
knows-is s (Measuring ending) h = absurd (cc)
knows-is s (Raising flag) h = absurd (cc)
knows-is s (Awaiting flag) h =
    let parts = and_parts (list_all (is_other flag) s.raised) (list_all (is_other flag) s.found) h in
    (unknown-is s.raised flag parts.0, unknown-is s.found flag parts.1)
knows-is s Quitting h = absurd (cc)
knows-is s Barred h = absurd (cc)

idle-is : (state : BlockState) → is_idle state ≡ true → state ≡ Idle
idle-is Idle h = refl
idle-is InBlock h = absurd (cc)
idle-is Failed h = absurd (cc)

done-is : (lines : List ScriptLine) → is_done lines ≡ true → lines ≡ []
done-is [] h = refl
done-is (line ∷ lines) h = absurd (cc)

may-read : (s : State) (owed : Owed) → may_read s owed ≡ true → MayRead s owed
may-read s Nothing h = elim (or_cases (is_idle s.block) (is_done s.rest) h) [ inl e ↦ inl (idle-is s.block e) | inr e ↦ inr (done-is s.rest e) ]
may-read s (Enlisting actions notes ending) h = absurd (cc)
may-read s (Queueing actions notes ending) h = absurd (cc)
may-read s (Leaving ending) h = absurd (cc)
may-read s (Answering ending) h = absurd (cc)
may-read s (Listing names ending) h = absurd (cc)
may-read s (Measuring ending) h = absurd (cc)
may-read s (Raising flag) h = absurd (cc)
may-read s (Awaiting flag) h = idle-is s.block h
may-read s Quitting h = absurd (cc)
may-read s Barred h = absurd (cc)

mark-is : (mark : Option ℕ) (n : ℕ) → mark_within mark n ≡ true → IfSome mark (λ own. own ≤ n)
mark-is None n h = tt
mark-is (Some own) n h = leb-true own n h

sent-is : (section : Section) (notes : List Note) (there : Option Tx)
    → as_sent there ≡ Some (record { session = section.no; db = section.db; notes = notes; queued = 0; fate = Committed }) → IsSomeAnd there (IsCommittedBy section notes)
sent-is section notes None h = absurd (cc)
sent-is section notes (Some tx) h =
    let same : record tx { queued = 0 } ≡ record { session = section.no; db = section.db; notes = notes; queued = 0; fate = Committed } = cc in
    record {
      by_session = ap (λ (t : Tx). t.session) same;
      in_database = ap (λ (t : Tx). t.db) same;
      with_notes = ap (λ (t : Tx). t.notes) same;
      committed = ap (λ (t : Tx). t.fate) same;
    }

-- an item that shows what it is to show is allowed
allowed-is : (terms : Terms) (journal : List Tx) (s : State) (item : Item) → fact_shown terms journal s item ≡ fact_needed terms journal s item → Allowed terms journal s item
allowed-is terms journal s (Line line) e = record { answered = ap owed_of e; next = next-is line s.rest (ap number_of e) }
allowed-is terms journal s (Enlist base point) e = record {
  expected = enlisting-is s.owed (ap (test_at 0) e);
  from_first = leb-true FIRST_XID base (ap (test_at 1) e);
  ordered = leb-true base point (ap (test_at 2) e);
  after_told = leb-true s.told point (ap (test_at 3) e);
  after_marks = tested (λ (mark : ℕ). mark ≤ point) (λ (mark : ℕ). nat_le mark point) (λ (mark : ℕ) p. leb-true mark point p) s.marks (ap (test_at 4) e);
  in_journal = leb-true point (next_xid journal) (ap (test_at 5) e);
}
allowed-is terms journal s (Publish xid notes) e = record {
  expected = queueing-is notes s.owed (ap notes_of e);
  after_told = leb-true s.told xid (ap (test_at 0) e);
  after_mark = mark-is s.mark xid (ap (test_at 1) e);
  in_journal = sent-is terms.section notes (entry journal xid) (ap tx_of e);
}
allowed-is terms journal s (QueueFull full notes) e = let no : false ≡ true = ap (test_at 0) e in absurd (cc)
allowed-is terms journal s Leave e = leaving-is s.owed (ap (test_at 0) e)
allowed-is terms journal s (Reply tag warning) e = ap owed_of e
allowed-is terms journal s (Refuse refusal) e = ap owed_of e
allowed-is terms journal s (Channels names) e = listing-is names s.owed (ap names_of e)
allowed-is terms journal s (Used usage) e = let no : false ≡ true = ap (test_at 0) e in absurd (cc)
allowed-is terms journal s (Raise value) e = record { expected = raising-is s.owed (ap (test_at 0) e); told = eqb-true value s.told (ap (test_at 1) e) }
allowed-is terms journal s (Found value) e = finds-is s value s.owed (ap (test_at 0) e)
allowed-is terms journal s (TimedOut looks) e = record { awaited = knows-is s s.owed (ap (test_at 0) e); patient = eqb-true looks terms.settings.patience (ap (test_at 1) e) }
allowed-is terms journal s (Read from to got) e = record {
  in_turn = may-read s s.owed (ap (test_at 0) e);
  from_mark = ap number_of e;
  forward = ltb-true from to (ap (test_at 1) e);
  after_told = leb-true s.told to (ap (test_at 2) e);
  in_journal = leb-true to (next_xid journal) (ap (test_at 3) e);
  received = ap got_of e;
}

-- the first of two lists, and the rest
abbrev head_of : Fact → List Fact → Fact
head_of other [] = other
head_of other (fact ∷ facts) = fact

abbrev tail_of : List Fact → List Fact
tail_of [] = []
tail_of (fact ∷ facts) = facts

-- items that show what they are to show are allowed, one after another
pub along-computed : (terms : Terms) (journal : List Tx) (s : State) (items : List Item) → facts_shown terms journal s items ≡ facts_needed terms journal s items → Along after_item (Allowed terms journal) s items
along-computed terms journal s [] e = tt
along-computed terms journal s (item ∷ items) e =
    (allowed-is terms journal s item (ap (head_of (OfTests [])) e), along-computed terms journal (after_item s item) items (ap tail_of e))

-- where this trace shows what it is to show, and ends as it says, it is lawful
pub trace-computed : {terms : Terms} {trace : Trace} {journal : List Tx} → trace.session ≡ terms.section.no → trace.db ≡ terms.section.db
    → facts_shown terms journal (start terms.section) trace.items ≡ facts_needed terms journal (start terms.section) trace.items
    → (state_after terms trace.items).owed ≡ Nothing → (state_after terms trace.items).rest ≡ [] → (state_after terms trace.items).mark ≡ trace.last → TraceOk terms trace journal
trace-computed {terms = terms} {trace = trace} {journal = journal} own there e answered done last = record {
  session = own;
  database = there;
  lawful = along-computed terms journal (start terms.section) trace.items e;
  ended = record { answered = answered; done = done; mark = last };
}

-- a listener has read up to what it was told of
abbrev read_up : Option ℕ → ℕ → Bool
read_up None told = true
read_up (Some mark) told = nat_le told mark

abbrev fresh_at : State → Item → Bool
fresh_at s (Line line) = not (is_idle s.block) || read_up s.mark s.told
fresh_at s item = true

-- it has so before each line outside of a block, and at the end
abbrev pub are_fresh : State → List Item → Bool
are_fresh s [] = read_up s.mark s.told
are_fresh s (item ∷ items) = fresh_at s item && are_fresh (after_item s item) items

near-told : (terms : Terms) (journal : List Tx) (set : List (List ℕ)) (mark : Option ℕ) (told : ℕ) → read_up mark told ≡ true
    → IfSome mark (λ own. Near terms.settings.format (is_due_to terms.section.db set) journal own told)
near-told terms journal set None told h = tt
near-told terms journal set (Some own) told h = near-itself terms.settings.format (is_due_to terms.section.db set) journal own told (leb-true told own h)

up-told : (mark : Option ℕ) (told : ℕ) → read_up mark told ≡ true → IsReadUp mark told
up-told None told h = tt
up-told (Some own) told h = leb-true told own h

fresh-at : (terms : Terms) (journal : List Tx) (s : State) (item : Item) → fresh_at s item ≡ true → IsFreshAt terms journal s item
fresh-at terms journal s (Line line) h = λ idle.
    let up : read_up s.mark s.told ≡ true = subst (λ (b : BlockState). (not (is_idle b) || read_up s.mark s.told) ≡ true) idle h in
    record { up_to_date = near-told terms journal s.set s.mark s.told up; read_first = λ reads. up-told s.mark s.told up }
fresh-at terms journal s (Enlist base point) h = tt
fresh-at terms journal s (Publish xid notes) h = tt
fresh-at terms journal s (QueueFull full notes) h = tt
fresh-at terms journal s Leave h = tt
fresh-at terms journal s (Reply tag warning) h = tt
fresh-at terms journal s (Refuse refusal) h = tt
fresh-at terms journal s (Channels names) h = tt
fresh-at terms journal s (Used usage) h = tt
fresh-at terms journal s (Raise value) h = tt
fresh-at terms journal s (Found value) h = tt
fresh-at terms journal s (TimedOut looks) h = tt
fresh-at terms journal s (Read from to got) h = tt

fresh-along : (terms : Terms) (journal : List Tx) (s : State) (items : List Item) → are_fresh s items ≡ true → Along after_item (IsFreshAt terms journal) s items
fresh-along terms journal s [] h = tt
fresh-along terms journal s (item ∷ items) h =
    let parts = and_parts (fresh_at s item) (are_fresh (after_item s item) items) h in
    (fresh-at terms journal s item parts.0, fresh-along terms journal (after_item s item) items parts.1)

fresh-end : (terms : Terms) (journal : List Tx) (s : State) (items : List Item) → are_fresh s items ≡ true → IsUpToDate terms journal (fold after_item s items)
fresh-end terms journal s [] h = near-told terms journal s.set s.mark s.told h
fresh-end terms journal s (item ∷ items) h = fresh-end terms journal (after_item s item) items (and_parts (fresh_at s item) (are_fresh (after_item s item) items) h).1

-- a trace that has read so leaves no read out
pub fresh-computed : {terms : Terms} {trace : Trace} {journal : List Tx} → are_fresh (start terms.section) trace.items ≡ true → Fresh terms trace journal
fresh-computed {terms = terms} {trace = trace} {journal = journal} h =
    record { between_lines = fresh-along terms journal (start terms.section) trace.items h; at_end = fresh-end terms journal (start terms.section) trace.items h }

abbrev not_full : Item → Bool
not_full (QueueFull full notes) = false
not_full item = true

none-full : (settings : Settings) (journal : List Tx) (item : Item) → not_full item ≡ true → IsFullThere settings journal item
none-full settings journal (Line line) h = tt
none-full settings journal (Enlist base point) h = tt
none-full settings journal (Publish xid notes) h = tt
none-full settings journal (QueueFull full notes) h = absurd (cc)
none-full settings journal Leave h = tt
none-full settings journal (Reply tag warning) h = tt
none-full settings journal (Refuse refusal) h = tt
none-full settings journal (Channels names) h = tt
none-full settings journal (Used usage) h = tt
none-full settings journal (Raise value) h = tt
none-full settings journal (Found value) h = tt
none-full settings journal (TimedOut looks) h = tt
none-full settings journal (Read from to got) h = tt

abbrev is_last : ℕ → Option ℕ → Bool
is_last n None = true
is_last n (Some mark) = nat_eq mark n

last-is : (n : ℕ) (last : Option ℕ) → is_last n last ≡ true → IfSome last (λ mark. mark ≡ n)
last-is n None h = tt
last-is n (Some mark) h = eqb-true mark n h

-- a run without a full queue is legal where its traces are lawful and leave no read out, each has its transactions in the journal, each of
-- these is finished, and the rest computes
pub legal-computed : {scenario : Scenario} {settings : Settings} {journal : List Tx} {traces : List Trace} → EachTrace settings (λ terms trace. TraceOk terms trace journal) scenario.sections traces
    → EachTrace settings (λ terms trace. Fresh terms trace journal) scenario.sections traces → EachTrace settings (λ terms trace. finished_xids trace.items ≡ xids_of terms.section.no journal) scenario.sections traces
    → All IsFinished journal → list_all (λ tx. names_section scenario.sections tx.session) journal ≡ true → list_all (λ trace. list_all not_full trace.items) traces ≡ true
    → list_all (λ pair. list_any (same_pair pair) (flat_map (λ end. end.state.raised) (ends settings scenario.sections traces))) (flat_map (λ end. end.state.found) (ends settings scenario.sections traces)) ≡ true
    → list_all (stood_at (ends settings scenario.sections traces)) (flat_map (λ end. end.state.named) (ends settings scenario.sections traces)) ≡ true
    → list_all (λ trace. list_all (shown_within (next_xid journal)) trace.items) traces ≡ true → list_all (λ trace. is_last (next_xid journal) trace.last) traces ≡ true → Legal scenario settings journal traces
legal-computed {scenario = scenario} {settings = settings} {journal = journal} {traces = traces} lawful fresh own finished named full found held shown read = record {
  lawful = lawful;
  fresh = fresh;
  own = own;
  finished = finished;
  named = tested (λ (tx : Tx). names_section scenario.sections tx.session ≡ true) (λ (tx : Tx). names_section scenario.sections tx.session) (λ (tx : Tx) p. p) journal named;
  full =
      tested (λ (trace : Trace). All (IsFullThere settings journal) trace.items) (λ (trace : Trace). list_all not_full trace.items)
      (λ (trace : Trace) p. tested (IsFullThere settings journal) not_full (none-full settings journal) trace.items p) traces full;
  found = all_found (ends settings scenario.sections traces) found;
  holders = all_stood (ends settings scenario.sections traces) held;
  shown = all_shown (next_xid journal) traces shown;
  read_all =
      tested (λ (trace : Trace). IfSome trace.last (λ mark. mark ≡ next_xid journal)) (λ (trace : Trace). is_last (next_xid journal) trace.last)
      (λ (trace : Trace) p. last-is (next_xid journal) trace.last p) traces read;
}
