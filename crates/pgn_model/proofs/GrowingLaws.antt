-- Proofs of the laws of a trace as the journal grows.
use Rattle.std.proofs.Common.{◌≡◌, ℕ, ◌+◌, ◌-◌, ◌<◌, ◌≤◌, max, List, [], ◌∷◌, ◌++◌, length, Option, Some, None, IfSome, All, fold, sym, refl, subst, arith}
use Rattle.std.proofs.lemmas.List.Elements.{All-nil, All-head, All-tail, All-push, All-weaker, All-cons, All-pop}
use Rattle.pgn_journal.specs.declared.tx.Tx.{Tx}
use Rattle.pgn_model.specs.declared.item.Item.{Item}
use Rattle.pgn_model.specs.declared.item.Item.TheVariants.{Line, Enlist, Publish, QueueFull, Leave, Reply, Refuse, Channels, Used, Raise, Found, TimedOut, Read}
use Rattle.pgn_journal.specs.Journal.{next_xid}
use Rattle.pgn_journal.specs.Due.{is_due_to}
use Rattle.pgn_journal.specs.Near.{Near}
use Rattle.pgn_model.specs.Along.{Along}
use Rattle.pgn_model.specs.Walk.{Settings, Terms, State, Owed, Awaiting, start, after_item, Allowed, IsCommittedBy, IsAbortedBy, at_line, at_enlist, at_publish, at_full, at_leave, at_rows, at_raise, at_found, IsAwaiting, holder_at, IsGreatest}
use Rattle.pgn_model.specs.Trace.{IsLawful, IsFreshAt, state_after}
use Rattle.pgn_model.specs.Legal.{IsShownWithin, IsFullThere}
use Rattle.pgn_model.specs.laws.Growing.{IsStateWithin, FullGrows, ToldWithin, MarksWithin, MarkWithin, StateWithin, UpToDateGrows, FreshSoFarGrows, LawfulShows}
use Rattle.pgn_journal.proofs.JournalLaws.{entry-within}
use Rattle.pgn_journal.proofs.NearLaws.{near-grows}
use Rattle.pgn_journal.proofs.QueueUseLaws.{no_page-grows}
use Rattle.pgn_model.proofs.WalkLaws.{Along-weaker}
use Rattle.pgn_model.proofs.CarriedLaws.{Carried, carried, begun, carried-line, carried-enlist, carried-publish, carried-full, carried-leave, carried-rows, carried-raise, marks-found, told-found}

-- a fact of the state that each item keeps holds where the walk ends
pub Along-keeps : {S I : Type 0} (next : S → I → S) (P : S → I → Type 0) (Q : S → Type 0) → ((s : S) (item : I) → P s item → Q s → Q (next s item)) → (s : S) (items : List I) → Along next P s items → Q s → Q (fold next s items)
Along-keeps next P Q f s [] h q = q
Along-keeps next P Q f s (i ∷ items) h q = Along-keeps next P Q f (next s i) items h.1 (f s i h.0 q)

-- and before each item
pub Along-before : {S I : Type 0} (next : S → I → S) (P : S → I → Type 0) (Q : S → Type 0) → ((s : S) (item : I) → P s item → Q s → Q (next s item)) → (s : S) (items : List I) → Along next P s items → Q s → Along next (λ t i. Q t) s items
Along-before next P Q f s [] h q = tt
Along-before next P Q f s (i ∷ items) h q = (q, Along-before next P Q f (next s i) items h.1 (f s i h.0 q))

-- two facts of each item
pub Along-both : {S I : Type 0} (next : S → I → S) (P Q : S → I → Type 0) (s : S) (items : List I) → Along next P s items → Along next Q s items → Along next (λ t i. P t i × Q t i) s items
Along-both next P Q s [] h k = tt
Along-both next P Q s (i ∷ items) h k = ((h.0, k.0), Along-both next P Q (next s i) items h.1 k.1)

-- a fact of each item alone
pub Along-all : {S I : Type 0} (next : S → I → S) (P : I → Type 0) (s : S) (items : List I) → All P items → Along next (λ t i. P i) s items
Along-all next P s [] h = tt
Along-all next P s (i ∷ items) h = (All-head P i items h, Along-all next P (next s i) items (All-tail P i items h))

-- the bound holds of what a state carries where it holds of what is the same
told-same : (s t : State) (n : ℕ) → carried t ≡ carried s → s.told ≤ n → t.told ≤ n
told-same s t n e h = subst (λ (c : Carried). c.told ≤ n) (sym e) h

-- the marks are within n
record AreMarksWithin (n : ℕ) (mark : Option ℕ) (marks : List ℕ) : Type 0 where
  own : IfSome mark (λ m. m ≤ n)
  all : All (λ m. m ≤ n) marks

marks-same : (s t : State) (n : ℕ) → carried t ≡ carried s → AreMarksWithin n s.mark s.marks → AreMarksWithin n t.mark t.marks
marks-same s t n e h = subst (λ (c : Carried). AreMarksWithin n c.mark c.marks) (sym e) h

-- one item of a lawful trace tells nothing past the journal
told-step : (terms : Terms) (journal : List Tx) (s : State) (item : Item) → Allowed terms journal s item → IsShownWithin (next_xid journal) item → s.told ≤ next_xid journal → (after_item s item).told ≤ next_xid journal
told-step terms journal s (Line line) h shown k = told-same (begun s) (at_line s s.rest) (next_xid journal) (carried-line s s.rest) k
told-step terms journal s (Enlist base point) h shown k =
    let before : State = record s { mark = Some point; told = max s.told point; marks = s.marks ++ base ∷ [] ++ point ∷ [] } in
    told-same before (at_enlist before s.owed) (next_xid journal) (carried-enlist before s.owed) (omega (arith, k, h.in_journal))
told-step terms journal s (Publish xid notes) h shown k =
    let before : State = record s { told = max s.told (xid + 1) } in
    let there : xid - 3 < length journal = entry-within journal (xid - 3) (IsCommittedBy terms.section notes) h.in_journal in
    told-same before (at_publish before s.owed) (next_xid journal) (carried-publish before s.owed) (omega (arith, there))
told-step terms journal s (QueueFull full notes) h shown k =
    let before : State = record s { told = max s.told (full.xid + 1); named = _ } in
    let there : full.xid - 3 < length journal = entry-within journal (full.xid - 3) (IsAbortedBy terms.section notes full.queued) h.in_journal in
    told-same before (at_full before s.owed) (next_xid journal) (carried-full before s.owed) (omega (arith, there))
told-step terms journal s Leave h shown k =
    let before : State = record s { mark = None } in
    told-same before (at_leave before s.owed) (next_xid journal) (carried-leave before s.owed) k
told-step terms journal s (Reply tag warning) h shown k = k
told-step terms journal s (Refuse refusal) h shown k = k
told-step terms journal s (Channels names) h shown k = told-same s (at_rows s s.owed) (next_xid journal) (carried-rows s s.owed) k
told-step terms journal s (Used usage) h shown k =
    let before : State = record s { named = _ } in
    told-same before (at_rows before s.owed) (next_xid journal) (carried-rows before s.owed) k
told-step terms journal s (Raise value) h shown k = told-same s (at_raise value s s.owed) (next_xid journal) (carried-raise value s s.owed) k
told-step terms journal s (Found value) h shown k = told-found value s s.owed (next_xid journal) shown k
told-step terms journal s (TimedOut looks) h shown k = k
told-step terms journal s (Read from to got) h shown k = omega (arith, k, h.in_journal)

-- nor does it make a mark past it
marks-step : (terms : Terms) (journal : List Tx) (s : State) (item : Item) → Allowed terms journal s item → AreMarksWithin (next_xid journal) s.mark s.marks → AreMarksWithin (next_xid journal) (after_item s item).mark (after_item s item).marks
marks-step terms journal s (Line line) h k = marks-same (begun s) (at_line s s.rest) (next_xid journal) (carried-line s s.rest) k
marks-step terms journal s (Enlist base point) h k =
    let n : ℕ = next_xid journal in
    let before : State = record s { mark = Some point; told = max s.told point; marks = s.marks ++ base ∷ [] ++ point ∷ [] } in
    marks-same before (at_enlist before s.owed) n (carried-enlist before s.owed)
    (record { own = h.in_journal; all = two n base point s.marks k.all (omega (arith, h.ordered, h.in_journal)) h.in_journal })
  where
    two : (n base point : ℕ) (marks : List ℕ) → All (λ m. m ≤ n) marks → base ≤ n → point ≤ n → All (λ m. m ≤ n) (marks ++ base ∷ [] ++ point ∷ [])
    two n base point marks all b p = All-push (λ m. m ≤ n) (marks ++ base ∷ []) point (All-push (λ m. m ≤ n) marks base all b) p
marks-step terms journal s (Publish xid notes) h k =
    let before : State = record s { told = max s.told (xid + 1) } in
    marks-same before (at_publish before s.owed) (next_xid journal) (carried-publish before s.owed) k
marks-step terms journal s (QueueFull full notes) h k =
    let before : State = record s { told = max s.told (full.xid + 1); named = _ } in
    marks-same before (at_full before s.owed) (next_xid journal) (carried-full before s.owed) k
marks-step terms journal s Leave h k =
    let before : State = record s { mark = None } in
    marks-same before (at_leave before s.owed) (next_xid journal) (carried-leave before s.owed) (record { own = tt; all = k.all })
marks-step terms journal s (Reply tag warning) h k = k
marks-step terms journal s (Refuse refusal) h k = k
marks-step terms journal s (Channels names) h k = marks-same s (at_rows s s.owed) (next_xid journal) (carried-rows s s.owed) k
marks-step terms journal s (Used usage) h k =
    let before : State = record s { named = _ } in
    marks-same before (at_rows before s.owed) (next_xid journal) (carried-rows before s.owed) k
marks-step terms journal s (Raise value) h k = marks-same s (at_raise value s s.owed) (next_xid journal) (carried-raise value s s.owed) k
marks-step terms journal s (Found value) h k = subst (λ (c : Carried). AreMarksWithin (next_xid journal) c.mark c.marks) (sym (marks-found value s s.owed)) k
marks-step terms journal s (TimedOut looks) h k = k
marks-step terms journal s (Read from to got) h k = record { own = h.in_journal; all = All-push (λ m. m ≤ next_xid journal) s.marks to k.all h.in_journal }

-- an item of a lawful trace, with its numbers within the journal
abbrev IsKnown : Terms → List Tx → State → Item → Type 0
IsKnown terms journal s item = Allowed terms journal s item × IsShownWithin (next_xid journal) item

known-items : (terms : Terms) (journal : List Tx) (items : List Item) → IsLawful terms journal items → All (IsShownWithin (next_xid journal)) items → Along after_item (IsKnown terms journal) (start terms.section) items
known-items terms journal items h shown = Along-both after_item (Allowed terms journal) (λ t i. IsShownWithin (next_xid journal) i) (start terms.section) items h (Along-all after_item (IsShownWithin (next_xid journal)) (start terms.section) items shown)

first-told : (journal : List Tx) → 3 ≤ next_xid journal
first-told journal = omega arith

-- a session is told of no number past the journal, where its trace shows none
pub told-within : ToldWithin
told-within terms journal items h shown = Along-keeps after_item (IsKnown terms journal) (λ (s : State). s.told ≤ next_xid journal) (λ s item p k. told-step terms journal s item p.0 p.1 k) (start terms.section) items (known-items terms journal items h shown) (first-told journal)

all_marks-within : (terms : Terms) (journal : List Tx) (items : List Item) → IsLawful terms journal items → AreMarksWithin (next_xid journal) (state_after terms items).mark (state_after terms items).marks
all_marks-within terms journal items h = Along-keeps after_item (Allowed terms journal) (λ (s : State). AreMarksWithin (next_xid journal) s.mark s.marks) (marks-step terms journal) (start terms.section) items h (record { own = tt; all = All-nil (λ m. m ≤ next_xid journal) })

-- all marks of a lawful trace are within the journal
pub marks-within : MarksWithin
marks-within terms journal items h = (all_marks-within terms journal items h).all

-- so is the one that it ends with
pub mark-within : MarkWithin
mark-within terms journal items h = (all_marks-within terms journal items h).own

-- of the state that lawful items lead to what was told, the mark and all marks are within the journal
pub state-within : StateWithin
state-within terms journal items s h shown = subst (IsStateWithin (next_xid journal)) h.state (record {
  told = told-within terms journal items h.lawful shown;
  mark = mark-within terms journal items h.lawful;
  marks = marks-within terms journal items h.lawful;
})

full-there : (settings : Settings) (journal more : List Tx) (item : Item) → IsFullThere settings journal item → IsFullThere settings (journal ++ more) item
full-there settings journal more (QueueFull full notes) h = no_page-grows settings.format settings.limit journal more full h
full-there settings journal more item h = tt

-- a full queue of a journal was full in each longer one
pub full-grows : FullGrows
full-grows settings journal more items full = All-weaker (IsFullThere settings journal) (IsFullThere settings (journal ++ more)) (full-there settings journal more) items full

-- where an item shows that a flag was found, it does so with a number within n
abbrev IsFoundWithin : ℕ → Item → Type 0
IsFoundWithin n (Found value) = value ≤ n
IsFoundWithin n item = Unit {0}

-- each flag was found with a number within n
abbrev AreFoundWithin : ℕ → List (ℕ × ℕ) → Type 0
AreFoundWithin n found = All (λ pair. pair.1 ≤ n) found

found-same : (s t : State) (n : ℕ) → carried t ≡ carried s → AreFoundWithin n t.found → AreFoundWithin n s.found
found-same s t n e h = subst (λ (c : Carried). AreFoundWithin n c.found) e h

found-here : (value : ℕ) (s : State) (owed : Owed) (n : ℕ) (P : ℕ → Type 0) → IsAwaiting owed P → AreFoundWithin n (at_found value s owed).found → (value ≤ n) × AreFoundWithin n s.found
found-here value s (Awaiting flag) n P h k =
    let both = All-pop (λ (pair : ℕ × ℕ). pair.1 ≤ n) (s.found ++ (flag, value) ∷ []) s.found (Some (flag, value)) refl k in
    (both.1, both.0)
found-here value s owed n P h k = absurd h

-- what was found after an item was found before it or is what it shows
found-before : (terms : Terms) (journal : List Tx) (s : State) (item : Item) (n : ℕ) → Allowed terms journal s item → AreFoundWithin n (after_item s item).found → IsFoundWithin n item × AreFoundWithin n s.found
found-before terms journal s (Line line) n h k = (tt, found-same (begun s) (at_line s s.rest) n (carried-line s s.rest) k)
found-before terms journal s (Enlist base point) n h k =
    let before : State = record s { mark = Some point; told = max s.told point; marks = s.marks ++ base ∷ [] ++ point ∷ [] } in
    (tt, found-same before (at_enlist before s.owed) n (carried-enlist before s.owed) k)
found-before terms journal s (Publish xid notes) n h k =
    let before : State = record s { told = max s.told (xid + 1) } in
    (tt, found-same before (at_publish before s.owed) n (carried-publish before s.owed) k)
found-before terms journal s (QueueFull full notes) n h k =
    let before : State = record s { told = max s.told (full.xid + 1); named = s.named ++ holder_at full.holder full.floor_mark } in
    (tt, found-same before (at_full before s.owed) n (carried-full before s.owed) k)
found-before terms journal s Leave n h k =
    let before : State = record s { mark = None } in
    (tt, found-same before (at_leave before s.owed) n (carried-leave before s.owed) k)
found-before terms journal s (Reply tag warning) n h k = (tt, k)
found-before terms journal s (Refuse refusal) n h k = (tt, k)
found-before terms journal s (Channels names) n h k = (tt, found-same s (at_rows s s.owed) n (carried-rows s s.owed) k)
found-before terms journal s (Used usage) n h k =
    let before : State = record s { named = s.named ++ holder_at usage.holder usage.floor_mark } in
    (tt, found-same before (at_rows before s.owed) n (carried-rows before s.owed) k)
found-before terms journal s (Raise value) n h k = (tt, found-same s (at_raise value s s.owed) n (carried-raise value s s.owed) k)
found-before terms journal s (Found value) n h k = found-here value s s.owed n (λ (flag : ℕ). IsGreatest s.raised flag value × IsGreatest s.found flag value) h k
found-before terms journal s (TimedOut looks) n h k = (tt, k)
found-before terms journal s (Read from to got) n h k = (tt, k)

-- each item that shows a found flag shows a number that the walk has kept
found-items : (terms : Terms) (journal : List Tx) (n : ℕ) (s : State) (items : List Item) → Along after_item (Allowed terms journal) s items → AreFoundWithin n (fold after_item s items).found
    → Along after_item (λ t item. IsFoundWithin n item) s items × AreFoundWithin n s.found
found-items terms journal n s [] h k = (tt, k)
found-items terms journal n s (item ∷ items) h k =
    let rest = found-items terms journal n (after_item s item) items h.1 k in
    let here = found-before terms journal s item n h.0 rest.1 in
    ((here.0, rest.0), here.1)

-- a fact of each item alone
All-along : {S I : Type 0} (next : S → I → S) (P : I → Type 0) (s : S) (items : List I) → Along next (λ t i. P i) s items → All P items
All-along next P s [] h = All-nil P
All-along next P s (i ∷ items) h = All-cons P i items h.0 (All-along next P (next s i) items h.1)

-- what an item shows is within the journal where what the walk carries is
shows-within : (terms : Terms) (journal : List Tx) (s : State) (item : Item) → Allowed terms journal s item → IsFullThere terms.settings journal item → IsFoundWithin (next_xid journal) item
    → s.told ≤ next_xid journal → IfSome s.mark (λ m. m ≤ next_xid journal) → IsShownWithin (next_xid journal) item
shows-within terms journal s (Line line) h full found told mark = tt
shows-within terms journal s (Enlist base point) h full found told mark = (omega (arith, h.ordered, h.in_journal), h.in_journal)
shows-within terms journal s (Publish xid notes) h full found told mark =
    let there : xid - 3 < length journal = entry-within journal (xid - 3) (IsCommittedBy terms.section notes) h.in_journal in
    omega (arith, there)
shows-within terms journal s (QueueFull full notes) h there found told mark =
    let within : full.xid - 3 < length journal = entry-within journal (full.xid - 3) (IsAbortedBy terms.section notes full.queued) h.in_journal in
    (omega (arith, within), omega (arith, within, there.floor_below))
shows-within terms journal s Leave h full found told mark = tt
shows-within terms journal s (Reply tag warning) h full found told mark = tt
shows-within terms journal s (Refuse refusal) h full found told mark = tt
shows-within terms journal s (Channels names) h full found told mark = tt
shows-within terms journal s (Used usage) h full found told mark = (h.shown.in_journal, omega (arith, h.shown.floor_below, h.shown.in_journal))
shows-within terms journal s (Raise value) h full found told mark = omega (arith, h.told)
shows-within terms journal s (Found value) h full found told mark = found
shows-within terms journal s (TimedOut looks) h full found told mark = tt
shows-within terms journal s (Read from to got) h full found told mark =
    (subst (λ (m : Option ℕ). IfSome m (λ n. n ≤ next_xid journal)) h.from_mark mark, h.in_journal)

-- along a lawful walk
shows-along : (terms : Terms) (journal : List Tx) (s : State) (items : List Item) → Along after_item (Allowed terms journal) s items → Along after_item (λ t item. IsFullThere terms.settings journal item) s items
    → Along after_item (λ t item. IsFoundWithin (next_xid journal) item) s items → s.told ≤ next_xid journal → AreMarksWithin (next_xid journal) s.mark s.marks
    → Along after_item (λ t item. IsShownWithin (next_xid journal) item) s items
shows-along terms journal s [] h full found told marks = tt
shows-along terms journal s (item ∷ items) h full found told marks =
    let here : IsShownWithin (next_xid journal) item = shows-within terms journal s item h.0 full.0 found.0 told marks.own in
    (here, shows-along terms journal (after_item s item) items h.1 full.1 found.1 (told-step terms journal s item h.0 here told) (marks-step terms journal s item h.0 marks))

-- lawful items show numbers of the journal alone, where their full queues and flags do
pub lawful-shows : LawfulShows
lawful-shows terms journal items s h full found =
    let first : State = start terms.section in
    let last : AreFoundWithin (next_xid journal) (fold after_item first items).found = subst (λ (t : State). AreFoundWithin (next_xid journal) t.found) (sym h.state) found in
    All-along after_item (IsShownWithin (next_xid journal)) first items
    (shows-along terms journal first items h.lawful (Along-all after_item (IsFullThere terms.settings journal) first items full) (found-items terms journal (next_xid journal) first items h.lawful last).0
    (first-told journal) (record { own = tt; all = All-nil (λ m. m ≤ next_xid journal) }))

-- who is up to date stays so as the journal grows, if it was told of nothing past it
pub up_to_date-grows : UpToDateGrows
up_to_date-grows terms journal more s within h = grown s.mark h
  where
    grown : (mark : Option ℕ) → IfSome mark (λ m. Near terms.settings.format (is_due_to terms.section.db s.set) journal m s.told)
        → IfSome mark (λ m. Near terms.settings.format (is_due_to terms.section.db s.set) (journal ++ more) m s.told)
    grown None h = h
    grown (Some m) h = near-grows terms.settings.format (is_due_to terms.section.db s.set) journal more m s.told within h

fresh_at-grows : (terms : Terms) (journal more : List Tx) (s : State) (item : Item) → s.told ≤ next_xid journal → IsFreshAt terms journal s item → IsFreshAt terms (journal ++ more) s item
fresh_at-grows terms journal more s (Line line) within h = λ idle. record { up_to_date = up_to_date-grows terms journal more s within (h idle).up_to_date; read_first = (h idle).read_first }
fresh_at-grows terms journal more s item within h = tt

-- no read is left out of items as the journal grows behind them
pub fresh_so_far-grows : FreshSoFarGrows
fresh_so_far-grows terms journal more items lawful shown fresh =
    let told = Along-before after_item (IsKnown terms journal) (λ (s : State). s.told ≤ next_xid journal) (λ s item p k. told-step terms journal s item p.0 p.1 k) (start terms.section) items (known-items terms journal items lawful shown) (first-told journal) in
    Along-weaker after_item (λ (s : State) (item : Item). (s.told ≤ next_xid journal) × IsFreshAt terms journal s item) (IsFreshAt terms (journal ++ more)) (λ s item p. fresh_at-grows terms journal more s item p.0 p.1) (start terms.section) items
    (Along-both after_item (λ (s : State) (item : Item). s.told ≤ next_xid journal) (IsFreshAt terms journal) (start terms.section) items told fresh)
