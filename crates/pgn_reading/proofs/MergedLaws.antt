-- The traces of a legal run show its journal.
use Rattle.std.proofs.Common.{◌≡◌, ℕ, zero, suc, ◌+◌, ◌-◌, ◌<◌, ◌≤◌, ◌==◌, ◌||◌, Bool, true, false, cond, List, [], ◌∷◌, length, Option, Some, None, IfSome, IsSomeAnd, slice_get, All, Any, Contains, sym, ap, ◌∙◌, refl, subst, arith, eq-eqb, eqb-true}
use Rattle.std.specs.List.{cons_option}
use Rattle.std.proofs.lemmas.Option.{get_or_from_slice_get, same_Some, slice_get_within}
use Rattle.std.proofs.lemmas.List.Elements.{All-nil, All-cons, All-head, All-tail, All-get_or, Contains-append_right}
use Rattle.pgn_base.specs.declared.limits.TheConstants.{FIRST_XID}
use Rattle.pgn_base.specs.declared.note.Note.{Note}
use Rattle.pgn_journal.specs.declared.tx.Tx.{Tx}
use Rattle.pgn_journal.specs.declared.tx.Fate.{Fate}
use Rattle.pgn_journal.specs.declared.tx.Fate.TheVariants.{Committed, Aborted}
use Rattle.pgn_model.specs.declared.item.Item.{Item}
use Rattle.pgn_model.specs.declared.item.Item.TheVariants.{Line, Enlist, Publish, QueueFull, Leave, Reply, Refuse, Channels, Used, Raise, Found, TimedOut, Read}
use Rattle.pgn_language.specs.declared.scenario.Section.{Section}
use Rattle.pgn_model.specs.declared.trace.Trace.{Trace}
use Rattle.pgn_journal.specs.Journal.{entry, IsFinished, IsQueued, xids_from, xids_of}
use Rattle.pgn_model.specs.Along.{Along}
use Rattle.pgn_model.specs.Walk.{Settings, Terms, State, start, after_item, Allowed, IsCommittedBy, IsAbortedBy}
use Rattle.pgn_model.specs.Trace.{TraceOk}
use Rattle.pgn_model.specs.Legal.{EachTrace, finished_xid, finished_xids, names_section}
use Rattle.pgn_reading.specs.Merged.{IsShownIn, numbered}
use Rattle.pgn_reading.specs.Laws.{LegalShowsJournal}

-- the numbers of a session's transactions are no less than the first
xids-from : (session x : ℕ) (txs : List Tx) → All (λ n. x ≤ n) (xids_from session x txs)
xids-from session x [] = All-nil (λ n. x ≤ n)
xids-from session x (tx ∷ txs) =
    let rest : All (λ n. x ≤ n) (xids_from session (x + 1) txs) = λ k d lt. omega (arith, xids-from session (x + 1) txs k d lt) in
    by (tx.session == session) (xids_from session (x + 1) txs) rest
  where
    by : (b : Bool) (ns : List ℕ) → All (λ n. x ≤ n) ns → All (λ n. x ≤ n) (cond b (x ∷ ns) ns)
    by true ns h = All-cons (λ n. x ≤ n) x ns (omega arith) h
    by false ns h = h

-- the number of a session's transaction is among its numbers
in-more : (b : Bool) (y z : ℕ) (ys : List ℕ) → Contains ys z → Contains (cond b (y ∷ ys) ys) z
in-more true y z ys h = Contains-append_right (y ∷ []) ys z h
in-more false y z ys h = h

number-among : (session x : ℕ) (txs : List Tx) (k : ℕ) (tx : Tx) → slice_get txs k ≡ Some tx → tx.session ≡ session → Contains (xids_from session x txs) (x + k)
number-among session x [] k tx there is = absurd (slice_get_none k tx there)
  where
    slice_get_none : (k : ℕ) (tx : Tx) → slice_get {X = Tx} [] k ≡ Some tx → ⊥
    slice_get_none k tx h = cc
number-among session x (first ∷ txs) zero tx there is =
    let rest = xids_from session (x + 1) txs in
    let mine : first.session ≡ session = ap (λ (t : Tx). t.session) (same_Some first tx there) ∙ is in
    subst (λ (b : Bool). Contains (cond b (x ∷ rest) rest) (x + 0)) (sym (eq-eqb first.session session mine)) (0, omega arith, omega arith)
number-among session x (first ∷ txs) (suc k) tx there is =
    let rest = xids_from session (x + 1) txs in
    let later : Contains rest (x + suc k) = subst (λ (n : ℕ). Contains rest n) (omega arith) (number-among session (x + 1) txs k tx there is) in
    in-more (first.session == session) x (x + suc k) rest later

-- what is said of an element that is there
some-there : {A : Type 0} (o : Option A) (P : A → Type 0) → IsSomeAnd o P → (x : A) × (o ≡ Some x) × P x
some-there None P h = absurd h
some-there (Some x) P h = (x, refl, h)

-- two transactions with the same parts
same-tx : (tx : Tx) (session db : ℕ) (notes : List Note) (queued : ℕ) (fate : Fate) → tx.session ≡ session → tx.db ≡ db → tx.notes ≡ notes → tx.queued ≡ queued → tx.fate ≡ fate
    → tx ≡ record { session = session; db = db; notes = notes; queued = queued; fate = fate }
same-tx tx session db notes queued fate e1 e2 e3 e4 e5 =
    ap (λ (n : ℕ). let t : Tx = record { session = n; db = tx.db; notes = tx.notes; queued = tx.queued; fate = tx.fate } in t) e1
    ∙ ap (λ (n : ℕ). let t : Tx = record { session = session; db = n; notes = tx.notes; queued = tx.queued; fate = tx.fate } in t) e2
    ∙ ap (λ (n : List Note). let t : Tx = record { session = session; db = db; notes = n; queued = tx.queued; fate = tx.fate } in t) e3
    ∙ ap (λ (n : ℕ). let t : Tx = record { session = session; db = db; notes = notes; queued = n; fate = tx.fate } in t) e4
    ∙ ap (λ (f : Fate). let t : Tx = record { session = session; db = db; notes = notes; queued = queued; fate = f } in t) e5

module _ (terms : Terms) (journal : List Tx) (all : All IsFinished journal) where
  -- a transaction of the journal is finished
  finished-at : (x : ℕ) (tx : Tx) → entry journal x ≡ Some tx → IsFinished tx
  finished-at x tx there =
      subst IsFinished (get_or_from_slice_get journal (x - FIRST_XID) tx tx there) (All-get_or IsFinished journal (x - FIRST_XID) tx (slice_get_within journal (x - FIRST_XID) tx there) all)

  committed : (x : ℕ) (notes : List Note) → IsSomeAnd (entry journal x) (IsCommittedBy terms.section notes) → entry journal x ≡ Some (numbered x terms.section.no terms.section.db notes (length notes) Committed).1
  committed x notes h =
      let got = some-there (entry journal x) (IsCommittedBy terms.section notes) h in
      let tx : Tx = got.0 in
      let by : IsCommittedBy terms.section notes tx = got.2 in
      let queued : tx.queued ≡ length tx.notes = subst (λ (f : Fate). IsQueued f tx.queued (length tx.notes)) by.committed (finished-at x tx got.1).queueing in
      got.1 ∙ ap (λ (t : Tx). Some t) (same-tx tx terms.section.no terms.section.db notes (length notes) Committed by.by_session by.in_database by.with_notes (queued ∙ ap (λ (ns : List Note). length ns) by.with_notes) by.committed)

  aborted : (x : ℕ) (notes : List Note) (queued : ℕ) → IsSomeAnd (entry journal x) (IsAbortedBy terms.section notes queued) → entry journal x ≡ Some (numbered x terms.section.no terms.section.db notes queued Aborted).1
  aborted x notes queued h =
      let got = some-there (entry journal x) (IsAbortedBy terms.section notes queued) h in
      let tx : Tx = got.0 in
      let by : IsAbortedBy terms.section notes queued tx = got.2 in
      got.1 ∙ ap (λ (t : Tx). Some t) (same-tx tx terms.section.no terms.section.db notes queued Aborted by.by_session by.in_database by.with_notes by.some by.aborted)

  -- an item that is allowed, with a number from 3 on
  allowed-shown : (s : State) (item : Item) → Allowed terms journal s item → IfSome (finished_xid item) (λ x. FIRST_XID ≤ x) → IsShownIn journal terms.section.no terms.section.db item
  allowed-shown s (Line line) h low = tt
  allowed-shown s (Enlist base point) h low = tt
  allowed-shown s (Publish xid notes) h low = (low, committed xid notes h.in_journal)
  allowed-shown s (QueueFull full notes) h low = (low, aborted full.xid notes full.queued h.in_journal)
  allowed-shown s Leave h low = tt
  allowed-shown s (Reply tag warning) h low = tt
  allowed-shown s (Refuse refusal) h low = tt
  allowed-shown s (Channels names) h low = tt
  allowed-shown s (Used usage) h low = tt
  allowed-shown s (Raise value) h low = tt
  allowed-shown s (Found value) h low = tt
  allowed-shown s (TimedOut looks) h low = tt
  allowed-shown s (Read from to got) h low = tt

  -- along a lawful trace whose numbers are from 3 on
  along-shown : (s : State) (items : List Item) → Along after_item (Allowed terms journal) s items → All (λ x. FIRST_XID ≤ x) (finished_xids items) → All (IsShownIn journal terms.section.no terms.section.db) items
  along-shown s [] h low = All-nil (IsShownIn journal terms.section.no terms.section.db)
  along-shown s (item ∷ items) h low =
      let parts = split (finished_xid item) (finished_xids items) low in
      All-cons (IsShownIn journal terms.section.no terms.section.db) item items (allowed-shown s item h.0 parts.0) (along-shown (after_item s item) items h.1 parts.1)
    where
      split : (o : Option ℕ) (xs : List ℕ) → All (λ x. FIRST_XID ≤ x) (cons_option o xs) → IfSome o (λ x. FIRST_XID ≤ x) × All (λ x. FIRST_XID ≤ x) xs
      split None xs h = (tt, h)
      split (Some x) xs h = (All-head (λ n. FIRST_XID ≤ n) x xs h, All-tail (λ n. FIRST_XID ≤ n) x xs h)

  -- a session's trace
  trace-shown : (trace : Trace) → TraceOk terms trace journal → finished_xids trace.items ≡ xids_of terms.section.no journal → All (IsShownIn journal trace.session trace.db) trace.items
  trace-shown trace ok own =
      subst (λ (n : ℕ). All (IsShownIn journal n trace.db) trace.items) (sym ok.session)
      (subst (λ (n : ℕ). All (IsShownIn journal terms.section.no n) trace.items) (sym ok.database)
      (along-shown (start terms.section) trace.items ok.lawful (subst (λ (xs : List ℕ). All (λ x. FIRST_XID ≤ x) xs) (sym own) (xids-from terms.section.no FIRST_XID journal))))

-- what the trace of each session shows
module _ (settings : Settings) (journal : List Tx) where
  abbrev Lawful : Terms → Trace → Type 0
  Lawful terms trace = TraceOk terms trace journal

  abbrev Owns : Terms → Trace → Type 0
  Owns terms trace = finished_xids trace.items ≡ xids_of terms.section.no journal

  each-shown : (sections : List Section) (traces : List Trace) → All IsFinished journal → EachTrace settings Lawful sections traces → EachTrace settings Owns sections traces
      → All (λ trace. All (IsShownIn journal trace.session trace.db) trace.items) traces
  each-shown [] [] all lawful own = All-nil (λ trace. All (IsShownIn journal trace.session trace.db) trace.items)
  each-shown [] (trace ∷ traces) all lawful own = absurd own
  each-shown (section ∷ sections) [] all lawful own = absurd own
  each-shown (section ∷ sections) (trace ∷ traces) all lawful own =
      All-cons (λ t. All (IsShownIn journal t.session t.db) t.items) trace traces
      (trace-shown (record { section = section; settings = settings }) journal all trace lawful.0 own.0) (each-shown sections traces all lawful.1 own.1)

  -- the trace of the session with a number
  some-shows : (sections : List Section) (traces : List Trace) (session x : ℕ) → EachTrace settings Owns sections traces → names_section sections session ≡ true
      → Contains (xids_of session journal) x → Any (λ trace. Contains (finished_xids trace.items) x) traces
  some-shows [] traces session x own named there = absurd (let no : ⊥ = cc in no)
  some-shows (section ∷ sections) [] session x own named there = absurd own
  some-shows (section ∷ sections) (trace ∷ traces) session x own named there =
      by (section.no == session) refl (λ rest. some-shows sections traces session x own.1 rest there)
    where
      by : (b : Bool) → (section.no == session) ≡ b → (names_section sections session ≡ true → Any (λ t. Contains (finished_xids t.items) x) traces) → Any (λ t. Contains (finished_xids t.items) x) (trace ∷ traces)
      by true e later =
          let mine : Contains (finished_xids trace.items) x = subst (λ (xs : List ℕ). Contains xs x) (sym (own.0 ∙ ap (λ (n : ℕ). xids_of n journal) (eqb-true section.no session e))) there in
          (0, trace, omega arith, refl, mine)
      by false e later =
          let found = later (subst (λ (b : Bool). (b || names_section sections session) ≡ true) e named) in
          (suc found.0, found.1, omega (arith, found.2), found.3, found.4)

-- what a legal run's traces show is its journal
pub legal-shows_journal : LegalShowsJournal
legal-shows_journal scenario settings journal traces legal = record {
  shown = each-shown settings journal scenario.sections traces legal.finished legal.lawful legal.own;
  whole = λ k lt.
      let there = slice-there journal k lt in
      let tx : Tx = there.0 in
      let named : names_section scenario.sections tx.session ≡ true = All-at journal k tx there.1 legal.named in
      some-shows settings journal scenario.sections traces tx.session (FIRST_XID + k) legal.own named (number-among tx.session FIRST_XID journal k tx there.1 refl);
}
  where
    slice-there : (txs : List Tx) (k : ℕ) → k < length txs → (tx : Tx) × (slice_get txs k ≡ Some tx)
    slice-there [] k lt = absurd (omega (arith, lt))
    slice-there (tx ∷ txs) zero lt = (tx, refl)
    slice-there (tx ∷ txs) (suc k) lt = slice-there txs k (omega (arith, lt))

    All-at : (txs : List Tx) (k : ℕ) (tx : Tx) → slice_get txs k ≡ Some tx → All (λ t. names_section scenario.sections t.session ≡ true) txs → names_section scenario.sections tx.session ≡ true
    All-at txs k tx there all =
        subst (λ (t : Tx). names_section scenario.sections t.session ≡ true) (get_or_from_slice_get txs k tx tx there)
        (All-get_or (λ t. names_section scenario.sections t.session ≡ true) txs k tx (slice_get_within txs k tx there) all)
