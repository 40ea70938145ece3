-- What all traces bear out, and the run that is given back from what was read.
use Rattle.std.proofs.Common.{◌≡◌, ℕ, zero, suc, inr, List, [], ◌∷◌, ◌++◌, length, take, slice_get, Option, Some, None, IfSome, sym, ap, ◌∙◌, refl, subst, arith, append_assoc, append-nil}
use Rattle.std.specs.Prelude.{All, Contains, flat_map}
use Rattle.std.specs.List.{cons_option}
use Rattle.std.proofs.lemmas.List.{take_all}
use Rattle.std.proofs.lemmas.List.Elements.{All-nil, All-cons, All-head, All-tail, All-append, filter_map-append}
use Rattle.std.proofs.lemmas.Option.{same_Some}
use Rattle.pgn_journal.specs.declared.tx.Tx.{Tx}
use Rattle.pgn_journal.specs.Journal.{next_xid, xids_of}
use Rattle.pgn_language.specs.declared.scenario.ScriptLine.{ScriptLine}
use Rattle.pgn_language.specs.declared.scenario.Section.{Section}
use Rattle.pgn_model.specs.declared.item.Item.{Item}
use Rattle.pgn_model.specs.declared.item.Item.TheVariants.{Publish, QueueFull, Channels}
use Rattle.pgn_model.specs.declared.trace.Trace.{Trace}
use Rattle.pgn_model.specs.Along.{Along}
use Rattle.pgn_model.specs.Walk.{Settings, Terms, State, Owed, Listing, start, after_item, Allowed}
use Rattle.pgn_model.specs.Trace.{TraceOk, Fresh, IsFreshAt, state_after}
use Rattle.pgn_model.specs.Legal.{EachTrace, End, ends, StoodAt, IsShownWithin, IsFullThere, finished_xid, finished_xids}
use Rattle.pgn_model.specs.Text.{item_lines, end_line, section_line, trace_lines, traces_lines, journal_lines, joined}
use Rattle.pgn_reading.specs.Completed.{without_line, ready, whole, stepped, walked, completed}
use Rattle.pgn_reading.specs.Form.{IsReadTrace, EachSection}
use Rattle.pgn_reading.specs.Shown.{marks_shown, named_shown, raised_from, raised_in, found_shown, ShowsMark}
use Rattle.pgn_reading.specs.Blame.{Comes, IsNextOwn}
use Rattle.pgn_reading.specs.WalkLaws.{completed_trace}
use Rattle.pgn_reading.specs.WholeLaws.{RaisedInAll, StoodInAll, FoundInAll, NamedInAll, CompletedShowsSame, completed_traces, IsWalked, WalkedIsLegal, WalkedIsLegalText}
use Rattle.pgn_model.proofs.WalkLaws.{fold-push}
use Rattle.pgn_reading.proofs.ComesLaws.{completed-both, along-completed, comes-to_end, fresh-comes, own-is_read}
use Rattle.pgn_reading.proofs.ShownLaws.{marks-are_shown, named-are_shown, raised-are_shown, found-are_shown, marks-are_read, raised-are_read, all-parts, finds-none}

-- What all traces bear out.

module _ (settings : Settings) (journal : List Tx) where
  abbrev Lawful : Terms → Trace → Type 0
  Lawful terms trace = TraceOk terms trace journal

  abbrev terms_of : Section → Terms
  terms_of section = record { section = section; settings = settings }

  raised-all : (sections : List Section) (traces : List Trace) → EachTrace settings Lawful sections traces → flat_map (λ end. end.state.raised) (ends settings sections traces) ≡ raised_in sections traces
  raised-all [] [] h = refl
  raised-all [] (trace ∷ traces) h = absurd h
  raised-all (section ∷ sections) [] h = absurd h
  raised-all (section ∷ sections) (trace ∷ traces) h =
      ap (λ (pairs : List (ℕ × ℕ)). pairs ++ flat_map (λ end. end.state.raised) (ends settings sections traces)) (raised-are_shown (terms_of section) journal trace.items h.0.lawful)
      ∙ ap (λ (pairs : List (ℕ × ℕ)). raised_from None section.lines trace.items ++ pairs) (raised-all sections traces h.1)

  -- the marks of a trace
  marks-there : (section : Section) (trace : Trace) → (state_after (terms_of section) trace.items).marks ≡ flat_map marks_shown trace.items
  marks-there section trace = marks-are_shown (start section) trace.items

  stood-shows : (sections : List Section) (traces : List Trace) (pair : ℕ × ℕ) → EachTrace settings Lawful sections traces → StoodAt (ends settings sections traces) pair → ShowsMark traces pair
  stood-shows [] [] pair h (k, end, lt, is, there) = absurd (omega (arith, lt))
  stood-shows [] (trace ∷ traces) pair h there = absurd h
  stood-shows (section ∷ sections) [] pair h there = absurd h
  stood-shows (section ∷ sections) (trace ∷ traces) pair h (zero, end, lt, is, there) =
      let session : trace.session ≡ pair.0 = h.0.session ∙ ap (λ (e : End). e.session) is ∙ there.0 in
      let marks : Contains (flat_map marks_shown trace.items) pair.1 =
      subst (λ (ms : List ℕ). Contains ms pair.1) (sym (ap (λ (e : End). e.state.marks) is) ∙ marks-there section trace) there.1 in
      (0, trace, omega arith, refl, (session, marks))
  stood-shows (section ∷ sections) (trace ∷ traces) pair h (suc k, end, lt, is, there) =
      let rest = stood-shows sections traces pair h.1 (k, end, omega (arith, lt), is, there) in
      (suc rest.0, rest.1, omega (arith, rest.2), rest.3, rest.4)

  shows-stood : (sections : List Section) (traces : List Trace) (pair : ℕ × ℕ) → EachTrace settings Lawful sections traces → ShowsMark traces pair → StoodAt (ends settings sections traces) pair
  shows-stood [] [] pair h (k, trace, lt, is, there) = absurd (omega (arith, lt))
  shows-stood [] (other ∷ traces) pair h there = absurd h
  shows-stood (section ∷ sections) [] pair h there = absurd h
  shows-stood (section ∷ sections) (other ∷ traces) pair h (zero, trace, lt, is, there) =
      let end : End = record { session = section.no; state = state_after (terms_of section) other.items } in
      let session : section.no ≡ pair.0 = sym h.0.session ∙ ap (λ (t : Trace). t.session) is ∙ there.0 in
      let marks : Contains end.state.marks pair.1 =
      subst (λ (ms : List ℕ). Contains ms pair.1) (sym (ap (λ (t : Trace). flat_map marks_shown t.items) is) ∙ sym (marks-there section other)) there.1 in
      (0, end, omega arith, refl, (session, marks))
  shows-stood (section ∷ sections) (other ∷ traces) pair h (suc k, trace, lt, is, there) =
      let rest = shows-stood sections traces pair h.1 (k, trace, omega (arith, lt), is, there) in
      (suc rest.0, rest.1, omega (arith, rest.2), rest.3, rest.4)

  module _ (pairs : List (ℕ × ℕ)) where
    abbrev Finds : Terms → Trace → Type 0
    Finds terms trace = Along after_item (λ s item. All (Contains pairs) (found_shown s.owed item)) (start terms.section) trace.items

    found-each : (sections : List Section) (traces : List Trace) → EachTrace settings Lawful sections traces → All (Contains pairs) (flat_map (λ end. end.state.found) (ends settings sections traces)) → EachTrace settings Finds sections traces
    found-each [] [] h all = tt
    found-each [] (trace ∷ traces) h all = absurd h
    found-each (section ∷ sections) [] h all = absurd h
    found-each (section ∷ sections) (trace ∷ traces) h all =
        let parts = all-parts (Contains pairs) (state_after (terms_of section) trace.items).found (flat_map (λ end. end.state.found) (ends settings sections traces)) all in
        (((found-are_shown pairs (start section) trace.items).0 parts.0).1, found-each sections traces h.1 parts.1)

    each-found : (sections : List Section) (traces : List Trace) → EachTrace settings Lawful sections traces → EachTrace settings Finds sections traces → All (Contains pairs) (flat_map (λ end. end.state.found) (ends settings sections traces))
    each-found [] [] h all = All-nil (Contains pairs)
    each-found [] (trace ∷ traces) h all = absurd h
    each-found (section ∷ sections) [] h all = absurd h
    each-found (section ∷ sections) (trace ∷ traces) h all =
        All-append (Contains pairs) (state_after (terms_of section) trace.items).found (flat_map (λ end. end.state.found) (ends settings sections traces))
        ((found-are_shown pairs (start section) trace.items).1 (All-nil (Contains pairs), all.0)) (each-found sections traces h.1 all.1)

  module _ (P : ℕ × ℕ → Type 0) where
    abbrev Names : Trace → Type 0
    Names trace = All (λ item. All P (named_shown item)) trace.items

    -- the holders of items
    names-parts : (items : List Item) → All P (flat_map named_shown items) → All (λ item. All P (named_shown item)) items
    names-parts [] h = All-nil (λ item. All P (named_shown item))
    names-parts (item ∷ items) h =
        let parts = all-parts P (named_shown item) (flat_map named_shown items) h in
        All-cons (λ i. All P (named_shown i)) item items parts.0 (names-parts items parts.1)

    names-whole : (items : List Item) → All (λ item. All P (named_shown item)) items → All P (flat_map named_shown items)
    names-whole [] h = All-nil P
    names-whole (item ∷ items) h =
        let Each : Item → Type 0 = λ i. All P (named_shown i) in
        All-append P (named_shown item) (flat_map named_shown items) (All-head Each item items h) (names-whole items (All-tail Each item items h))

    -- where it holds of all holders that were met, it does of those that each trace names
    pub named-each : (sections : List Section) (traces : List Trace) → EachTrace settings Lawful sections traces → All P (flat_map (λ end. end.state.named) (ends settings sections traces)) → All Names traces
    named-each [] [] h all = All-nil Names
    named-each [] (trace ∷ traces) h all = absurd h
    named-each (section ∷ sections) [] h all = absurd h
    named-each (section ∷ sections) (trace ∷ traces) h all =
        let parts = all-parts P (state_after (terms_of section) trace.items).named (flat_map (λ end. end.state.named) (ends settings sections traces)) all in
        All-cons Names trace traces (names-parts trace.items (subst (λ (ps : List (ℕ × ℕ)). All P ps) (named-are_shown (start section) trace.items) parts.0)) (named-each sections traces h.1 parts.1)

    each-named : (sections : List Section) (traces : List Trace) → EachTrace settings Lawful sections traces → All Names traces → All P (flat_map (λ end. end.state.named) (ends settings sections traces))
    each-named [] [] h all = All-nil P
    each-named [] (trace ∷ traces) h all = absurd h
    each-named (section ∷ sections) [] h all = absurd h
    each-named (section ∷ sections) (trace ∷ traces) h all =
        All-append P (state_after (terms_of section) trace.items).named (flat_map (λ end. end.state.named) (ends settings sections traces))
        (subst (λ (ps : List (ℕ × ℕ)). All P ps) (sym (named-are_shown (start section) trace.items)) (names-whole trace.items (All-head Names trace traces all)))
        (each-named sections traces h.1 (All-tail Names trace traces all))

-- lawful traces tell the flags that were raised in all sessions
pub raised-in_all : RaisedInAll
raised-in_all settings journal sections traces h = raised-all settings journal sections traces h

-- traces tell at which marks their sessions stood
pub stood-in_all : StoodInAll
stood-in_all settings journal sections traces pair h = (stood-shows settings journal sections traces pair h, shows-stood settings journal sections traces pair h)

-- where all flags that were found are among some, so are those of each item, and the other way round
pub found-in_all : FoundInAll
found-in_all settings journal sections traces pairs h = (found-each settings journal pairs sections traces h, each-found settings journal pairs sections traces h)

-- where all holders that were met stood at their marks, so did those that each item names, and the other way round
pub named-in_all : NamedInAll
named-in_all settings journal sections traces others h = (named-each settings journal (ShowsMark others) sections traces h, each-named settings journal (ShowsMark others) sections traces h)

-- What the walk makes of what was read.

lines-added : (lines : List ScriptLine) (owed : Owed) (rest : List Item) → flat_map (item_lines lines) (without_line owed ++ rest) ≡ flat_map (item_lines lines) rest
lines-added lines (Listing [] ending) rest = refl
lines-added lines (Listing (name ∷ names) ending) rest = refl
lines-added lines owed rest = refl

lines-whole : (lines : List ScriptLine) (s : State) (item : Item) → item_lines lines (whole s item) ≡ item_lines lines item
lines-whole lines s (Publish xid notes) = refl
lines-whole lines s (QueueFull full notes) = refl
lines-whole lines s item = refl

-- completed traces have the lines of those that were read
pub completed-shows_same : CompletedShowsSame
completed-shows_same lines s [] = refl
completed-shows_same lines s (item ∷ items) =
    lines-added lines s.owed (whole s item ∷ completed (stepped s item) items)
    ∙ ap (λ (rest : List (List ℕ)). item_lines lines (whole s item) ++ rest) (completed-shows_same lines (stepped s item) items)
    ∙ ap (λ (here : List (List ℕ)). here ++ flat_map (item_lines lines) items) (lines-whole lines s item)

-- what holds of each item that was read holds of the completed items, where it holds of what the walk adds
pub completed-all : (P : Item → Type 0) → P (Channels []) → ((s : State) (item : Item) → P item → P (whole s item)) → (s : State) (items : List Item) → All P items → All P (completed s items)
completed-all P none kept s [] h = All-nil P
completed-all P none kept s (item ∷ items) h =
    All-append P (without_line s.owed) (whole s item ∷ completed (stepped s item) items) (added s.owed)
    (All-cons P (whole s item) (completed (stepped s item) items) (kept s item (All-head P item items h)) (completed-all P none kept (stepped s item) items (All-tail P item items h)))
  where
    added : (owed : Owed) → All P (without_line owed)
    added (Listing [] ending) = All-cons P (Channels []) [] none (All-nil P)
    added (Listing (name ∷ names) ending) = All-nil P
    added owed = All-nil P

-- A completed item shows what the item shows that was read, so what holds of what that one shows holds of it: that the queue was full there,
full-whole : (settings : Settings) (journal : List Tx) (s : State) (item : Item) → IsFullThere settings journal item → IsFullThere settings journal (whole s item)
full-whole settings journal s (Publish xid notes) h = h
full-whole settings journal s (QueueFull full notes) h = h
full-whole settings journal s item h = h

-- that the numbers it shows are below n,
shown-whole : (n : ℕ) (s : State) (item : Item) → IsShownWithin n item → IsShownWithin n (whole s item)
shown-whole n s (Publish xid notes) h = h
shown-whole n s (QueueFull full notes) h = h
shown-whole n s item h = h

-- and P of the holders that it names
named-whole : (P : ℕ × ℕ → Type 0) (s : State) (item : Item) → All P (named_shown item) → All P (named_shown (whole s item))
named-whole P s (Publish xid notes) h = h
named-whole P s (QueueFull full notes) h = h
named-whole P s item h = h

-- and of the flags that it has found, by what was owed before it
found-whole : (P : ℕ × ℕ → Type 0) (s : State) (owed : Owed) (item : Item) → All P (found_shown owed item) → All P (found_shown owed (whole s item))
found-whole P s owed (Publish xid notes) h = subst (λ (ps : List (ℕ × ℕ)). All P ps) (sym (finds-none owed (whole s (Publish xid notes)) refl)) (All-nil P)
found-whole P s owed (QueueFull full notes) h = subst (λ (ps : List (ℕ × ℕ)). All P ps) (sym (finds-none owed (whole s (QueueFull full notes)) refl)) (All-nil P)
found-whole P s owed item h = h

-- what the walk adds before an item's line has found no flag
found-added : (P : ℕ × ℕ → Type 0) (s : State) → Along after_item (λ t item. All P (found_shown t.owed item)) s (without_line s.owed)
found-added P s = by s.owed refl
  where
    by : (owed : Owed) → s.owed ≡ owed → Along after_item (λ t item. All P (found_shown t.owed item)) s (without_line owed)
    by (Listing [] ending) e = (subst (λ (ps : List (ℕ × ℕ)). All P ps) (sym (finds-none s.owed (Channels []) refl)) (All-nil P), tt)
    by (Listing (name ∷ names) ending) e = tt
    by owed e = tt

-- The transactions that items show as finished.

-- they are the first of these
abbrev AreFirst : List ℕ → List Item → Type 0
AreFirst xids items = take (length (finished_xids items)) xids ≡ finished_xids items

nothing-there : (k x : ℕ) → slice_get {X = ℕ} [] k ≡ Some x → ⊥
nothing-there k x h = cc

take-one : (xs front : List ℕ) (x : ℕ) → slice_get xs (length front) ≡ Some x → take (length front) xs ≡ front → take (length (front ++ x ∷ [])) xs ≡ front ++ x ∷ []
take-one [] front x there e = absurd (nothing-there (length front) x there)
take-one (y ∷ xs) [] x there e = ap (λ (n : ℕ). n ∷ []) (same_Some y x there)
take-one (y ∷ xs) (z ∷ front) x there e =
    let first : y ≡ z = cc in
    let tail : take (length front) xs ≡ front = cc in
    let rest : take (length (front ++ x ∷ [])) xs ≡ front ++ x ∷ [] = take-one xs front x there tail in
    cc

one-first : (xids : List ℕ) (before : List Item) (item : Item) (o : Option ℕ) → finished_xid item ≡ o → IfSome o (λ x. slice_get xids (length (finished_xids before)) ≡ Some x) → AreFirst xids before → AreFirst xids (before ++ item ∷ [])
one-first xids before item None is next first =
    let same : finished_xids (before ++ item ∷ []) ≡ finished_xids before =
    filter_map-append finished_xid before (item ∷ []) ∙ ap (λ (o : Option ℕ). finished_xids before ++ cons_option o []) is ∙ append-nil (finished_xids before) in
    subst (λ (xs : List ℕ). take (length xs) xids ≡ xs) (sym same) first
one-first xids before item (Some x) is next first =
    let same : finished_xids (before ++ item ∷ []) ≡ finished_xids before ++ x ∷ [] =
    filter_map-append finished_xid before (item ∷ []) ∙ ap (λ (o : Option ℕ). finished_xids before ++ cons_option o []) is in
    subst (λ (xs : List ℕ). take (length xs) xids ≡ xs) (sym same) (take-one xids (finished_xids before) x next first)

-- Along items past which the walk has come.

module _ (terms : Terms) (journal : List Tx) where
  -- the walk has come past the first of them
  comes-front : (before rest : List Item) (s : State) → Comes terms journal (before ++ rest) s → Comes terms journal before (walked (start terms.section) before)
  comes-front before rest s h = record {
    lawful = front (start terms.section) (completed (start terms.section) before) (completed (walked (start terms.section) before) rest)
        (subst (λ (is : List Item). Along after_item (Allowed terms journal) (start terms.section) is) (completed-both (start terms.section) before rest) h.lawful);
    state = refl;
  }
    where
      front : (s : State) (xs ys : List Item) → Along after_item (Allowed terms journal) s (xs ++ ys) → Along after_item (Allowed terms journal) s xs
      front s [] ys k = tt
      front s (x ∷ xs) ys k = (k.0, front (after_item s x) xs ys k.1)

  -- what holds of each item in the state in which its line is judged holds along them
  along-walked : (Q : State → Item → Type 0) (items : List Item) (end : State) → Comes terms journal items end
      → ((before after : List Item) (item : Item) (s : State) → items ≡ before ++ item ∷ after → Comes terms journal before s → Q s item) → Along stepped Q (start terms.section) items
  along-walked Q items end h each = from [] items refl
    where
      from : (before rest : List Item) → items ≡ before ++ rest → Along stepped Q (walked (start terms.section) before) rest
      from before [] e = tt
      from before (item ∷ rest) e =
          let s : State = walked (start terms.section) before in
          let comes : Comes terms journal before s = comes-front before (item ∷ rest) end (subst (λ (is : List Item). Comes terms journal is end) e h) in
          let next : walked (start terms.section) (before ++ item ∷ []) ≡ stepped s item = fold-push stepped (start terms.section) before item in
          (each before rest item s e comes, subst (λ (t : State). Along stepped Q t rest) next (from (before ++ item ∷ []) rest (e ∙ sym (append_assoc before (item ∷ []) rest))))

  -- what holds of each item holds of all
  all-walked : (Q : Item → Type 0) (items : List Item) (end : State) → Comes terms journal items end
      → ((before after : List Item) (item : Item) (s : State) → items ≡ before ++ item ∷ after → Comes terms journal before s → Q item) → All Q items
  all-walked Q items end h each = from [] items refl
    where
      from : (before rest : List Item) → items ≡ before ++ rest → All Q rest
      from before [] e = All-nil Q
      from before (item ∷ rest) e =
          let s : State = walked (start terms.section) before in
          let comes : Comes terms journal before s = comes-front before (item ∷ rest) end (subst (λ (is : List Item). Comes terms journal is end) e h) in
          All-cons Q item rest (each before rest item s e comes) (from (before ++ item ∷ []) rest (e ∙ sym (append_assoc before (item ∷ []) rest)))

  -- the transactions that they show as finished are the first of the session's
  pub own-first : (items : List Item) (end : State) → Comes terms journal items end
      → ((before after : List Item) (item : Item) (s : State) → items ≡ before ++ item ∷ after → Comes terms journal before s → IsNextOwn terms.section journal before item) → AreFirst (xids_of terms.section.no journal) items
  own-first items end h each = from [] items refl refl
    where
      from : (before rest : List Item) → items ≡ before ++ rest → AreFirst (xids_of terms.section.no journal) before → AreFirst (xids_of terms.section.no journal) items
      from before [] e first = subst (λ (is : List Item). AreFirst (xids_of terms.section.no journal) is) (sym (e ∙ append-nil before)) first
      from before (item ∷ rest) e first =
          let s : State = walked (start terms.section) before in
          let comes : Comes terms journal before s = comes-front before (item ∷ rest) end (subst (λ (is : List Item). Comes terms journal is end) e h) in
          from (before ++ item ∷ []) rest (e ∙ sym (append_assoc before (item ∷ []) rest)) (one-first (xids_of terms.section.no journal) before item (finished_xid item) refl (each before rest item s e comes) first)

-- The run.

module _ (settings : Settings) (journal : List Tx) (all : List Section) (all_traces : List Trace) where
  abbrev Walked : Terms → Trace → Type 0
  Walked terms trace = IsWalked terms journal all all_traces trace

  module _ (section : Section) (trace : Trace) (read : IsReadTrace section trace) (w : IsWalked (record { section = section; settings = settings }) journal all all_traces trace) where
    abbrev terms : Terms
    terms = record { section = section; settings = settings }

    walked-ok : TraceOk terms (completed_trace section trace) journal
    walked-ok = comes-to_end terms journal trace w.state read.session read.database w.comes w.nothing_missing.ended

    walked-fresh : Fresh terms (completed_trace section trace) journal
    walked-fresh =
        fresh-comes terms journal trace w.state w.comes
        (along-walked terms journal (λ s item. IsFreshAt terms journal (ready s) item) trace.items w.state w.comes (λ before after item s e h. (w.spotless before after item s e h).fresh))
        (w.fresh (inr w.nothing_missing.ended.done))

    walked-own : finished_xids (completed_trace section trace).items ≡ xids_of section.no journal
    walked-own =
        let xids : List ℕ = xids_of section.no journal in
        let first : take (length (finished_xids trace.items)) xids ≡ finished_xids trace.items =
        own-first terms journal trace.items w.state w.comes (λ before after item s e h. (w.spotless before after item s e h).next) in
        own-is_read (start section) trace.items ∙ sym first ∙ take_all (length (finished_xids trace.items)) xids w.nothing_missing.own

    walked-full : All (IsFullThere settings journal) (completed_trace section trace).items
    walked-full =
        completed-all (IsFullThere settings journal) tt (full-whole settings journal) (start section) trace.items
        (all-walked terms journal (IsFullThere settings journal) trace.items w.state w.comes (λ before after item s e h. (w.spotless before after item s e h).borne_out.full))

    walked-shown : All (IsShownWithin (next_xid journal)) (completed_trace section trace).items
    walked-shown =
        completed-all (IsShownWithin (next_xid journal)) tt (shown-whole (next_xid journal)) (start section) trace.items
        (all-walked terms journal (IsShownWithin (next_xid journal)) trace.items w.state w.comes (λ before after item s e h. (w.spotless before after item s e h).borne_out.within))

    walked-named : All (λ item. All (ShowsMark all_traces) (named_shown item)) (completed_trace section trace).items
    walked-named =
        completed-all (λ item. All (ShowsMark all_traces) (named_shown item)) (All-nil (ShowsMark all_traces)) (named-whole (ShowsMark all_traces)) (start section) trace.items
        (all-walked terms journal (λ item. All (ShowsMark all_traces) (named_shown item)) trace.items w.state w.comes (λ before after item s e h. (w.spotless before after item s e h).borne_out.holder))

    walked-found : Along after_item (λ s item. All (Contains (raised_in all all_traces)) (found_shown s.owed item)) (start section) (completed_trace section trace).items
    walked-found =
        let P : ℕ × ℕ → Type 0 = Contains (raised_in all all_traces) in
        along-completed (λ s item. All P (found_shown s.owed item)) (found-added P) (start section) trace.items
        (along-walked terms journal (λ s item. All P (found_shown (ready s).owed (whole s item))) trace.items w.state w.comes
        (λ before after item s e h. found-whole P s (ready s).owed item (w.spotless before after item s e h).borne_out.found))

  -- what holds of each completed trace
  each-walked : (P : Terms → Trace → Type 0)
      → ((section : Section) (trace : Trace) → IsReadTrace section trace → IsWalked (record { section = section; settings = settings }) journal all all_traces trace → P (record { section = section; settings = settings }) (completed_trace section trace))
      → (sections : List Section) (traces : List Trace) → EachSection IsReadTrace sections traces → EachTrace settings Walked sections traces → EachTrace settings P sections (completed_traces sections traces)
  each-walked P one [] [] read w = tt
  each-walked P one [] (trace ∷ traces) read w = absurd read
  each-walked P one (section ∷ sections) [] read w = absurd read
  each-walked P one (section ∷ sections) (trace ∷ traces) read w = (one section trace read.0 w.0, each-walked P one sections traces read.1 w.1)

  all-walked_traces : (P : Trace → Type 0)
      → ((section : Section) (trace : Trace) → IsReadTrace section trace → IsWalked (record { section = section; settings = settings }) journal all all_traces trace → P (completed_trace section trace))
      → (sections : List Section) (traces : List Trace) → EachSection IsReadTrace sections traces → EachTrace settings Walked sections traces → All P (completed_traces sections traces)
  all-walked_traces P one [] [] read w = All-nil P
  all-walked_traces P one [] (trace ∷ traces) read w = absurd read
  all-walked_traces P one (section ∷ sections) [] read w = absurd read
  all-walked_traces P one (section ∷ sections) (trace ∷ traces) read w =
      All-cons P (completed_trace section trace) (completed_traces sections traces) (one section trace read.0 w.0) (all-walked_traces P one sections traces read.1 w.1)

raised-completed : (sections : List Section) (traces : List Trace) → raised_in sections (completed_traces sections traces) ≡ raised_in sections traces
raised-completed [] traces = refl
raised-completed (section ∷ sections) [] = refl
raised-completed (section ∷ sections) (trace ∷ traces) =
    ap (λ (pairs : List (ℕ × ℕ)). pairs ++ raised_in sections (completed_traces sections traces)) (raised-are_read section (start section) trace.items)
    ∙ ap (λ (pairs : List (ℕ × ℕ)). raised_from None section.lines trace.items ++ pairs) (raised-completed sections traces)

mark-completed : (sections : List Section) (traces : List Trace) (pair : ℕ × ℕ) → EachSection IsReadTrace sections traces → ShowsMark traces pair → ShowsMark (completed_traces sections traces) pair
mark-completed [] [] pair read (k, trace, lt, is, there) = absurd (omega (arith, lt))
mark-completed [] (other ∷ traces) pair read there = absurd read
mark-completed (section ∷ sections) [] pair read there = absurd read
mark-completed (section ∷ sections) (other ∷ traces) pair read (zero, trace, lt, is, there) =
    let session : other.session ≡ pair.0 = ap (λ (t : Trace). t.session) is ∙ there.0 in
    let marks : Contains (flat_map marks_shown (completed (start section) other.items)) pair.1 =
    subst (λ (ms : List ℕ). Contains ms pair.1) (sym (ap (λ (t : Trace). flat_map marks_shown t.items) is) ∙ sym (marks-are_read (start section) other.items)) there.1 in
    (0, completed_trace section other, omega arith, refl, (session, marks))
mark-completed (section ∷ sections) (other ∷ traces) pair read (suc k, trace, lt, is, there) =
    let rest = mark-completed sections traces pair read.1 (k, trace, omega (arith, lt), is, there) in
    (suc rest.0, rest.1, omega (arith, rest.2), rest.3, rest.4)

-- traces that the walk comes past, over a journal of good transactions, are a legal run when completed
pub walked-is_legal : WalkedIsLegal
walked-is_legal scenario settings journal traces read good w =
    let sections : List Section = scenario.sections in
    let done : List Trace = completed_traces sections traces in
    let each = each-walked settings journal sections traces in
    let every = all-walked_traces settings journal sections traces in
    let ok : EachTrace settings (λ terms trace. TraceOk terms trace journal) sections done = each (λ terms trace. TraceOk terms trace journal) (walked-ok settings journal sections traces) sections traces read.each w in
    let raised : raised_in sections traces ≡ flat_map (λ end. end.state.raised) (ends settings sections done) = sym (raised-in_all settings journal sections done ok ∙ raised-completed sections traces) in
    record {
      lawful = ok;
      fresh = each (λ terms trace. Fresh terms trace journal) (walked-fresh settings journal sections traces) sections traces read.each w;
      own = each (λ terms trace. finished_xids trace.items ≡ xids_of terms.section.no journal) (walked-own settings journal sections traces) sections traces read.each w;
      finished = λ k d lt. (good k d lt).finished;
      named = λ k d lt. (good k d lt).named;
      full = every (λ trace. All (IsFullThere settings journal) trace.items) (walked-full settings journal sections traces) sections traces read.each w;
      found = subst (λ (pairs : List (ℕ × ℕ)). All (Contains pairs) (flat_map (λ end. end.state.found) (ends settings sections done))) raised
          ((found-in_all settings journal sections done (raised_in sections traces) ok).1
          (each (λ terms trace. Along after_item (λ s item. All (Contains (raised_in sections traces)) (found_shown s.owed item)) (start terms.section) trace.items) (walked-found settings journal sections traces) sections traces read.each w));
      holders = λ k d lt.
          (stood-in_all settings journal sections done _ ok).1 (mark-completed sections traces _ read.each
          (((named-in_all settings journal sections done traces ok).1
          (every (λ trace. All (λ item. All (ShowsMark traces) (named_shown item)) trace.items) (walked-named settings journal sections traces) sections traces read.each w)) k d lt));
      shown = every (λ trace. All (IsShownWithin (next_xid journal)) trace.items) (walked-shown settings journal sections traces) sections traces read.each w;
      read_all = every (λ trace. IfSome trace.last (λ mark. mark ≡ next_xid journal)) (λ section trace read walked. walked.nothing_missing.read_all) sections traces read.each w;
    }

lines-completed : (sections : List Section) (traces : List Trace) → traces_lines sections (completed_traces sections traces) ≡ traces_lines sections traces
lines-completed [] traces = refl
lines-completed (section ∷ sections) [] = refl
lines-completed (section ∷ sections) (trace ∷ traces) =
    ap (λ (lines : List (List ℕ)). (section_line section ∷ (lines ++ end_line trace.last ∷ [])) ++ traces_lines sections (completed_traces sections traces)) (completed-shows_same section.lines (start section) trace.items)
    ∙ ap (λ (lines : List (List ℕ)). trace_lines section trace ++ lines) (lines-completed sections traces)

-- their text is that of a legal run
pub walked-is_legal_text : WalkedIsLegalText
walked-is_legal_text scenario settings out journal traces r good w = record {
  journal = journal;
  traces = completed_traces scenario.sections traces;
  legal = walked-is_legal scenario settings journal traces r.readable good w;
  shown = ap (λ (lines : List (List ℕ)). joined (journal_lines journal ++ lines)) (lines-completed scenario.sections traces) ∙ r.shown;
}
