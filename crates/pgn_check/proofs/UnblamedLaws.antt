-- Of what is seen of a legal run no line is to blame.
use Rattle.std.proofs.Common.{◌≡◌, ℕ, zero, suc, ◌+◌, inl, inr, List, [], ◌∷◌, ◌++◌, length, map, get_or, slice_get, Option, None, Some, IfSome, sym, ap, ◌∙◌, refl, subst, arith}
use Rattle.std.specs.Prelude.{All, Contains, flat_map}
use Rattle.std.specs.List.{cons_option}
use Rattle.std.proofs.lemmas.List.Elements.{All-nil, All-cons, All-head, All-tail, All-append, filter_map-append}
use Rattle.pgn_journal.specs.declared.tx.Tx.{Tx}
use Rattle.pgn_journal.specs.Journal.{next_xid, xids_of}
use Rattle.pgn_language.specs.declared.scenario.ScriptLine.{ScriptLine}
use Rattle.pgn_language.specs.declared.scenario.Section.{Section}
use Rattle.pgn_language.specs.declared.scenario.Scenario.{Scenario}
use Rattle.pgn_model.specs.declared.item.Item.{Item}
use Rattle.pgn_model.specs.declared.item.Item.TheVariants.{Line, Publish, QueueFull, Channels, Raise}
use Rattle.pgn_model.specs.declared.trace.Trace.{Trace}
use Rattle.pgn_model.specs.Along.{Along}
use Rattle.pgn_model.specs.Walk.{Settings, Terms, State, Owed, start, after_item}
use Rattle.pgn_model.specs.Trace.{TraceOk, Fresh}
use Rattle.pgn_model.specs.Legal.{EachTrace, finished_xid, finished_xids, IsShownWithin, IsFullThere, ends, Legal}
use Rattle.pgn_model.specs.Text.{journal_lines, end_line, section_line, trace_lines, traces_lines, joined, text}
use Rattle.pgn_reading.specs.Completed.{seen_of, seen, ready, whole, completed}
use Rattle.pgn_reading.specs.Form.{IsReading}
use Rattle.pgn_reading.specs.Shown.{marks_shown, named_shown, next_flag, lines_behind, flag_at, raised_from, raised_in, found_shown, ShowsMark}
use Rattle.pgn_reading.specs.Blame.{IsGoodTx, Comes, IsNextOwn, IsBorneOut, BlamesTrace, Refused, LeftOut, NotNext, Unfounded, LeftOutLast, Unfinished, BlamesTraces, Blames, InForm, InEntry, InTrace}
use Rattle.pgn_reading.proofs.SeenLaws.{read-shows_same}
use Rattle.pgn_reading.proofs.ComesLaws.{along-read, seen-whole, own-is_seen, lawful-is_not_refused, fresh-is_not_left_out, fresh-is_up_to_date, lawful-is_finished}
use Rattle.pgn_reading.proofs.ShownLaws.{finds-none}
use Rattle.pgn_reading.proofs.ReadableLaws.{readable-is_one}
use Rattle.pgn_reading.proofs.BlameLaws.{there, no_entry-blamed, reading-has_form}
use Rattle.pgn_reading.proofs.WholeLaws.{raised-in_all, stood-in_all, found-in_all, named-each}
use Rattle.pgn_check.specs.Laws.{seen_trace, LegalIsUnblamed}
use Rattle.pgn_check.proofs.LegalLaws.{legal-is_readable}

-- What is seen shows the same.

lines-seen : (sections : List Section) (traces : List Trace) → traces_lines sections (map seen_trace traces) ≡ traces_lines sections traces
lines-seen [] traces = refl
lines-seen (section ∷ sections) [] = refl
lines-seen (section ∷ sections) (trace ∷ traces) =
    ap (λ (lines : List (List ℕ)). (section_line section ∷ (lines ++ end_line trace.last ∷ [])) ++ traces_lines sections (map seen_trace traces)) (read-shows_same section.lines trace.items)
    ∙ ap (λ (lines : List (List ℕ)). trace_lines section trace ++ lines) (lines-seen sections traces)

text-seen : (scenario : Scenario) (journal : List Tx) (traces : List Trace) → text scenario journal (map seen_trace traces) ≡ text scenario journal traces
text-seen scenario journal traces = ap (λ (lines : List (List ℕ)). joined (journal_lines journal ++ lines)) (lines-seen scenario.sections traces)

marks-seen : (items : List Item) → flat_map marks_shown (seen items) ≡ flat_map marks_shown items
marks-seen [] = refl
marks-seen (Channels [] ∷ items) = marks-seen items
marks-seen (Channels (name ∷ names) ∷ items) = marks-seen items
marks-seen (Publish xid notes ∷ items) = marks-seen items
marks-seen (QueueFull full notes ∷ items) = marks-seen items
marks-seen (item ∷ items) = ap (λ (ms : List ℕ). marks_shown item ++ ms) (marks-seen items)

raised-seen : (flag : Option ℕ) (lines : List ScriptLine) (items : List Item) → raised_from flag lines (seen items) ≡ raised_from flag lines items
raised-seen flag lines [] = refl
raised-seen flag lines (Line n ∷ items) = raised-seen (next_flag lines) (lines_behind lines) items
raised-seen flag lines (Raise value ∷ items) = ap (λ (pairs : List (ℕ × ℕ)). flag_at flag value ++ pairs) (raised-seen flag lines items)
raised-seen flag lines (Channels [] ∷ items) = raised-seen flag lines items
raised-seen flag lines (Channels (name ∷ names) ∷ items) = raised-seen flag lines items
raised-seen flag lines (Publish xid notes ∷ items) = raised-seen flag lines items
raised-seen flag lines (QueueFull full notes ∷ items) = raised-seen flag lines items
raised-seen flag lines (item ∷ items) = raised-seen flag lines items

raised-in_seen : (sections : List Section) (traces : List Trace) → raised_in sections (map seen_trace traces) ≡ raised_in sections traces
raised-in_seen [] traces = refl
raised-in_seen (section ∷ sections) [] = refl
raised-in_seen (section ∷ sections) (trace ∷ traces) =
    ap (λ (pairs : List (ℕ × ℕ)). pairs ++ raised_in sections (map seen_trace traces)) (raised-seen None section.lines trace.items)
    ∙ ap (λ (pairs : List (ℕ × ℕ)). raised_from None section.lines trace.items ++ pairs) (raised-in_seen sections traces)

mark-seen : (traces : List Trace) (pair : ℕ × ℕ) → ShowsMark traces pair → ShowsMark (map seen_trace traces) pair
mark-seen [] pair (k, trace, lt, is, here) = absurd (omega (arith, lt))
mark-seen (other ∷ traces) pair (zero, trace, lt, is, here) =
    let session : other.session ≡ pair.0 = ap (λ (t : Trace). t.session) is ∙ here.0 in
    let marks : Contains (flat_map marks_shown (seen other.items)) pair.1 =
    subst (λ (ms : List ℕ). Contains ms pair.1) (sym (ap (λ (t : Trace). flat_map marks_shown t.items) is) ∙ sym (marks-seen other.items)) here.1 in
    (0, seen_trace other, omega arith, refl, (session, marks))
mark-seen (other ∷ traces) pair (suc k, trace, lt, is, here) =
    let rest = mark-seen traces pair (k, trace, omega (arith, lt), is, here) in
    (suc rest.0, rest.1, omega (arith, rest.2), rest.3, rest.4)

-- what holds of items holds of what is seen of them, where it does not ask for notifications
all-seen : (P : Item → Type 0) → ((item : Item) → P item → All P (seen_of item)) → (items : List Item) → All P items → All P (seen items)
all-seen P one [] h = All-nil P
all-seen P one (item ∷ items) h = All-append P (seen_of item) (seen items) (one item (All-head P item items h)) (all-seen P one items (All-tail P item items h))

full-seen : (settings : Settings) (journal : List Tx) (item : Item) → IsFullThere settings journal item → All (IsFullThere settings journal) (seen_of item)
full-seen settings journal (Channels []) h = All-nil (IsFullThere settings journal)
full-seen settings journal (Channels (name ∷ names)) h = All-cons (IsFullThere settings journal) (Channels (name ∷ names)) [] h (All-nil (IsFullThere settings journal))
full-seen settings journal (Publish xid notes) h = All-cons (IsFullThere settings journal) (Publish xid []) [] tt (All-nil (IsFullThere settings journal))
full-seen settings journal (QueueFull full notes) h = All-cons (IsFullThere settings journal) (QueueFull full []) [] h (All-nil (IsFullThere settings journal))
full-seen settings journal item h = All-cons (IsFullThere settings journal) item [] h (All-nil (IsFullThere settings journal))

shown-seen : (n : ℕ) (item : Item) → IsShownWithin n item → All (IsShownWithin n) (seen_of item)
shown-seen n (Channels []) h = All-nil (IsShownWithin n)
shown-seen n (Channels (name ∷ names)) h = All-cons (IsShownWithin n) (Channels (name ∷ names)) [] h (All-nil (IsShownWithin n))
shown-seen n (Publish xid notes) h = All-cons (IsShownWithin n) (Publish xid []) [] h (All-nil (IsShownWithin n))
shown-seen n (QueueFull full notes) h = All-cons (IsShownWithin n) (QueueFull full []) [] h (All-nil (IsShownWithin n))
shown-seen n item h = All-cons (IsShownWithin n) item [] h (All-nil (IsShownWithin n))

named-seen : (P : ℕ × ℕ → Type 0) (item : Item) → All P (named_shown item) → All (λ i. All P (named_shown i)) (seen_of item)
named-seen P (Channels []) h = All-nil (λ i. All P (named_shown i))
named-seen P (Channels (name ∷ names)) h = All-cons (λ i. All P (named_shown i)) (Channels (name ∷ names)) [] h (All-nil (λ i. All P (named_shown i)))
named-seen P (Publish xid notes) h = All-cons (λ i. All P (named_shown i)) (Publish xid []) [] (All-nil P) (All-nil (λ i. All P (named_shown i)))
named-seen P (QueueFull full notes) h = All-cons (λ i. All P (named_shown i)) (QueueFull full []) [] h (All-nil (λ i. All P (named_shown i)))
named-seen P item h = All-cons (λ i. All P (named_shown i)) item [] h (All-nil (λ i. All P (named_shown i)))

-- what an item finds is what it finds with its notifications
found-read : (P : ℕ × ℕ → Type 0) (s : State) (owed : Owed) (item : Item) → All P (found_shown owed (whole s item)) → All P (found_shown owed item)
found-read P s owed (Publish xid notes) h = subst (λ (ps : List (ℕ × ℕ)). All P ps) (sym (finds-none owed (Publish xid notes) refl)) (All-nil P)
found-read P s owed (QueueFull full notes) h = subst (λ (ps : List (ℕ × ℕ)). All P ps) (sym (finds-none owed (QueueFull full notes) refl)) (All-nil P)
found-read P s owed item h = h

-- the next of a session's transactions
next-there : (front back : List ℕ) (x : ℕ) → slice_get (front ++ x ∷ back) (length front) ≡ Some x
next-there [] back x = refl
next-there (y ∷ front) back x = next-there front back x

next-own : (section : Section) (journal : List Tx) (items before after : List Item) (item : Item) → items ≡ before ++ item ∷ after → finished_xids items ≡ xids_of section.no journal → IsNextOwn section journal before item
next-own section journal items before after item e own = by (finished_xid item) refl
  where
    all : finished_xids before ++ cons_option (finished_xid item) (finished_xids after) ≡ xids_of section.no journal
    all = sym (filter_map-append finished_xid before (item ∷ after)) ∙ ap finished_xids (sym e) ∙ own

    by : (o : Option ℕ) → finished_xid item ≡ o → IfSome o (λ x. slice_get (xids_of section.no journal) (length (finished_xids before)) ≡ Some x)
    by None is = tt
    by (Some x) is =
        ap (λ (xs : List ℕ). slice_get xs (length (finished_xids before))) (sym all ∙ ap (λ (o : Option ℕ). finished_xids before ++ cons_option o (finished_xids after)) is)
        ∙ next-there (finished_xids before) (finished_xids after) x

-- A section.

-- what a legal run says of a trace
record IsLegalTrace (terms : Terms) (journal : List Tx) (sections : List Section) (traces : List Trace) (trace : Trace) : Type 0 where
  ok : TraceOk terms trace journal
  fresh : Fresh terms trace journal
  own : finished_xids trace.items ≡ xids_of terms.section.no journal
  full : All (IsFullThere terms.settings journal) trace.items
  found : Along after_item (λ s item. All (Contains (raised_in sections traces)) (found_shown s.owed item)) (start terms.section) trace.items
  named : All (λ item. All (ShowsMark traces) (named_shown item)) trace.items
  shown : All (IsShownWithin (next_xid journal)) trace.items
  read_all : IfSome trace.last (λ mark. mark ≡ next_xid journal)

module _ (terms : Terms) (journal : List Tx) (sections : List Section) (traces : List Trace) (trace : Trace) (h : IsLegalTrace terms journal sections traces trace) where
  own-seen : finished_xids (seen trace.items) ≡ xids_of terms.section.no journal
  own-seen = own-is_seen trace.items ∙ h.own

  borne-out : (before after : List Item) (item : Item) (s : State) → seen trace.items ≡ before ++ item ∷ after → Comes terms journal before s → IsBorneOut terms.settings sections journal (map seen_trace traces) (ready s) item
  borne-out before after item s e comes =
      let first : State = start terms.section in
      let Finds : State → Item → Type 0 = λ t i. All (Contains (raised_in sections traces)) (found_shown t.owed i) in
      let same : trace.items ≡ completed first (before ++ item ∷ after) = sym (seen-whole terms journal trace h.ok) ∙ ap (λ (is : List Item). completed first is) e in
      let found_there : Finds (ready s) (whole s item) =
      subst (λ (u : State). Finds (ready u) (whole u item)) comes.state (along-read Finds first before after item (subst (λ (is : List Item). Along after_item Finds first is) same h.found)) in
      let found_here : All (Contains (raised_in sections traces)) (found_shown (ready s).owed item) = found-read (Contains (raised_in sections traces)) s (ready s).owed item found_there in
      let names : All (ShowsMark traces) (named_shown item) =
      there (λ (i : Item). All (ShowsMark traces) (named_shown i)) (seen trace.items) before after item e (all-seen (λ i. All (ShowsMark traces) (named_shown i)) (named-seen (ShowsMark traces)) trace.items h.named) in
      record {
        full = there (IsFullThere terms.settings journal) (seen trace.items) before after item e (all-seen (IsFullThere terms.settings journal) (full-seen terms.settings journal) trace.items h.full);
        found = subst (λ (pairs : List (ℕ × ℕ)). All (Contains pairs) (found_shown (ready s).owed item)) (sym (raised-in_seen sections traces)) found_here;
        holder = λ k d lt. mark-seen traces (get_or (named_shown item) k d) (names k d lt);
        within = there (IsShownWithin (next_xid journal)) (seen trace.items) before after item e (all-seen (IsShownWithin (next_xid journal)) (shown-seen (next_xid journal)) trace.items h.shown);
      }

  trace-unblamed : (head n : ℕ) → BlamesTrace terms journal sections (map seen_trace traces) head (seen_trace trace) n → ⊥
  trace-unblamed head n (Refused before after item s e comes wrong) = wrong (lawful-is_not_refused terms journal trace before after item s h.ok e comes)
  trace-unblamed head n (LeftOut before after item s e comes wrong) = wrong (fresh-is_not_left_out terms journal trace before after item s h.ok h.fresh e comes)
  trace-unblamed head n (NotNext before after item s e comes wrong) = wrong (next-own terms.section journal (seen trace.items) before after item e own-seen)
  trace-unblamed head n (Unfounded before after item s e comes wrong) = wrong (borne-out before after item s e comes)
  trace-unblamed head n (LeftOutLast s comes rest wrong) = wrong (fresh-is_up_to_date terms journal trace s h.ok h.fresh comes)
  trace-unblamed head n (Unfinished s comes wrong) =
      wrong (record {
        ended = lawful-is_finished terms journal trace s h.ok comes;
        own = omega (arith, ap (λ (xs : List ℕ). length xs) own-seen);
        read_all = h.read_all;
      })

-- All sections.

module _ (settings : Settings) (journal : List Tx) (all : List Section) (all_traces : List Trace) where
  abbrev Found : Terms → Trace → Type 0
  Found terms trace = Along after_item (λ s item. All (Contains (raised_in all all_traces)) (found_shown s.owed item)) (start terms.section) trace.items

  traces-unblamed : (sections : List Section) (traces : List Trace) (head n : ℕ) → EachTrace settings (λ terms trace. TraceOk terms trace journal) sections traces → EachTrace settings (λ terms trace. Fresh terms trace journal) sections traces
      → EachTrace settings (λ terms trace. finished_xids trace.items ≡ xids_of terms.section.no journal) sections traces → All (λ trace. All (IsFullThere settings journal) trace.items) traces → EachTrace settings Found sections traces
      → All (λ trace. All (λ item. All (ShowsMark all_traces) (named_shown item)) trace.items) traces → All (λ trace. All (IsShownWithin (next_xid journal)) trace.items) traces → All (λ trace. IfSome trace.last (λ mark. mark ≡ next_xid journal)) traces
      → BlamesTraces settings journal all (map seen_trace all_traces) head sections (map seen_trace traces) n → ⊥
  traces-unblamed [] traces head n ok fresh own full found named shown read b = b
  traces-unblamed (section ∷ sections) [] head n ok fresh own full found named shown read b = b
  traces-unblamed (section ∷ sections) (trace ∷ traces) head n ok fresh own full found named shown read (inl b) =
      let terms : Terms = record { section = section; settings = settings } in
      trace-unblamed terms journal all all_traces trace
      (record {
        ok = ok.0;
        fresh = fresh.0;
        own = own.0;
        full = All-head (λ (t : Trace). All (IsFullThere settings journal) t.items) trace traces full;
        found = found.0;
        named = All-head (λ (t : Trace). All (λ item. All (ShowsMark all_traces) (named_shown item)) t.items) trace traces named;
        shown = All-head (λ (t : Trace). All (IsShownWithin (next_xid journal)) t.items) trace traces shown;
        read_all = All-head (λ (t : Trace). IfSome t.last (λ mark. mark ≡ next_xid journal)) trace traces read;
      })
      head n b
  traces-unblamed (section ∷ sections) (trace ∷ traces) head n ok fresh own full found named shown read (inr b) =
      traces-unblamed sections traces (head + length (trace_lines section (seen_trace trace))) n ok.1 fresh.1 own.1 (All-tail (λ (t : Trace). All (IsFullThere settings journal) t.items) trace traces full) found.1
      (All-tail (λ (t : Trace). All (λ item. All (ShowsMark all_traces) (named_shown item)) t.items) trace traces named) (All-tail (λ (t : Trace). All (IsShownWithin (next_xid journal)) t.items) trace traces shown)
      (All-tail (λ (t : Trace). IfSome t.last (λ mark. mark ≡ next_xid journal)) trace traces read) b

-- no line of a legal run's text is to blame
pub legal-is_unblamed : LegalIsUnblamed
legal-is_unblamed scenario settings out n sound held few run b = by n b
  where
    reading : IsReading scenario out run.journal (map seen_trace run.traces)
    reading = record {
      readable = legal-is_readable scenario settings run.journal run.traces sound held (omega (arith, few, ap (λ (bytes : List ℕ). length bytes) run.shown)) run.legal;
      shown = text-seen scenario run.journal run.traces ∙ run.shown;
    }

    good : All (IsGoodTx scenario.sections) run.journal
    good = λ k d lt. record { finished = run.legal.finished k d lt; named = run.legal.named k d lt }

    by : (m : ℕ) → Blames scenario settings out m → ⊥
    by m (InForm k c) = reading-has_form scenario out run.journal (map seen_trace run.traces) m sound reading c
    by m (InEntry k journal traces r c) =
        let same = readable-is_one scenario journal run.journal traces (map seen_trace run.traces) sound r.readable reading.readable (r.shown ∙ sym reading.shown) in
        no_entry-blamed scenario.sections journal m (subst (λ (txs : List Tx). All (IsGoodTx scenario.sections) txs) (sym same.0) good) c
    by m (InTrace k journal traces r c) =
        let same = readable-is_one scenario journal run.journal traces (map seen_trace run.traces) sound r.readable reading.readable (r.shown ∙ sym reading.shown) in
        let There : List Tx → List Trace → Type 0 = λ txs those. BlamesTraces settings txs scenario.sections those (length (journal_lines txs) + 1) scenario.sections those m in
        let there_too : There run.journal (map seen_trace run.traces) = subst (λ (those : List Trace). There run.journal those) same.1 (subst (λ (txs : List Tx). There txs traces) same.0 c) in
        let legal : Legal scenario settings run.journal run.traces = run.legal in
        let all : List Section = scenario.sections in
        let raised = raised-in_all settings run.journal all run.traces legal.lawful in
        let found = (found-in_all settings run.journal all run.traces (raised_in all run.traces) legal.lawful).0
        (subst (λ (pairs : List (ℕ × ℕ)). All (Contains pairs) (flat_map (λ end. end.state.found) (ends settings all run.traces))) raised legal.found) in
        let named = named-each settings run.journal (ShowsMark run.traces) all run.traces legal.lawful (λ j d lt. (stood-in_all settings run.journal all run.traces _ legal.lawful).0 (legal.holders j d lt)) in
        traces-unblamed settings run.journal all run.traces all run.traces (length (journal_lines run.journal) + 1) m legal.lawful legal.fresh legal.own legal.full found named legal.shown legal.read_all there_too
