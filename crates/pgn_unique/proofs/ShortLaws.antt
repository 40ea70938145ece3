-- The journal of a legal run is short, and each of its transactions is of some section.
use Rattle.std.proofs.Common.{◌≡◌, ◌≢◌, ℕ, zero, suc, ◌+◌, ◌-◌, ◌<◌, ◌≤◌, ◌==◌, ◌||◌, Bool, true, false, cond, List, [], ◌∷◌, length, get_or, Some, slice_get, sym, ap, ◌∙◌, refl, subst, arith, eqb-true, eq-eqb}
use Rattle.std.specs.Prelude.{All, Any, Contains, sum_by}
use Rattle.std.proofs.lemmas.List.Sums.{sum_by-cons}
use Rattle.std.proofs.lemmas.List.Elements.{All-head, All-tail}
use Rattle.std.proofs.lemmas.Option.{same_Some, slice_get_within, get_or_from_slice_get}
use Rattle.pgn_base.specs.declared.limits.TheConstants.{FIRST_XID}
use Rattle.pgn_base.specs.declared.note.Note.{Note}
use Rattle.pgn_journal.specs.declared.tx.Tx.{Tx}
use Rattle.pgn_language.specs.declared.scenario.Section.{Section}
use Rattle.pgn_language.specs.declared.scenario.Scenario.{Scenario}
use Rattle.pgn_language.specs.Inputs.{IsSound, IsSoundSection}
use Rattle.pgn_model.specs.declared.item.Item.{Item}
use Rattle.pgn_model.specs.declared.item.Item.TheVariants.{Publish, QueueFull}
use Rattle.pgn_model.specs.declared.trace.Trace.{Trace}
use Rattle.pgn_journal.specs.Journal.{entry, IsFinished, xids_from, xids_of}
use Rattle.pgn_model.specs.Walk.{Settings, Terms, start}
use Rattle.pgn_model.specs.Trace.{TraceOk}
use Rattle.pgn_model.specs.Legal.{EachTrace, finished_xids, names_section, Legal}
use Rattle.pgn_reading.specs.Merged.{IsShownIn, ShowsJournal}
use Rattle.pgn_reading.proofs.MergedLaws.{legal-shows_journal}
use Rattle.pgn_unique.specs.Laws.{JournalIsShort, IsOf, LegalHasJournal}
use Rattle.pgn_unique.proofs.SpentLaws.{sent_by, sent_in, items-spend}

-- one item more
sent-cons : (item : Item) (items : List Item) → sent_in (item ∷ items) ≡ length (sent_by item) + sent_in items
sent-cons item items = sum_by-cons (λ (i : Item). length (sent_by i)) item items

-- a transaction that items of a session's trace show as finished: its notifications are among those that they show as sent
record IsSentIn (items : List Item) (session db : ℕ) (tx : Tx) : Type 0 where
  sent : length tx.notes ≤ sent_in items
  by_session : tx.session ≡ session
  in_db : tx.db ≡ db

module _ (journal : List Tx) (session db : ℕ) where
  sent-later : (item : Item) (items : List Item) (tx : Tx) → IsSentIn items session db tx → IsSentIn (item ∷ items) session db tx
  sent-later item items tx h = record { sent = omega (arith, h.sent, sent-cons item items); by_session = h.by_session; in_db = h.in_db }

  -- a number at the front of others
  first-or : (n : ℕ) (xs : List ℕ) (x : ℕ) (R : Type 0) → Contains (n ∷ xs) x → (n ≡ x → R) → (Contains xs x → R) → R
  first-or n xs x R (zero, lt, is) here later = here is
  first-or n xs x R (suc k, lt, is) here later = later (k, omega (arith, lt), is)

  sent-there : (items : List Item) (x : ℕ) (tx : Tx) → All (IsShownIn journal session db) items → entry journal x ≡ Some tx → Contains (finished_xids items) x → IsSentIn items session db tx
  sent-there [] x tx shown is there = absurd (omega (arith, there.1))
  sent-there (Publish xid notes ∷ items) x tx shown is there =
      let one = All-head (IsShownIn journal session db) (Publish xid notes) items shown in
      first-or xid (finished_xids items) x (IsSentIn (Publish xid notes ∷ items) session db tx) there
      (λ same.
      let e = same_Some _ tx (sym one.1 ∙ ap (λ (n : ℕ). entry journal n) same ∙ is) in
      record {
        sent = omega (arith, sent-cons (Publish xid notes) items, ap (λ (t : Tx). length t.notes) e);
        by_session = sym (ap (λ (t : Tx). t.session) e);
        in_db = sym (ap (λ (t : Tx). t.db) e);
      })
      (λ later. sent-later (Publish xid notes) items tx (sent-there items x tx (All-tail (IsShownIn journal session db) (Publish xid notes) items shown) is later))
  sent-there (QueueFull full notes ∷ items) x tx shown is there =
      let one = All-head (IsShownIn journal session db) (QueueFull full notes) items shown in
      first-or full.xid (finished_xids items) x (IsSentIn (QueueFull full notes ∷ items) session db tx) there
      (λ same.
      let e = same_Some _ tx (sym one.1 ∙ ap (λ (n : ℕ). entry journal n) same ∙ is) in
      record {
        sent = omega (arith, sent-cons (QueueFull full notes) items, ap (λ (t : Tx). length t.notes) e);
        by_session = sym (ap (λ (t : Tx). t.session) e);
        in_db = sym (ap (λ (t : Tx). t.db) e);
      })
      (λ later. sent-later (QueueFull full notes) items tx (sent-there items x tx (All-tail (IsShownIn journal session db) (QueueFull full notes) items shown) is later))
  sent-there (item ∷ items) x tx shown is there = sent-later item items tx (sent-there items x tx (All-tail (IsShownIn journal session db) item items shown) is there)

  -- a transaction of the journal has notifications
  some-notes : (x : ℕ) (tx : Tx) → All IsFinished journal → entry journal x ≡ Some tx → 1 ≤ length tx.notes
  some-notes x tx all is =
      some tx.notes (subst IsFinished (get_or_from_slice_get journal (x - FIRST_XID) tx tx is) (all (x - FIRST_XID) tx (slice_get_within journal (x - FIRST_XID) tx is))).some
    where
      some : (notes : List Note) → notes ≢ [] → 1 ≤ length notes
      some [] h = absurd (h refl)
      some (note ∷ notes) h = omega arith

  -- so at most as many transactions are shown as notifications are sent
  finished-sent : (items : List Item) → All IsFinished journal → All (IsShownIn journal session db) items → length (finished_xids items) ≤ sent_in items
  finished-sent [] all shown = omega arith
  finished-sent (Publish xid notes ∷ items) all shown =
      let one = All-head (IsShownIn journal session db) (Publish xid notes) items shown in
      let some : 1 ≤ length notes = some-notes xid _ all one.1 in
      omega (arith, some, sent-cons (Publish xid notes) items, finished-sent items all (All-tail (IsShownIn journal session db) (Publish xid notes) items shown))
  finished-sent (QueueFull full notes ∷ items) all shown =
      let one = All-head (IsShownIn journal session db) (QueueFull full notes) items shown in
      let some : 1 ≤ length notes = some-notes full.xid _ all one.1 in
      omega (arith, some, sent-cons (QueueFull full notes) items, finished-sent items all (All-tail (IsShownIn journal session db) (QueueFull full notes) items shown))
  finished-sent (item ∷ items) all shown = omega (arith, sent-cons item items, finished-sent items all (All-tail (IsShownIn journal session db) item items shown))

-- how many lines notify in all
abbrev lines_in : List Section → ℕ
lines_in sections = sum_by (λ section. section.note_lines) sections

lines-cons : (section : Section) (sections : List Section) → lines_in (section ∷ sections) ≡ section.note_lines + lines_in sections
lines-cons section sections = sum_by-cons (λ (s : Section). s.note_lines) section sections

-- how many transactions of the journal are those of sections
abbrev counted : List Section → ℕ → List Tx → ℕ
counted sections x txs = sum_by (λ section. length (xids_from section.no x txs)) sections

counted-cons : (section : Section) (sections : List Section) (x : ℕ) (txs : List Tx) → counted (section ∷ sections) x txs ≡ length (xids_from section.no x txs) + counted sections x txs
counted-cons section sections x txs = sum_by-cons (λ (s : Section). length (xids_from s.no x txs)) section sections

-- one more transaction is one more number of its session, and no fewer of another
more-xids : (session x : ℕ) (tx : Tx) (txs : List Tx) → length (xids_from session (x + 1) txs) ≤ length (xids_from session x (tx ∷ txs))
more-xids session x tx txs = by (tx.session == session) (xids_from session (x + 1) txs)
  where
    by : (b : Bool) (ns : List ℕ) → length ns ≤ length (cond b (x ∷ ns) ns)
    by true ns = omega arith
    by false ns = omega arith

own-xid : (session x : ℕ) (tx : Tx) (txs : List Tx) → session ≡ tx.session → 1 + length (xids_from session (x + 1) txs) ≤ length (xids_from session x (tx ∷ txs))
own-xid session x tx txs e = by (tx.session == session) (eq-eqb tx.session session (sym e)) (xids_from session (x + 1) txs)
  where
    by : (b : Bool) → b ≡ true → (ns : List ℕ) → 1 + length ns ≤ length (cond b (x ∷ ns) ns)
    by true is ns = omega arith
    by false is ns = absurd (let none : ⊥ = cc in none)

counted-kept : (sections : List Section) (x : ℕ) (tx : Tx) (txs : List Tx) → counted sections (x + 1) txs ≤ counted sections x (tx ∷ txs)
counted-kept [] x tx txs = omega arith
counted-kept (section ∷ sections) x tx txs =
    omega (arith, counted-cons section sections (x + 1) txs, counted-cons section sections x (tx ∷ txs), more-xids section.no x tx txs, counted-kept sections x tx txs)

counted-more : (sections : List Section) (x : ℕ) (tx : Tx) (txs : List Tx) → names_section sections tx.session ≡ true → 1 + counted sections (x + 1) txs ≤ counted sections x (tx ∷ txs)
counted-more [] x tx txs h = absurd (let none : ⊥ = cc in none)
counted-more (section ∷ sections) x tx txs h = by (section.no == tx.session) refl (λ rest. counted-more sections x tx txs rest)
  where
    by : (b : Bool) → (section.no == tx.session) ≡ b → (names_section sections tx.session ≡ true → 1 + counted sections (x + 1) txs ≤ counted sections x (tx ∷ txs)) → 1 + counted (section ∷ sections) (x + 1) txs ≤ counted (section ∷ sections) x (tx ∷ txs)
    by true e later =
        omega (arith, counted-cons section sections (x + 1) txs, counted-cons section sections x (tx ∷ txs), own-xid section.no x tx txs (eqb-true section.no tx.session e), counted-kept sections x tx txs)
    by false e later =
        let rest = later (subst (λ (b : Bool). (b || names_section sections tx.session) ≡ true) e h) in
        omega (arith, counted-cons section sections (x + 1) txs, counted-cons section sections x (tx ∷ txs), more-xids section.no x tx txs, rest)

-- each transaction of a journal is counted, where each names a section
all-counted : (sections : List Section) (x : ℕ) (txs : List Tx) → All (λ tx. names_section sections tx.session ≡ true) txs → length txs ≤ counted sections x txs
all-counted sections x [] h = omega arith
all-counted sections x (tx ∷ txs) h =
    let Named : Tx → Type 0 = λ t. names_section sections t.session ≡ true in
    omega (arith, counted-more sections x tx txs (All-head Named tx txs h), all-counted sections (x + 1) txs (All-tail Named tx txs h))

-- a transaction that some trace of these sections shows as finished
record IsSent (sections : List Section) (tx : Tx) : Type 0 where
  few : length tx.notes ≤ lines_in sections
  section : Any (IsOf tx) sections

module _ (settings : Settings) (flags : ℕ) (journal : List Tx) (all : All IsFinished journal) where
  abbrev Lawful : Terms → Trace → Type 0
  Lawful terms trace = TraceOk terms trace journal

  abbrev Owns : Terms → Trace → Type 0
  Owns terms trace = finished_xids trace.items ≡ xids_of terms.section.no journal

  abbrev Shows : Trace → Type 0
  Shows trace = All (IsShownIn journal trace.session trace.db) trace.items

  -- a trace shows no more as sent than its section has lines that notify
  trace-sends : (section : Section) (trace : Trace) → IsSoundSection flags section → TraceOk (record { section = section; settings = settings }) trace journal → sent_in trace.items ≤ section.note_lines
  trace-sends section trace sound ok =
      let terms : Terms = record { section = section; settings = settings } in
      omega (arith, items-spend terms journal (start section) trace.items ok.lawful, sound.counted)

  counted-few : (sections : List Section) (traces : List Trace) → All (IsSoundSection flags) sections → EachTrace settings Lawful sections traces → EachTrace settings Owns sections traces → All Shows traces
      → counted sections FIRST_XID journal ≤ lines_in sections
  counted-few [] [] sound lawful own shown = omega arith
  counted-few [] (trace ∷ traces) sound lawful own shown = absurd own
  counted-few (section ∷ sections) [] sound lawful own shown = absurd own
  counted-few (section ∷ sections) (trace ∷ traces) sound lawful own shown =
      let as_many : length (finished_xids trace.items) ≡ length (xids_of section.no journal) = ap (λ (xs : List ℕ). length xs) own.0 in
      omega (
        arith,
        as_many,
        counted-cons section sections FIRST_XID journal,
        lines-cons section sections,
        finished-sent journal trace.session trace.db trace.items all (All-head Shows trace traces shown),
        trace-sends section trace (All-head (IsSoundSection flags) section sections sound) lawful.0,
        counted-few sections traces (All-tail (IsSoundSection flags) section sections sound) lawful.1 own.1 (All-tail Shows trace traces shown),
      )

  sent-by-some : (sections : List Section) (traces : List Trace) (x : ℕ) (tx : Tx) → All (IsSoundSection flags) sections → EachTrace settings Lawful sections traces → All Shows traces → entry journal x ≡ Some tx
      → Any (λ trace. Contains (finished_xids trace.items) x) traces → IsSent sections tx
  sent-by-some [] [] x tx sound lawful shown is (k, trace, within, at, there) = absurd (omega (arith, within))
  sent-by-some [] (other ∷ traces) x tx sound lawful shown is there = absurd lawful
  sent-by-some (section ∷ sections) [] x tx sound lawful shown is (k, trace, within, at, there) = absurd (omega (arith, within))
  sent-by-some (section ∷ sections) (other ∷ traces) x tx sound lawful shown is (zero, trace, within, at, there) =
      let here : Contains (finished_xids other.items) x = subst (λ (t : Trace). Contains (finished_xids t.items) x) (sym at) there in
      let sent = sent-there journal other.session other.db other.items x tx (All-head Shows other traces shown) is here in
      record {
        few = omega (arith, sent.sent, trace-sends section other (All-head (IsSoundSection flags) section sections sound) lawful.0, lines-cons section sections);
        section = (0, section, omega arith, refl, record { session = sym (sent.by_session ∙ lawful.0.session); database = sym (sent.in_db ∙ lawful.0.database) });
      }
  sent-by-some (section ∷ sections) (other ∷ traces) x tx sound lawful shown is (suc k, trace, within, at, there) =
      let rest = sent-by-some sections traces x tx (All-tail (IsSoundSection flags) section sections sound) lawful.1 (All-tail Shows other traces shown) is (k, trace, omega (arith, within), at, there) in
      let some = rest.section in
      record {
        few = omega (arith, rest.few, lines-cons section sections);
        section = (suc some.0, some.1, omega (arith, some.2), some.3, some.4);
      }

-- each transaction of the journal of a legal run
each-sent : (scenario : Scenario) (settings : Settings) (journal : List Tx) (traces : List Trace) → IsSound scenario → Legal scenario settings journal traces → All (IsSent scenario.sections) journal
each-sent scenario settings journal traces sound legal k d lt =
    let shows : ShowsJournal journal traces = legal-shows_journal scenario settings journal traces legal in
    let here : entry journal (FIRST_XID + k) ≡ Some (get_or journal k d) = ap (λ (n : ℕ). slice_get journal n) (omega arith) ∙ slice_get_at journal k d lt in
    sent-by-some settings (length scenario.flags) journal legal.finished scenario.sections traces (FIRST_XID + k) (get_or journal k d) sound.sections legal.lawful shows.shown here (shows.whole k lt)
  where
    slice_get_at : (txs : List Tx) (k : ℕ) (d : Tx) → k < length txs → slice_get txs k ≡ Some (get_or txs k d)
    slice_get_at [] k d lt = absurd (omega (arith, lt))
    slice_get_at (tx ∷ txs) zero d lt = refl
    slice_get_at (tx ∷ txs) (suc k) d lt = slice_get_at txs k d (omega (arith, lt))

-- a legal run has few transactions, and each of them few notifications
pub journal-is_short : JournalIsShort
journal-is_short scenario settings journal traces sound legal =
    let shows : ShowsJournal journal traces = legal-shows_journal scenario settings journal traces legal in
    record {
      few = omega (
        arith,
        sound.few_note_lines,
        all-counted scenario.sections FIRST_XID journal legal.named,
        counted-few settings (length scenario.flags) journal legal.finished scenario.sections traces sound.sections legal.lawful legal.own shows.shown,
      );
      few_notes = λ k d lt. omega (arith, sound.few_note_lines, (each-sent scenario settings journal traces sound legal k d lt).few);
    }

-- each transaction of a legal run is one of a session of its scenario
pub legal-has_journal : LegalHasJournal
legal-has_journal scenario settings journal traces sound legal = record {
  finished = legal.finished;
  named = λ k d lt. (each-sent scenario settings journal traces sound legal k d lt).section;
  short = journal-is_short scenario settings journal traces sound legal;
}
