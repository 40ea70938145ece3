-- What is seen of a legal run whose text is not too long is readable.
use Rattle.std.proofs.Common.{◌≡◌, ℕ, zero, suc, ◌+◌, ◌-◌, ◌*◌, ◌^◌, ◌<◌, ◌≤◌, ◌==◌, ◌||◌, Bool, true, false, cond, List, [], ◌∷◌, ◌++◌, length, map, take, drop, get_or, fold, slice_get, Option, None, Some, IfSome, IsSomeAnd, sym, ap, ◌∙◌, refl, subst, arith, eqb-true, eq-eqb}
use Rattle.std.specs.Prelude.{All, Any, Contains, flat_map, sum_by, filter}
use Rattle.std.proofs.lemmas.List.{length-append, length-map, length-drop, length-take}
use Rattle.std.proofs.lemmas.List.Sums.{sum_by-cons}
use Rattle.std.proofs.lemmas.List.Elements.{All-nil, All-cons, All-head, All-tail, All-append, All-filter, All-map, All-take, All-drop}
use Rattle.std.proofs.lemmas.Option.{same_Some, slice_get_within, get_or_from_slice_get}
use Rattle.pgn_base.specs.declared.limits.TheConstants.{FIRST_XID, SECTIONS_MAX}
use Rattle.pgn_base.specs.declared.note.Note.{Note}
use Rattle.pgn_base.specs.declared.note.Delivery.{Delivery}
use Rattle.pgn_base.specs.declared.command.Command.{Command}
use Rattle.pgn_base.specs.declared.command.Command.TheVariants as command
use Rattle.pgn_journal.specs.declared.tx.Tx.{Tx}
use Rattle.pgn_journal.specs.declared.tx.Fate.{Fate}
use Rattle.pgn_journal.specs.declared.tx.Fate.TheVariants.{Committed, Aborted}
use Rattle.pgn_journal.specs.Journal.{entry, next_xid, entries_between, is_committed_in, IsFinished, IsQueued}
use Rattle.pgn_journal.specs.Due.{due_from, delivered_by, delivery, listens}
use Rattle.pgn_journal.specs.Packing.{page_of, place}
use Rattle.pgn_journal.specs.QueueUse.{IsCutShort}
use Rattle.pgn_journal.proofs.PackingLemmas.{place_bound}
use Rattle.pgn_language.specs.declared.scenario.Act.{Act}
use Rattle.pgn_language.specs.declared.scenario.Act.TheVariants.{Run}
use Rattle.pgn_language.specs.declared.scenario.ScriptLine.{ScriptLine}
use Rattle.pgn_language.specs.declared.scenario.Section.{Section}
use Rattle.pgn_language.specs.declared.scenario.Scenario.{Scenario}
use Rattle.pgn_language.specs.Inputs.{IsOneLineAct, IsOneLineCommand, AreNumbered, IsSoundSection, IsSound}
use Rattle.pgn_model.specs.declared.item.Item.{Item}
use Rattle.pgn_model.specs.declared.item.Item.TheVariants.{Line, Enlist, Publish, QueueFull, Leave, Reply, Refuse, Channels, Used, Raise, Found, TimedOut, Read}
use Rattle.pgn_model.specs.declared.trace.Trace.{Trace}
use Rattle.pgn_model.specs.Along.{Along}
use Rattle.pgn_model.specs.Walk.{Settings, Terms, State, Owed, Ending, Replied, Refused, Queueing, Answering, Listing, Awaiting, at_rows, start, after_item, Allowed, IsNext, IsQueueing, IsListing, IsAwaiting, holder_at}
use Rattle.pgn_model.specs.Trace.{TraceOk}
use Rattle.pgn_model.specs.Legal.{EachTrace, finished_xids, names_section, IsShownWithin, IsFullThere, End, ends, StoodAt, Legal}
use Rattle.pgn_model.specs.Text.{joined, note_line, entry_lines, entries_lines, journal_lines, channel_line, item_lines, end_line, trace_lines, traces_lines, text_lines, text}
use Rattle.pgn_reading.specs.Merged.{IsShownIn, ShowsJournal}
use Rattle.pgn_reading.proofs.MergedLaws.{legal-shows_journal}
use Rattle.pgn_reading.specs.Completed.{seen_of, seen}
use Rattle.pgn_reading.specs.Form.{IsXid, IsSession, IsLineName, IsLineNote, IsLineDelivery, IsReadItem, begins_rows, AreApart, lines_left, IsNextLine, IsReadTrace, database_of, IsReadQueued, IsReadTx, EachSection, IsReadable}
use Rattle.pgn_reading.specs.Shown.{named_shown, found_shown}
use Rattle.pgn_reading.proofs.NumberLaws.{number-at}
use Rattle.pgn_reading.proofs.ShownLaws.{item-rest}
use Rattle.pgn_reading.proofs.WholeLaws.{found-in_all, named-each}
use Rattle.pgn_check.specs.Laws.{IsHeldCommand, IsHeldAct, IsHeld, checked_bytes, seen_trace, LegalIsReadable}
use Rattle.pgn_check.proofs.FineLaws.{IsFineCommand, IsFineAct, IsFineLine, IsFineEnding, IsFineOwed, IsFine, IsShortItem, fine-along}

-- How many lines there are.

lines-bytes : (lines : List (List ℕ)) → length lines ≤ length (joined lines)
lines-bytes [] = omega arith
lines-bytes (line ∷ lines) = omega (arith, lines-bytes lines, length-append (line ++ 10 ∷ []) (joined lines), length-append line (10 ∷ []))

-- how many notifications transactions have
abbrev notes_in : List Tx → ℕ
notes_in txs = sum_by (λ tx. length tx.notes) txs

notes-cons : (tx : Tx) (txs : List Tx) → notes_in (tx ∷ txs) ≡ length tx.notes + notes_in txs
notes-cons tx txs = sum_by-cons (λ (t : Tx). length t.notes) tx txs

entries-length : (x : ℕ) (txs : List Tx) → length (entries_lines x txs) ≡ length txs + notes_in txs
entries-length x [] = refl
entries-length x (tx ∷ txs) =
    omega (arith, length-append (entry_lines x tx) (entries_lines (x + 1) txs), length-map tx.notes note_line, entries-length (x + 1) txs, notes-cons tx txs)

few-notes : (n : ℕ) (txs : List Tx) → notes_in txs ≤ n → All (λ tx. length tx.notes ≤ n) txs
few-notes n [] h = All-nil (λ tx. length tx.notes ≤ n)
few-notes n (tx ∷ txs) h = All-cons (λ t. length t.notes ≤ n) tx txs (omega (arith, h, notes-cons tx txs)) (few-notes n txs (omega (arith, h, notes-cons tx txs)))

-- where items have few lines, so have the rows of channels
short-items : (lines : List ScriptLine) (items : List Item) → length (flat_map (item_lines lines) items) < 2 ^ 32 → All IsShortItem items
short-items lines [] h = All-nil IsShortItem
short-items lines (Channels names ∷ items) h =
    let both = length-append (map channel_line names) (flat_map (item_lines lines) items) in
    All-cons IsShortItem (Channels names) items (omega (arith, h, both, length-map names channel_line)) (short-items lines items (omega (arith, h, both)))
short-items lines (item ∷ items) h =
    All-cons IsShortItem item items tt (short-items lines items (omega (arith, h, length-append (item_lines lines item) (flat_map (item_lines lines) items))))

short-trace : (section : Section) (trace : Trace) → length (trace_lines section trace) < 2 ^ 32 → All IsShortItem trace.items
short-trace section trace h = short-items section.lines trace.items (omega (arith, h, length-append (flat_map (item_lines section.lines) trace.items) (end_line trace.last ∷ [])))

-- What scripts name.

fine-command : (c : Command) → IsHeldCommand c → IsOneLineCommand c → IsFineCommand c
fine-command (command.Savepoint name) h k = record { text = h; one_line = k }
fine-command (command.RollbackTo name) h k = record { text = h; one_line = k }
fine-command (command.Release name) h k = record { text = h; one_line = k }
fine-command (command.Listen name) h k = record { text = h; one_line = k }
fine-command (command.Unlisten name) h k = record { text = h; one_line = k }
fine-command (command.Notify note) h k = record { note = h; one_line = k }
fine-command (command.PgNotify note) h k = record { note = h; one_line = k }
fine-command (command.Bad at) h k = h
fine-command other h k = tt

fine-act : (act : Act) → IsHeldAct act → IsOneLineAct act → IsFineAct act
fine-act (Run c) h k = fine-command c h k
fine-act act h k = tt

fine-script : (flags : ℕ) (section : Section) → IsSoundSection flags section → All (λ line. IsHeldAct line.act) section.lines → All IsFineLine section.lines
fine-script flags section sound h k d lt = fine-act (get_or section.lines k d).act (h k d lt) ((sound.one_line_texts k d lt).1)

-- an element that a list contains has what all have
contained : {A : Type 0} (P : A → Type 0) (xs : List A) (x : A) → All P xs → Contains xs x → P x
contained P xs x h (k, lt, is) = subst P is (h k x lt)

-- The sections.

sessions-within : (sections : List Section) → AreNumbered 1 sections → length sections ≤ SECTIONS_MAX → All (λ section. IsSession section.no) sections
sessions-within sections numbered few k d lt = let number : (get_or sections k d).no ≡ 1 + k = number-at 1 sections k d numbered lt in (omega (arith, number), omega (arith, number, few, lt))

named-within : (sections : List Section) (session : ℕ) → All (λ section. IsSession section.no) sections → names_section sections session ≡ true → IsSession session
named-within [] session h named = absurd (let none : ⊥ = cc in none)
named-within (section ∷ sections) session h named = by (section.no == session) refl (λ k. named-within sections session (All-tail (λ s. IsSession s.no) section sections h) k) named
  where
    by : (b : Bool) → (section.no == session) ≡ b → (names_section sections session ≡ true → IsSession session) → (b || names_section sections session) ≡ true → IsSession session
    by true e later k = subst IsSession (eqb-true section.no session e) (All-head (λ s. IsSession s.no) section sections h)
    by false e later k = later k

-- the section of a number tells its database
database-there : (n : ℕ) (sections : List Section) (k : ℕ) (d : Section) → AreNumbered n sections → k < length sections → database_of sections (get_or sections k d).no ≡ (get_or sections k d).db
database-there n [] k d h lt = absurd (omega (arith, lt))
database-there n (section ∷ sections) zero d h lt = ap (λ (b : Bool). cond b section.db (database_of sections section.no)) (eq-eqb section.no section.no refl)
database-there n (section ∷ sections) (suc k) d h lt = by (section.no == (get_or sections k d).no) refl (database-there (n + 1) sections k d h.1 (omega (arith, lt)))
  where
    there : (get_or sections k d).no ≡ n + 1 + k
    there = number-at (n + 1) sections k d h.1 (omega (arith, lt))

    by : (b : Bool) → (section.no == (get_or sections k d).no) ≡ b → database_of sections (get_or sections k d).no ≡ (get_or sections k d).db
        → cond b section.db (database_of sections (get_or sections k d).no) ≡ (get_or sections k d).db
    by true e later = absurd (omega (arith, there, h.0, eqb-true section.no (get_or sections k d).no e))
    by false e later = later

-- What is due can stand in lines.

record IsLineTx (tx : Tx) : Type 0 where
  session : IsSession tx.session
  notes : All IsLineNote tx.notes

due-lines : (db : ℕ) (channels : List (List ℕ)) (x : ℕ) (txs : List Tx) → FIRST_XID ≤ x → x + length txs < 2 ^ 32 → All IsLineTx txs → All IsLineDelivery (due_from db channels x txs)
due-lines db channels x [] low few h = All-nil IsLineDelivery
due-lines db channels x (tx ∷ txs) low few h =
    let one : IsLineTx tx = All-head IsLineTx tx txs h in
    All-append IsLineDelivery (delivered_by db channels x tx) (due_from db channels (x + 1) txs) (by (is_committed_in db tx) one) (due-lines db channels (x + 1) txs (omega (arith, low)) (omega (arith, few)) (All-tail IsLineTx tx txs h))
  where
    by : (b : Bool) → IsLineTx tx → All IsLineDelivery (cond b (map (delivery x tx.session) (filter (listens channels) tx.notes)) [])
    by true one =
        All-map IsLineDelivery (delivery x tx.session) (filter (listens channels) tx.notes)
        (λ k d lt.
        record { xid = (low, omega (arith, few)); pid = omega (arith, one.session); note = (All-filter (listens channels) IsLineNote tx.notes one.notes) k d lt })
    by false one = All-nil IsLineDelivery

-- What an item shows.

-- the number of a holder, and the floor mark, of which it is said
abbrev IsGoodHolder : ℕ × ℕ → Type 0
IsGoodHolder pair = IsSession pair.0 × FIRST_XID ≤ pair.1

abbrev IsLow : ℕ × ℕ → Type 0
IsLow pair = FIRST_XID ≤ pair.1

good-holder : (holder : Option ℕ) (mark : ℕ) → All IsGoodHolder (holder_at holder mark) → IfSome holder IsSession
good-holder None mark h = tt
good-holder (Some session) mark h = (All-head IsGoodHolder (session, mark) [] h).0

low-floor : (holder : Option ℕ) (mark x : ℕ) → All IsGoodHolder (holder_at holder mark) → (holder ≡ None → mark ≡ x) → FIRST_XID ≤ x → FIRST_XID ≤ mark
low-floor None mark x h own low = omega (arith, low, own refl)
low-floor (Some session) mark x h own low = (All-head IsGoodHolder (session, mark) [] h).1

page-within : (at n : ℕ) → at ≤ 4096 * n → n ≤ checked_bytes → page_of at < 2 ^ 64
page-within at n h k = omega (arith, h, k)

answered-tag : (owed : Owed) (ending : Ending) → IsFineOwed owed → owed ≡ Answering ending → IsFineEnding ending
answered-tag owed ending h e = subst IsFineOwed e h

listed : (names : List (List ℕ)) (owed : Owed) → IsFineOwed owed → IsListing names owed → All IsLineName names
listed names (Listing others ending) h is = subst (λ (ns : List (List ℕ)). All IsLineName ns) (sym is) h.0
listed names owed h is = absurd is

queued : (notes : List Note) (owed : Owed) → IsFineOwed owed → IsQueueing notes owed → All IsLineNote notes
queued notes (Queueing actions others ending) h is = subst (λ (ns : List Note). All IsLineNote ns) (sym is) h.1
queued notes owed h is = absurd is

found-low : (value : ℕ) (P : ℕ → Type 0) (owed : Owed) → IsAwaiting owed P → All IsLow (found_shown owed (Found value)) → FIRST_XID ≤ value
found-low value P (Awaiting flag) is h = All-head IsLow (flag, value) [] h
found-low value P owed is h = absurd is

some-cut : (journal : List Tx) (P : Tx → Type 0) (Q : Tx → Type 0) (x : ℕ) → All Q journal → IsSomeAnd (entry journal x) P → (tx : Tx) × P tx × Q tx
some-cut journal P Q x all h = by (entry journal x) refl h
  where
    by : (o : Option Tx) → entry journal x ≡ o → IsSomeAnd o P → (tx : Tx) × P tx × Q tx
    by None e k = absurd k
    by (Some tx) e k = (tx, k, subst Q (get_or_from_slice_get journal (x - FIRST_XID) tx tx e) (all (x - FIRST_XID) tx (slice_get_within journal (x - FIRST_XID) tx e)))

-- what is known of a legal run: its journal is not too long, and can stand in lines
record IsKnownJournal (settings : Settings) (journal : List Tx) : Type 0 where
  few : next_xid journal < 2 ^ 32
  few_notes : notes_in journal ≤ checked_bytes
  finished : All IsFinished journal
  lines : All IsLineTx journal
  limit : settings.limit < 2 ^ 32
  patience : settings.patience < 2 ^ 64

module _ (terms : Terms) (journal : List Tx) (known : IsKnownJournal terms.settings journal) where
  xid : (n : ℕ) → FIRST_XID ≤ n → n ≤ next_xid journal → IsXid n
  xid n low h = (low, omega (arith, h, known.few))

  page : (x : ℕ) → page_of (place terms.settings.format journal x) < 2 ^ 64
  page x = page-within (place terms.settings.format journal x) (notes_in journal) (omega (arith, place_bound terms.settings.format journal x known.finished)) known.few_notes

  single : (item : Item) → IsReadItem item → All IsReadItem (item ∷ [])
  single item h = All-cons IsReadItem item [] h (All-nil IsReadItem)

  item-read : (s : State) (item : Item) → Allowed terms journal s item → IsFine s → IsShownWithin (next_xid journal) item → IsFullThere terms.settings journal item → All IsGoodHolder (named_shown item) → All IsLow (found_shown s.owed item)
      → All IsReadItem (seen_of item)
  item-read s (Line n) k h shown full named found = single (Line n) tt
  item-read s (Enlist base point) k h shown full named found =
      single (Enlist base point) (xid base k.from_first (omega (arith, shown.0)), xid point (omega (arith, k.from_first, k.ordered)) (omega (arith, shown.1)))
  item-read s (Publish n notes) k h shown full named found = single (Publish n []) (xid n (omega (arith, h.told, k.after_told)) (omega (arith, shown)), refl)
  item-read s (QueueFull f notes) k h shown full named found =
      let low : FIRST_XID ≤ f.xid = omega (arith, h.told, k.after_told) in
      let cut = some-cut journal (IsCutShort terms.settings.format (place terms.settings.format journal f.xid) f.queued) (λ tx. length tx.notes ≤ checked_bytes) f.xid (few-notes checked_bytes journal known.few_notes) full.cut_short in
      let head : f.head_page < 2 ^ 64 = subst (λ (n : ℕ). n < 2 ^ 64) (sym full.head) (page (f.xid + 1)) in
      single (QueueFull f []) (
        record {
          xid = xid f.xid low (omega (arith, shown.0));
          queued = omega (arith, cut.1.not_all, cut.2);
          head_page = head;
          floor_mark = xid f.floor_mark (low-floor f.holder f.floor_mark f.xid named full.holder.0 low) (omega (arith, shown.1));
          floor_page = omega (arith, full.no_page, head);
          holder = good-holder f.holder f.floor_mark named;
        },
        refl,
      )
  item-read s Leave k h shown full named found = single Leave tt
  item-read s (Reply done warning) k h shown full named found = single (Reply done warning) (answered-tag s.owed (Replied done warning) h.owed k)
  item-read s (Refuse refusal) k h shown full named found = single (Refuse refusal) (answered-tag s.owed (Refused refusal) h.owed k)
  item-read s (Channels []) k h shown full named found = All-nil IsReadItem
  item-read s (Channels (name ∷ names)) k h shown full named found = single (Channels (name ∷ names)) ((λ e. let none : ⊥ = cc in none), listed (name ∷ names) s.owed h.owed k)
  item-read s (Used usage) k h shown full named found =
      let low : FIRST_XID ≤ usage.at = omega (arith, h.told, k.after_told) in
      single (Used usage) (record {
        at = xid usage.at low (omega (arith, shown.0));
        occupied = omega (arith, k.shown.in_use, page usage.at);
        limit = omega (arith, k.shown.limited, known.limit);
        floor_mark = xid usage.floor_mark (low-floor usage.holder usage.floor_mark usage.at named k.shown.holder.0 low) (omega (arith, shown.1));
        holder = good-holder usage.holder usage.floor_mark named;
      })
  item-read s (Raise value) k h shown full named found = single (Raise value) (xid value (omega (arith, h.told, k.told)) (omega (arith, shown)))
  item-read s (Found value) k h shown full named found = single (Found value) (xid value (found-low value _ s.owed k found) (omega (arith, shown)))
  item-read s (TimedOut looks) k h shown full named found = single (TimedOut looks) (omega (arith, k.patient, known.patience))
  item-read s (Read from to got) k h shown full named found =
      let low : FIRST_XID ≤ from = low_from s.mark h.mark k.from_mark in
      let between : List Tx = entries_between journal from to in
      let lines : All IsLineTx between = All-drop IsLineTx (from - FIRST_XID) (take (to - FIRST_XID) journal) (All-take IsLineTx (to - FIRST_XID) journal known.lines) in
      let many : length between ≤ length journal - (from - FIRST_XID) = omega (arith, length-drop (from - FIRST_XID) (take (to - FIRST_XID) journal), length-take (to - FIRST_XID) journal) in
      single (Read from to got) (
        xid from low (omega (arith, shown.0)),
        xid to (omega (arith, low, k.forward)) (omega (arith, shown.1)),
        subst (λ (ds : List Delivery). All IsLineDelivery ds) (sym k.received) (due-lines terms.section.db s.set from between low (omega (arith, many, shown.0, low, known.few)) lines),
      )
    where
      low_from : (mark : Option ℕ) → IfSome mark (λ n. FIRST_XID ≤ n) → mark ≡ Some from → FIRST_XID ≤ from
      low_from None m is = absurd (let none : ⊥ = cc in none)
      low_from (Some n) m is = let same : n ≡ from = cc in omega (arith, m, same)

  -- the items of a lawful trace
  items-read : (s : State) (items : List Item) → Along after_item (Allowed terms journal) s items → Along after_item (λ t item. IsFine t) s items → All (IsShownWithin (next_xid journal)) items → All (IsFullThere terms.settings journal) items
      → All (λ item. All IsGoodHolder (named_shown item)) items → Along after_item (λ t item. All IsLow (found_shown t.owed item)) s items → All IsReadItem (seen items)
  items-read s [] k h shown full named found = All-nil IsReadItem
  items-read s (item ∷ items) k h shown full named found =
      All-append IsReadItem (seen_of item) (seen items)
      (item-read s item k.0 h.0 (All-head (IsShownWithin (next_xid journal)) item items shown) (All-head (IsFullThere terms.settings journal) item items full) (All-head (λ i. All IsGoodHolder (named_shown i)) item items named) found.0)
      (items-read (after_item s item) items k.1 h.1 (All-tail (IsShownWithin (next_xid journal)) item items shown) (All-tail (IsFullThere terms.settings journal) item items full) (All-tail (λ i. All IsGoodHolder (named_shown i)) item items named) found.1)

-- The order of what is seen.

-- the rows of channels come next
abbrev is_listing : Owed → Bool
is_listing (Listing names ending) = true
is_listing owed = false

-- the notifications that an item shows as sent can stand in lines
abbrev SendsLines : Item → Type 0
SendsLines (Publish n notes) = All IsLineNote notes
SendsLines (QueueFull f notes) = All IsLineNote notes
SendsLines item = Unit {0}

sends-lines : (terms : Terms) (journal : List Tx) (s : State) (item : Item) → Allowed terms journal s item → IsFine s → SendsLines item
sends-lines terms journal s (Publish n notes) k h = queued notes s.owed h.owed k.expected
sends-lines terms journal s (QueueFull f notes) k h = queued notes s.owed h.owed k.expected
sends-lines terms journal s item k h = tt

sends-all : (terms : Terms) (journal : List Tx) (s : State) (items : List Item) → Along after_item (Allowed terms journal) s items → Along after_item (λ t item. IsFine t) s items → All SendsLines items
sends-all terms journal s [] k h = All-nil SendsLines
sends-all terms journal s (item ∷ items) k h = All-cons SendsLines item items (sends-lines terms journal s item k.0 h.0) (sends-all terms journal (after_item s item) items k.1 h.1)

rows-done : (s : State) (names : List (List ℕ)) (owed : Owed) → IsListing names owed → is_listing (at_rows s owed).owed ≡ false
rows-done s names (Listing others ending) h = refl
rows-done s names owed h = absurd h

not-listing : (names : List (List ℕ)) (owed : Owed) → is_listing owed ≡ false → IsListing names owed → ⊥
not-listing names (Listing others ending) h is = let none : ⊥ = cc in none
not-listing names owed h is = is

module _ (terms : Terms) (journal : List Tx) where
  -- where they do not come next, what is seen does not begin with them
  no-rows_first : (s : State) (items : List Item) → is_listing s.owed ≡ false → Along after_item (Allowed terms journal) s items → begins_rows (seen items) ≡ false
  no-rows_first s [] h k = refl
  no-rows_first s (Channels names ∷ items) h k = absurd (not-listing names s.owed h k.0)
  no-rows_first s (Publish n notes ∷ items) h k = refl
  no-rows_first s (QueueFull f notes ∷ items) h k = refl
  no-rows_first s (item ∷ items) h k = refl

  seen-apart : (s : State) (items : List Item) → Along after_item (Allowed terms journal) s items → AreApart (seen items)
  seen-apart s [] k = tt
  seen-apart s (Channels [] ∷ items) k = seen-apart (after_item s (Channels [])) items k.1
  seen-apart s (Channels (name ∷ names) ∷ items) k =
      let t : State = after_item s (Channels (name ∷ names)) in
      (no-rows_first t items (rows-done s (name ∷ names) s.owed k.0) k.1, seen-apart t items k.1)
  seen-apart s (Publish n notes ∷ items) k = (refl, seen-apart (after_item s (Publish n notes)) items k.1)
  seen-apart s (QueueFull f notes ∷ items) k = (refl, seen-apart (after_item s (QueueFull f notes)) items k.1)
  seen-apart s (item ∷ items) k = (refl, seen-apart (after_item s item) items k.1)

  -- each script line that begins is the next
  seen-order : (lines : List ScriptLine) (s : State) (items : List Item) → s.rest ≡ lines → Along after_item (Allowed terms journal) s items → Along lines_left IsNextLine lines (seen items)
  seen-order lines s [] e k = tt
  seen-order lines s (Line n ∷ items) e k =
      (subst (IsNext n) e k.0.next, seen-order (drop 1 lines) (after_item s (Line n)) items (item-rest s (Line n) ∙ ap (λ (ls : List ScriptLine). drop 1 ls) e) k.1)
  seen-order lines s (Channels [] ∷ items) e k = seen-order lines (after_item s (Channels [])) items (item-rest s (Channels []) ∙ e) k.1
  seen-order lines s (Channels (name ∷ names) ∷ items) e k = (tt, seen-order lines (after_item s (Channels (name ∷ names))) items (item-rest s (Channels (name ∷ names)) ∙ e) k.1)
  seen-order lines s (Publish n notes ∷ items) e k = (tt, seen-order lines (after_item s (Publish n notes)) items (item-rest s (Publish n notes) ∙ e) k.1)
  seen-order lines s (QueueFull f notes ∷ items) e k = (tt, seen-order lines (after_item s (QueueFull f notes)) items (item-rest s (QueueFull f notes) ∙ e) k.1)
  seen-order lines s (item ∷ items) e k = (tt, seen-order lines (after_item s item) items (item-rest s item ∙ e) k.1)

-- The journal.

-- a transaction that a trace shows: of this session and database, with notifications that can stand in lines
record IsTold (session db : ℕ) (tx : Tx) : Type 0 where
  by_session : tx.session ≡ session
  in_db : tx.db ≡ db
  lines : All IsLineNote tx.notes

first-or : (n : ℕ) (xs : List ℕ) (x : ℕ) (R : Type 0) → Contains (n ∷ xs) x → (n ≡ x → R) → (Contains xs x → R) → R
first-or n xs x R (zero, lt, is) here later = here is
first-or n xs x R (suc k, lt, is) here later = later (k, omega (arith, lt), is)

told-there : (journal : List Tx) (session db : ℕ) (items : List Item) (x : ℕ) (tx : Tx) → All (IsShownIn journal session db) items → All SendsLines items → entry journal x ≡ Some tx → Contains (finished_xids items) x → IsTold session db tx
told-there journal session db [] x tx shown sent is there = absurd (omega (arith, there.1))
told-there journal session db (Publish n notes ∷ items) x tx shown sent is there =
    let one = All-head (IsShownIn journal session db) (Publish n notes) items shown in
    first-or n (finished_xids items) x (IsTold session db tx) there
    (λ same.
    let e = same_Some _ tx (sym one.1 ∙ ap (λ (y : ℕ). entry journal y) same ∙ is) in
    record { by_session = sym (ap (λ (t : Tx). t.session) e); in_db = sym (ap (λ (t : Tx). t.db) e); lines = subst (λ (t : Tx). All IsLineNote t.notes) e (All-head SendsLines (Publish n notes) items sent) })
    (λ later. told-there journal session db items x tx (All-tail (IsShownIn journal session db) (Publish n notes) items shown) (All-tail SendsLines (Publish n notes) items sent) is later)
told-there journal session db (QueueFull f notes ∷ items) x tx shown sent is there =
    let one = All-head (IsShownIn journal session db) (QueueFull f notes) items shown in
    first-or f.xid (finished_xids items) x (IsTold session db tx) there
    (λ same.
    let e = same_Some _ tx (sym one.1 ∙ ap (λ (y : ℕ). entry journal y) same ∙ is) in
    record { by_session = sym (ap (λ (t : Tx). t.session) e); in_db = sym (ap (λ (t : Tx). t.db) e); lines = subst (λ (t : Tx). All IsLineNote t.notes) e (All-head SendsLines (QueueFull f notes) items sent) })
    (λ later. told-there journal session db items x tx (All-tail (IsShownIn journal session db) (QueueFull f notes) items shown) (All-tail SendsLines (QueueFull f notes) items sent) is later)
told-there journal session db (item ∷ items) x tx shown sent is there =
    told-there journal session db items x tx (All-tail (IsShownIn journal session db) item items shown) (All-tail SendsLines item items sent) is there

-- All traces.

module _ (settings : Settings) (journal : List Tx) where
  abbrev Lawful : Terms → Trace → Type 0
  Lawful terms trace = TraceOk terms trace journal

  -- what the walk carries at the end of each trace, and along it
  record WalksFine (terms : Terms) (trace : Trace) : Type 0 where
    along : Along after_item (λ s item. IsFine s) (start terms.section) trace.items
    end : IsFine (fold after_item (start terms.section) trace.items)

  each-fine : (flags : ℕ) (sections : List Section) (traces : List Trace) → All (IsSoundSection flags) sections → All (λ section. All (λ line. IsHeldAct line.act) section.lines) sections → length (traces_lines sections traces) < 2 ^ 32
      → EachTrace settings Lawful sections traces → EachTrace settings WalksFine sections traces
  each-fine flags [] [] sound acts few ok = tt
  each-fine flags [] (trace ∷ traces) sound acts few ok = absurd ok
  each-fine flags (section ∷ sections) [] sound acts few ok = absurd ok
  each-fine flags (section ∷ sections) (trace ∷ traces) sound acts few ok =
      let Held : Section → Type 0 = λ s. All (λ line. IsHeldAct line.act) s.lines in
      let terms : Terms = record { section = section; settings = settings } in
      let both = length-append (trace_lines section trace) (traces_lines sections traces) in
      let first : IsFine (start section) =
      record {
        rest = fine-script flags section (All-head (IsSoundSection flags) section sections sound) (All-head Held section sections acts);
        changes = λ k d lt. absurd (omega (arith, lt));
        set = λ k d lt. absurd (omega (arith, lt));
        told = omega arith;
        mark = tt;
        marks = λ k d lt. absurd (omega (arith, lt));
        raised = λ k d lt. absurd (omega (arith, lt));
        owed = tt;
      } in
      let walk = fine-along terms journal (start section) trace.items ok.0.lawful (short-trace section trace (omega (arith, few, both))) first in
      (record { along = walk.0; end = walk.1 }, each-fine flags sections traces (All-tail (IsSoundSection flags) section sections sound) (All-tail Held section sections acts) (omega (arith, few, both)) ok.1)

  -- the ends of all traces
  record IsFineEnd (end : End) : Type 0 where
    session : IsSession end.session
    state : IsFine end.state

  fine-ends : (sections : List Section) (traces : List Trace) → All (λ section. IsSession section.no) sections → EachTrace settings WalksFine sections traces → All IsFineEnd (ends settings sections traces)
  fine-ends [] traces numbers fine = λ k d lt. absurd (omega (arith, lt))
  fine-ends (section ∷ sections) [] numbers fine = absurd fine
  fine-ends (section ∷ sections) (trace ∷ traces) numbers fine =
      let Number : Section → Type 0 = λ s. IsSession s.no in
      All-cons IsFineEnd _ (ends settings sections traces) (record { session = All-head Number section sections numbers; state = fine.0.end }) (fine-ends sections traces (All-tail Number section sections numbers) fine.1)

  raised-low : (all : List End) → All IsFineEnd all → All IsLow (flat_map (λ end. end.state.raised) all)
  raised-low [] h = All-nil IsLow
  raised-low (end ∷ all) h = All-append IsLow end.state.raised (flat_map (λ e. e.state.raised) all) (All-head IsFineEnd end all h).state.raised (raised-low all (All-tail IsFineEnd end all h))

  stood-good : (all : List End) (pair : ℕ × ℕ) → All IsFineEnd all → StoodAt all pair → IsGoodHolder pair
  stood-good all pair h (k, end, lt, is, there) =
      let fine : IsFineEnd (get_or all k end) = h k end lt in
      let fine_end : IsFineEnd end = subst IsFineEnd is fine in
      (subst IsSession there.0 fine_end.session, contained (λ (n : ℕ). FIRST_XID ≤ n) end.state.marks pair.1 fine_end.state.marks there.1)

  -- some trace shows each transaction
  told-by_some : (sections : List Section) (traces : List Trace) (x : ℕ) (tx : Tx) → EachTrace settings Lawful sections traces → EachTrace settings WalksFine sections traces → All (λ trace. All (IsShownIn journal trace.session trace.db) trace.items) traces
      → entry journal x ≡ Some tx → Any (λ trace. Contains (finished_xids trace.items) x) traces → (k : ℕ) × (d : Section) × (k < length sections) × IsTold (get_or sections k d).no (get_or sections k d).db tx
  told-by_some [] [] x tx ok fine shown is (k, trace, lt, at, there) = absurd (omega (arith, lt))
  told-by_some [] (other ∷ traces) x tx ok fine shown is there = absurd ok
  told-by_some (section ∷ sections) [] x tx ok fine shown is there = absurd ok
  told-by_some (section ∷ sections) (other ∷ traces) x tx ok fine shown is (zero, trace, lt, at, there) =
      let terms : Terms = record { section = section; settings = settings } in
      let Shows : Trace → Type 0 = λ t. All (IsShownIn journal t.session t.db) t.items in
      let here : Contains (finished_xids other.items) x = subst (λ (t : Trace). Contains (finished_xids t.items) x) (sym at) there in
      let told = told-there journal other.session other.db other.items x tx (All-head Shows other traces shown) (sends-all terms journal (start section) other.items ok.0.lawful fine.0.along) is here in
      (0, section, omega arith, record { by_session = told.by_session ∙ ok.0.session; in_db = told.in_db ∙ ok.0.database; lines = told.lines })
  told-by_some (section ∷ sections) (other ∷ traces) x tx ok fine shown is (suc k, trace, lt, at, there) =
      let Shows : Trace → Type 0 = λ t. All (IsShownIn journal t.session t.db) t.items in
      let rest = told-by_some sections traces x tx ok.1 fine.1 (All-tail Shows other traces shown) is (k, trace, omega (arith, lt), at, there) in
      (suc rest.0, rest.1, omega (arith, rest.2), rest.3)

read-queued : (fate : Fate) (queued count : ℕ) → IsQueued fate queued count → count < 2 ^ 32 → IsReadQueued fate queued count
read-queued Committed queued count h few = h
read-queued Aborted queued count h few = omega (arith, h, few)

slice-at : (txs : List Tx) (k : ℕ) (d : Tx) → k < length txs → slice_get txs k ≡ Some (get_or txs k d)
slice-at [] k d lt = absurd (omega (arith, lt))
slice-at (tx ∷ txs) zero d lt = refl
slice-at (tx ∷ txs) (suc k) d lt = slice-at txs k d (omega (arith, lt))

-- The run.

module _ (scenario : Scenario) (settings : Settings) (journal : List Tx) (traces : List Trace) (sound : IsSound scenario) (held : IsHeld scenario settings) (few : length (text scenario journal traces) ≤ checked_bytes) (legal : Legal scenario settings journal traces) where
  sections : List Section
  sections = scenario.sections

  lines-few : length journal + notes_in journal + length (traces_lines scenario.sections traces) ≤ checked_bytes
  lines-few =
      omega (
        arith,
        few,
        lines-bytes (text_lines scenario journal traces),
        length-append (journal_lines journal) (traces_lines scenario.sections traces),
        entries-length FIRST_XID journal,
      )

  numbers : All (λ section. IsSession section.no) scenario.sections
  numbers = sessions-within scenario.sections sound.numbered sound.few

  fine : EachTrace settings (WalksFine settings journal) scenario.sections traces
  fine = each-fine settings journal (length scenario.flags) scenario.sections traces sound.sections held.acts (omega (arith, lines-few)) legal.lawful

  fine-all : All (IsFineEnd settings journal) (ends settings scenario.sections traces)
  fine-all = fine-ends settings journal scenario.sections traces numbers fine

  -- a transaction of the journal
  told-at : (k : ℕ) (d : Tx) → k < length journal → (n : ℕ) × (s : Section) × (n < length scenario.sections) × IsTold (get_or scenario.sections n s).no (get_or scenario.sections n s).db (get_or journal k d)
  told-at k d lt =
      let shows : ShowsJournal journal traces = legal-shows_journal scenario settings journal traces legal in
      let here : entry journal (FIRST_XID + k) ≡ Some (get_or journal k d) = ap (λ (n : ℕ). slice_get journal n) (omega arith) ∙ slice-at journal k d lt in
      told-by_some settings journal scenario.sections traces (FIRST_XID + k) (get_or journal k d) legal.lawful fine shows.shown here (shows.whole k lt)

  tx-read : All (IsReadTx scenario.sections) journal
  tx-read k d lt =
      let tx : Tx = get_or journal k d in
      let told = told-at k d lt in
      let section : Section = get_or scenario.sections told.0 told.1 in
      let known : IsTold section.no section.db tx = told.3 in
      let finished : IsFinished tx = legal.finished k d lt in
      let short : length tx.notes ≤ checked_bytes = few-notes checked_bytes journal (omega (arith, lines-few)) k d lt in
      record {
        session = named-within scenario.sections tx.session numbers (legal.named k d lt);
        database = known.in_db ∙ sym (database-there 1 scenario.sections told.0 told.1 sound.numbered told.2) ∙ ap (λ (n : ℕ). database_of scenario.sections n) (sym known.by_session);
        queueing = read-queued tx.fate tx.queued (length tx.notes) finished.queueing (omega (arith, short));
        few = omega (arith, short);
        notes = known.lines;
      }

  known-journal : IsKnownJournal settings journal
  known-journal = record {
    few = omega (arith, lines-few);
    few_notes = omega (arith, lines-few);
    finished = legal.finished;
    lines = λ k d lt. let read = tx-read k d lt in record { session = read.session; notes = read.notes };
    limit = held.limit;
    patience = held.patience;
  }

  named-good : All (λ trace. All (λ item. All IsGoodHolder (named_shown item)) trace.items) traces
  named-good =
      named-each settings journal IsGoodHolder scenario.sections traces legal.lawful
      (λ k d lt. stood-good settings journal (ends settings scenario.sections traces) _ fine-all (legal.holders k d lt))

  found-low_all : EachTrace settings (λ terms trace. Along after_item (λ s item. All (Contains (flat_map (λ end. end.state.raised) (ends settings scenario.sections traces))) (found_shown s.owed item)) (start terms.section) trace.items) scenario.sections traces
  found-low_all = (found-in_all settings journal scenario.sections traces (flat_map (λ end. end.state.raised) (ends settings scenario.sections traces)) legal.lawful).0 legal.found

  abbrev RaisedPairs : List (ℕ × ℕ)
  RaisedPairs = flat_map (λ end. end.state.raised) (ends settings scenario.sections traces)

  low-along : (s : State) (items : List Item) → Along after_item (λ t item. All (Contains RaisedPairs) (found_shown t.owed item)) s items → Along after_item (λ t item. All IsLow (found_shown t.owed item)) s items
  low-along s [] h = tt
  low-along s (item ∷ items) h =
      ((λ k d lt. contained IsLow RaisedPairs (get_or (found_shown s.owed item) k d) (raised-low settings journal (ends settings scenario.sections traces) fine-all) (h.0 k d lt)), low-along (after_item s item) items h.1)

  last-read : (last mark : Option ℕ) → mark ≡ last → IfSome mark (λ n. FIRST_XID ≤ n) → IfSome last (λ n. n ≡ next_xid journal) → IfSome last IsXid
  last-read None mark e low all = tt
  last-read (Some n) mark e low all =
      let low_n : FIRST_XID ≤ n = subst (λ (o : Option ℕ). IfSome o (λ m. FIRST_XID ≤ m)) e low in
      (low_n, omega (arith, all, known-journal.few))

  traces-read : (parts : List Section) (those : List Trace) → EachTrace settings (λ terms trace. TraceOk terms trace journal) parts those → EachTrace settings (WalksFine settings journal) parts those
      → All (λ trace. All (IsShownWithin (next_xid journal)) trace.items) those → All (λ trace. All (IsFullThere settings journal) trace.items) those → All (λ trace. All (λ item. All IsGoodHolder (named_shown item)) trace.items) those
      → EachTrace settings (λ terms trace. Along after_item (λ s item. All (Contains RaisedPairs) (found_shown s.owed item)) (start terms.section) trace.items) parts those → All (λ trace. IfSome trace.last (λ mark. mark ≡ next_xid journal)) those
      → EachSection IsReadTrace parts (map seen_trace those)
  traces-read [] [] ok walks shown full named found ends_read = tt
  traces-read [] (trace ∷ those) ok walks shown full named found ends_read = absurd ok
  traces-read (section ∷ parts) [] ok walks shown full named found ends_read = absurd ok
  traces-read (section ∷ parts) (trace ∷ those) ok walks shown full named found ends_read =
      let terms : Terms = record { section = section; settings = settings } in
      let Shown : Trace → Type 0 = λ t. All (IsShownWithin (next_xid journal)) t.items in
      let Fulls : Trace → Type 0 = λ t. All (IsFullThere settings journal) t.items in
      let Named : Trace → Type 0 = λ t. All (λ item. All IsGoodHolder (named_shown item)) t.items in
      let Whole : Trace → Type 0 = λ t. IfSome t.last (λ mark. mark ≡ next_xid journal) in (
        record {
          session = ok.0.session;
          database = ok.0.database;
          in_order = seen-order terms journal section.lines (start section) trace.items refl ok.0.lawful;
          items = items-read terms journal known-journal (start section) trace.items ok.0.lawful walks.0.along (All-head Shown trace those shown) (All-head Fulls trace those full) (All-head Named trace those named)
              (low-along (start section) trace.items found.0);
          apart = seen-apart terms journal (start section) trace.items ok.0.lawful;
          last = last-read trace.last (fold after_item (start section) trace.items).mark ok.0.ended.mark walks.0.end.mark (All-head Whole trace those ends_read);
        },
        traces-read parts those ok.1 walks.1 (All-tail Shown trace those shown) (All-tail Fulls trace those full) (All-tail Named trace those named) found.1 (All-tail Whole trace those ends_read),
      )

  readable : IsReadable scenario journal (map seen_trace traces)
  readable = record {
    few = known-journal.few;
    entries = tx-read;
    each = traces-read scenario.sections traces legal.lawful fine legal.shown legal.full named-good found-low_all legal.read_all;
  }

-- a legal run can be read from its text, unless that is too long
pub legal-is_readable : LegalIsReadable
legal-is_readable scenario settings journal traces sound held few legal = readable scenario settings journal traces sound held few legal
