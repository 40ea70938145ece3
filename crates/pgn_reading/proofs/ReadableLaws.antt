-- The lines of a journal and traces that are readable give these back.
use Rattle.std.proofs.Common.{◌≡◌, ◌≢◌, ℕ, ◌+◌, ◌^◌, ◌<◌, ◌==◌, Bool, true, false, cond, ◌&&◌, List, [], ◌∷◌, ◌++◌, length, map, get_or, Option, IfSome, codes, decimal, sym, ap, ◌∙◌, refl, subst, arith, append_assoc}
use Rattle.std.specs.Prelude.{All, flat_map}
use Rattle.std.specs.List.{onto_first}
use Rattle.std.proofs.lemmas.List.{append_cancel_left}
use Rattle.std.proofs.lemmas.List.Elements.{All-nil, All-cons, All-head, All-tail}
use Rattle.pgn_base.specs.declared.limits.TheConstants.{FIRST_XID}
use Rattle.pgn_base.specs.declared.note.Note.{Note}
use Rattle.pgn_base.specs.declared.note.Delivery.{Delivery}
use Rattle.pgn_base.specs.declared.answers.Tag.{Tag}
use Rattle.pgn_base.specs.declared.answers.Warning.{Warning}
use Rattle.pgn_base.specs.declared.answers.Refusal.{Refusal}
use Rattle.pgn_base.specs.declared.answers.Refusal.TheVariants.{NoSavepoint}
use Rattle.pgn_base.specs.declared.queue_answers.Full.{Full}
use Rattle.pgn_base.specs.declared.queue_answers.Usage.{Usage}
use Rattle.pgn_journal.specs.declared.tx.Tx.{Tx}
use Rattle.pgn_journal.specs.declared.tx.Fate.{Fate}
use Rattle.pgn_journal.specs.declared.tx.Fate.TheVariants.{Committed, Aborted}
use Rattle.pgn_language.specs.declared.scenario.ScriptLine.{ScriptLine}
use Rattle.pgn_language.specs.declared.scenario.Section.{Section}
use Rattle.pgn_language.specs.Lines.{lines_of}
use Rattle.pgn_model.specs.declared.item.Item.{Item}
use Rattle.pgn_model.specs.declared.item.Item.TheVariants.{Line, Enlist, Publish, QueueFull, Leave, Reply, Refuse, Channels, Used, Raise, Found, TimedOut, Read}
use Rattle.pgn_model.specs.declared.trace.Trace.{Trace}
use Rattle.pgn_model.specs.Along.{Along}
use Rattle.pgn_model.specs.Walk.{IsNext}
use Rattle.pgn_model.specs.laws.Text.{IsOneLineItem}
use Rattle.pgn_model.proofs.TextLines.{text-has_lines}
use Rattle.pgn_model.specs.Text.{joined, note_line, fate_text, entry_lines, entries_lines, line_text, delivery_line, channel_line, full_line, item_lines, end_line, section_line, trace_lines, traces_lines, text_lines}
use Rattle.pgn_reading.specs.Form.{IsXid, IsLineName, IsLineNote, IsLineDelivery, IsReadItem, is_rows, begins_rows, AreApart, lines_left, IsNextLine, IsReadTrace, database_of, IsReadQueued, IsReadTx, EachSection, onto_line, whole_lines}
use Rattle.pgn_reading.specs.ReadableLaws.{LinesAreOne, ReadableHasLines, ReadableIsOne}
use Rattle.pgn_reading.proofs.FieldLaws.{EndsNumber, field, four-apart, five-apart}
use Rattle.pgn_reading.proofs.LineLaws.{kind, first_sign, item-sign, end-sign, note-sign, channel-sign, delivery-sign, cons-same, last-number, two-numbers, rows-same, note-same, delivery-same, channel-same, reply-same, refusal-same, full-same, usage-same, end-same}

-- The items of a trace.

-- no item is of the kind of a trace's end, nor of that of a delivery
no-such_kind : (item : Item) → (kind item ≢ 101) × (kind item ≢ 2)
no-such_kind (Line n) = (λ h. omega (arith, h), λ h. omega (arith, h))
no-such_kind item = (λ h. omega (arith, h), λ h. omega (arith, h))

-- nor but the rows of channels of theirs
no-rows : (item : Item) → is_rows item ≡ false → kind item ≢ 1
no-rows (Channels names) h k = let none : ⊥ = cc in none
no-rows item h k = omega (arith, k)

-- the kind of the first of these items, or of the end
abbrev first_kind : List Item → ℕ
first_kind [] = 101
first_kind (item ∷ items) = kind item

-- what follows an item does not go on with its rows
abbrev Closes : Item → ℕ → Type 0
Closes (Channels names) n = n ≢ 1
Closes (Read from to got) n = n ≢ 2
Closes item n = Unit {0}

closes : (item : Item) (items : List Item) → (is_rows item && begins_rows items) ≡ false → Closes item (first_kind items)
closes (Channels names) [] h = λ k. omega (arith, k)
closes (Channels names) (item ∷ items) h = no-rows item h
closes (Read from to got) [] h = λ k. omega (arith, k)
closes (Read from to got) (item ∷ items) h = (no-such_kind item).1
closes item items h = tt

same-next : (n m : ℕ) (lines : List ScriptLine) → IsNext n lines → IsNext m lines → n ≡ m
same-next n m [] h k = absurd h
same-next n m (line ∷ lines) h k = sym h ∙ k

module _ (lines : List ScriptLine) where
  -- two items of one kind, and the lines that follow them
  of-one-kind : (left : List ScriptLine) (item other : Item) (rest more : List (List ℕ)) → kind item ≡ kind other → IsReadItem item → IsReadItem other → IsNextLine left item → IsNextLine left other
      → Closes item (first_sign rest) → Closes other (first_sign more) → item_lines lines item ++ rest ≡ item_lines lines other ++ more → (item ≡ other) × (rest ≡ more)
  of-one-kind left (Line n) (Line m) rest more t h k next after a b e =
      (ap (λ (l : ℕ). let i : Item = Line l in i) (same-next n m left next after), (cons-same (codes "> " ++ line_text n lines) (codes "> " ++ line_text m lines) rest more e).1)
  of-one-kind left (Line n) other rest more t h k next after a b e = absurd (omega (arith, t))
  of-one-kind left (Enlist base point) (Enlist base' point') rest more t h k next after a b e =
      let line = cons-same (codes "+enlist " ++ decimal base ++ codes " " ++ decimal point) (codes "+enlist " ++ decimal base' ++ codes " " ++ decimal point') rest more e in
      let both = two-numbers (codes "+enlist ") base point base' point' (omega (arith, h.0.1)) (omega (arith, h.1.1)) (omega (arith, k.0.1)) (omega (arith, k.1.1)) line.0 in
      (ap (λ (n : ℕ). let i : Item = Enlist n point in i) both.0 ∙ ap (λ (n : ℕ). let i : Item = Enlist base' n in i) both.1, line.1)
  of-one-kind left (Enlist base point) other rest more t h k next after a b e = absurd (omega (arith, t))
  of-one-kind left (Publish xid notes) (Publish xid' others) rest more t h k next after a b e =
      let line = cons-same (codes "+publish " ++ decimal xid) (codes "+publish " ++ decimal xid') rest more e in (
        ap (λ (n : ℕ). let i : Item = Publish n notes in i) (last-number (codes "+publish ") xid xid' (omega (arith, h.0.1)) (omega (arith, k.0.1)) line.0)
            ∙ ap (λ (ns : List Note). let i : Item = Publish xid' ns in i) (h.1 ∙ sym k.1),
        line.1,
      )
  of-one-kind left (Publish xid notes) other rest more t h k next after a b e = absurd (omega (arith, t))
  of-one-kind left (QueueFull full notes) (QueueFull full' others) rest more t h k next after a b e =
      let line = cons-same (full_line full) (full_line full') rest more e in
      (ap (λ (f : Full). let i : Item = QueueFull f notes in i) (full-same full full' h.0 k.0 line.0) ∙ ap (λ (ns : List Note). let i : Item = QueueFull full' ns in i) (h.1 ∙ sym k.1), line.1)
  of-one-kind left (QueueFull full notes) other rest more t h k next after a b e = absurd (omega (arith, t))
  of-one-kind left Leave Leave rest more t h k next after a b e = (refl, (cons-same (codes "+leave") (codes "+leave") rest more e).1)
  of-one-kind left Leave other rest more t h k next after a b e = absurd (omega (arith, t))
  of-one-kind left (Reply done warning) (Reply done' warning') rest more t h k next after a b e =
      let both = reply-same done done' warning warning' rest more h k e in
      (ap (λ (d : Tag). let i : Item = Reply d warning in i) both.0 ∙ ap (λ (w : Option Warning). let i : Item = Reply done' w in i) both.1, both.2)
  of-one-kind left (Reply done warning) other rest more t h k next after a b e = absurd (omega (arith, t))
  of-one-kind left (Refuse refusal) (Refuse refusal') rest more t h k next after a b e =
      let line = cons-same _ _ rest more e in
      (ap (λ (r : Refusal). let i : Item = Refuse r in i) (refusal-same refusal refusal' h k line.0), line.1)
  of-one-kind left (Refuse refusal) other rest more t h k next after a b e = absurd (omega (arith, t))
  of-one-kind left (Channels names) (Channels names') rest more t h k next after a b e =
      let both = rows-same channel_line IsLineName 1 channel-sign channel-same names names' rest more h.1 k.1 a b e in
      (ap (λ (ns : List (List ℕ)). let i : Item = Channels ns in i) both.0, both.1)
  of-one-kind left (Channels names) other rest more t h k next after a b e = absurd (omega (arith, t))
  of-one-kind left (Used usage) (Used usage') rest more t h k next after a b e =
      let both = usage-same usage usage' rest more h k e in
      (ap (λ (u : Usage). let i : Item = Used u in i) both.0, both.1)
  of-one-kind left (Used usage) other rest more t h k next after a b e = absurd (omega (arith, t))
  of-one-kind left (Raise value) (Raise value') rest more t h k next after a b e =
      let line = cons-same (codes "+signal " ++ decimal value) (codes "+signal " ++ decimal value') rest more e in
      (ap (λ (n : ℕ). let i : Item = Raise n in i) (last-number (codes "+signal ") value value' (omega (arith, h.1)) (omega (arith, k.1)) line.0), line.1)
  of-one-kind left (Raise value) other rest more t h k next after a b e = absurd (omega (arith, t))
  of-one-kind left (Found value) (Found value') rest more t h k next after a b e =
      let line = cons-same (codes "+await " ++ decimal value) (codes "+await " ++ decimal value') rest more e in
      (ap (λ (n : ℕ). let i : Item = Found n in i) (last-number (codes "+await ") value value' (omega (arith, h.1)) (omega (arith, k.1)) line.0), line.1)
  of-one-kind left (Found value) other rest more t h k next after a b e = absurd (omega (arith, t))
  of-one-kind left (TimedOut looks) (TimedOut looks') rest more t h k next after a b e =
      let line = cons-same (codes "+timeout " ++ decimal looks) (codes "+timeout " ++ decimal looks') rest more e in
      (ap (λ (n : ℕ). let i : Item = TimedOut n in i) (last-number (codes "+timeout ") looks looks' h k line.0), line.1)
  of-one-kind left (TimedOut looks) other rest more t h k next after a b e = absurd (omega (arith, t))
  of-one-kind left (Read from to got) (Read from' to' got') rest more t h k next after a b e =
      let line = cons-same (codes "+read " ++ decimal from ++ codes " " ++ decimal to) (codes "+read " ++ decimal from' ++ codes " " ++ decimal to') (map delivery_line got ++ rest) (map delivery_line got' ++ more) e in
      let both = two-numbers (codes "+read ") from to from' to' (omega (arith, h.0.1)) (omega (arith, h.1.1)) (omega (arith, k.0.1)) (omega (arith, k.1.1)) line.0 in
      let rows = rows-same delivery_line IsLineDelivery 2 delivery-sign delivery-same got got' rest more h.2 k.2 a b line.1 in
      (ap (λ (n : ℕ). let i : Item = Read n to got in i) both.0 ∙ ap (λ (n : ℕ). let i : Item = Read from' n got in i) both.1 ∙ ap (λ (ds : List Delivery). let i : Item = Read from' to' ds in i) rows.0, rows.1)
  of-one-kind left (Read from to got) other rest more t h k next after a b e = absurd (omega (arith, t))

  -- the lines of items, the end and what follows
  abbrev Lines : List Item → Option ℕ → List (List ℕ) → List (List ℕ)
  Lines items last rest = flat_map (item_lines lines) items ++ end_line last ∷ rest

  items-sign : (items : List Item) (last : Option ℕ) (rest : List (List ℕ)) → All IsReadItem items → first_sign (Lines items last rest) ≡ first_kind items
  items-sign [] last rest h = end-sign last
  items-sign (item ∷ items) last rest h =
      ap first_sign (append_assoc (item_lines lines item) (flat_map (item_lines lines) items) (end_line last ∷ rest)) ∙ item-sign lines item (Lines items last rest) (All-head IsReadItem item items h)

  -- items as the lines show them, and the end
  record AreRead (left : List ScriptLine) (items : List Item) (last : Option ℕ) : Type 0 where
    order : Along lines_left IsNextLine left items
    each : All IsReadItem items
    single : AreApart items
    end : IfSome last IsXid

  items-same : (left : List ScriptLine) (items others : List Item) (last final : Option ℕ) (rest more : List (List ℕ)) → AreRead left items last → AreRead left others final → Lines items last rest ≡ Lines others final more
      → (items ≡ others) × (last ≡ final) × (rest ≡ more)
  items-same left [] [] last final rest more h k e =
      let line = cons-same (end_line last) (end_line final) rest more e in
      (refl, end-same last final h.end k.end line.0, line.1)
  items-same left [] (other ∷ others) last final rest more h k e =
      absurd ((no-such_kind other).0 (sym (sym (end-sign last) ∙ ap first_sign e ∙ items-sign (other ∷ others) final more k.each)))
  items-same left (item ∷ items) [] last final rest more h k e =
      absurd ((no-such_kind item).0 (sym (items-sign (item ∷ items) last rest h.each) ∙ ap first_sign e ∙ end-sign final))
  items-same left (item ∷ items) (other ∷ others) last final rest more h k e =
      let behind : List (List ℕ) = Lines items last rest in
      let after : List (List ℕ) = Lines others final more in
      let apart : item_lines lines item ++ behind ≡ item_lines lines other ++ after =
      sym (append_assoc (item_lines lines item) (flat_map (item_lines lines) items) (end_line last ∷ rest)) ∙ e ∙ append_assoc (item_lines lines other) (flat_map (item_lines lines) others) (end_line final ∷ more) in
      let read : All IsReadItem items = All-tail IsReadItem item items h.each in
      let read' : All IsReadItem others = All-tail IsReadItem other others k.each in
      let kinds : kind item ≡ kind other = sym (items-sign (item ∷ items) last rest h.each) ∙ ap first_sign e ∙ items-sign (other ∷ others) final more k.each in
      let one = of-one-kind left item other behind after kinds (All-head IsReadItem item items h.each) (All-head IsReadItem other others k.each) h.order.0 k.order.0
      (subst (λ (n : ℕ). Closes item n) (sym (items-sign items last rest read)) (closes item items h.single.0)) (subst (λ (n : ℕ). Closes other n) (sym (items-sign others final more read')) (closes other others k.single.0)) apart in
      let same : item ≡ other = one.0 in
      let tail = items-same (lines_left left item) items others last final rest more (record { order = h.order.1; each = read; single = h.single.1; end = h.end })
      (record { order = subst (λ (i : Item). Along lines_left IsNextLine (lines_left left i) others) (sym same) k.order.1; each = read'; single = k.single.1; end = k.end }) one.1 in
      let others_too : items ≡ others = tail.0 in
      (cc, tail.1, tail.2)

-- Traces.

same-trace : (a b : Trace) → a.session ≡ b.session → a.db ≡ b.db → a.items ≡ b.items → a.last ≡ b.last → a ≡ b
same-trace a b e1 e2 e3 e4 =
    ap (λ (n : ℕ). let t : Trace = record { session = n; db = a.db; items = a.items; last = a.last } in t) e1
    ∙ ap (λ (n : ℕ). let t : Trace = record { session = b.session; db = n; items = a.items; last = a.last } in t) e2
    ∙ ap (λ (is : List Item). let t : Trace = record { session = b.session; db = b.db; items = is; last = a.last } in t) e3
    ∙ ap (λ (o : Option ℕ). let t : Trace = record { session = b.session; db = b.db; items = b.items; last = o } in t) e4

-- where the lines of two traces, as they are read, begin the same lines, the traces are the same, and so is what follows
pub trace-same : (section : Section) (trace other : Trace) (rest more : List (List ℕ)) → IsReadTrace section trace → IsReadTrace section other → trace_lines section trace ++ rest ≡ trace_lines section other ++ more → (trace ≡ other) × (rest ≡ more)
trace-same section trace other rest more h k e =
    let lines : List ScriptLine = section.lines in
    let items : List (List ℕ) = flat_map (item_lines lines) trace.items in
    let others : List (List ℕ) = flat_map (item_lines lines) other.items in
    let behind = cons-same (section_line section) (section_line section) ((items ++ end_line trace.last ∷ []) ++ rest) ((others ++ end_line other.last ∷ []) ++ more) e in
    let apart : items ++ end_line trace.last ∷ rest ≡ others ++ end_line other.last ∷ more = sym (append_assoc items (end_line trace.last ∷ []) rest) ∙ behind.1 ∙ append_assoc others (end_line other.last ∷ []) more in
    let one = items-same lines lines trace.items other.items trace.last other.last rest more (record { order = h.in_order; each = h.items; single = h.apart; end = h.last })
    (record { order = k.in_order; each = k.items; single = k.apart; end = k.last }) apart in
    (same-trace trace other (h.session ∙ sym k.session) (h.database ∙ sym k.database) one.0 one.1, one.2)

-- so are all traces with the same lines
pub traces-same : (sections : List Section) (traces others : List Trace) → EachSection IsReadTrace sections traces → EachSection IsReadTrace sections others → traces_lines sections traces ≡ traces_lines sections others → traces ≡ others
traces-same [] [] [] h k e = refl
traces-same [] [] (other ∷ others) h k e = absurd k
traces-same [] (trace ∷ traces) others h k e = absurd h
traces-same (section ∷ sections) [] others h k e = absurd h
traces-same (section ∷ sections) (trace ∷ traces) [] h k e = absurd k
traces-same (section ∷ sections) (trace ∷ traces) (other ∷ others) h k e =
    let one = trace-same section trace other (traces_lines sections traces) (traces_lines sections others) h.0 k.0 e in
    let first : trace ≡ other = one.0 in
    let behind : traces ≡ others = traces-same sections traces others h.1 k.1 one.1 in
    cc

-- The journal.

-- neither a notification of the journal nor a transaction comes next
pub record EndsEntries (n : ℕ) : Type 0 where
  pub no_note : n ≢ 1
  pub no_entry : n ≢ 120

traces-end : (sections : List Section) (traces : List Trace) → EndsEntries (first_sign (traces_lines sections traces))
traces-end [] traces = record { no_note = λ h. omega (arith, h); no_entry = λ h. omega (arith, h) }
traces-end (section ∷ sections) [] = record { no_note = λ h. omega (arith, h); no_entry = λ h. omega (arith, h) }
traces-end (section ∷ sections) (trace ∷ traces) = record { no_note = λ h. omega (arith, h); no_entry = λ h. omega (arith, h) }

entries-end : (x : ℕ) (txs : List Tx) (rest : List (List ℕ)) → EndsEntries (first_sign rest) → first_sign (entries_lines x txs ++ rest) ≢ 1
entries-end x [] rest h = h.no_note
entries-end x (tx ∷ txs) rest h = λ k. omega (arith, k)

same-tx : (a b : Tx) → a.session ≡ b.session → a.db ≡ b.db → a.notes ≡ b.notes → a.queued ≡ b.queued → a.fate ≡ b.fate → a ≡ b
same-tx a b e1 e2 e3 e4 e5 =
    ap (λ (n : ℕ). let t : Tx = record { session = n; db = a.db; notes = a.notes; queued = a.queued; fate = a.fate } in t) e1
    ∙ ap (λ (n : ℕ). let t : Tx = record { session = b.session; db = n; notes = a.notes; queued = a.queued; fate = a.fate } in t) e2
    ∙ ap (λ (n : List Note). let t : Tx = record { session = b.session; db = b.db; notes = n; queued = a.queued; fate = a.fate } in t) e3
    ∙ ap (λ (n : ℕ). let t : Tx = record { session = b.session; db = b.db; notes = b.notes; queued = n; fate = a.fate } in t) e4
    ∙ ap (λ (f : Fate). let t : Tx = record { session = b.session; db = b.db; notes = b.notes; queued = b.queued; fate = f } in t) e5

fate-ends : (fate : Fate) (queued count : ℕ) → EndsNumber (fate_text fate queued count)
fate-ends Committed queued count = let low : 32 < 48 = omega arith in low
fate-ends Aborted queued count = let low : 32 < 48 = omega arith in low

-- what a fate shows: of a committed transaction as many as it has
record SameFate (fate other : Fate) (queued queued' : ℕ) : Type 0 where
  same : fate ≡ other
  as_queued : fate ≡ Aborted → queued ≡ queued'

fates-same : (fate other : Fate) (queued queued' count count' : ℕ) → IsReadQueued fate queued count → IsReadQueued other queued' count' → count < 2 ^ 32 → count' < 2 ^ 32 → fate_text fate queued count ≡ fate_text other queued' count'
    → SameFate fate other queued queued'
fates-same Committed Committed queued queued' count count' h k few few' e = record { same = refl; as_queued = λ is. absurd (let none : ⊥ = cc in none) }
fates-same Committed Aborted queued queued' count count' h k few few' e = absurd (let apart : 99 ≡ 97 = ap (λ (bytes : List ℕ). get_or bytes 1 0) e in omega (arith, apart))
fates-same Aborted Committed queued queued' count count' h k few few' e = absurd (let apart : 97 ≡ 99 = ap (λ (bytes : List ℕ). get_or bytes 1 0) e in omega (arith, apart))
fates-same Aborted Aborted queued queued' count count' h k few few' e =
    let low : 32 < 48 = omega arith in
    let one = field (codes " abort ") queued queued' (codes " of " ++ decimal count) (codes " of " ++ decimal count') (omega (arith, h)) (omega (arith, k)) low low
    (sym (four-apart (codes " abort ") (decimal queued) (codes " of ") (decimal count)) ∙ e ∙ four-apart (codes " abort ") (decimal queued') (codes " of ") (decimal count')) in
    record { same = refl; as_queued = λ is. one.0 }

same-queued : (fate : Fate) (queued queued' : ℕ) (notes : List Note) → IsReadQueued fate queued (length notes) → IsReadQueued fate queued' (length notes) → (fate ≡ Aborted → queued ≡ queued') → queued ≡ queued'
same-queued Committed queued queued' notes h k as_queued = h ∙ sym k
same-queued Aborted queued queued' notes h k as_queued = as_queued refl

-- where the lines of two transactions begin the same lines, and no notification follows, the two are the same, and so is what follows
pub entry-same : (sections : List Section) (x : ℕ) (tx other : Tx) (rest more : List (List ℕ)) → IsReadTx sections tx → IsReadTx sections other → first_sign rest ≢ 1 → first_sign more ≢ 1 → entry_lines x tx ++ rest ≡ entry_lines x other ++ more
    → (tx ≡ other) × (rest ≡ more)
entry-same sections x tx other rest more h k a b e =
    let fate : List ℕ = fate_text tx.fate tx.queued (length tx.notes) in
    let fate' : List ℕ = fate_text other.fate other.queued (length other.notes) in
    let lines = cons-same (codes "xid " ++ decimal x ++ codes " session " ++ decimal tx.session ++ fate) (codes "xid " ++ decimal x ++ codes " session " ++ decimal other.session ++ fate') (map note_line tx.notes ++ rest) (map note_line other.notes ++ more) e in
    let behind : codes " session " ++ (decimal tx.session ++ fate) ≡ codes " session " ++ (decimal other.session ++ fate') =
    append_cancel_left (decimal x) (codes " session " ++ (decimal tx.session ++ fate)) (codes " session " ++ (decimal other.session ++ fate'))
    (append_cancel_left (codes "xid ") (decimal x ++ (codes " session " ++ (decimal tx.session ++ fate))) (decimal x ++ (codes " session " ++ (decimal other.session ++ fate')))
    (sym (five-apart (codes "xid ") (decimal x) (codes " session ") (decimal tx.session) fate) ∙ lines.0 ∙ five-apart (codes "xid ") (decimal x) (codes " session ") (decimal other.session) fate')) in
    let sessions = field (codes " session ") tx.session other.session fate fate' (omega (arith, h.session.1)) (omega (arith, k.session.1)) (fate-ends tx.fate tx.queued (length tx.notes)) (fate-ends other.fate other.queued (length other.notes)) behind in
    let f = fates-same tx.fate other.fate tx.queued other.queued (length tx.notes) (length other.notes) h.queueing k.queueing h.few k.few sessions.1 in
    let notes = rows-same note_line IsLineNote 1 note-sign note-same tx.notes other.notes rest more h.notes k.notes a b lines.1 in
    let same_fate : IsReadQueued tx.fate other.queued (length other.notes) = subst (λ (g : Fate). IsReadQueued g other.queued (length other.notes)) (sym f.same) k.queueing in
    let queueing : IsReadQueued tx.fate other.queued (length tx.notes) = subst (λ (ns : List Note). IsReadQueued tx.fate other.queued (length ns)) (sym notes.0) same_fate in
    (same-tx tx other sessions.0 (h.database ∙ ap (λ (n : ℕ). database_of sections n) sessions.0 ∙ sym k.database) notes.0 (same-queued tx.fate tx.queued other.queued tx.notes h.queueing queueing f.as_queued) f.same, notes.1)

-- so are the transactions of two journals
pub entries-same : (sections : List Section) (x : ℕ) (txs others : List Tx) (rest more : List (List ℕ)) → All (IsReadTx sections) txs → All (IsReadTx sections) others → EndsEntries (first_sign rest) → EndsEntries (first_sign more)
    → entries_lines x txs ++ rest ≡ entries_lines x others ++ more → (txs ≡ others) × (rest ≡ more)
entries-same sections x [] [] rest more h k a b e = (refl, e)
entries-same sections x [] (other ∷ others) rest more h k a b e = absurd (a.no_entry (ap first_sign e))
entries-same sections x (tx ∷ txs) [] rest more h k a b e = absurd (b.no_entry (sym (ap first_sign e)))
entries-same sections x (tx ∷ txs) (other ∷ others) rest more h k a b e =
    let behind : List (List ℕ) = entries_lines (x + 1) txs in
    let after : List (List ℕ) = entries_lines (x + 1) others in
    let apart : entry_lines x tx ++ (behind ++ rest) ≡ entry_lines x other ++ (after ++ more) = sym (append_assoc (entry_lines x tx) behind rest) ∙ e ∙ append_assoc (entry_lines x other) after more in
    let one = entry-same sections x tx other (behind ++ rest) (after ++ more) (All-head (IsReadTx sections) tx txs h) (All-head (IsReadTx sections) other others k) (entries-end (x + 1) txs rest a) (entries-end (x + 1) others more b) apart in
    let tail = entries-same sections (x + 1) txs others rest more (All-tail (IsReadTx sections) tx txs h) (All-tail (IsReadTx sections) other others k) a b one.1 in
    let first : tx ≡ other = one.0 in
    let others_too : txs ≡ others = tail.0 in
    (cc, tail.1)

-- the lines of something readable tell it
pub lines-are_one : LinesAreOne
lines-are_one scenario journal other traces others h k e =
    let rest : List (List ℕ) = traces_lines scenario.sections traces in
    let more : List (List ℕ) = traces_lines scenario.sections others in
    let lines = cons-same (codes "journal " ++ decimal (length journal)) (codes "journal " ++ decimal (length other)) (entries_lines FIRST_XID journal ++ rest) (entries_lines FIRST_XID other ++ more) e in
    let entries = entries-same scenario.sections FIRST_XID journal other rest more h.entries k.entries (traces-end scenario.sections traces) (traces-end scenario.sections others) lines.1 in
    (entries.0, traces-same scenario.sections traces others h.each k.each entries.1)

-- The lines of a text.

-- bytes that end with LF are cut alike where a last line may lack it
alike : (bytes rest : List ℕ) → whole_lines rest ≡ lines_of rest → (line : List ℕ) × (lines : List (List ℕ)) × (whole_lines (bytes ++ 10 ∷ rest) ≡ line ∷ lines) × (lines_of (bytes ++ 10 ∷ rest) ≡ line ∷ lines)
alike [] rest h = ([], whole_lines rest, refl, ap (λ (lines : List (List ℕ)). let all : List (List ℕ) = [] ∷ lines in all) (sym h))
alike (b ∷ bytes) rest h = let tail = alike bytes rest h in by (b == 10) tail.0 tail.1 _ _ tail.2 tail.3
  where
    by : (t : Bool) (line : List ℕ) (lines xs ys : List (List ℕ)) → xs ≡ line ∷ lines → ys ≡ line ∷ lines
        → (line' : List ℕ) × (lines' : List (List ℕ)) × (cond t ([] ∷ xs) (onto_line b xs) ≡ line' ∷ lines') × (cond t ([] ∷ ys) (onto_first b ys) ≡ line' ∷ lines')
    by true line lines xs ys e k = ([], line ∷ lines, ap (λ (zs : List (List ℕ)). let all : List (List ℕ) = [] ∷ zs in all) e, ap (λ (zs : List (List ℕ)). let all : List (List ℕ) = [] ∷ zs in all) k)
    by false line lines xs ys e k = (b ∷ line, lines, ap (λ (zs : List (List ℕ)). onto_line b zs) e, ap (λ (zs : List (List ℕ)). onto_first b zs) k)

cut-alike : (lines : List (List ℕ)) → whole_lines (joined lines) ≡ lines_of (joined lines)
cut-alike [] = refl
cut-alike (line ∷ lines) =
    let both = alike line (joined lines) (cut-alike lines) in
    let apart : joined (line ∷ lines) ≡ line ++ 10 ∷ joined lines = append_assoc line (10 ∷ []) (joined lines) in
    ap whole_lines apart ∙ both.2 ∙ sym both.3 ∙ sym (ap lines_of apart)

-- no LF stands in what is readable
one-line_item : (item : Item) → IsReadItem item → IsOneLineItem item
one-line_item (Refuse (NoSavepoint name)) h = h.one_line
one-line_item (Channels names) h = λ k d lt. (h.1 k d lt).one_line
one-line_item (Read from to got) h = λ k d lt. (h.2 k d lt).note.one_line
one-line_item item h = tt

one-line_traces : (sections : List Section) (traces : List Trace) → EachSection IsReadTrace sections traces → All (λ trace. All IsOneLineItem trace.items) traces
one-line_traces [] [] h = All-nil (λ trace. All IsOneLineItem trace.items)
one-line_traces [] (trace ∷ traces) h = absurd h
one-line_traces (section ∷ sections) [] h = absurd h
one-line_traces (section ∷ sections) (trace ∷ traces) h =
    All-cons (λ (t : Trace). All IsOneLineItem t.items) trace traces (λ k d lt. one-line_item (get_or trace.items k d) (h.0.items k d lt)) (one-line_traces sections traces h.1)

-- the text of something readable has its lines between its LFs
pub readable-has_lines : ReadableHasLines
readable-has_lines scenario journal traces sound h =
    cut-alike (text_lines scenario journal traces)
    ∙ text-has_lines scenario journal traces sound (λ k d lt j note within. ((h.entries k d lt).notes j note within).one_line) (one-line_traces scenario.sections traces h.each)

-- the text of something readable tells it
pub readable-is_one : ReadableIsOne
readable-is_one scenario journal other traces others sound h k e =
    lines-are_one scenario journal other traces others h k (sym (readable-has_lines scenario journal traces sound h) ∙ ap whole_lines e ∙ readable-has_lines scenario other others sound k)
