-- Cut at each LF, the output gives its lines.
use Rattle.std.proofs.Common.{◌≡◌, ℕ, zero, suc, ◌+◌, ◌<◌, ◌/◌, ◌%◌, Bool, true, false, cond, not, ◌||◌, ◌==◌, if◌then◌else◌, nat_lt, inl, inr, List, [], ◌∷◌, ◌++◌, length, map, All, codes, decimal, flat_map, Option, None, Some, ap, sym, ◌∙◌, subst, refl, arith, append_assoc}
use Rattle.std.specs.List.{list_any}
use Rattle.std.specs.Fmt.{digits, digits_onto, digit_glyph}
use Rattle.std.proofs.lemmas.Bool.{cases_Bool, eqb-true}
use Rattle.std.proofs.lemmas.Bool.Decides.{eqb_tells}
use Rattle.std.proofs.lemmas.List.Elements.{All-nil, All-cons, All-head, All-tail, All-append, All-map, All-weaker, Contains-append_right}
use Rattle.pgn_base.specs.declared.limits.TheConstants.{PID_BASE, FIRST_XID}
use Rattle.pgn_base.specs.declared.note.Note.{Note}
use Rattle.pgn_base.specs.declared.note.Delivery.{Delivery}
use Rattle.pgn_base.specs.declared.answers.Tag.{Tag}
use Rattle.pgn_base.specs.declared.answers.Tag.TheVariants as tag
use Rattle.pgn_base.specs.declared.answers.Warning.{Warning}
use Rattle.pgn_base.specs.declared.answers.Warning.TheVariants.{AlreadyInBlock, NotInBlock}
use Rattle.pgn_base.specs.declared.answers.Which.TheVariants.{ChannelEmpty, ChannelTooLong, PayloadTooLong}
use Rattle.pgn_base.specs.declared.answers.Needs.TheVariants as needs
use Rattle.pgn_base.specs.declared.answers.Refusal.{Refusal}
use Rattle.pgn_base.specs.declared.answers.Refusal.TheVariants.{Syntax, Bounds, NeedsBlock, NoSavepoint, Aborted}
use Rattle.pgn_base.specs.declared.answers.Refusal.TheVariants as refused
use Rattle.pgn_base.specs.declared.queue_answers.Full.{Full}
use Rattle.pgn_base.specs.declared.queue_answers.Usage.{Usage}
use Rattle.pgn_journal.specs.declared.tx.Tx.{Tx}
use Rattle.pgn_journal.specs.declared.tx.Fate.{Fate}
use Rattle.pgn_journal.specs.declared.tx.Fate.TheVariants as fate
use Rattle.pgn_language.specs.declared.scenario.ScriptLine.{ScriptLine}
use Rattle.pgn_language.specs.declared.scenario.Section.{Section}
use Rattle.pgn_model.specs.declared.item.Item.{Item}
use Rattle.pgn_model.specs.declared.item.Item.TheVariants.{Line, Enlist, Publish, QueueFull, Leave, Reply, Refuse, Channels, Used, Raise, Found, TimedOut, Read}
use Rattle.pgn_model.specs.declared.trace.Trace.{Trace}
use Rattle.pgn_language.specs.Lines.{lines_of}
use Rattle.pgn_language.specs.Inputs.{IsOneLine, IsSoundSection}
use Rattle.pgn_model.specs.Text.{joined, note_text, note_line, delivery_line, fate_text, entry_lines, entries_lines, journal_lines, line_text, holder_text, full_line, usage_lines, channel_line, item_lines, end_line, section_line, trace_lines, traces_lines, text_lines}
use Rattle.pgn_language.specs.Quotes.{doubled_byte, quoted}
use Rattle.pgn_answers.specs.Refusals.{refusal_text, tag_text, warning_text, warning_lines}
use Rattle.pgn_language.specs.laws.Inputs.{lacks}
use Rattle.pgn_model.specs.laws.Text.{IsOneLineNote, IsOneLineItem, TextHasLines}
use Rattle.pgn_language.proofs.LineLaws.{lines-cut, lacks-parts}

-- no LF stands in the text
abbrev Clean : List ℕ → Type 0
Clean text = lacks 10 text ≡ true

clean_byte : (byte : ℕ) (text : List ℕ) → (byte == 10) ≡ false → Clean text → Clean (byte ∷ text)
clean_byte byte text e h = ap (λ (t : Bool). not (t || list_any (λ b. b == 10) text)) e ∙ h

both : (first second : List ℕ) → Clean first → Clean second → Clean (first ++ second)
both [] second h k = k
both (byte ∷ first) second h k =
    let parts : ((byte == 10) ≡ false) × (lacks 10 first ≡ true) = lacks-parts byte first h in
    clean_byte byte (first ++ second) parts.0 (both first second parts.1 k)

clean : (text : List ℕ) → IsOneLine text → Clean text
clean [] h = refl
clean (byte ∷ text) h = elim (cases_Bool (byte == 10)) [
  | inl e ↦ absurd (h (0, omega arith, eqb-true byte 10 e))
  | inr e ↦ clean_byte byte text e (clean text (λ c. h (Contains-append_right (byte ∷ []) text 10 c)))
]

-- digits are no LF
glyph : (d : ℕ) → (digit_glyph false d == 10) ≡ false
glyph d = elim (cases_Bool (nat_lt d 10)) [
  | inl e ↦ ap (λ (t : Bool). (if t then 48 + d else (if false then 55 + d else 87 + d)) == 10) e ∙ other (48 + d) (omega arith)
  | inr e ↦ ap (λ (t : Bool). (if t then 48 + d else (if false then 55 + d else 87 + d)) == 10) e ∙ other (87 + d) (omega arith)
]
  where
    other : (n : ℕ) → 10 < n → (n == 10) ≡ false
    other n h = elim (eqb_tells n 10) [ inl s ↦ absurd (omega (arith, s.1)) | inr s ↦ s.0 ]

digits_clean : (k n : ℕ) (after : List ℕ) → Clean after → Clean (digits_onto k 10 false n after)
digits_clean zero n after h = h
digits_clean (suc k) n after h =
    let more : Clean (digit_glyph false (n % 10) ∷ after) = clean_byte (digit_glyph false (n % 10)) after (glyph (n % 10)) h in
    elim (cases_Bool (n / 10 == 0)) [
      | inl e ↦ subst (λ (t : Bool). Clean (if t then (digit_glyph false (n % 10) ∷ after) else (digits_onto k 10 false (n / 10) (digit_glyph false (n % 10) ∷ after)))) (sym e) more
      | inr e ↦ subst (λ (t : Bool). Clean (if t then (digit_glyph false (n % 10) ∷ after) else (digits_onto k 10 false (n / 10) (digit_glyph false (n % 10) ∷ after)))) (sym e)
          (digits_clean k (n / 10) (digit_glyph false (n % 10) ∷ after) more)
    ]

number : (n : ℕ) → Clean (decimal n)
unfolding digits
number n = digits_clean 64 n [] refl

-- a start that has no LF and a number
numbered : (start : List ℕ) (n : ℕ) → Clean start → Clean (start ++ decimal n)
numbered start n h = both start (decimal n) h (number n)

-- a text between quotes
doubled : (quote : ℕ) (bytes : List ℕ) → (quote == 10) ≡ false → Clean bytes → Clean (flat_map (doubled_byte quote) bytes)
doubled quote [] q h = refl
doubled quote (byte ∷ bytes) q h =
    let parts : ((byte == 10) ≡ false) × (lacks 10 bytes ≡ true) = lacks-parts byte bytes h in
    both (doubled_byte quote byte) (flat_map (doubled_byte quote) bytes) (one (byte == quote) parts.0) (doubled quote bytes q parts.1)
  where
    one : (same : Bool) → (byte == 10) ≡ false → Clean (cond same (quote ∷ quote ∷ []) (byte ∷ []))
    one true e = clean_byte quote (quote ∷ []) q (clean_byte quote [] q refl)
    one false e = clean_byte byte [] e refl

between : (quote : ℕ) (bytes : List ℕ) → (quote == 10) ≡ false → Clean bytes → Clean (quoted quote bytes)
between quote bytes q h =
    let mark : Clean (quote ∷ []) = clean_byte quote [] q refl in
    both (quote ∷ [] ++ flat_map (doubled_byte quote) bytes) (quote ∷ []) (both (quote ∷ []) (flat_map (doubled_byte quote) bytes) mark (doubled quote bytes q h)) mark

note_clean : (note : Note) → IsOneLineNote note → Clean (note_text note)
note_clean note h =
    both (quoted 34 note.channel ++ codes ", ") (quoted 39 note.payload) (both (quoted 34 note.channel) (codes ", ") (between 34 note.channel refl (clean note.channel h.0)) refl)
    (between 39 note.payload refl (clean note.payload h.1))

fate_clean : (fate : Fate) (queued count : ℕ) → Clean (fate_text fate queued count)
fate_clean fate.Committed queued count = numbered (codes " commit ") count refl
fate_clean fate.Aborted queued count = numbered (codes " abort " ++ decimal queued ++ codes " of ") count (both (codes " abort " ++ decimal queued) (codes " of ") (numbered (codes " abort ") queued refl) refl)

-- the lines of the journal
entry_clean : (x : ℕ) (tx : Tx) → All IsOneLineNote tx.notes → All Clean (entry_lines x tx)
entry_clean x tx h =
    All-cons Clean (codes "xid " ++ decimal x ++ codes " session " ++ decimal tx.session ++ fate_text tx.fate tx.queued (length tx.notes)) (map note_line tx.notes)
    (both (codes "xid " ++ decimal x ++ codes " session " ++ decimal tx.session) (fate_text tx.fate tx.queued (length tx.notes))
    (numbered (codes "xid " ++ decimal x ++ codes " session ") tx.session (both (codes "xid " ++ decimal x) (codes " session ") (numbered (codes "xid ") x refl) refl)) (fate_clean tx.fate tx.queued (length tx.notes)))
    (All-map Clean note_line tx.notes (All-weaker IsOneLineNote (λ note. Clean (note_line note)) (λ note one. both (codes "  ") (note_text note) refl (note_clean note one)) tx.notes h))

entries_clean : (x : ℕ) (txs : List Tx) → All (λ tx. All IsOneLineNote tx.notes) txs → All Clean (entries_lines x txs)
entries_clean x [] h = All-nil Clean
entries_clean x (tx ∷ txs) h =
    All-append Clean (entry_lines x tx) (entries_lines (x + 1) txs) (entry_clean x tx (All-head (λ tx. All IsOneLineNote tx.notes) tx txs h)) (entries_clean (x + 1) txs (All-tail (λ tx. All IsOneLineNote tx.notes) tx txs h))

journal_clean : (journal : List Tx) → All (λ tx. All IsOneLineNote tx.notes) journal → All Clean (journal_lines journal)
journal_clean journal h = All-cons Clean (codes "journal " ++ decimal (length journal)) (entries_lines FIRST_XID journal) (numbered (codes "journal ") (length journal) refl) (entries_clean FIRST_XID journal h)

-- the lines of a trace
line_clean : (n : ℕ) (lines : List ScriptLine) → All (λ line. Clean line.text) lines → Clean (line_text n lines)
line_clean n [] h = refl
line_clean n (line ∷ lines) h = either (line.line == n) line.text (line_text n lines) (All-head (λ line. Clean line.text) line lines h) (line_clean n lines (All-tail (λ line. Clean line.text) line lines h))
  where
    either : (same : Bool) (first rest : List ℕ) → Clean first → Clean rest → Clean (cond same first rest)
    either true first rest f r = f
    either false first rest f r = r

tag_clean : (some : Tag) → Clean (tag_text some)
tag_clean tag.Begin = refl
tag_clean tag.Start = refl
tag_clean tag.Commit = refl
tag_clean tag.Rollback = refl
tag_clean tag.Savepoint = refl
tag_clean tag.Release = refl
tag_clean tag.Listen = refl
tag_clean tag.Unlisten = refl
tag_clean tag.Notify = refl
tag_clean (tag.Select rows) = numbered (codes "SELECT ") rows refl

warning_clean : (warning : Warning) → Clean (warning_text warning)
warning_clean AlreadyInBlock = refl
warning_clean NotInBlock = refl

warnings_clean : (warning : Option Warning) → All Clean (warning_lines warning)
warnings_clean None = All-nil Clean
warnings_clean (Some warning) = All-cons Clean (codes "WARNING: " ++ warning_text warning) [] (both (codes "WARNING: ") (warning_text warning) refl (warning_clean warning)) (All-nil Clean)

two_numbers : (start : List ℕ) (a b : ℕ) → Clean start → Clean (start ++ decimal a ++ codes " " ++ decimal b)
two_numbers start a b h = numbered (start ++ decimal a ++ codes " ") b (both (start ++ decimal a) (codes " ") (numbered start a h) refl)

delivery_clean : (delivery : Delivery) → IsOneLineNote delivery.note → Clean (delivery_line delivery)
delivery_clean delivery h =
    both (codes "  " ++ decimal delivery.xid ++ codes " " ++ decimal delivery.pid ++ codes " ") (note_text delivery.note)
    (both (codes "  " ++ decimal delivery.xid ++ codes " " ++ decimal delivery.pid) (codes " ") (two_numbers (codes "  ") delivery.xid delivery.pid refl) refl) (note_clean delivery.note h)

-- a text, a start that has no LF and a number
then_number : (text start : List ℕ) (n : ℕ) → Clean text → Clean start → Clean (text ++ start ++ decimal n)
then_number text start n h k = numbered (text ++ start) n (both text start h k)

holder_clean : (holder : Option ℕ) → Clean (holder_text holder)
holder_clean None = refl
holder_clean (Some session) = number session

full_clean : (full : Full) → Clean (full_line full)
full_clean full =
    let xid = numbered (codes "+full ") full.xid refl in
    let queued = then_number (codes "+full " ++ decimal full.xid) (codes " queued ") full.queued xid refl in
    let head = then_number (codes "+full " ++ decimal full.xid ++ codes " queued " ++ decimal full.queued) (codes " head ") full.head_page queued refl in
    let numbers : List ℕ = codes "+full " ++ decimal full.xid ++ codes " queued " ++ decimal full.queued ++ codes " head " ++ decimal full.head_page in
    let floor = then_number numbers (codes " floor ") full.floor_mark head refl in
    let page = then_number (numbers ++ codes " floor " ++ decimal full.floor_mark) (codes " page ") full.floor_page floor refl in
    let all : List ℕ = numbers ++ codes " floor " ++ decimal full.floor_mark ++ codes " page " ++ decimal full.floor_page in
    both (all ++ codes " holder ") (holder_text full.holder) (both all (codes " holder ") page refl) (holder_clean full.holder)

usage_clean : (usage : Usage) → All Clean (usage_lines usage)
usage_clean usage =
    let at = numbered (codes "+usage ") usage.at refl in
    let floor = then_number (codes "+usage " ++ decimal usage.at) (codes " floor ") usage.floor_mark at refl in
    let place : List ℕ = codes "+usage " ++ decimal usage.at ++ codes " floor " ++ decimal usage.floor_mark in
    let first = both (place ++ codes " holder ") (holder_text usage.holder) (both place (codes " holder ") floor refl) (holder_clean usage.holder) in
    let second = then_number (codes "  " ++ decimal usage.occupied) (codes "/") usage.limit (numbered (codes "  ") usage.occupied refl) refl in
    All-cons Clean (place ++ codes " holder " ++ holder_text usage.holder) ((codes "  " ++ decimal usage.occupied ++ codes "/" ++ decimal usage.limit) ∷ []) first
    (All-cons Clean (codes "  " ++ decimal usage.occupied ++ codes "/" ++ decimal usage.limit) [] second (All-nil Clean))

-- one line
alone : (line : List ℕ) → Clean line → All Clean (line ∷ [])
alone line h = All-cons Clean line [] h (All-nil Clean)

refusal_clean : (lines : List ScriptLine) (refusal : Refusal) → IsOneLineItem (Refuse refusal) → All Clean (item_lines lines (Refuse refusal))
refusal_clean lines (Syntax at) i = alone (codes "ERROR: " ++ refusal_text (Syntax at)) (numbered (codes "ERROR: 42601: syntax error at byte ") at refl)
refusal_clean lines (Bounds ChannelEmpty) i = alone (codes "ERROR: " ++ refusal_text (Bounds ChannelEmpty)) refl
refusal_clean lines (Bounds ChannelTooLong) i = alone (codes "ERROR: " ++ refusal_text (Bounds ChannelTooLong)) refl
refusal_clean lines (Bounds PayloadTooLong) i = alone (codes "ERROR: " ++ refusal_text (Bounds PayloadTooLong)) refl
refusal_clean lines (NeedsBlock needs.Savepoint) i = alone (codes "ERROR: " ++ refusal_text (NeedsBlock needs.Savepoint)) refl
refusal_clean lines (NeedsBlock needs.RollbackTo) i = alone (codes "ERROR: " ++ refusal_text (NeedsBlock needs.RollbackTo)) refl
refusal_clean lines (NeedsBlock needs.Release) i = alone (codes "ERROR: " ++ refusal_text (NeedsBlock needs.Release)) refl
refusal_clean lines (NoSavepoint name) i =
    alone (codes "ERROR: " ++ refusal_text (NoSavepoint name))
    (both (codes "ERROR: 3B001: savepoint \"") (name ++ codes "\" does not exist") refl (both name (codes "\" does not exist") (clean name i) refl))
refusal_clean lines Aborted i = alone (codes "ERROR: " ++ refusal_text Aborted) refl
refusal_clean lines refused.QueueFull i = alone (codes "ERROR: " ++ refusal_text refused.QueueFull) refl

item_clean : (lines : List ScriptLine) (item : Item) → All (λ line. Clean line.text) lines → IsOneLineItem item → All Clean (item_lines lines item)
item_clean lines (Line n) h i = All-cons Clean (codes "> " ++ line_text n lines) [] (both (codes "> ") (line_text n lines) refl (line_clean n lines h)) (All-nil Clean)
item_clean lines (Enlist base point) h i = All-cons Clean (codes "+enlist " ++ decimal base ++ codes " " ++ decimal point) [] (two_numbers (codes "+enlist ") base point refl) (All-nil Clean)
item_clean lines (Publish xid notes) h i = All-cons Clean (codes "+publish " ++ decimal xid) [] (numbered (codes "+publish ") xid refl) (All-nil Clean)
item_clean lines (Reply some warning) h i = All-append Clean (warning_lines warning) (tag_text some ∷ []) (warnings_clean warning) (All-cons Clean (tag_text some) [] (tag_clean some) (All-nil Clean))
item_clean lines (Read from to got) h i =
    All-cons Clean (codes "+read " ++ decimal from ++ codes " " ++ decimal to) (map delivery_line got) (two_numbers (codes "+read ") from to refl)
    (All-map Clean delivery_line got (All-weaker (λ delivery. IsOneLineNote delivery.note) (λ delivery. Clean (delivery_line delivery)) delivery_clean got i))
item_clean lines (QueueFull full notes) h i = alone (full_line full) (full_clean full)
item_clean lines Leave h i = alone (codes "+leave") refl
item_clean lines (Refuse refusal) h i = refusal_clean lines refusal i
item_clean lines (Channels names) h i =
    All-map Clean channel_line names (All-weaker IsOneLine (λ name. Clean (channel_line name)) (λ name one. both (codes "  ") (quoted 34 name) refl (between 34 name refl (clean name one))) names i)
item_clean lines (Used usage) h i = usage_clean usage
item_clean lines (Raise value) h i = alone (codes "+signal " ++ decimal value) (numbered (codes "+signal ") value refl)
item_clean lines (Found value) h i = alone (codes "+await " ++ decimal value) (numbered (codes "+await ") value refl)
item_clean lines (TimedOut looks) h i = alone (codes "+timeout " ++ decimal looks) (numbered (codes "+timeout ") looks refl)

items_clean : (lines : List ScriptLine) (items : List Item) → All (λ line. Clean line.text) lines → All IsOneLineItem items → All Clean (flat_map (item_lines lines) items)
items_clean lines [] h i = All-nil Clean
items_clean lines (item ∷ items) h i =
    All-append Clean (item_lines lines item) (flat_map (item_lines lines) items) (item_clean lines item h (All-head IsOneLineItem item items i)) (items_clean lines items h (All-tail IsOneLineItem item items i))

end_clean : (last : Option ℕ) → Clean (end_line last)
end_clean None = refl
end_clean (Some mark) = numbered (codes "end mark ") mark refl

section_clean : (section : Section) → Clean section.name → Clean (section_line section)
section_clean section h =
    let named : Clean (codes "session " ++ decimal section.no ++ codes " " ++ section.name)
    = both (codes "session " ++ decimal section.no ++ codes " ") section.name (both (codes "session " ++ decimal section.no) (codes " ") (numbered (codes "session ") section.no refl) refl) h in
    let placed : Clean (codes "session " ++ decimal section.no ++ codes " " ++ section.name ++ codes " db " ++ decimal section.db)
    = numbered (codes "session " ++ decimal section.no ++ codes " " ++ section.name ++ codes " db ") section.db (both (codes "session " ++ decimal section.no ++ codes " " ++ section.name) (codes " db ") named refl) in
    numbered (codes "session " ++ decimal section.no ++ codes " " ++ section.name ++ codes " db " ++ decimal section.db ++ codes " pid ") (PID_BASE + section.no)
    (both (codes "session " ++ decimal section.no ++ codes " " ++ section.name ++ codes " db " ++ decimal section.db) (codes " pid ") placed refl)

trace_clean : (flags : ℕ) (section : Section) (trace : Trace) → IsSoundSection flags section → All IsOneLineItem trace.items → All Clean (trace_lines section trace)
trace_clean flags section trace s i =
    let texts : All (λ line. Clean line.text) section.lines = λ k line h. clean _ (s.one_line_texts k line h).0 in
    All-cons Clean (section_line section) (flat_map (item_lines section.lines) trace.items ++ end_line trace.last ∷ []) (section_clean section (clean section.name s.one_line_name))
    (All-append Clean (flat_map (item_lines section.lines) trace.items) (end_line trace.last ∷ []) (items_clean section.lines trace.items texts i) (All-cons Clean (end_line trace.last) [] (end_clean trace.last) (All-nil Clean)))

traces_clean : (flags : ℕ) (sections : List Section) (traces : List Trace) → All (IsSoundSection flags) sections → All (λ trace. All IsOneLineItem trace.items) traces → All Clean (traces_lines sections traces)
traces_clean flags [] traces s i = All-nil Clean
traces_clean flags (section ∷ sections) [] s i = All-nil Clean
traces_clean flags (section ∷ sections) (trace ∷ traces) s i =
    All-append Clean (trace_lines section trace) (traces_lines sections traces)
    (trace_clean flags section trace (All-head (IsSoundSection flags) section sections s) (All-head (λ trace. All IsOneLineItem trace.items) trace traces i))
    (traces_clean flags sections traces (All-tail (IsSoundSection flags) section sections s) (All-tail (λ trace. All IsOneLineItem trace.items) trace traces i))

-- joined lines, cut at each LF, are the lines
cut : (lines : List (List ℕ)) → All Clean lines → lines_of (joined lines) ≡ lines
cut [] h = refl
cut (line ∷ lines) h =
    ap lines_of (append_assoc line (10 ∷ []) (joined lines)) ∙ lines-cut line (joined lines) (All-head Clean line lines h) ∙ ap (λ (rest : List (List ℕ)). line ∷ rest) (cut lines (All-tail Clean line lines h))

-- the output of a sound scenario has its lines between its LFs
pub text-has_lines : TextHasLines
text-has_lines scenario journal traces sound notes items =
    cut (text_lines scenario journal traces)
    (All-append Clean (journal_lines journal) (traces_lines scenario.sections traces) (journal_clean journal notes) (traces_clean (length scenario.flags) scenario.sections traces sound.sections items))
