-- The output: its lines, and the text that they are joined to.
use Rattle.std.specs.Prelude.{ℕ, ◌+◌, ◌==◌, cond, List, [], ◌∷◌, ◌++◌, length, map, not, sum_by, count_by, Option, Some, None, codes, decimal, flat_map}
use Rattle.pgn_base.specs.declared.limits.TheConstants.{PID_BASE, FIRST_XID}
use Rattle.pgn_base.specs.declared.note.Note.{Note}
use Rattle.pgn_base.specs.declared.note.Delivery.{Delivery}
use Rattle.pgn_base.specs.declared.queue_answers.Full.{Full}
use Rattle.pgn_base.specs.declared.queue_answers.Usage.{Usage}
use Rattle.pgn_journal.specs.declared.tx.Tx.{Tx}
use Rattle.pgn_journal.specs.declared.tx.Fate.{Fate}
use Rattle.pgn_journal.specs.declared.tx.Fate.TheVariants.{Committed, Aborted}
use Rattle.pgn_language.specs.declared.scenario.ScriptLine.{ScriptLine}
use Rattle.pgn_language.specs.declared.scenario.Section.{Section}
use Rattle.pgn_language.specs.declared.scenario.Scenario.{Scenario}
use Rattle.pgn_model.specs.declared.item.Item.{Item}
use Rattle.pgn_model.specs.declared.item.Item.TheVariants.{Line, Enlist, Publish, QueueFull, Leave, Reply, Refuse, Channels, Used, Raise, Found, TimedOut, Read}
use Rattle.pgn_model.specs.declared.trace.Trace.{Trace}
use Rattle.pgn_journal.specs.Journal.{is_committed}
use Rattle.pgn_answers.specs.Refusals.{refusal_text, tag_text, warning_lines}
use Rattle.pgn_language.specs.Quotes.{quoted}

-- lines joined to a text, each ended by LF
abbrev pub joined : List (List ℕ) → List ℕ
joined lines = flat_map (λ line. line ++ 10 ∷ []) lines

-- a notification: the channel between double quotes, a comma, and the payload between single quotes
abbrev pub note_text : Note → List ℕ
note_text note = quoted 34 note.channel ++ codes ", " ++ quoted 39 note.payload

-- how a transaction ended, and how many of its notifications were queued
abbrev pub fate_text : Fate → ℕ → ℕ → List ℕ
fate_text Committed queued count = codes " commit " ++ decimal count
fate_text Aborted queued count = codes " abort " ++ decimal queued ++ codes " of " ++ decimal count

-- the line of a notification of the journal
abbrev pub note_line : Note → List ℕ
note_line note = codes "  " ++ note_text note

-- the lines of the transaction numbered x
abbrev pub entry_lines : ℕ → Tx → List (List ℕ)
entry_lines x tx = (codes "xid " ++ decimal x ++ codes " session " ++ decimal tx.session ++ fate_text tx.fate tx.queued (length tx.notes)) ∷ map note_line tx.notes

-- the lines of transactions, of which the first is numbered x
abbrev pub entries_lines : ℕ → List Tx → List (List ℕ)
entries_lines x [] = []
entries_lines x (tx ∷ txs) = entry_lines x tx ++ entries_lines (x + 1) txs

-- the lines of the journal
abbrev pub journal_lines : List Tx → List (List ℕ)
journal_lines journal = (codes "journal " ++ decimal (length journal)) ∷ entries_lines FIRST_XID journal

-- the text of the first script line with this number
abbrev pub line_text : ℕ → List ScriptLine → List ℕ
line_text n [] = []
line_text n (line ∷ lines) = cond (line.line == n) line.text (line_text n lines)

-- the line of a notification that was received
abbrev pub delivery_line : Delivery → List ℕ
delivery_line delivery = codes "  " ++ decimal delivery.xid ++ codes " " ++ decimal delivery.pid ++ codes " " ++ note_text delivery.note

-- the session that holds the floor, if one does
abbrev pub holder_text : Option ℕ → List ℕ
holder_text None = codes "none"
holder_text (Some session) = decimal session

-- why the queue was full
abbrev pub full_line : Full → List ℕ
full_line full =
    codes "+full " ++ decimal full.xid ++ codes " queued " ++ decimal full.queued ++ codes " head " ++ decimal full.head_page ++ codes " floor " ++ decimal full.floor_mark
    ++ codes " page " ++ decimal full.floor_page ++ codes " holder " ++ holder_text full.holder

-- where the queue's usage was measured, and the pages that are in use of those that there may be
abbrev pub usage_lines : Usage → List (List ℕ)
usage_lines usage =
    (codes "+usage " ++ decimal usage.at ++ codes " floor " ++ decimal usage.floor_mark ++ codes " holder " ++ holder_text usage.holder)
    ∷ (codes "  " ++ decimal usage.occupied ++ codes "/" ++ decimal usage.limit) ∷ []

-- the row of a channel
abbrev pub channel_line : List ℕ → List ℕ
channel_line name = codes "  " ++ quoted 34 name

-- the lines of an item of a trace of these script lines
abbrev pub item_lines : List ScriptLine → Item → List (List ℕ)
item_lines lines (Line n) = (codes "> " ++ line_text n lines) ∷ []
item_lines lines (Enlist base point) = (codes "+enlist " ++ decimal base ++ codes " " ++ decimal point) ∷ []
item_lines lines (Publish xid notes) = (codes "+publish " ++ decimal xid) ∷ []
item_lines lines (QueueFull full notes) = full_line full ∷ []
item_lines lines Leave = codes "+leave" ∷ []
item_lines lines (Reply tag warning) = warning_lines warning ++ tag_text tag ∷ []
item_lines lines (Refuse refusal) = (codes "ERROR: " ++ refusal_text refusal) ∷ []
item_lines lines (Channels names) = map channel_line names
item_lines lines (Used usage) = usage_lines usage
item_lines lines (Raise value) = (codes "+signal " ++ decimal value) ∷ []
item_lines lines (Found value) = (codes "+await " ++ decimal value) ∷ []
item_lines lines (TimedOut looks) = (codes "+timeout " ++ decimal looks) ∷ []
item_lines lines (Read from to got) = (codes "+read " ++ decimal from ++ codes " " ++ decimal to) ∷ map delivery_line got

-- the last line of a trace, with the mark of a session that still listens
abbrev pub end_line : Option ℕ → List ℕ
end_line None = codes "end"
end_line (Some mark) = codes "end mark " ++ decimal mark

-- a section's head: its number, its name, its database and its process number
abbrev pub section_line : Section → List ℕ
section_line section = codes "session " ++ decimal section.no ++ codes " " ++ section.name ++ codes " db " ++ decimal section.db ++ codes " pid " ++ decimal (PID_BASE + section.no)

-- the lines of a section with its trace
abbrev pub trace_lines : Section → Trace → List (List ℕ)
trace_lines section trace = section_line section ∷ (flat_map (item_lines section.lines) trace.items ++ end_line trace.last ∷ [])

-- the lines of sections with their traces
abbrev pub traces_lines : List Section → List Trace → List (List ℕ)
traces_lines [] traces = []
traces_lines (section ∷ sections) [] = []
traces_lines (section ∷ sections) (trace ∷ traces) = trace_lines section trace ++ traces_lines sections traces

-- the lines of the output of a run
abbrev pub text_lines : Scenario → List Tx → List Trace → List (List ℕ)
text_lines scenario journal traces = journal_lines journal ++ traces_lines scenario.sections traces

-- the output of a run
abbrev pub text : Scenario → List Tx → List Trace → List ℕ
text scenario journal traces = joined (text_lines scenario journal traces)

-- The summary of a drill.

-- how many notifications an item received
abbrev pub received_by : Item → ℕ
received_by (Read from to got) = length got
received_by item = 0

-- how many notifications all traces received
abbrev pub received_in : List Trace → ℕ
received_in traces = sum_by (λ trace. sum_by received_by trace.items) traces

-- the five lines of a drill: its seed, its sessions and the notifications of each; the transactions of its journal, how many of them
-- committed and how many were aborted; and the notifications that were received
abbrev pub brief_lines : ℕ → ℕ → List Tx → List Trace → List (List ℕ)
brief_lines seed notes journal traces =
    (codes "drill seed " ++ decimal seed ++ codes " sessions " ++ decimal (length traces) ++ codes " notes " ++ decimal notes)
    ∷ (codes "journal " ++ decimal (length journal))
    ∷ (codes "committed " ++ decimal (count_by (λ tx. is_committed tx.fate) journal))
    ∷ (codes "aborted " ++ decimal (count_by (λ tx. not (is_committed tx.fate)) journal))
    ∷ (codes "received " ++ decimal (received_in traces)) ∷ []

-- the summary of a drill
abbrev pub brief : ℕ → ℕ → List Tx → List Trace → List ℕ
brief seed notes journal traces = joined (brief_lines seed notes journal traces)
