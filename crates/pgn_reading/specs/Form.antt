-- What an output text has to be for it to be read: the form of an output, and the first line that breaks it.
use Rattle.std.specs.Prelude.{◌≡◌, ◌≢◌, ℕ, ◌+◌, ◌^◌, ◌<◌, ◌≤◌, ◌==◌, Bool, true, false, cond, ◌&&◌, List, [], ◌∷◌, ◌++◌, length, drop, IfSome, All}
use Rattle.pgn_base.specs.declared.limits.TheConstants.{FIRST_XID, SECTIONS_MAX}
use Rattle.pgn_base.specs.declared.note.Note.{Note}
use Rattle.pgn_base.specs.declared.note.Delivery.{Delivery}
use Rattle.pgn_base.specs.declared.answers.Tag.{Tag}
use Rattle.pgn_base.specs.declared.answers.Tag.TheVariants as tag
use Rattle.pgn_base.specs.declared.answers.Refusal.{Refusal}
use Rattle.pgn_base.specs.declared.answers.Refusal.TheVariants.{Syntax, NoSavepoint}
use Rattle.pgn_base.specs.declared.queue_answers.Full.{Full}
use Rattle.pgn_base.specs.declared.queue_answers.Usage.{Usage}
use Rattle.pgn_base.specs.Texts.{IsName}
use Rattle.pgn_base.specs.Notes.{IsNote}
use Rattle.pgn_journal.specs.declared.tx.Tx.{Tx}
use Rattle.pgn_journal.specs.declared.tx.Fate.{Fate}
use Rattle.pgn_journal.specs.declared.tx.Fate.TheVariants.{Committed, Aborted}
use Rattle.pgn_journal.specs.Journal.{next_xid}
use Rattle.pgn_language.specs.declared.scenario.ScriptLine.{ScriptLine}
use Rattle.pgn_language.specs.declared.scenario.Section.{Section}
use Rattle.pgn_language.specs.declared.scenario.Scenario.{Scenario}
use Rattle.pgn_language.specs.Inputs.{IsOneLine}
use Rattle.pgn_model.specs.declared.item.Item.{Item}
use Rattle.pgn_model.specs.declared.item.Item.TheVariants.{Line, Enlist, Publish, QueueFull, Leave, Reply, Refuse, Channels, Used, Raise, Found, TimedOut, Read}
use Rattle.pgn_model.specs.declared.trace.Trace.{Trace}
use Rattle.pgn_model.specs.Along.{Along}
use Rattle.pgn_model.specs.Walk.{IsNext}
use Rattle.pgn_model.specs.Text.{text, text_lines}
use Rattle.pgn_model.specs.laws.Text.{IsOneLineNote}

-- The lines of a text.

-- a byte at the start of the first of these lines, if there is one
abbrev pub onto_line : ℕ → List (List ℕ) → List (List ℕ)
onto_line byte [] = []
onto_line byte (line ∷ lines) = (byte ∷ line) ∷ lines

-- the lines of a text that have their LF: a last line without it is not among them
abbrev pub whole_lines : List ℕ → List (List ℕ)
whole_lines [] = []
whole_lines (byte ∷ bytes) = cond (byte == 10) ([] ∷ whole_lines bytes) (onto_line byte (whole_lines bytes))

-- What the fields of a line hold.

-- a transaction number, a mark or a bound
abbrev pub IsXid : ℕ → Type 0
IsXid n = (FIRST_XID ≤ n) × (n < 2 ^ 32)

-- the number of a session
abbrev pub IsSession : ℕ → Type 0
IsSession n = (1 ≤ n) × (n ≤ SECTIONS_MAX)

-- a name that stands in one line
pub record IsLineName (bytes : List ℕ) : Type 0 where
  pub text : IsName bytes
  pub one_line : IsOneLine bytes

-- a notification that stands in one line
pub record IsLineNote (sent : Note) : Type 0 where
  pub note : IsNote sent
  pub one_line : IsOneLineNote sent

-- a notification that was received, in one line
pub record IsLineDelivery (delivery : Delivery) : Type 0 where
  pub xid : IsXid delivery.xid
  pub pid : delivery.pid < 2 ^ 32
  pub note : IsLineNote delivery.note

-- a tag's number of rows
abbrev pub IsLineTag : Tag → Type 0
IsLineTag (tag.Select rows) = rows < 2 ^ 32
IsLineTag other = Unit {0}

-- a refusal's place in the line, or its savepoint
abbrev pub IsLineRefusal : Refusal → Type 0
IsLineRefusal (Syntax at) = at < 2 ^ 32
IsLineRefusal (NoSavepoint name) = IsLineName name
IsLineRefusal refusal = Unit {0}

-- why the queue was full
pub record IsLineFull (full : Full) : Type 0 where
  pub xid : IsXid full.xid
  pub queued : full.queued < 2 ^ 32
  pub head_page : full.head_page < 2 ^ 64
  pub floor_mark : IsXid full.floor_mark
  pub floor_page : full.floor_page < 2 ^ 64
  pub holder : IfSome full.holder IsSession

-- the queue's usage
pub record IsLineUsage (usage : Usage) : Type 0 where
  pub at : IsXid usage.at
  pub occupied : usage.occupied < 2 ^ 64
  pub limit : usage.limit < 2 ^ 32
  pub floor_mark : IsXid usage.floor_mark
  pub holder : IfSome usage.holder IsSession

-- The items of a trace.

-- an item as its lines show it: of a commit no notifications, and not the rows of no channel
abbrev pub IsReadItem : Item → Type 0
IsReadItem (Line n) = Unit {0}
IsReadItem (Enlist base point) = IsXid base × IsXid point
IsReadItem (Publish xid notes) = IsXid xid × (notes ≡ [])
IsReadItem (QueueFull full notes) = IsLineFull full × (notes ≡ [])
IsReadItem Leave = Unit {0}
IsReadItem (Reply done warning) = IsLineTag done
IsReadItem (Refuse refusal) = IsLineRefusal refusal
IsReadItem (Channels names) = (names ≢ []) × All IsLineName names
IsReadItem (Used usage) = IsLineUsage usage
IsReadItem (Raise value) = IsXid value
IsReadItem (Found value) = IsXid value
IsReadItem (TimedOut looks) = looks < 2 ^ 64
IsReadItem (Read from to got) = IsXid from × IsXid to × All IsLineDelivery got

-- the rows of channels
abbrev pub is_rows : Item → Bool
is_rows (Channels names) = true
is_rows item = false

-- rows of channels come first
abbrev pub begins_rows : List Item → Bool
begins_rows [] = false
begins_rows (item ∷ items) = is_rows item

-- rows of channels one after another are one item
abbrev pub AreApart : List Item → Type 0
AreApart [] = Unit {0}
AreApart (item ∷ items) = (is_rows item && begins_rows items ≡ false) × AreApart items

-- the script lines that are left after an item
abbrev pub lines_left : List ScriptLine → Item → List ScriptLine
lines_left lines (Line n) = drop 1 lines
lines_left lines item = lines

-- a script line that begins is the next
abbrev pub IsNextLine : List ScriptLine → Item → Type 0
IsNextLine lines (Line n) = IsNext n lines
IsNextLine lines item = Unit {0}

-- a trace as the lines of its section show it
pub record IsReadTrace (section : Section) (trace : Trace) : Type 0 where
  pub session : trace.session ≡ section.no
  pub database : trace.db ≡ section.db
  -- each script line that begins is the next of the section
  pub in_order : Along lines_left IsNextLine section.lines trace.items
  pub items : All IsReadItem trace.items
  pub apart : AreApart trace.items
  pub last : IfSome trace.last IsXid

-- The journal.

-- the database of the section with this number; where there is none it is 1, since a transaction has some database
abbrev pub database_of : List Section → ℕ → ℕ
database_of [] session = 1
database_of (section ∷ sections) session = cond (section.no == session) section.db (database_of sections session)

-- how many were queued, as a transaction's line shows it: of a committed one all
abbrev pub IsReadQueued : Fate → ℕ → ℕ → Type 0
IsReadQueued Committed queued count = queued ≡ count
IsReadQueued Aborted queued count = queued < 2 ^ 32

-- a transaction as its lines show it
pub record IsReadTx (sections : List Section) (tx : Tx) : Type 0 where
  pub session : IsSession tx.session
  pub database : tx.db ≡ database_of sections tx.session
  pub queueing : IsReadQueued tx.fate tx.queued (length tx.notes)
  pub few : length tx.notes < 2 ^ 32
  pub notes : All IsLineNote tx.notes

-- The output.

-- there is one trace for each section, in order, and P holds of each
abbrev pub EachSection : (Section → Trace → Type 0) → List Section → List Trace → Type 0
EachSection P [] [] = Unit {0}
EachSection P (section ∷ sections) (trace ∷ traces) = P section trace × EachSection P sections traces
EachSection P sections traces = ⊥

-- a journal and traces as the lines of an output of this scenario show them
pub record IsReadable (scenario : Scenario) (journal : List Tx) (traces : List Trace) : Type 0 where
  pub few : next_xid journal < 2 ^ 32
  pub entries : All (IsReadTx scenario.sections) journal
  pub each : EachSection IsReadTrace scenario.sections traces

-- a text is read as a journal and traces
pub record IsReading (scenario : Scenario) (out : List ℕ) (journal : List Tx) (traces : List Trace) : Type 0 where
  pub readable : IsReadable scenario journal traces
  pub shown : text scenario journal traces ≡ out

-- these lines begin some output of the scenario
pub record BeginOutput (scenario : Scenario) (lines : List (List ℕ)) : Type 0 where
  pub journal : List Tx
  pub traces : List Trace
  pub rest : List (List ℕ)
  pub readable : IsReadable scenario journal traces
  pub goes_on : text_lines scenario journal traces ≡ lines ++ rest

-- a text is no output, and this is the first line at which it goes wrong
pub data BreaksForm (scenario : Scenario) (out : List ℕ) : ℕ → Type 0 where
  -- the lines before it begin some output, and with it none
  Broken : (before rest : List (List ℕ)) → (line : List ℕ) → whole_lines out ≡ before ++ line ∷ rest → BeginOutput scenario before
      → (BeginOutput scenario (before ++ line ∷ []) → ⊥) → BreaksForm scenario out (length before + 1)
  -- all lines that have their LF begin some output, and the text is none: a line is missing, or the last has no LF
  Short : BeginOutput scenario (whole_lines out) → ((journal : List Tx) (traces : List Trace) → IsReading scenario out journal traces → ⊥)
      → BreaksForm scenario out (length (whole_lines out) + 1)
