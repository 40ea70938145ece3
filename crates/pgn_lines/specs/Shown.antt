-- What a line of an output shows: its text, and what holds of it by its types.
use Rattle.std.specs.Prelude.{◌≡◌, ℕ, ◌+◌, ◌^◌, ◌<◌, ◌≤◌, List, ◌++◌, Option, MatchOption, IfSome, codes, decimal}
use Rattle.pgn_base.specs.declared.limits.TheConstants.{FIRST_XID, SECTIONS_MAX}
use Rattle.pgn_base.specs.declared.answers.Tag.{Tag}
use Rattle.pgn_base.specs.declared.answers.Tag.TheVariants as tag
use Rattle.pgn_base.specs.declared.answers.Refusal.{Refusal}
use Rattle.pgn_base.specs.declared.answers.Refusal.TheVariants as refused
use Rattle.pgn_base.specs.declared.queue_answers.Full.{Full}
use Rattle.pgn_base.specs.Notes.{IsNote}
use Rattle.pgn_base.specs.Texts.{IsName}
use Rattle.pgn_journal.specs.declared.tx.Fate.TheVariants as fate
use Rattle.pgn_answers.specs.Refusals.{refusal_text, tag_text, warning_text}
use Rattle.pgn_model.specs.Text.{channel_line, delivery_line, end_line, fate_text, full_line, holder_text, note_line}
use Rattle.pgn_lines.specs.declared.shown.Shown.{Shown}
use Rattle.pgn_lines.specs.declared.shown.Shown.TheVariants.{Journal, Committed, Aborted, Sent, Enlist, Publish, QueueFull, Leave, Warn, Tagged, Refuse, Channel, Measured, Pages, Raise, Found, TimedOut, Read, Received, End}

-- the line that shows it
abbrev pub shown_text : Shown → List ℕ
shown_text (Journal entries) = codes "journal " ++ decimal entries
shown_text (Committed xid session notes) = codes "xid " ++ decimal xid ++ codes " session " ++ decimal session ++ fate_text fate.Committed 0 notes
shown_text (Aborted xid session queued notes) = codes "xid " ++ decimal xid ++ codes " session " ++ decimal session ++ fate_text fate.Aborted queued notes
shown_text (Sent note) = note_line note
shown_text (Enlist base point) = codes "+enlist " ++ decimal base ++ codes " " ++ decimal point
shown_text (Publish xid) = codes "+publish " ++ decimal xid
shown_text (QueueFull full) = full_line full
shown_text Leave = codes "+leave"
shown_text (Warn warning) = codes "WARNING: " ++ warning_text warning
shown_text (Tagged done) = tag_text done
shown_text (Refuse refusal) = codes "ERROR: " ++ refusal_text refusal
shown_text (Channel name) = channel_line name
shown_text (Measured at floor_mark holder) = codes "+usage " ++ decimal at ++ codes " floor " ++ decimal floor_mark ++ codes " holder " ++ holder_text holder
shown_text (Pages occupied limit) = codes "  " ++ decimal occupied ++ codes "/" ++ decimal limit
shown_text (Raise value) = codes "+signal " ++ decimal value
shown_text (Found value) = codes "+await " ++ decimal value
shown_text (TimedOut looks) = codes "+timeout " ++ decimal looks
shown_text (Read from to) = codes "+read " ++ decimal from ++ codes " " ++ decimal to
shown_text (Received delivery) = delivery_line delivery
shown_text (End mark) = end_line mark

-- a transaction number
abbrev pub IsXid : ℕ → Type 0
IsXid n = (FIRST_XID ≤ n) × (n < 2 ^ 32)

-- a session's number
abbrev pub IsSession : ℕ → Type 0
IsSession n = (1 ≤ n) × (n ≤ SECTIONS_MAX)

-- a number of 32 bits, and one of 64
abbrev pub IsShort : ℕ → Type 0
IsShort n = n < 2 ^ 32

abbrev pub IsLong : ℕ → Type 0
IsLong n = n < 2 ^ 64

-- the numbers of a full queue
abbrev pub IsFull : Full → Type 0
IsFull full = IsXid full.xid × IsShort full.queued × IsLong full.head_page × IsXid full.floor_mark × IsLong full.floor_page × IfSome full.holder IsSession

-- how many rows a tag may show
abbrev pub IsTag : Tag → Type 0
IsTag (tag.Select rows) = IsShort rows
IsTag done = Unit {0}

-- where a refused line went wrong, or the savepoint that it names
abbrev pub IsRefusal : Refusal → Type 0
IsRefusal (refused.Syntax at) = IsShort at
IsRefusal (refused.NoSavepoint name) = IsName name
IsRefusal refusal = Unit {0}

-- a refusal that names no savepoint
abbrev pub NamesNoSavepoint : Refusal → Type 0
NamesNoSavepoint (refused.NoSavepoint name) = ⊥
NamesNoSavepoint refusal = Unit {0}

-- its numbers, names and notifications are such as their types hold; the numbers of all entries of a journal are transaction numbers
abbrev pub IsHeld : Shown → Type 0
IsHeld (Journal entries) = IsShort (FIRST_XID + entries)
IsHeld (Committed xid session notes) = IsXid xid × IsSession session × IsShort notes
IsHeld (Aborted xid session queued notes) = IsXid xid × IsSession session × IsShort queued × IsShort notes
IsHeld (Sent note) = IsNote note
IsHeld (Enlist base point) = IsXid base × IsXid point
IsHeld (Publish xid) = IsXid xid
IsHeld (QueueFull full) = IsFull full
IsHeld Leave = Unit {0}
IsHeld (Warn warning) = Unit {0}
IsHeld (Tagged done) = IsTag done
IsHeld (Refuse refusal) = IsRefusal refusal
IsHeld (Channel name) = IsName name
IsHeld (Measured at floor_mark holder) = IsXid at × IsXid floor_mark × IfSome holder IsSession
IsHeld (Pages occupied limit) = IsLong occupied × IsShort limit
IsHeld (Raise value) = IsXid value
IsHeld (Found value) = IsXid value
IsHeld (TimedOut looks) = IsLong looks
IsHeld (Read from to) = IsXid from × IsXid to
IsHeld (Received delivery) = IsXid delivery.xid × IsShort delivery.pid × IsNote delivery.note
IsHeld (End mark) = IfSome mark IsXid

-- a line shows this
abbrev pub Shows : List ℕ → Shown → Type 0
Shows line shown = IsHeld shown × (shown_text shown ≡ line)

-- a line does not show this
abbrev pub Unshown : List ℕ → Shown → Type 0
Unshown line shown = IsHeld shown → shown_text shown ≡ line → ⊥

-- what a line shows is read, and nothing exactly where it shows nothing
abbrev pub Reads : List ℕ → Option Shown → Type 0
Reads line read = MatchOption read ((shown : Shown) → Unshown line shown) (Shows line)

-- The families of lines.

-- which part of an output a line belongs to, or what it tells of
pub data Family : Type 0 where
  Entries : Family
  Events : Family
  Answers : Family
  Rows : Family

-- the head of a journal and the first lines of its entries; what a session did; what it was answered, and the last line of its
-- section; rows, which belong to the line before them
abbrev pub family_of : Shown → Family
family_of (Journal entries) = Entries
family_of (Committed xid session notes) = Entries
family_of (Aborted xid session queued notes) = Entries
family_of (Sent note) = Rows
family_of (Enlist base point) = Events
family_of (Publish xid) = Events
family_of (QueueFull full) = Events
family_of Leave = Events
family_of (Warn warning) = Answers
family_of (Tagged done) = Answers
family_of (Refuse refusal) = Answers
family_of (Channel name) = Rows
family_of (Measured at floor_mark holder) = Events
family_of (Pages occupied limit) = Rows
family_of (Raise value) = Events
family_of (Found value) = Events
family_of (TimedOut looks) = Events
family_of (Read from to) = Events
family_of (Received delivery) = Rows
family_of (End mark) = Answers

-- a line shows nothing of a family
abbrev pub ShowsNo : Family → List ℕ → Type 0
ShowsNo family line = (shown : Shown) → family_of shown ≡ family → Unshown line shown

-- what a line shows is read, and nothing only where it shows nothing of a family
abbrev pub ReadsOf : Family → List ℕ → Option Shown → Type 0
ReadsOf family line read = MatchOption read (ShowsNo family line) (Shows line)

-- a line shows one thing at most
abbrev pub ShownOnce : Type 0
ShownOnce = (line : List ℕ) (a b : Shown) → Shows line a → Shows line b → a ≡ b
