-- What has been read of an output, and what a line adds to it.
use Rattle.std.specs.Prelude.{◌≡◌, ℕ, ◌-◌, ◌==◌, cond, List, [], ◌∷◌, ◌++◌, Option, Some, None, slice_get}
use Rattle.pgn_base.specs.declared.note.Note.{Note}
use Rattle.pgn_base.specs.declared.note.Delivery.{Delivery}
use Rattle.pgn_base.specs.declared.answers.Tag.{Tag}
use Rattle.pgn_journal.specs.declared.tx.Fate.{Fate}
use Rattle.pgn_journal.specs.declared.tx.Fate.TheVariants as fate
use Rattle.pgn_language.specs.declared.scenario.ScriptLine.{ScriptLine}
use Rattle.pgn_language.specs.declared.scenario.Section.{Section}
use Rattle.pgn_language.specs.declared.scenario.Scenario.{Scenario}
use Rattle.pgn_model.specs.declared.item.Item.{Item}
use Rattle.pgn_model.specs.declared.item.Item.TheVariants as item
use Rattle.pgn_reading.specs.Form.{database_of}
use Rattle.pgn_lines.specs.Shown.{Shows}
use Rattle.pgn_lines.specs.declared.shown.Shown.{Shown}
use Rattle.pgn_lines.specs.declared.shown.Shown.TheVariants.{Committed, Aborted, Sent, Enlist, Publish, QueueFull, Leave, Warn, Tagged, Refuse, Channel, Measured, Pages, Raise, Found, TimedOut, Read, Received, End}
use Rattle.pgn_form.specs.declared.place.Place.{Place}
use Rattle.pgn_form.specs.declared.place.Place.TheVariants.{Entries, Notes, Inside}
use Rattle.pgn_form.specs.declared.draft.Draft.{Draft}
use Rattle.pgn_form.specs.declared.draft.Part.{Part}
use Rattle.pgn_form.specs.declared.draft.Part.TheVariants as part
use Rattle.pgn_form.specs.Places.{moved, script_at, told}

-- before the first line
abbrev pub first_draft : Draft
first_draft = record { journal = []; traces = []; items = []; part = part.Nothing }

-- The journal.

-- these notifications of a transaction were read, and so many are left
abbrev pub with_entry : List Section → ℕ → ℕ → ℕ → Fate → List Note → Draft → Draft
with_entry sections left session queued fate notes draft =
    cond (left == 0) (record draft { journal = draft.journal ++ (record { session = session; db = database_of sections session; notes = notes; queued = queued; fate = fate }) ∷ []; part = part.Nothing })
    (record draft { part = part.Entry session queued fate notes })

-- one notification more, and so many are left
abbrev pub noted : List Section → ℕ → Draft → Part → Note → Draft
noted sections left draft (part.Entry session queued fate notes) note = with_entry sections left session queued fate (notes ++ note ∷ []) draft
noted sections left draft other note = draft

-- A section.

-- the item that is whole once something else follows
abbrev pub closed : Part → List Item
closed (part.Rows names) = item.Channels names ∷ []
closed (part.Reads from to got) = item.Read from to got ∷ []
closed other = []

-- something begins
abbrev pub begun : Draft → Part → Draft
begun draft next = record draft { items = draft.items ++ closed draft.part; part = next }

-- an item that stands in one line
abbrev pub with_item : Draft → Item → Draft
with_item draft next = record draft { items = draft.items ++ closed draft.part ++ next ∷ []; part = part.Nothing }

-- the row of a channel
abbrev pub rowed : Draft → Part → List ℕ → Draft
rowed draft (part.Rows names) name = record draft { part = part.Rows (names ++ name ∷ []) }
rowed draft other name = begun draft (part.Rows (name ∷ []))

-- a tag, with the warning before it
abbrev pub tagged : Draft → Part → Tag → Draft
tagged draft (part.Warned warning) tag = with_item draft (item.Reply tag (Some warning))
tagged draft other tag = with_item draft (item.Reply tag None)

-- the pages of a usage
abbrev pub paged : Draft → Part → ℕ → ℕ → Draft
paged draft (part.Measured at floor_mark holder) occupied limit =
    with_item draft (item.Used (record { at = at; occupied = occupied; limit = limit; floor_mark = floor_mark; holder = holder }))
paged draft other occupied limit = draft

-- a notification that was received
abbrev pub received : Draft → Part → Delivery → Draft
received draft (part.Reads from to got) delivery = record draft { part = part.Reads from to (got ++ delivery ∷ []) }
received draft other delivery = draft

-- the section ends
abbrev pub ended : Draft → Option ℕ → Option Section → Draft
ended draft mark None = draft
ended draft mark (Some section) = record {
  journal = draft.journal;
  traces = draft.traces ++ (record { session = section.no; db = section.db; items = draft.items ++ closed draft.part; last = mark }) ∷ [];
  items = [];
  part = part.Nothing;
}

-- what a line of a section shows is added, but for its end
abbrev pub in_section : Draft → Shown → Draft
in_section draft (Enlist base point) = with_item draft (item.Enlist base point)
in_section draft (Publish xid) = with_item draft (item.Publish xid [])
in_section draft (QueueFull full) = with_item draft (item.QueueFull full [])
in_section draft Leave = with_item draft item.Leave
in_section draft (Warn warning) = begun draft (part.Warned warning)
in_section draft (Tagged tag) = tagged draft draft.part tag
in_section draft (Refuse refusal) = with_item draft (item.Refuse refusal)
in_section draft (Channel name) = rowed draft draft.part name
in_section draft (Measured at floor_mark holder) = begun draft (part.Measured at floor_mark holder)
in_section draft (Pages occupied limit) = paged draft draft.part occupied limit
in_section draft (Raise value) = with_item draft (item.Raise value)
in_section draft (Found value) = with_item draft (item.Found value)
in_section draft (TimedOut looks) = with_item draft (item.TimedOut looks)
in_section draft (Read from to) = begun draft (part.Reads from to [])
in_section draft (Received delivery) = received draft draft.part delivery
in_section draft shown = draft

-- or its end
abbrev pub of_section : Option Section → Draft → Shown → Draft
of_section section draft (End mark) = ended draft mark section
of_section section draft shown = in_section draft shown

-- the first line of a transaction is added
abbrev pub entered : Scenario → Draft → Shown → Draft
entered scenario draft (Committed xid session notes) = with_entry scenario.sections notes session notes fate.Committed [] draft
entered scenario draft (Aborted xid session queued notes) = with_entry scenario.sections notes session queued fate.Aborted [] draft
entered scenario draft shown = draft

-- the line of a notification is added, where so many are left with it
abbrev pub noted_of : Scenario → ℕ → Draft → Shown → Draft
noted_of scenario notes draft (Sent note) = noted scenario.sections (notes - 1) draft draft.part note
noted_of scenario notes draft shown = draft

-- what a line shows is added to what has been read up to its place
abbrev pub added : Scenario → Place → Draft → Shown → Draft
added scenario (Entries left next) draft shown = entered scenario draft shown
added scenario (Notes notes left next) draft shown = noted_of scenario notes draft shown
added scenario (Inside section begun within) draft shown = of_section (slice_get scenario.sections section) draft shown
added scenario place draft shown = draft

-- a script line begins
abbrev pub lined : Draft → Option ScriptLine → Draft
lined draft None = draft
lined draft (Some script) = with_item draft (item.Line script.line)

-- a line that is known beforehand is added
abbrev pub known : Scenario → Place → Draft → Draft
known scenario (Inside section begun within) draft = lined draft (script_at begun (slice_get scenario.sections section))
known scenario place draft = draft

-- a line leads from a place to the next, and this is what has been read before it and behind it
pub data IsTaken (scenario : Scenario) (place : Place) (draft : Draft) (line : List ℕ) (next : Place) : Draft → Type 0 where
  Known : told scenario place line ≡ Some next → IsTaken scenario place draft line next (known scenario place draft)
  Showing : told scenario place line ≡ None → (shown : Shown) → Shows line shown → moved place shown ≡ Some next → IsTaken scenario place draft line next (added scenario place draft shown)
