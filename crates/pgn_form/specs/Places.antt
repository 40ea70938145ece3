-- Where a reader of an output stands, and where a line takes it.
use Rattle.std.specs.Prelude.{◌≡◌, ℕ, ◌+◌, ◌-◌, ◌^◌, ◌<◌, ◌≤◌, ◌==◌, cond, List, [], ◌∷◌, ◌++◌, length, Option, Some, None, codes, slice_get, bytes_eq}
use Rattle.pgn_base.specs.declared.limits.TheConstants.{FIRST_XID}
use Rattle.pgn_language.specs.declared.scenario.ScriptLine.{ScriptLine}
use Rattle.pgn_language.specs.declared.scenario.Section.{Section}
use Rattle.pgn_language.specs.declared.scenario.Scenario.{Scenario}
use Rattle.pgn_model.specs.Text.{section_line}
use Rattle.pgn_lines.specs.Shown.{Shows}
use Rattle.pgn_lines.specs.declared.shown.Shown.{Shown}
use Rattle.pgn_lines.specs.declared.shown.Shown.TheVariants.{Journal, Committed, Aborted, Sent, Enlist, Publish, QueueFull, Leave, Warn, Tagged, Refuse, Channel, Measured, Pages, Raise, Found, TimedOut, Received, End}
use Rattle.pgn_lines.specs.declared.shown.Shown.TheVariants as show
use Rattle.pgn_form.specs.declared.place.Place.{Place}
use Rattle.pgn_form.specs.declared.place.Place.TheVariants.{Start, Entries, Notes, Sections, Inside}
use Rattle.pgn_form.specs.declared.place.Within.{Within}
use Rattle.pgn_form.specs.declared.place.Within.TheVariants.{Free, Warned, Measuring, Receiving}

-- so many entries are left: the sections follow the last
abbrev pub entries_from : ℕ → ℕ → Place
entries_from left next = cond (left == 0) (Sections 0) (Entries left next)

-- so many notifications of an entry are left: the next entry follows the last
abbrev pub notes_from : ℕ → ℕ → ℕ → Place
notes_from notes left next = cond (notes == 0) (entries_from left next) (Notes notes left next)

-- the first line of the entry that is numbered `next`, the first of `left`
abbrev pub entry_from : ℕ → ℕ → ℕ → ℕ → Option Place
entry_from left next xid notes = cond (xid == next) (Some (notes_from notes (left - 1) (next + 1))) None

-- where nothing has to go on
abbrev pub free_from : ℕ → ℕ → Shown → Option Place
free_from section begun (Enlist base point) = Some (Inside section begun Free)
free_from section begun (Publish xid) = Some (Inside section begun Free)
free_from section begun (QueueFull full) = Some (Inside section begun Free)
free_from section begun Leave = Some (Inside section begun Free)
free_from section begun (Warn warning) = Some (Inside section begun Warned)
free_from section begun (Tagged done) = Some (Inside section begun Free)
free_from section begun (Refuse refusal) = Some (Inside section begun Free)
free_from section begun (Channel name) = Some (Inside section begun Free)
free_from section begun (Measured at floor holder) = Some (Inside section begun Measuring)
free_from section begun (Raise value) = Some (Inside section begun Free)
free_from section begun (Found value) = Some (Inside section begun Free)
free_from section begun (TimedOut looks) = Some (Inside section begun Free)
free_from section begun (show.Read from to) = Some (Inside section begun Receiving)
free_from section begun (End mark) = Some (Sections (section + 1))
free_from section begun shown = None

-- where something goes on, or may
abbrev pub within_from : ℕ → ℕ → Within → Shown → Option Place
within_from section begun Free shown = free_from section begun shown
within_from section begun Receiving (Received delivery) = Some (Inside section begun Receiving)
within_from section begun Receiving shown = free_from section begun shown
within_from section begun Warned (Tagged done) = Some (Inside section begun Free)
within_from section begun Warned shown = None
within_from section begun Measuring (Pages occupied limit) = Some (Inside section begun Free)
within_from section begun Measuring shown = None

-- where a line leads by what it shows, if it may stand there
abbrev pub moved : Place → Shown → Option Place
moved Start (Journal entries) = Some (entries_from entries FIRST_XID)
moved Start shown = None
moved (Entries left next) (Committed xid session notes) = entry_from left next xid notes
moved (Entries left next) (Aborted xid session queued notes) = entry_from left next xid notes
moved (Entries left next) shown = None
moved (Notes notes left next) (Sent note) = Some (notes_from (notes - 1) left next)
moved (Notes notes left next) shown = None
moved (Sections section) shown = None
moved (Inside section begun within) shown = within_from section begun within shown

-- the head of the section numbered n from 0, if it is there
abbrev pub opened : ℕ → List ℕ → Option Section → Option Place
opened n line None = None
opened n line (Some section) = cond (bytes_eq (section_line section) line) (Some (Inside n 0 Free)) None

-- the script line of that section, if it is there
abbrev pub went_on : ℕ → ℕ → List ℕ → Option ScriptLine → Option Place
went_on n begun line None = None
went_on n begun line (Some script) = cond (bytes_eq (codes "> " ++ script.text) line) (Some (Inside n (begun + 1) Free)) None

abbrev pub script_at : ℕ → Option Section → Option ScriptLine
script_at begun None = None
script_at begun (Some section) = slice_get section.lines begun

-- where a line leads that is known beforehand: the head of the next section, or the next line of a script
abbrev pub told : Scenario → Place → List ℕ → Option Place
told scenario (Sections section) line = opened section line (slice_get scenario.sections section)
told scenario (Inside section begun Free) line = went_on section begun line (script_at begun (slice_get scenario.sections section))
told scenario (Inside section begun Receiving) line = went_on section begun line (script_at begun (slice_get scenario.sections section))
told scenario place line = None

-- a line leads from a place to the next: since it is known beforehand, or else by what it shows
pub data IsStep (scenario : Scenario) (place : Place) (line : List ℕ) (next : Place) : Type 0 where
  Known : told scenario place line ≡ Some next → IsStep scenario place line next
  Showing : told scenario place line ≡ None → (shown : Shown) → Shows line shown → moved place shown ≡ Some next → IsStep scenario place line next

-- lines lead from a place to another
abbrev pub Lead : Scenario → Place → List (List ℕ) → Place → Type 0
Lead scenario place [] last = place ≡ last
Lead scenario place (line ∷ lines) last = (next : Place) × IsStep scenario place line next × Lead scenario next lines last

-- behind the last section
abbrev pub Ended : Scenario → Place
Ended scenario = Sections (length scenario.sections)

-- the numbers of a place are within their types
abbrev pub Fits : Place → Type 0
Fits (Entries left next) = (1 ≤ left) × (left + next < 2 ^ 32)
Fits (Notes notes left next) = (1 ≤ notes) × (left + next < 2 ^ 32)
Fits (Sections section) = Unit {0}
Fits (Inside section begun within) = section < 2 ^ 32
Fits place = Unit {0}
