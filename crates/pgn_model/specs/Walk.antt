-- The walk over a session's trace: what it carries, what each item does to it, and which item is allowed.
use Rattle.std.specs.Prelude.{◌≡◌, ◌≢◌, ℕ, ◌+◌, ◌<◌, ◌≤◌, ◌⊎◌, max, Bool, true, false, ◌&&◌, List, [], ◌∷◌, ◌++◌, length, Option, Some, None, if◌then◌else◌, is_some, is_none, IfSome, IsSomeAnd, All}
use Rattle.std.specs.List.{list_any}
use Rattle.pgn_base.specs.declared.limits.TheConstants.{FIRST_XID, PAGES_DEFAULT, PATIENCE_DEFAULT}
use Rattle.pgn_base.specs.declared.format.Format.{Format}
use Rattle.pgn_base.specs.declared.format.Format.TheVariants.{One}
use Rattle.pgn_base.specs.declared.note.Note.{Note}
use Rattle.pgn_base.specs.declared.note.Delivery.{Delivery}
use Rattle.pgn_base.specs.declared.answers.Tag.{Tag}
use Rattle.pgn_base.specs.declared.answers.Tag.TheVariants as tag
use Rattle.pgn_base.specs.declared.answers.Warning.{Warning}
use Rattle.pgn_base.specs.declared.answers.Refusal.{Refusal}
use Rattle.pgn_base.specs.declared.answers.Refusal.TheVariants as refused
use Rattle.pgn_base.specs.declared.queue_answers.Full.{Full}
use Rattle.pgn_base.specs.declared.queue_answers.Usage.{Usage}
use Rattle.pgn_base.specs.declared.action.Action.{Action}
use Rattle.pgn_base.specs.Channels.{applied}
use Rattle.pgn_journal.specs.declared.tx.Tx.{Tx}
use Rattle.pgn_journal.specs.declared.tx.Fate.TheVariants.{Committed, Aborted}
use Rattle.pgn_answers.specs.declared.block_state.BlockState.{BlockState}
use Rattle.pgn_answers.specs.declared.block_state.BlockState.TheVariants.{Idle}
use Rattle.pgn_base.specs.declared.command.Command.{Command}
use Rattle.pgn_language.specs.declared.scenario.Act.{Act}
use Rattle.pgn_language.specs.declared.scenario.Act.TheVariants.{Run, Signal, Await, Quit}
use Rattle.pgn_language.specs.declared.scenario.ScriptLine.{ScriptLine}
use Rattle.pgn_language.specs.declared.scenario.Section.{Section}
use Rattle.pgn_model.specs.declared.item.Item.{Item}
use Rattle.pgn_model.specs.declared.item.Item.TheVariants.{Line, Enlist, Publish, QueueFull, Leave, Reply, Refuse, Channels, Used, Raise, Found, TimedOut, Read}
use Rattle.pgn_journal.specs.Journal.{entry, next_xid}
use Rattle.pgn_journal.specs.Due.{due}
use Rattle.pgn_journal.specs.QueueUse.{IsFloorFor, ShowsUsage}
use Rattle.pgn_answers.specs.Savepoints.{Change, live_names, surviving_actions, surviving_notes, firsts, is_listen, changes_of}
use Rattle.pgn_answers.specs.Answers.{Outcome, Commits, Replies, Refuses, Silent, GivesChannels, GivesUsage, answer, next_state, list_after}

-- what the command line sets: the format of the queue's entries, the queue's limit in pages, and how many looks an await takes,
-- made or slept over
pub record Settings : Type 0 where
  pub format : Format
  pub limit : ℕ
  pub patience : ℕ

-- what holds where the command line sets nothing
abbrev pub default_settings : Settings
default_settings = record { format = One; limit = PAGES_DEFAULT; patience = PATIENCE_DEFAULT }

-- what a trace is judged by
pub record Terms : Type 0 where
  pub section : Section
  pub settings : Settings

-- how a line is answered
pub data Ending : Type 0 where
  Replied : (tag : Tag) → (warning : Option Warning) → Ending
  Refused : (refusal : Refusal) → Ending

-- what the current line still has to show
pub data Owed : Type 0 where
  Nothing : Owed
  -- the session becomes a listener, and then as Queueing
  Enlisting : (actions : List Action) → (notes : List Note) → (ending : Ending) → Owed
  -- the notifications are published or meet a full queue, and then the actions take effect
  Queueing : (actions : List Action) → (notes : List Note) → (ending : Ending) → Owed
  -- the session stops being a listener
  Leaving : (ending : Ending) → Owed
  -- the answer
  Answering : (ending : Ending) → Owed
  -- the rows of the channels, and then the answer
  Listing : (names : List (List ℕ)) → (ending : Ending) → Owed
  -- the row of the queue's usage, and then the answer
  Measuring : (ending : Ending) → Owed
  -- the flag is raised
  Raising : (flag : ℕ) → Owed
  -- the flag is found, or the patience is spent
  Awaiting : (flag : ℕ) → Owed
  -- a listener that quits stops being one
  Quitting : Owed
  -- no lawful trace goes on from here
  Barred : Owed

-- what the walk carries
pub record State : Type 0 where
  -- the lines of the script that are still to come
  pub rest : List ScriptLine
  -- what the current line still has to show
  pub owed : Owed
  -- the state of the transaction block
  pub block : BlockState
  -- the list of the open block
  pub changes : List Change
  -- the channels listened to, in order of listening
  pub set : List (List ℕ)
  -- a listener has read everything below this number
  pub mark : Option ℕ
  -- the session knows that every transaction below this number is finished: by its own transactions, by the flags that it found, and by
  -- where it became a listener and how far it has read
  pub told : ℕ
  -- every base, point and end of a read so far
  pub marks : List ℕ
  -- each flag that was raised so far, with the number that it then showed
  pub raised : List (ℕ × ℕ)
  -- each flag that was found so far, with the number that it then showed
  pub found : List (ℕ × ℕ)
  -- the session and the floor mark of each full queue and each usage so far that names a holder
  pub named : List (ℕ × ℕ)

-- before the first item
abbrev pub start : Section → State
start section = record {
  rest = section.lines;
  owed = Nothing;
  block = Idle;
  changes = [];
  set = [];
  mark = None;
  told = FIRST_XID;
  marks = [];
  raised = [];
  found = [];
  named = [];
}

-- no channel is listened to
abbrev pub is_empty_set : List (List ℕ) → Bool
is_empty_set [] = true
is_empty_set (channel ∷ channels) = false

-- the answer comes next; a listener whose set is empty leaves first
abbrev pub leaving_or_answering : State → Ending → State
leaving_or_answering s ending = if is_some s.mark && is_empty_set s.set then record s { owed = Leaving ending } else record s { owed = Answering ending }

-- the actions take effect
abbrev pub settled : State → List Action → Ending → State
settled s actions ending = leaving_or_answering (record s { set = applied s.set actions }) ending

-- the notifications come next, if there are any
abbrev pub queueing_or_settled : State → List Action → List Note → Ending → State
queueing_or_settled s actions [] ending = settled s actions ending
queueing_or_settled s actions (note ∷ notes) ending = record s { owed = Queueing actions (note ∷ notes) ending }

-- a commit of a transaction's list: a session that is to listen and is no listener becomes one first
abbrev pub committing : State → List Change → Ending → State
committing s changes ending =
    let actions = surviving_actions changes in
    let notes = firsts (surviving_notes changes) in
    if list_any is_listen actions && is_none s.mark then record s { owed = Enlisting actions notes ending } else queueing_or_settled s actions notes ending

-- what a command that comes to this still has to show, where a commit is one of these changes
abbrev pub owing : State → List Change → Outcome → State
owing s changes (Commits tag) = committing s changes (Replied tag None)
owing s changes (Replies tag warning next) = record s { owed = Answering (Replied tag warning) }
owing s changes (Refuses refusal next) = record s { owed = Answering (Refused refusal) }
owing s changes Silent = s
owing s changes (GivesChannels names) = record s { owed = Listing names (Replied (tag.Select (length names)) None) }
owing s changes GivesUsage = record s { owed = Measuring (Replied (tag.Select 1) None) }

-- a command begins that comes to this: the block and its list are as the outcome says, and it has its answer still to show
abbrev pub at_outcome : State → Command → Outcome → State
at_outcome s command outcome =
    let next : State = record s { block = next_state s.block outcome; changes = list_after s.changes command outcome } in
    owing next (s.changes ++ changes_of command) outcome

-- the session quits: its block and its set end, and a listener leaves
abbrev pub quitting : State → State
quitting s =
    let ended : State = record s { block = Idle; changes = []; set = [] } in
    if is_some s.mark then record ended { owed = Quitting } else ended

-- a line of the script begins
abbrev pub at_act : State → Act → State
at_act s (Run command) = at_outcome s command (answer s.block (live_names s.changes) s.set command)
at_act s (Signal flag) = record s { owed = Raising flag }
at_act s (Await flag) = record s { owed = Awaiting flag }
at_act s Quit = quitting s

-- the next line of the script begins
abbrev pub at_line : State → List ScriptLine → State
at_line s [] = record s { owed = Barred }
at_line s (line ∷ lines) = at_act (record s { rest = lines }) line.act

-- a session has become a listener
abbrev pub at_enlist : State → Owed → State
at_enlist s (Enlisting actions notes ending) = queueing_or_settled s actions notes ending
at_enlist s owed = s

-- a transaction has committed
abbrev pub at_publish : State → Owed → State
at_publish s (Queueing actions notes ending) = settled s actions ending
at_publish s owed = s

-- a transaction has met a full queue: it is rolled back, so that the set stays
abbrev pub at_full : State → Owed → State
at_full s (Queueing actions notes ending) = leaving_or_answering s (Refused refused.QueueFull)
at_full s owed = s

-- a session is no listener any more
abbrev pub at_leave : State → Owed → State
at_leave s (Leaving ending) = record s { owed = Answering ending }
at_leave s owed = record s { owed = Nothing }

-- the rows of an answer were shown
abbrev pub at_rows : State → Owed → State
at_rows s (Listing names ending) = record s { owed = Answering ending }
at_rows s (Measuring ending) = record s { owed = Answering ending }
at_rows s owed = s

-- a flag was raised with this number
abbrev pub at_raise : ℕ → State → Owed → State
at_raise value s (Raising flag) = record s { raised = s.raised ++ (flag, value) ∷ []; owed = Nothing }
at_raise value s owed = s

-- a flag was found with this number
abbrev pub at_found : ℕ → State → Owed → State
at_found value s (Awaiting flag) = record s { told = max s.told value; found = s.found ++ (flag, value) ∷ []; owed = Nothing }
at_found value s owed = s

-- the holder that is named, with the floor mark
abbrev pub holder_at : Option ℕ → ℕ → List (ℕ × ℕ)
holder_at None mark = []
holder_at (Some session) mark = (session, mark) ∷ []

-- the state after an item
abbrev pub after_item : State → Item → State
after_item s (Line line) = at_line s s.rest
after_item s (Enlist base point) = at_enlist (record s { mark = Some point; told = max s.told point; marks = s.marks ++ base ∷ [] ++ point ∷ [] }) s.owed
after_item s (Publish xid notes) = at_publish (record s { told = max s.told (xid + 1) }) s.owed
after_item s (QueueFull full notes) = at_full (record s { told = max s.told (full.xid + 1); named = s.named ++ holder_at full.holder full.floor_mark }) s.owed
after_item s Leave = at_leave (record s { mark = None }) s.owed
after_item s (Reply tag warning) = record s { owed = Nothing }
after_item s (Refuse refusal) = record s { owed = Nothing }
after_item s (Channels names) = at_rows s s.owed
after_item s (Used usage) = at_rows (record s { named = s.named ++ holder_at usage.holder usage.floor_mark }) s.owed
after_item s (Raise value) = at_raise value s s.owed
after_item s (Found value) = at_found value s s.owed
after_item s (TimedOut looks) = record s { owed = Nothing }
after_item s (Read from to got) = record s { mark = Some to; told = max s.told to; marks = s.marks ++ to ∷ [] }

-- a line of this number comes next
abbrev pub IsNext : ℕ → List ScriptLine → Type 0
IsNext n [] = ⊥
IsNext n (line ∷ lines) = line.line ≡ n

-- the session is to become a listener
abbrev pub IsEnlisting : Owed → Type 0
IsEnlisting (Enlisting actions notes ending) = Unit {0}
IsEnlisting owed = ⊥

-- these notifications are to be published
abbrev pub IsQueueing : List Note → Owed → Type 0
IsQueueing notes (Queueing actions others ending) = notes ≡ others
IsQueueing notes owed = ⊥

-- the session is to stop being a listener
abbrev pub IsLeaving : Owed → Type 0
IsLeaving (Leaving ending) = Unit {0}
IsLeaving Quitting = Unit {0}
IsLeaving owed = ⊥

-- the rows of these channels come next
abbrev pub IsListing : List (List ℕ) → Owed → Type 0
IsListing names (Listing others ending) = names ≡ others
IsListing names owed = ⊥

-- the row of the queue's usage comes next
abbrev pub IsMeasuring : Owed → Type 0
IsMeasuring (Measuring ending) = Unit {0}
IsMeasuring owed = ⊥

-- a flag is to be raised
abbrev pub IsRaising : Owed → Type 0
IsRaising (Raising flag) = Unit {0}
IsRaising owed = ⊥

-- a flag is awaited, and P holds of it
abbrev pub IsAwaiting : Owed → (ℕ → Type 0) → Type 0
IsAwaiting (Awaiting flag) P = P flag
IsAwaiting owed P = ⊥

-- the entry is this session's, of its database, with these notifications, and committed
pub record IsCommittedBy (section : Section) (notes : List Note) (tx : Tx) : Type 0 where
  pub by_session : tx.session ≡ section.no
  pub in_database : tx.db ≡ section.db
  pub with_notes : tx.notes ≡ notes
  pub committed : tx.fate ≡ Committed

-- the entry is this session's, of its database, with these notifications, and aborted with so many of them queued
pub record IsAbortedBy (section : Section) (notes : List Note) (count : ℕ) (tx : Tx) : Type 0 where
  pub by_session : tx.session ≡ section.no
  pub in_database : tx.db ≡ section.db
  pub with_notes : tx.notes ≡ notes
  pub aborted : tx.fate ≡ Aborted
  pub some : tx.queued ≡ count

-- a script line begins: the one before it has its whole answer, and it is the next
pub record BeginsLine (s : State) (line : ℕ) : Type 0 where
  pub answered : s.owed ≡ Nothing
  pub next : IsNext line s.rest

-- a session becomes a listener: it receives from the point on; the point is not below told, nor below any earlier mark (and it is
-- within the journal, so that a longer journal changes nothing)
pub record Enlists (journal : List Tx) (s : State) (base point : ℕ) : Type 0 where
  pub expected : IsEnlisting s.owed
  pub from_first : FIRST_XID ≤ base
  pub ordered : base ≤ point
  pub after_told : s.told ≤ point
  pub after_marks : All (λ mark. mark ≤ point) s.marks
  pub in_journal : point ≤ next_xid journal

-- a transaction committed: it stands in the journal, after what the session was told or has read
pub record Publishes (terms : Terms) (journal : List Tx) (s : State) (xid : ℕ) (notes : List Note) : Type 0 where
  pub expected : IsQueueing notes s.owed
  pub after_told : s.told ≤ xid
  pub after_mark : IfSome s.mark (λ mark. mark ≤ xid)
  pub in_journal : IsSomeAnd (entry journal xid) (IsCommittedBy terms.section notes)

-- a transaction met a full queue: it stands in the journal, aborted, after what the session was told or has read
pub record MeetsFullQueue (terms : Terms) (journal : List Tx) (s : State) (full : Full) (notes : List Note) : Type 0 where
  pub expected : IsQueueing notes s.owed
  pub after_told : s.told ≤ full.xid
  pub after_mark : IfSome s.mark (λ mark. mark ≤ full.xid)
  pub in_journal : IsSomeAnd (entry journal full.xid) (IsAbortedBy terms.section notes full.queued)
  pub floor : IsFloorFor terms.section.no s.mark full.floor_mark full.holder

-- the queue's usage is shown, at no earlier number than the session was told or has read
pub record MeasuresQueue (terms : Terms) (journal : List Tx) (s : State) (usage : Usage) : Type 0 where
  pub expected : IsMeasuring s.owed
  pub after_told : s.told ≤ usage.at
  pub after_mark : IfSome s.mark (λ mark. mark ≤ usage.at)
  pub shown : ShowsUsage terms.settings.format terms.settings.limit journal usage
  pub floor : IsFloorFor terms.section.no s.mark usage.floor_mark usage.holder

-- a flag is raised: it shows what the session was told
pub record RaisesFlag (s : State) (value : ℕ) : Type 0 where
  pub expected : IsRaising s.owed
  pub told : value ≡ s.told

-- each number that these show for the flag is at most this one
abbrev pub IsGreatest : List (ℕ × ℕ) → ℕ → ℕ → Type 0
IsGreatest pairs flag value = All (λ pair. pair.0 ≡ flag → pair.1 ≤ value) pairs

-- an awaited flag is found with a number no less than each that the session has raised it or found it with
abbrev pub FindsFlag : State → ℕ → Type 0
FindsFlag s value = IsAwaiting s.owed (λ flag. IsGreatest s.raised flag value × IsGreatest s.found flag value)

-- these show nothing of the flag
abbrev pub IsUnknown : List (ℕ × ℕ) → ℕ → Type 0
IsUnknown pairs flag = All (λ pair. pair.0 ≢ flag) pairs

-- an await times out after as many looks as the patience is, made or slept over, at a flag that the session has neither raised nor found
pub record TimesOut (terms : Terms) (s : State) (looks : ℕ) : Type 0 where
  pub awaited : IsAwaiting s.owed (λ flag. IsUnknown s.raised flag × IsUnknown s.found flag)
  pub patient : looks ≡ terms.settings.patience

-- the session may read here where no block is open: between lines, and while it awaits a flag; at the script's end an open block is
-- dropped. (Of a trace that may still go on, the items alone don't say whether the script's end has begun)
abbrev pub MayRead : State → Owed → Type 0
MayRead s Nothing = (s.block ≡ Idle) ⊎ (s.rest ≡ [])
MayRead s (Awaiting flag) = s.block ≡ Idle
MayRead s owed = ⊥

-- a read, from the mark on and to no earlier than what the session was told: it received what was due on the channels that it
-- listens to now (and its end is within the journal, so that a longer journal changes nothing)
pub record Reads (terms : Terms) (journal : List Tx) (s : State) (from to : ℕ) (got : List Delivery) : Type 0 where
  pub in_turn : MayRead s s.owed
  pub from_mark : s.mark ≡ Some from
  pub forward : from < to
  pub after_told : s.told ≤ to
  pub in_journal : to ≤ next_xid journal
  pub received : got ≡ due journal from to terms.section.db s.set

-- the item is allowed in a state
abbrev pub Allowed : Terms → List Tx → State → Item → Type 0
Allowed terms journal s (Line line) = BeginsLine s line
Allowed terms journal s (Enlist base point) = Enlists journal s base point
Allowed terms journal s (Publish xid notes) = Publishes terms journal s xid notes
Allowed terms journal s (QueueFull full notes) = MeetsFullQueue terms journal s full notes
Allowed terms journal s Leave = IsLeaving s.owed
Allowed terms journal s (Reply tag warning) = s.owed ≡ Answering (Replied tag warning)
Allowed terms journal s (Refuse refusal) = s.owed ≡ Answering (Refused refusal)
Allowed terms journal s (Channels names) = IsListing names s.owed
Allowed terms journal s (Used usage) = MeasuresQueue terms journal s usage
Allowed terms journal s (Raise value) = RaisesFlag s value
Allowed terms journal s (Found value) = FindsFlag s value
Allowed terms journal s (TimedOut looks) = TimesOut terms s looks
Allowed terms journal s (Read from to got) = Reads terms journal s from to got
