-- Laws of what a session's next line adds to its trace, and what a read and the script's end add: which items come, and which state they
-- lead to.
--
-- A session has three calls that add items: step begins a line and answers it, or looks once more for an awaited flag; idle reads
-- between lines and while a flag is awaited; finish_read reads once more after the script's end.
use Rattle.std.specs.Prelude.{◌≡◌, ◌≢◌, ℕ, ◌+◌, ◌<◌, ◌≤◌, ◌&&◌, max, Bool, true, cond, List, [], ◌∷◌, ◌++◌, length, Option, Some, None, is_some, is_none, IfSome, IsSomeAnd, All}
use Rattle.std.specs.List.{list_any}
use Rattle.pgn_base.specs.declared.limits.TheConstants.{FIRST_XID}
use Rattle.pgn_base.specs.declared.note.Note.{Note}
use Rattle.pgn_base.specs.declared.answers.Tag.{Tag}
use Rattle.pgn_base.specs.declared.answers.Tag.TheVariants as tag
use Rattle.pgn_base.specs.declared.answers.Warning.{Warning}
use Rattle.pgn_base.specs.declared.answers.Refusal.{Refusal}
use Rattle.pgn_base.specs.declared.answers.Refusal.TheVariants as refused
use Rattle.pgn_base.specs.declared.queue_answers.Full.{Full}
use Rattle.pgn_base.specs.declared.queue_answers.Usage.{Usage}
use Rattle.pgn_base.specs.declared.action.Action.{Action}
use Rattle.pgn_base.specs.Channels.{applied}
use Rattle.pgn_journal.specs.declared.tx.Tx.{Tx}
use Rattle.pgn_answers.specs.declared.block_state.BlockState.{BlockState}
use Rattle.pgn_answers.specs.declared.block_state.BlockState.TheVariants.{Idle, InBlock}
use Rattle.pgn_base.specs.declared.command.Command.{Command}
use Rattle.pgn_base.specs.declared.command.Command.TheVariants.{Commit, Listen, Unlisten, UnlistenAll, Notify, PgNotify}
use Rattle.pgn_language.specs.declared.scenario.Act.{Act}
use Rattle.pgn_language.specs.declared.scenario.Act.TheVariants.{Run, Signal, Await, Quit}
use Rattle.pgn_language.specs.declared.scenario.ScriptLine.{ScriptLine}
use Rattle.pgn_model.specs.declared.item.Item.{Item}
use Rattle.pgn_model.specs.declared.item.Item.TheVariants.{Line, Enlist, Publish, QueueFull, Leave, Reply, Refuse, Channels, Used, Raise, Found, TimedOut, Read}
use Rattle.pgn_model.specs.declared.trace.Trace.{Trace}
use Rattle.pgn_journal.specs.Journal.{entry, next_xid}
use Rattle.pgn_journal.specs.Due.{due, is_due_to}
use Rattle.pgn_journal.specs.QueueUse.{ShowsUsage, NoPage, IsFloorFor}
use Rattle.pgn_answers.specs.Savepoints.{live_names, surviving_actions, surviving_notes, firsts, is_listen, changes_of}
use Rattle.pgn_answers.specs.Answers.{Outcome, Commits, Replies, Refuses, Silent, GivesChannels, GivesUsage, answer, list_after}
use Rattle.pgn_model.specs.Along.{Along}
use Rattle.pgn_model.specs.Walk.{Terms, State, Nothing, Awaiting, start, after_item, is_empty_set, holder_at, IsCommittedBy, IsAbortedBy, IsGreatest, IsUnknown, Settings}
use Rattle.pgn_model.specs.Trace.{TraceOk, Fresh, IsUpToDate, IsFreshBetween, IsFreshAt, Stands}
use Rattle.pgn_model.specs.Legal.{IsShownWithin, finished_xids, IsFullThere}
use Rattle.pgn_journal.specs.Near.{Near}
use Rattle.pgn_model.specs.laws.Growing.{IsStateWithin}

-- items that are lawful so far and left no read out where a line began, and the state that they lead to
pub record StandsFresh (terms : Terms) (journal : List Tx) (items : List Item) (s : State) : Type 0 where
  pub stands : Stands terms journal items s
  pub fresh : Along after_item (IsFreshAt terms journal) (start terms.section) items

-- all that a session keeps of its trace so far: besides this, each full queue that it shows was full, and each flag was found with a
-- number within the journal
pub record HoldsSoFar (terms : Terms) (journal : List Tx) (items : List Item) (s : State) : Type 0 where
  pub stands_fresh : StandsFresh terms journal items s
  pub full : All (IsFullThere terms.settings journal) items
  pub found : All (λ pair. pair.1 ≤ next_xid journal) s.found

-- this line of the script, with this act, comes next, and after it these: the line before has its whole answer, and unless a block is open
-- the line may begin
pub record ComesNext (terms : Terms) (journal : List Tx) (s : State) (line : ScriptLine) (act : Act) (lines : List ScriptLine) : Type 0 where
  pub answered : s.owed ≡ Nothing
  pub next : s.rest ≡ line ∷ lines
  pub does : line.act ≡ act
  pub fresh : s.block ≡ Idle → IsFreshBetween terms journal s

-- what a command comes to in a state
abbrev pub outcome_in : State → Command → Outcome
outcome_in s command = answer s.block (live_names s.changes) s.set command

-- the tag of a command that in a block is kept for its commit, and that outside a block is a transaction of its own
abbrev pub kept_tag : Command → Option Tag
kept_tag (Listen name) = Some tag.Listen
kept_tag (Unlisten name) = Some tag.Unlisten
kept_tag UnlistenAll = Some tag.Unlisten
kept_tag (Notify note) = Some tag.Notify
kept_tag (PgNotify note) = Some (tag.Select 1)
kept_tag command = None

-- the next line commits: of its transaction these actions and these notifications survive
pub record CommitsNext (terms : Terms) (journal : List Tx) (s : State) (line : ScriptLine) (lines : List ScriptLine) (command : Command) (done : Tag) (actions : List Action) (notes : List Note) : Type 0 where
  pub comes : ComesNext terms journal s line (Run command) lines
  pub commits : outcome_in s command ≡ Commits done
  pub actions_are : actions ≡ surviving_actions (s.changes ++ changes_of command)
  pub notes_are : notes ≡ firsts (surviving_notes (s.changes ++ changes_of command))

-- a commit makes the session a listener: an action listens, and it is none yet
abbrev pub is_enlisting : List Action → Option ℕ → Bool
is_enlisting actions mark = list_any is_listen actions && is_none mark

-- a commit ends its listening: it is a listener, and its set is empty
abbrev pub is_leaving : Option ℕ → List (List ℕ) → Bool
is_leaving mark set = is_some mark && is_empty_set set

-- the Enlist of a commit, where there is one
abbrev pub enlist_items : List Action → Option ℕ → ℕ → ℕ → List Item
enlist_items actions mark base point = cond (is_enlisting actions mark) (Enlist base point ∷ []) []

-- the Publish of a commit, where there is one
abbrev pub publish_items : List Note → ℕ → List Item
publish_items [] xid = []
publish_items (note ∷ notes) xid = Publish xid (note ∷ notes) ∷ []

-- the Leave of a commit, where there is one, with the mark and the set at its end
abbrev pub leave_items : Option ℕ → List (List ℕ) → List Item
leave_items mark set = cond (is_leaving mark set) (Leave ∷ []) []

-- the Leave of a quit, where there is one
abbrev pub quit_items : Option ℕ → List Item
quit_items None = []
quit_items (Some mark) = Leave ∷ []

-- the number of the transaction of a commit, where there is one
abbrev pub published_xids : List Note → ℕ → List ℕ
published_xids [] xid = []
published_xids (note ∷ notes) xid = xid ∷ []

-- the mark after the Enlist of a commit, if there is one
abbrev pub enlisted_mark : List Action → Option ℕ → ℕ → Option ℕ
enlisted_mark actions mark point = cond (is_enlisting actions mark) (Some point) mark

-- all marks after it
abbrev pub enlisted_marks : List Action → Option ℕ → List ℕ → ℕ → ℕ → List ℕ
enlisted_marks actions mark marks base point = cond (is_enlisting actions mark) (marks ++ base ∷ [] ++ point ∷ []) marks

-- the mark after the Leave of a commit, if there is one
abbrev pub left_mark : Option ℕ → List (List ℕ) → Option ℕ
left_mark mark set = cond (is_leaving mark set) None mark

-- what the session was told after the Enlist of a commit, if there is one
abbrev pub enlisted_told : List Action → Option ℕ → ℕ → ℕ → ℕ
enlisted_told actions mark told point = cond (is_enlisting actions mark) (max told point) told

-- what the session was told after the Publish of a commit, if there is one
abbrev pub published_told : List Note → ℕ → ℕ → ℕ
published_told [] told xid = told
published_told (note ∷ notes) told xid = max told (xid + 1)

-- the state after a commit
abbrev pub committed : State → List ScriptLine → List Action → List Note → ℕ → ℕ → ℕ → State
committed s lines actions notes base point xid = record s {
  rest = lines;
  owed = Nothing;
  block = Idle;
  changes = [];
  set = applied s.set actions;
  mark = left_mark (enlisted_mark actions s.mark point) (applied s.set actions);
  told = published_told notes (enlisted_told actions s.mark s.told point) xid;
  marks = enlisted_marks actions s.mark s.marks base point;
}

-- the state after a commit that met a full queue
abbrev pub met_full : State → List ScriptLine → List Action → ℕ → ℕ → Full → State
met_full s lines actions base point full = record s {
  rest = lines;
  owed = Nothing;
  block = Idle;
  changes = [];
  mark = left_mark (enlisted_mark actions s.mark point) s.set;
  told = max (enlisted_told actions s.mark s.told point) (full.xid + 1);
  marks = enlisted_marks actions s.mark s.marks base point;
  named = s.named ++ holder_at full.holder full.floor_mark;
}

-- a session that was told so far, with these marks so far, may become a listener: it receives from the point on
pub record MayEnlist (journal : List Tx) (told : ℕ) (marks : List ℕ) (base point : ℕ) : Type 0 where
  pub from_first : FIRST_XID ≤ base
  pub ordered : base ≤ point
  pub after_told : told ≤ point
  pub after_marks : All (λ mark. mark ≤ point) marks
  pub in_journal : point ≤ next_xid journal

-- a session that was told so far, and at this mark, may show its transaction with these notifications as committed
pub record MayPublish (terms : Terms) (journal : List Tx) (told : ℕ) (mark : Option ℕ) (xid : ℕ) (notes : List Note) : Type 0 where
  pub after_told : told ≤ xid
  pub after_mark : IfSome mark (λ own. own ≤ xid)
  pub in_journal : IsSomeAnd (entry journal xid) (IsCommittedBy terms.section notes)

-- it may show that its transaction with these notifications met a full queue
pub record MayMeetFull (terms : Terms) (journal : List Tx) (told : ℕ) (mark : Option ℕ) (full : Full) (notes : List Note) : Type 0 where
  pub after_told : told ≤ full.xid
  pub after_mark : IfSome mark (λ own. own ≤ full.xid)
  pub in_journal : IsSomeAnd (entry journal full.xid) (IsAbortedBy terms.section notes full.queued)
  pub floor : IsFloorFor terms.section.no mark full.floor_mark full.holder

-- it may show this usage of the queue
pub record MayMeasure (terms : Terms) (journal : List Tx) (told : ℕ) (mark : Option ℕ) (usage : Usage) : Type 0 where
  pub after_told : told ≤ usage.at
  pub after_mark : IfSome mark (λ own. own ≤ usage.at)
  pub shown : ShowsUsage terms.settings.format terms.settings.limit journal usage
  pub floor : IsFloorFor terms.section.no mark usage.floor_mark usage.holder

-- the session may read from its mark on to this number
pub record MayReadTo (journal : List Tx) (s : State) (from to : ℕ) : Type 0 where
  pub from_mark : s.mark ≡ Some from
  pub forward : from < to
  pub after_told : s.told ≤ to
  pub in_journal : to ≤ next_xid journal

-- the trace is this section's, its script is done, its last line has its whole answer, and it ends with this mark
pub record Closes (terms : Terms) (trace : Trace) (s : State) : Type 0 where
  pub session : trace.session ≡ terms.section.no
  pub database : trace.db ≡ terms.section.db
  pub answered : s.owed ≡ Nothing
  pub done : s.rest ≡ []
  pub mark : s.mark ≡ trace.last

-- before the first item: where a session begins
abbrev pub EmptyStands : Type 0
EmptyStands = (terms : Terms) (journal : List Tx) → StandsFresh terms journal [] (start terms.section)

-- the journal may grow: in step, idle and finish_read, as the session comes to know of more transactions
abbrev pub StandsFreshGrows : Type 0
StandsFreshGrows = (terms : Terms) (journal more : List Tx) (items : List Item) (s : State)
    → StandsFresh terms journal items s → All (IsShownWithin (next_xid journal)) items → StandsFresh terms (journal ++ more) items s

-- it may grow under all that a session keeps of its trace: in step, idle and finish_read
abbrev pub HoldsGrows : Type 0
HoldsGrows = (terms : Terms) (journal more : List Tx) (items : List Item) (s : State) → HoldsSoFar terms journal items s → HoldsSoFar terms (journal ++ more) items s

-- no number is shown that is past the journal: in step, idle and finish_read
abbrev pub HoldsShows : Type 0
HoldsShows = (terms : Terms) (journal : List Tx) (items : List Item) (s : State) → HoldsSoFar terms journal items s → All (IsShownWithin (next_xid journal)) items

-- nor was the session told of one, nor stood it at one: in step, idle and finish_read
abbrev pub HoldsWithin : Type 0
HoldsWithin = (terms : Terms) (journal : List Tx) (items : List Item) (s : State) → HoldsSoFar terms journal items s → IsStateWithin (next_xid journal) s

-- the journal may grow before the next line begins: in step
abbrev pub ComesNextGrows : Type 0
ComesNextGrows = (terms : Terms) (journal more : List Tx) (s : State) (line : ScriptLine) (act : Act) (lines : List ScriptLine)
    → s.told ≤ next_xid journal → ComesNext terms journal s line act lines → ComesNext terms (journal ++ more) s line act lines

-- a command that is answered by its tag alone: in step
abbrev pub LineReplies : Type 0
LineReplies = (terms : Terms) (journal : List Tx) (items : List Item) (s : State) (line : ScriptLine) (lines : List ScriptLine) (command : Command) (done : Tag) (warning : Option Warning) (next : BlockState)
    → StandsFresh terms journal items s → ComesNext terms journal s line (Run command) lines → outcome_in s command ≡ Replies done warning next
    → StandsFresh terms journal (items ++ Line line.line ∷ [] ++ Reply done warning ∷ [])
    (record s { rest = lines; owed = Nothing; block = next; changes = list_after s.changes command (Replies done warning next) })

-- a command that is refused: in step
abbrev pub LineRefuses : Type 0
LineRefuses = (terms : Terms) (journal : List Tx) (items : List Item) (s : State) (line : ScriptLine) (lines : List ScriptLine) (command : Command) (refusal : Refusal) (next : BlockState)
    → StandsFresh terms journal items s → ComesNext terms journal s line (Run command) lines → outcome_in s command ≡ Refuses refusal next
    → StandsFresh terms journal (items ++ Line line.line ∷ [] ++ Refuse refusal ∷ []) (record s { rest = lines; owed = Nothing; block = next })

-- a line that is not answered: in step
abbrev pub LineIsSilent : Type 0
LineIsSilent = (terms : Terms) (journal : List Tx) (items : List Item) (s : State) (line : ScriptLine) (lines : List ScriptLine) (command : Command)
    → StandsFresh terms journal items s → ComesNext terms journal s line (Run command) lines → outcome_in s command ≡ Silent
    → StandsFresh terms journal (items ++ Line line.line ∷ []) (record s { rest = lines; owed = Nothing })

-- LISTEN, UNLISTEN, UNLISTEN *, NOTIFY and a call of pg_notify in a block: it is kept for the commit: in step
abbrev pub LineIsKept : Type 0
LineIsKept = (terms : Terms) (journal : List Tx) (items : List Item) (s : State) (line : ScriptLine) (lines : List ScriptLine) (command : Command) (done : Tag)
    → StandsFresh terms journal items s → ComesNext terms journal s line (Run command) lines → s.block ≡ InBlock → kept_tag command ≡ Some done
    → StandsFresh terms journal (items ++ Line line.line ∷ [] ++ Reply done None ∷ []) (record s { rest = lines; owed = Nothing; block = InBlock; changes = s.changes ++ changes_of command })

-- where no block is open, nothing is in its list: in step
abbrev pub NoListOutside : Type 0
NoListOutside = (terms : Terms) (journal : List Tx) (items : List Item) (s : State) → Stands terms journal items s → s.block ≡ Idle → s.changes ≡ []

-- COMMIT in a block that has not failed commits what its list has left: in step
abbrev pub BlockCommits : Type 0
BlockCommits = (terms : Terms) (journal : List Tx) (s : State) (line : ScriptLine) (lines : List ScriptLine) (actions : List Action) (notes : List Note)
    → ComesNext terms journal s line (Run Commit) lines → s.block ≡ InBlock → actions ≡ surviving_actions s.changes → notes ≡ firsts (surviving_notes s.changes)
    → CommitsNext terms journal s line lines Commit tag.Commit actions notes

-- LISTEN, UNLISTEN, UNLISTEN *, NOTIFY and a call of pg_notify outside a block commit what they put into the list: in step
abbrev pub OneCommits : Type 0
OneCommits = (terms : Terms) (journal : List Tx) (s : State) (line : ScriptLine) (lines : List ScriptLine) (command : Command) (done : Tag) (actions : List Action) (notes : List Note)
    → ComesNext terms journal s line (Run command) lines → s.block ≡ Idle → s.changes ≡ [] → kept_tag command ≡ Some done
    → actions ≡ surviving_actions (changes_of command) → notes ≡ surviving_notes (changes_of command)
    → CommitsNext terms journal s line lines command done actions notes

-- the journal may grow before a commit: in step
abbrev pub CommitsNextGrows : Type 0
CommitsNextGrows = (terms : Terms) (journal more : List Tx) (s : State) (line : ScriptLine) (lines : List ScriptLine) (command : Command) (done : Tag) (actions : List Action) (notes : List Note)
    → s.told ≤ next_xid journal → CommitsNext terms journal s line lines command done actions notes → CommitsNext terms (journal ++ more) s line lines command done actions notes

-- a commit, be it of one command outside a block or of a block: base and point matter only where the session becomes a listener, and
-- xid only where notifications are published: in step
abbrev pub LineCommits : Type 0
LineCommits = (terms : Terms) (journal : List Tx) (items : List Item) (s : State) (line : ScriptLine) (lines : List ScriptLine) (command : Command) (done : Tag) (actions : List Action) (notes : List Note) (base point xid : ℕ)
    → StandsFresh terms journal items s → CommitsNext terms journal s line lines command done actions notes
    → (is_enlisting actions s.mark ≡ true → MayEnlist journal s.told s.marks base point)
    → (notes ≢ [] → MayPublish terms journal (enlisted_told actions s.mark s.told point) (enlisted_mark actions s.mark point) xid notes)
    → StandsFresh terms journal
    (items ++ Line line.line ∷ [] ++ enlist_items actions s.mark base point ++ publish_items notes xid ++ leave_items (enlisted_mark actions s.mark point) (applied s.set actions) ++ Reply done None ∷ [])
    (committed s lines actions notes base point xid)

-- a commit that meets a full queue: it is rolled back, so that the set stays: in step
abbrev pub LineMeetsFull : Type 0
LineMeetsFull = (terms : Terms) (journal : List Tx) (items : List Item) (s : State) (line : ScriptLine) (lines : List ScriptLine) (command : Command) (done : Tag) (actions : List Action) (notes : List Note) (base point : ℕ) (full : Full)
    → StandsFresh terms journal items s → CommitsNext terms journal s line lines command done actions notes
    → (is_enlisting actions s.mark ≡ true → MayEnlist journal s.told s.marks base point)
    → notes ≢ [] → MayMeetFull terms journal (enlisted_told actions s.mark s.told point) (enlisted_mark actions s.mark point) full notes
    → StandsFresh terms journal
    (items ++ Line line.line ∷ [] ++ enlist_items actions s.mark base point ++ QueueFull full notes ∷ [] ++ leave_items (enlisted_mark actions s.mark point) s.set ++ Refuse refused.QueueFull ∷ [])
    (met_full s lines actions base point full)

-- the session's transaction is the journal's last: in step, where a commit was published
abbrev pub LastIsPublished : Type 0
LastIsPublished = (terms : Terms) (journal : List Tx) (tx : Tx) (told : ℕ) (mark : Option ℕ) (xid : ℕ) (notes : List Note)
    → xid ≡ next_xid journal → told ≤ next_xid journal → IfSome mark (λ own. own ≤ next_xid journal) → IsCommittedBy terms.section notes tx
    → MayPublish terms (journal ++ tx ∷ []) told mark xid notes

-- it is the journal's last, and aborted: in step, where a commit met a full queue
abbrev pub LastMetFull : Type 0
LastMetFull = (terms : Terms) (journal : List Tx) (tx : Tx) (told : ℕ) (mark : Option ℕ) (full : Full) (notes : List Note)
    → full.xid ≡ next_xid journal → told ≤ next_xid journal → IfSome mark (λ own. own ≤ next_xid journal) → IsAbortedBy terms.section notes full.queued tx
    → IsFloorFor terms.section.no mark full.floor_mark full.holder → MayMeetFull terms (journal ++ tx ∷ []) told mark full notes

-- the transactions that a trace shows as finished, after a commit: in step
abbrev pub CommitFinishes : Type 0
CommitFinishes = (items : List Item) (line : ℕ) (actions : List Action) (notes : List Note) (mark after : Option ℕ) (set : List (List ℕ)) (done : Tag) (base point xid : ℕ)
    → finished_xids (items ++ Line line ∷ [] ++ enlist_items actions mark base point ++ publish_items notes xid ++ leave_items after set ++ Reply done None ∷ [])
    ≡ finished_xids items ++ published_xids notes xid

-- and after one that met a full queue: in step
abbrev pub FullFinishes : Type 0
FullFinishes = (items : List Item) (line : ℕ) (actions : List Action) (notes : List Note) (mark after : Option ℕ) (set : List (List ℕ)) (base point : ℕ) (full : Full)
    → finished_xids (items ++ Line line ∷ [] ++ enlist_items actions mark base point ++ QueueFull full notes ∷ [] ++ leave_items after set ++ Refuse refused.QueueFull ∷ [])
    ≡ finished_xids items ++ full.xid ∷ []

-- the full queues that a trace shows, after a commit: in step
abbrev pub CommitKeepsFull : Type 0
CommitKeepsFull = (settings : Settings) (journal : List Tx) (items : List Item) (line : ℕ) (actions : List Action) (notes : List Note) (mark after : Option ℕ) (set : List (List ℕ)) (done : Tag) (base point xid : ℕ)
    → All (IsFullThere settings journal) items
    → All (IsFullThere settings journal) (items ++ Line line ∷ [] ++ enlist_items actions mark base point ++ publish_items notes xid ++ leave_items after set ++ Reply done None ∷ [])

-- and after one that met a full queue: in step
abbrev pub FullKeepsFull : Type 0
FullKeepsFull = (settings : Settings) (journal : List Tx) (items : List Item) (line : ℕ) (actions : List Action) (notes : List Note) (mark after : Option ℕ) (set : List (List ℕ)) (base point : ℕ) (full : Full)
    → All (IsFullThere settings journal) items → NoPage settings.format settings.limit journal full
    → All (IsFullThere settings journal) (items ++ Line line ∷ [] ++ enlist_items actions mark base point ++ QueueFull full notes ∷ [] ++ leave_items after set ++ Refuse refused.QueueFull ∷ [])

-- the channels that the session listens to: in step
abbrev pub LineGivesChannels : Type 0
LineGivesChannels = (terms : Terms) (journal : List Tx) (items : List Item) (s : State) (line : ScriptLine) (lines : List ScriptLine) (command : Command) (names : List (List ℕ))
    → StandsFresh terms journal items s → ComesNext terms journal s line (Run command) lines → outcome_in s command ≡ GivesChannels names
    → StandsFresh terms journal (items ++ Line line.line ∷ [] ++ Channels names ∷ [] ++ Reply (tag.Select (length names)) None ∷ []) (record s { rest = lines; owed = Nothing })

-- the queue's usage: in step
abbrev pub LineGivesUsage : Type 0
LineGivesUsage = (terms : Terms) (journal : List Tx) (items : List Item) (s : State) (line : ScriptLine) (lines : List ScriptLine) (command : Command) (usage : Usage)
    → StandsFresh terms journal items s → ComesNext terms journal s line (Run command) lines → outcome_in s command ≡ GivesUsage
    → MayMeasure terms journal s.told s.mark usage
    → StandsFresh terms journal (items ++ Line line.line ∷ [] ++ Used usage ∷ [] ++ Reply (tag.Select 1) None ∷ [])
    (record s { rest = lines; owed = Nothing; named = s.named ++ holder_at usage.holder usage.floor_mark })

-- a flag is raised: in step
abbrev pub LineSignals : Type 0
LineSignals = (terms : Terms) (journal : List Tx) (items : List Item) (s : State) (line : ScriptLine) (lines : List ScriptLine) (flag : ℕ)
    → StandsFresh terms journal items s → ComesNext terms journal s line (Signal flag) lines
    → StandsFresh terms journal (items ++ Line line.line ∷ [] ++ Raise s.told ∷ []) (record s { rest = lines; owed = Nothing; raised = s.raised ++ (flag, s.told) ∷ [] })

-- a flag is to be awaited: in step, at the first look
abbrev pub LineAwaits : Type 0
LineAwaits = (terms : Terms) (journal : List Tx) (items : List Item) (s : State) (line : ScriptLine) (lines : List ScriptLine) (flag : ℕ)
    → StandsFresh terms journal items s → ComesNext terms journal s line (Await flag) lines
    → StandsFresh terms journal (items ++ Line line.line ∷ []) (record s { rest = lines; owed = Awaiting flag })

-- the awaited flag is found: in step, at any look
abbrev pub AwaitFinds : Type 0
AwaitFinds = (terms : Terms) (journal : List Tx) (items : List Item) (s : State) (flag value : ℕ)
    → StandsFresh terms journal items s → s.owed ≡ Awaiting flag → IsGreatest s.raised flag value → IsGreatest s.found flag value
    → StandsFresh terms journal (items ++ Found value ∷ []) (record s { owed = Nothing; told = max s.told value; found = s.found ++ (flag, value) ∷ [] })

-- the patience is spent: in step, at the last look
abbrev pub AwaitTimesOut : Type 0
AwaitTimesOut = (terms : Terms) (journal : List Tx) (items : List Item) (s : State) (flag : ℕ)
    → StandsFresh terms journal items s → s.owed ≡ Awaiting flag → IsUnknown s.raised flag → IsUnknown s.found flag
    → StandsFresh terms journal (items ++ TimedOut terms.settings.patience ∷ []) (record s { owed = Nothing })

-- the session quits: a listener leaves: in step
abbrev pub LineQuits : Type 0
LineQuits = (terms : Terms) (journal : List Tx) (items : List Item) (s : State) (line : ScriptLine) (lines : List ScriptLine)
    → StandsFresh terms journal items s → ComesNext terms journal s line Quit lines
    → StandsFresh terms journal (items ++ Line line.line ∷ [] ++ quit_items s.mark) (record s { rest = lines; owed = Nothing; block = Idle; changes = []; set = []; mark = None })

-- a read between lines: in idle
abbrev pub IdleReads : Type 0
IdleReads = (terms : Terms) (journal : List Tx) (items : List Item) (s : State) (from to : ℕ)
    → StandsFresh terms journal items s → s.owed ≡ Nothing → s.block ≡ Idle → MayReadTo journal s from to
    → StandsFresh terms journal (items ++ Read from to (due journal from to terms.section.db s.set) ∷ []) (record s { mark = Some to; told = max s.told to; marks = s.marks ++ to ∷ [] })

-- a read while a flag is awaited: in idle
abbrev pub AwaitReads : Type 0
AwaitReads = (terms : Terms) (journal : List Tx) (items : List Item) (s : State) (flag from to : ℕ)
    → StandsFresh terms journal items s → s.owed ≡ Awaiting flag → s.block ≡ Idle → MayReadTo journal s from to
    → StandsFresh terms journal (items ++ Read from to (due journal from to terms.section.db s.set) ∷ []) (record s { mark = Some to; told = max s.told to; marks = s.marks ++ to ∷ [] })

-- a read at the script's end, where an open block is dropped: in idle once the end phase has begun, and in finish_read
abbrev pub EndReads : Type 0
EndReads = (terms : Terms) (journal : List Tx) (items : List Item) (s : State) (from to : ℕ)
    → StandsFresh terms journal items s → s.owed ≡ Nothing → s.rest ≡ [] → MayReadTo journal s from to
    → StandsFresh terms journal (items ++ Read from to (due journal from to terms.section.db s.set) ∷ []) (record s { mark = Some to; told = max s.told to; marks = s.marks ++ to ∷ [] })

-- who is no listener has nothing to read: in idle, where it answers that the session does not listen
abbrev pub NoListenerIsUpToDate : Type 0
NoListenerIsUpToDate = (terms : Terms) (journal : List Tx) (s : State) → s.mark ≡ None → IsUpToDate terms journal s

-- who has read all that it was told of has no more to read: in idle and in finish_read, after a read
abbrev pub ReaderIsUpToDate : Type 0
ReaderIsUpToDate = (terms : Terms) (journal : List Tx) (s : State) (mark : ℕ) → s.mark ≡ Some mark → s.told ≤ mark → IsUpToDate terms journal s

-- nor has who need not read up to a number that is no less than what it was told of: in idle, where it answers that nothing woke it
abbrev pub QuietIsUpToDate : Type 0
QuietIsUpToDate = (terms : Terms) (journal : List Tx) (s : State) (told : ℕ) → s.told ≤ told
    → IfSome s.mark (λ mark. Near terms.settings.format (is_due_to terms.section.db s.set) journal mark told) → IsUpToDate terms journal s

-- the script's end: the trace is lawful: after the last step, and after finish_read
abbrev pub EndIsLawful : Type 0
EndIsLawful = (terms : Terms) (journal : List Tx) (trace : Trace) (s : State) → Stands terms journal trace.items s → Closes terms trace s → TraceOk terms trace journal

-- and it left no read out: after the last step, and after finish_read
abbrev pub EndIsFresh : Type 0
EndIsFresh = (terms : Terms) (journal : List Tx) (trace : Trace) (s : State) → StandsFresh terms journal trace.items s → IsUpToDate terms journal s → Fresh terms trace journal
