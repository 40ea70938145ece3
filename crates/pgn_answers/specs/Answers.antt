-- The table of answers: a row for each command and a column for each state of the block.
use Rattle.std.specs.Prelude.{ℕ, cond, List, [], ◌++◌, length, Option, Some, None}
use Rattle.pgn_base.specs.Names.{has_name}
use Rattle.pgn_base.specs.declared.answers.Tag.{Tag}
use Rattle.pgn_base.specs.declared.answers.Tag.TheVariants as tag
use Rattle.pgn_base.specs.declared.answers.Warning.{Warning}
use Rattle.pgn_base.specs.declared.answers.Warning.TheVariants.{AlreadyInBlock, NotInBlock}
use Rattle.pgn_base.specs.declared.answers.Needs.TheVariants as needs
use Rattle.pgn_base.specs.declared.answers.Refusal.{Refusal}
use Rattle.pgn_base.specs.declared.answers.Refusal.TheVariants.{Syntax, Bounds, NeedsBlock, NoSavepoint, Aborted}
use Rattle.pgn_answers.specs.declared.block_state.BlockState.{BlockState}
use Rattle.pgn_answers.specs.declared.block_state.BlockState.TheVariants.{Idle, InBlock, Failed}
use Rattle.pgn_base.specs.declared.command.Command.{Command}
use Rattle.pgn_base.specs.declared.command.Command.TheVariants.{Empty, Begin, Start, Commit, Rollback, Savepoint, RollbackTo, Release, Listen, Unlisten, UnlistenAll, Notify, PgNotify, ListeningChannels, QueueUsage, Invalid, Bad}
use Rattle.pgn_answers.specs.Savepoints.{Change, changes_of}

-- what a command comes to
pub data Outcome : Type 0 where
  -- it commits: the steps of a commit, then the tag, or the refusal of a full queue; the state is idle
  Commits : (tag : Tag) → Outcome
  -- the tag, with a warning before it where there is one, and the new state
  Replies : (tag : Tag) → (warning : Option Warning) → (next : BlockState) → Outcome
  -- the refusal, and the new state
  Refuses : (refusal : Refusal) → (next : BlockState) → Outcome
  -- nothing is answered; the state stays
  Silent : Outcome
  -- a row for each of these channels, and the tag SELECT with their number; the state stays
  GivesChannels : (names : List (List ℕ)) → Outcome
  -- the row of the queue's usage, and the tag SELECT 1; the state stays
  GivesUsage : Outcome

-- the columns of a row: in no block, in a block, in a failed block
abbrev pub in_state : BlockState → Outcome → Outcome → Outcome → Outcome
in_state Idle idle in_block failed = idle
in_state InBlock idle in_block failed = in_block
in_state Failed idle in_block failed = failed

-- what a failed block answers to most commands
abbrev pub ignored : Outcome
ignored = Refuses Aborted Failed

-- the answer to a command in a state of the block, with these names of live savepoints and this listening set
abbrev pub answer : BlockState → List (List ℕ) → List (List ℕ) → Command → Outcome
answer state live set Begin = in_state state (Replies tag.Begin None InBlock) (Replies tag.Begin (Some AlreadyInBlock) InBlock) ignored
answer state live set Start = in_state state (Replies tag.Start None InBlock) (Replies tag.Start (Some AlreadyInBlock) InBlock) ignored
answer state live set Commit = in_state state (Replies tag.Commit (Some NotInBlock) Idle) (Commits tag.Commit) (Replies tag.Rollback None Idle)
answer state live set Rollback = in_state state (Replies tag.Rollback (Some NotInBlock) Idle) (Replies tag.Rollback None Idle) (Replies tag.Rollback None Idle)
answer state live set (Savepoint name) = in_state state (Refuses (NeedsBlock needs.Savepoint) Idle) (Replies tag.Savepoint None InBlock) ignored
answer state live set (RollbackTo name) = cond (has_name live name)
    (in_state state (Refuses (NeedsBlock needs.RollbackTo) Idle) (Replies tag.Rollback None InBlock) (Replies tag.Rollback None InBlock))
    (in_state state (Refuses (NeedsBlock needs.RollbackTo) Idle) (Refuses (NoSavepoint name) Failed) (Refuses (NoSavepoint name) Failed))
answer state live set (Release name) = cond (has_name live name)
    (in_state state (Refuses (NeedsBlock needs.Release) Idle) (Replies tag.Release None InBlock) ignored)
    (in_state state (Refuses (NeedsBlock needs.Release) Idle) (Refuses (NoSavepoint name) Failed) ignored)
answer state live set (Listen name) = in_state state (Commits tag.Listen) (Replies tag.Listen None InBlock) ignored
answer state live set (Unlisten name) = in_state state (Commits tag.Unlisten) (Replies tag.Unlisten None InBlock) ignored
answer state live set UnlistenAll = in_state state (Commits tag.Unlisten) (Replies tag.Unlisten None InBlock) ignored
answer state live set (Notify note) = in_state state (Commits tag.Notify) (Replies tag.Notify None InBlock) ignored
answer state live set (PgNotify note) = in_state state (Commits (tag.Select 1)) (Replies (tag.Select 1) None InBlock) ignored
answer state live set ListeningChannels = in_state state (GivesChannels set) (GivesChannels set) ignored
answer state live set QueueUsage = in_state state GivesUsage GivesUsage ignored
answer state live set (Invalid which) = in_state state (Refuses (Bounds which) Idle) (Refuses (Bounds which) Failed) ignored
answer state live set (Bad at) = in_state state (Refuses (Syntax at) Idle) (Refuses (Syntax at) Failed) (Refuses (Syntax at) Failed)
answer state live set Empty = in_state state Silent Silent Silent

-- the state of the block after a command that comes to this, from the state before it
abbrev pub next_state : BlockState → Outcome → BlockState
next_state state (Commits tag) = Idle
next_state state (Replies tag warning next) = next
next_state state (Refuses refusal next) = next
next_state state Silent = state
next_state state (GivesChannels names) = state
next_state state GivesUsage = state

-- the list of the open transaction after a command that comes to this, from the list before it: what the command puts into it
-- stands at its end, a transaction that ends has none, and any other command leaves it
abbrev pub list_after : List Change → Command → Outcome → List Change
list_after changes command (Commits tag) = []
list_after changes command (Replies tag warning InBlock) = changes ++ changes_of command
list_after changes command (Replies tag warning next) = []
list_after changes command outcome = changes

-- the tag that ends an answer, where one does; that of a commit comes where its transaction has committed
abbrev pub ending_tag : Outcome → Option Tag
ending_tag (Commits done) = Some done
ending_tag (Replies done warning next) = Some done
ending_tag (Refuses refusal next) = None
ending_tag Silent = None
ending_tag (GivesChannels names) = Some (tag.Select (length names))
ending_tag GivesUsage = Some (tag.Select 1)
