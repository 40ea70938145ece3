-- The table of answers, written out, and the tags that end answers.
use Rattle.std.specs.Prelude.{ℕ, List, [], ◌∷◌, Option, Some, None, codes}
use Rattle.pgn_base.specs.declared.note.Note.{Note}
use Rattle.pgn_base.specs.declared.answers.Tag.{Tag}
use Rattle.pgn_base.specs.declared.answers.Tag.TheVariants as tag
use Rattle.pgn_base.specs.declared.answers.Warning.TheVariants.{AlreadyInBlock, NotInBlock}
use Rattle.pgn_base.specs.declared.answers.Which.TheVariants.{ChannelEmpty}
use Rattle.pgn_base.specs.declared.answers.Needs.TheVariants as needs
use Rattle.pgn_base.specs.declared.answers.Refusal.TheVariants.{Syntax, Bounds, NeedsBlock, NoSavepoint, Aborted}
use Rattle.pgn_answers.specs.declared.block_state.BlockState.TheVariants.{Idle, InBlock, Failed}
use Rattle.pgn_base.specs.declared.command.Command.{Command}
use Rattle.pgn_base.specs.declared.command.Command.TheVariants.{Empty, Begin, Start, Commit, Rollback, Savepoint, RollbackTo, Release, Listen, Unlisten, UnlistenAll, Notify, PgNotify, ListeningChannels, QueueUsage, Invalid, Bad}
use Rattle.pgn_answers.specs.Answers.{Outcome, Commits, Replies, Refuses, Silent, GivesChannels, GivesUsage, answer}

-- a row of the table: a command, and its answer in no block, in a block and in a failed block
pub record Row : Type 0 where
  pub command : Command
  pub idle : Outcome
  pub in_block : Outcome
  pub failed : Outcome

-- a row with these columns
abbrev pub answers_of : Command → Outcome → Outcome → Outcome → Row
answers_of command idle in_block failed = record { command = command; idle = idle; in_block = in_block; failed = failed }

-- the name of the one live savepoint
abbrev pub live_name : List ℕ
live_name = codes "s"

-- a name that no live savepoint has
abbrev pub other_name : List ℕ
other_name = codes "t"

-- the channels that are listened to
abbrev pub two_channels : List (List ℕ)
two_channels = codes "c" ∷ codes "d" ∷ []

-- the notification of the table
abbrev pub table_note : Note
table_note = record { channel = codes "c"; payload = codes "x" }

-- the table: 25001 is AlreadyInBlock, 25P01 NotInBlock and NeedsBlock, 3B001 NoSavepoint, 22023 Bounds, 42601 Syntax, 25P02 Aborted
abbrev pub answer_table : List Row
answer_table =
    answers_of Begin (Replies tag.Begin None InBlock) (Replies tag.Begin (Some AlreadyInBlock) InBlock) (Refuses Aborted Failed)
    ∷ answers_of Start (Replies tag.Start None InBlock) (Replies tag.Start (Some AlreadyInBlock) InBlock) (Refuses Aborted Failed)
    ∷ answers_of Commit (Replies tag.Commit (Some NotInBlock) Idle) (Commits tag.Commit) (Replies tag.Rollback None Idle)
    ∷ answers_of Rollback (Replies tag.Rollback (Some NotInBlock) Idle) (Replies tag.Rollback None Idle) (Replies tag.Rollback None Idle)
    ∷ answers_of (Savepoint other_name) (Refuses (NeedsBlock needs.Savepoint) Idle) (Replies tag.Savepoint None InBlock) (Refuses Aborted Failed)
    ∷ answers_of (RollbackTo live_name) (Refuses (NeedsBlock needs.RollbackTo) Idle) (Replies tag.Rollback None InBlock) (Replies tag.Rollback None InBlock)
    ∷ answers_of (RollbackTo other_name) (Refuses (NeedsBlock needs.RollbackTo) Idle) (Refuses (NoSavepoint other_name) Failed) (Refuses (NoSavepoint other_name) Failed)
    ∷ answers_of (Release live_name) (Refuses (NeedsBlock needs.Release) Idle) (Replies tag.Release None InBlock) (Refuses Aborted Failed)
    ∷ answers_of (Release other_name) (Refuses (NeedsBlock needs.Release) Idle) (Refuses (NoSavepoint other_name) Failed) (Refuses Aborted Failed)
    ∷ answers_of (Listen (codes "c")) (Commits tag.Listen) (Replies tag.Listen None InBlock) (Refuses Aborted Failed)
    ∷ answers_of (Unlisten (codes "c")) (Commits tag.Unlisten) (Replies tag.Unlisten None InBlock) (Refuses Aborted Failed)
    ∷ answers_of UnlistenAll (Commits tag.Unlisten) (Replies tag.Unlisten None InBlock) (Refuses Aborted Failed)
    ∷ answers_of (Notify table_note) (Commits tag.Notify) (Replies tag.Notify None InBlock) (Refuses Aborted Failed)
    ∷ answers_of (PgNotify table_note) (Commits (tag.Select 1)) (Replies (tag.Select 1) None InBlock) (Refuses Aborted Failed)
    ∷ answers_of ListeningChannels (GivesChannels two_channels) (GivesChannels two_channels) (Refuses Aborted Failed)
    ∷ answers_of QueueUsage GivesUsage GivesUsage (Refuses Aborted Failed)
    ∷ answers_of (Invalid ChannelEmpty) (Refuses (Bounds ChannelEmpty) Idle) (Refuses (Bounds ChannelEmpty) Failed) (Refuses Aborted Failed)
    ∷ answers_of (Bad 7) (Refuses (Syntax 7) Idle) (Refuses (Syntax 7) Failed) (Refuses (Syntax 7) Failed)
    ∷ answers_of Empty Silent Silent Silent
    ∷ []

-- the row of a command by its answers, with the one live savepoint and the two channels
abbrev pub answered : Command → Row
answered command = answers_of command (answer Idle (live_name ∷ []) two_channels command) (answer InBlock (live_name ∷ []) two_channels command)
    (answer Failed (live_name ∷ []) two_channels command)

-- an outcome of each kind
abbrev pub each_outcome : List Outcome
each_outcome = Commits tag.Notify ∷ Replies tag.Begin (Some AlreadyInBlock) InBlock ∷ Refuses Aborted Failed ∷ Silent ∷ GivesChannels two_channels ∷ GivesUsage ∷ []

-- the tags that end them
abbrev pub their_tags : List (Option Tag)
their_tags = Some tag.Notify ∷ Some tag.Begin ∷ None ∷ None ∷ Some (tag.Select 2) ∷ Some (tag.Select 1) ∷ []
