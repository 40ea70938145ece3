-- Laws of the table of answers.
use Rattle.std.specs.Prelude.{◌≡◌, ℕ, Bool, true, false, not, ◌&&◌, ◌||◌, ◌⊎◌, List, length, Some}
use Rattle.pgn_base.specs.Names.{has_name}
use Rattle.pgn_base.specs.declared.answers.Tag.TheVariants as tag
use Rattle.pgn_answers.specs.declared.block_state.BlockState.{BlockState}
use Rattle.pgn_answers.specs.declared.block_state.BlockState.TheVariants.{Idle, InBlock, Failed}
use Rattle.pgn_base.specs.declared.command.Command.{Command}
use Rattle.pgn_base.specs.declared.command.Command.TheVariants.{Empty, Begin, Start, Commit, Rollback, RollbackTo, Listen, Unlisten, UnlistenAll, Notify, PgNotify, ListeningChannels}
use Rattle.pgn_answers.specs.Answers.{Outcome, Commits, Refuses, Silent, GivesChannels, answer, next_state, ending_tag}

-- no block is open
abbrev pub is_idle : BlockState → Bool
is_idle Idle = true
is_idle state = false

-- a block is open and has not failed
abbrev pub is_in_block : BlockState → Bool
is_in_block InBlock = true
is_in_block state = false

-- a block is open and has failed
abbrev pub is_failed : BlockState → Bool
is_failed Failed = true
is_failed state = false

-- the state after a command
abbrev pub block_after : BlockState → List (List ℕ) → List (List ℕ) → Command → BlockState
block_after state live set command = next_state state (answer state live set command)

-- BEGIN and START TRANSACTION
abbrev pub begins_block : Command → Bool
begins_block Begin = true
begins_block Start = true
begins_block command = false

-- COMMIT and ROLLBACK
abbrev pub ends_block : Command → Bool
ends_block Commit = true
ends_block Rollback = true
ends_block command = false

-- ROLLBACK TO a live savepoint
abbrev pub goes_back : List (List ℕ) → Command → Bool
goes_back live (RollbackTo name) = has_name live name
goes_back live command = false

-- the command is refused
abbrev pub is_refused : Outcome → Bool
is_refused (Refuses refusal next) = true
is_refused outcome = false

-- nothing is answered
abbrev pub is_silent : Outcome → Bool
is_silent Silent = true
is_silent outcome = false

-- the command of an empty line
abbrev pub is_empty_line : Command → Bool
is_empty_line Empty = true
is_empty_line command = false

-- the outcome is a commit
abbrev pub is_commit : Outcome → Bool
is_commit (Commits tag) = true
is_commit outcome = false

-- LISTEN, UNLISTEN, UNLISTEN *, NOTIFY and a call of pg_notify
abbrev pub is_transaction : Command → Bool
is_transaction (Listen name) = true
is_transaction (Unlisten name) = true
is_transaction UnlistenAll = true
is_transaction (Notify note) = true
is_transaction (PgNotify note) = true
is_transaction command = false

-- COMMIT
abbrev pub ends_by_commit : Command → Bool
ends_by_commit Commit = true
ends_by_commit command = false

-- the table is total: each command leads from each state to one of the three
abbrev pub TableIsTotal : Type 0
TableIsTotal = (state : BlockState) (live set : List (List ℕ)) (command : Command)
    → (block_after state live set command ≡ Idle) ⊎ (block_after state live set command ≡ InBlock) ⊎ (block_after state live set command ≡ Failed)

-- outside a block, nothing leads to a failed block
abbrev pub NothingFailsOutside : Type 0
NothingFailsOutside = (live set : List (List ℕ)) (command : Command) → is_failed (block_after Idle live set command) ≡ false

-- outside a block, exactly BEGIN and START TRANSACTION open one
abbrev pub BlocksBegin : Type 0
BlocksBegin = (live set : List (List ℕ)) (command : Command) → is_in_block (block_after Idle live set command) ≡ begins_block command

-- exactly COMMIT and ROLLBACK end a block
abbrev pub BlocksEnd : Type 0
BlocksEnd = (live set : List (List ℕ)) (command : Command) → is_idle (block_after InBlock live set command) ≡ ends_block command

-- a block fails exactly where a command in it is refused
abbrev pub BlocksFail : Type 0
BlocksFail = (live set : List (List ℕ)) (command : Command) → is_failed (block_after InBlock live set command) ≡ is_refused (answer InBlock live set command)

-- exactly COMMIT, ROLLBACK and ROLLBACK TO a live savepoint lead out of a failed block
abbrev pub WaysOut : Type 0
WaysOut = (live set : List (List ℕ)) (command : Command) → not (is_failed (block_after Failed live set command)) ≡ (ends_block command || goes_back live command)

-- COMMIT and ROLLBACK end a failed block, and ROLLBACK TO goes on in it
abbrev pub WaysOn : Type 0
WaysOn = (live set : List (List ℕ)) (command : Command)
    → (is_idle (block_after Failed live set command) ≡ ends_block command) × (is_in_block (block_after Failed live set command) ≡ goes_back live command)

-- exactly an empty line has no answer
abbrev pub OnlyEmptyIsSilent : Type 0
OnlyEmptyIsSilent = (state : BlockState) (live set : List (List ℕ)) (command : Command) → is_silent (answer state live set command) ≡ is_empty_line command

-- outside a failed block the channels that are shown are those listened to, and their number stands in the tag
abbrev pub ChannelsAreCounted : Type 0
ChannelsAreCounted = (live set : List (List ℕ)) (state : BlockState) → is_failed state ≡ false
    → (answer state live set ListeningChannels ≡ GivesChannels set) × (ending_tag (answer state live set ListeningChannels) ≡ Some (tag.Select (length set)))

-- a command commits exactly where it is LISTEN, UNLISTEN, UNLISTEN *, NOTIFY or a call of pg_notify and no block is open, or where
-- it is COMMIT in a block that has not failed
abbrev pub WhatCommits : Type 0
WhatCommits = (state : BlockState) (live set : List (List ℕ)) (command : Command)
    → is_commit (answer state live set command) ≡ (is_transaction command && is_idle state || ends_by_commit command && is_in_block state)
