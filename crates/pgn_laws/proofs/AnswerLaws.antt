-- The table of answers, case by case.
use Rattle.std.proofs.Common.{◌≡◌, ℕ, false, not, ◌&&◌, ◌||◌, ◌⊎◌, inl, inr, List, length, Some, refl, arith}
use Rattle.pgn_base.specs.declared.answers.Tag.TheVariants as tag
use Rattle.pgn_answers.specs.declared.block_state.BlockState.{BlockState}
use Rattle.pgn_answers.specs.declared.block_state.BlockState.TheVariants.{Idle, InBlock, Failed}
use Rattle.pgn_base.specs.declared.command.Command.{Command}
use Rattle.pgn_base.specs.declared.command.Command.TheVariants.{RollbackTo, Release, ListeningChannels}
use Rattle.pgn_answers.specs.Answers.{GivesChannels, answer, ending_tag}
use Rattle.pgn_answers.specs.laws.Answers.{is_idle, is_in_block, is_failed, block_after, begins_block, ends_block, goes_back, is_refused, is_commit, is_transaction, ends_by_commit}
use Rattle.pgn_answers.proofs.AnswerLemmas.{silent-empty}

-- a state is one of three
three : (state : BlockState) → (state ≡ Idle) ⊎ (state ≡ InBlock) ⊎ (state ≡ Failed)
three Idle = inl refl
three InBlock = inr (inl refl)
three Failed = inr (inr refl)

pub table-is-total : (state : BlockState) (live set : List (List ℕ)) (command : Command)
    → (block_after state live set command ≡ Idle) ⊎ (block_after state live set command ≡ InBlock) ⊎ (block_after state live set command ≡ Failed)
table-is-total state live set command = three (block_after state live set command)

pub nothing-fails_outside : (live set : List (List ℕ)) (command : Command) → is_failed (block_after Idle live set command) ≡ false
nothing-fails_outside live set (RollbackTo name) = grind arith
nothing-fails_outside live set (Release name) = grind arith
nothing-fails_outside live set command = refl

pub blocks-begin : (live set : List (List ℕ)) (command : Command) → is_in_block (block_after Idle live set command) ≡ begins_block command
blocks-begin live set (RollbackTo name) = grind arith
blocks-begin live set (Release name) = grind arith
blocks-begin live set command = refl

pub blocks-end : (live set : List (List ℕ)) (command : Command) → is_idle (block_after InBlock live set command) ≡ ends_block command
blocks-end live set (RollbackTo name) = grind arith
blocks-end live set (Release name) = grind arith
blocks-end live set command = refl

pub blocks-fail : (live set : List (List ℕ)) (command : Command) → is_failed (block_after InBlock live set command) ≡ is_refused (answer InBlock live set command)
blocks-fail live set (RollbackTo name) = grind arith
blocks-fail live set (Release name) = grind arith
blocks-fail live set command = refl

pub ways-out : (live set : List (List ℕ)) (command : Command) → not (is_failed (block_after Failed live set command)) ≡ (ends_block command || goes_back live command)
ways-out live set (RollbackTo name) = grind arith
ways-out live set (Release name) = grind arith
ways-out live set command = refl

pub ends-failed : (live set : List (List ℕ)) (command : Command) → is_idle (block_after Failed live set command) ≡ ends_block command
ends-failed live set (RollbackTo name) = grind arith
ends-failed live set (Release name) = grind arith
ends-failed live set command = refl

pub goes-on : (live set : List (List ℕ)) (command : Command) → is_in_block (block_after Failed live set command) ≡ goes_back live command
goes-on live set (RollbackTo name) = grind arith
goes-on live set (Release name) = grind arith
goes-on live set command = refl

pub channels-counted : (live set : List (List ℕ)) (state : BlockState) → is_failed state ≡ false
    → (answer state live set ListeningChannels ≡ GivesChannels set) × (ending_tag (answer state live set ListeningChannels) ≡ Some (tag.Select (length set)))
channels-counted live set Idle h = (refl, refl)
channels-counted live set InBlock h = (refl, refl)
channels-counted live set Failed h = absurd (cc)

-- a command commits where it is a transaction outside a block, or ends by a commit the block that is open
pub what-commits : (state : BlockState) (live set : List (List ℕ)) (command : Command)
    → is_commit (answer state live set command) ≡ (is_transaction command && is_idle state || ends_by_commit command && is_in_block state)
what-commits Idle live set (RollbackTo name) = grind arith
what-commits Idle live set (Release name) = grind arith
what-commits Idle live set command = refl
what-commits InBlock live set (RollbackTo name) = grind arith
what-commits InBlock live set (Release name) = grind arith
what-commits InBlock live set command = refl
what-commits Failed live set (RollbackTo name) = grind arith
what-commits Failed live set (Release name) = grind arith
what-commits Failed live set command = refl

-- the laws of the table of answers
pub ruleset answer_laws = (table-is-total, nothing-fails_outside, blocks-begin, blocks-end, blocks-fail, ways-out, ends-failed, goes-on, silent-empty, channels-counted, what-commits)
