-- What a step of a block gives.
use Rattle.std.specs.Prelude.{Bool, false, not, List, [], ◌∷◌, ◌++◌}
use Rattle.pgn_answers.specs.declared.block_state.BlockState.{BlockState}
use Rattle.pgn_answers.specs.declared.block_state.BlockState.TheVariants.{Idle}
use Rattle.pgn_base.specs.declared.command.Command.{Command}
use Rattle.pgn_base.specs.declared.command.Command.TheVariants as command
use Rattle.pgn_answers.specs.Answers.{Outcome, Commits, Replies, Refuses, Silent, GivesChannels, GivesUsage, answer, next_state, list_after}
use Rattle.pgn_answers.specs.laws.Answers.{is_in_block, is_failed}
use Rattle.pgn_answers.specs.Savepoints.{Change, changes_of, live_names, surviving_actions, surviving_notes, firsts}
use Rattle.pgn_block.specs.declared.effect.Kind.TheVariants.{ListeningChannels, QueueUsage}
use Rattle.pgn_block.specs.declared.effect.Effect.{Effect}
use Rattle.pgn_block.specs.declared.effect.Effect.TheVariants.{Nothing, Reply, Refuse, Commit, Query}

-- what is given where a command comes to this; a commit hands out what is left of these changes, the command's own among them
abbrev pub effect_of : List Change → Outcome → Effect
effect_of changes (Commits tag) = Commit (surviving_actions changes) (firsts (surviving_notes changes)) tag
effect_of changes (Replies tag warning next) = Reply tag warning
effect_of changes (Refuses refusal next) = Refuse refusal
effect_of changes Silent = Nothing
effect_of changes (GivesChannels names) = Query ListeningChannels
effect_of changes GivesUsage = Query QueueUsage

-- whether a command may be refused for want of memory in this state: where it puts something into the transaction
abbrev pub takes_memory : BlockState → Command → Bool
takes_memory state (command.Savepoint name) = is_in_block state
takes_memory state (command.Listen name) = not (is_failed state)
takes_memory state (command.Unlisten name) = not (is_failed state)
takes_memory state command.UnlistenAll = not (is_failed state)
takes_memory state (command.Notify note) = not (is_failed state)
takes_memory state (command.PgNotify note) = not (is_failed state)
takes_memory state other = false

-- what commands give one after another, from a state of the block and its list
abbrev pub effects_from : BlockState → List Change → List Command → List Effect
effects_from state changes [] = []
effects_from state changes (command ∷ commands) =
    let outcome = answer state (live_names changes) [] command in
    effect_of (changes ++ changes_of command) outcome ∷ effects_from (next_state state outcome) (list_after changes command outcome) commands

-- what a session's commands give
abbrev pub effects_of : List Command → List Effect
effects_of commands = effects_from Idle [] commands
