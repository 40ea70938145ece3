-- What the steps of a block's stages are, for the contracts inside this crate.
use Rattle.std.specs.Prelude.{◌≡◌, ℕ, List, [], ◌++◌, Some, None}
use Rattle.pgn_base.specs.declared.answers.Tag.{Tag}
use Rattle.pgn_base.specs.declared.answers.Warning.TheVariants.{AlreadyInBlock}
use Rattle.pgn_answers.specs.declared.block_state.BlockState.{BlockState}
use Rattle.pgn_answers.specs.declared.block_state.BlockState.TheVariants.{Idle, InBlock, Failed}
use Rattle.pgn_base.specs.declared.command.Command.{Command}
use Rattle.pgn_answers.specs.Answers.{Outcome, Commits, Replies, GivesChannels, GivesUsage, in_state, ignored, answer, next_state}
use Rattle.pgn_answers.specs.Savepoints.{Change, changes_of, live_names}
use Rattle.pgn_block.specs.Kept.{StandsFor}
use Rattle.pgn_block.specs.declared.effect.Kind.{Kind}
use Rattle.pgn_block.specs.declared.effect.Kind.TheVariants.{ListeningChannels, QueueUsage}
use Rattle.pgn_block.specs.declared.effect.Effect.{Effect}
use Rattle.pgn_block.specs.declared.stage.Stage.{Stage}
use Rattle.pgn_block.specs.Views.{BlockView, viewed, view_of}
use Rattle.pgn_block.specs.Effects.{effect_of}

-- an open block fails
abbrev pub failed_state : BlockState → BlockState
failed_state Idle = Idle
failed_state InBlock = Failed
failed_state Failed = Failed

-- the same with its block failed, where one is open
abbrev pub failed_view : BlockView → BlockView
failed_view view = viewed (failed_state view.state) view.kept

-- a failed block goes on
abbrev pub open_state : BlockState → BlockState
open_state Idle = Idle
open_state InBlock = InBlock
open_state Failed = InBlock

-- the same with its block going on, where one is open
abbrev pub open_view : BlockView → BlockView
open_view view = viewed (open_state view.state) view.kept

-- the row of BEGIN and START TRANSACTION
abbrev pub opens : Tag → BlockState → Outcome
opens tag state = in_state state (Replies tag None InBlock) (Replies tag (Some AlreadyInBlock) InBlock) ignored

-- the row of a command that commits outside a block, and is kept in one
abbrev pub sends : Tag → BlockState → Outcome
sends tag state = in_state state (Commits tag) (Replies tag None InBlock) ignored

-- what a query comes to, with this listening set
abbrev pub asked : Kind → List (List ℕ) → Outcome
asked ListeningChannels set = GivesChannels set
asked QueueUsage set = GivesUsage

-- the row of a query
abbrev pub asks : Kind → List (List ℕ) → BlockState → Outcome
asks kind set state = in_state state (asked kind set) (asked kind set) ignored

-- the list of the open transaction after a command that comes to this and puts these changes into it
abbrev pub list_with : List Change → List Change → Outcome → List Change
list_with changes put (Commits tag) = []
list_with changes put (Replies tag warning InBlock) = changes ++ put
list_with changes put (Replies tag warning next) = []
list_with changes put outcome = changes

-- a step by a row of the table, which puts these changes into the list and comes to an outcome that may depend on the names of live
-- savepoints: for every history, what it gives, the state that it leads to, and the history that it leaves
pub record Steps (old : Stage) (put : List Change) (row : List (List ℕ) → Outcome) (effect : Effect) (new : Stage) : Type 0 where
  pub gives : (changes : List Change) → StandsFor changes (view_of old).kept → effect ≡ effect_of (changes ++ put) (row (live_names changes))
  pub leads : (changes : List Change) → StandsFor changes (view_of old).kept → (view_of new).state ≡ next_state (view_of old).state (row (live_names changes))
  pub leaves : (changes : List Change) → StandsFor changes (view_of old).kept → StandsFor (list_with changes put (row (live_names changes))) (view_of new).kept

-- a step by the command's row of the table of answers, whatever the listening set
abbrev pub IsStep : Stage → Command → Effect → Stage → Type 0
IsStep old command effect new = (set : List (List ℕ)) → Steps old (changes_of command) (λ live. answer (view_of old).state live set command) effect new
