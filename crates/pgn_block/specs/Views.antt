-- What contracts see of a block.
use Rattle.std.specs.Prelude.{false, true, []}
use Rattle.pgn_answers.specs.declared.block_state.BlockState.{BlockState}
use Rattle.pgn_answers.specs.declared.block_state.BlockState.TheVariants.{Idle, InBlock, Failed}
use Rattle.pgn_block.specs.Kept.{Kept, kept}
use Rattle.pgn_block.specs.declared.stage.Stage.{Stage}
use Rattle.pgn_block.specs.declared.stage.Stage.TheVariants as stage

-- the state of a block, and what is kept of its open transaction
pub record BlockView : Type 0 where
  pub state : BlockState
  pub kept : Kept

-- a block in this state that keeps this
abbrev pub viewed : BlockState → Kept → BlockView
viewed state kept = record { state = state; kept = kept }

-- no block is open, and nothing is kept
abbrev pub idle_view : BlockView
idle_view = viewed Idle (kept [] [] [])

-- what is seen of a stage
abbrev pub view_of : Stage → BlockView
view_of (stage.Idle alloc seed) = idle_view
view_of (stage.Open false alloc seed pending) = viewed InBlock pending
view_of (stage.Open true alloc seed pending) = viewed Failed pending
