-- Laws of what a step gives.
use Rattle.std.specs.Prelude.{◌≡◌, ℕ, Bool, true, false, ◌&&◌, ◌||◌, List, []}
use Rattle.pgn_answers.specs.declared.block_state.BlockState.{BlockState}
use Rattle.pgn_answers.specs.declared.block_state.BlockState.TheVariants.{Idle}
use Rattle.pgn_base.specs.declared.command.Command.{Command}
use Rattle.pgn_answers.specs.Savepoints.{Change}
use Rattle.pgn_answers.specs.Answers.{Outcome, answer, next_state, list_after}
use Rattle.pgn_answers.specs.laws.Answers.{is_idle, is_in_block, is_transaction, ends_by_commit}
use Rattle.pgn_block.specs.declared.effect.Effect.{Effect}
use Rattle.pgn_block.specs.declared.effect.Effect.TheVariants.{Commit}
use Rattle.pgn_block.specs.Effects.{effect_of}

-- actions and notifications are handed out
abbrev pub hands_out : Effect → Bool
hands_out (Commit actions notes tag) = true
hands_out effect = false

-- something is handed out exactly at a LISTEN, UNLISTEN, NOTIFY or pg_notify outside a block, and at a COMMIT in a block that has
-- not failed
abbrev pub WhatHandsOut : Type 0
WhatHandsOut = (state : BlockState) (live set : List (List ℕ)) (command : Command) (changes : List Change)
    → hands_out (effect_of changes (answer state live set command)) ≡ (is_transaction command && is_idle state || ends_by_commit command && is_in_block state)

-- where something is handed out no block is open afterwards, and nothing is left in its list
abbrev pub HandingOutEnds : Type 0
HandingOutEnds = (state : BlockState) (changes with_it : List Change) (command : Command) (outcome : Outcome)
    → hands_out (effect_of with_it outcome) ≡ true → (next_state state outcome ≡ Idle) × (list_after changes command outcome ≡ [])
