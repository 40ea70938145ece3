-- The table of answers, case by case.
use Rattle.std.proofs.Common.{◌≡◌, ℕ, List, refl, arith}
use Rattle.pgn_answers.specs.declared.block_state.BlockState.{BlockState}
use Rattle.pgn_answers.specs.declared.block_state.BlockState.TheVariants.{Idle, InBlock, Failed}
use Rattle.pgn_base.specs.declared.command.Command.{Command}
use Rattle.pgn_base.specs.declared.command.Command.TheVariants.{RollbackTo, Release}
use Rattle.pgn_answers.specs.Answers.{answer}
use Rattle.pgn_answers.specs.laws.Answers.{is_silent, is_empty_line}

-- an empty line alone is not answered, in whatever state
pub silent-empty : (state : BlockState) (live set : List (List ℕ)) (command : Command) → is_silent (answer state live set command) ≡ is_empty_line command
silent-empty Idle live set (RollbackTo name) = grind arith
silent-empty Idle live set (Release name) = grind arith
silent-empty Idle live set command = refl
silent-empty InBlock live set (RollbackTo name) = grind arith
silent-empty InBlock live set (Release name) = grind arith
silent-empty InBlock live set command = refl
silent-empty Failed live set (RollbackTo name) = grind arith
silent-empty Failed live set (Release name) = grind arith
silent-empty Failed live set command = refl
