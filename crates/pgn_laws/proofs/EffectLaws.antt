-- Laws of what a step gives.
use Rattle.std.proofs.Common.{◌≡◌, ℕ, true, ◌&&◌, ◌||◌, List, [], refl, ◌∙◌}
use Rattle.pgn_answers.specs.declared.block_state.BlockState.{BlockState}
use Rattle.pgn_answers.specs.declared.block_state.BlockState.TheVariants.{Idle}
use Rattle.pgn_base.specs.declared.command.Command.{Command}
use Rattle.pgn_answers.specs.Savepoints.{Change}
use Rattle.pgn_answers.specs.Answers.{Outcome, Commits, Replies, Refuses, Silent, GivesChannels, GivesUsage, answer, next_state, list_after}
use Rattle.pgn_answers.specs.laws.Answers.{is_idle, is_in_block, is_commit, is_transaction, ends_by_commit}
use Rattle.pgn_laws.proofs.AnswerLaws.{what-commits}
use Rattle.pgn_block.specs.Effects.{effect_of}
use Rattle.pgn_laws.specs.Block.{hands_out}

-- something is handed out where the outcome is a commit
hands_out-is_commit : (changes : List Change) (outcome : Outcome) → hands_out (effect_of changes outcome) ≡ is_commit outcome
hands_out-is_commit changes (Commits tag) = refl
hands_out-is_commit changes (Replies tag warning next) = refl
hands_out-is_commit changes (Refuses refusal next) = refl
hands_out-is_commit changes Silent = refl
hands_out-is_commit changes (GivesChannels names) = refl
hands_out-is_commit changes GivesUsage = refl

pub what-hands_out : (state : BlockState) (live set : List (List ℕ)) (command : Command) (changes : List Change)
    → hands_out (effect_of changes (answer state live set command)) ≡ (is_transaction command && is_idle state || ends_by_commit command && is_in_block state)
what-hands_out state live set command changes = hands_out-is_commit changes (answer state live set command) ∙ what-commits state live set command

pub handing_out-ends : (state : BlockState) (changes with_it : List Change) (command : Command) (outcome : Outcome)
    → hands_out (effect_of with_it outcome) ≡ true → (next_state state outcome ≡ Idle) × (list_after changes command outcome ≡ [])
handing_out-ends state changes with_it command (Commits tag) h = (refl, refl)
handing_out-ends state changes with_it command (Replies tag warning next) h = absurd (cc)
handing_out-ends state changes with_it command (Refuses refusal next) h = absurd (cc)
handing_out-ends state changes with_it command Silent h = absurd (cc)
handing_out-ends state changes with_it command (GivesChannels names) h = absurd (cc)
handing_out-ends state changes with_it command GivesUsage h = absurd (cc)

-- what a command hands out, and that who hands out a commit ends
pub ruleset effect_laws = (what-hands_out, handing_out-ends)
