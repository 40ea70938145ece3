-- What a transaction of one command hands out.
use Rattle.std.proofs.Common.{◌≡◌, List, [], ◌∷◌, ◌++◌, ap, ◌∙◌}
use Rattle.pgn_base.specs.declared.answers.Tag.{Tag}
use Rattle.pgn_base.specs.declared.note.Note.{Note}
use Rattle.pgn_base.specs.declared.action.Action.{Action}
use Rattle.pgn_answers.specs.Answers.{Commits}
use Rattle.pgn_answers.specs.Savepoints.{Change, Acted, Noted, surviving_actions}
use Rattle.pgn_block.specs.Kept.{kept, StandsFor}
use Rattle.pgn_block.proofs.KeptLemmas.{after-acted, after-noted, kept-actions, kept-notes}
use Rattle.pgn_block.specs.declared.effect.Effect.{Effect}
use Rattle.pgn_block.specs.declared.effect.Effect.TheVariants.{Commit}
use Rattle.pgn_block.specs.Effects.{effect_of}

-- what is kept is handed out
handed : (changes : List Change) (actions : List Action) (notes : List Note) (tag : Tag) → StandsFor changes (kept actions notes []) → Commit actions notes tag ≡ effect_of changes (Commits tag)
handed changes actions notes tag h =
    ap (λ (left : List Action). let effect : Effect = Commit left notes tag in effect) (kept-actions changes (kept actions notes []) h)
    ∙ ap (λ (left : List Note). let effect : Effect = Commit (surviving_actions changes) left tag in effect) (kept-notes changes (kept actions notes []) h)

-- of one LISTEN or UNLISTEN the action
pub acted-alone : (changes : List Change) (action : Action) (tag : Tag) → StandsFor changes (kept [] [] []) → Commit (action ∷ []) [] tag ≡ effect_of (changes ++ Acted action ∷ []) (Commits tag)
acted-alone changes action tag h = handed (changes ++ Acted action ∷ []) (action ∷ []) [] tag (after-acted changes (kept [] [] []) action h)

-- of one NOTIFY the notification
pub noted-alone : (changes : List Change) (note : Note) (tag : Tag) → StandsFor changes (kept [] [] []) → Commit [] (note ∷ []) tag ≡ effect_of (changes ++ Noted note ∷ []) (Commits tag)
noted-alone changes note tag h = handed (changes ++ Noted note ∷ []) [] (note ∷ []) tag (after-noted changes (kept [] [] []) note h)
