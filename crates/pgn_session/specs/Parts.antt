-- What the parts of a call do to what is known of the pass and to the items.
use Rattle.std.specs.Prelude.{◌≡◌, ℕ, true, false, Option, Some, None, List, [], ◌∷◌, ◌++◌, cond, nat_lt, length}
use Rattle.pgn_base.specs.declared.note.Delivery.{Delivery}
use Rattle.pgn_base.specs.declared.answers.Tag.TheVariants as tag
use Rattle.pgn_base.specs.declared.queue_answers.Usage.{Usage}
use Rattle.pgn_hub.specs.Shape.{Shape}
use Rattle.pgn_hub.specs.declared.known.Known.{Known}
use Rattle.pgn_model.specs.declared.item.Item.{Item}
use Rattle.pgn_model.specs.declared.item.Item.TheVariants as item
use Rattle.pgn_base.specs.declared.format.Format.{Format}
use Rattle.pgn_base.specs.declared.command.Command.{Command}
use Rattle.pgn_answers.specs.Savepoints.{Change, changes_of, live_names}
use Rattle.pgn_answers.specs.Answers.{answer, next_state, list_after}
use Rattle.pgn_block.specs.Kept.{StandsFor}
use Rattle.pgn_block.specs.Views.{BlockView}
use Rattle.pgn_block.specs.Effects.{effect_of}
use Rattle.pgn_block.specs.declared.effect.Kind.TheVariants.{ListeningChannels, QueueUsage}
use Rattle.pgn_block.specs.declared.effect.Effect.{Effect}
use Rattle.pgn_block.specs.declared.effect.Effect.TheVariants as effect
use Rattle.pgn_session.specs.declared.doing.IdleDone.{IdleDone}
use Rattle.pgn_session.specs.declared.doing.IdleDone.TheVariants.{InBlock, NotListening, Quiet, Read}
use Rattle.pgn_hub.specs.Calls.{HasRead, HasWoken, HasLeft, HasMeasured}

-- the second items begin with the first
pub record Begins (front whole : List Item) : Type 0 where
  pub more : List Item
  pub split : whole ≡ front ++ more

-- the items after a read from one mark to another: it is shown where the mark has moved
abbrev pub with_read : List Item → ℕ → ℕ → List Delivery → List Item
with_read items from to got = cond (nat_lt from to) (items ++ item.Read from to got ∷ []) items

-- the session has read from one mark to another, and shows it where the mark has moved
pub record HasReadOn (old new : Known) (set : List (List ℕ)) (from to : ℕ) (before after : List Item) : Type 0 where
  pub got : List Delivery
  pub read : HasRead old new set to [] got
  pub shown : after ≡ with_read before from to got

-- what an idle session did: it was woken exactly where it has read
abbrev pub HasIdled : Format → Known → Known → List (List ℕ) → List Item → List Item → IdleDone → Type 0
HasIdled format old new set before after InBlock = (new ≡ old) × (after ≡ before)
HasIdled format old new set before after NotListening = (new ≡ old) × (after ≡ before)
HasIdled format old new set before after Quiet = HasWoken format old new false × (after ≡ before)
HasIdled format old new set before after (Read to) = (from : ℕ) × (between : Known) × HasWoken format old between true × HasReadOn between new set from to before after

-- the last read of a session: who is no listener does nothing
abbrev pub HasFinishedFrom : Option ℕ → Known → Known → List (List ℕ) → List Item → List Item → Type 0
HasFinishedFrom None old new set before after = (new ≡ old) × (after ≡ before)
HasFinishedFrom (Some from) old new set before after = (to : ℕ) × HasReadOn old new set from to before after

abbrev pub HasFinished : Known → Known → List (List ℕ) → List Item → List Item → Type 0
HasFinished old new set before after = HasFinishedFrom old.mark old new set before after

-- the items after a look at an awaited flag that found this, with so many looks so far
abbrev pub looked_items : List Item → ℕ → ℕ → Option ℕ → List Item
looked_items items looks patience (Some value) = items ++ item.Found value ∷ []
looked_items items looks patience None = cond (nat_lt looks patience) items (items ++ item.TimedOut looks ∷ [])

-- a session with this mark is no listener any more
abbrev pub HasQuitFrom : Option ℕ → Known → Known → Type 0
HasQuitFrom None old new = new ≡ old
HasQuitFrom (Some mark) old new = HasLeft old new

abbrev pub HasQuit : Known → Known → Type 0
HasQuit old new = HasQuitFrom old.mark old new

-- the session has shown the queue's usage
pub record HasShownUsage (shape : Shape) (old new : Known) (line : ℕ) (before after : List Item) : Type 0 where
  pub usage : Usage
  pub measured : HasMeasured shape old new usage
  pub shown : after ≡ before ++ item.Line line ∷ [] ++ item.Used usage ∷ [] ++ item.Reply (tag.Select 1) None ∷ []

-- a block has taken a command, for every history of its open transaction and every listening set
pub record HasTaken (old : BlockView) (command : Command) (effect : Effect) (new : BlockView) : Type 0 where
  pub gives : (changes : List Change) (set : List (List ℕ)) → StandsFor changes old.kept → effect ≡ effect_of (changes ++ changes_of command) (answer old.state (live_names changes) set command)
  pub leads : (changes : List Change) (set : List (List ℕ)) → StandsFor changes old.kept → new.state ≡ next_state old.state (answer old.state (live_names changes) set command)
  pub leaves : (changes : List Change) (set : List (List ℕ)) → StandsFor changes old.kept
      → StandsFor (list_after changes command (answer old.state (live_names changes) set command)) new.kept

-- the items after a line that asks for the channels
abbrev pub rows_items : List Item → ℕ → List (List ℕ) → ℕ → List Item
rows_items items line names count = items ++ item.Line line ∷ [] ++ item.Channels names ∷ [] ++ item.Reply (tag.Select count) None ∷ []

-- the items after a line that the block has answered so, where the set is this
abbrev pub answered_items : List Item → ℕ → List (List ℕ) → Effect → List Item
answered_items items line set effect.Nothing = items ++ item.Line line ∷ []
answered_items items line set (effect.Reply tag warning) = items ++ item.Line line ∷ [] ++ item.Reply tag warning ∷ []
answered_items items line set (effect.Refuse refusal) = items ++ item.Line line ∷ [] ++ item.Refuse refusal ∷ []
answered_items items line set (effect.Query ListeningChannels) = items ++ item.Line line ∷ [] ++ item.Channels set ∷ [] ++ item.Reply (tag.Select (length set)) None ∷ []
answered_items items line set effect = items

-- the block alone, and the set, tell the answer
abbrev pub IsToldByBlock : Effect → Type 0
IsToldByBlock (effect.Commit actions notes tag) = ⊥
IsToldByBlock (effect.Query QueueUsage) = ⊥
IsToldByBlock effect = Unit {0}
