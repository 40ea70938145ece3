-- What a commit does to what is known of the pass, to the set and to the items, step by step.
use Rattle.std.specs.Prelude.{◌≡◌, ◌≢◌, ℕ, ◌==◌, ◌&&◌, Bool, true, false, not, cond, is_some, length, List, [], ◌∷◌, ◌++◌, Option, Some, None, Result, Ok, Err}
use Rattle.pgn_base.specs.declared.note.Note.{Note}
use Rattle.pgn_base.specs.declared.answers.Tag.{Tag}
use Rattle.pgn_base.specs.declared.answers.Refusal.TheVariants as refused
use Rattle.pgn_base.specs.declared.queue_answers.Full.{Full}
use Rattle.pgn_base.specs.declared.queue_answers.Enlisted.{Enlisted}
use Rattle.pgn_base.specs.declared.action.Action.{Action}
use Rattle.pgn_base.specs.Channels.{applied}
use Rattle.pgn_hub.specs.declared.known.Known.{Known}
use Rattle.pgn_model.specs.declared.item.Item.{Item}
use Rattle.pgn_model.specs.declared.item.Item.TheVariants.{Line, Enlist, Publish, QueueFull, Leave, Reply, Refuse}
use Rattle.pgn_hub.specs.Shape.{Shape}
use Rattle.pgn_model.specs.laws.NextLine.{is_enlisting, is_leaving}
use Rattle.pgn_hub.specs.Calls.{HasEnlisted, HasInterest, HasPublished, HasMetFull, HasLeft}
use Rattle.pgn_block.specs.declared.effect.Kind.TheVariants.{QueueUsage}
use Rattle.pgn_block.specs.declared.effect.Effect.{Effect}
use Rattle.pgn_block.specs.declared.effect.Effect.TheVariants as effect
use Rattle.pgn_session.specs.declared.commit.Commit.{Commit}
use Rattle.pgn_session.specs.declared.command.Left.{Left}
use Rattle.pgn_session.specs.declared.command.Left.TheVariants as left
use Rattle.pgn_session.specs.declared.doing.Doing.{Doing}
use Rattle.pgn_session.specs.declared.doing.Doing.TheVariants.{Committing}

-- a session stands so that keeps this commit, since memory did not suffice for it
abbrev pub committing : Commit → Doing
committing commit = Committing commit.actions commit.notes commit.tag

-- what is left to do of a command that came to this, once what the block and the set tell is shown
abbrev pub left_of : Effect → Left
left_of (effect.Query QueueUsage) = left.Usage
left_of (effect.Commit actions notes tag) = left.Commit (record { actions = actions; notes = notes; tag = tag })
left_of effect = left.Nothing

-- the session has become a listener, where it was to
abbrev pub HasJoined : Bool → Known → Known → Option Enlisted → Type 0
HasJoined true old new (Some got) = HasEnlisted old new got
HasJoined true old new None = ⊥
HasJoined false old new (Some got) = ⊥
HasJoined false old new None = new ≡ old

-- the notifications were published or met a full queue, where there were any
abbrev pub HasSent : Shape → Known → Known → List Note → Option (Result ℕ Full) → Type 0
HasSent shape old new notes None = (notes ≡ []) × (new ≡ old)
HasSent shape old new notes (Some (Ok x)) = (notes ≢ []) × HasPublished old new notes x
HasSent shape old new notes (Some (Err full)) = (notes ≢ []) × HasMetFull shape old new notes full

-- the queue was full
abbrev pub is_full : Option (Result ℕ Full) → Bool
is_full None = false
is_full (Some (Ok x)) = false
is_full (Some (Err full)) = true

-- the set after a commit
abbrev pub set_after : Option (Result ℕ Full) → List (List ℕ) → List Action → List (List ℕ)
set_after sent set actions = cond (is_full sent) set (applied set actions)

-- the transaction had actions
abbrev pub has_actions : List Action → Bool
has_actions actions = not (length actions == 0)

-- a listener is to tell its channels: the transaction had actions
abbrev pub is_telling : Option ℕ → List Action → Bool
is_telling mark actions = is_some mark && has_actions actions

-- the session is no listener any more, where it was to leave; else it has told its channels, where it was to
abbrev pub HasLeftOr : Bool → Bool → List (List ℕ) → Known → Known → Type 0
HasLeftOr true telling channels old new = HasLeft old new
HasLeftOr false true channels old new = HasInterest old new channels
HasLeftOr false false channels old new = new ≡ old

-- what each step shows
abbrev pub enlisted_items : Option Enlisted → List Item
enlisted_items None = []
enlisted_items (Some got) = Enlist got.base got.point ∷ []

abbrev pub sent_items : Option (Result ℕ Full) → List Note → List Item
sent_items None notes = []
sent_items (Some (Ok x)) notes = Publish x notes ∷ []
sent_items (Some (Err full)) notes = QueueFull full notes ∷ []

abbrev pub left_items : Bool → List Item
left_items left = cond left (Leave ∷ []) []

abbrev pub ending_item : Option (Result ℕ Full) → Tag → Item
ending_item sent tag = cond (is_full sent) (Refuse refused.QueueFull) (Reply tag None)

-- the items after a commit
abbrev pub commit_items : List Item → ℕ → Option Enlisted → Option (Result ℕ Full) → List Note → Bool → Tag → List Item
commit_items items line enlisted sent notes left tag = items ++ Line line ∷ [] ++ enlisted_items enlisted ++ sent_items sent notes ++ left_items left ++ ending_item sent tag ∷ []

-- a whole commit
pub record HasCommitted (shape : Shape) (old new : Known) (set channels : List (List ℕ)) (line : ℕ) (actions : List Action) (notes : List Note) (tag : Tag) (before after : List Item) : Type 0 where
  pub joined : Known
  pub finished : Known
  pub enlisted : Option Enlisted
  pub sent : Option (Result ℕ Full)
  pub has_joined : HasJoined (is_enlisting actions old.mark) old joined enlisted
  pub has_sent : HasSent shape joined finished notes sent
  pub channels_are : channels ≡ set_after sent set actions
  pub has_left : HasLeftOr (is_leaving finished.mark channels) (is_telling finished.mark actions) channels finished new
  pub shown : after ≡ commit_items before line enlisted sent notes (is_leaving finished.mark channels) tag
