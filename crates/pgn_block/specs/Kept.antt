-- What a transaction keeps of what it has sent and done, and the histories that it stands for.
use Rattle.std.specs.Prelude.{◌≡◌, ℕ, ◌+◌, Bool, cond, List, [], ◌∷◌, ◌++◌, bytes_eq, filter_map}
use Rattle.std.specs.List.{list_any}
use Rattle.pgn_base.specs.declared.note.Note.{Note}
use Rattle.pgn_base.specs.declared.action.Action.{Action}
use Rattle.pgn_answers.specs.Savepoints.{Change, Saved, Acted, Noted, RolledBack, Released, acted_action, noted_note, same_note, live_changes}
use Rattle.pgn_block.specs.declared.savepoint.Savepoint.{Savepoint}

-- the actions, the notifications without their repeats, and the savepoints that stand, each in order
pub record Kept : Type 0 where
  pub actions : List Action
  pub notes : List Note
  pub savepoints : List Savepoint

-- what is kept, of its three lists
abbrev pub kept : List Action → List Note → List Savepoint → Kept
kept actions notes savepoints = record { actions = actions; notes = notes; savepoints = savepoints }

-- the savepoints of a live list that stands after so many notifications and so many actions
abbrev pub savepoints_after : ℕ → ℕ → List Change → List Savepoint
savepoints_after notes actions [] = []
savepoints_after notes actions (Saved name ∷ changes) = (record { name = name; notes = notes; actions = actions }) ∷ savepoints_after notes actions changes
savepoints_after notes actions (Acted action ∷ changes) = savepoints_after notes (actions + 1) changes
savepoints_after notes actions (Noted note ∷ changes) = savepoints_after (notes + 1) actions changes
savepoints_after notes actions (RolledBack name ∷ changes) = savepoints_after notes actions changes
savepoints_after notes actions (Released name ∷ changes) = savepoints_after notes actions changes

-- what is kept of a live list
abbrev pub kept_of : List Change → Kept
kept_of live = kept (filter_map acted_action live) (filter_map noted_note live) (savepoints_after 0 0 live)

-- what is kept is that of this history, after its savepoints and without its repeats
abbrev pub StandsFor : List Change → Kept → Type 0
StandsFor changes value = kept_of (live_changes changes) ≡ value

-- some history is kept so
abbrev pub HasHistory : Kept → Type 0
HasHistory value = (changes : List Change) × StandsFor changes value

-- notifications and one more, unless an equal one is there
abbrev pub with_note : List Note → Note → List Note
with_note notes note = cond (list_any (same_note note) notes) notes (notes ++ note ∷ [])

-- the savepoint has this name
abbrev pub is_named : List ℕ → Savepoint → Bool
is_named name savepoint = bytes_eq name savepoint.name

-- some savepoint has this name
abbrev pub is_saved : List ℕ → List Savepoint → Bool
is_saved name savepoints = list_any (is_named name) savepoints
