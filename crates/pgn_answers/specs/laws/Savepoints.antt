-- Laws of savepoints, of first occurrences, and of both together.
use Rattle.std.specs.Prelude.{◌≡◌, ◌≢◌, ◌⊎◌, ℕ, true, false, cond, not, List, [], ◌∷◌, ◌++◌, filter, filter_map, Contains, AllPairs}
use Rattle.std.specs.List.{list_any}
use Rattle.pgn_base.specs.Names.{has_name}
use Rattle.pgn_base.specs.declared.note.Note.{Note}
use Rattle.pgn_base.specs.declared.action.Action.{Action}
use Rattle.pgn_answers.specs.Savepoints.{Change, Saved, Acted, Noted, RolledBack, Released, is_savepoint, has_savepoint, rolled_back, released, survivors, live_names, saved_name, acted_action, noted_note, surviving_actions, surviving_notes, same_note, firsts, has_note, live_changes, after_change}

-- ROLLBACK TO cuts everything after the last mark of its name
abbrev pub RolledBackCuts : Type 0
RolledBackCuts = (name : List ℕ) (before after : List Change) → has_savepoint name after ≡ false
    → rolled_back name (before ++ Saved name ∷ after) ≡ before ++ Saved name ∷ []

-- RELEASE takes out the last mark of its name and all later marks, and keeps the rest
abbrev pub ReleasedKeeps : Type 0
ReleasedKeeps = (name : List ℕ) (before after : List Change) → has_savepoint name after ≡ false
    → released name (before ++ Saved name ∷ after) ≡ before ++ filter (λ change. not (is_savepoint change)) after

-- what survives a ROLLBACK TO
abbrev pub SurvivesRolledBack : Type 0
SurvivesRolledBack = (changes : List Change) (name : List ℕ) → survivors (changes ++ RolledBack name ∷ []) ≡ rolled_back name (survivors changes)

-- what survives a RELEASE
abbrev pub SurvivesReleased : Type 0
SurvivesReleased = (changes : List Change) (name : List ℕ) → survivors (changes ++ Released name ∷ []) ≡ released name (survivors changes)

-- a new mark stands at the end
abbrev pub SurvivesSaved : Type 0
SurvivesSaved = (changes : List Change) (name : List ℕ) → survivors (changes ++ Saved name ∷ []) ≡ survivors changes ++ Saved name ∷ []

-- a new action stands at the end
abbrev pub SurvivesActed : Type 0
SurvivesActed = (changes : List Change) (action : Action) → survivors (changes ++ Acted action ∷ []) ≡ survivors changes ++ Acted action ∷ []

-- a new notification stands at the end
abbrev pub SurvivesNoted : Type 0
SurvivesNoted = (changes : List Change) (note : Note) → survivors (changes ++ Noted note ∷ []) ≡ survivors changes ++ Noted note ∷ []

-- a savepoint is live where a mark of its name survives
abbrev pub LiveIsSaved : Type 0
LiveIsSaved = (changes : List Change) (name : List ℕ) → has_name (live_names changes) name ≡ has_savepoint name (survivors changes)

-- and where a mark of its name is live
abbrev pub LiveHasSavepoint : Type 0
LiveHasSavepoint = (changes : List Change) (name : List ℕ) → has_name (live_names changes) name ≡ has_savepoint name (live_changes changes)

-- a savepoint is live after a ROLLBACK TO it as it was before
abbrev pub RolledBackKeepsSavepoint : Type 0
RolledBackKeepsSavepoint = (changes : List Change) (name : List ℕ) → has_name (live_names (changes ++ RolledBack name ∷ [])) name ≡ has_name (live_names changes) name

-- where no live savepoint has the name, ROLLBACK TO changes nothing
abbrev pub RolledBackOfNone : Type 0
RolledBackOfNone = (changes : List Change) (name : List ℕ) → has_name (live_names changes) name ≡ false → survivors (changes ++ RolledBack name ∷ []) ≡ survivors changes

-- where no live savepoint has the name, RELEASE changes nothing
abbrev pub ReleasedOfNone : Type 0
ReleasedOfNone = (changes : List Change) (name : List ℕ) → has_name (live_names changes) name ≡ false → survivors (changes ++ Released name ∷ []) ≡ survivors changes

-- the first list is the second with items left out
abbrev pub IsSublist : {A : Type 0} → List A → List A → Type 0
IsSublist [] ys = Unit {0}
IsSublist (x ∷ xs) [] = ⊥
IsSublist (x ∷ xs) (y ∷ ys) = ((x ≡ y) × IsSublist xs ys) ⊎ IsSublist (x ∷ xs) ys

-- first occurrences keep their order
abbrev pub FirstsInOrder : Type 0
FirstsInOrder = (notes : List Note) → IsSublist (firsts notes) notes

-- each stands once
abbrev pub FirstsDiffer : Type 0
FirstsDiffer = (notes : List Note) → AllPairs (λ a b. a ≢ b) (firsts notes)

-- and all that stood are there
abbrev pub FirstsHaveAll : Type 0
FirstsHaveAll = (notes : List Note) (note : Note) → Contains notes note → Contains (firsts notes) note

-- one more notification stands at the end if it has not stood before
abbrev pub FirstsPush : Type 0
FirstsPush = (notes : List Note) (note : Note) → firsts (notes ++ note ∷ []) ≡ cond (list_any (same_note note) notes) (firsts notes) (firsts notes ++ note ∷ [])

-- first occurrences of first occurrences are the same
abbrev pub FirstsTwice : Type 0
FirstsTwice = (notes : List Note) → firsts (firsts notes) ≡ firsts notes

-- dropping repeats goes past each change, also past ROLLBACK TO and RELEASE: whatever the list that led to what is live, one more
-- change is taken in by what is live
abbrev pub LiveAfterChange : Type 0
LiveAfterChange = (changes live : List Change) (change : Change) → live_changes changes ≡ live → live_changes (changes ++ change ∷ []) ≡ after_change live change

-- a new mark
abbrev pub LiveSaved : Type 0
LiveSaved = (changes : List Change) (name : List ℕ) → live_changes (changes ++ Saved name ∷ []) ≡ live_changes changes ++ Saved name ∷ []

-- a new action
abbrev pub LiveActed : Type 0
LiveActed = (changes : List Change) (action : Action) → live_changes (changes ++ Acted action ∷ []) ≡ live_changes changes ++ Acted action ∷ []

-- a notification that is not live yet
abbrev pub LiveNew : Type 0
LiveNew = (changes : List Change) (note : Note) → has_note note (live_changes changes) ≡ false → live_changes (changes ++ Noted note ∷ []) ≡ live_changes changes ++ Noted note ∷ []

-- a notification that is live already
abbrev pub LiveRepeated : Type 0
LiveRepeated = (changes : List Change) (note : Note) → has_note note (live_changes changes) ≡ true → live_changes (changes ++ Noted note ∷ []) ≡ live_changes changes

-- ROLLBACK TO
abbrev pub LiveRolledBack : Type 0
LiveRolledBack = (changes : List Change) (name : List ℕ) → live_changes (changes ++ RolledBack name ∷ []) ≡ rolled_back name (live_changes changes)

-- RELEASE
abbrev pub LiveReleased : Type 0
LiveReleased = (changes : List Change) (name : List ℕ) → live_changes (changes ++ Released name ∷ []) ≡ released name (live_changes changes)

-- what is live is a list that leads to itself: it has nothing more to cut, to free or to drop
abbrev pub LiveTwice : Type 0
LiveTwice = (changes : List Change) → live_changes (live_changes changes) ≡ live_changes changes

-- what is live has the names of the live savepoints
abbrev pub LiveHasNames : Type 0
LiveHasNames = (changes : List Change) → filter_map saved_name (live_changes changes) ≡ live_names changes

-- what is live has the surviving actions
abbrev pub LiveHasActions : Type 0
LiveHasActions = (changes : List Change) → filter_map acted_action (live_changes changes) ≡ surviving_actions changes

-- what is live has the first occurrences of the surviving notifications
abbrev pub LiveHasFirsts : Type 0
LiveHasFirsts = (changes : List Change) → filter_map noted_note (live_changes changes) ≡ firsts (surviving_notes changes)
