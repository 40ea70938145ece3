-- What is left of a transaction's list after its savepoints, and without its repeats.
use Rattle.std.specs.Prelude.{ℕ, Bool, true, false, cond, ◌&&◌, not, List, [], ◌∷◌, ◌++◌, length, Option, Some, None, bytes_eq, filter, filter_map}
use Rattle.std.specs.List.{list_any}
use Rattle.pgn_base.specs.declared.note.Note.{Note}
use Rattle.pgn_base.specs.declared.action.Action.{Action}
use Rattle.pgn_base.specs.declared.action.Action.TheVariants.{Listen, Unlisten, UnlistenAll}
use Rattle.pgn_base.specs.declared.command.Command.{Command}
use Rattle.pgn_base.specs.declared.command.Command.TheVariants as command

-- what a transaction's commands put into its list, one after another
pub data Change : Type 0 where
  -- SAVEPOINT
  Saved : (name : List ℕ) → Change
  -- LISTEN and UNLISTEN
  Acted : (action : Action) → Change
  -- NOTIFY
  Noted : (note : Note) → Change
  -- ROLLBACK TO
  RolledBack : (name : List ℕ) → Change
  -- RELEASE
  Released : (name : List ℕ) → Change

-- a mark
abbrev pub is_savepoint : Change → Bool
is_savepoint (Saved name) = true
is_savepoint change = false

-- a mark of this name
abbrev pub is_savepoint_of : List ℕ → Change → Bool
is_savepoint_of name (Saved other) = bytes_eq name other
is_savepoint_of name change = false

-- some mark has this name
abbrev pub has_savepoint : List ℕ → List Change → Bool
has_savepoint name changes = list_any (is_savepoint_of name) changes

-- without what stands after the last mark of this name; where there is none, the whole
abbrev pub rolled_back : List ℕ → List Change → List Change
rolled_back name [] = []
rolled_back name (change ∷ changes) = cond (has_savepoint name changes) (change ∷ rolled_back name changes) (cond (is_savepoint_of name change) (change ∷ []) (change ∷ changes))

-- without the last mark of this name and all later marks; where there is none, the whole
abbrev pub released : List ℕ → List Change → List Change
released name [] = []
released name (change ∷ changes) = cond (has_savepoint name changes) (change ∷ released name changes) (cond (is_savepoint_of name change) (filter (λ later. not (is_savepoint later)) changes) (change ∷ changes))

-- what is kept, and then what is left of changes
abbrev pub survivors_from : List Change → List Change → List Change
survivors_from kept [] = kept
survivors_from kept (RolledBack name ∷ changes) = survivors_from (rolled_back name kept) changes
survivors_from kept (Released name ∷ changes) = survivors_from (released name kept) changes
survivors_from kept (Saved name ∷ changes) = survivors_from (kept ++ Saved name ∷ []) changes
survivors_from kept (Acted action ∷ changes) = survivors_from (kept ++ Acted action ∷ []) changes
survivors_from kept (Noted note ∷ changes) = survivors_from (kept ++ Noted note ∷ []) changes

-- what is left of a transaction's list after its savepoints
abbrev pub survivors : List Change → List Change
survivors changes = survivors_from [] changes

-- the name of a mark
abbrev pub saved_name : Change → Option (List ℕ)
saved_name (Saved name) = Some name
saved_name change = None

-- the names of the marks that stand
abbrev pub live_names : List Change → List (List ℕ)
live_names changes = filter_map saved_name (survivors changes)

-- the action of a change
abbrev pub acted_action : Change → Option Action
acted_action (Acted action) = Some action
acted_action change = None

-- the notification of a change
abbrev pub noted_note : Change → Option Note
noted_note (Noted note) = Some note
noted_note change = None

-- how many notifications a list has, repeats and rolled back ones among them
abbrev pub count_noted : List Change → ℕ
count_noted changes = length (filter_map noted_note changes)

-- the surviving actions of a transaction's list
abbrev pub surviving_actions : List Change → List Action
surviving_actions changes = filter_map acted_action (survivors changes)

-- the surviving notifications of a transaction's list, repeats among them
abbrev pub surviving_notes : List Change → List Note
surviving_notes changes = filter_map noted_note (survivors changes)

-- the same channel and payload
abbrev pub same_note : Note → Note → Bool
same_note a b = bytes_eq a.channel b.channel && bytes_eq a.payload b.payload

-- those that have stood neither in seen nor before in the list
abbrev pub firsts_after : List Note → List Note → List Note
firsts_after seen [] = []
firsts_after seen (note ∷ notes) = cond (list_any (same_note note) seen) (firsts_after seen notes) (note ∷ firsts_after (seen ++ note ∷ []) notes)

-- first occurrences, in order
abbrev pub firsts : List Note → List Note
firsts notes = firsts_after [] notes

-- an action that listens
abbrev pub is_listen : Action → Bool
is_listen (Listen channel) = true
is_listen action = false

-- what a command puts into its transaction's list
abbrev pub changes_of : Command → List Change
changes_of (command.Savepoint name) = Saved name ∷ []
changes_of (command.RollbackTo name) = RolledBack name ∷ []
changes_of (command.Release name) = Released name ∷ []
changes_of (command.Listen name) = Acted (Listen name) ∷ []
changes_of (command.Unlisten name) = Acted (Unlisten name) ∷ []
changes_of command.UnlistenAll = Acted UnlistenAll ∷ []
changes_of (command.Notify note) = Noted note ∷ []
changes_of (command.PgNotify note) = Noted note ∷ []
changes_of other = []

-- this notification
abbrev pub is_note_of : Note → Change → Bool
is_note_of note (Noted other) = same_note note other
is_note_of note change = false

-- the notification stands in a list
abbrev pub has_note : Note → List Change → Bool
has_note note changes = list_any (is_note_of note) changes

-- without the notifications that have stood in seen or before in the list; marks and actions are kept
abbrev pub once_after : List Note → List Change → List Change
once_after seen [] = []
once_after seen (Noted note ∷ changes) = cond (list_any (same_note note) seen) (once_after seen changes) (Noted note ∷ once_after (seen ++ note ∷ []) changes)
once_after seen (change ∷ changes) = change ∷ once_after seen changes

-- without repeated notifications; marks and actions are kept
abbrev pub once : List Change → List Change
once changes = once_after [] changes

-- what is left of a transaction's list after its savepoints, without repeated notifications
abbrev pub live_changes : List Change → List Change
live_changes changes = once (survivors changes)

-- such a list after one more change
abbrev pub after_change : List Change → Change → List Change
after_change live (RolledBack name) = rolled_back name live
after_change live (Released name) = released name live
after_change live (Noted note) = cond (has_note note live) live (live ++ Noted note ∷ [])
after_change live (Saved name) = live ++ Saved name ∷ []
after_change live (Acted action) = live ++ Acted action ∷ []
