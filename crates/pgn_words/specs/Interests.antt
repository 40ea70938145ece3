-- Interests: what a listener tells of its channels, and what a writer loads of it.
use Rattle.std.specs.Prelude.{◌≡◌, ℕ, ◌+◌, List, slice_set, true}
use Rattle.atomic_table.specs.Table.{Step}
use Rattle.pgn_base.specs.Interest.{interest}
use Rattle.pgn_journal.specs.Interest.{channels_of, meets}
use Rattle.pgn_words.specs.declared.view.View.{View}
use Rattle.pgn_words.specs.declared.view.Stage.TheVariants.{Still}
use Rattle.pgn_words.specs.Words.{interests_at}
use Rattle.pgn_words.specs.Told.{Mine, IsSamePass}

-- the listener has told these channels, is on no way to a later mark, and owes a read
abbrev pub interested : List (List ℕ) → View → View
interested set v = record v { known = record v.known { set = set; owes = true }; walk = record v.walk { stage = Still } }

-- what the store of its interest tells
pub record TellsInterested (set : List (List ℕ)) (s : Step ℕ) (v : Mine) (n : ℕ) (w : Mine) : Type 0 where
  pub slots : w.1 ≡ v.1
  pub view : w.0 ≡ interested set v.0

-- the writer has loaded this interest of a seat: the transaction may concern its listener where both have a bit in common
abbrev pub interest_loaded : ℕ → ℕ → View → View
interest_loaded seat n v = record v { concerned = slice_set v.concerned seat (meets n (interest (channels_of v.pen.ending.notes))) }

-- what the load of an interest tells
pub record TellsInterest (s : Step ℕ) (v : Mine) (n : ℕ) (w : Mine) : Type 0 where
  pub slots : w.1 ≡ v.1
  pub view : (seat : ℕ) → s.word ≡ interests_at v.0.setup + seat → w.0 ≡ interest_loaded seat n v.0
  pub same : IsSamePass v.0 w.0
