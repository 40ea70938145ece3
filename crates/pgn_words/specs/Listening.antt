-- Listeners: what each of their steps makes of the pass, and what it tells.
use Rattle.std.specs.Prelude.{◌≡◌, ℕ, ◌+◌, ◌%◌, ◌^◌, ◌<◌, ◌≤◌, max, List, [], ◌∷◌, ◌++◌, length, slice_get, Some, None, All, true, false}
use Rattle.atomic_table.specs.Table.{Step}
use Rattle.pgn_journal.specs.declared.tx.Tx.{Tx}
use Rattle.pgn_journal.specs.Begins.{Begins}
use Rattle.pgn_journal.specs.Journal.{next_xid, IsFinished}
use Rattle.pgn_journal.specs.Packing.{image}
use Rattle.pgn_journal.specs.Pieces.{IsWritten}
use Rattle.pgn_hub.specs.Shape.{notes_of_seats}
use Rattle.pgn_words.specs.declared.view.View.{View}
use Rattle.pgn_words.specs.declared.view.Listen.TheVariants.{Out, Joining, Based, Registered}
use Rattle.pgn_words.specs.declared.view.Stage.TheVariants.{Still, Begun, Shown}
use Rattle.pgn_words.specs.Words.{room_of, cells_at}
use Rattle.pgn_words.specs.Positions.{mark_in, place_in, IsPlacedIn}
use Rattle.pgn_words.specs.Told.{Mine}

-- its position says that it joins
abbrev pub joining : View → View
joining v = record v { post = record v.post { listen = Joining } }

-- what the store of a word that says so tells
pub record TellsJoining (s : Step ℕ) (v : Mine) (n : ℕ) (w : Mine) : Type 0 where
  pub slots : w.1 ≡ v.1
  pub view : w.0 ≡ joining v.0

-- it has loaded the announced tail: a mark within what it now knows of the journal, and the mark's place
pub record HasBase (v : View) (mark at : ℕ) (w : View) : Type 0 where
  pub more : List Tx
  pub view : w ≡ record v { known = record v.known { seen = v.known.seen ++ more }; post = record { listen = Based; mark = mark; at = at } }
  pub placed : IsPlacedIn w.setup.format w.known.seen mark at

-- what the load of the tail by a joiner tells
pub record TellsBase (s : Step ℕ) (v : Mine) (n : ℕ) (w : Mine) : Type 0 where
  pub slots : w.1 ≡ v.1
  pub base : HasBase v.0 (mark_in n) (place_in n) w.0
  pub kept : (w.0.setup ≡ v.0.setup) × (w.0.ended ≡ v.0.ended)

-- it is a listener from its base on, which has told no channel yet, and owes a read
abbrev pub registered : View → View
registered v = record v {
  known = record v.known { mark = Some v.post.mark; set = []; marks = v.known.marks ++ v.post.mark ∷ []; owes = true };
  post = record v.post { listen = Registered };
  walk = record v.walk { stage = Still };
}

-- what the store of its base as its position tells
pub record TellsRegistered (s : Step ℕ) (v : Mine) (n : ℕ) (w : Mine) : Type 0 where
  pub slots : w.1 ≡ v.1
  pub view : w.0 ≡ registered v.0

-- It has loaded the first unfinished number, to which it goes. It then knows the journal up to it, and the number is no less than its mark.
pub record HasBegun (v : View) (n : ℕ) (w : View) : Type 0 where
  pub more : List Tx
  pub view : w ≡ record v { known = record v.known { seen = v.known.seen ++ more }; walk = record v.walk { stage = Begun; upto = n } }
  pub number : n ≡ next_xid w.known.seen
  pub finished : All IsFinished w.known.seen
  -- each of them has a status
  pub few : length w.known.seen ≤ notes_of_seats w.setup.seats
  -- its mark belongs to what it knows
  pub placed : IsPlacedIn w.setup.format w.known.seen w.post.mark w.post.at

-- what the load of the first unfinished number by a listener tells
pub record TellsBegun (s : Step ℕ) (v : Mine) (n : ℕ) (w : Mine) : Type 0 where
  pub slots : w.1 ≡ v.1
  pub begun : HasBegun v.0 n w.0
  pub low : n < 2 ^ 32
  pub kept : (w.0.setup ≡ v.0.setup) × (w.0.ended ≡ v.0.ended)

-- It has loaded the head, which shows a journal: what it knows, and more. All of it is written, the last may not be finished.
pub record HasShown (v : View) (n : ℕ) (w : View) : Type 0 where
  pub shown : List Tx
  pub view : w ≡ record v { walk = record v.walk { stage = Shown; shown = shown } }
  pub begins : Begins v.known.seen shown
  pub written : All IsWritten shown
  pub few : next_xid shown < 2 ^ 32
  pub head : n ≡ length (image v.setup.format shown)
  pub low : n < 2 ^ 32

-- what the load of the head by a listener tells
pub record TellsShown (s : Step ℕ) (v : Mine) (n : ℕ) (w : Mine) : Type 0 where
  pub slots : w.1 ≡ v.1
  pub shown : HasShown v.0 n w.0
  pub kept : (w.0.setup ≡ v.0.setup) × (w.0.ended ≡ v.0.ended)

-- a cell from the mark's place on is that which the loaded head shows
pub record TellsShownCell (s : Step ℕ) (v : Mine) (n : ℕ) (w : Mine) : Type 0 where
  pub slots : w.1 ≡ v.1
  pub view : w.0 ≡ v.0
  pub low : n < 2 ^ 32
  pub value : (at x : ℕ) → s.word ≡ cells_at v.0.setup + at % room_of v.0.setup → v.0.post.at ≤ at
      → slice_get (image v.0.setup.format v.0.walk.shown) at ≡ Some (Some x) → n ≡ x

-- it has come to the mark that it went to, up to which it is told, at a place, and owes nothing
abbrev pub forwarded : ℕ → View → View
forwarded at v = record v {
  known = record v.known { mark = Some v.walk.upto; told = max v.known.told v.walk.upto; marks = v.known.marks ++ v.walk.upto ∷ []; owes = false };
  post = record v.post { mark = v.walk.upto; at = at };
  walk = record v.walk { stage = Still };
}

-- what the store of its new position tells
pub record TellsForwarded (s : Step ℕ) (v : Mine) (n : ℕ) (w : Mine) : Type 0 where
  pub slots : w.1 ≡ v.1
  pub view : w.0 ≡ forwarded (place_in s.first) v.0

-- it is no listener any more
abbrev pub left : View → View
left v = record v {
  known = record v.known { mark = None };
  post = record v.post { listen = Out };
  walk = record v.walk { stage = Still };
}

-- what the store of 0 as its position tells
pub record TellsLeft (s : Step ℕ) (v : Mine) (n : ℕ) (w : Mine) : Type 0 where
  pub slots : w.1 ≡ v.1
  pub view : w.0 ≡ left v.0
