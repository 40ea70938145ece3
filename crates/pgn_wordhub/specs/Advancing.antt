-- An advance of the tail as a whole.
use Rattle.std.specs.Prelude.{◌≡◌, ℕ, ◌≤◌, List, ◌++◌, length, Option, All, Contains}
use Rattle.pgn_journal.specs.Journal.{next_xid}
use Rattle.pgn_journal.specs.Packing.{page_of, place}
use Rattle.pgn_hub.specs.Shape.{Shape}
use Rattle.pgn_hub.specs.Calls.{met_from, met_by, LooksTwice, IsFloor}
use Rattle.pgn_words.specs.declared.view.View.{View}
use Rattle.pgn_words.specs.declared.view.Look.TheVariants.{Second}

-- of the pass an advance changes the oldest kept page, the look and what the looks have met
abbrev pub advanced_view : View → View → View
advanced_view w v = record v { stop = w.stop; eye = w.eye; known = record v.known { named = w.known.named; advance = w.known.advance } }

-- each seat was looked at twice; the floor is the least of the own number and the marks that were met, and the pages before it are free
pub record HasAdvancedTo (z : Shape) (v w : View) (mark at : ℕ) (holder : Option ℕ) : Type 0 where
  pub named : List (ℕ × ℕ)
  pub named_is : w.known.named ≡ v.known.named ++ named
  pub looked : LooksTwice z v.known.session v.known.mark w.known.advance
  pub floor : IsFloor (next_xid v.known.seen) (met_by w.known.advance) mark holder
  pub met : All (Contains named) (met_by w.known.advance)
  pub at_is : at ≡ place z.format v.known.seen mark
  pub second : w.eye.look ≡ Second
  pub all : w.eye.looked ≡ length z.seats
  pub kept : page_of w.eye.target ≤ w.stop
  pub floor_kept : page_of at ≤ w.stop
  pub needed : All (λ pair. w.eye.target ≤ place z.format v.known.seen pair.1) (met_from 1 w.known.advance.second)

-- an advance was tried, which may have given up at a joiner: of the pass it has changed the same
pub record HasTried (v w : View) : Type 0 where
  pub named : List (ℕ × ℕ)
  pub view : w ≡ record v { stop = w.stop; eye = w.eye; known = record v.known { named = v.known.named ++ named; advance = w.known.advance } }
