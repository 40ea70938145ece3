-- The two looks of an advance, seat by seat.
use Rattle.std.specs.Prelude.{◌≡◌, ℕ, ◌<◌, ◌≤◌, ◌==◌, cond, List, ◌++◌, length, Option, Some, IfSome, All, Contains}
use Rattle.pgn_journal.specs.Packing.{place}
use Rattle.pgn_hub.specs.Calls.{met_from}
use Rattle.pgn_hub.specs.Passes.{no_advance}
use Rattle.pgn_words.specs.declared.view.View.{View}
use Rattle.pgn_words.specs.declared.view.Look.TheVariants.{First, Second}
use Rattle.pgn_words.specs.Positions.{mark_in, place_in}
use Rattle.pgn_words.specs.Looking.{look_begun}
use Rattle.pgn_wordhub.specs.Floors.{IsFloorOf}

-- a look has come over the first seats, and the pass's own seat has shown its own mark
pub record HasCome (session : ℕ) (mark : Option ℕ) (seats : ℕ) (look : List (Option ℕ)) : Type 0 where
  pub long : length look ≡ seats
  pub own : All (λ pair. pair.0 ≡ session → mark ≡ Some pair.1) (met_from 1 look)
  pub own_met : session ≤ seats → IfSome mark (λ own. Contains (met_from 1 look) (session, own))

-- the pass as the first look goes to a seat: the look begins with the first one
abbrev pub begun_at : ℕ → View → View
begun_at seat v = cond (seat == 0) (look_begun v) v

-- The first look has come over the first seats. Of the pass it changes the look and what its looks have met.
pub record HasSeenFirst (v w : View) (seats mark at : ℕ) (holder : Option ℕ) : Type 0 where
  pub first : List (Option ℕ)
  pub view : w ≡ record v { eye = w.eye; known = record v.known { named = v.known.named ++ met_from 1 first; advance = record no_advance { first = first } } }
  pub look : w.eye.look ≡ First
  pub looked : w.eye.looked ≡ seats
  pub come : HasCome v.known.session v.known.mark seats first
  pub floor : IsFloorOf v.setup.format v.known.seen (met_from 1 first) w.eye.least mark at holder

-- The second look has come over the first seats. Of the pass it changes the same.
pub record HasSeenSecond (v w : View) (seats mark at : ℕ) (holder : Option ℕ) : Type 0 where
  pub second : List (Option ℕ)
  pub view : w ≡ record v { eye = w.eye; known = record v.known { named = v.known.named ++ met_from 1 second; advance = record v.known.advance { second = second } } }
  pub look : w.eye.look ≡ Second
  pub looked : w.eye.looked ≡ seats
  pub come : HasCome v.known.session v.known.mark seats second
  pub floor : IsFloorOf v.setup.format v.known.seen (met_from 1 v.known.advance.first ++ met_from 1 second) w.eye.least mark at holder
  pub announced : w.eye.looked ≡ 0 → mark_in w.eye.least ≤ mark_in w.eye.tail
  pub no_later : 0 < w.eye.looked → place_in w.eye.least ≤ w.eye.target
  -- the first place that is needed is no later than any that this look has met
  pub needed : All (λ pair. w.eye.target ≤ place v.setup.format v.known.seen pair.1) (met_from 1 second)

-- The second look has come over some seats, and may have given up at a joiner. Of the pass it changes the same.
pub record HasSeenSome (v w : View) : Type 0 where
  pub second : List (Option ℕ)
  pub view : w ≡ record v { eye = w.eye; known = record v.known { named = v.known.named ++ met_from 1 second; advance = record v.known.advance { second = second } } }
  pub look : w.eye.look ≡ Second
