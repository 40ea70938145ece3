-- The two looks of an advance of the tail: what each step makes of the pass, and what it tells.
use Rattle.std.specs.Prelude.{◌≡◌, ◌⊎◌, ℕ, ◌+◌, ◌==◌, ◌^◌, ◌<◌, ◌≤◌, min, cond, [], ◌∷◌, ◌++◌, length, Some, None}
use Rattle.atomic_table.specs.Table.{Step}
use Rattle.pgn_base.specs.declared.limits.TheConstants.{FIRST_XID}
use Rattle.pgn_journal.specs.Journal.{next_xid}
use Rattle.pgn_journal.specs.Packing.{page_of, image}
use Rattle.pgn_hub.specs.Passes.{no_advance}
use Rattle.pgn_words.specs.declared.pos_word.PosWord.{PosWord}
use Rattle.pgn_words.specs.declared.pos_word.PosWord.TheVariants as words
use Rattle.pgn_words.specs.declared.view.View.{View}
use Rattle.pgn_words.specs.declared.view.Look.TheVariants.{First, Second}
use Rattle.pgn_words.specs.Words.{seats_of, pos_at}
use Rattle.pgn_words.specs.Positions.{packed, mark_in, place_in, position_in, shown_as, marked, place_or, met_at, IsPlacedIn, IsPositionIn}
use Rattle.pgn_words.specs.Told.{Mine, IsSamePass}

-- The first look may look at a seat: it is the first one, with which the look begins, or the next.
abbrev pub MayLookFirst : View → ℕ → Type 0
MayLookFirst v seat = (seat ≡ 0) ⊎ ((v.eye.look ≡ First) × (v.eye.looked ≡ seat))

-- A look begins: nobody's mark is below the first unfinished number, which is that of an open transaction too, and its place is the
-- journal's end.
abbrev pub look_begun : View → View
look_begun v = record v {
  eye = record { look = First; looked = 0; least = packed (next_xid v.known.seen) (length (image v.setup.format v.known.seen)); tail = 0; target = 0; joins = None };
  known = record v.known { advance = no_advance };
}

-- the least mark so far with its place, after a position
abbrev pub least_after : PosWord → ℕ → ℕ
least_after words.Out least = least
least_after words.Joining least = least
least_after (words.At mark at) least = min (packed mark at) least

-- the first look has looked at a seat
abbrev pub looked_first : ℕ → PosWord → View → View
looked_first seat position v = record v {
  eye = record v.eye { looked = seat + 1; least = least_after position v.eye.least };
  known = record v.known {
    named = v.known.named ++ met_at seat position;
    advance = record v.known.advance { first = v.known.advance.first ++ marked position ∷ [] };
  };
}

-- the same, where the look begins with the first seat
abbrev pub first_looked : ℕ → PosWord → View → View
first_looked seat position v = looked_first seat position (cond (seat == 0) (look_begun v) v)

-- what a look learns of a position: it belongs to the journal, and the pass's own position is what the pass shows
pub record TellsPosition (v : View) (seat : ℕ) (position : PosWord) : Type 0 where
  pub placed : IsPositionIn v.setup.format v.known.seen position
  pub mine : seat + 1 ≡ v.known.session → position ≡ shown_as v.post.listen v.post.mark v.post.at

-- the least mark with its place belongs to the journal
abbrev pub HasLeast : View → Type 0
HasLeast v = IsPlacedIn v.setup.format v.known.seen (mark_in v.eye.least) (place_in v.eye.least)

-- what the first look makes of the pass at a seat with this position, and what it learns
pub record HasLookedFirst (v : View) (seat : ℕ) (found : PosWord) (w : View) : Type 0 where
  pub view : w ≡ first_looked seat found v
  pub position : TellsPosition v seat found
  pub least : HasLeast w

-- what the load of a position by the first look tells
pub record TellsFirstLook (s : Step ℕ) (v : Mine) (n : ℕ) (w : Mine) : Type 0 where
  pub slots : w.1 ≡ v.1
  pub looked : (seat : ℕ) → s.word ≡ pos_at + seat → HasLookedFirst v.0 seat (position_in n) w.0
  pub low : 2 ≤ n → FIRST_XID ≤ mark_in n
  pub same : IsSamePass v.0 w.0

-- the second look begins: from the announced tail's place on pages are needed
abbrev pub second_begun : ℕ → View → View
second_begun tail v = record v {
  eye = record v.eye { look = Second; looked = 0; tail = tail; target = place_in tail; joins = None };
  known = record v.known { advance = record v.known.advance { tail = Some (mark_in tail) } };
}

-- what the load of the tail by the holder tells
pub record TellsTail (s : Step ℕ) (v : Mine) (n : ℕ) (w : Mine) : Type 0 where
  pub slots : w.1 ≡ v.1
  pub view : w.0 ≡ second_begun n v.0
  pub placed : IsPlacedIn v.0.setup.format v.0.known.seen (mark_in n) (place_in n)
  pub low : n < 2 ^ 64

-- The tail may be announced: it grows to the least mark.
pub record MayAnnounce (v : View) (mark at : ℕ) : Type 0 where
  pub second : v.eye.look ≡ Second
  pub none_looked : v.eye.looked ≡ 0
  pub least : v.eye.least ≡ packed mark at
  pub grows : mark_in v.eye.tail < mark

-- the least mark is announced as the tail
abbrev pub announced : View → View
announced v = second_begun v.eye.least v

-- what the store of the tail tells
pub record TellsTailStore (s : Step ℕ) (v : Mine) (n : ℕ) (w : Mine) : Type 0 where
  pub slots : w.1 ≡ v.1
  pub view : w.0 ≡ announced v.0

-- The second look may look at a seat: it is the next one, and the announced tail has come to the least mark of the first look.
pub record MayLookSecond (v : View) (seat : ℕ) : Type 0 where
  pub second : v.eye.look ≡ Second
  pub next : v.eye.looked ≡ seat
  pub announced : seat ≡ 0 → mark_in v.eye.least ≤ mark_in v.eye.tail

-- the second look has looked at a seat
abbrev pub looked_second : ℕ → PosWord → View → View
looked_second seat position v = record v {
  eye = record v.eye { looked = seat + 1; least = least_after position v.eye.least; target = min (place_or v.eye.target position) v.eye.target; joins = None };
  known = record v.known {
    named = v.known.named ++ met_at seat position;
    advance = record v.known.advance { second = v.known.advance.second ++ marked position ∷ [] };
  };
}

-- the second look has found a session that joins at a seat
abbrev pub joins_at : ℕ → View → View
joins_at seat v = record v { eye = record v.eye { joins = Some seat } }

-- a session that joins may still come to a place before the target, so its seat does not count as looked at
abbrev pub second_looked : ℕ → PosWord → View → View
second_looked seat words.Out v = looked_second seat words.Out v
second_looked seat words.Joining v = joins_at seat v
second_looked seat (words.At mark at) v = looked_second seat (words.At mark at) v

-- the floor is no later than the first place that is needed, once a seat was looked at
abbrev pub HasFloor : View → Type 0
HasFloor v = 0 < v.eye.looked → place_in v.eye.least ≤ v.eye.target

-- what the second look makes of the pass at a seat with this position, and what it learns
pub record HasLookedSecond (v : View) (seat : ℕ) (found : PosWord) (w : View) : Type 0 where
  pub view : w ≡ second_looked seat found v
  pub position : TellsPosition v seat found
  pub least : HasLeast w
  pub floor : HasFloor w

-- what the load of a position by the second look tells
pub record TellsSecondLook (s : Step ℕ) (v : Mine) (n : ℕ) (w : Mine) : Type 0 where
  pub slots : w.1 ≡ v.1
  pub looked : (seat : ℕ) → s.word ≡ pos_at + seat → HasLookedSecond v.0 seat (position_in n) w.0
  pub low : 2 ≤ n → FIRST_XID ≤ mark_in n
  pub same : IsSamePass v.0 w.0

-- Pages before the target's may be used again: both looks are done, and this is more than before.
pub record MayFree (v : View) (page : ℕ) : Type 0 where
  pub second : v.eye.look ≡ Second
  pub all : v.eye.looked ≡ seats_of v.setup
  pub page_is : page ≡ page_of v.eye.target
  pub grows : v.stop < page

-- the oldest kept page is another one
abbrev pub stopped : ℕ → View → View
stopped page v = record v { stop = page }

-- what the store of the oldest kept page tells
pub record TellsStopStore (s : Step ℕ) (v : Mine) (n : ℕ) (w : Mine) : Type 0 where
  pub slots : w.1 ≡ v.1
  pub view : w.0 ≡ stopped s.first v.0
