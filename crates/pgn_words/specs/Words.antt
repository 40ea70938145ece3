-- The words of the queue, by name, and where each stands among the words.
use Rattle.std.specs.Prelude.{ℕ, ◌+◌, ◌*◌, ◌/◌, ◌%◌, ◌^◌, ◌<◌, ◌≤◌, max, min, List, ◌∷◌, ◌++◌, length, replicate}
use Rattle.pgn_base.specs.declared.limits.TheConstants.{FIRST_XID}
use Rattle.pgn_hub.specs.Shape.{Shape, notes_of_seats}
use Rattle.pgn_journal.specs.Packing.{page_cells}

-- what the words hold. Positions, wakes and interests have a word for each seat
pub record Content : Type 0 where
  -- 0, or the number of the session that holds the lock
  pub lock : ℕ
  -- the place after the last written cell
  pub head : ℕ
  -- the first unfinished transaction number
  pub fin : ℕ
  -- the announced tail: a mark and its place
  pub tail : ℕ
  -- the oldest kept page
  pub stop : ℕ
  -- the next transaction number
  pub xid : ℕ
  pub pos : List ℕ
  pub wakes : List ℕ
  -- for each seat the bits of the channels that its listener has told
  pub interests : List ℕ
  pub flags : List ℕ
  pub statuses : List ℕ
  pub cells : List ℕ

-- the words, in their order
abbrev pub row : Content → List ℕ
row c = c.lock ∷ c.head ∷ c.fin ∷ c.tail ∷ c.stop ∷ c.xid ∷ (c.pos ++ (c.wakes ++ (c.interests ++ (c.flags ++ (c.statuses ++ c.cells)))))

-- how many seats there are
abbrev pub seats_of : Shape → ℕ
seats_of z = length z.seats

-- as many status words as the notifications of all seats need, 32 in each, and at least one
abbrev pub status_words : Shape → ℕ
status_words z = max ((notes_of_seats z.seats + 31) / 32) 1

-- how many pages of cells there are: one more than the limit, but no more than the notifications of all seats can fill, of which
-- each takes two at most
abbrev pub ring_pages : Shape → ℕ
ring_pages z = min (z.pages + 1) (2 * notes_of_seats z.seats + 2)

-- as many cells as there are on these pages
abbrev pub room_of : Shape → ℕ
room_of z = ring_pages z * page_cells

-- where the positions begin
abbrev pub pos_at : ℕ
pos_at = 6

-- where the wakes begin
abbrev pub wakes_at : Shape → ℕ
wakes_at z = pos_at + seats_of z

-- where the interests begin
abbrev pub interests_at : Shape → ℕ
interests_at z = wakes_at z + seats_of z

-- where the flags begin
abbrev pub flags_at : Shape → ℕ
flags_at z = interests_at z + seats_of z

-- where the statuses begin
abbrev pub statuses_at : Shape → ℕ
statuses_at z = flags_at z + z.flags

-- where the cells begin
abbrev pub cells_at : Shape → ℕ
cells_at z = statuses_at z + status_words z

-- the number of a cell's word: the words of the cells are used again and again
abbrev pub cell_word : Shape → ℕ → ℕ
cell_word z at = cells_at z + at % room_of z

-- how many words there are
abbrev pub word_count : Shape → ℕ
word_count z = cells_at z + room_of z

-- a number is that of a cell's word
pub record IsCellWord (z : Shape) (word : ℕ) : Type 0 where
  pub from : cells_at z ≤ word
  pub within : word < word_count z

-- what the words of an empty queue hold: the first unfinished and the next number are the first one, and so is the tail's mark
abbrev pub first_content : Shape → Content
first_content z = record {
  lock = 0;
  head = 0;
  fin = FIRST_XID;
  tail = FIRST_XID * 2 ^ 32;
  stop = 0;
  xid = FIRST_XID;
  pos = replicate (seats_of z) 0;
  wakes = replicate (seats_of z) 0;
  interests = replicate (seats_of z) 0;
  flags = replicate z.flags 0;
  statuses = replicate (status_words z) 0;
  cells = replicate (room_of z) 0;
}
