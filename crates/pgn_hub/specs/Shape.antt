-- What a queue is opened for.
use Rattle.std.specs.Prelude.{ℕ, ◌≤◌, List, length, sum_by}
use Rattle.pgn_base.specs.declared.format.Format.{Format}
use Rattle.pgn_base.specs.declared.limits.TheConstants.{HUB_FLAGS_MAX, HUB_NOTES_MAX, PAGES_MAX, PAGES_MIN, SECTIONS_MAX}
use Rattle.pgn_hub.specs.declared.setup.SeatSetup.{SeatSetup}

-- the queue's limit in pages, how many flags there are, a seat for each session, in order, and the format of entries
pub record Shape : Type 0 where
  pub pages : ℕ
  pub flags : ℕ
  pub seats : List SeatSetup
  pub format : Format

-- how many notifications all sessions may send
abbrev pub notes_of_seats : List SeatSetup → ℕ
notes_of_seats seats = sum_by (λ seat. seat.notes) seats

-- what holds of each shape
pub record IsShape (shape : Shape) : Type 0 where
  pub some_pages : PAGES_MIN ≤ shape.pages
  pub few_pages : shape.pages ≤ PAGES_MAX
  pub few_flags : shape.flags ≤ HUB_FLAGS_MAX
  pub some_seats : 1 ≤ length shape.seats
  pub few_seats : length shape.seats ≤ SECTIONS_MAX
  pub few_notes : notes_of_seats shape.seats ≤ HUB_NOTES_MAX
