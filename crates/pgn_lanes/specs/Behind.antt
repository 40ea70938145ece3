-- Which listeners a commit wakes, and the mask that names them.
use Rattle.std.specs.Prelude.{◌≡◌, ℕ, ◌+◌, ◌/◌, ◌%◌, ◌==◌, nat_le, Bool, false, not, List, [], ◌∷◌, slice_index, slice_index_or, if◌then◌else◌}
use Rattle.std.specs.Int.{bit_at}

-- how many cells a page has
abbrev pub page_cells : ℕ
page_cells = 2048

-- how many pages a listener of another database may be behind before it is woken
abbrev pub pages_behind : ℕ
pages_behind = 4

-- the page on which a cell lies
abbrev pub page_of : ℕ → ℕ
page_of cell = cell / page_cells

-- whether a writer of a database that has moved the head to a cell wakes a listener at a position: one of its own database where it has
-- anything to read, and any other where it is four pages behind
abbrev pub is_woken : ℕ → ℕ → ℕ → ℕ → Bool
is_woken head db position own = if own == db then not (position == head) else nat_le (page_of position + pages_behind) (page_of head)

-- the same of each listener in turn, by its position and its database
abbrev pub plain_behind : ℕ → ℕ → List ℕ → List ℕ → List Bool
plain_behind head db [] owns = []
plain_behind head db (position ∷ positions) [] = []
plain_behind head db (position ∷ positions) (own ∷ owns) = is_woken head db position own ∷ plain_behind head db positions owns

-- whether a bit of a mask of words of 64 bits is set, counted from the lowest bit of its first word
abbrev pub mask_bit : List ℕ → ℕ → Bool
mask_bit mask i = bit_at (slice_index mask (i / 64)) (i % 64) == 1

-- the bits of a mask are the answers of a list in turn, and no bit past them is set
abbrev pub Marks : List ℕ → List Bool → Type 0
Marks mask answers = (i : ℕ) → mask_bit mask i ≡ slice_index_or answers i false
