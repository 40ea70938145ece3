-- What groups of the rule share.
use Rattle.std.specs.Prelude.{◌≡◌, ℕ, ◌%◌, ◌<◌, ◌≤◌, List, get_or, slice_get, Option, Some}
use mathlib.Core.Option.{some}
use lib.ListN.{get_elem?}
use Rattle.pgn_words.specs.declared.view.View.{View}

-- each pass has it
abbrev pub Each : (ℕ → View → Type 0) → List View → Type 0
Each P views = (j : ℕ) (v : View) → get_elem? views j ≡ some v → P j v

-- the pass of some session has it
abbrev pub Someone : (View → Type 0) → List View → Type 0
Someone P views = (j : ℕ) × (v : View) × (get_elem? views j ≡ some v) × (0 < v.known.session) × P v

-- the cells hold what stands in a list of cells, from a place on. Where the pages end, the cells are used again
abbrev pub Keeps : ℕ → ℕ → List (Option ℕ) → List ℕ → Type 0
Keeps room from log cells = (i x : ℕ) → from ≤ i → slice_get log i ≡ Some (Some x) → get_or cells (i % room) 0 ≡ x
