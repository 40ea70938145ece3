-- Laws of lists that begin other lists.
use Rattle.std.specs.Prelude.{◌≡◌, ◌↔◌, ℕ, ◌≤◌, List, [], ◌∷◌, ◌++◌, length, take, Some, slice_get}
use Rattle.pgn_journal.specs.Begins.{Begins}

-- the empty list and a list itself begin a list
abbrev pub BeginsAll : Type 0 → Type 0
BeginsAll A = (xs : List A) → Begins [] xs × Begins xs xs

-- a prefix of a prefix is a prefix
abbrev pub BeginsOn : Type 0 → Type 0
BeginsOn A = (xs ys zs : List A) → Begins xs ys → Begins ys zs → Begins xs zs

-- a list begins what continues it, and nothing else
abbrev pub BeginsContinued : Type 0 → Type 0
BeginsContinued A = (xs ys : List A) → Begins xs ys ↔ ((rest : List A) × (ys ≡ xs ++ rest))

-- a list begins with its first elements
abbrev pub BeginsWithTaken : Type 0 → Type 0
BeginsWithTaken A = (n : ℕ) (xs : List A) → Begins (take n xs) xs

-- a prefix is no longer
abbrev pub BeginsShorter : Type 0 → Type 0
BeginsShorter A = (xs ys : List A) → Begins xs ys → length xs ≤ length ys

-- a prefix that is as long is the whole
abbrev pub BeginsWhole : Type 0 → Type 0
BeginsWhole A = (xs ys : List A) → Begins xs ys → length ys ≤ length xs → xs ≡ ys

-- of two prefixes of a list the shorter begins the longer
abbrev pub BeginsAlike : Type 0 → Type 0
BeginsAlike A = (xs ys zs : List A) → Begins xs zs → Begins ys zs → length xs ≤ length ys → Begins xs ys

-- an element of a prefix stands at its place in the whole
abbrev pub BeginsHolds : Type 0 → Type 0
BeginsHolds A = (xs ys : List A) (k : ℕ) (x : A) → Begins xs ys → slice_get xs k ≡ Some x → slice_get ys k ≡ Some x

-- a prefix and the next element are a prefix
abbrev pub BeginsMore : Type 0 → Type 0
BeginsMore A = (xs ys : List A) (y : A) → Begins xs ys → slice_get ys (length xs) ≡ Some y → Begins (xs ++ y ∷ []) ys
