-- How transactions are put into their places: the transaction numbered x goes to place x - 3.
use Rattle.std.specs.Prelude.{◌≡◌, ◌≢◌, ◌↔◌, ℕ, ◌+◌, ◌-◌, ◌<◌, ◌≤◌, max, List, ◌++◌, length, replicate, Option, Some, None, IfSome, slice_get, All}
use Rattle.pgn_base.specs.declared.limits.TheConstants.{FIRST_XID}
use Rattle.pgn_journal.specs.declared.tx.Tx.{Tx}
use Rattle.pgn_model.specs.declared.item.Item.{Item}
use Rattle.pgn_model.specs.declared.trace.Trace.{Trace}
use Rattle.pgn_reading.specs.Merged.{finished}

-- the place holds the transaction
abbrev pub Holds : List (Option Tx) → ℕ → Tx → Type 0
Holds slots place tx = slice_get slots place ≡ Some (Some tx)

-- what the places hold stands at the same places in the journal
pub record IsPartOf (journal : List Tx) (slots : List (Option Tx)) : Type 0 where
  pub few : length slots ≤ length journal
  pub same : (place : ℕ) (tx : Tx) → Holds slots place tx → slice_get journal place ≡ Some tx

-- what a place held it holds still
abbrev pub Keeps : List (Option Tx) → List (Option Tx) → Type 0
Keeps old new = (place : ℕ) (tx : Tx) → Holds old place tx → Holds new place tx

-- the transaction stands in its place
abbrev pub IsInPlace : List (Option Tx) → ℕ × Tx → Type 0
IsInPlace slots pair = Holds slots (pair.0 - FIRST_XID) pair.1

-- what an item of a session's trace shows as finished stands in its place
abbrev pub IsPlaced : List (Option Tx) → ℕ → ℕ → Item → Type 0
IsPlaced slots session db item = IfSome (finished session db item) (IsInPlace slots)

-- there are places up to this one, and the new ones are empty
pub record IsWidened (old new : List (Option Tx)) (place : ℕ) : Type 0 where
  pub more : ℕ
  pub wider : new ≡ old ++ replicate more None
  pub there : place < length new
  pub exact : length new ≡ max (length old) (place + 1)

-- empty places were made, and no more than up to this one
pub record GoesOnEmpty (old new : List (Option Tx)) (place : ℕ) : Type 0 where
  pub more : ℕ
  pub longer : new ≡ old ++ replicate more None
  pub no_more : length new ≤ max (length old) (place + 1)

-- a place was given a transaction
pub record IsFilled (old new : List (Option Tx)) (place : ℕ) (tx : Tx) : Type 0 where
  pub there : Holds new place tx
  pub exact : length new ≡ max (length old) (place + 1)
  pub others : (k : ℕ) (other : Tx) → k ≢ place → Holds new k other ↔ Holds old k other

-- items of a session's trace were put into their places, where all that they show stands in the journal
pub record HasPlaced (journal : List Tx) (session db : ℕ) (items : List Item) (old new : List (Option Tx)) : Type 0 where
  pub keeps : Keeps old new
  pub placed : All (IsPlaced new session db) items
  pub part : IsPartOf journal new

-- the items of traces were put into their places
pub record HasPlacedAll (journal : List Tx) (traces : List Trace) (slots : List (Option Tx)) : Type 0 where
  pub placed : All (λ trace. All (IsPlaced slots trace.session trace.db) trace.items) traces
  pub part : IsPartOf journal slots
