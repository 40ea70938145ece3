-- The rule that every step on the queue keeps, and what a pass knows after each.
use Rattle.std.specs.Prelude.{◌≡◌, ℕ, ◌+◌, ◌-◌, ◌<◌, ◌≤◌, Bool, true, false, List, [], ◌∷◌, ◌++◌}
use mathlib.Core.Option.{some}
use lib.ListN.{get_elem?}
use Rattle.pgn_outlet.specs.declared.came.Came.{Came}
use Rattle.pgn_outlet.specs.declared.hand.Hand.{Hand}
use Rattle.pgn_outlet.specs.Cames.{what_of}

-- the pass may push for session n
abbrev pub MayPush : {T : Type 0} → Hand T → ℕ → Type 0
MayPush v n = (v.first ≤ n) × (n < v.first + v.count)

-- one pass, where of each session the one with this number pushes, and of all that was pushed some was taken already
pub record Fits {T : Type 0} (owner : ℕ → ℕ) (taker : ℕ) (taken all : List (Came T)) (port : ℕ) (v : Hand T) : Type 0 where
  -- for its sessions it pushes alone: what was pushed for them is what it has pushed
  pub owns : (n : ℕ) → MayPush v n → (owner n ≡ port) × (what_of n all ≡ what_of n v.sent)
  -- for others it has pushed nothing
  pub others : (n : ℕ) → (MayPush v n → ⊥) → what_of n v.sent ≡ []
  -- where it takes, it takes alone: what was taken is what it has taken
  pub has : v.takes ≡ true → (port ≡ taker) × (v.got ≡ taken)

-- each pass has it, with its number
abbrev pub Each : {T : Type 0} → (ℕ → Hand T → Type 0) → List (Hand T) → Type 0
Each {T} P views = (port : ℕ) (v : Hand T) → get_elem? views port ≡ some v → P port v

-- what was taken and what the queue holds are together what was pushed: of each session that which its one pass has pushed, in order,
-- each once
pub record Comes {T : Type 0} (items : List (Came T)) (views : List (Hand T)) : Type 0 where
  pub owner : ℕ → ℕ
  pub taker : ℕ
  pub taken : List (Came T)
  pub fits : Each (Fits owner taker taken (taken ++ items)) views

-- a pass: the first of its sessions, how many it has, what it pushed for them, whether it takes, and what it took
abbrev pub hand : {T : Type 0} → ℕ → ℕ → List (Came T) → Bool → List (Came T) → Hand T
hand first count sent takes got = record { first = first; count = count; sent = sent; takes = takes; got = got }

-- the one pass of a new queue
abbrev pub first_hand : {T : Type 0} → Hand T
first_hand = hand 1 256 [] true []

-- the two passes of a new queue: for all sessions, and for taking
abbrev pub sender : {T : Type 0} → Hand T
sender = hand 1 256 [] false []

-- and that which takes
abbrev pub taker : {T : Type 0} → Hand T
taker = hand 1 0 [] true []

-- a pass that has let go of taking, and the one that has it
abbrev pub sends_alone : {T : Type 0} → Hand T → Hand T
sends_alone v = record v { takes = false; got = [] }

-- and that which has it
abbrev pub takes_alone : {T : Type 0} → Hand T → Hand T
takes_alone v = hand 1 0 [] true v.got

-- the two parts of a pass that is cut behind so many of its sessions, by their numbers
abbrev pub lower : {T : Type 0} → ℕ → Hand T → Hand T
lower size v = record v { count = size }

-- and the sessions behind them
abbrev pub upper : {T : Type 0} → ℕ → Hand T → Hand T
upper size v = hand (v.first + size) (v.count - size) [] false []

-- two passes made one; one that has got the other's taking
abbrev pub joined : {T : Type 0} → Hand T → Hand T → Hand T
joined v w = record v { count = v.count + w.count; sent = v.sent ++ w.sent }

-- and that which has the other's taking
abbrev pub taken_over : {T : Type 0} → Hand T → Hand T → Hand T
taken_over v w = record v { takes = true; got = w.got }

-- a pass that was made one with another
abbrev pub spent : {T : Type 0} → Hand T
spent = hand 1 0 [] false []

-- a pass that has pushed, or taken, this besides
abbrev pub with_sent : {T : Type 0} → Hand T → Came T → Hand T
with_sent v came = record v { sent = v.sent ++ came ∷ [] }

-- and one that has taken this besides
abbrev pub with_got : {T : Type 0} → Hand T → Came T → Hand T
with_got v came = record v { got = v.got ++ came ∷ [] }

-- what the pass has taken, and then these, is for each of its sessions all that was pushed
abbrev pub HasAllBut : {T : Type 0} → Hand T → List (Came T) → Type 0
HasAllBut v items = (n : ℕ) → MayPush v n → what_of n (v.got ++ items) ≡ what_of n v.sent
