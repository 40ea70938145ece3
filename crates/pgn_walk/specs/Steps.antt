-- What the steps of the walk do.
use Rattle.std.specs.Prelude.{◌≡◌, ◌≢◌, ◌↔◌, ◌<◌, ◌≤◌, ◌||◌, ℕ, nat_le, Bool, true, false, List, length, Some, None, IfSome}
use Rattle.pgn_answers.specs.Answers.{Outcome, GivesChannels}
use Rattle.pgn_answers.specs.Savepoints.{Change}
use Rattle.pgn_journal.specs.declared.tx.Tx.{Tx}
use Rattle.pgn_journal.specs.Journal.{next_xid}
use Rattle.pgn_language.specs.declared.scenario.Section.{Section}
use Rattle.pgn_model.specs.declared.item.Item.{Item}
use Rattle.pgn_model.specs.Walk.{Terms, State, Nothing, Allowed, after_item, owing}
use Rattle.pgn_reading.specs.Completed.{with_owed}
use Rattle.pgn_block.specs.declared.effect.Effect.{Effect}
use Rattle.pgn_block.specs.Effects.{effect_of}
use Rattle.pgn_answers.specs.declared.block_state.BlockState.{BlockState}
use Rattle.pgn_answers.specs.declared.block_state.BlockState.TheVariants.{Idle}
use Rattle.pgn_ledger.specs.declared.to_show.ToShow.{ToShow}
use Rattle.pgn_ledger.specs.declared.to_show.ToShow.TheVariants as show
use Rattle.pgn_walk.specs.declared.standing.Standing.{Standing}
use Rattle.pgn_walk.specs.Standing.{Holds, known_at}

-- a step leads from one standing, which has nothing left to show, to another
abbrev pub BeginsFrom : Standing → Standing → (State → State) → Type 0
BeginsFrom old new step = (section : Section) (journal : List Tx) (s : State) → Holds section journal old s → s.owed ≡ Nothing → Holds section journal new (step s)

-- the rows are those of an outcome, if it has rows
abbrev pub HasRows : Outcome → List (List ℕ) → ℕ → Type 0
HasRows (GivesChannels channels) names count = (names ≡ channels) × (count ≡ length names)
HasRows outcome names count = Unit {0}

-- what a command comes to is owed, where the block gave this for it
abbrev pub IsGivenBy : Standing → Effect → List (List ℕ) → ℕ → Standing → Type 0
IsGivenBy old effect names count new = (section : Section) (journal : List Tx) (s : State) (changes : List Change) (outcome : Outcome) → Holds section journal old s → s.owed ≡ Nothing
    → effect ≡ effect_of changes outcome → HasRows outcome names count → Holds section journal new (owing s changes outcome)

-- an item is judged where a session stands: it is allowed exactly where the walk allows it, and then leads to the state after it
pub record Moves (terms : Terms) (journal : List Tx) (old : Standing) (item : Item) (allowed : Bool) (new : Standing) : Type 0 where
  pub judged : (s : State) → Holds terms.section journal old s → (allowed ≡ true) ↔ Allowed terms journal s (with_owed s.owed item)
  pub moved : (s : State) → Holds terms.section journal old s → allowed ≡ true → Holds terms.section journal new (after_item s (with_owed s.owed item))

-- a read may lead from here to there: from the mark on, forward, and to no number before what the session was told of or past the journal
abbrev pub Reaches : Standing → List Tx → ℕ → ℕ → Type 0
Reaches at journal from to = (at.mark ≡ Some from) × (from < to) × (at.told ≤ to) × (to ≤ next_xid journal)

-- a flag is known with a number, and else all is as it was
pub record Knows (old : Standing) (flag value : ℕ) (new : Standing) : Type 0 where
  pub same : new ≡ record old { known = new.known }
  pub more : (other most : ℕ) → IfSome (known_at new.known.entries other) (λ known. known ≤ most) ↔ (IfSome (known_at old.known.entries other) (λ known. known ≤ most) × (other ≡ flag → value ≤ most))
  pub none : (other : ℕ) → (known_at new.known.entries other ≡ None) ↔ ((known_at old.known.entries other ≡ None) × (other ≢ flag))

-- the session is to stop being a listener
abbrev pub is_leaving : ToShow → Bool
is_leaving (show.Leaving ending) = true
is_leaving show.Quitting = true
is_leaving other = false

-- no block is open
abbrev pub is_idle : BlockState → Bool
is_idle Idle = true
is_idle state = false

-- a session that stands so may read
abbrev pub may_read_at : ToShow → Bool → Bool → Bool
may_read_at show.Nothing idle over = idle || over
may_read_at (show.Awaiting flag) idle over = idle
may_read_at other idle over = false

-- the same of its section: whether no block is open, and whether no line is left
abbrev pub may_read : Standing → Section → Bool
may_read at section = may_read_at at.owed (is_idle at.block.state) (nat_le (length section.lines) at.next)
