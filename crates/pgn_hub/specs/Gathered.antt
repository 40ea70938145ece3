-- What is known when all passes are gathered.
use Rattle.std.specs.Prelude.{◌≡◌, ℕ, ◌-◌, ◌<◌, ◌≤◌, List, length, flat_map, slice_get, All, Contains, IsSomeAnd}
use Rattle.pgn_journal.specs.declared.tx.Tx.{Tx}
use Rattle.pgn_hub.specs.declared.known.Known.{Known}
use Rattle.pgn_journal.specs.Begins.{Begins}
use Rattle.pgn_journal.specs.Journal.{IsFinished, next_xid, xids_of}

-- the transaction is of a session with this pass, and of its database
pub record IsBy (k : Known) (tx : Tx) : Type 0 where
  pub session : tx.session ≡ k.session
  pub database : tx.db ≡ k.db

-- the session stood at the mark: it is among the marks of its pass
abbrev pub IsAmongMarks : List Known → ℕ × ℕ → Type 0
IsAmongMarks passes pair = IsSomeAnd (slice_get passes (pair.0 - 1)) (λ k. (k.session ≡ pair.0) × Contains k.marks pair.1)

-- the journal that all passes together fix: they know prefixes of it, and it has each one's transactions
pub record Gathered (passes : List Known) (count : ℕ) : Type 0 where
  pub journal : List Tx
  pub counted : length journal ≡ count
  -- what each pass has seen begins it
  pub seen : All (λ k. Begins k.seen journal) passes
  -- the numbers of its own are those that the journal has of its session, and it has seen them
  pub own : All (λ k. k.own ≡ xids_of k.session journal) passes
  pub own_seen : All (λ k. All (λ x. x < next_xid k.seen) k.own) passes
  -- each transaction is one of a pass, and finished
  pub by_pass : All (λ tx. IsSomeAnd (slice_get passes (tx.session - 1)) (λ k. IsBy k tx)) journal
  pub finished : All IsFinished journal
  -- nobody was told of more
  pub told : All (λ k. k.told ≤ next_xid journal) passes
  -- each number that a pass found was raised for the flag by some pass
  pub found : All (λ pair. Contains (flat_map (λ k. k.raised) passes) pair) (flat_map (λ k. k.found) passes)
  -- each session that a look met stood at its mark
  pub named : All (IsAmongMarks passes) (flat_map (λ k. k.named) passes)
