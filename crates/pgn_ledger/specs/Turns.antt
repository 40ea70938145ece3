-- Whose transaction each is, and which of that session's.
use Rattle.std.specs.Prelude.{◌≡◌, ℕ, ◌+◌, ◌≤◌, ◌==◌, List, [], ◌∷◌, ◌++◌, length, count_by, slice_index}
use Rattle.pgn_base.specs.declared.limits.TheConstants.{SECTIONS_MAX}
use Rattle.pgn_journal.specs.declared.tx.Tx.{Tx}

-- how many of these transactions are the session's
abbrev pub turns : ℕ → List Tx → ℕ
turns session txs = count_by (λ tx. tx.session == session) txs

-- of each of these transactions, how many of its session stand before it, where these stand before all
abbrev pub ranks_from : List Tx → List Tx → List ℕ
ranks_from before [] = []
ranks_from before (tx ∷ txs) = turns tx.session before ∷ ranks_from (before ++ tx ∷ []) txs

-- of each session, how many of these transactions are its
pub record AreTurns (txs : List Tx) (counts : List ℕ) : Type 0 where
  pub counted : length counts ≡ SECTIONS_MAX + 1
  pub each : (session : ℕ) → session ≤ SECTIONS_MAX → slice_index counts session ≡ turns session txs
