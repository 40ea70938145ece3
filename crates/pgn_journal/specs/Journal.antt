-- The journal: the list of finished transactions. It grows at its end, and entry k, from 0, has the number 3 + k.
use Rattle.std.specs.Prelude.{◌≡◌, ◌≢◌, ℕ, ◌+◌, ◌-◌, ◌<◌, ◌&&◌, ◌==◌, Bool, true, false, cond, List, [], ◌∷◌, length, take, drop, Option, slice_get, All, AllPairs}
use Rattle.pgn_base.specs.declared.limits.TheConstants.{FIRST_XID}
use Rattle.pgn_journal.specs.declared.tx.Tx.{Tx}
use Rattle.pgn_journal.specs.declared.tx.Fate.{Fate}
use Rattle.pgn_journal.specs.declared.tx.Fate.TheVariants.{Committed, Aborted}
use Rattle.pgn_base.specs.Notes.{IsNote}

-- the number that the next transaction draws: one past the last of the journal
abbrev pub next_xid : List Tx → ℕ
next_xid journal = FIRST_XID + length journal

-- the transaction with a number, from 3 on
abbrev pub entry : List Tx → ℕ → Option Tx
entry journal x = slice_get journal (x - FIRST_XID)

-- the transactions numbered from m, which is at least 3, up to n, and not n
abbrev pub entries_between : List Tx → ℕ → ℕ → List Tx
entries_between journal m n = drop (m - FIRST_XID) (take (n - FIRST_XID) journal)

-- it committed
abbrev pub is_committed : Fate → Bool
is_committed Committed = true
is_committed Aborted = false

-- it committed in this database
abbrev pub is_committed_in : ℕ → Tx → Bool
is_committed_in db tx = is_committed tx.fate && tx.db == db

-- all of the notifications were queued where it committed, and fewer where it was aborted
abbrev pub IsQueued : Fate → ℕ → ℕ → Type 0
IsQueued Committed queued count = queued ≡ count
IsQueued Aborted queued count = queued < count

-- what holds of each finished transaction: it has notifications, each can be sent, and all are different; all were queued where it
-- committed, fewer where it was aborted
pub record IsFinished (tx : Tx) : Type 0 where
  pub some : tx.notes ≢ []
  pub valid : All IsNote tx.notes
  pub different : AllPairs (λ a b. a ≢ b) tx.notes
  pub queueing : IsQueued tx.fate tx.queued (length tx.notes)

-- the numbers, from x on, of the transactions of a session
abbrev pub xids_from : ℕ → ℕ → List Tx → List ℕ
xids_from session x [] = []
xids_from session x (tx ∷ txs) = cond (tx.session == session) (x ∷ xids_from session (x + 1) txs) (xids_from session (x + 1) txs)

-- the numbers of the transactions of a session, in order
abbrev pub xids_of : ℕ → List Tx → List ℕ
xids_of session journal = xids_from session FIRST_XID journal
