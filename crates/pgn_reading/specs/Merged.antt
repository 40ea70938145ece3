-- Which journal the traces of all sessions show.
use Rattle.std.specs.Prelude.{◌≡◌, ℕ, ◌+◌, ◌<◌, ◌≤◌, List, length, Option, Some, None, IfSome, All, Any, Contains}
use Rattle.pgn_base.specs.declared.limits.TheConstants.{FIRST_XID}
use Rattle.pgn_base.specs.declared.note.Note.{Note}
use Rattle.pgn_journal.specs.declared.tx.Tx.{Tx}
use Rattle.pgn_journal.specs.declared.tx.Fate.{Fate}
use Rattle.pgn_journal.specs.declared.tx.Fate.TheVariants.{Committed, Aborted}
use Rattle.pgn_model.specs.declared.item.Item.{Item}
use Rattle.pgn_model.specs.declared.item.Item.TheVariants.{Publish, QueueFull}
use Rattle.pgn_model.specs.declared.trace.Trace.{Trace}
use Rattle.pgn_journal.specs.Journal.{entry}
use Rattle.pgn_model.specs.Legal.{finished_xids}

-- a transaction with its number
abbrev pub numbered : ℕ → ℕ → ℕ → List Note → ℕ → Fate → ℕ × Tx
numbered xid session db notes queued fate = (xid, record { session = session; db = db; notes = notes; queued = queued; fate = fate })

-- the transaction that an item of a session's trace shows as finished, with its number: committed with all of its notifications
-- queued, or aborted with fewer
abbrev pub finished : ℕ → ℕ → Item → Option (ℕ × Tx)
finished session db (Publish xid notes) = Some (numbered xid session db notes (length notes) Committed)
finished session db (QueueFull full notes) = Some (numbered full.xid session db notes full.queued Aborted)
finished session db item = None

-- the transaction stands in the journal at its number
abbrev pub IsEntry : List Tx → ℕ × Tx → Type 0
IsEntry journal pair = (FIRST_XID ≤ pair.0) × (entry journal pair.0 ≡ Some pair.1)

-- what an item of a session's trace shows as finished stands in the journal
abbrev pub IsShownIn : List Tx → ℕ → ℕ → Item → Type 0
IsShownIn journal session db item = IfSome (finished session db item) (IsEntry journal)

-- the traces show this journal: what they show as finished stands in it, and some trace shows each number of it
pub record ShowsJournal (journal : List Tx) (traces : List Trace) : Type 0 where
  pub shown : All (λ trace. All (IsShownIn journal trace.session trace.db) trace.items) traces
  pub whole : (k : ℕ) → k < length journal → Any (λ trace. Contains (finished_xids trace.items) (FIRST_XID + k)) traces
