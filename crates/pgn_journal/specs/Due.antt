-- What a reader is owed.
use Rattle.std.specs.Prelude.{ℕ, ◌+◌, ◌&&◌, Bool, cond, List, [], ◌∷◌, ◌++◌, map, filter}
use Rattle.std.specs.List.{list_any}
use Rattle.pgn_base.specs.declared.limits.TheConstants.{PID_BASE}
use Rattle.pgn_base.specs.Names.{has_name}
use Rattle.pgn_base.specs.declared.note.Note.{Note}
use Rattle.pgn_base.specs.declared.note.Delivery.{Delivery}
use Rattle.pgn_journal.specs.declared.tx.Tx.{Tx}
use Rattle.pgn_journal.specs.Journal.{entries_between, is_committed_in}

-- the notification goes to a channel of the set
abbrev pub listens : List (List ℕ) → Note → Bool
listens channels note = has_name channels note.channel

-- the transaction gives something to a reader in this database that listens on these channels
abbrev pub is_due_to : ℕ → List (List ℕ) → Tx → Bool
is_due_to db channels tx = is_committed_in db tx && list_any (listens channels) tx.notes

-- a notification as it is received, with its transaction and the process number of its sender
abbrev pub delivery : ℕ → ℕ → Note → Delivery
delivery x session note = record { xid = x; pid = PID_BASE + session; note = note }

-- what a transaction, numbered x, gives to a reader in this database that listens on these channels
abbrev pub delivered_by : ℕ → List (List ℕ) → ℕ → Tx → List Delivery
delivered_by db channels x tx = cond (is_committed_in db tx) (map (delivery x tx.session) (filter (listens channels) tx.notes)) []

-- what transactions give, of which the first is numbered x
abbrev pub due_from : ℕ → List (List ℕ) → ℕ → List Tx → List Delivery
due_from db channels x [] = []
due_from db channels x (tx ∷ txs) = delivered_by db channels x tx ++ due_from db channels (x + 1) txs

-- what a reader in this database that listens on these channels is owed from the mark m, which is at least 3, up to n: the
-- notifications on its channels of each committed transaction of its database, in order
abbrev pub due : List Tx → ℕ → ℕ → ℕ → List (List ℕ) → List Delivery
due journal m n db channels = due_from db channels m (entries_between journal m n)
