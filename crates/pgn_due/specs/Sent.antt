-- What a journal sent: its notifications, one after another.
use Rattle.std.specs.Prelude.{◌≡◌, ℕ, ◌+◌, ◌-◌, ◌≤◌, ◌==◌, ◌&&◌, Bool, cond, List, [], ◌∷◌, ◌++◌, length, take, map, bytes_eq, slice_index, slice_get, Option, None, Some}
use Rattle.pgn_base.specs.Names.{has_name}
use Rattle.pgn_base.specs.declared.limits.TheConstants.{FIRST_XID}
use Rattle.pgn_base.specs.declared.note.Note.{Note}
use Rattle.pgn_base.specs.declared.note.Delivery.{Delivery}
use Rattle.pgn_journal.specs.declared.tx.Tx.{Tx}
use Rattle.pgn_journal.specs.Journal.{is_committed}
use Rattle.pgn_journal.specs.Due.{delivery}
use Rattle.pgn_due.specs.declared.sends.Sent.{Sent}
use Rattle.pgn_due.specs.declared.sends.Spot.{Spot}

-- what a transaction, numbered x, sent: each notification as it is received, with its database
abbrev pub sent_by : ℕ → Tx → List (ℕ × Delivery)
sent_by x tx = cond (is_committed tx.fate) (map (λ note. (tx.db, delivery x tx.session note)) tx.notes) []

-- what transactions sent, of which the first is numbered x
abbrev pub sent_from : ℕ → List Tx → List (ℕ × Delivery)
sent_from x [] = []
sent_from x (tx ∷ txs) = sent_by x tx ++ sent_from (x + 1) txs

-- what a journal sent
abbrev pub sent_in : List Tx → List (ℕ × Delivery)
sent_in journal = sent_from FIRST_XID journal

-- how many notifications those numbered below x sent
abbrev pub sent_before : List Tx → ℕ → ℕ
sent_before journal x = length (sent_in (take (x - FIRST_XID) journal))

-- one that was sent, as it is received, with its database
abbrev pub shown : Sent → ℕ × Delivery
shown sent = (sent.tx.now.db, delivery sent.xid sent.tx.now.session sent.note.now)

-- a notification of this transaction, numbered x, if there is one
abbrev pub shown_note : ℕ → Tx → Option Note → Option (ℕ × Delivery)
shown_note x tx None = None
shown_note x tx (Some note) = Some (tx.db, delivery x tx.session note)

-- the notification with this number of a transaction, if there is one
abbrev pub shown_in : ℕ → ℕ → Option Tx → Option (ℕ × Delivery)
shown_in x note None = None
shown_in x note (Some tx) = shown_note x tx (slice_get tx.notes note)

-- what stands in a spot of a journal, if there is something
abbrev pub shown_at : List Tx → Spot → Option (ℕ × Delivery)
shown_at journal spot = shown_in (FIRST_XID + spot.tx) spot.note (slice_get journal spot.tx)

-- how many were sent before each transaction, and before the end
pub record AreStarts (journal : List Tx) (starts : List ℕ) : Type 0 where
  pub counted : length starts ≡ length journal + 1
  pub each : (k : ℕ) → k ≤ length journal → slice_index starts k ≡ length (sent_in (take k journal))

-- it was sent in this database, on this channel
abbrev pub is_on : ℕ → List ℕ → ℕ × Delivery → Bool
is_on db channel sent = sent.0 == db && bytes_eq channel sent.1.note.channel

-- it was sent in this database, on one of these channels
abbrev pub is_for : ℕ → List (List ℕ) → ℕ × Delivery → Bool
is_for db channels sent = sent.0 == db && has_name channels sent.1.note.channel
