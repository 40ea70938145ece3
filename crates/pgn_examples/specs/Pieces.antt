-- Worked examples of pieces.
use Rattle.std.specs.Prelude.{ℕ, List, [], ◌∷◌, codes}
use Rattle.std.specs.Str.{byte}
use Rattle.pgn_base.specs.declared.note.Note.{Note}
use Rattle.pgn_journal.specs.declared.tx.Tx.{Tx}
use Rattle.pgn_journal.specs.declared.tx.Fate.TheVariants.{Committed, Aborted}
use Rattle.pgn_journal.specs.Packing.{Sender}
use Rattle.pgn_journal.specs.Pieces.{Piece, AnEntry, AFiller, draft}
use Rattle.pgn_examples.specs.Packing.{letters}
use Rattle.pgn_examples.specs.Runs.{hello}
use Rattle.pgn_examples.specs.Due.{c_name, on}

-- the sender of a transaction in a database by a process
abbrev pub by : ℕ → ℕ → ℕ → Sender
by db xid pid = record { db = db; xid = xid; pid = pid }

-- the piece of the transaction of a session that notifies itself
abbrev pub self_notify_pieces : List Piece
self_notify_pieces = AnEntry hello (by 1 3 1001) ∷ []

-- the pieces of three notifications, of which the third doesn't fit on the rest of the page
abbrev pub filler_pieces : List Piece
filler_pieces = AnEntry (letters (byte "x") 7999) (by 1 3 1002)
    ∷ AnEntry (letters (byte "x") 133) (by 1 3 1002)
    ∷ AFiller 20 (by 1 3 1002)
    ∷ AnEntry (letters (byte "x") 5) (by 1 3 1002)
    ∷ []

-- the pieces of a transaction at the beginning of a page, which was aborted after one of its notifications was queued
abbrev pub aborted_pieces : List Piece
aborted_pieces = AnEntry (on c_name (codes "y")) (by 1 5 1003) ∷ AFiller 8172 (by 1 5 1003) ∷ []

-- a notification without a name
abbrev pub nameless : Note
nameless = record { channel = []; payload = codes "x" }

-- a transaction of session 1 in database 1 that has placed the first of its two notifications
abbrev pub half_draft : Tx
half_draft = draft 1 1 (hello ∷ on c_name (codes "y") ∷ []) 1 Committed

-- such a transaction whose second notification has no name
abbrev pub nameless_draft : ℕ → Tx
nameless_draft queued = draft 1 1 (hello ∷ nameless ∷ []) queued Aborted
