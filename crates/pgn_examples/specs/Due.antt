-- Worked examples of a journal and of what is due from it.
use Rattle.std.specs.Prelude.{ℕ, List, [], ◌∷◌, codes}
use Rattle.pgn_base.specs.declared.note.Note.{Note}
use Rattle.pgn_base.specs.declared.note.Delivery.{Delivery}
use Rattle.pgn_journal.specs.declared.tx.Tx.{Tx}
use Rattle.pgn_journal.specs.declared.tx.Fate.TheVariants.{Committed, Aborted}
use Rattle.pgn_journal.specs.Due.{due}

-- the channel `c`
abbrev pub c_name : List ℕ
c_name = codes "c"

-- the channel `d`
abbrev pub d_name : List ℕ
d_name = codes "d"

-- the channel `e`
abbrev pub e_name : List ℕ
e_name = codes "e"

-- a notification on a channel
abbrev pub on : List ℕ → List ℕ → Note
on channel payload = record { channel = channel; payload = payload }

-- the transaction 3, in database 1: three notifications on two channels
abbrev pub first_tx : Tx
first_tx = record { session = 1; db = 1; notes = on c_name (codes "a") ∷ on d_name (codes "b") ∷ on c_name (codes "b") ∷ []; queued = 3; fate = Committed }

-- the transaction 4, in database 2
abbrev pub second_tx : Tx
second_tx = record { session = 2; db = 2; notes = on c_name (codes "x") ∷ on e_name (codes "x") ∷ []; queued = 2; fate = Committed }

-- the transaction 5, in database 1: it was aborted after one of its notifications was queued
abbrev pub third_tx : Tx
third_tx = record { session = 3; db = 1; notes = on c_name (codes "y") ∷ on d_name (codes "y") ∷ []; queued = 1; fate = Aborted }

-- the transaction 6, in database 1: three notifications on three channels
abbrev pub fourth_tx : Tx
fourth_tx = record { session = 1; db = 1; notes = on d_name (codes "1") ∷ on e_name (codes "2") ∷ on c_name (codes "3") ∷ []; queued = 3; fate = Committed }

-- the transaction 7, in database 2
abbrev pub fifth_tx : Tx
fifth_tx = record { session = 2; db = 2; notes = on d_name (codes "z") ∷ []; queued = 1; fate = Committed }

-- the transaction 8, in database 1
abbrev pub sixth_tx : Tx
sixth_tx = record { session = 4; db = 1; notes = on e_name (codes "w") ∷ on c_name [] ∷ []; queued = 2; fate = Committed }

-- the journal of these six
abbrev pub mixed_journal : List Tx
mixed_journal = first_tx ∷ second_tx ∷ third_tx ∷ fourth_tx ∷ fifth_tx ∷ sixth_tx ∷ []

-- what a reader in a database that listens on channels is owed from a number up to another
pub record DueRow : Type 0 where
  pub from : ℕ
  pub to : ℕ
  pub db : ℕ
  pub channels : List (List ℕ)
  pub deliveries : List Delivery

-- a delivery of a transaction by a process
abbrev pub delivered : ℕ → ℕ → Note → Delivery
delivered xid pid note = record { xid = xid; pid = pid; note = note }

-- what readers are owed
abbrev pub owed_table : List DueRow
owed_table =
    -- all of the journal, on one channel
    record {
      from = 3;
      to = 9;
      db = 1;
      channels = c_name ∷ [];
      deliveries = delivered 3 1001 (on c_name (codes "a")) ∷ delivered 3 1001 (on c_name (codes "b")) ∷ delivered 6 1001 (on c_name (codes "3")) ∷ delivered 8 1004 (on c_name []) ∷ [];
    }
    -- on two channels
    ∷ record {
      from = 3;
      to = 9;
      db = 1;
      channels = c_name ∷ d_name ∷ [];
      deliveries = delivered 3 1001 (on c_name (codes "a")) ∷ delivered 3 1001 (on d_name (codes "b")) ∷ delivered 3 1001 (on c_name (codes "b"))
          ∷ delivered 6 1001 (on d_name (codes "1")) ∷ delivered 6 1001 (on c_name (codes "3")) ∷ delivered 8 1004 (on c_name []) ∷ [];
    }
    -- in the other order
    ∷ record {
      from = 3;
      to = 9;
      db = 1;
      channels = d_name ∷ c_name ∷ [];
      deliveries = delivered 3 1001 (on c_name (codes "a")) ∷ delivered 3 1001 (on d_name (codes "b")) ∷ delivered 3 1001 (on c_name (codes "b"))
          ∷ delivered 6 1001 (on d_name (codes "1")) ∷ delivered 6 1001 (on c_name (codes "3")) ∷ delivered 8 1004 (on c_name []) ∷ [];
    }
    -- on none
    ∷ record { from = 3; to = 9; db = 1; channels = []; deliveries = [] }
    -- on a channel that nothing was sent to
    ∷ record { from = 3; to = 9; db = 1; channels = codes "C" ∷ []; deliveries = [] }
    -- in the other database
    ∷ record { from = 3; to = 9; db = 2; channels = c_name ∷ e_name ∷ []; deliveries = delivered 4 1002 (on c_name (codes "x")) ∷ delivered 4 1002 (on e_name (codes "x")) ∷ [] }
    -- in a database that nothing was sent in
    ∷ record { from = 3; to = 9; db = 3; channels = c_name ∷ d_name ∷ []; deliveries = [] }
    -- inside the journal, around the aborted transaction
    ∷ record { from = 4; to = 8; db = 1; channels = c_name ∷ d_name ∷ []; deliveries = delivered 6 1001 (on d_name (codes "1")) ∷ delivered 6 1001 (on c_name (codes "3")) ∷ [] }
    -- the aborted transaction alone
    ∷ record { from = 5; to = 6; db = 1; channels = c_name ∷ d_name ∷ []; deliveries = [] }
    -- the first transaction alone
    ∷ record { from = 3; to = 4; db = 1; channels = d_name ∷ e_name ∷ []; deliveries = delivered 3 1001 (on d_name (codes "b")) ∷ [] }
    -- the last alone
    ∷ record { from = 8; to = 9; db = 1; channels = e_name ∷ []; deliveries = delivered 8 1004 (on e_name (codes "w")) ∷ [] }
    -- none
    ∷ record { from = 6; to = 6; db = 1; channels = c_name ∷ []; deliveries = [] }
    -- from inside the journal to past its end
    ∷ record { from = 6; to = 20; db = 1; channels = e_name ∷ []; deliveries = delivered 6 1001 (on e_name (codes "2")) ∷ delivered 8 1004 (on e_name (codes "w")) ∷ [] }
    ∷ record { from = 5; to = 10; db = 2; channels = d_name ∷ e_name ∷ []; deliveries = delivered 7 1002 (on d_name (codes "z")) ∷ [] }
    -- from the journal's end
    ∷ record { from = 9; to = 9; db = 1; channels = c_name ∷ []; deliveries = [] }
    -- from past it
    ∷ record { from = 12; to = 20; db = 1; channels = c_name ∷ []; deliveries = [] }
    ∷ []

-- what is due by such a row, over the journal of the six
abbrev pub due_by : DueRow → DueRow
due_by owed = record owed { deliveries = due mixed_journal owed.from owed.to owed.db owed.channels }
