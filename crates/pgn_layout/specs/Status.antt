-- The status words: 32 transactions of two bits in each.
use Rattle.std.specs.Prelude.{ℕ, ◌-◌, ◌*◌, ◌/◌, ◌%◌, ◌^◌}
use Rattle.pgn_base.specs.declared.limits.TheConstants.{FIRST_XID}
use Rattle.pgn_journal.specs.declared.tx.Fate.{Fate}
use Rattle.pgn_journal.specs.declared.tx.Fate.TheVariants.{Committed, Aborted}

-- how many transactions have their status in a word
abbrev pub statuses_a_word : ℕ
statuses_a_word = 32

-- the word that has the status of a transaction, counted from the first status word
abbrev pub status_word : ℕ → ℕ
status_word xid = (xid - FIRST_XID) / statuses_a_word

-- how many bits of its word stand below the status of a transaction
abbrev pub status_shift : ℕ → ℕ
status_shift xid = 2 * ((xid - FIRST_XID) % statuses_a_word)

-- the status of a finished transaction. 0 is that of one in progress
abbrev pub status_code : Fate → ℕ
status_code Committed = 1
status_code Aborted = 2

-- the status of a transaction in its word: the two bits
abbrev pub status_in : ℕ → ℕ → ℕ
status_in word xid = word / 2 ^ status_shift xid % 4

-- the word whose one status is that of a finished transaction
abbrev pub status_set : ℕ → Fate → ℕ
status_set xid fate = status_code fate * 2 ^ status_shift xid
