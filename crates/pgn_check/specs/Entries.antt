-- The journal of a text: which transaction is the first that is not as it has to be.
use Rattle.std.specs.Prelude.{ℕ, ◌+◌, ◌==◌, nat_lt, Bool, false, cond, not, ◌||◌, List, [], ◌∷◌, ◌++◌, length, Option, Some, None, All}
use Rattle.std.specs.List.{list_any}
use Rattle.pgn_base.specs.declared.note.Note.{Note}
use Rattle.pgn_answers.specs.Savepoints.{same_note}
use Rattle.pgn_journal.specs.declared.tx.Tx.{Tx}
use Rattle.pgn_journal.specs.declared.tx.Fate.{Fate}
use Rattle.pgn_journal.specs.declared.tx.Fate.TheVariants.{Committed, Aborted}
use Rattle.pgn_language.specs.declared.scenario.Section.{Section}
use Rattle.pgn_language.specs.declared.scenario.Scenario.{Scenario}
use Rattle.pgn_model.specs.declared.trace.Trace.{Trace}
use Rattle.pgn_model.specs.Legal.{names_section}
use Rattle.pgn_model.specs.Walk.{Settings}
use Rattle.pgn_reading.specs.Form.{IsReading}
use Rattle.pgn_reading.specs.Blame.{IsGoodTx, IsLeastBlamed}

-- some notification stands among those seen, or before in the list
abbrev pub repeats_after : List Note → List Note → Bool
repeats_after seen [] = false
repeats_after seen (note ∷ notes) = list_any (same_note note) seen || repeats_after (seen ++ note ∷ []) notes

-- as many were queued as its end asks for
abbrev pub queued_as : Fate → ℕ → ℕ → Bool
queued_as Committed queued count = queued == count
queued_as Aborted queued count = nat_lt queued count

abbrev pub is_queued : Tx → Bool
is_queued tx = queued_as tx.fate tx.queued (length tx.notes)

-- a test of a transaction
abbrev pub is_good : List Section → Tx → Bool
is_good sections tx = cond (length tx.notes == 0) false (cond (is_queued tx) (cond (names_section sections tx.session) (not (repeats_after [] tx.notes)) false) false)

-- the number of the first line of the first bad transaction, where the first line of these is numbered n
abbrev pub first_bad_from : List Section → ℕ → List Tx → Option ℕ
first_bad_from sections n [] = None
first_bad_from sections n (tx ∷ txs) = cond (is_good sections tx) (first_bad_from sections (n + (1 + length tx.notes)) txs) (Some n)

-- how many lines transactions have
abbrev pub lines_in : List Tx → ℕ
lines_in [] = 0
lines_in (tx ∷ txs) = 1 + length tx.notes + lines_in txs

-- a text is read, and each transaction of its journal is as it has to be
pub record IsReadSoFar (scenario : Scenario) (out : List ℕ) (journal : List Tx) (traces : List Trace) : Type 0 where
  pub read : IsReading scenario out journal traces
  pub entries : All (IsGoodTx scenario.sections) journal

-- a line is the first that is to blame, whatever the settings
abbrev pub IsBlamedFirst : Scenario → List ℕ → ℕ → Type 0
IsBlamedFirst scenario out n = (settings : Settings) → IsLeastBlamed scenario settings out n
