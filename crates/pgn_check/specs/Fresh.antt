-- What is asked where a session stands.
use Rattle.std.specs.Prelude.{◌≡◌, ◌↔◌, Bool, true, List}
use Rattle.pgn_journal.specs.declared.tx.Tx.{Tx}
use Rattle.pgn_language.specs.declared.scenario.Section.{Section}
use Rattle.pgn_model.specs.Walk.{State}
use Rattle.pgn_model.specs.Trace.{IsReadUp, next_reads_first}
use Rattle.pgn_walk.specs.declared.standing.Standing.{Standing}
use Rattle.pgn_walk.specs.Standing.{Holds}

-- it is answered whether P holds where the session stands
abbrev pub Asks : Section → List Tx → Standing → Bool → (State → Type 0) → Type 0
Asks section journal at answer P = (s : State) → Holds section journal at s → (answer ≡ true) ↔ P s

-- where the next line listens or opens a block, a listener has read up to what it was told of
abbrev pub HasReadFirst : State → Type 0
HasReadFirst s = next_reads_first s.rest ≡ true → IsReadUp s.mark s.told
