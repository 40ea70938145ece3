-- Laws of what is read: an output has one reading.
use Rattle.std.specs.Prelude.{◌≡◌, List}
use Rattle.pgn_journal.specs.declared.tx.Tx.{Tx}
use Rattle.pgn_language.specs.declared.scenario.Scenario.{Scenario}
use Rattle.pgn_language.specs.Inputs.{IsSound}
use Rattle.pgn_model.specs.declared.trace.Trace.{Trace}
use Rattle.pgn_model.specs.Text.{text, text_lines}
use Rattle.pgn_reading.specs.Form.{IsReadable, whole_lines}

-- the same lines are those of one readable journal and traces
abbrev pub LinesAreOne : Type 0
LinesAreOne = (scenario : Scenario) (journal other : List Tx) (traces others : List Trace) → IsReadable scenario journal traces → IsReadable scenario other others
    → text_lines scenario journal traces ≡ text_lines scenario other others → (journal ≡ other) × (traces ≡ others)

-- cut after each LF, what is readable gives its lines
abbrev pub ReadableHasLines : Type 0
ReadableHasLines = (scenario : Scenario) (journal : List Tx) (traces : List Trace) → IsSound scenario → IsReadable scenario journal traces
    → whole_lines (text scenario journal traces) ≡ text_lines scenario journal traces

-- a text is read as one journal and traces
abbrev pub ReadableIsOne : Type 0
ReadableIsOne = (scenario : Scenario) (journal other : List Tx) (traces others : List Trace) → IsSound scenario → IsReadable scenario journal traces → IsReadable scenario other others
    → text scenario journal traces ≡ text scenario other others → (journal ≡ other) × (traces ≡ others)
