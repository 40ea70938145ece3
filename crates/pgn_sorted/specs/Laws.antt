-- What a live output tells whoever sorts its lines.
use Rattle.std.specs.Prelude.{◌≡◌, List, map, flat_map}
use Rattle.pgn_journal.specs.declared.tx.Tx.{Tx}
use Rattle.pgn_language.specs.declared.scenario.Scenario.{Scenario}
use Rattle.pgn_language.specs.Inputs.{IsSound}
use Rattle.pgn_language.specs.Lines.{lines_of}
use Rattle.pgn_model.specs.declared.trace.Trace.{Trace}
use Rattle.pgn_model.specs.Walk.{Settings}
use Rattle.pgn_model.specs.Legal.{EachTrace, Legal}
use Rattle.pgn_model.specs.Text.{item_lines, text, text_lines}
use Rattle.pgn_live.specs.Cames.{Came}
use Rattle.pgn_live.specs.Lives.{AreWhole, log_of_trace}
use Rattle.pgn_run.specs.Live.{live_text}
use Rattle.pgn_sorted.specs.Sorting.{lines_from, sorted}

-- cut at each LF, the text of a legal run of a sound scenario gives its lines
abbrev pub LegalHasLines : Type 0
LegalHasLines = (scenario : Scenario) (settings : Settings) (journal : List Tx) (traces : List Trace) → IsSound scenario → Legal scenario settings journal traces
    → lines_of (text scenario journal traces) ≡ text_lines scenario journal traces

-- in the live output of such a run, of which all came, the lines of each session are those of its trace's items, in their order
abbrev pub SessionsHaveLines : Type 0
SessionsHaveLines = (scenario : Scenario) (settings : Settings) (journal : List Tx) (traces : List Trace) (cames : List Came) → IsSound scenario → Legal scenario settings journal traces
    → AreWhole (map log_of_trace traces) cames
    → EachTrace settings (λ terms trace. lines_from terms.section.no (lines_of (live_text scenario cames journal traces)) ≡ flat_map (item_lines terms.section.lines) trace.items) scenario.sections traces

-- sorted, it is the text of the run
abbrev pub LiveIsSorted : Type 0
LiveIsSorted = (scenario : Scenario) (settings : Settings) (journal : List Tx) (traces : List Trace) (cames : List Came) → IsSound scenario → Legal scenario settings journal traces
    → AreWhole (map log_of_trace traces) cames → sorted (live_text scenario cames journal traces) ≡ text scenario journal traces

-- legal runs of one sound scenario with the same live output have the same journal and the same traces, in whatever order their lines came
abbrev pub LiveIsUnique : Type 0
LiveIsUnique = (scenario : Scenario) (settings : Settings) (journal other : List Tx) (traces others : List Trace) (cames mores : List Came) → IsSound scenario
    → Legal scenario settings journal traces → Legal scenario settings other others → AreWhole (map log_of_trace traces) cames → AreWhole (map log_of_trace others) mores
    → live_text scenario cames journal traces ≡ live_text scenario mores other others → (journal ≡ other) × (traces ≡ others)
