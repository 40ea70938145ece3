-- Laws of what traces show.
use Rattle.std.specs.Prelude.{◌≡◌, ◌≢◌, ℕ, List, ◌∷◌, map, None}
use Rattle.pgn_base.specs.declared.note.Note.{Note}
use Rattle.pgn_base.specs.declared.queue_answers.Full.{Full}
use Rattle.pgn_journal.specs.declared.tx.Tx.{Tx}
use Rattle.pgn_language.specs.declared.scenario.ScriptLine.{ScriptLine}
use Rattle.pgn_language.specs.declared.scenario.Scenario.{Scenario}
use Rattle.pgn_model.specs.declared.item.Item.{Item}
use Rattle.pgn_model.specs.declared.item.Item.TheVariants.{Publish, QueueFull}
use Rattle.pgn_model.specs.declared.trace.Trace.{Trace}
use Rattle.pgn_model.specs.Walk.{Settings}
use Rattle.pgn_model.specs.Legal.{Legal}
use Rattle.pgn_model.specs.Text.{brief, item_lines, text}
use Rattle.pgn_reading.specs.Bare.{IsLegalBare, bare, bare_item}
use Rattle.pgn_reading.specs.Merged.{ShowsJournal, finished}

-- the traces of a legal run show its journal
abbrev pub LegalShowsJournal : Type 0
LegalShowsJournal = (scenario : Scenario) (settings : Settings) (journal : List Tx) (traces : List Trace) → Legal scenario settings journal traces → ShowsJournal journal traces

-- an item that shows no transaction as finished is bare as it is
abbrev pub OthersAreBare : Type 0
OthersAreBare = (session db : ℕ) (item : Item) → finished session db item ≡ None → bare_item item ≡ item

-- no bare item has a notification of its transaction
abbrev pub BareHasNoNote : Type 0
BareHasNoNote = (item : Item) (note : Note) (notes : List Note) → ((xid : ℕ) → bare_item item ≢ Publish xid (note ∷ notes)) × ((full : Full) → bare_item item ≢ QueueFull full (note ∷ notes))

-- the traces of each legal run can be bare
abbrev pub LegalIsLegalBare : Type 0
LegalIsLegalBare = (scenario : Scenario) (settings : Settings) (journal : List Tx) (traces : List Trace) → Legal scenario settings journal traces → IsLegalBare scenario settings journal (map bare traces)

-- the lines of an item show nothing of what a bare one lacks
abbrev pub BareHasSameLines : Type 0
BareHasSameLines = (lines : List ScriptLine) (item : Item) → item_lines lines (bare_item item) ≡ item_lines lines item

-- nor does the output of a run
abbrev pub BareHasSameText : Type 0
BareHasSameText = (scenario : Scenario) (journal : List Tx) (traces : List Trace) → text scenario journal (map bare traces) ≡ text scenario journal traces

-- nor the summary of a drill
abbrev pub BareHasSameBrief : Type 0
BareHasSameBrief = (seed notes : ℕ) (journal : List Tx) (traces : List Trace) → brief seed notes journal (map bare traces) ≡ brief seed notes journal traces
