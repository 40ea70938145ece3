-- Laws of the output.
use Rattle.std.specs.Prelude.{◌≡◌, List, All}
use Rattle.pgn_base.specs.declared.note.Note.{Note}
use Rattle.pgn_base.specs.declared.answers.Refusal.TheVariants.{NoSavepoint}
use Rattle.pgn_journal.specs.declared.tx.Tx.{Tx}
use Rattle.pgn_language.specs.declared.scenario.Scenario.{Scenario}
use Rattle.pgn_model.specs.declared.item.Item.{Item}
use Rattle.pgn_model.specs.declared.item.Item.TheVariants.{Refuse, Channels, Read}
use Rattle.pgn_model.specs.declared.trace.Trace.{Trace}
use Rattle.pgn_language.specs.Lines.{lines_of}
use Rattle.pgn_language.specs.Inputs.{IsOneLine, IsSound}
use Rattle.pgn_model.specs.Text.{text, text_lines}

-- no LF stands in a notification
abbrev pub IsOneLineNote : Note → Type 0
IsOneLineNote note = IsOneLine note.channel × IsOneLine note.payload

-- no LF stands in the names and notifications that an item shows
abbrev pub IsOneLineItem : Item → Type 0
IsOneLineItem (Refuse (NoSavepoint name)) = IsOneLine name
IsOneLineItem (Channels names) = All IsOneLine names
IsOneLineItem (Read from to got) = All (λ delivery. IsOneLineNote delivery.note) got
IsOneLineItem item = Unit {0}

-- cut at each LF, the output of a sound scenario gives its lines, where no LF stands in a name or notification that it shows
abbrev pub TextHasLines : Type 0
TextHasLines = (scenario : Scenario) (journal : List Tx) (traces : List Trace) → IsSound scenario → All (λ tx. All IsOneLineNote tx.notes) journal
    → All (λ trace. All IsOneLineItem trace.items) traces → lines_of (text scenario journal traces) ≡ text_lines scenario journal traces
