-- Laws of what begins an output: from each place in an output some output goes on.
use Rattle.std.specs.Prelude.{◌≡◌, ℕ, ◌+◌, ◌^◌, ◌<◌, ◌≤◌, List, ◌∷◌, ◌++◌, length, map, flat_map, codes, decimal, All}
use Rattle.pgn_base.specs.declared.limits.TheConstants.{FIRST_XID}
use Rattle.pgn_base.specs.declared.note.Note.{Note}
use Rattle.pgn_journal.specs.declared.tx.Tx.{Tx}
use Rattle.pgn_journal.specs.declared.tx.Fate.{Fate}
use Rattle.pgn_journal.specs.Journal.{next_xid}
use Rattle.pgn_language.specs.declared.scenario.Section.{Section}
use Rattle.pgn_language.specs.declared.scenario.Scenario.{Scenario}
use Rattle.pgn_model.specs.declared.trace.Trace.{Trace}
use Rattle.pgn_model.specs.Text.{note_line, fate_text, entries_lines, journal_lines, item_lines, section_line, traces_lines, text_lines}
use Rattle.pgn_reading.specs.Form.{IsSession, IsLineNote, IsReadTrace, IsReadQueued, IsReadTx, EachSection, IsReadable, BeginOutput}

-- the beginning of what begins an output does so too
abbrev pub BeginsShorter : Type 0
BeginsShorter = (scenario : Scenario) (lines more : List (List ℕ)) → BeginOutput scenario (lines ++ more) → BeginOutput scenario lines

-- all lines of what is readable begin an output
abbrev pub BeginsWhole : Type 0
BeginsWhole = (scenario : Scenario) (journal : List Tx) (traces : List Trace) → IsReadable scenario journal traces → BeginOutput scenario (text_lines scenario journal traces)

-- a first line that tells so many transactions, and the lines of no more than so many
abbrev pub JournalGoesOn : Type 0
JournalGoesOn = (scenario : Scenario) (count : ℕ) (journal : List Tx) → FIRST_XID + count < 2 ^ 32 → length journal ≤ count → All (IsReadTx scenario.sections) journal
    → BeginOutput scenario ((codes "journal " ++ decimal count) ∷ entries_lines FIRST_XID journal)

-- the first line of the transaction numbered x, which tells its session, how it ended, and how many notifications it has
abbrev pub entry_head : ℕ → ℕ → Fate → ℕ → ℕ → List ℕ
entry_head x session fate queued count = codes "xid " ++ decimal x ++ codes " session " ++ decimal session ++ fate_text fate queued count

-- as before, then the first line of one more transaction, and the lines of no more notifications than it tells
abbrev pub EntryGoesOn : Type 0
EntryGoesOn = (scenario : Scenario) (count : ℕ) (journal : List Tx) (session queued many : ℕ) (fate : Fate) (notes : List Note) → FIRST_XID + count < 2 ^ 32 → length journal < count
    → All (IsReadTx scenario.sections) journal → IsSession session → many < 2 ^ 32 → IsReadQueued fate queued many → length notes ≤ many → All IsLineNote notes
    → BeginOutput scenario ((codes "journal " ++ decimal count) ∷ (entries_lines FIRST_XID journal ++ entry_head (next_xid journal) session fate queued many ∷ map note_line notes))

-- the lines of a journal, of the first sections, of the head of the next, and of items of it
abbrev pub SectionGoesOn : Type 0
SectionGoesOn = (scenario : Scenario) (journal : List Tx) (front back : List Section) (section : Section) (done : List Trace) (trace : Trace) → next_xid journal < 2 ^ 32
    → All (IsReadTx scenario.sections) journal → scenario.sections ≡ front ++ section ∷ back → EachSection IsReadTrace front done → IsReadTrace section trace
    → BeginOutput scenario (journal_lines journal ++ (traces_lines front done ++ section_line section ∷ flat_map (item_lines section.lines) trace.items))
