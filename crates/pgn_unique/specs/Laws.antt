-- What the text of a legal run gives back.
use Rattle.std.specs.Prelude.{◌≡◌, ◌≤◌, List, [], ◌++◌, length, ℕ, All, Any}
use Rattle.pgn_base.specs.declared.limits.TheConstants.{NOTE_LINES_MAX}
use Rattle.pgn_journal.specs.declared.tx.Tx.{Tx}
use Rattle.pgn_language.specs.declared.scenario.Section.{Section}
use Rattle.pgn_language.specs.declared.scenario.Scenario.{Scenario}
use Rattle.pgn_language.specs.Inputs.{IsSound}
use Rattle.pgn_model.specs.declared.trace.Trace.{Trace}
use Rattle.pgn_journal.specs.Journal.{IsFinished}
use Rattle.pgn_model.specs.Walk.{Settings}
use Rattle.pgn_model.specs.Legal.{Legal}
use Rattle.pgn_model.specs.Text.{joined, journal_lines, text}

-- a journal has no more transactions, and each of them no more notifications, than a scenario may have lines that notify
pub record IsShort (journal : List Tx) : Type 0 where
  pub few : length journal ≤ NOTE_LINES_MAX
  pub few_notes : All (λ tx. length tx.notes ≤ NOTE_LINES_MAX) journal

-- the journal of a legal run is short
abbrev pub JournalIsShort : Type 0
JournalIsShort = (scenario : Scenario) (settings : Settings) (journal : List Tx) (traces : List Trace) → IsSound scenario → Legal scenario settings journal traces → IsShort journal

-- the section is that of the transaction's session, and names its database
pub record IsOf (tx : Tx) (section : Section) : Type 0 where
  pub session : section.no ≡ tx.session
  pub database : section.db ≡ tx.db

-- a journal of the sections of a scenario: finished transactions, each of some section, and not too many
pub record IsJournalOf (sections : List Section) (journal : List Tx) : Type 0 where
  pub finished : All IsFinished journal
  pub named : All (λ tx. Any (IsOf tx) sections) journal
  pub short : IsShort journal

-- the journal of a legal run is one of its scenario
abbrev pub LegalHasJournal : Type 0
LegalHasJournal = (scenario : Scenario) (settings : Settings) (journal : List Tx) (traces : List Trace) → IsSound scenario → Legal scenario settings journal traces → IsJournalOf scenario.sections journal

-- journals of one sound scenario with the same lines are the same, whatever follows the lines, and the same follows
abbrev pub JournalIsUnique : Type 0
JournalIsUnique = (scenario : Scenario) (journal other : List Tx) (rest more : List ℕ) → IsSound scenario → IsJournalOf scenario.sections journal → IsJournalOf scenario.sections other
    → joined (journal_lines journal) ++ rest ≡ joined (journal_lines other) ++ more → (journal ≡ other) × (rest ≡ more)

-- legal runs of one sound scenario with the same text have the same journal and the same traces
abbrev pub TextIsUnique : Type 0
TextIsUnique = (scenario : Scenario) (settings : Settings) (journal other : List Tx) (traces others : List Trace) → IsSound scenario
    → Legal scenario settings journal traces → Legal scenario settings other others → text scenario journal traces ≡ text scenario other others → (journal ≡ other) × (traces ≡ others)

-- where the text of a legal run begins that of another of the same sound scenario, it is the whole of it
abbrev pub NoTextBegins : Type 0
NoTextBegins = (scenario : Scenario) (settings : Settings) (journal other : List Tx) (traces others : List Trace) (rest : List ℕ) → IsSound scenario
    → Legal scenario settings journal traces → Legal scenario settings other others → text scenario journal traces ++ rest ≡ text scenario other others → rest ≡ []
