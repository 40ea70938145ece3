-- The messages of a run tell what its client saw, and what the journal has.
use Rattle.std.specs.Prelude.{◌≡◌, ◌≤◌, ℕ, List, [], ◌∷◌, map, Option}
use Rattle.pgn_base.specs.declared.limits.TheConstants.{NOTE_LINES_MAX}
use Rattle.pgn_journal.specs.declared.tx.Tx.{Tx}
use Rattle.pgn_language.specs.declared.scenario.ScriptLine.{ScriptLine}
use Rattle.pgn_language.specs.declared.scenario.Section.{Section}
use Rattle.pgn_language.specs.declared.scenario.Scenario.{Scenario}
use Rattle.pgn_language.specs.Inputs.{note_lines_of}
use Rattle.pgn_model.specs.declared.trace.Trace.{Trace}
use Rattle.pgn_model.specs.Walk.{Settings}
use Rattle.pgn_model.specs.Legal.{Legal}
use Rattle.pgn_queries.specs.declared.wire_fault.WireFault.{WireFault}
use Rattle.pgn_queries.specs.Queries.{queries}
use Rattle.pgn_queries.specs.Script.{wire_scenario, wire_section}
use Rattle.pgn_messages.specs.Messages.{messages}
use Rattle.pgn_told.specs.Told.{AsksThenQuits, but_queued, seen}

-- the scenario of one section, without flags
abbrev pub alone : Section → Scenario
alone section = record { sections = section ∷ []; flags = [] }

-- two legal runs of a client's queries with the same messages: what the client sees of them is the same, and so are the journals but for
-- how many notifications of an aborted transaction were queued
abbrev pub MessagesTell : Type 0
MessagesTell = (section : Section) (settings : Settings) (journal other : List Tx) (a b : Trace) → AsksThenQuits section → note_lines_of section.lines ≤ NOTE_LINES_MAX
    → Legal (alone section) settings journal (a ∷ []) → Legal (alone section) settings other (b ∷ []) → messages section a.items ≡ messages section b.items
    → (seen a.items ≡ seen b.items) × (map but_queued journal ≡ map but_queued other)

-- the same of a client's bytes: two legal runs of the queries that they are, of which no more may notify than lines of a scenario
abbrev pub ConversationTells : Type 0
ConversationTells = (most : ℕ) (bytes : List ℕ) (lines : List ScriptLine) (fault : Option WireFault) (settings : Settings) (journal other : List Tx) (a b : Trace) → most ≤ NOTE_LINES_MAX → queries most bytes lines fault
    → Legal (wire_scenario lines) settings journal (a ∷ []) → Legal (wire_scenario lines) settings other (b ∷ [])
    → messages (wire_section lines) a.items ≡ messages (wire_section lines) b.items → (seen a.items ≡ seen b.items) × (map but_queued journal ≡ map but_queued other)
