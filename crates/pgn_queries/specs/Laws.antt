-- Bytes have a reading, and one.
use Rattle.std.specs.Prelude.{◌≡◌, ℕ, List, Option}
use Rattle.pgn_language.specs.declared.scenario.ScriptLine.{ScriptLine}
use Rattle.pgn_queries.specs.declared.wire_fault.WireFault.{WireFault}
use Rattle.pgn_queries.specs.Queries.{Place, QueriesAre}

-- a client's bytes have no other queries than they have, and no other fault
abbrev pub OneReading : Type 0
OneReading = (place : Place) (bytes : List ℕ) (lines others : List ScriptLine) (fault other : Option WireFault) → QueriesAre place bytes lines fault → QueriesAre place bytes others other
    → (lines ≡ others) × (fault ≡ other)

-- from this place on the bytes have queries, and end by a fault or without
abbrev pub HasReading : Place → List ℕ → Type 0
HasReading place bytes = (lines : List ScriptLine) × (fault : Option WireFault) × QueriesAre place bytes lines fault

-- each list of bytes has some
abbrev pub EachHasReading : Type 0
EachHasReading = (place : Place) (bytes : List ℕ) → HasReading place bytes
