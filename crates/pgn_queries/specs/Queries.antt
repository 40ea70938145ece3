-- All queries of a client.
use Rattle.std.specs.Prelude.{◌≡◌, ℕ, ◌+◌, ◌*◌, ◌<◌, ◌≤◌, ◌⊎◌, cond, List, [], ◌∷◌, ◌++◌, length, Option, None, Some}
use Rattle.pgn_base.specs.declared.command.Command.{Command}
use Rattle.pgn_base.specs.declared.command.Command.TheVariants.{Bad}
use Rattle.pgn_language.specs.declared.scenario.Act.{Act}
use Rattle.pgn_language.specs.declared.scenario.Act.TheVariants.{Run}
use Rattle.pgn_language.specs.declared.scenario.ScriptLine.{ScriptLine}
use Rattle.pgn_language.specs.Grammar.{ReadsAs}
use Rattle.pgn_language.specs.Inputs.{is_note_act, IsOneLine}
use Rattle.pgn_queries.specs.declared.limits.TheConstants.{QUERIES_MAX}
use Rattle.pgn_queries.specs.declared.wire_fault.WireFault.{WireFault}
use Rattle.pgn_queries.specs.declared.wire_fault.WireFault.TheVariants.{TooMany}
use Rattle.pgn_queries.specs.declared.coming.Coming.TheVariants.{End, Query, Fault}
use Rattle.pgn_queries.specs.Client.{IsQueryText, NextIs}

-- the script line of a query with this number: its text and the command that this reads as. A text with an LF is no line: it is bad
-- at its first LF, and the line's text is empty
pub data IsLineOf (number : ℕ) : List ℕ → ScriptLine → Type 0 where
  OneLine : (text : List ℕ) (command : Command) → IsOneLine text → ReadsAs text command → IsLineOf number text (record { line = number; text = text; act = Run command })
  Lines : (text before rest : List ℕ) → text ≡ before ++ 10 ∷ rest → IsOneLine before → IsLineOf number text (record { line = number; text = []; act = Run (Bad (length before)) })

-- where a reader stands in a client's bytes
pub record Place : Type 0 where
  -- the offset of the next message's first byte
  pub at : ℕ
  -- how many queries there were
  pub queries : ℕ
  -- how many of them had the command NOTIFY or a call of pg_notify
  pub notes : ℕ
  -- how many may have
  pub most : ℕ

-- before the first byte of a client of which so many queries may notify
abbrev pub first_place : ℕ → Place
first_place most = record { at = 0; queries = 0; notes = 0; most = most }

-- how many notifying commands an act is
abbrev pub note_of : Act → ℕ
note_of act = cond (is_note_act act) 1 0

-- after a query with a text of so many bytes, whose line does this
abbrev pub after_query : Place → ℕ → Act → Place
after_query place size act = record { at = place.at + (size + 6); queries = place.queries + 1; notes = place.notes + note_of act; most = place.most }

-- there were more queries, or more of them that notify, than a client may ask
abbrev pub AreTooMany : Place → Type 0
AreTooMany place = (QUERIES_MAX < place.queries) ⊎ (place.most < place.notes)

-- a place that a reader can come to: each query so far notifies at most once and took at most 65,542 bytes
pub record IsPlace (place : Place) : Type 0 where
  pub few : place.queries ≤ QUERIES_MAX
  pub counted : place.notes ≤ place.queries
  pub few_notes : place.notes ≤ place.most
  pub near : place.at ≤ place.queries * 65542

-- the queries of a client's bytes from a place on, as the lines of a script that are numbered from there, and the fault that ends
-- them, where one does
pub data QueriesAre : Place → List ℕ → List ScriptLine → Option WireFault → Type 0 where
  -- there are no more
  Ends : (place : Place) (bytes text rest : List ℕ) → NextIs place.at End text bytes rest → QueriesAre place bytes [] None
  -- what comes next is none
  Fails : (place : Place) (bytes text rest : List ℕ) (fault : WireFault) → NextIs place.at (Fault fault) text bytes rest → QueriesAre place bytes [] (Some fault)
  -- with the next there are too many
  Exceeds : (place : Place) (bytes text rest : List ℕ) (line : ScriptLine) → NextIs place.at Query text bytes rest → IsLineOf (place.queries + 1) text line
      → AreTooMany (after_query place (length text) line.act) → QueriesAre place bytes [] (Some (TooMany place.at))
  -- the next, and then the others
  Goes : (place : Place) (bytes text rest : List ℕ) (line : ScriptLine) (lines : List ScriptLine) (fault : Option WireFault) → NextIs place.at Query text bytes rest
      → IsLineOf (place.queries + 1) text line → (AreTooMany (after_query place (length text) line.act) → ⊥) → QueriesAre (after_query place (length text) line.act) rest lines fault
      → QueriesAre place bytes (line ∷ lines) fault

-- what a reader gives next: a query's line, so that the queries from here on are that one and then those from where it stands now on;
-- or that there are no more
abbrev pub Gives : Place → Place → Option ScriptLine → List ℕ → List ℕ → Type 0
Gives old new None bytes rest = QueriesAre old bytes [] None
Gives old new (Some line) bytes rest = (lines : List ScriptLine) (fault : Option WireFault) → QueriesAre new rest lines fault → QueriesAre old bytes (line ∷ lines) fault

-- a reader went from one place to another by a query with this line, with which there are not too many
pub record HasPassed (old new : Place) (line : ScriptLine) : Type 0 where
  pub text : List ℕ
  pub sound : IsQueryText text
  pub is : IsLineOf (old.queries + 1) text line
  pub after : new ≡ after_query old (length text) line.act
  pub few : AreTooMany new → ⊥

-- by its message, which comes next of these bytes, and these others behind it
pub record TookQuery (old new : Place) (line : ScriptLine) (bytes rest : List ℕ) : Type 0 where
  pub text : List ℕ
  pub next : NextIs old.at Query text bytes rest
  pub is : IsLineOf (old.queries + 1) text line
  pub after : new ≡ after_query old (length text) line.act
  pub few : AreTooMany new → ⊥

-- the bytes of a client of which so many queries may notify have these queries, and this fault
abbrev pub queries : ℕ → List ℕ → List ScriptLine → Option WireFault → Type 0
queries most bytes lines fault = QueriesAre (first_place most) bytes lines fault
