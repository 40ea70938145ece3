-- What all traces show: flags that were raised, and marks at which a session stood.
use Rattle.std.specs.Prelude.{ℕ, Bool, true, false, List, [], map, flat_map, Option, None, Some}
use Rattle.pgn_language.specs.declared.scenario.ScriptLine.{ScriptLine}
use Rattle.pgn_language.specs.declared.scenario.Section.{Section}
use Rattle.pgn_model.specs.declared.item.Item.{Item}
use Rattle.pgn_model.specs.declared.item.Item.TheVariants.{Line, Publish, QueueFull, Raise}
use Rattle.pgn_model.specs.declared.trace.Trace.{Trace}
use Rattle.pgn_reading.specs.Shown.{flag_at, flag_of, marks_shown, raised_in}
use Rattle.pgn_walk.specs.Pairs.{AreKeys}

-- what an item raises in a line with this flag
abbrev pub raised_by : Option ℕ → Item → List (ℕ × ℕ)
raised_by flag (Raise value) = flag_at flag value
raised_by flag item = []

-- the marks that an item of a session shows
abbrev pub stood_by : ℕ → Item → List (ℕ × ℕ)
stood_by session item = map (λ mark. (session, mark)) (marks_shown item)

-- those that traces show
abbrev pub stood_in : List Trace → List (ℕ × ℕ)
stood_in traces = flat_map (λ trace. flat_map (stood_by trace.session) trace.items) traces

-- these keys are those of the flags and of the marks
pub record IsEvidence (sections : List Section) (traces : List Trace) (raised stood : List ℕ) : Type 0 where
  pub flags : AreKeys (raised_in sections traces) raised
  pub marks : AreKeys (stood_in traces) stood

-- a line of the script begins
abbrev pub begins_line : Item → Bool
begins_line (Line n) = true
begins_line item = false

-- the flag of a line, if there is one
abbrev pub flag_of_line : Option ScriptLine → Option ℕ
flag_of_line None = None
flag_of_line (Some line) = flag_of line.act

-- how many transactions an item shows as finished
abbrev pub finished_count : Item → ℕ
finished_count (Publish xid notes) = 1
finished_count (QueueFull full notes) = 1
finished_count item = 0
