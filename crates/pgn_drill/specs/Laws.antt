-- The text of a drill is the text of a scenario.
use Rattle.std.specs.Prelude.{ℕ, ◌≤◌, Ok}
use Rattle.pgn_language.specs.declared.scenario.Scenario.{Scenario}
use Rattle.pgn_language.specs.Inputs.{ReadsAsScenario}
use Rattle.pgn_drill.specs.Drill.{drill}

-- each drill of 1 to 32 sessions, which send at most 1,000 notifications each, reads as a scenario
abbrev pub DrillReads : Type 0
DrillReads = (seed sessions notes : ℕ) → 1 ≤ sessions → sessions ≤ 32 → notes ≤ 1000 → (scenario : Scenario) × ReadsAsScenario (drill seed sessions notes) (Ok scenario)
