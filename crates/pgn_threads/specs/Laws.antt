-- Laws of a whole run.
use Rattle.std.specs.Prelude.{◌≡◌, ℕ, List, map, All}
use Rattle.pgn_language.specs.declared.scenario.Scenario.{Scenario}
use Rattle.pgn_language.specs.declared.scenario.Section.{Section}
use Rattle.pgn_hub.specs.Shape.{Shape}
use Rattle.pgn_language.specs.Inputs.{AreNumbered, HasFlagBelow}
use Rattle.pgn_model.specs.Legal.{Legal}
use Rattle.pgn_hub.specs.Gathered.{Gathered}
use Rattle.pgn_session.specs.declared.doing.FlagPlan.{FlagPlan}
use Rattle.pgn_threads.specs.Parts.{Part, settings_of, trace_of, HasRunOut, HasReadAll}

-- each flag that the section names is below that number
abbrev pub NamesFlagsBelow : ℕ → Section → Type 0
NamesFlagsBelow flags section = All (λ line. HasFlagBelow flags line.act) section.lines

-- where all sessions are over, each that still listens has read up to where every one knows wakes to be set, and the passes were gathered, the
-- journal and the traces are a legal run of the scenario; the end flags stand behind those that the scripts name
abbrev pub RunsAreLegal : Type 0
RunsAreLegal = (scenario : Scenario) (shape : Shape) (plan : FlagPlan) (patience : ℕ) (parts : List Part) (count : ℕ) (gathered : Gathered (map (λ part. part.known) parts) count)
    → scenario.sections ≡ map (λ part. part.section) parts → AreNumbered 1 scenario.sections → All (NamesFlagsBelow plan.first_end) scenario.sections
    → All (HasRunOut shape plan patience) parts → All (HasReadAll (map (λ part. part.known) parts)) (map (λ part. part.known) parts)
    → Legal scenario (settings_of shape patience) gathered.journal (map trace_of parts)
