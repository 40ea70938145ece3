-- The script of a client's queries.
use Rattle.std.specs.Prelude.{List, [], ◌∷◌, ◌++◌, codes}
use Rattle.pgn_language.specs.declared.scenario.Act.TheVariants.{Quit}
use Rattle.pgn_language.specs.declared.scenario.ScriptLine.{ScriptLine}
use Rattle.pgn_language.specs.declared.scenario.Section.{Section}
use Rattle.pgn_language.specs.declared.scenario.Scenario.{Scenario}
use Rattle.pgn_language.specs.Inputs.{section}

-- the line that ends a client's script: its number is greater than that of each query
abbrev pub wire_quit : ScriptLine
wire_quit = record { line = 4294967295; text = codes "\\quit"; act = Quit }

-- the section of a client that asks these queries and ends: number 1, of database 1
abbrev pub wire_section : List ScriptLine → Section
wire_section lines = section 1 (codes "wire") 1 (lines ++ wire_quit ∷ [])

-- the scenario of its queries
abbrev pub wire_scenario : List ScriptLine → Scenario
wire_scenario lines = record { sections = wire_section lines ∷ []; flags = [] }
