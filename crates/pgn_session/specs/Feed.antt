-- A script that grows before its last line.
use Rattle.std.specs.Prelude.{◌≡◌, ◌-◌, List, [], ◌∷◌, ◌++◌, length}
use Rattle.std.specs.List.{insert}
use Rattle.pgn_language.specs.declared.scenario.Act.TheVariants.{Quit}
use Rattle.pgn_language.specs.declared.scenario.ScriptLine.{ScriptLine}
use Rattle.pgn_language.specs.declared.scenario.Section.{Section}

-- the last of the lines is a `\quit`
pub record EndsByQuit (lines : List ScriptLine) : Type 0 where
  pub front : List ScriptLine
  pub last : ScriptLine
  pub split : lines ≡ front ++ last ∷ []
  pub quits : last.act ≡ Quit

-- the section with a line put in before its last one. How many notifications it may send stays
abbrev pub fed : Section → ScriptLine → Section
fed section line = record section { lines = insert section.lines (length section.lines - 1) line }
