-- A plan of two sessions, and a script that quits, for examples.
use Rattle.std.specs.Prelude.{[], ◌∷◌, codes}
use Rattle.pgn_base.specs.declared.command.Command.TheVariants.{Begin, Commit}
use Rattle.pgn_language.specs.declared.scenario.Act.TheVariants.{Run, Quit}
use Rattle.pgn_language.specs.declared.scenario.ScriptLine.{ScriptLine}
use Rattle.pgn_language.specs.declared.scenario.Section.{Section}
use Rattle.pgn_session.specs.declared.doing.FlagPlan.{FlagPlan}

-- their end flags are 0 and 1
abbrev pub two_sessions : FlagPlan
two_sessions = record { first_end = 0; sessions = 2 }

-- two lines, and the last line of the script
abbrev pub begin_line : ScriptLine
begin_line = record { line = 1; text = codes "BEGIN"; act = Run Begin }

abbrev pub commit_line : ScriptLine
commit_line = record { line = 2; text = codes "COMMIT"; act = Run Commit }

abbrev pub quit_line : ScriptLine
quit_line = record { line = 4294967295; text = codes "\\quit"; act = Quit }

-- the script quits at once, and may notify once
abbrev pub quits : Section
quits = record { no = 1; name = codes "a"; db = 1; lines = quit_line ∷ []; note_lines = 1 }
