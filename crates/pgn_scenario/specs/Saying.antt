-- What the code tells of a line.
use Rattle.pgn_language.specs.Lines as lines
use Rattle.pgn_scenario.specs.declared.said.Said.{Said}
use Rattle.pgn_scenario.specs.declared.said.Said.TheVariants as said
use Rattle.pgn_scenario.specs.declared.said.Deed.{Deed}
use Rattle.pgn_scenario.specs.declared.said.Deed.TheVariants as deed

-- what a session does at a line
abbrev pub told_deed : Deed → lines.Says
told_deed (deed.Runs command) = lines.Runs command
told_deed (deed.Signals flag) = lines.Signals flag
told_deed (deed.Awaits flag) = lines.Awaits flag
told_deed deed.Quits = lines.Quits

-- what a line says
abbrev pub told : Said → lines.Says
told said.Nothing = lines.SaysNothing
told (said.Opens name db) = lines.Opens name db
told (said.Does one) = told_deed one
told said.NoMeta = lines.NoMeta
