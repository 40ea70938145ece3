use Rattle.std.proofs.Common.{◌∙◌, sym, ap}
use Rattle.pgn_language.specs.Lines.{command_says}
use Rattle.pgn_scenario.proofs.SaidLaws.{says-read, runs}
use Rattle.pgn_scenario.proofs.said.command_of.Goals as goal

pub returns-in-Empty : goal.returns-in-Empty
returns-in-Empty c = ap command_says (sym c.in-Empty.is) ∙ says-read c.args.text.now c.in_ok-command.command c.in_ok-command.ensures

pub returns-in_default : goal.returns-in_default
returns-in_default c = runs c.in_ok-command.command c.in_default.not-Empty ∙ says-read c.args.text.now c.in_ok-command.command c.in_ok-command.ensures
