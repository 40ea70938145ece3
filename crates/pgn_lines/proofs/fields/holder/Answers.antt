use Rattle.std.proofs.Common.{rules}
use Rattle.pgn_lines.proofs.LineLaws.{no_holder}
use Rattle.pgn_lines.proofs.fields.holder.Goals as goal

pub returns-in_err-number : goal.returns-in_err-number
returns-in_err-number c = search (rules, no_holder)
