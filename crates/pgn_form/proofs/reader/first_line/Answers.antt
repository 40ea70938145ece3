use Rattle.std.proofs.Common.{◌+◌}
use Rattle.std.proofs.lemmas.List.{take_rest}
use Rattle.pgn_form.proofs.CutLaws.{cut_nowhere, cut_at}
use Rattle.pgn_form.proofs.reader.first_line.Goals as goal

pub returns-in_err-at : goal.returns-in_err-at
returns-in_err-at c = rw c.from_residual.ensures (cut_nowhere c.args.text.now c.in_err-at.ensures)

pub returns : goal.returns
returns c = rw (take_rest c.args.text.now (c.in_ok-at.at + 1)) (cut_at c.args.text.now c.in_ok-at.at c.in_ok-at.ensures.0 c.in_ok-at.ensures.1)
