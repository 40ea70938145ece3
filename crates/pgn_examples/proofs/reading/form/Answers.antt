use Rattle.pgn_examples.proofs.FormSteps.{run-is_legal, one_line-blamed, zero-broken, unended-short}
use Rattle.pgn_examples.proofs.reading.form.Goals as goal

pub returns-clause-legal : goal.returns-clause-legal
returns-clause-legal c = run-is_legal

pub returns-clause-one_line : goal.returns-clause-one_line
returns-clause-one_line c = one_line-blamed

pub returns-clause-zero : goal.returns-clause-zero
returns-clause-zero c = zero-broken

pub returns-clause-unended : goal.returns-clause-unended
returns-clause-unended c = unended-short
