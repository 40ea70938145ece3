use Rattle.pgn_sorted.proofs.ExampleLaws.{exchanged-another, misnamed-another}
use Rattle.pgn_sorted.proofs.examples.another_text.Goals as goal

pub returns-clause-exchanged : goal.returns-clause-exchanged
returns-clause-exchanged c = exchanged-another

pub returns-clause-misnamed : goal.returns-clause-misnamed
returns-clause-misnamed c = misnamed-another
