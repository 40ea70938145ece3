use Rattle.pgn_unique.proofs.TextLaws.{text-unique, no_text-begins}
use Rattle.pgn_unique.proofs.laws.text_is_unique.Goals as goal

pub returns-clause-unique : goal.returns-clause-unique
returns-clause-unique c = text-unique

pub returns-clause-no_beginning : goal.returns-clause-no_beginning
returns-clause-no_beginning c = no_text-begins
