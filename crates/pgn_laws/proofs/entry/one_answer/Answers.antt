use Rattle.pgn_entry.specs.Reading.{told}
use Rattle.pgn_entry.proofs.AnswerLaws.{reads_as_one}
use Rattle.pgn_laws.proofs.entry.one_answer.Goals as goal

pub returns-clause-some : goal.returns-clause-some
returns-clause-some c =
    (told c.read_entry-answer.result, c.read_entry-answer.ensures.reads)

pub returns-clause-no_other : goal.returns-clause-no_other
returns-clause-no_other c = reads_as_one
