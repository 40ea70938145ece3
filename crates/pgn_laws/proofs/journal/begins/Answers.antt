use Rattle.pgn_journal.proofs.BeginsLaws.{begins-none, begins-itself, begins-on, begins-continues, begins-taken, begins-shorter, begins-whole, begins-alike, begins-holds, begins-more}
use Rattle.pgn_laws.proofs.journal.begins.Goals as goal

pub returns-clause-all : goal.returns-clause-all
returns-clause-all g c = λ xs. (begins-none xs, begins-itself xs)

pub returns-clause-on : goal.returns-clause-on
returns-clause-on g c = begins-on

pub returns-clause-continued : goal.returns-clause-continued
returns-clause-continued g c = begins-continues

pub returns-clause-taken : goal.returns-clause-taken
returns-clause-taken g c = begins-taken

pub returns-clause-shorter : goal.returns-clause-shorter
returns-clause-shorter g c = begins-shorter

pub returns-clause-whole : goal.returns-clause-whole
returns-clause-whole g c = begins-whole

pub returns-clause-alike : goal.returns-clause-alike
returns-clause-alike g c = begins-alike

pub returns-clause-holds : goal.returns-clause-holds
returns-clause-holds g c = begins-holds

pub returns-clause-more : goal.returns-clause-more
returns-clause-more g c = begins-more
