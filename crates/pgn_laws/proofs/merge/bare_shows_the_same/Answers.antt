use Rattle.pgn_reading.proofs.BareLaws.{lines-bare, text-bare, brief-bare}
use Rattle.pgn_laws.proofs.merge.bare_shows_the_same.Goals as goal

pub returns-clause-lines : goal.returns-clause-lines
returns-clause-lines c = lines-bare

pub returns-clause-text : goal.returns-clause-text
returns-clause-text c = text-bare

pub returns-clause-brief : goal.returns-clause-brief
returns-clause-brief c = brief-bare
