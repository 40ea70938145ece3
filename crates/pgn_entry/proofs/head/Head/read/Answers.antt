use Rattle.std.proofs.Common.{◌∙◌}
use Rattle.pgn_entry.proofs.NumberLaws.{little_number_is, read_at}
use Rattle.pgn_entry.specs.Reading.{number_at}
use Rattle.pgn_entry.proofs.head.Head.read.Goals as goal

pub returns-clause-len : goal.returns-clause-len
unfolding number_at
returns-clause-len c = c.read_u32.ensures ∙ little_number_is c.args.bytes.now

pub returns-clause-db : goal.returns-clause-db
returns-clause-db c = c.read_u32-2.ensures ∙ read_at 4 c.args.bytes.now
