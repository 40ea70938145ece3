use Rattle.std.proofs.Common.{rules}
use Rattle.pgn_journal.specs.Bytes.{entry_length}
use Rattle.pgn_entry.proofs.any_bytes.read_body.Goals as goal
use Rattle.pgn_entry.proofs.any_bytes.read_body.Goals.{then-head-len-via-then-head-len, then-head-len-via-else-head-len+then-not-is_all_zero}

pub returns-then-head-len : goal.returns-then-head-len
unfolding entry_length
returns-then-head-len c = elim c.then-head-len.branch [
  | then-head-len-via-then-head-len w ↦ search rules
  | then-head-len-via-else-head-len+then-not-is_all_zero w ↦ search rules
]
