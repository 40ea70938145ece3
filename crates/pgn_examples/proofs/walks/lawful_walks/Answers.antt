use Rattle.std.proofs.Common.{refl}
use Rattle.pgn_examples.proofs.LawfulSteps.{trace-computed}
use Rattle.pgn_examples.proofs.walks.lawful_walks.Goals as goal

pub returns-clause-again : goal.returns-clause-again
returns-clause-again c = trace-computed refl refl refl refl refl refl

pub returns-clause-never : goal.returns-clause-never
returns-clause-never c = trace-computed refl refl refl refl refl refl

pub returns-clause-between_lines : goal.returns-clause-between_lines
returns-clause-between_lines c = trace-computed refl refl refl refl refl refl

pub returns-clause-channel_dropped : goal.returns-clause-channel_dropped
returns-clause-channel_dropped c = trace-computed refl refl refl refl refl refl

pub returns-clause-pg_notify : goal.returns-clause-pg_notify
returns-clause-pg_notify c = trace-computed refl refl refl refl refl refl

pub returns-clause-mixed : goal.returns-clause-mixed
returns-clause-mixed c = trace-computed refl refl refl refl refl refl

pub returns-clause-block : goal.returns-clause-block
returns-clause-block c = trace-computed refl refl refl refl refl refl

pub returns-clause-joining : goal.returns-clause-joining
returns-clause-joining c = trace-computed refl refl refl refl refl refl

pub returns-clause-left_open : goal.returns-clause-left_open
returns-clause-left_open c = trace-computed refl refl refl refl refl refl

pub returns-clause-set_at_the_read : goal.returns-clause-set_at_the_read
returns-clause-set_at_the_read c = trace-computed refl refl refl refl refl refl

pub returns-clause-two_blocks : goal.returns-clause-two_blocks
returns-clause-two_blocks c = trace-computed refl refl refl refl refl refl
