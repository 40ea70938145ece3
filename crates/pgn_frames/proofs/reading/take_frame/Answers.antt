use Rattle.std.proofs.Common.{◌-◌}
use Rattle.pgn_frames.specs.Frames.{signs_in}
use Rattle.pgn_frames.proofs.ReadingLaws.{does_first}
use Rattle.pgn_frames.proofs.reading.take_frame.Goals as goal

pub returns-in_default-clause-first : goal.returns-in_default-clause-first
returns-in_default-clause-first g c = does_first c.args.seat (c.args.seat - 1) (signs_in c.args.bytes.now) c.args.callers.now c.take_at.new.callers c.in_ok-take_at.ensures.takes

pub returns-then-is_called_off-clause-first : goal.returns-then-is_called_off-clause-first
returns-then-is_called_off-clause-first g c = does_first c.args.seat (c.args.seat - 1) (signs_in c.args.bytes.now) c.args.callers.now c.take_at.new.callers c.in_ok-take_at.ensures.takes
