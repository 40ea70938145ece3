use Rattle.pgn_service.proofs.ArmLaws.{nothing-read, read-by}
use Rattle.pgn_service.proofs.arms.read_where_met.Goals as goal

pub returns-then-not-expects : goal.returns-then-not-expects
returns-then-not-expects g c = nothing-read g.S.Source.left g.S.Source.faults c.args.room.now.inboxes.now c.args.callers.now c.args.source.now

pub returns : goal.returns
returns g c =
    read-by g.S.Source.left g.S.Source.faults c.args.room.now.inboxes.now c.args.callers.now c.read_frames.new.callers c.args.source.now c.read_frames.new.source c.read_frames.result c.read_frames.ensures.done c.read_frames.ensures.first
    c.read_frames.ensures.some c.read_frames.auto.callers c.read_frames.ensures.later c.read_frames.ensures.failed c.read_frames.ensures.rose
