use Rattle.pgn_messages.specs.Turns.{heard}
use Rattle.pgn_messages.proofs.PutLaws.{put-next}
use Rattle.pgn_messages.proofs.telling.put_reads.Goals as goal

pub loop-item-preserved : goal.loop-item-preserved
loop-item-preserved c =
    put-next heard c.args.reads.now c.loop-item.item-index c.item-item.result c.loop-item.bytes c.put_heard.new.bytes _ c.loop-item-test.true c.item-item.is c.loop-item.invariant c.in_ok-put_heard.ensures
