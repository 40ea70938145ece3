use Rattle.pgn_messages.specs.Served.{told_item}
use Rattle.pgn_messages.proofs.PutLaws.{put-next}
use Rattle.pgn_messages.proofs.answering.put_items.Goals as goal

pub loop-item-preserved : goal.loop-item-preserved
loop-item-preserved c =
    put-next (told_item c.args.query.now) c.args.items.now c.loop-item.item-index c.item-item.result c.loop-item.bytes c.put_item.new.bytes _ c.loop-item-test.true c.item-item.is c.loop-item.invariant c.in_ok-put_item.ensures
