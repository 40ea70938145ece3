use Rattle.std.proofs.Common.{codes}
use Rattle.pgn_messages.specs.Server.{described, fraction, row}
use Rattle.pgn_messages.proofs.BytesLaws.{put-two}
use Rattle.pgn_messages.proofs.answering.put_usage.Goals as goal

pub returns : goal.returns
returns c =
    put-two c.args.bytes.now c.put_described.new.self c.put_fraction.new.self (described (codes "pg_notification_queue_usage") 701 8) (row (fraction c.args.usage.now))
    c.in_ok-put_described.ensures c.in_ok-put_fraction.ensures
