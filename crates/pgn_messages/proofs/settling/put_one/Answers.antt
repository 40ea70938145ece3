use Rattle.std.proofs.Common.{codes}
use Rattle.pgn_messages.specs.Server.{described, row}
use Rattle.pgn_messages.proofs.BytesLaws.{put-two}
use Rattle.pgn_messages.proofs.settling.put_one.Goals as goal

pub returns : goal.returns
returns c =
    put-two c.args.bytes.now c.put_described.new.self c.put_row.new.self (described (codes "?column?") 23 4) (row (codes "1")) c.in_ok-put_described.ensures c.in_ok-put_row.ensures
