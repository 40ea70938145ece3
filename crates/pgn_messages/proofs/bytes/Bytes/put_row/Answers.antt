use Rattle.std.proofs.Common.{◌+◌, ◌++◌, length}
use Rattle.pgn_messages.specs.Server.{four, two}
use Rattle.pgn_messages.proofs.BytesLaws.{put-two, put-message, row_size}
use Rattle.pgn_messages.proofs.bytes.Bytes.put_row.Goals as goal

pub returns : goal.returns
returns c =
    let text = c.args.text.now in
    let long = four (length text) in
    let front = put-two c.put_head.new.self c.put_two.new.self c.put_four.new.self (two 1) long c.in_ok-put_two.ensures c.in_ok-put_four.ensures in
    put-message c.args.self.now c.put_head.new.self c.put.new.self 68 (length text + 6) (two 1 ++ long ++ text) (row_size text) c.in_ok-put_head.ensures
    (put-two c.put_head.new.self c.put_four.new.self c.put.new.self (two 1 ++ long) text front c.in_ok-put.ensures)
