use Rattle.std.proofs.Common.{◌+◌, ◌++◌, length}
use Rattle.pgn_messages.specs.Server.{column, ended, two}
use Rattle.pgn_messages.proofs.BytesLaws.{put-two, put-message, columns_size}
use Rattle.pgn_messages.proofs.bytes.Bytes.put_columns.Goals as goal

pub returns : goal.returns
returns c =
    let name = c.args.name.now in
    let front = put-two c.put_head.new.self c.put_two.new.self c.put_ended.new.self (two 1) (ended name) c.in_ok-put_two.ensures c.in_ok-put_ended.ensures in
    put-message c.args.self.now c.put_head.new.self c.put_column.new.self 84 (length name + 21) (two 1 ++ ended name ++ column) (columns_size name) c.in_ok-put_head.ensures
    (put-two c.put_head.new.self c.put_ended.new.self c.put_column.new.self (two 1 ++ ended name) column front c.in_ok-put_column.ensures)
