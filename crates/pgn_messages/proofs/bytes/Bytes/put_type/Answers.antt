use Rattle.std.proofs.Common.{◌++◌}
use Rattle.pgn_messages.specs.Server.{four, two}
use Rattle.pgn_messages.proofs.BytesLaws.{put-two}
use Rattle.pgn_messages.proofs.bytes.Bytes.put_type.Goals as goal

pub returns : goal.returns
returns c =
    let table = four 0 ++ two 0 in
    let kind = four c.args.kind in
    let size = two c.args.size in
    let with_kind = put-two c.args.self.now c.put.new.self c.put_four.new.self table kind c.in_ok-put.ensures c.in_ok-put_four.ensures in
    let with_size = put-two c.args.self.now c.put_four.new.self c.put_two.new.self (table ++ kind) size with_kind c.in_ok-put_two.ensures in
    let with_modifier = put-two c.args.self.now c.put_two.new.self c.put_four-2.new.self (table ++ kind ++ size) (four 4294967295) with_size c.in_ok-put_four-2.ensures in
    put-two c.args.self.now c.put_four-2.new.self c.put_two-2.new.self (table ++ kind ++ size ++ four 4294967295) (two 0) with_modifier c.in_ok-put_two-2.ensures
