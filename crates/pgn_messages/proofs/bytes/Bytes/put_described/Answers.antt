use Rattle.std.proofs.Common.{◌+◌, ◌++◌, length}
use Rattle.pgn_messages.specs.Server.{ended, four, two}
use Rattle.pgn_messages.proofs.BytesLaws.{put-two, put-message, described_size}
use Rattle.pgn_messages.proofs.bytes.Bytes.put_described.Goals as goal

pub returns : goal.returns
returns c =
    let name = c.args.name.now in
    let about = four 0 ++ two 0 ++ four c.args.kind ++ two c.args.size ++ four 4294967295 ++ two 0 in
    let front = put-two c.put_head.new.self c.put_two.new.self c.put_ended.new.self (two 1) (ended name) c.in_ok-put_two.ensures c.in_ok-put_ended.ensures in
    put-message c.args.self.now c.put_head.new.self c.put_type.new.self 84 (length name + 21) (two 1 ++ ended name ++ about) (described_size name c.args.kind c.args.size) c.in_ok-put_head.ensures
    (put-two c.put_head.new.self c.put_ended.new.self c.put_type.new.self (two 1 ++ ended name) about front c.in_ok-put_type.ensures)
