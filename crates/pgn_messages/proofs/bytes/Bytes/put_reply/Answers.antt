use Rattle.std.proofs.Common.{◌++◌}
use Rattle.pgn_messages.specs.Server.{complete}
use Rattle.pgn_messages.specs.Messages.{notices, rows_of}
use Rattle.pgn_messages.proofs.BytesLaws.{put-two}
use Rattle.pgn_messages.proofs.bytes.Bytes.put_reply.Goals as goal

pub returns : goal.returns
returns c =
    let noticed = notices c.args.warning.now in
    let rows = rows_of c.args.command.now in
    let front = put-two c.args.self.now c.put_warning.new.self c.put_rows.new.self noticed rows c.in_ok-put_warning.ensures c.in_ok-put_rows.ensures in
    put-two c.args.self.now c.put_rows.new.self c.put_complete.new.self (noticed ++ rows) (complete c.args.tag.now) front c.in_ok-put_complete.ensures
