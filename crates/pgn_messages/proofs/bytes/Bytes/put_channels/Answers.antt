use Rattle.std.proofs.Common.{codes}
use Rattle.std.specs.Prelude.{flat_map}
use Rattle.pgn_messages.specs.Server.{columns, row}
use Rattle.pgn_messages.proofs.BytesLaws.{put-two}
use Rattle.pgn_messages.proofs.bytes.Bytes.put_channels.Goals as goal

pub returns : goal.returns
returns c =
    put-two c.args.self.now c.put_columns.new.self c.put_name_rows.new.self (columns (codes "pg_listening_channels")) (flat_map row c.args.names.now)
    c.in_ok-put_columns.ensures c.in_ok-put_name_rows.ensures
