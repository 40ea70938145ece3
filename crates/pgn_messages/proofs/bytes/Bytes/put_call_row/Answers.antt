use Rattle.std.proofs.Common.{[], codes}
use Rattle.pgn_messages.specs.Server.{columns, row}
use Rattle.pgn_messages.proofs.BytesLaws.{put-two}
use Rattle.pgn_messages.proofs.bytes.Bytes.put_call_row.Goals as goal

pub returns : goal.returns
returns c = put-two c.args.self.now c.put_columns.new.self c.put_row.new.self (columns (codes "pg_notify")) (row []) c.in_ok-put_columns.ensures c.in_ok-put_row.ensures
