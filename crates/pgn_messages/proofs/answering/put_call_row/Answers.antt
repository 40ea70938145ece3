use Rattle.std.proofs.Common.{[]}
use Rattle.pgn_messages.specs.Server.{row}
use Rattle.pgn_messages.proofs.BytesLaws.{put-two}
use Rattle.pgn_messages.specs.Served.{call_column}
use Rattle.pgn_messages.proofs.answering.put_call_row.Goals as goal

pub returns : goal.returns
returns c = put-two c.args.bytes.now c.put_call_column.new.bytes c.put_row.new.self call_column (row []) c.in_ok-put_call_column.ensures c.in_ok-put_row.ensures
