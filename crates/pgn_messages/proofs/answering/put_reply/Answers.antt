use Rattle.std.proofs.Common.{◌++◌}
use Rattle.pgn_messages.specs.Messages.{notices}
use Rattle.pgn_messages.specs.Server.{complete}
use Rattle.pgn_messages.proofs.BytesLaws.{put-two}
use Rattle.pgn_messages.specs.Served.{call_rows}
use Rattle.pgn_messages.proofs.answering.put_reply.Goals as goal

pub returns : goal.returns
returns c =
    let old = c.args.bytes.now in
    let warned = notices c.args.warning.now in
    let rows = call_rows c.args.command.now in
    put-two old c.put_call_rows.new.bytes c.put_complete.new.self (warned ++ rows) (complete c.args.tag.now)
    (put-two old c.put_warning.new.self c.put_call_rows.new.bytes warned rows c.in_ok-put_warning.ensures c.in_ok-put_call_rows.ensures) c.in_ok-put_complete.ensures
