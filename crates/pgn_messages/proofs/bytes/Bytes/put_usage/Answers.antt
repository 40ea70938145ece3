use Rattle.std.proofs.Common.{rules, ◌≡◌, ◌++◌, List, ℕ, codes, ap, ◌∙◌}
use Rattle.pgn_messages.specs.Server.{columns, row, share}
use Rattle.pgn_messages.proofs.BytesLaws.{put-two}
use Rattle.pgn_messages.proofs.bytes.Bytes.put_usage.Goals as goal

pub returns : goal.returns
returns c =
    let same : c.as_slice.result.now ≡ share c.args.usage.now = search rules in
    put-two c.args.self.now c.put_columns.new.self c.put_row.new.self (columns (codes "pg_notification_queue_usage")) (row (share c.args.usage.now)) c.in_ok-put_columns.ensures
    (c.in_ok-put_row.ensures ∙ ap (λ (text : List ℕ). c.put_columns.new.self ++ row text) same)
