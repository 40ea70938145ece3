use Rattle.std.proofs.Common.{◌++◌, List, ℕ, codes, ap, ◌∙◌}
use Rattle.pgn_messages.specs.Server.{columns, row}
use Rattle.pgn_messages.proofs.BytesLaws.{put-two}
use Rattle.pgn_requests.specs.Settled.{version_text}
use Rattle.pgn_messages.proofs.settling.put_version.Goals as goal

pub returns : goal.returns
returns c =
    put-two c.args.bytes.now c.put_columns.new.self c.put_row.new.self (columns (codes "version")) (row version_text) c.in_ok-put_columns.ensures
    (c.in_ok-put_row.ensures ∙ ap (λ (text : List ℕ). c.put_columns.new.self ++ row text) c.service_version.ensures.value)
