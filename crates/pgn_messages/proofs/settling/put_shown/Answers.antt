use Rattle.std.proofs.Common.{rules, ◌≡◌, ◌++◌, List, ℕ, ap, ◌∙◌}
use Rattle.pgn_messages.specs.Server.{columns, row}
use Rattle.pgn_messages.proofs.BytesLaws.{put-two}
use Rattle.pgn_requests.specs.Settings.{setting_name, value_in}
use Rattle.pgn_messages.proofs.settling.put_shown.Goals as goal

pub returns : goal.returns
returns c =
    let name : List ℕ = setting_name c.args.setting in
    let value : List ℕ = value_in c.args.settings.now.now c.args.setting in
    let same : c.as_bytes.result.now ≡ name = search rules in
    put-two c.args.bytes.now c.put_columns.new.self c.put_row.new.self (columns name) (row value)
    (c.in_ok-put_columns.ensures ∙ ap (λ (text : List ℕ). c.args.bytes.now ++ columns text) same)
    (c.in_ok-put_row.ensures ∙ ap (λ (text : List ℕ). c.put_columns.new.self ++ row text) c.value.ensures.value)
