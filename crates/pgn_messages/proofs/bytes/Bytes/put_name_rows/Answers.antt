use Rattle.std.proofs.Common.{rules, ◌≡◌, ◌++◌, List, ℕ, ap, ◌∙◌}
use Rattle.pgn_messages.specs.Server.{row}
use Rattle.pgn_messages.proofs.BytesLaws.{rows_step}
use Rattle.pgn_messages.proofs.bytes.Bytes.put_name_rows.Goals as goal

pub loop-name-preserved : goal.loop-name-preserved
loop-name-preserved c =
    let same : c.as_bytes.result.now ≡ c.name-item.result = c.as_bytes.ensures.value in
    rows_step c.loop-name.self c.put_row.new.self _ c.args.names.now c.loop-name.name-index c.name-item.result c.loop-name-test.true (search rules) c.loop-name.invariant
    (c.in_ok-put_row.ensures ∙ ap (λ (text : List ℕ). c.loop-name.self ++ row text) same)
