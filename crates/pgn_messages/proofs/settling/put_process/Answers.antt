use Rattle.std.proofs.Common.{rules, ◌≡◌, ◌+◌, ◌++◌, List, ℕ, codes, ap, ◌∙◌}
use Rattle.std.specs.Prelude.{decimal}
use Rattle.pgn_base.specs.declared.limits.TheConstants.{PID_BASE}
use Rattle.pgn_messages.specs.Server.{described, row}
use Rattle.pgn_messages.proofs.BytesLaws.{put-two}
use Rattle.pgn_messages.proofs.settling.put_process.Goals as goal

pub returns : goal.returns
returns c =
    let number : List ℕ = decimal (PID_BASE + c.args.seat) in
    let same : c.as_slice.result.now ≡ number = search rules in
    put-two c.args.bytes.now c.put_described.new.self c.put_row.new.self (described (codes "pg_backend_pid") 23 4) (row number) c.in_ok-put_described.ensures
    (c.in_ok-put_row.ensures ∙ ap (λ (text : List ℕ). c.put_described.new.self ++ row text) same)
