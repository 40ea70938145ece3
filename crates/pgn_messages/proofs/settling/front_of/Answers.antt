use Rattle.std.proofs.Common.{◌≡◌, ◌++◌, List, ℕ, ap, ◌∙◌}
use Rattle.pgn_messages.specs.Server.{completed}
use Rattle.pgn_requests.specs.Settled.{settled_tag}
use Rattle.pgn_messages.specs.Served.{settled_rows}
use Rattle.pgn_messages.proofs.settling.front_of.Goals as goal

pub returns : goal.returns
returns c =
    let rows : List ℕ = settled_rows c.args.seat c.args.settled.now c.args.settings.now in
    let first : c.put_rows.new.bytes ≡ rows = c.in_ok-put_rows.ensures ∙ ap (λ (l : List ℕ). l ++ rows) c.new-bytes.ensures in
    c.in_ok-put_completed.ensures
    ∙ ap (λ (tag : List ℕ). c.put_rows.new.bytes ++ completed tag) c.tag_of.ensures.value
    ∙ ap (λ (l : List ℕ). l ++ completed (settled_tag c.args.settled.now)) first
