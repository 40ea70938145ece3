use Rattle.std.proofs.Common.{rules, ◌≡◌, ◌++◌, List, ℕ, ap, ◌∙◌}
use Rattle.pgn_messages.specs.Server.{fraction, row}
use Rattle.pgn_messages.proofs.bytes.Bytes.put_fraction.Goals as goal

pub returns : goal.returns
returns c =
    let same : c.as_slice.result.now ≡ fraction c.args.usage.now = search rules in
    c.in_ok-put_row.ensures ∙ ap (λ (text : List ℕ). c.args.self.now ++ row text) same
