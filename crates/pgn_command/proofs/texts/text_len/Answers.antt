use Rattle.std.proofs.Common.{ℕ, ◌*◌, length, sym, ap, ◌∙◌}
use Rattle.pgn_command.specs.Texts.{single}
use Rattle.pgn_command.specs.Statements.{text_bytes}
use Rattle.pgn_command.specs.declared.statement.Text.{Text}
use Rattle.pgn_command.proofs.CutLaws.{length-repeated}
use Rattle.pgn_command.proofs.texts.text_len.Goals as goal

pub returns-in-Repeat : goal.returns-in-Repeat
returns-in-Repeat c =
    ap (λ (n : ℕ). c.in-Repeat.count * n) c.len-in-Repeat.ensures ∙ sym (length-repeated c.in-Repeat.count (single c.in-Repeat.inside.quote c.in-Repeat.inside.raw.now))
    ∙ ap (λ (t : Text). length (text_bytes t)) (sym c.in-Repeat.is)
