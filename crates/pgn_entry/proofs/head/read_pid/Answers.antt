use Rattle.std.proofs.Common.{ℕ, ◌*◌, ap, ◌∙◌}
use Rattle.pgn_entry.proofs.NumberLaws.{read_at, pid_at}
use Rattle.pgn_entry.specs.Reading.{number_at}
use Rattle.pgn_entry.proofs.head.read_pid.Goals as goal

pub returns : goal.returns
returns c =
    c.read_u32.ensures ∙ read_at (4 * c.pid_cell.result) c.args.bytes.now
    ∙ ap (λ (n : ℕ). number_at (4 * n) c.args.bytes.now) c.pid_cell.ensures ∙ pid_at c.args.format c.args.bytes.now
