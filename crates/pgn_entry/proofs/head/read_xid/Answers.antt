use Rattle.std.proofs.Common.{sym, ap, ◌∙◌}
use Rattle.pgn_base.specs.declared.format.Format.{Format}
use Rattle.pgn_entry.proofs.NumberLaws.{read_at, read_long_at}
use Rattle.pgn_entry.specs.Reading.{stated_xid}
use Rattle.pgn_entry.proofs.head.read_xid.Goals as goal

pub returns-in-One : goal.returns-in-One
returns-in-One c =
    c.from.ensures ∙ c.read_u32.ensures ∙ read_at 8 c.args.bytes.now ∙ ap (λ (format : Format). stated_xid format c.args.bytes.now) (sym c.in-One.is)

pub returns-in-Two : goal.returns-in-Two
returns-in-Two c = c.read_u64.ensures ∙ read_long_at 8 c.args.bytes.now ∙ ap (λ (format : Format). stated_xid format c.args.bytes.now) (sym c.in-Two.is)
