use Rattle.std.proofs.Common.{sym, subst}
use Rattle.std.specs.Prelude.{◌↔◌, IsTrue}
use Rattle.pgn_base.specs.declared.format.Format.{Format}
use Rattle.pgn_entry.specs.Reading.{IsAllZero, head_padding}
use Rattle.pgn_entry.proofs.head.is_head_clean.Goals as goal

pub returns-in-Two : goal.returns-in-Two
returns-in-Two c =
    subst (λ (format : Format). IsTrue c.is_all_zero.result ↔ IsAllZero (head_padding format c.args.bytes.now)) (sym c.in-Two.is) c.is_all_zero.ensures
