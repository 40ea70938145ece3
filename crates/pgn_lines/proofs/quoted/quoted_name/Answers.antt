use Rattle.pgn_lines.proofs.QuotedLaws.{name_read, name_short}
use Rattle.pgn_lines.proofs.quoted.quoted_name.Goals as goal

pub returns-then-text-gt-LINE_BYTES_MAX : goal.returns-then-text-gt-LINE_BYTES_MAX
returns-then-text-gt-LINE_BYTES_MAX c = λ name h e. name_short c.args.text.now name h.short e c.if-text-gt-LINE_BYTES_MAX.true

pub returns : goal.returns
returns c = name_read _ _ _ c.in-Some.ensures c.name_of.ensures
