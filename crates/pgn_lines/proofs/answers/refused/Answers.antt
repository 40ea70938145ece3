use Rattle.std.proofs.Common.{rules}
use Rattle.pgn_lines.proofs.AnswerLaws.{no_refusal}
use Rattle.pgn_lines.proofs.answers.refused.Goals as goal

pub returns-in_default-one_short : goal.returns-in_default-one_short
returns-in_default-one_short c = λ refusal n h e.
    no_refusal c.args.line.now c.in_default.ensures c.in_default-needs_of.ensures (search rules) (search rules) c.in_default-one_short.ensures refusal n h e
