use Rattle.pgn_examples.proofs.LineLaws.{no_zero, no_blank, no_lone_quote, no_abort}
use Rattle.pgn_examples.proofs.lines.not_shown.Goals as goal

pub returns-clause-zero : goal.returns-clause-zero
returns-clause-zero c = no_zero

pub returns-clause-blank : goal.returns-clause-blank
returns-clause-blank c = no_blank

pub returns-clause-quote : goal.returns-clause-quote
returns-clause-quote c = no_lone_quote

pub returns-clause-fate : goal.returns-clause-fate
returns-clause-fate c = no_abort
