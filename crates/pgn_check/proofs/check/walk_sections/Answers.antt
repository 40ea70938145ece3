use Rattle.std.proofs.Common.{ap, arith}
use Rattle.pgn_check.specs.Entries.{lines_in}
use Rattle.pgn_check.proofs.SectionLaws.{each_long}
use Rattle.pgn_check.proofs.check.walk_sections.Goals as goal

pub new-requires : goal.new-requires
new-requires c = rw (c.as_slice-sections.ensures, c.as_slice-traces.ensures) (each_long c.args.scenario.now.sections c.args.reading.now.traces c.requires.read)

pub lines_in-head-requires : goal.lines_in-head-requires
lines_in-head-requires c = rw c.as_slice-journal.ensures c.requires.few_lines

pub overflow_add-head : goal.overflow_add-head
overflow_add-head c = omega (arith, c.requires.few_lines, c.lines_in-head.ensures, ap lines_in c.as_slice-journal.ensures)

pub walk_all-blamed-requires-clause-fits : goal.walk_all-blamed-requires-clause-fits
walk_all-blamed-requires-clause-fits c = rw (c.lines_in-head.ensures, c.as_slice-journal.ensures, c.as_slice-sections.ensures, c.as_slice-traces.ensures) c.requires.fits

pub returns : goal.returns
returns c = rw (c.requires.journal, c.lines_in-head.ensures, c.as_slice-journal.ensures, c.as_slice-sections.ensures, c.as_slice-traces.ensures) at c.walk_all-blamed.ensures
