use Rattle.pgn_laws.proofs.RuleLaws.{walks_read, pages_spared, no_wake_lost, flags_finished, told_finished, signalled_heard}
use Rattle.pgn_laws.proofs.WayLaws.{walks_read_finished, walks_end_in_time}
use Rattle.pgn_laws.proofs.words.rule.Goals as goal

pub returns-clause-walks : goal.returns-clause-walks
returns-clause-walks c = walks_read

pub returns-clause-finished : goal.returns-clause-finished
returns-clause-finished c = walks_read_finished

pub returns-clause-ends : goal.returns-clause-ends
returns-clause-ends c = walks_end_in_time

pub returns-clause-pages : goal.returns-clause-pages
returns-clause-pages c = pages_spared

pub returns-clause-wakes : goal.returns-clause-wakes
returns-clause-wakes c = no_wake_lost

pub returns-clause-flags : goal.returns-clause-flags
returns-clause-flags c = flags_finished

pub returns-clause-told : goal.returns-clause-told
returns-clause-told c = told_finished

pub returns-clause-signalled : goal.returns-clause-signalled
returns-clause-signalled c = signalled_heard
