use Rattle.pgn_part_examples.proofs.SessionLemmas.{finds-it, too-early, shows-last, looks-once, looked-at}
use Rattle.pgn_part_examples.proofs.session.turn.Goals as goal

pub returns-clause-finds : goal.returns-clause-finds
returns-clause-finds c = finds-it

pub returns-clause-too_early : goal.returns-clause-too_early
returns-clause-too_early c t = too-early t.found t.shown

pub returns-clause-never : goal.returns-clause-never
returns-clause-never c t = shows-last t.found t.shown

pub returns-clause-without_a_look : goal.returns-clause-without_a_look
returns-clause-without_a_look c t = looks-once t.found t.looked

pub returns-clause-at_another_flag : goal.returns-clause-at_another_flag
returns-clause-at_another_flag c t = looked-at t.found t.looked t.shown
