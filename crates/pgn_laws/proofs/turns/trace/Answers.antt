use Rattle.pgn_laws.proofs.PlaceLaws.{others_are_asked_for, stands_behind_line}
use Rattle.pgn_messages.proofs.WalkLaws.{turns_walk}
use Rattle.pgn_laws.proofs.turns.trace.Goals as goal

pub returns-clause-turns_walk : goal.returns-clause-turns_walk
returns-clause-turns_walk c = turns_walk

pub returns-clause-others_are_asked_for : goal.returns-clause-others_are_asked_for
returns-clause-others_are_asked_for c = others_are_asked_for

pub returns-clause-stands_behind_line : goal.returns-clause-stands_behind_line
returns-clause-stands_behind_line c = stands_behind_line
