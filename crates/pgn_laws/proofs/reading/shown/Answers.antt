use Rattle.pgn_reading.proofs.ShownLaws.{marks-are_shown, named-are_shown, raised-are_shown, found-are_shown, marks-are_read, named-are_read, raised-are_read}
use Rattle.pgn_laws.proofs.reading.shown.Goals as goal

pub returns-clause-marks : goal.returns-clause-marks
returns-clause-marks c = marks-are_shown

pub returns-clause-named : goal.returns-clause-named
returns-clause-named c = named-are_shown

pub returns-clause-raised : goal.returns-clause-raised
returns-clause-raised c = raised-are_shown

pub returns-clause-found : goal.returns-clause-found
returns-clause-found c = found-are_shown

pub returns-clause-marks_read : goal.returns-clause-marks_read
returns-clause-marks_read c = marks-are_read

pub returns-clause-named_read : goal.returns-clause-named_read
returns-clause-named_read c = named-are_read

pub returns-clause-raised_read : goal.returns-clause-raised_read
returns-clause-raised_read c = raised-are_read
