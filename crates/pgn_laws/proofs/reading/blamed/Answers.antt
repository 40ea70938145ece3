use Rattle.pgn_reading.proofs.BlameLaws.{blamed-within, blamed-from_before, blamed-from_item, blamed-from_last, blamed-from_end, nothing-blamed}
use Rattle.pgn_laws.proofs.reading.blamed.Goals as goal

pub returns-clause-within : goal.returns-clause-within
returns-clause-within c = blamed-within

pub returns-clause-from_before : goal.returns-clause-from_before
returns-clause-from_before c = blamed-from_before

pub returns-clause-from_item : goal.returns-clause-from_item
returns-clause-from_item c = blamed-from_item

pub returns-clause-from_last : goal.returns-clause-from_last
returns-clause-from_last c = blamed-from_last

pub returns-clause-from_end : goal.returns-clause-from_end
returns-clause-from_end c = blamed-from_end

pub returns-clause-nothing : goal.returns-clause-nothing
returns-clause-nothing c = nothing-blamed
