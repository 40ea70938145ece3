-- What a line still has to show, in the words of the walk.
use Rattle.pgn_model.specs.Walk.{Owed}
use Rattle.pgn_model.specs.Walk as walk
use Rattle.pgn_ledger.specs.declared.to_show.Ending.{Ending}
use Rattle.pgn_ledger.specs.declared.to_show.Ending.TheVariants.{Replied, Refused}
use Rattle.pgn_ledger.specs.declared.to_show.ToShow.{ToShow}
use Rattle.pgn_ledger.specs.declared.to_show.ToShow.TheVariants as show

-- how a line is answered
abbrev pub ending_of : Ending → walk.Ending
ending_of (Replied tag warning) = walk.Replied tag warning
ending_of (Refused refusal) = walk.Refused refusal

-- what the current line still has to show
abbrev pub owed_of : ToShow → Owed
owed_of show.Nothing = walk.Nothing
owed_of (show.Enlisting actions notes ending) = walk.Enlisting actions notes (ending_of ending)
owed_of (show.Queueing actions notes ending) = walk.Queueing actions notes (ending_of ending)
owed_of (show.Leaving ending) = walk.Leaving (ending_of ending)
owed_of (show.Answering ending) = walk.Answering (ending_of ending)
owed_of (show.Listing names ending) = walk.Listing names (ending_of ending)
owed_of (show.Measuring ending) = walk.Measuring (ending_of ending)
owed_of (show.Raising flag) = walk.Raising flag
owed_of (show.Awaiting flag) = walk.Awaiting flag
owed_of show.Quitting = walk.Quitting
