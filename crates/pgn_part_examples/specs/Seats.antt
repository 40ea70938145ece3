-- A seat that was asked `LISTEN c`, and has heard a notification; and one whose client sets a parameter, or discards all in a block.
use Rattle.std.specs.Prelude.{ℕ, false, List, [], ◌∷◌, ◌++◌, None, codes}
use Rattle.pgn_base.specs.declared.answers.Refusal.TheVariants.{Aborted, Syntax}
use Rattle.pgn_base.specs.declared.answers.Tag.TheVariants as tag
use Rattle.pgn_model.specs.declared.item.Item.{Item}
use Rattle.pgn_model.specs.declared.item.Item.TheVariants.{Enlist, Leave, Line, Read, Refuse, Reply}
use Rattle.pgn_outlet.specs.declared.came.Came.{Came}
use Rattle.pgn_outlet.specs.declared.hand.Hand.{Hand}
use Rattle.pgn_outlet.specs.Rule.{hand}
use Rattle.pgn_requests.specs.declared.setting.Setting.TheVariants.{ApplicationName}
use Rattle.pgn_requests.specs.declared.settled.Settled.{Settled}
use Rattle.pgn_requests.specs.declared.settled.Settled.TheVariants.{Sets}
use Rattle.pgn_requests.specs.Settings.{Kept}
use Rattle.pgn_messages.specs.declared.saying.Saying.{Saying}
use Rattle.pgn_examples.specs.Turns.{begin, listen, sent_by}
use Rattle.pgn_messages.specs.Turns.{Turn, Answers, Discards, Hears}

abbrev pub listened : Turn
listened = Answers listen (Enlist 3 3 ∷ Reply tag.Listen None ∷ [])

abbrev pub heard_one : Turn
heard_one = Hears (Read 3 4 (sent_by 1002 ∷ []) ∷ [])

-- behind that the session quits, and reads nothing more, or something
abbrev pub quit_items : List Item
quit_items = Line 1 ∷ Enlist 3 3 ∷ Reply tag.Listen None ∷ Line 4294967295 ∷ Leave ∷ []

abbrev pub read_items : List Item
read_items = Line 4294967295 ∷ Read 3 4 (sent_by 1002 ∷ []) ∷ []

-- it begins a block, and discards all there, which is refused
abbrev pub begun : Turn
begun = Answers begin (Reply tag.Begin None ∷ [])

abbrev pub begun_items : List Item
begun_items = Line 1 ∷ Enlist 3 3 ∷ Reply tag.Listen None ∷ Line 2 ∷ Reply tag.Begin None ∷ []

abbrev pub discarded : Turn
discarded = Discards 3 (Refuse (Syntax 0) ∷ []) (Refuse Aborted ∷ [])

abbrev pub discarded_items : List Item
discarded_items = begun_items ++ Line 3 ∷ Refuse (Syntax 0) ∷ Line 4 ∷ Refuse Aborted ∷ []

-- its client gives itself a name, and what its settings are then
abbrev pub names : Settled
names = Sets ApplicationName (codes "psql") false

abbrev pub named : Kept
named = record { start = []; now = record { setting = ApplicationName; value = codes "psql" } ∷ [] }

-- a pass for seats 1 and 2 that has pushed this
abbrev pub told : List (Came Saying) → Hand Saying
told cames = hand 1 2 cames false []

abbrev pub for_seat : ℕ → Saying → Came Saying
for_seat n saying = record { session = n; what = saying }
