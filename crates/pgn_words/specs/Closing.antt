-- The end of the queue: one pass takes in the others.
use Rattle.std.specs.Prelude.{None, [], ◌∷◌, ◌++◌}
use Rattle.pgn_hub.specs.declared.known.Known.{Known}
use Rattle.pgn_words.specs.declared.view.View.{View}

-- one pass has taken in another, which is free and no listener: what was known of it is kept
abbrev pub taken_in : View → View → View
taken_in v w = record v { joined = v.joined ++ w.joined ++ w.known ∷ [] }

-- what is known of a pass that is no listener any more
abbrev pub settled : Known → Known
settled k = record k { mark = None }
