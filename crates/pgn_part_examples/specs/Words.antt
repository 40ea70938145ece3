-- Small cases that the rule refuses.
use Rattle.std.specs.Prelude.{[], ◌∷◌, codes}
use Rattle.pgn_hub.specs.Passes.{opened_pass}
use Rattle.pgn_words.specs.declared.view.View.{View}
use Rattle.pgn_words.specs.declared.view.Listen.TheVariants.{Registered}
use Rattle.pgn_words.specs.declared.view.Phase.TheVariants.{Held}
use Rattle.pgn_words.specs.Views.{no_seat}
use Rattle.pgn_words.specs.Told.{spent_view}

-- the pass of session 1, which listens from the first transaction on
abbrev pub listener : View
listener = record spent_view { known = opened_pass 1 no_seat; post = record { listen = Registered; mark = 3; at = 0 } }

-- it has told that it listens on the channel `c`
abbrev pub listens_on_c : View
listens_on_c = record listener { known = record (opened_pass 1 no_seat) { set = codes "c" ∷ [] } }

-- the pass of session 2, which holds the lock
abbrev pub holder : View
holder = record spent_view { known = opened_pass 2 no_seat; phase = Held }
