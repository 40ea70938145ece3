-- What a transaction's actions do to a listening set.
use Rattle.std.specs.Prelude.{ℕ, cond, not, List, [], ◌∷◌, ◌++◌, Option, Some, None, bytes_eq, filter}
use Rattle.pgn_base.specs.Names.{has_name}
use Rattle.pgn_base.specs.declared.action.Action.{Action}
use Rattle.pgn_base.specs.declared.action.Action.TheVariants.{Listen, Unlisten, UnlistenAll}

-- the channel that an action names
abbrev pub channel_of : Action → Option (List ℕ)
channel_of (Listen channel) = Some channel
channel_of (Unlisten channel) = Some channel
channel_of UnlistenAll = None

-- a set after one action: a channel that is listened to is put at the end where it is absent
abbrev pub after_action : List (List ℕ) → Action → List (List ℕ)
after_action set (Listen channel) = cond (has_name set channel) set (set ++ channel ∷ [])
after_action set (Unlisten channel) = filter (λ other. not (bytes_eq channel other)) set
after_action set UnlistenAll = []

-- a set after actions, in order
abbrev pub applied : List (List ℕ) → List Action → List (List ℕ)
applied set [] = set
applied set (action ∷ actions) = applied (after_action set action) actions
