-- A hub and its passes, between calls.
use Rattle.pgn_hub.specs.Shape.{Shape}
use Rattle.pgn_hub.specs.Passes.{IsWithin, IsSeated}
use Rattle.pgn_words.specs.declared.view.View.{View}
use Rattle.pgn_words.specs.declared.pass.WordPass.{WordPass}
use Rattle.pgn_words.specs.Passes.{IsPassOf, IsAtRest, shape_of, view_of}
use Rattle.pgn_wordhub.specs.declared.hub.WordHub.{WordHub}

-- what the hub was opened for
abbrev pub hub_shape : WordHub → Shape
hub_shape hub = shape_of hub.queue

-- between calls a pass is at rest, knows what it was told of, and is that of a seat
pub record IsHubView (z : Shape) (v : View) : Type 0 where
  pub rest : IsAtRest v
  pub within : IsWithin v.known
  pub seated : IsSeated z v.known

-- the pass is one of the hub's
pub record IsHubPass (hub : WordHub) (pass : WordPass) : Type 0 where
  pub own : IsPassOf hub.queue pass
  pub view : IsHubView (hub_shape hub) (view_of pass)
