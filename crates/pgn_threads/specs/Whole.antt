-- What holds of whole sessions that have run.
use Rattle.std.specs.Prelude.{◌≡◌, List, map, All, Any, Result, OnOk, OnErr}
use Rattle.pgn_hub.specs.declared.known.Known.{Known}
use Rattle.pgn_hub.specs.Shape.{Shape}
use Rattle.pgn_session.specs.declared.session.Session.{Session}
use Rattle.pgn_session.specs.Runs.{HasGivenUp, HasStopped, IsOver, script_of}

-- sessions have run, each by its script: each is over or has given up; where that went well all are over, and else one at least has
-- given up
pub record HaveRun {P A E : Type 0} (is_own : P → Type 0) (shape : Shape) (known : P → Known) (old new : List (Session P)) (r : Result A E) : Type 0 where
  pub over : OnOk r (All (IsOver is_own shape known) new)
  pub scripts : map script_of new ≡ map script_of old
  pub stopped : All (HasStopped is_own shape known) new
  pub gave_up : OnErr r (Any (HasGivenUp known) new)
