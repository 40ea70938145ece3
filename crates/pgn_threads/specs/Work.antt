-- Sessions as workers: what a turn and a round of them come to.
use Rattle.std.specs.Prelude.{◌≡◌, List, ◌++◌, map, All, Result, Ok, OnOk, OnErr}
use Rattle.pgn_hub.specs.declared.known.Known.{Known}
use Rattle.pgn_hub.specs.Shape.{Shape}
use Rattle.pgn_session.specs.declared.session.Session.{Session}
use Rattle.pgn_session.specs.Runs.{HasGivenUp, IsHeld, IsOver, IsReady, script_of}
use Rattle.pgn_workers.specs.declared.turn.Turn.{Turn}
use Rattle.pgn_workers.specs.declared.turn.Turn.TheVariants.{Ended}

-- a session has taken a turn, with this answer
pub record HasTakenTurn {P E : Type 0} (is_own : P → Type 0) (shape : Shape) (known : P → Known) (old new : Session P) (r : Result Turn E) : Type 0 where
  pub held : IsHeld is_own shape new
  pub script : script_of new ≡ script_of old
  pub ready : OnOk r (IsReady is_own shape known new)
  pub over : r ≡ Ok Ended → IsOver is_own shape known new

-- sessions have taken turns, also where one was refused memory: each can give up
pub record HaveTakenTurns {P : Type 0} (is_own : P → Type 0) (shape : Shape) (old new : List (Session P)) : Type 0 where
  pub held : All (IsHeld is_own shape) new
  pub scripts : map script_of new ≡ map script_of old

-- sessions that are ready, in two halves
pub record AreReadyHalves {P : Type 0} (is_own : P → Type 0) (shape : Shape) (known : P → Known) (whole left right : List (Session P)) : Type 0 where
  pub cut : whole ≡ left ++ right
  pub left_ready : All (IsReady is_own shape known) left
  pub right_ready : All (IsReady is_own shape known) right

-- sessions of which rounds came to this have ended: where one was refused memory all have given up
pub record HaveEnded {P E : Type 0} (known : P → Known) (old new : List (Session P)) (rounds answer : Result Unit E) : Type 0 where
  pub same : answer ≡ rounds
  pub scripts : map script_of new ≡ map script_of old
  pub kept : OnOk rounds (new ≡ old)
  pub gave_up : OnErr rounds (All (HasGivenUp known) new)
