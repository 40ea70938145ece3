-- What holds of sessions that take turns and tell by one pass.
use Rattle.std.specs.Prelude.{◌≡◌, ◌≢◌, ℕ, ◌≤◌, List, map, length, All, Result, Ok, OnOk, OnErr}
use Rattle.pgn_hub.specs.declared.known.Known.{Known}
use Rattle.pgn_hub.specs.Shape.{Shape}
use Rattle.pgn_language.specs.Inputs.{AreNumbered}
use Rattle.pgn_outlet.specs.Rule.{MayPush}
use Rattle.pgn_session.specs.declared.session.Session.{Session}
use Rattle.pgn_session.specs.Runs.{HasGivenUp, IsHeld, IsLawful, IsOver, IsReady, script_of, shown_of}
use Rattle.pgn_live.specs.Cames.{Hand, items_of}
use Rattle.pgn_live.specs.Playing.{sections_of}
use Rattle.pgn_live.specs.Telling.{HasToldFor, IsTold, told_of}
use Rattle.pgn_workers.specs.declared.turn.Turn.{Turn}
use Rattle.pgn_workers.specs.declared.turn.Turn.TheVariants.{Ended}

-- of a session so many items were told as the list has for it
abbrev pub IsToldBy : {P : Type 0} → List ℕ → Hand → Session P → Type 0
IsToldBy told v s = IsTold s.section.no s.items.items (told_of told s.section.no) v

-- these are all of its items
abbrev pub IsWhollyToldBy : {P : Type 0} → List ℕ → Session P → Type 0
IsWhollyToldBy told s = length s.items.items ≤ told_of told s.section.no

-- none of the sessions has this number
abbrev pub IsNoneOf : {P : Type 0} → ℕ → List (Session P) → Type 0
IsNoneOf m sessions = All (λ s. s.section.no ≢ m) sessions

-- their numbers follow one another
pub record AreInARow {P : Type 0} (sessions : List (Session P)) : Type 0 where
  pub first : ℕ
  pub numbered : AreNumbered first (sections_of sessions)

-- sessions that may take a turn, and tell by this pass, which has told so many items of each
pub record MayGo {P : Type 0} (is_own : P → Type 0) (shape : Shape) (known : P → Known) (sessions : List (Session P)) (told : List ℕ) (v : Hand) : Type 0 where
  pub ready : All (IsReady is_own shape known) sessions
  pub row : AreInARow sessions
  pub may : All (λ s. MayPush v s.section.no) sessions
  pub so_far : All (IsToldBy told v) sessions

-- sessions that have taken turns, and have told so many items then
pub record HaveGone {P : Type 0} (is_own : P → Type 0) (shape : Shape) (old new : List (Session P)) (told_old told_new : List ℕ) (before after : Hand) : Type 0 where
  pub held : All (IsHeld is_own shape) new
  pub lawful : All (IsLawful shape) new
  pub scripts : map script_of new ≡ map script_of old
  pub so_far : All (IsToldBy told_new after) new
  pub same : after ≡ record before { sent = after.sent }
  pub others : (m : ℕ) → IsNoneOf m old → items_of m after.sent ≡ items_of m before.sent
  pub counted : (m : ℕ) → IsNoneOf m old → told_of told_new m ≡ told_of told_old m

-- one session has taken a turn, and told what it recorded
pub record HasToldTurn {P E : Type 0} (is_own : P → Type 0) (shape : Shape) (known : P → Known) (old new : Session P) (told_old told_new : List ℕ) (before after : Hand) (r : Result Turn E) : Type 0 where
  pub held : IsHeld is_own shape new
  pub lawful : IsLawful shape new
  pub script : script_of new ≡ script_of old
  pub so_far : IsToldBy told_new after new
  pub alone : HasToldFor old.section.no told_old told_new before after
  pub ready : OnOk r (IsReady is_own shape known new)
  pub over : r ≡ Ok Ended → IsOver is_own shape known new

-- sessions of which rounds came to this have ended: where one was refused memory all have given up, and else all was told, where that is
-- the answer
pub record HaveEnded {P E : Type 0} (known : P → Known) (old new : List (Session P)) (told : List ℕ) (rounds answer : Result Unit E) : Type 0 where
  pub kept : OnOk rounds (new ≡ old)
  pub whole : OnOk rounds (OnOk answer (All (IsWhollyToldBy told) new))
  pub gave_up : OnErr rounds (All (HasGivenUp known) new)
  pub refused : OnErr rounds (OnOk answer ⊥)
  pub scripts : map script_of new ≡ map script_of old
  pub shown : map shown_of new ≡ map shown_of old
