-- What holds of sessions that run and tell what they record.
use Rattle.std.specs.Prelude.{◌≡◌, ℕ, ◌+◌, ◌<◌, ◌≤◌, List, [], map, length, All, Result, OnOk}
use Rattle.pgn_hub.specs.declared.known.Known.{Known}
use Rattle.pgn_hub.specs.Shape.{Shape}
use Rattle.pgn_language.specs.declared.scenario.Section.{Section}
use Rattle.pgn_language.specs.Inputs.{AreNumbered}
use Rattle.pgn_session.specs.declared.session.Session.{Session}
use Rattle.pgn_session.specs.Parts.{Begins}
use Rattle.pgn_session.specs.Runs.{HasStopped, IsLawful, IsOver, IsReady, script_of}
use Rattle.pgn_live.specs.Cames.{Hand, items_of}
use Rattle.pgn_live.specs.Telling.{told_of}

-- what the pass has pushed for the session are the first items of its trace, in order, each once
abbrev pub HasToldFirst : {P : Type 0} → Hand → Session P → Type 0
HasToldFirst v s = Begins (items_of s.section.no v.sent) s.items.items

-- all of them
abbrev pub HasToldAll : {P : Type 0} → Hand → Session P → Type 0
HasToldAll v s = items_of s.section.no v.sent ≡ s.items.items

-- a session that has run: it is over or has given up, its trace is lawful so far, and it has told the first items of its trace
pub record HasPlayed {P : Type 0} (is_own : P → Type 0) (shape : Shape) (known : P → Known) (v : Hand) (s : Session P) : Type 0 where
  pub stopped : HasStopped is_own shape known s
  pub lawful : IsLawful shape s
  pub told : HasToldFirst v s

-- a session that is over and has told its whole trace
pub record HasPlayedOut {P : Type 0} (is_own : P → Type 0) (shape : Shape) (known : P → Known) (v : Hand) (s : Session P) : Type 0 where
  pub over : IsOver is_own shape known s
  pub told : HasToldAll v s

-- the sections of sessions
abbrev pub sections_of : {P : Type 0} → List (Session P) → List Section
sections_of sessions = map (λ s. s.section) sessions

-- sessions that are ready, numbered from the first number of a pass on and not more than its numbers, may run, and push by that pass, which
-- has pushed nothing
pub record MayPlay {P : Type 0} (is_own : P → Type 0) (shape : Shape) (known : P → Known) (sessions : List (Session P)) (v : Hand) : Type 0 where
  pub ready : All (IsReady is_own shape known) sessions
  pub numbered : AreNumbered v.first (sections_of sessions)
  pub fits : length sessions ≤ v.count
  pub unused : v.sent ≡ []

-- such sessions have run, each by its script, and pushed by the pass
pub record HavePlayed {P A E : Type 0} (is_own : P → Type 0) (shape : Shape) (known : P → Known) (old new : List (Session P)) (before after : Hand) (r : Result A E) : Type 0 where
  pub scripts : map script_of new ≡ map script_of old
  pub played : All (HasPlayed is_own shape known after) new
  pub played_out : OnOk r (All (HasPlayedOut is_own shape known after) new)
  pub same : after ≡ record before { sent = after.sent }
  pub others : (m : ℕ) → (before.first ≤ m → m < before.first + length old → ⊥) → items_of m after.sent ≡ []

-- nothing was told of any session
abbrev pub IsNoneTold : List ℕ → Type 0
IsNoneTold told = (n : ℕ) → told_of told n ≡ 0
