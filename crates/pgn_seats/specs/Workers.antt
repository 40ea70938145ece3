-- Desks as workers: what holds of them while they take turns, and of a part of them, which has in its hand the pass by which they tell.
use Rattle.std.specs.Prelude.{◌≡◌, ◌≢◌, ℕ, ◌≤◌, Bool, true, false, List, [], ◌++◌, length, Option, None, All, Result, Ok, OnErr, OnOk}
use Rattle.std.specs.declared.alloc.AllocError.{AllocError}
use Rattle.pgn_hub.specs.declared.known.Known.{Known}
use Rattle.pgn_hub.specs.Shape.{Shape}
use Rattle.pgn_language.specs.Inputs.{AreNumbered}
use Rattle.pgn_session.specs.declared.doing.Doing.TheVariants.{Over}
use Rattle.pgn_session.specs.declared.session.Session.{Session}
use Rattle.pgn_session.specs.Open.{IsSameClient}
use Rattle.pgn_session.specs.Runs.{IsLawful}
use Rattle.pgn_outlet.specs.declared.hand.Hand.{Hand}
use Rattle.pgn_outlet.specs.declared.outlet.Outlet.{Outlet}
use Rattle.pgn_outlet.specs.Cames.{what_of}
use Rattle.pgn_outlet.specs.Passes.{IsPassOf, knows}
use Rattle.pgn_outlet.specs.Rule.{MayPush, joined, lower, upper}
use Rattle.pgn_messages.specs.declared.asked.Ask.{Ask}
use Rattle.pgn_messages.specs.declared.saying.Saying.{Saying}
use Rattle.pgn_workers.specs.declared.turn.Turn.{Turn}
use Rattle.pgn_workers.specs.declared.turn.Turn.TheVariants.{Ended}
use Rattle.pgn_workers.specs.Parts.{Part}
use Rattle.pgn_seats.specs.declared.desk.Desk.{Desk}
use Rattle.pgn_seats.specs.declared.tells.Tells.{Tells}
use Rattle.pgn_seats.specs.Serving.{HasPushedFor, HasServed, HasToldFirst, IsSeated}
use Rattle.pgn_seats.specs.Desks.{AreSameClients, HaveServed, MayServe, sections_of}
use Rattle.pgn_seats.specs.Working.{GoesOn, IsAtWork, StopsFirst}

-- the desk's number is that of a seat of the hub
abbrev pub HasSeat : {P : Type 0} → Shape → Desk P → Type 0
HasSeat shape desk = (1 ≤ desk.session.section.no) × (desk.session.section.no ≤ length shape.seats)

-- so it is of each
unfoldable pub HaveSeats : {P : Type 0} → Shape → List (Desk P) → Type 0
HaveSeats shape desks = All (HasSeat shape) desks

-- a desk serves or has served its seat; once one that tells by the same pass was refused, it has told whole turns
abbrev pub StandsBy : {P : Type 0} → (P → Type 0) → Shape → (P → Known) → List (Outlet (Option Ask)) → Bool → Hand Saying → Desk P → Type 0
StandsBy is_own shape known inboxes false v desk = IsSeated is_own shape known inboxes desk v
StandsBy is_own shape known inboxes true v desk = HasToldFirst shape inboxes desk v

-- a session that was asked nothing has read where it was woken, and told that, with this answer
pub record HasListened {P : Type 0} (is_own : P → Type 0) (shape : Shape) (known : P → Known) (old new : Session P) (before after : Hand Saying) (r : Result Turn AllocError) : Type 0 where
  pub same : new ≡ record old { pass = new.pass; items = new.items }
  pub alone : HasPushedFor old.section.no before after
  pub lawful : IsLawful shape new
  pub work : OnOk r (IsAtWork is_own shape known new)
  pub went : OnOk r (GoesOn [] [] None old new before after)
  pub stopped : OnErr r (StopsFirst [] old new before after)
  pub waits : r ≢ Ok Ended

-- a desk that serves has taken a turn, with this answer
pub record HasTurned {P : Type 0} (is_own : P → Type 0) (shape : Shape) (known : P → Known) (inboxes : List (Outlet (Option Ask))) (old new : Desk P) (before after : Hand Saying) (r : Result Turn AllocError) : Type 0 where
  pub same : IsSameClient old.session new.session
  pub alone : HasPushedFor old.session.section.no before after
  pub seated : OnOk r (IsSeated is_own shape known inboxes new after)
  pub over : r ≡ Ok Ended → HasServed is_own shape known inboxes new after
  pub told : HasToldFirst shape inboxes new after

-- one desk has taken a turn, with this answer; before it and behind it one that tells by the pass was refused, or none was
pub record HasTakenTurn {P E : Type 0} (is_own : P → Type 0) (shape : Shape) (known : P → Known) (inboxes : List (Outlet (Option Ask))) (old new : Desk P) (refused refused_new : Bool) (before after : Hand Saying) (r : Result Turn E) : Type 0 where
  pub same : IsSameClient old.session new.session
  pub alone : HasPushedFor old.session.section.no before after
  pub stands : StandsBy is_own shape known inboxes refused_new after new
  pub stays : refused_new ≡ false → refused ≡ false
  pub ended : r ≡ Ok Ended → new.session.doing ≡ Over

-- none of the desks has this number
abbrev pub IsNoneOf : {P : Type 0} → ℕ → List (Desk P) → Type 0
IsNoneOf m desks = All (λ desk. desk.session.section.no ≢ m) desks

-- their numbers follow one another
pub record AreInARow {P : Type 0} (desks : List (Desk P)) : Type 0 where
  pub first : ℕ
  pub numbered : AreNumbered first (sections_of desks)

-- desks that may take a turn, and tell by this pass
pub record MayGo {P : Type 0} (is_own : P → Type 0) (shape : Shape) (known : P → Known) (inboxes : List (Outlet (Option Ask))) (desks : List (Desk P)) (refused : Bool) (v : Hand Saying) : Type 0 where
  pub row : AreInARow desks
  pub seats : All (HasSeat shape) desks
  pub may : All (λ desk. MayPush v desk.session.section.no) desks
  pub stand : All (StandsBy is_own shape known inboxes refused v) desks

-- desks that have taken turns
pub record HaveGone {P : Type 0} (is_own : P → Type 0) (shape : Shape) (known : P → Known) (inboxes : List (Outlet (Option Ask))) (old new : List (Desk P)) (refused refused_new : Bool) (before after : Hand Saying) : Type 0 where
  pub clients : AreSameClients old new
  pub stand : All (StandsBy is_own shape known inboxes refused_new after) new
  pub stays : refused_new ≡ false → refused ≡ false
  pub same : after ≡ record before { sent = after.sent }
  pub others : (m : ℕ) → IsNoneOf m old → what_of m after.sent ≡ what_of m before.sent

-- a part that may begin, with a pass that has pushed nothing
pub record PartMayServe {P : Type 0} (is_own : P → Type 0) (shape : Shape) (known : P → Known) (inboxes : List (Outlet (Option Ask))) (outbox : Outlet Saying) (p : Part (Desk P) Tells) : Type 0 where
  pub own : IsPassOf outbox p.hand.pass
  pub fine : p.hand.refused ≡ false
  pub may : MayServe is_own shape known inboxes p.workers (knows p.hand.pass)

-- one that may take a round of turns
pub record PartMayGo {P : Type 0} (is_own : P → Type 0) (shape : Shape) (known : P → Known) (inboxes : List (Outlet (Option Ask))) (outbox : Outlet Saying) (p : Part (Desk P) Tells) : Type 0 where
  pub own : IsPassOf outbox p.hand.pass
  pub may : MayGo is_own shape known inboxes p.workers p.hand.refused (knows p.hand.pass)

-- it has taken turns
pub record PartHasGone {P : Type 0} (is_own : P → Type 0) (shape : Shape) (known : P → Known) (inboxes : List (Outlet (Option Ask))) (outbox : Outlet Saying) (p q : Part (Desk P) Tells) : Type 0 where
  pub own : IsPassOf outbox q.hand.pass
  pub gone : HaveGone is_own shape known inboxes p.workers q.workers p.hand.refused q.hand.refused (knows p.hand.pass) (knows q.hand.pass)

-- it has run
pub record PartHasServed {P : Type 0} (is_own : P → Type 0) (shape : Shape) (known : P → Known) (inboxes : List (Outlet (Option Ask))) (outbox : Outlet Saying) (p q : Part (Desk P) Tells) (answer : Result Unit AllocError) : Type 0 where
  pub own : IsPassOf outbox q.hand.pass
  pub served : HaveServed is_own shape known inboxes p.workers q.workers (knows p.hand.pass) (knows q.hand.pass) answer

-- it was cut in two that may begin, and its pass with it
pub record PartWasCut {P : Type 0} (is_own : P → Type 0) (shape : Shape) (known : P → Known) (inboxes : List (Outlet (Option Ask))) (outbox : Outlet Saying) (p l r : Part (Desk P) Tells) : Type 0 where
  pub whole : p.workers ≡ l.workers ++ r.workers
  pub begun : MayServe is_own shape known inboxes p.workers (knows p.hand.pass)
  pub left_own : IsPassOf outbox l.hand.pass
  pub right_own : IsPassOf outbox r.hand.pass
  pub left_fine : l.hand.refused ≡ false
  pub right_fine : r.hand.refused ≡ false
  pub left_pass : knows l.hand.pass ≡ lower (length l.workers) (knows p.hand.pass)
  pub right_pass : knows r.hand.pass ≡ upper (length l.workers) (knows p.hand.pass)

-- two hands were made one
pub record HandsWereJoined (outbox : Outlet Saying) (l r h : Tells) : Type 0 where
  pub own : IsPassOf outbox h.pass
  pub pass : knows h.pass ≡ joined (knows l.pass) (knows r.pass)
  pub refused : h.refused ≡ l.refused
