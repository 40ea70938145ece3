-- What is known of a service once its arms are done.
use Rattle.std.specs.Prelude.{◌≡◌, ℕ, ◌<◌, true, List, ◌++◌, length, map, get_or, Option, All}
use Rattle.std.specs.List.{range_with_len}
use Rattle.pgn_hub.specs.declared.known.Known.{Known}
use Rattle.pgn_hub.specs.Gathered.{Gathered}
use Rattle.pgn_hub.specs.Passes.{IsWithin}
use Rattle.pgn_hub.specs.Shape.{Shape}
use Rattle.pgn_outlet.specs.declared.came.Came.{Came}
use Rattle.pgn_outlet.specs.declared.hand.Hand.{Hand}
use Rattle.pgn_outlet.specs.declared.outlet.Outlet.{Outlet}
use Rattle.pgn_outlet.specs.Cames.{what_of}
use Rattle.pgn_outlet.specs.Passes.{HasAll, IsPassOf, knows}
use Rattle.pgn_outlet.specs.Rule.{MayPush}
use Rattle.pgn_messages.specs.declared.asked.Ask.{Ask}
use Rattle.pgn_seats.specs.declared.desk.Desk.{Desk}
use Rattle.pgn_frames.specs.declared.caller.Caller.{Caller}

-- a desk and a caller whose inbox can be closed
pub record MayClose {P : Type 0} (inbox : Outlet (Option Ask)) (desk : Desk P) (caller : Caller) : Type 0 where
  pub put : IsPassOf inbox caller.asks
  pub asks : IsPassOf inbox desk.asks
  pub takes : (knows desk.asks).takes ≡ true

-- so it is at each seat
pub record MayCloseAll {P : Type 0} (inboxes : List (Outlet (Option Ask))) (desks : List (Desk P)) (callers : List Caller) : Type 0 where
  pub desk_count : length desks ≡ length inboxes
  pub caller_count : length callers ≡ length inboxes
  pub each : (k : ℕ) (o : Outlet (Option Ask)) (e : Desk P) (c : Caller) → k < length inboxes → MayClose (get_or inboxes k o) (get_or desks k e) (get_or callers k c)

-- what the one pass has taken are for each number the first of what the other one has put
abbrev pub HasTakenFirst : {T : Type 0} → Hand T → Hand T → Type 0
HasTakenFirst {T} puts asks = (n : ℕ) → MayPush puts n → (rest : List T) × (what_of n puts.sent ≡ what_of n asks.got ++ rest)

-- so it is at each seat
abbrev pub HaveTakenFirst : {P : Type 0} → List (Desk P) → List Caller → Type 0
HaveTakenFirst {P} desks callers = (k : ℕ) (e : Desk P) (c : Caller) → k < length desks → HasTakenFirst (knows (get_or callers k c).asks) (knows (get_or desks k e).asks)

-- a pass has taken more, and nothing is left
pub record HasTakenRest {T : Type 0} (old new : Hand T) : Type 0 where
  pub more : List (Came T)
  pub got : new ≡ record old { got = old.got ++ more }
  pub all : HasAll new

-- the passes of the desks' sessions can be gathered
pub record AreOver {P : Type 0} (is_own : P → Type 0) (shape : Shape) (known : P → Known) (desks : List (Desk P)) : Type 0 where
  pub own : All (λ desk. is_own desk.session.pass) desks
  pub order : map (λ desk. (known desk.session.pass).session) desks ≡ range_with_len 1 (length shape.seats)

-- they were gathered: together they fix one journal of so many transactions, and of each holds what does of a pass between calls
pub record HasGathered {P : Type 0} (known : P → Known) (desks : List (Desk P)) : Type 0 where
  pub count : ℕ
  pub gathered : Gathered (map (λ desk. known desk.session.pass) desks) count
  pub within : All (λ desk. IsWithin (known desk.session.pass)) desks
