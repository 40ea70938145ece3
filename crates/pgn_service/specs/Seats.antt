-- What is opened for a service, and what each of its seats has.
use Rattle.std.specs.Prelude.{◌≡◌, ℕ, ◌+◌, List, [], ◌∷◌, ◌++◌, length, replicate, Option, All}
use Rattle.pgn_base.specs.declared.format.Format.TheVariants.{One}
use Rattle.pgn_base.specs.declared.limits.TheConstants.{PAGES_DEFAULT}
use Rattle.pgn_hub.specs.declared.known.Known.{Known}
use Rattle.pgn_hub.specs.declared.setup.SeatSetup.{SeatSetup}
use Rattle.pgn_hub.specs.Shape.{Shape}
use Rattle.pgn_outlet.specs.declared.outlet.Outlet.{Outlet}
use Rattle.pgn_outlet.specs.Passes.{IsPassOf, Pass, knows}
use Rattle.pgn_outlet.specs.Rule.{sender, taker}
use Rattle.pgn_session.specs.declared.doing.Doing.TheVariants.{Lines}
use Rattle.pgn_session.specs.declared.doing.FlagPlan.{FlagPlan}
use Rattle.pgn_session.specs.declared.session.Session.{Session}
use Rattle.pgn_session.specs.Whole.{HasRest}
use Rattle.pgn_messages.specs.declared.asked.Ask.{Ask}
use Rattle.pgn_messages.specs.Asks.{seat_quit}
use Rattle.pgn_seats.specs.declared.desk.Desk.{Desk}
use Rattle.pgn_frames.specs.declared.caller.Caller.{Caller}
use Rattle.pgn_frames.specs.Reading.{Begins}
use Rattle.pgn_requests.specs.Settings.{fresh}
use Rattle.pgn_service.specs.Service.{seat_notes, seat_section}

-- what the hub of a service is opened for
abbrev pub service_seat : ℕ → SeatSetup
service_seat seats = record { db = 1; notes = seat_notes seats }

abbrev pub service_shape : ℕ → Shape
service_shape seats = record { pages = PAGES_DEFAULT; flags = seats; seats = replicate seats (service_seat seats); format = One }

abbrev pub service_plan : ℕ → FlagPlan
service_plan seats = record { first_end = 0; sessions = seats }

-- the session of a seat: it has what it was given, whatever its script has become
pub record IsGiven {P : Type 0} (seats seat : ℕ) (s : Session P) : Type 0 where
  pub section : s.section ≡ seat_section seats seat s.section.lines
  pub plan : s.plan ≡ service_plan seats
  pub patience : s.patience ≡ 1

-- so it is with the desks of seats from this number on
abbrev pub AreGiven : {P : Type 0} → ℕ → ℕ → List (Desk P) → Type 0
AreGiven seats seat [] = Unit {0}
AreGiven seats seat (desk ∷ desks) = IsGiven seats seat desk.session × AreGiven seats (seat + 1) desks

-- the session of a seat of which nothing was asked yet, with this pass
pub record IsNewSession {P : Type 0} (known : P → Known) (seats seat : ℕ) (pass : P) (s : Session P) : Type 0 where
  pub has : s.pass ≡ pass
  pub given : IsGiven seats seat s
  pub script : s.section.lines ≡ seat_quit ∷ []
  pub begun : s.done ≡ 0
  pub between : s.doing ≡ Lines
  pub shown : s.items.items ≡ []
  pub rested : (shape : Shape) → HasRest shape known s

-- an inbox was opened behind the others: by the one pass it is put into, and by the other taken from it
pub record GivesInbox (old new : List (Outlet (Option Ask))) (put asks : Pass (Option Ask)) : Type 0 where
  pub inbox : Outlet (Option Ask)
  pub more : new ≡ old ++ inbox ∷ []
  pub put_own : IsPassOf inbox put
  pub asks_own : IsPassOf inbox asks
  pub puts : knows put ≡ sender
  pub takes : knows asks ≡ taker

-- a desk with a session, and a caller, at an inbox of which nothing was taken and into which nothing was put
pub record IsPlaced {P : Type 0} (most seat : ℕ) (session : Session P) (inbox : Outlet (Option Ask)) (desk : Desk P) (caller : Caller) : Type 0 where
  pub has : desk.session ≡ session
  pub own : IsPassOf inbox desk.asks
  pub takes : knows desk.asks ≡ taker
  pub counted : desk.notes ≡ 0
  pub unset : desk.settings ≡ fresh
  pub calls : Begins most seat inbox caller

-- a session has got a desk, a caller and an inbox behind the others
pub record SitsMore {P : Type 0} (most : ℕ) (session : Session P) (inboxes more_inboxes : List (Outlet (Option Ask))) (desks more_desks : List (Desk P)) (callers more_callers : List Caller) : Type 0 where
  pub inbox : Outlet (Option Ask)
  pub desk : Desk P
  pub caller : Caller
  pub seat : (number : ℕ) → IsPlaced most number session inbox desk caller
  pub inboxes_are : more_inboxes ≡ inboxes ++ inbox ∷ []
  pub desks_are : more_desks ≡ desks ++ desk ∷ []
  pub callers_are : more_callers ≡ callers ++ caller ∷ []

-- what the seat of this number has, with this pass
pub record IsNewSeat {P : Type 0} (known : P → Known) (seats seat : ℕ) (pass : P) (inbox : Outlet (Option Ask)) (desk : Desk P) (caller : Caller) : Type 0 where
  pub session : IsNewSession known seats seat pass desk.session
  pub seated : IsPlaced (seat_notes seats) seat desk.session inbox desk caller

-- what the seats from this number on have, each with one of these passes
abbrev pub AreNewSeats : {P : Type 0} → (P → Known) → ℕ → ℕ → List P → List (Outlet (Option Ask)) → List (Desk P) → List Caller → Type 0
AreNewSeats known seats seat [] [] [] [] = Unit {0}
AreNewSeats known seats seat (pass ∷ passes) (inbox ∷ inboxes) (desk ∷ desks) (caller ∷ callers) =
    IsNewSeat known seats seat pass inbox desk caller × AreNewSeats known seats (seat + 1) passes inboxes desks callers
AreNewSeats known seats seat passes inboxes desks callers = ⊥

-- what all seats have with these passes
abbrev pub AreSeated : {P : Type 0} → (P → Known) → ℕ → List P → List (Outlet (Option Ask)) → List (Desk P) → List Caller → Type 0
AreSeated known seats passes inboxes desks callers = AreNewSeats known seats 1 passes inboxes desks callers

-- a service before its first byte
pub record IsOpened {P : Type 0} (is_own : P → Type 0) (shape : Shape) (known : P → Known) (seats : ℕ) (inboxes : List (Outlet (Option Ask))) (desks : List (Desk P)) (callers : List Caller) : Type 0 where
  pub shape_is : shape ≡ service_shape seats
  pub passes : List P
  pub own : All is_own passes
  pub count : length passes ≡ seats
  pub seated : AreSeated known seats passes inboxes desks callers
