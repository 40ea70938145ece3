-- Desks side by side: what they are before they begin, and once they have run.
use Rattle.std.specs.Prelude.{◌≡◌, ℕ, ◌+◌, ◌<◌, ◌≤◌, List, [], length, map, All, Option, Result, OnOk}
use Rattle.std.specs.List.{AllZip}
use Rattle.pgn_hub.specs.declared.known.Known.{Known}
use Rattle.pgn_hub.specs.Shape.{Shape}
use Rattle.pgn_language.specs.declared.scenario.Section.{Section}
use Rattle.pgn_language.specs.Inputs.{AreNumbered}
use Rattle.pgn_session.specs.Open.{BeginsEmpty, IsSameClient}
use Rattle.pgn_session.specs.Standing.{IsServedBy}
use Rattle.pgn_session.specs.Whole.{HasRest}
use Rattle.pgn_outlet.specs.declared.hand.Hand.{Hand}
use Rattle.pgn_outlet.specs.declared.outlet.Outlet.{Outlet}
use Rattle.pgn_outlet.specs.Cames.{what_of}
use Rattle.pgn_outlet.specs.Passes.{knows}
use Rattle.pgn_messages.specs.declared.asked.Ask.{Ask}
use Rattle.pgn_messages.specs.declared.saying.Saying.{Saying}
use Rattle.pgn_requests.specs.Settings.{fresh}
use Rattle.pgn_messages.specs.Asks.{seat_quit}
use Rattle.pgn_seats.specs.declared.desk.Desk.{Desk}
use Rattle.pgn_seats.specs.Serving.{HasInbox, HasServed, HasToldFirst}

-- the sections of desks' sessions
abbrev pub sections_of : {P : Type 0} → List (Desk P) → List Section
sections_of desks = map (λ desk. desk.session.section) desks

-- a desk that may begin: its script is the `\quit`, and it has taken nothing
pub record MayBegin {P : Type 0} (is_own : P → Type 0) (shape : Shape) (known : P → Known) (inboxes : List (Outlet (Option Ask))) (desk : Desk P) : Type 0 where
  pub own : is_own desk.session.pass
  pub served : IsServedBy shape desk.session.section desk.session.plan
  pub rested : HasRest shape known desk.session
  pub begins : BeginsEmpty desk.session
  pub quits : begins.last ≡ seat_quit
  pub inbox : HasInbox inboxes desk
  pub untaken : (knows desk.asks).got ≡ []
  pub counted : desk.notes ≡ 0
  pub fresh : desk.settings ≡ fresh

-- desks that may begin, numbered from the first number of a pass on and not more than its numbers; they tell by that pass, which has pushed nothing
pub record MayServe {P : Type 0} (is_own : P → Type 0) (shape : Shape) (known : P → Known) (inboxes : List (Outlet (Option Ask))) (desks : List (Desk P)) (v : Hand Saying) : Type 0 where
  pub begin : All (MayBegin is_own shape known inboxes) desks
  pub numbered : AreNumbered v.first (sections_of desks)
  pub fits : length desks ≤ v.count
  pub unused : v.sent ≡ []

-- desk by desk, the client is the same
abbrev pub AreSameClients : {P : Type 0} → List (Desk P) → List (Desk P) → Type 0
AreSameClients old new = AllZip (λ desk later. IsSameClient desk.session later.session) old new

-- such desks have run: each has told whole turns and pushed nothing else, and where the answer is no refusal each has served to its end
pub record HaveServed {P A E : Type 0} (is_own : P → Type 0) (shape : Shape) (known : P → Known) (inboxes : List (Outlet (Option Ask))) (old new : List (Desk P)) (before after : Hand Saying) (r : Result A E) : Type 0 where
  pub clients : AreSameClients old new
  pub told : All (λ desk. HasToldFirst shape inboxes desk after) new
  pub served : OnOk r (All (λ desk. HasServed is_own shape known inboxes desk after) new)
  pub same : after ≡ record before { sent = after.sent }
  pub others : (m : ℕ) → (before.first ≤ m → m < before.first + length old → ⊥) → what_of m after.sent ≡ []
