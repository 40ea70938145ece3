-- What a desk has done: its session's script and trace in turns, what it has taken from its inbox, and what it has told.
use Rattle.std.specs.Prelude.{◌≡◌, ℕ, ◌-◌, ◌≤◌, ◌⊎◌, true, List, [], ◌∷◌, ◌++◌, length, map, get_or, Option, Some, None, All}
use Rattle.pgn_hub.specs.declared.known.Known.{Known}
use Rattle.pgn_hub.specs.Shape.{Shape}
use Rattle.pgn_language.specs.declared.scenario.ScriptLine.{ScriptLine}
use Rattle.pgn_language.specs.Inputs.{note_lines_of}
use Rattle.pgn_model.specs.declared.item.Item.{Item}
use Rattle.pgn_model.specs.declared.item.Item.TheVariants.{Line}
use Rattle.pgn_session.specs.declared.session.Session.{Session}
use Rattle.pgn_session.specs.declared.doing.Doing.TheVariants.{Over}
use Rattle.pgn_session.specs.Open.{IsOpen}
use Rattle.pgn_session.specs.Runs.{IsLawful}
use Rattle.pgn_session.specs.Standing.{IsServedBy}
use Rattle.pgn_session.specs.Whole.{HasRest}
use Rattle.pgn_outlet.specs.declared.hand.Hand.{Hand}
use Rattle.pgn_outlet.specs.declared.outlet.Outlet.{Outlet}
use Rattle.pgn_outlet.specs.Cames.{what_of}
use Rattle.pgn_outlet.specs.Passes.{IsPassOf, knows}
use Rattle.pgn_messages.specs.declared.asked.Ask.{Ask}
use Rattle.pgn_messages.specs.declared.saying.Saying.{Saying}
use Rattle.pgn_messages.specs.Asks.{seat_quit}
use Rattle.pgn_messages.specs.Sayings.{all_told}
use Rattle.pgn_messages.specs.Turns.{Turn, IsPlain, IsRead, asks_of, items_of, lines_of, said, telling_of}
use Rattle.pgn_seats.specs.declared.desk.Desk.{Desk}

-- what was taken from the inbox of seat n, in order
abbrev pub taken : ℕ → Hand (Option Ask) → List (Option Ask)
taken n v = what_of n v.got

-- the desk's number is that of one of the inboxes, and from that one it takes
pub record HasInbox {P : Type 0} (inboxes : List (Outlet (Option Ask))) (desk : Desk P) : Type 0 where
  pub some : 1 ≤ desk.session.section.no
  pub within : desk.session.section.no ≤ length inboxes
  pub own : (d : Outlet (Option Ask)) → IsPassOf (get_or inboxes (desk.session.section.no - 1) d) desk.asks
  pub takes : (knows desk.asks).takes ≡ true

-- the script and the trace of a session are those of these turns so far, with the `\quit` still to come
pub record IsInTurns {P : Type 0} (s : Session P) (turns : List Turn) : Type 0 where
  pub plain : All IsPlain turns
  pub lines : s.section.lines ≡ lines_of turns ++ seat_quit ∷ []
  pub items : s.items.items ≡ items_of turns

-- a desk that serves its seat: each of what it has taken was answered and told, in turns, and nothing else
pub record Serves {P : Type 0} (is_own : P → Type 0) (shape : Shape) (known : P → Known) (inboxes : List (Outlet (Option Ask))) (desk : Desk P) (tells : Hand Saying) : Type 0 where
  pub own : is_own desk.session.pass
  pub served : IsServedBy shape desk.session.section desk.session.plan
  pub rested : HasRest shape known desk.session
  pub is_open : IsOpen desk.session
  pub counted : desk.notes ≡ note_lines_of desk.session.section.lines
  pub inbox : HasInbox inboxes desk
  pub turns : List Turn
  pub in_turns : IsInTurns desk.session turns
  pub asked : taken desk.session.section.no (knows desk.asks) ≡ map Some (asks_of turns)
  pub told : all_told (what_of desk.session.section.no tells.sent) ≡ said desk.session.section.no turns
  pub settings : desk.settings ≡ (telling_of turns).kept

-- a session whose script is done: behind the items of its turns stand the `\quit` and what that does, which is no read
pub record HasQuitBehind {P : Type 0} (s : Session P) (turns : List Turn) : Type 0 where
  pub plain : All IsPlain turns
  pub lines : s.section.lines ≡ lines_of turns ++ seat_quit ∷ []
  pub more : List Item
  pub items : s.items.items ≡ items_of turns ++ Line seat_quit.line ∷ more
  pub unread : All (λ item. IsRead item → ⊥) more

-- a desk that has served its seat to the end of its inbox: each of what was asked was answered and told, and the session is over
pub record HasServed {P : Type 0} (is_own : P → Type 0) (shape : Shape) (known : P → Known) (inboxes : List (Outlet (Option Ask))) (desk : Desk P) (tells : Hand Saying) : Type 0 where
  pub own : is_own desk.session.pass
  pub rested : HasRest shape known desk.session
  pub over : desk.session.doing ≡ Over
  pub left : (known desk.session.pass).mark ≡ None
  pub inbox : HasInbox inboxes desk
  pub turns : List Turn
  pub quits : HasQuitBehind desk.session turns
  pub asked : taken desk.session.section.no (knows desk.asks) ≡ map Some (asks_of turns) ++ None ∷ []
  pub told : all_told (what_of desk.session.section.no tells.sent) ≡ said desk.session.section.no turns

-- it serves, or has served
abbrev pub IsSeated : {P : Type 0} → (P → Type 0) → Shape → (P → Known) → List (Outlet (Option Ask)) → Desk P → Hand Saying → Type 0
IsSeated is_own shape known inboxes desk tells = Serves is_own shape known inboxes desk tells ⊎ HasServed is_own shape known inboxes desk tells

-- the first items of a session's trace, which is lawful so far, are those of whole turns, the first of what was taken asked for them, and what
-- was told are they: so it is of each desk, also where memory did not suffice
pub record HasToldFirst {P : Type 0} (shape : Shape) (inboxes : List (Outlet (Option Ask))) (desk : Desk P) (tells : Hand Saying) : Type 0 where
  pub lawful : IsLawful shape desk.session
  pub inbox : HasInbox inboxes desk
  pub turns : List Turn
  pub plain : All IsPlain turns
  pub more : List Item
  pub items : desk.session.items.items ≡ items_of turns ++ more
  pub rest : List ScriptLine
  pub lines : desk.session.section.lines ≡ lines_of turns ++ rest
  pub others : List (Option Ask)
  pub asked : taken desk.session.section.no (knows desk.asks) ≡ map Some (asks_of turns) ++ others
  pub told : all_told (what_of desk.session.section.no tells.sent) ≡ said desk.session.section.no turns

-- a pass may have pushed for number n, and has pushed nothing for others
pub record HasPushedFor (n : ℕ) (old new : Hand Saying) : Type 0 where
  pub same : new ≡ record old { sent = new.sent }
  pub others : (m : ℕ) → (m ≡ n → ⊥) → what_of m new.sent ≡ what_of m old.sent
