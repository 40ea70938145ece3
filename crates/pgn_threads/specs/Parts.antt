-- What contracts see of the sessions of a scenario once they are over.
use Rattle.std.specs.Prelude.{ℕ, ◌≤◌, List, IfSome, All}
use Rattle.pgn_model.specs.declared.item.Item.{Item}
use Rattle.pgn_hub.specs.declared.known.Known.{Known}
use Rattle.pgn_language.specs.declared.scenario.Section.{Section}
use Rattle.pgn_model.specs.declared.trace.Trace.{Trace}
use Rattle.pgn_hub.specs.Shape.{Shape}
use Rattle.pgn_model.specs.Walk.{Settings}
use Rattle.pgn_block.specs.Views.{BlockView}
use Rattle.pgn_hub.specs.Passes.{IsWithin}
use Rattle.pgn_session.specs.declared.session.Session.{Session}
use Rattle.pgn_session.specs.declared.doing.FlagPlan.{FlagPlan}
use Rattle.pgn_session.specs.declared.doing.Doing.TheVariants.{Over}
use Rattle.pgn_session.specs.Standing.{terms_of, IsRested}

-- a session's section, what is known of its pass, and what happened
pub record Part : Type 0 where
  pub section : Section
  pub known : Known
  pub items : List Item

abbrev pub part_of : {P : Type 0} → (P → Known) → Session P → Part
part_of known s = record { section = s.section; known = known s.pass; items = s.items.items }

-- by what all traces are judged, at a hub of this shape
abbrev pub settings_of : Shape → ℕ → Settings
settings_of shape patience = record { format = shape.format; limit = shape.pages; patience = patience }

-- the session's trace
abbrev pub trace_of : Part → Trace
trace_of part = record { session = part.section.no; db = part.section.db; items = part.items; last = part.known.mark }

-- the session is over, and left no read out
pub record HasRunOut (shape : Shape) (plan : FlagPlan) (patience : ℕ) (part : Part) : Type 0 where
  pub done : ℕ
  pub block : BlockView
  pub set : List (List ℕ)
  pub rested : IsRested (terms_of shape part.section patience) plan done block set Over part.known part.items
  pub within : IsWithin part.known

-- a session that still listens has read up to where each knows wakes to be set
abbrev pub HasReadAll : List Known → Known → Type 0
HasReadAll passes k = IfSome k.mark (λ mark. All (λ other. other.signalled ≤ mark) passes)
