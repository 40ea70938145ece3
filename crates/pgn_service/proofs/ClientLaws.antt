-- A hub that is opened for one client, and its session.
use Rattle.std.proofs.Common.{◌≡◌, ℕ, List, [], ◌∷◌, length, map, get_or, All, sym, ap, ◌∙◌, subst, refl, arith}
use Rattle.std.specs.List.{range_with_len}
use Rattle.std.proofs.lemmas.List.{length-map}
use Rattle.std.proofs.lemmas.List.Elements.{All-nil, All-cons, All-head}
use Rattle.pgn_hub.specs.declared.setup.SeatSetup.{SeatSetup}
use Rattle.pgn_hub.specs.Passes.{opened_pass, opened_passes}
use Rattle.pgn_hub.specs.declared.known.Known.{Known}
use Rattle.pgn_hub.specs.Shape.{Shape}
use Rattle.pgn_language.specs.declared.scenario.Section.{Section}
use Rattle.pgn_language.specs.declared.scenario.ScriptLine.{ScriptLine}
use Rattle.pgn_session.specs.declared.session.Session.{Session}
use Rattle.pgn_session.specs.declared.doing.Doing.TheVariants.{Lines}
use Rattle.pgn_session.specs.declared.doing.FlagPlan.{FlagPlan}
use Rattle.pgn_session.specs.Standing.{IsFlagBelow, IsServedBy}
use Rattle.pgn_session.specs.Whole.{HasRest}
use Rattle.pgn_queries.specs.Script.{wire_quit}
use Rattle.pgn_session.specs.Open.{BeginsEmpty}
use Rattle.pgn_service.specs.Conversation.{session_section, wire_plan, wire_seat, wire_shape}

-- it is that of a pass as it is opened
pub opened-known : {P : Type 0} (known : P → Known) (passes : List P) (pass : P) (setup : Shape) (seats : List SeatSetup) → map known passes ≡ opened_passes 1 setup.seats → setup.seats ≡ seats → seats ≡ wire_shape.seats → passes ≡ pass ∷ []
    → known pass ≡ opened_pass 1 wire_seat
opened-known {P} known passes pass setup seats e f g one =
    let all : known pass ∷ [] ≡ opened_passes 1 wire_shape.seats = ap (λ (ps : List P). map known ps) (sym one) ∙ e ∙ ap (λ (s : List SeatSetup). opened_passes 1 s) (f ∙ g) in
    ap (λ (ks : List Known). get_or ks 0 (known pass)) all

-- it is the only one
pub only-one : {P : Type 0} (known : P → Known) (passes : List P) (setup : Shape) (seats : List SeatSetup) → map known passes ≡ opened_passes 1 setup.seats → setup.seats ≡ seats → seats ≡ wire_shape.seats → length passes ≡ 1
only-one known passes setup seats e f g = sym (length-map passes known) ∙ ap (λ (ks : List Known). length ks) e ∙ ap (λ (s : List SeatSetup). length (opened_passes 1 s)) (f ∙ g)

-- what holds of all holds of it
pub only-has : {P : Type 0} (Q : P → Type 0) (passes : List P) (pass : P) → All Q passes → passes ≡ pass ∷ [] → Q pass
only-has {P} Q passes pass h e = All-head Q pass [] (subst (λ (ps : List P). All Q ps) e h)

one-line : (shape : Shape) → All (λ line. IsFlagBelow shape.flags line.act) (wire_quit ∷ [])
one-line shape = All-cons (λ (line : ScriptLine). IsFlagBelow shape.flags line.act) wire_quit [] tt (All-nil (λ (line : ScriptLine). IsFlagBelow shape.flags line.act))

-- the section is served by the hub
pub opened-served : (shape : Shape) (section : Section) (plan : FlagPlan) → shape ≡ wire_shape → section ≡ session_section [] → plan ≡ wire_plan → IsServedBy shape section plan
opened-served shape section plan e f g =
    subst (λ (s : Shape). IsServedBy s section plan) (sym e) (subst (λ (s : Section). IsServedBy wire_shape s plan) (sym f) (subst (λ (p : FlagPlan). IsServedBy wire_shape (session_section []) p) (sym g)
    (record { acts = one-line wire_shape; ends = omega arith; session = omega arith })))

-- the session may begin
pub opened-begins : {P : Type 0} (s : Session P) → s.section ≡ session_section [] → s.done ≡ 0 → s.doing ≡ Lines → s.items.items ≡ [] → BeginsEmpty s
opened-begins s e done doing items = record {
  last = wire_quit;
  lines = ap (λ (section : Section). section.lines) e;
  quits = refl;
  begun = done;
  between = doing;
  shown = items;
}

-- The gathered pass.

-- the one pass of a client's session is that of the one seat
pub session-one : {P : Type 0} (shape : Shape) (known : P → Known) (s : Session P) (passes : List P) → HasRest shape known s → s.section.no ≡ 1 → passes ≡ s.pass ∷ [] → shape ≡ wire_shape
    → map (λ pass. (known pass).session) passes ≡ range_with_len 1 (length shape.seats)
session-one {P} shape known s passes rested first e is =
    let number : (known s.pass).session ≡ 1 = rested.stands.session ∙ first in
    ap (λ (ps : List P). map (λ (pass : P). (known pass).session) ps) e ∙ ap (λ (n : ℕ). n ∷ []) number ∙ ap (λ (z : Shape). range_with_len 1 (length z.seats)) (sym is)

-- what holds of one pass holds of all of them
pub own-one : {P : Type 0} (Q : P → Type 0) (pass : P) (passes : List P) → passes ≡ pass ∷ [] → Q pass → All Q passes
own-one {P} Q pass passes e h = subst (λ (ps : List P). All Q ps) (sym e) (All-cons Q pass [] h (All-nil Q))

-- the pass that was put into the list alone is the session's
pub alone-is : {P : Type 0} (all : List P) (pushed pass : P) → all ≡ pushed ∷ [] → pushed ≡ pass → all ≡ pass ∷ []
alone-is {P} all pushed pass e f = e ∙ ap (λ (p : P). p ∷ []) f
