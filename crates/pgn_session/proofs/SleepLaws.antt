-- A session that has slept stands where it stood.
use Rattle.std.proofs.Common.{◌≡◌, ℕ, ◌-◌, ◌<◌, ◌≤◌, min, Bool, true, false, cond, nat_lt, ap, sym, refl, subst, arith}
use Rattle.pgn_model.specs.Walk.{Terms, State}
use Rattle.pgn_hub.specs.declared.known.Known.{Known}
use Rattle.pgn_hub.specs.Shape.{Shape}
use Rattle.pgn_block.specs.Views.{BlockView}
use Rattle.pgn_session.specs.declared.session.Session.{Session}
use Rattle.pgn_session.specs.declared.doing.FlagPlan.{FlagPlan}
use Rattle.pgn_session.specs.declared.doing.Doing.{Doing}
use Rattle.pgn_session.specs.declared.doing.Doing.TheVariants.{Lines, Committing, Awaiting, Ending, Over}
use Rattle.pgn_session.specs.Standing.{terms_of, HasAnswered, HasRested, IsServedBy}
use Rattle.pgn_session.specs.Sleep.{slept_looks, slept_doing, slept_for, IsAwaitedBelow}
use Rattle.pgn_session.specs.Runs.{slept}
use Rattle.pgn_session.specs.Whole.{HasAnswer, HasRest}
use Rattle.pgn_session.proofs.AwaitLaws.{awaited-below}

-- it leaves a look of the patience
slept-below : (patience looks micros : ℕ) → looks < patience → slept_looks patience looks micros < patience
slept-below patience looks micros few = omega (arith, few)

slept-answered : (terms : Terms) (plan : FlagPlan) (block : BlockView) (k : Known) (s : State) (micros : ℕ) (doing : Doing) → HasAnswered terms plan block k s doing
    → HasAnswered terms plan block k s (slept_doing terms.settings.patience micros doing)
slept-answered terms plan block k s micros Lines h = h
slept-answered terms plan block k s micros (Committing actions notes tag) h = h
slept-answered terms plan block k s micros (Awaiting flag looks) h = (h.0, slept-below terms.settings.patience looks micros h.1, h.2)
slept-answered terms plan block k s micros (Ending found looks) h = (h.0, slept-below terms.settings.patience looks micros h.1, h.2, h.3)
slept-answered terms plan block k s micros Over h = h

slept-rested : (terms : Terms) (plan : FlagPlan) (block : BlockView) (k : Known) (s : State) (micros : ℕ) (doing : Doing) → HasRested terms plan block k s doing
    → HasRested terms plan block k s (slept_doing terms.settings.patience micros doing)
slept-rested terms plan block k s micros Lines h = h
slept-rested terms plan block k s micros (Committing actions notes tag) h = h
slept-rested terms plan block k s micros (Awaiting flag looks) h = (slept-answered terms plan block k s micros (Awaiting flag looks) h.0, h.1)
slept-rested terms plan block k s micros (Ending found looks) h = (slept-answered terms plan block k s micros (Ending found looks) h.0, h.1)
slept-rested terms plan block k s micros Over h = h

-- it does not sleep longer than it was asked to
pub slept-within : (plan : FlagPlan) (patience micros : ℕ) (doing : Doing) → slept_for plan patience micros doing ≤ micros
slept-within plan patience micros Lines = omega arith
slept-within plan patience micros (Committing actions notes tag) = omega arith
slept-within plan patience micros (Awaiting flag looks) = omega arith
slept-within plan patience micros (Ending first looks) = either (nat_lt first plan.sessions)
  where
    either : (waits : Bool) → cond waits (min micros (patience - looks)) 0 ≤ micros
    either true = omega arith
    either false = omega arith
slept-within plan patience micros Over = omega arith

-- of a whole session
pub answer-slept : {P : Type 0} (shape : Shape) (known : P → Known) (old new : Session P) (micros : ℕ) → new ≡ record old { doing = slept_doing old.patience micros old.doing } → HasAnswer shape known old → HasAnswer shape known new
answer-slept {P} shape known old new micros same h =
    subst (λ (s : Session P). HasAnswer shape known s) (sym same)
    (record { state = h.state; stands = h.stands; rest = h.rest; channels = h.channels; here = slept-answered (terms_of shape old.section old.patience) old.plan old.block (known old.pass) h.state micros old.doing h.here })

-- a sleep that was counted keeps a session rested
pub rest-slept : {P : Type 0} (shape : Shape) (known : P → Known) (old new : Session P) (micros : ℕ) → new ≡ record old { doing = slept_doing old.patience micros old.doing } → HasRest shape known old → HasRest shape known new
rest-slept {P} shape known old new micros same h =
    subst (λ (s : Session P). HasRest shape known s) (sym same)
    (record { state = h.state; stands = h.stands; rest = h.rest; channels = h.channels; here = slept-rested (terms_of shape old.section old.patience) old.plan old.block (known old.pass) h.state micros old.doing h.here })

-- the flag that it awaits is one of the hub's
rested-below : (shape : Shape) (terms : Terms) (plan : FlagPlan) (block : BlockView) (k : Known) (s : State) (doing : Doing) → IsServedBy shape terms.section plan → HasRested terms plan block k s doing → IsAwaitedBelow shape.flags doing
rested-below shape terms plan block k s Lines served h = tt
rested-below shape terms plan block k s (Committing actions notes tag) served h = tt
rested-below shape terms plan block k s (Awaiting flag looks) served h = awaited-below terms.section shape.flags flag served.acts h.0.2
rested-below shape terms plan block k s (Ending found looks) served h = tt
rested-below shape terms plan block k s Over served h = tt

-- the hub has the flag that a rested session awaits
pub rest-below : {P : Type 0} (shape : Shape) (known : P → Known) (s : Session P) → IsServedBy shape s.section s.plan → HasRest shape known s → IsAwaitedBelow shape.flags s.doing
rest-below shape known s served h = rested-below shape (terms_of shape s.section s.patience) s.plan s.block (known s.pass) h.state s.doing served h.here

-- who has not slept counts nothing
doing-unslept : (patience : ℕ) (doing : Doing) → slept_doing patience 0 doing ≡ doing
doing-unslept patience Lines = refl
doing-unslept patience (Committing actions notes tag) = refl
doing-unslept patience (Awaiting flag looks) = ap (λ (n : ℕ). Awaiting flag n) (omega arith)
doing-unslept patience (Ending found looks) = ap (λ (n : ℕ). Ending found n) (omega arith)
doing-unslept patience Over = refl

-- a sleep of no time counts nothing
pub unslept-same : {P : Type 0} (s : Session P) → s ≡ slept 0 s
unslept-same {P} s = sym (ap (λ (d : Doing). record s { doing = d }) (doing-unslept s.patience s.doing))
