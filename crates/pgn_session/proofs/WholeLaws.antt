-- What a step of a whole session promises, from what it has done or why it was refused.
use Rattle.std.proofs.Common.{◌≡◌, ◌↔◌, ◌⊎◌, inl, inr, ℕ, ◌+◌, List, ◌∷◌, drop, Result, Ok, Err, IfOk, OnErr, sym, ap, refl, subst, arith}
use Rattle.pgn_model.specs.declared.item.Item.{Item}
use Rattle.pgn_hub.specs.declared.known.Known.{Known}
use Rattle.pgn_language.specs.declared.scenario.Act.{Act}
use Rattle.pgn_language.specs.declared.scenario.ScriptLine.{ScriptLine}
use Rattle.pgn_hub.specs.Shape.{Shape}
use Rattle.pgn_block.specs.Views.{BlockView}
use Rattle.pgn_model.specs.Walk.{Terms}
use Rattle.pgn_session.specs.declared.session.Session.{Session}
use Rattle.pgn_session.specs.declared.doing.FlagPlan.{FlagPlan}
use Rattle.pgn_session.specs.declared.doing.Step.{Step}
use Rattle.pgn_session.specs.declared.doing.Step.TheVariants.{Did, Waiting, Ended}
use Rattle.pgn_session.specs.declared.doing.Doing.{Doing}
use Rattle.pgn_session.specs.declared.doing.Doing.TheVariants.{Lines, Committing, Awaiting, Ending, Over}
use Rattle.pgn_session.specs.Standing.{terms_of, IsRested}
use Rattle.pgn_session.specs.Steps.{HasBegun, HasMoved, StandsStill, AnswersLine, BeginsEnd, unanswered, Waits, Ends}
use Rattle.pgn_session.specs.Whole.{ComesWith, HasAnswer, HasRest, IsSameScript, HasStepped, HasRefused}
use Rattle.pgn_session.proofs.StepLaws.{CountsFound, moved-waits, moved-ended, refused-ended, moved-did, moved-over}

-- what a step did, or that it was refused
pub record Came {P E : Type 0} (shape : Shape) (known : P → Known) (old new : Session P) (r : Result Step E) : Type 0 where
  pub stepped : IfOk r (λ step. HasStepped shape known old old.doing new step)
  pub refused : OnErr r (HasRefused shape known old old.doing new)

counts : (terms : Terms) (plan : FlagPlan) (done : ℕ) (block : BlockView) (set : List (List ℕ)) (doing : Doing) (k : Known) (items : List Item) → IsRested terms plan done block set doing k items → CountsFound plan doing k
counts terms plan done block set Lines k items h = tt
counts terms plan done block set (Committing actions notes tag) k items h = tt
counts terms plan done block set (Awaiting flag looks) k items h = tt
counts terms plan done block set (Ending first looks) k items h = h.here.0.3
counts terms plan done block set Over k items h = tt

-- a step that came to waiting waits as its place says
pub came-waiting : {P E : Type 0} (shape : Shape) (known : P → Known) (old new : Session P) (r : Result Step E) → Came shape known old new r → r ≡ Ok Waiting → Waits old.plan old.patience (known old.pass) (known new.pass) new.doing
came-waiting shape known old new (Ok step) c is =
    moved-waits old.plan old.section.no old.patience (drop old.done old.section.lines) old.doing old.done new.done (known old.pass) (known new.pass) old.items.items new.items.items new.doing step c.stepped.moved
    (let e : step ≡ Waiting = cc in e)
came-waiting shape known old new (Err e) c is = absurd (let no : ⊥ = cc in no)

-- a step came to the end just where its place says that it ends
pub came-ended : {P E : Type 0} (shape : Shape) (known : P → Known) (old new : Session P) (r : Result Step E) → Came shape known old new r → HasRest shape known old
    → (r ≡ Ok Ended) ↔ Ends old.plan old.patience old.doing (known new.pass)
came-ended shape known old new (Ok step) c h =
    let ended = moved-ended old.plan old.section.no old.patience (drop old.done old.section.lines) old.doing old.done new.done (known old.pass) (known new.pass) old.items.items new.items.items new.doing step c.stepped.moved
    (counts _ old.plan old.done old.block old.set.channels old.doing (known old.pass) old.items.items h) in
    (λ is. ended.0 (let e : step ≡ Ended = cc in e), λ h. ap Ok (ended.1 h))
came-ended shape known old new (Err e) c h = (λ is. absurd (let no : ⊥ = cc in no), λ ended. absurd (refused-ended old.plan old.patience old.doing new.doing (known new.pass) c.refused.place ended))

-- no line got its answer by a step that was refused, nor did the end begin
refused-did : (plan : FlagPlan) (session : ℕ) (lines : List ScriptLine) (stood stands : Doing) (done counted : ℕ) (k q : Known) → StandsStill stood stands → counted ≡ done
    → AnswersLine stood done stands counted ⊎ BeginsEnd plan session lines stood stands k q → ⊥
refused-did plan session lines Lines stands done counted k q still same (inl answers) = omega (arith, same, answers)
refused-did plan session lines (Committing actions notes tag) stands done counted k q still same (inl answers) = omega (arith, same, answers)
refused-did plan session lines (Awaiting flag looks) stands done counted k q still same (inl answers) = omega (arith, same, answers, ap unanswered still)
refused-did plan session lines (Ending first looks) stands done counted k q still same h = still
refused-did plan session lines Over stands done counted k q still same h = still
refused-did plan session lines Lines (Committing actions notes tag) done counted k q still same (inr begins) = let no : ⊥ = cc begins.place in no
refused-did plan session lines Lines Lines done counted k q still same (inr begins) = let no : ⊥ = cc begins.place in no
refused-did plan session lines Lines (Awaiting flag looks) done counted k q still same (inr begins) = let no : ⊥ = cc still in no
refused-did plan session lines Lines (Ending first looks) done counted k q still same (inr begins) = let no : ⊥ = cc still in no
refused-did plan session lines Lines Over done counted k q still same (inr begins) = let no : ⊥ = cc still in no
refused-did plan session lines (Committing actions notes tag) stands done counted k q still same (inr begins) = let no : ⊥ = cc begins.stood_between in no
refused-did plan session lines (Awaiting flag looks) stands done counted k q still same (inr begins) = let no : ⊥ = cc begins.stood_between in no

-- a step came to Did just where a line got its answer or the end began
pub came-did : {P E : Type 0} (shape : Shape) (known : P → Known) (old new : Session P) (r : Result Step E) → Came shape known old new r
    → (r ≡ Ok Did) ↔ (AnswersLine old.doing old.done new.doing new.done ⊎ BeginsEnd old.plan old.section.no (drop old.done old.section.lines) old.doing new.doing (known old.pass) (known new.pass))
came-did shape known old new (Ok step) c =
    let did = moved-did old.plan old.section.no old.patience (drop old.done old.section.lines) old.doing old.done new.done (known old.pass) (known new.pass) old.items.items new.items.items new.doing step c.stepped.moved in
    (λ is. did.0 (let e : step ≡ Did = cc in e), λ h. ap Ok (did.1 h))
came-did shape known old new (Err e) c =
    (λ is. absurd (let no : ⊥ = cc in no), λ h. absurd (refused-did old.plan old.section.no (drop old.done old.section.lines) old.doing new.doing old.done new.done (known old.pass) (known new.pass) c.refused.place c.refused.counted h))

-- one that came to the end is over
pub came-over : {P E : Type 0} (shape : Shape) (known : P → Known) (old new : Session P) (r : Result Step E) → Came shape known old new r → r ≡ Ok Ended → new.doing ≡ Over
came-over shape known old new (Ok step) c is =
    moved-over old.plan old.section.no old.patience (drop old.done old.section.lines) old.doing old.done new.done (known old.pass) (known new.pass) old.items.items new.items.items new.doing step c.stepped.moved
    (let e : step ≡ Ended = cc in e)
came-over shape known old new (Err e) c is = absurd (let no : ⊥ = cc in no)

-- and it left no read out
pub came-rested : {P E : Type 0} (shape : Shape) (known : P → Known) (old new : Session P) (r : Result Step E) → Came shape known old new r → r ≡ Ok Ended → HasRest shape known new
came-rested shape known old new (Ok step) c is = c.stepped.rested (let e : step ≡ Ended = cc in e)
came-rested shape known old new (Err e) c is = absurd (let no : ⊥ = cc in no)

-- a line was begun: the step by the line that comes with this act
line-moved : (plan : FlagPlan) (session patience : ℕ) (lines rest : List ScriptLine) (line : ScriptLine) (number : ℕ) (act : Act) (done counted : ℕ) (k q : Known) (before after : List Item) (stands : Doing) (step : Step)
    → lines ≡ line ∷ rest → line.line ≡ number → line.act ≡ act → HasBegun plan session patience number act k q before after stands step → counted ≡ done + 1
    → HasMoved plan session patience lines Lines done counted k q before after stands step
line-moved plan session patience lines rest line number act done counted k q before after stands step e is does begun one =
    subst (λ (ls : List ScriptLine). HasMoved plan session patience ls Lines done counted k q before after stands step) (sym e) (
      subst (λ (n : ℕ). HasBegun plan session patience n line.act k q before after stands step) (sym is)
          (subst (λ (a : Act). HasBegun plan session patience number a k q before after stands step) (sym does) begun),
      one,
    )

-- a line that was begun and answered is a step from between two lines
pub line-stepped : {P : Type 0} (shape : Shape) (known : P → Known) (old new : Session P) (line : ℕ) (act : Act) (step : Step) → ComesWith old line act → IsSameScript old new → new.done ≡ old.done + 1
    → HasAnswer shape known new → (step ≡ Ended → HasRest shape known new)
    → HasBegun old.plan old.section.no old.patience line act (known old.pass) (known new.pass) old.items.items new.items.items new.doing step → HasStepped shape known old Lines new step
line-stepped shape known old new line act step comes same one answered rested begun = record {
  same = same;
  answered = answered;
  rested = rested;
  moved = line-moved old.plan old.section.no old.patience (drop old.done old.section.lines) (drop (old.done + 1) old.section.lines) comes.next line act old.done new.done (known old.pass) (known new.pass) old.items.items new.items.items new.doing step
      comes.split comes.number comes.does begun one;
}

-- who did something is not over by that
pub did-goes_on : Did ≡ Ended → ⊥
did-goes_on e = cc

-- a line got its answer, and is done
pub line-did : {P : Type 0} (shape : Shape) (known : P → Known) (old new : Session P) (line : ℕ) (act : Act) → ComesWith old line act → IsSameScript old new → new.done ≡ old.done + 1
    → HasAnswer shape known new → HasBegun old.plan old.section.no old.patience line act (known old.pass) (known new.pass) old.items.items new.items.items new.doing Did → HasStepped shape known old Lines new Did
line-did shape known old new line act comes same one answered begun = line-stepped shape known old new line act Did comes same one answered (λ ended. absurd (did-goes_on ended)) begun

-- a step, by the place that was taken out before it
pub stepped-from : {P : Type 0} (shape : Shape) (known : P → Known) (s new : Session P) (between stood : Doing) (step : Step) → s.doing ≡ stood
    → HasStepped shape known (record s { doing = between }) stood new step → HasStepped shape known s s.doing new step
stepped-from shape known s new between stood step e h = record {
  same = record { section = h.same.section; plan = h.same.plan; patience = h.same.patience };
  answered = h.answered;
  rested = h.rested;
  moved = subst (λ (d : Doing). HasMoved s.plan s.section.no s.patience (drop s.done s.section.lines) d s.done new.done (known s.pass) (known new.pass) s.items.items new.items.items new.doing step) (sym e) h.moved;
}

-- a step from the place that was taken out is a step from where the session stood
pub stepped-at : {P E : Type 0} (shape : Shape) (known : P → Known) (s new : Session P) (between stood : Doing) (r : Result Step E) → s.doing ≡ stood
    → IfOk r (λ step. HasStepped shape known (record s { doing = between }) stood new step) → IfOk r (λ step. HasStepped shape known s s.doing new step)
stepped-at shape known s new between stood (Ok step) e h = stepped-from shape known s new between stood step e h
stepped-at shape known s new between stood (Err x) e h = tt

-- so is a step from there that was refused
pub refused-at : {P E : Type 0} (shape : Shape) (known : P → Known) (s new : Session P) (between stood : Doing) (r : Result Step E) → s.doing ≡ stood
    → OnErr r (HasRefused shape known (record s { doing = between }) stood new) → OnErr r (HasRefused shape known s s.doing new)
refused-at shape known s new between stood (Ok step) e h = tt
refused-at shape known s new between stood (Err x) e h = record {
  same = record { section = h.same.section; plan = h.same.plan; patience = h.same.patience };
  place = subst (λ (d : Doing). StandsStill d new.doing) (sym e) h.place;
  pass = h.pass;
  shown = h.shown;
  counted = h.counted;
  channels = h.channels;
  rested = h.rested;
}

-- a session that is over stays so
pub over-stepped : {P : Type 0} (shape : Shape) (known : P → Known) (s : Session P) → s.doing ≡ Over → HasRest shape known s → HasStepped shape known s s.doing (record s { doing = Over }) Ended
over-stepped shape known s e h =
    let terms : Terms = terms_of shape s.section s.patience in
    let at : IsRested terms s.plan s.done s.block s.set.channels Over (known s.pass) s.items.items =
    subst (λ (d : Doing). IsRested terms s.plan s.done s.block s.set.channels d (known s.pass) s.items.items) e h in
    record {
      same = record { section = refl; plan = refl; patience = refl };
      answered = record { state = at.state; stands = at.stands; rest = at.rest; channels = at.channels; here = at.here.0 };
      rested = λ other. at;
      moved = subst (λ (d : Doing). HasMoved s.plan s.section.no s.patience (drop s.done s.section.lines) d s.done s.done (known s.pass) (known s.pass) s.items.items s.items.items Over Ended) (sym e) (refl, refl, refl, refl, refl);
    }
