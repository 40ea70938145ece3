-- What a step came to: a line was answered or the end began, the session waits, or it is over.
use Rattle.std.proofs.Common.{◌≡◌, ◌≢◌, ◌↔◌, ◌⊎◌, ℕ, ◌+◌, ◌<◌, ◌≤◌, Bool, true, false, ◌&&◌, cond, nat_lt, ltb-true, ltb-false, List, [], ◌∷◌, Option, Some, None, inl, inr, sym, ap, ◌∙◌, refl, subst, arith}
use Rattle.std.proofs.lemmas.List.Elements.{All-contains}
use Rattle.pgn_language.specs.declared.scenario.Act.{Act}
use Rattle.pgn_language.specs.declared.scenario.Act.TheVariants.{Run, Signal, Await, Quit}
use Rattle.pgn_language.specs.declared.scenario.ScriptLine.{ScriptLine}
use Rattle.pgn_model.specs.declared.item.Item.{Item}
use Rattle.pgn_hub.specs.declared.known.Known.{Known}
use Rattle.pgn_hub.specs.Calls.{HasFoundNone, HasLooked}
use Rattle.pgn_session.specs.declared.doing.FlagPlan.{FlagPlan}
use Rattle.pgn_session.specs.declared.doing.Step.{Step}
use Rattle.pgn_session.specs.declared.doing.Step.TheVariants.{Did, Waiting, Ended}
use Rattle.pgn_session.specs.declared.doing.Doing.{Doing}
use Rattle.pgn_session.specs.declared.doing.Doing.TheVariants.{Lines, Committing, Awaiting, Ending, Over}
use Rattle.pgn_session.specs.Standing.{WasFound, HaveEnded}
use Rattle.pgn_session.specs.Steps.{looked_doing, looked_step, HasTurned, FindsEach, HasEndedLooks, HasWaited, HasBegun, HasMoved, StandsStill, unanswered, AnswersLine, BeginsEnd, LooksInVain, Waits, Ends, is_waiting_on}
use Rattle.pgn_session.proofs.EndLaws.{looked-ended}

-- a turn of an await ends its line, or waits
abbrev TurnEnds : Doing → Step → Type 0
TurnEnds stands step = ((unanswered stands ≡ 0) × (step ≡ Did)) ⊎ ((unanswered stands ≡ 1) × (step ≡ Waiting))

none-ends : (flag looks : ℕ) (b : Bool) → TurnEnds (cond b (Awaiting flag looks) Lines) (cond b Waiting Did)
none-ends flag looks true = inr (refl, refl)
none-ends flag looks false = inl (refl, refl)

found-ends : (flag looks patience : ℕ) (found : Option ℕ) → TurnEnds (looked_doing flag looks patience found) (looked_step looks patience found)
found-ends flag looks patience (Some value) = inl (refl, refl)
found-ends flag looks patience None = none-ends flag looks (nat_lt looks patience)

turn-ends : (flag looks patience : ℕ) (k q : Known) (before after : List Item) (stands : Doing) (step : Step) → HasTurned flag looks patience k q before after stands step → TurnEnds stands step
turn-ends flag looks patience k q before after stands step t =
    subst (λ (s : Step). TurnEnds stands s) (sym t.comes_to) (subst (λ (d : Doing). TurnEnds d (looked_step looks patience t.found)) (sym t.place) (found-ends flag looks patience t.found))

-- looks count
finds-looks : (k q : Known) (flag : ℕ) (values : List ℕ) → FindsEach k flag values q → k.looks ≤ q.looks
finds-looks k q flag [] e = omega (arith, ap (λ (p : Known). p.looks) e)
finds-looks k q flag (value ∷ values) e = omega (arith, finds-looks e.0 q (flag + 1) values e.2, ap (λ (p : Known). p.looks) e.1.known)

in-vain : (k j q : Known) (flag : ℕ) → k.looks ≤ j.looks → HasFoundNone j q flag → LooksInVain k q flag
in-vain k j q flag le r = record { looked = omega (arith, le, ap (λ (p : Known). p.looks) r.known); none = ap (λ (p : Known). p.flag_look) r.known }

none-waits : (plan : FlagPlan) (flag looks patience : ℕ) (k q : Known) (b : Bool) → nat_lt looks patience ≡ b → HasFoundNone k q flag → cond b Waiting Did ≡ Waiting → Waits plan patience k q (cond b (Awaiting flag looks) Lines)
none-waits plan flag looks patience k q true e r is = (in-vain k k q flag (omega arith) r, ltb-true looks patience e)
none-waits plan flag looks patience k q false e r is = absurd (let no : ⊥ = cc in no)

look-waits : (plan : FlagPlan) (flag looks patience : ℕ) (k q : Known) (found : Option ℕ) → HasLooked k q flag found → looked_step looks patience found ≡ Waiting → Waits plan patience k q (looked_doing flag looks patience found)
look-waits plan flag looks patience k q (Some value) r is = absurd (let no : ⊥ = cc in no)
look-waits plan flag looks patience k q None r is = none-waits plan flag looks patience k q (nat_lt looks patience) refl r is

turn-waits : (plan : FlagPlan) (flag looks patience : ℕ) (k q : Known) (before after : List Item) (stands : Doing) (step : Step) → HasTurned flag looks patience k q before after stands step → step ≡ Waiting → Waits plan patience k q stands
turn-waits plan flag looks patience k q before after stands step t is =
    subst (λ (d : Doing). Waits plan patience k q d) (sym t.place) (look-waits plan flag looks patience k q t.found t.looked (sym t.comes_to ∙ is))

begun-waits : (plan : FlagPlan) (session patience number : ℕ) (act : Act) (k q : Known) (before after : List Item) (stands : Doing) (step : Step)
    → HasBegun plan session patience number act k q before after stands step → step ≡ Waiting → Waits plan patience k q stands
begun-waits plan session patience number (Run command) k q before after stands step m is = absurd (let no : ⊥ = cc (m.2, is) in no)
begun-waits plan session patience number (Signal flag) k q before after stands step m is = absurd (let no : ⊥ = cc (m.2, is) in no)
begun-waits plan session patience number (Await flag) k q before after stands step m is = turn-waits plan flag 1 patience k q _ after stands step m is
begun-waits plan session patience number Quit k q before after stands step m is = absurd (let no : ⊥ = cc (m.2, is) in no)

end-waits : (plan : FlagPlan) (reached looks patience : ℕ) (k j q : Known) (b c : Bool) → nat_lt reached plan.sessions ≡ b → nat_lt (looks + 1) patience ≡ c → k.looks ≤ j.looks
    → HasEndedLooks b j (plan.first_end + reached) q → cond (b && c) Waiting Ended ≡ Waiting → Waits plan patience k q (cond (b && c) (Ending reached (looks + 1)) Over)
end-waits plan reached looks patience k j q true true e f le last is = (in-vain k j q (plan.first_end + reached) le last, ltb-true (looks + 1) patience f, ltb-true reached plan.sessions e)
end-waits plan reached looks patience k j q true false e f le last is = absurd (let no : ⊥ = cc in no)
end-waits plan reached looks patience k j q false c e f le last is = absurd (let no : ⊥ = cc in no)

waited-waits : (plan : FlagPlan) (first looks patience : ℕ) (k q : Known) (stands : Doing) (step : Step) → HasWaited plan first looks patience k q stands step → step ≡ Waiting → Waits plan patience k q stands
waited-waits plan first looks patience k q stands step w is =
    subst (λ (d : Doing). Waits plan patience k q d) (sym w.place)
    (end-waits plan w.reached looks patience k w.looked.between q (nat_lt w.reached plan.sessions) (nat_lt (looks + 1) patience) refl refl
    (finds-looks k w.looked.between (plan.first_end + first) w.looked.values w.looked.finds) w.looked.last (sym w.comes_to ∙ is))

-- the step came to Waiting only where the last look gave nothing and the patience is not spent
pub moved-waits : (plan : FlagPlan) (session patience : ℕ) (lines : List ScriptLine) (stood : Doing) (done counted : ℕ) (k q : Known) (before after : List Item) (stands : Doing) (step : Step)
    → HasMoved plan session patience lines stood done counted k q before after stands step → step ≡ Waiting → Waits plan patience k q stands
moved-waits plan session patience [] Lines done counted k q before after stands step m is = absurd (let no : ⊥ = cc (m.0.comes_to, is) in no)
moved-waits plan session patience (line ∷ lines) Lines done counted k q before after stands step m is = begun-waits plan session patience line.line line.act k q before after stands step m.0 is
moved-waits plan session patience lines (Committing actions notes tag) done counted k q before after stands step m is = absurd (let no : ⊥ = cc (m.2, is) in no)
moved-waits plan session patience lines (Awaiting flag looks) done counted k q before after stands step m is = turn-waits plan flag (looks + 1) patience k q before after stands step m.0 is
moved-waits plan session patience lines (Ending first looks) done counted k q before after stands step m is = waited-waits plan first looks patience k q stands step m.0 is
moved-waits plan session patience lines Over done counted k q before after stands step m is = absurd (let no : ⊥ = cc (m.3, is) in no)

-- not all end flags were found, where the last look at one found nothing
not-all : (plan : FlagPlan) (reached : ℕ) (j q : Known) → reached < plan.sessions → HasFoundNone j q (plan.first_end + reached) → HaveEnded plan plan.sessions q.found → ⊥
not-all plan reached j q lt r all =
    let was = subst (λ (pairs : List (ℕ × ℕ)). WasFound pairs (plan.first_end + reached)) (ap (λ (p : Known). p.found) r.known) (all reached lt) in
    All-contains (λ pair. pair.0 ≢ plan.first_end + reached) j.found (plan.first_end + reached, was.0) r.not_found was.1 refl

end-ended : (plan : FlagPlan) (reached looks patience : ℕ) (j q : Known) (b c : Bool) → nat_lt reached plan.sessions ≡ b → nat_lt (looks + 1) patience ≡ c → reached ≤ plan.sessions
    → HasEndedLooks b j (plan.first_end + reached) q → HaveEnded plan reached q.found → (cond (b && c) Waiting Ended ≡ Ended) ↔ (HaveEnded plan plan.sessions q.found ⊎ (patience ≤ looks + 1))
end-ended plan reached looks patience j q true true e f within last ended = (λ is. absurd (let no : ⊥ = cc in no), λ h. absurd (either h))
  where
    either : HaveEnded plan plan.sessions q.found ⊎ (patience ≤ looks + 1) → ⊥
    either (inl all) = not-all plan reached j q (ltb-true reached plan.sessions e) last all
    either (inr spent) = omega (arith, spent, ltb-true (looks + 1) patience f)
end-ended plan reached looks patience j q true false e f within last ended = (λ is. inr (ltb-false (looks + 1) patience f), λ h. refl)
end-ended plan reached looks patience j q false c e f within last ended =
    let all : reached ≡ plan.sessions = omega (arith, within, ltb-false reached plan.sessions e) in
    (λ is. inl (subst (λ (n : ℕ). HaveEnded plan n q.found) all ended), λ h. refl)

waited-ended : (plan : FlagPlan) (first looks patience : ℕ) (k q : Known) (stands : Doing) (step : Step) → HasWaited plan first looks patience k q stands step → HaveEnded plan first k.found
    → (step ≡ Ended) ↔ (HaveEnded plan plan.sessions q.found ⊎ (patience ≤ looks + 1))
waited-ended plan first looks patience k q stands step w ended =
    subst (λ (s : Step). (s ≡ Ended) ↔ (HaveEnded plan plan.sessions q.found ⊎ (patience ≤ looks + 1))) (sym w.comes_to)
    (end-ended plan w.reached looks patience w.looked.between q (nat_lt w.reached plan.sessions) (nat_lt (looks + 1) patience) refl refl w.looked.within w.looked.last
    (looked-ended plan k q first w.reached w.looked ended))

-- neither waiting nor an answered line is the end
not-ended : (stands : Doing) (step : Step) → TurnEnds stands step → step ≡ Ended → ⊥
not-ended stands step (inl t) is = cc (t.1, is)
not-ended stands step (inr t) is = cc (t.1, is)

begun-ended : (plan : FlagPlan) (session patience number : ℕ) (act : Act) (k q : Known) (before after : List Item) (stands : Doing) (step : Step) → HasBegun plan session patience number act k q before after stands step → step ≡ Ended → ⊥
begun-ended plan session patience number (Run command) k q before after stands step m is = cc (m.2, is)
begun-ended plan session patience number (Signal flag) k q before after stands step m is = cc (m.2, is)
begun-ended plan session patience number (Await flag) k q before after stands step m is = not-ended stands step (turn-ends flag 1 patience k q _ after stands step m) is
begun-ended plan session patience number Quit k q before after stands step m is = cc (m.2, is)

-- the end flags that a session counts as found were found
abbrev pub CountsFound : FlagPlan → Doing → Known → Type 0
CountsFound plan (Ending first looks) k = HaveEnded plan first k.found
CountsFound plan stood k = Unit {0}

-- the step came to Ended exactly where the session was over, all end flags are found, or the patience is spent
pub moved-ended : (plan : FlagPlan) (session patience : ℕ) (lines : List ScriptLine) (stood : Doing) (done counted : ℕ) (k q : Known) (before after : List Item) (stands : Doing) (step : Step)
    → HasMoved plan session patience lines stood done counted k q before after stands step → CountsFound plan stood k → (step ≡ Ended) ↔ Ends plan patience stood q
moved-ended plan session patience [] Lines done counted k q before after stands step m counts = (λ is. absurd (let no : ⊥ = cc (m.0.comes_to, is) in no), λ h. absurd h)
moved-ended plan session patience (line ∷ lines) Lines done counted k q before after stands step m counts =
    (λ is. absurd (begun-ended plan session patience line.line line.act k q before after stands step m.0 is), λ h. absurd h)
moved-ended plan session patience lines (Committing actions notes tag) done counted k q before after stands step m counts = (λ is. absurd (let no : ⊥ = cc (m.2, is) in no), λ h. absurd h)
moved-ended plan session patience lines (Awaiting flag looks) done counted k q before after stands step m counts =
    (λ is. absurd (not-ended stands step (turn-ends flag (looks + 1) patience k q before after stands step m.0) is), λ h. absurd h)
moved-ended plan session patience lines (Ending first looks) done counted k q before after stands step m counts = waited-ended plan first looks patience k q stands step m.0 counts
moved-ended plan session patience lines Over done counted k q before after stands step m counts = (λ is. tt, λ h. m.3)

-- no step at the end is refused
pub refused-ended : (plan : FlagPlan) (patience : ℕ) (stood stands : Doing) (q : Known) → StandsStill stood stands → Ends plan patience stood q → ⊥
refused-ended plan patience Lines stands q still ended = ended
refused-ended plan patience (Committing actions notes tag) stands q still ended = ended
refused-ended plan patience (Awaiting flag looks) stands q still ended = ended
refused-ended plan patience (Ending first looks) stands q still ended = still
refused-ended plan patience Over stands q still ended = still

-- a step that leads to the place between two lines, past a line that was begun by it, has answered that line
line-did : (plan : FlagPlan) (session : ℕ) (lines : List ScriptLine) (stood : Doing) (done counted : ℕ) (k q : Known) (stands : Doing) (step : Step) → stands ≡ Lines ⊎ (stands ≡ Over) → step ≡ Did → unanswered stood ≡ 0 → counted ≡ done + 1
    → (step ≡ Did) ↔ (AnswersLine stood done stands counted ⊎ BeginsEnd plan session lines stood stands k q)
line-did plan session lines stood done counted k q stands step place did none one =
    let few : unanswered stands ≡ 0 = either place in
    (λ is. inl (omega (arith, few, none, one)), λ h. did)
  where
    either : stands ≡ Lines ⊎ (stands ≡ Over) → unanswered stands ≡ 0
    either (inl e) = ap unanswered e
    either (inr e) = ap unanswered e

-- so has a turn of an await that does not wait
turn-did : (plan : FlagPlan) (session : ℕ) (lines : List ScriptLine) (stood : Doing) (done counted : ℕ) (k q : Known) (stands : Doing) (step : Step) → TurnEnds stands step → (BeginsEnd plan session lines stood stands k q → ⊥)
    → counted + unanswered stood ≡ done + 1 → (step ≡ Did) ↔ (AnswersLine stood done stands counted ⊎ BeginsEnd plan session lines stood stands k q)
turn-did plan session lines stood done counted k q stands step (inl t) other one = (λ is. inl (omega (arith, t.0, one)), λ h. t.1)
turn-did plan session lines stood done counted k q stands step (inr t) other one = (λ is. absurd (let no : ⊥ = cc (t.1, is) in no), λ h. absurd (either h))
  where
    either : AnswersLine stood done stands counted ⊎ BeginsEnd plan session lines stood stands k q → ⊥
    either (inl answers) = omega (arith, t.0, one, answers)
    either (inr begins) = other begins

begun-did : (plan : FlagPlan) (session patience number : ℕ) (act : Act) (line : ScriptLine) (lines : List ScriptLine) (done counted : ℕ) (k q : Known) (before after : List Item) (stands : Doing) (step : Step)
    → HasBegun plan session patience number act k q before after stands step → counted ≡ done + 1 → (step ≡ Did) ↔ (AnswersLine Lines done stands counted ⊎ BeginsEnd plan session (line ∷ lines) Lines stands k q)
begun-did plan session patience number (Run command) line lines done counted k q before after stands step m one = line-did plan session (line ∷ lines) Lines done counted k q stands step (inl m.1) m.2 refl one
begun-did plan session patience number (Signal flag) line lines done counted k q before after stands step m one = line-did plan session (line ∷ lines) Lines done counted k q stands step (inl m.1) m.2 refl one
begun-did plan session patience number (Await flag) line lines done counted k q before after stands step m one =
    turn-did plan session (line ∷ lines) Lines done counted k q stands step (turn-ends flag 1 patience k q _ after stands step m) (λ b. let no : ⊥ = cc b.no_line in no) (omega (arith, one))
begun-did plan session patience number Quit line lines done counted k q before after stands step m one = line-did plan session (line ∷ lines) Lines done counted k q stands step (inr m.1) m.2 refl one

waited-not_did : (plan : FlagPlan) (first looks patience : ℕ) (k q : Known) (stands : Doing) (step : Step) → HasWaited plan first looks patience k q stands step → step ≡ Did → ⊥
waited-not_did plan first looks patience k q stands step w is = either (is_waiting_on plan w.reached looks patience) (sym w.comes_to ∙ is)
  where
    either : (b : Bool) → cond b Waiting Ended ≡ Did → ⊥
    either true e = cc
    either false e = cc

-- the step came to Did exactly where a line got its whole answer or the script's end began
pub moved-did : (plan : FlagPlan) (session patience : ℕ) (lines : List ScriptLine) (stood : Doing) (done counted : ℕ) (k q : Known) (before after : List Item) (stands : Doing) (step : Step)
    → HasMoved plan session patience lines stood done counted k q before after stands step → (step ≡ Did) ↔ (AnswersLine stood done stands counted ⊎ BeginsEnd plan session lines stood stands k q)
moved-did plan session patience [] Lines done counted k q before after stands step m =
    (λ is. inr (record { stood_between = refl; no_line = refl; place = m.0.place; raised = m.0.raised }), λ h. m.0.comes_to)
moved-did plan session patience (line ∷ lines) Lines done counted k q before after stands step m = begun-did plan session patience line.line line.act line lines done counted k q before after stands step m.0 m.1
moved-did plan session patience lines (Committing actions notes tag) done counted k q before after stands step m =
    line-did plan session lines (Committing actions notes tag) done counted k q stands step (inl m.1) m.2 refl m.3
moved-did plan session patience lines (Awaiting flag looks) done counted k q before after stands step m =
    turn-did plan session lines (Awaiting flag looks) done counted k q stands step (turn-ends flag (looks + 1) patience k q before after stands step m.0) (λ b. let no : ⊥ = cc b.stood_between in no) (omega (arith, m.1))
moved-did plan session patience lines (Ending first looks) done counted k q before after stands step m =
    (λ is. absurd (waited-not_did plan first looks patience k q stands step m.0 is), λ h. absurd (either h))
  where
    either : AnswersLine (Ending first looks) done stands counted ⊎ BeginsEnd plan session lines (Ending first looks) stands k q → ⊥
    either (inl answers) = omega (arith, answers, m.2)
    either (inr begins) = let no : ⊥ = cc begins.stood_between in no
moved-did plan session patience lines Over done counted k q before after stands step m = (λ is. absurd (let no : ⊥ = cc (m.3, is) in no), λ h. absurd (either h))
  where
    either : AnswersLine Over done stands counted ⊎ BeginsEnd plan session lines Over stands k q → ⊥
    either (inl answers) = omega (arith, answers, m.4)
    either (inr begins) = let no : ⊥ = cc begins.stood_between in no

-- a session is over where a step came to Ended
pub moved-over : (plan : FlagPlan) (session patience : ℕ) (lines : List ScriptLine) (stood : Doing) (done counted : ℕ) (k q : Known) (before after : List Item) (stands : Doing) (step : Step)
    → HasMoved plan session patience lines stood done counted k q before after stands step → step ≡ Ended → stands ≡ Over
moved-over plan session patience [] Lines done counted k q before after stands step m is = absurd (let no : ⊥ = cc (m.0.comes_to, is) in no)
moved-over plan session patience (line ∷ lines) Lines done counted k q before after stands step m is = absurd (begun-ended plan session patience line.line line.act k q before after stands step m.0 is)
moved-over plan session patience lines (Committing actions notes tag) done counted k q before after stands step m is = absurd (let no : ⊥ = cc (m.2, is) in no)
moved-over plan session patience lines (Awaiting flag looks) done counted k q before after stands step m is = absurd (not-ended stands step (turn-ends flag (looks + 1) patience k q before after stands step m.0) is)
moved-over plan session patience lines (Ending first looks) done counted k q before after stands step m is =
    m.0.place ∙ either (is_waiting_on plan m.0.reached looks patience) (sym m.0.comes_to ∙ is)
  where
    either : (b : Bool) → cond b Waiting Ended ≡ Ended → cond b (Ending m.0.reached (looks + 1)) Over ≡ Over
    either true e = absurd (let no : ⊥ = cc in no)
    either false e = refl
moved-over plan session patience lines Over done counted k q before after stands step m is = m.2
