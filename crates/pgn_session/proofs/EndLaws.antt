-- The end of a script: what is open is dropped, and the end flag is raised.
use Rattle.std.proofs.Common.{◌≡◌, ℕ, ◌+◌, ◌<◌, ◌≤◌, Bool, true, false, ◌&&◌, cond, nat_lt, ltb-true, ltb-false, List, [], ◌∷◌, ◌++◌, length, drop, Option, Some, None, is_some, Contains, sym, ap, ◌∙◌, refl, subst, arith, append-nil, append_assoc, length-append}
use Rattle.std.proofs.lemmas.List.Elements.{All-nil, All-cons, All-push, Contains-push, Contains-append_left}
use Rattle.pgn_journal.specs.declared.tx.Tx.{Tx}
use Rattle.pgn_model.specs.declared.item.Item.{Item}
use Rattle.pgn_hub.specs.declared.known.Known.{Known}
use Rattle.pgn_model.specs.Walk.{Terms, State}
use Rattle.pgn_model.specs.Trace.{IsUpToDate}
use Rattle.pgn_model.proofs.GrowingLaws.{up_to_date-grows}
use Rattle.pgn_model.proofs.NextLineLaws.{holds-within}
use Rattle.pgn_hub.specs.Calls.{HasRaised, HasFound, HasFoundNone, HasLooked}
use Rattle.pgn_block.specs.Views.{BlockView, idle_view}
use Rattle.pgn_session.specs.declared.doing.FlagPlan.{FlagPlan}
use Rattle.pgn_session.specs.declared.doing.Doing.{Doing}
use Rattle.pgn_session.specs.declared.doing.Doing.TheVariants.{Lines, Ending, Over}
use Rattle.pgn_session.specs.declared.doing.Step.{Step}
use Rattle.pgn_session.specs.Standing.{StandsAt, IsEndPair, IsPastScript, IsAnswered, IsRested, IsAt, WasFound, HaveEnded, end_flag}
use Rattle.pgn_session.specs.Steps.{FindsEach, HasEndedLooks, HasLookedOn, HasWaited, is_waiting_on}
use Rattle.pgn_session.proofs.KnownLaws.{stands-grows}

-- the end flag of a session is one of the plan's
pub is-end : (plan : FlagPlan) (session told : ℕ) → 1 ≤ session → session ≤ plan.sessions → IsEndPair plan (end_flag plan session, told)
is-end plan session told first last = (omega arith, omega arith)

-- the script's end begins
pub end-answered : (terms : Terms) (plan : FlagPlan) (done : ℕ) (block : BlockView) (set : List (List ℕ)) (k q : Known) (items : List Item)
    → IsRested terms plan done block set Lines k items → drop done terms.section.lines ≡ [] → 1 ≤ terms.section.no → terms.section.no ≤ plan.sessions
    → HasRaised k q (end_flag plan terms.section.no) k.told → IsAnswered terms plan done idle_view set (Ending 0 0) q items
end-answered terms plan done block set k q items h e first last r =
    let s : State = h.state in
    let flag : ℕ = end_flag plan terms.section.no in
    let seen : List Tx = k.seen ++ r.more in
    let g : StandsAt terms (record k { seen = seen }) items s = stands-grows terms k r.more items s h.stands in
    subst (λ (p : Known). IsAnswered terms plan done idle_view set (Ending 0 0) p items) (sym r.known)
    (record {
      state = s;
      stands = record { holds = g.holds; session = g.session; database = g.database; own = g.own; mark = g.mark; marks = g.marks; stood = g.stood; named = g.named; interested = g.interested; patient = g.patient };
      rest = h.rest;
      channels = h.channels;
      here = (
        record {
          owes = h.here.0.owes;
          done = h.rest ∙ e;
          dropped = refl;
          tells = record {
            told = omega (arith, h.here.0.tells.told);
            raised = record {
              more = (flag, k.told) ∷ [];
              whole = ap (λ (pairs : List (ℕ × ℕ)). pairs ++ (flag, k.told) ∷ []) (sym h.here.0.tells.raised);
              ends = All-cons (IsEndPair plan) (flag, k.told) [] (is-end plan terms.section.no k.told first last) (All-nil (IsEndPair plan));
            };
            found = record { more = []; whole = sym h.here.0.tells.found ∙ sym (append-nil s.found); ends = All-nil (IsEndPair plan) };
          };
        },
        h.stands.patient,
        omega arith,
        λ i lt. absurd (omega (arith, lt)),
      );
    })

-- past the script, with no read left out
abbrev IsPast : Terms → FlagPlan → ℕ → BlockView → List (List ℕ) → Known → List Item → Type 0
IsPast terms plan done block set k items = IsAt terms done set k items (λ s. IsPastScript plan block k s × IsUpToDate terms k.seen s)

-- an end flag was found
past-found : (terms : Terms) (plan : FlagPlan) (done : ℕ) (block : BlockView) (set : List (List ℕ)) (k q : Known) (items : List Item) (flag value : ℕ)
    → plan.first_end ≤ flag → flag < plan.first_end + plan.sessions → HasFound k q flag value → IsPast terms plan done block set k items → IsPast terms plan done block set q items
past-found terms plan done block set k q items flag value first last r h =
    let s : State = h.state in
    let seen : List Tx = k.seen ++ r.more in
    let g : StandsAt terms (record k { seen = seen }) items s = stands-grows terms k r.more items s h.stands in
    subst (λ (p : Known). IsPast terms plan done block set p items) (sym r.known)
    (record {
      state = s;
      stands = record { holds = g.holds; session = g.session; database = g.database; own = g.own; mark = g.mark; marks = g.marks; stood = g.stood; named = g.named; interested = g.interested; patient = g.patient };
      rest = h.rest;
      channels = h.channels;
      here = (
        record {
          owes = h.here.0.owes;
          done = h.here.0.done;
          dropped = h.here.0.dropped;
          tells = record {
            told = omega (arith, h.here.0.tells.told);
            raised = h.here.0.tells.raised;
            found = record {
              more = h.here.0.tells.found.more ++ (flag, value) ∷ [];
              whole = ap (λ (pairs : List (ℕ × ℕ)). pairs ++ (flag, value) ∷ []) h.here.0.tells.found.whole ∙ append_assoc s.found h.here.0.tells.found.more ((flag, value) ∷ []);
              ends = All-push (IsEndPair plan) h.here.0.tells.found.more (flag, value) h.here.0.tells.found.ends (first, last);
            };
          };
        },
        up_to_date-grows terms k.seen r.more s (holds-within terms k.seen items s h.stands.holds).told h.here.1,
      );
    })

-- it was not
past-none : (terms : Terms) (plan : FlagPlan) (done : ℕ) (block : BlockView) (set : List (List ℕ)) (k q : Known) (items : List Item) (flag : ℕ)
    → HasFoundNone k q flag → IsPast terms plan done block set k items → IsPast terms plan done block set q items
past-none terms plan done block set k q items flag r h =
    let s : State = h.state in
    let g : StandsAt terms (record k { seen = k.seen ++ r.more }) items s = stands-grows terms k r.more items s h.stands in
    subst (λ (p : Known). IsPast terms plan done block set p items) (sym r.known)
    (record {
      state = s;
      stands = record { holds = g.holds; session = g.session; database = g.database; own = g.own; mark = g.mark; marks = g.marks; stood = g.stood; named = g.named; interested = g.interested; patient = g.patient };
      rest = h.rest;
      channels = h.channels;
      here = (
        record {
          owes = h.here.0.owes;
          done = h.here.0.done;
          dropped = h.here.0.dropped;
          tells = record { told = omega (arith, h.here.0.tells.told); raised = h.here.0.tells.raised; found = h.here.0.tells.found };
        },
        up_to_date-grows terms k.seen r.more s (holds-within terms k.seen items s h.stands.holds).told h.here.1,
      );
    })

past-each : (terms : Terms) (plan : FlagPlan) (done : ℕ) (block : BlockView) (set : List (List ℕ)) (k q : Known) (items : List Item) (flag : ℕ) (values : List ℕ)
    → plan.first_end ≤ flag → flag + length values ≤ plan.first_end + plan.sessions → FindsEach k flag values q → IsPast terms plan done block set k items → IsPast terms plan done block set q items
past-each terms plan done block set k q items flag [] first last each h = subst (λ (p : Known). IsPast terms plan done block set p items) (sym each) h
past-each terms plan done block set k q items flag (value ∷ values) first last each h =
    past-each terms plan done block set each.0 q items (flag + 1) values (omega (arith, first)) (omega (arith, last)) each.2
    (past-found terms plan done block set k each.0 items flag value first (omega (arith, last)) each.1 h)

-- one more look that found an end flag
pub finds-push : (k j q : Known) (flag : ℕ) (values : List ℕ) (value : ℕ) → FindsEach k flag values j → HasFound j q (flag + length values) value → FindsEach k flag (values ++ value ∷ []) q
finds-push k j q flag [] value each found = (q, subst (λ (p : Known). HasFound p q flag value) each (subst (λ (n : ℕ). HasFound j q n value) (omega arith) found), refl)
finds-push k j q flag (x ∷ values) value each found = (each.0, each.1, finds-push each.0 j q (flag + 1) values value each.2 (subst (λ (n : ℕ). HasFound j q n value) (omega arith) found))

-- so far each look found its flag
pub record EndsSoFar (is_own : Type 0) (plan : FlagPlan) (first at : ℕ) (k j : Known) : Type 0 where
  pub own : is_own
  pub values : List ℕ
  pub finds : FindsEach k (plan.first_end + first) values j
  pub count : at ≡ first + length values
  pub within : at ≤ plan.sessions

finds-one : (is_own next_own : Type 0) (plan : FlagPlan) (first at value : ℕ) (k j q : Known) → EndsSoFar is_own plan first at k j → next_own → at < plan.sessions → HasFound j q (plan.first_end + at) value
    → EndsSoFar next_own plan first (at + 1) k q
finds-one is_own next_own plan first at value k j q h own lt found = record {
  own = own;
  values = h.values ++ value ∷ [];
  finds = finds-push k j q (plan.first_end + first) h.values value h.finds (subst (λ (n : ℕ). HasFound j q n value) (omega (arith, h.count)) found);
  count = omega (arith, h.count, length-append h.values (value ∷ []));
  within = omega (arith, lt);
}

-- a look that found the next end flag makes the count of found flags one more
pub finds-some : (is_own next_own : Type 0) (plan : FlagPlan) (first at : ℕ) (found : Option ℕ) (k j q : Known) → is_some found ≡ true → EndsSoFar is_own plan first at k j → next_own → at < plan.sessions
    → HasLooked j q (plan.first_end + at) found → EndsSoFar next_own plan first (at + 1) k q
finds-some is_own next_own plan first at (Some value) k j q is h own lt looked = finds-one is_own next_own plan first at value k j q h own lt looked
finds-some is_own next_own plan first at None k j q is h own lt looked = absurd (let no : ⊥ = cc in no)

-- so many end flags more were found
ended-one : (plan : FlagPlan) (count : ℕ) (k q : Known) (value : ℕ) → HaveEnded plan count k.found → HasFound k q (plan.first_end + count) value → HaveEnded plan (count + 1) q.found
ended-one plan count k q value ended r =
    subst (λ (pairs : List (ℕ × ℕ)). HaveEnded plan (count + 1) pairs) (sym (ap (λ (p : Known). p.found) r.known)) (λ i lt. one i lt (nat_lt i count) refl)
  where
    one : (i : ℕ) → i < count + 1 → (b : Bool) → nat_lt i count ≡ b → WasFound (k.found ++ (plan.first_end + count, value) ∷ []) (plan.first_end + i)
    one i lt true e =
        let was = ended i (ltb-true i count e) in
        (was.0, Contains-append_left k.found ((plan.first_end + count, value) ∷ []) (plan.first_end + i, was.0) was.1)
    one i lt false e =
        let back : count ≤ i = ltb-false i count e in
        let same : count ≡ i = omega (arith, back, lt) in
        (value, subst (λ (n : ℕ). Contains (k.found ++ (plan.first_end + count, value) ∷ []) (plan.first_end + n, value)) same (Contains-push k.found (plan.first_end + count, value)))

ended-each : (plan : FlagPlan) (count : ℕ) (k q : Known) (values : List ℕ) → HaveEnded plan count k.found → FindsEach k (plan.first_end + count) values q → HaveEnded plan (count + length values) q.found
ended-each plan count k q [] ended each = subst (λ (p : Known). HaveEnded plan (count + 0) p.found) (sym each) (subst (λ (n : ℕ). HaveEnded plan n k.found) (omega arith) ended)
ended-each plan count k q (value ∷ values) ended each =
    subst (λ (n : ℕ). HaveEnded plan n q.found) (omega arith)
    (ended-each plan (count + 1) each.0 q values (ended-one plan count k each.0 value ended each.1) (subst (λ (n : ℕ). FindsEach each.0 n values q) (omega arith) each.2))

-- after the looks of a turn of the end phase
last-past : (terms : Terms) (plan : FlagPlan) (done : ℕ) (block : BlockView) (set : List (List ℕ)) (k q : Known) (items : List Item) (flag : ℕ) (b : Bool)
    → HasEndedLooks b k flag q → IsPast terms plan done block set k items → IsPast terms plan done block set q items
last-past terms plan done block set k q items flag true r h = past-none terms plan done block set k q items flag r h
last-past terms plan done block set k q items flag false r h = subst (λ (p : Known). IsPast terms plan done block set p items) (sym r) h

last-found : (k q : Known) (flag : ℕ) (b : Bool) → HasEndedLooks b k flag q → q.found ≡ k.found
last-found k q flag true r = ap (λ (p : Known). p.found) r.known
last-found k q flag false r = ap (λ (p : Known). p.found) r

looked-past : (terms : Terms) (plan : FlagPlan) (done : ℕ) (block : BlockView) (set : List (List ℕ)) (k q : Known) (items : List Item) (first reached : ℕ)
    → HasLookedOn plan first reached k q → IsPast terms plan done block set k items → IsPast terms plan done block set q items
looked-past terms plan done block set k q items first reached l h =
    last-past terms plan done block set l.between q items (plan.first_end + reached) (nat_lt reached plan.sessions) l.last
    (past-each terms plan done block set k l.between items (plan.first_end + first) l.values (omega arith) (omega (arith, l.count, l.within)) l.finds h)

-- if the end flags of the first sessions were found, those up to where the looks came are found now
pub looked-ended : (plan : FlagPlan) (k q : Known) (first reached : ℕ) → HasLookedOn plan first reached k q → HaveEnded plan first k.found → HaveEnded plan reached q.found
looked-ended plan k q first reached l ended =
    subst (λ (pairs : List (ℕ × ℕ)). HaveEnded plan reached pairs) (sym (last-found l.between q (plan.first_end + reached) (nat_lt reached plan.sessions) l.last))
    (subst (λ (n : ℕ). HaveEnded plan n l.between.found) (sym l.count) (ended-each plan first k l.between l.values ended l.finds))

-- where a session stands after a turn of the end phase
stands-past : (terms : Terms) (plan : FlagPlan) (done : ℕ) (block : BlockView) (set : List (List ℕ)) (q : Known) (items : List Item) (reached looks : ℕ) (b c : Bool)
    → nat_lt (looks + 1) terms.settings.patience ≡ c → reached ≤ plan.sessions → HaveEnded plan reached q.found → IsPast terms plan done block set q items
    → IsRested terms plan done block set (cond (b && c) (Ending reached (looks + 1)) Over) q items
stands-past terms plan done block set q items reached looks true true e within ended h =
    record { state = h.state; stands = h.stands; rest = h.rest; channels = h.channels; here = ((h.here.0, ltb-true (looks + 1) terms.settings.patience e, within, ended), h.here.1) }
stands-past terms plan done block set q items reached looks true false e within ended h = record { state = h.state; stands = h.stands; rest = h.rest; channels = h.channels; here = h.here }
stands-past terms plan done block set q items reached looks false c e within ended h = record { state = h.state; stands = h.stands; rest = h.rest; channels = h.channels; here = h.here }

-- a turn of waiting for the others keeps a session rested
pub waited-rested : (terms : Terms) (plan : FlagPlan) (done : ℕ) (block : BlockView) (set : List (List ℕ)) (k q : Known) (items : List Item) (first looks : ℕ) (doing : Doing) (step : Step)
    → HasWaited plan first looks terms.settings.patience k q doing step → IsRested terms plan done block set (Ending first looks) k items → IsRested terms plan done block set doing q items
waited-rested terms plan done block set k q items first looks doing step w h =
    subst (λ (d : Doing). IsRested terms plan done block set d q items) (sym w.place)
    (stands-past terms plan done block set q items w.reached looks (nat_lt w.reached plan.sessions) (nat_lt (looks + 1) terms.settings.patience) refl w.looked.within
    (looked-ended plan k q first w.reached w.looked h.here.0.3)
    (looked-past terms plan done block set k q items first w.reached w.looked (record { state = h.state; stands = h.stands; rest = h.rest; channels = h.channels; here = (h.here.0.0, h.here.1) })))

rests-answers : (terms : Terms) (plan : FlagPlan) (done : ℕ) (block : BlockView) (set : List (List ℕ)) (q : Known) (items : List Item) (reached looks : ℕ) (b : Bool)
    → IsRested terms plan done block set (cond b (Ending reached looks) Over) q items → IsAnswered terms plan done block set (cond b (Ending reached looks) Over) q items
rests-answers terms plan done block set q items reached looks true h = record { state = h.state; stands = h.stands; rest = h.rest; channels = h.channels; here = h.here.0 }
rests-answers terms plan done block set q items reached looks false h = record { state = h.state; stands = h.stands; rest = h.rest; channels = h.channels; here = h.here.0 }

-- and who has rested behind such a turn has answered
pub waited-answered : (terms : Terms) (plan : FlagPlan) (done : ℕ) (block : BlockView) (set : List (List ℕ)) (k q : Known) (items : List Item) (first looks : ℕ) (doing : Doing) (step : Step)
    → HasWaited plan first looks terms.settings.patience k q doing step → IsRested terms plan done block set doing q items → IsAnswered terms plan done block set doing q items
waited-answered terms plan done block set k q items first looks doing step w h =
    subst (λ (d : Doing). IsAnswered terms plan done block set d q items) (sym w.place)
    (rests-answers terms plan done block set q items w.reached (looks + 1) (is_waiting_on plan w.reached looks terms.settings.patience)
    (subst (λ (d : Doing). IsRested terms plan done block set d q items) w.place h))
