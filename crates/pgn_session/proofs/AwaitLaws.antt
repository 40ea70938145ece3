-- A line that awaits a flag, and each turn of it.
use Rattle.std.proofs.Common.{◌≡◌, ◌≢◌, ℕ, ◌+◌, ◌<◌, ◌≤◌, max, Bool, true, false, cond, nat_lt, ltb-true, ltb-false, List, [], ◌∷◌, ◌++◌, drop, take, take-append-drop, Option, Some, None, All, Contains, sym, ap, ◌∙◌, refl, subst, arith}
use Rattle.std.proofs.lemmas.List.Elements.{All-push, All-contains, Contains-push, Contains-append_left, Contains-append_right}
use Rattle.pgn_answers.specs.declared.block_state.BlockState.TheVariants.{Idle}
use Rattle.pgn_language.specs.declared.scenario.Act.{Act}
use Rattle.pgn_language.specs.declared.scenario.Act.TheVariants.{Await}
use Rattle.pgn_language.specs.declared.scenario.ScriptLine.{ScriptLine}
use Rattle.pgn_model.specs.declared.item.Item.{Item}
use Rattle.pgn_model.specs.declared.item.Item.TheVariants.{Line, Found, TimedOut}
use Rattle.pgn_hub.specs.declared.known.Known.{Known}
use Rattle.pgn_journal.specs.declared.tx.Tx.{Tx}
use Rattle.pgn_journal.specs.Journal.{next_xid}
use Rattle.pgn_language.specs.Inputs.{QuitsLast}
use Rattle.pgn_model.specs.Walk.{Terms, State, Nothing}
use Rattle.pgn_model.specs.Walk as walk
use Rattle.pgn_model.specs.Legal.{IsFullThere}
use Rattle.pgn_model.specs.Trace.{IsUpToDate}
use Rattle.pgn_model.specs.laws.NextLine.{StandsFresh, ComesNext}
use Rattle.pgn_model.proofs.GrowingLaws.{up_to_date-grows}
use Rattle.pgn_model.proofs.NextLineLaws.{line-awaits, await-finds, await-times_out, holds-within, finished-more}
use Rattle.pgn_hub.specs.Calls.{HasLooked, HasFound, HasFoundNone}
use Rattle.pgn_block.specs.Views.{BlockView}
use Rattle.pgn_session.specs.declared.doing.FlagPlan.{FlagPlan}
use Rattle.pgn_session.specs.declared.doing.Doing.{Doing}
use Rattle.pgn_session.specs.declared.doing.Doing.TheVariants.{Lines, Awaiting}
use Rattle.pgn_session.specs.declared.doing.Step.{Step}
use Rattle.pgn_session.specs.declared.doing.Step.TheVariants.{Did, Waiting, Ended}
use Rattle.pgn_session.specs.Standing.{StandsAt, IsInScript, IsAnswered, IsRested, IsFlagBelow, IsAwaitedIn, IsLookingFor, spare_of}
use Rattle.pgn_session.specs.Parts.{looked_items}
use Rattle.pgn_session.specs.Steps.{HasTurned, looked_doing, looked_step}
use Rattle.pgn_session.proofs.FlagLaws.{budget-less}
use Rattle.pgn_hub.specs.Passes.{IsWithin, IsPairWithin}
use Rattle.pgn_language.specs.declared.scenario.Section.{Section}
use Rattle.pgn_session.proofs.KnownLaws.{stands-grows}
use Rattle.pgn_session.proofs.BlockLaws.{comes, reads-nothing}

-- a look that found the flag
found-answered : (terms : Terms) (plan : FlagPlan) (done : ℕ) (block : BlockView) (set : List (List ℕ)) (k q : Known) (items : List Item) (s : State) (flag value : ℕ)
    → StandsAt terms k items s → s.rest ≡ drop done terms.section.lines → s.set ≡ set → IsInScript (spare_of terms.section) block k s (walk.Awaiting flag) → HasFound k q flag value → value ≤ next_xid q.seen
    → IsAnswered terms plan done block set Lines q (items ++ Found value ∷ [])
found-answered terms plan done block set k q items s flag value h rest channels here r within =
    let seen : List Tx = k.seen ++ r.more in
    let g : StandsAt terms (record k { seen = seen }) items s = stands-grows terms k r.more items s h in
    let after : State = record s { owed = Nothing; told = max s.told value; found = s.found ++ (flag, value) ∷ [] } in
    let raised : walk.IsGreatest s.raised flag value = subst (λ (pairs : List (ℕ × ℕ)). walk.IsGreatest pairs flag value) (sym here.tells.raised) r.after_raised in
    let found : walk.IsGreatest s.found flag value = subst (λ (pairs : List (ℕ × ℕ)). walk.IsGreatest pairs flag value) (sym here.tells.found) r.after_found in
    let shown : StandsFresh terms seen (items ++ Found value ∷ []) after = await-finds terms seen items s flag value g.holds.stands_fresh here.owes raised found in
    let whole : q.seen ≡ seen = ap (λ (p : Known). p.seen) r.known in
    let below : value ≤ next_xid seen = subst (λ (txs : List Tx). value ≤ next_xid txs) whole within in
    subst (λ (p : Known). IsAnswered terms plan done block set Lines p (items ++ Found value ∷ [])) (sym r.known)
    (record {
      state = after;
      stands = record {
        holds = record {
          stands_fresh = shown;
          full = All-push (IsFullThere terms.settings seen) items (Found value) g.holds.full tt;
          found = All-push (λ (pair : ℕ × ℕ). pair.1 ≤ next_xid seen) s.found (flag, value) g.holds.found below;
        };
        session = g.session;
        database = g.database;
        own = finished-more items (Found value ∷ []) refl ∙ g.own;
        mark = g.mark;
        marks = g.marks;
        stood = g.stood;
        named = g.named;
        interested = g.interested;
        patient = g.patient;
      };
      rest = rest;
      channels = channels;
      here = record {
        owes = refl;
        block_state = here.block_state;
        list = here.list;
        tells = record {
          told = ap (λ (n : ℕ). max n value) here.tells.told;
          raised = here.tells.raised;
          found = ap (λ (pairs : List (ℕ × ℕ)). pairs ++ (flag, value) ∷ []) here.tells.found;
        };
        budget = here.budget;
        quits_last = here.quits_last;
      };
    })

-- the last look that the patience allows, which found nothing
timed_out-answered : (terms : Terms) (plan : FlagPlan) (done : ℕ) (block : BlockView) (set : List (List ℕ)) (k q : Known) (items : List Item) (s : State) (flag : ℕ)
    → StandsAt terms k items s → s.rest ≡ drop done terms.section.lines → s.set ≡ set → IsInScript (spare_of terms.section) block k s (walk.Awaiting flag) → HasFoundNone k q flag
    → IsAnswered terms plan done block set Lines q (items ++ TimedOut terms.settings.patience ∷ [])
timed_out-answered terms plan done block set k q items s flag h rest channels here r =
    let seen : List Tx = k.seen ++ r.more in
    let g : StandsAt terms (record k { seen = seen }) items s = stands-grows terms k r.more items s h in
    let raised : walk.IsUnknown s.raised flag = subst (λ (pairs : List (ℕ × ℕ)). walk.IsUnknown pairs flag) (sym here.tells.raised) r.not_raised in
    let found : walk.IsUnknown s.found flag = subst (λ (pairs : List (ℕ × ℕ)). walk.IsUnknown pairs flag) (sym here.tells.found) r.not_found in
    let shown : StandsFresh terms seen (items ++ TimedOut terms.settings.patience ∷ []) (record s { owed = Nothing }) = await-times_out terms seen items s flag g.holds.stands_fresh here.owes raised found in
    subst (λ (p : Known). IsAnswered terms plan done block set Lines p (items ++ TimedOut terms.settings.patience ∷ [])) (sym r.known)
    (record {
      state = record s { owed = Nothing };
      stands = record {
        holds = record { stands_fresh = shown; full = All-push (IsFullThere terms.settings seen) items (TimedOut terms.settings.patience) g.holds.full tt; found = g.holds.found };
        session = g.session;
        database = g.database;
        own = finished-more items (TimedOut terms.settings.patience ∷ []) refl ∙ g.own;
        mark = g.mark;
        marks = g.marks;
        stood = g.stood;
        named = g.named;
        interested = g.interested;
        patient = g.patient;
      };
      rest = rest;
      channels = channels;
      here = record {
        owes = refl;
        block_state = here.block_state;
        list = here.list;
        tells = record { told = here.tells.told; raised = here.tells.raised; found = here.tells.found };
        budget = here.budget;
        quits_last = here.quits_last;
      };
    })

-- a look that found nothing, and is not the last
waiting-rested : (terms : Terms) (plan : FlagPlan) (done : ℕ) (block : BlockView) (set : List (List ℕ)) (k q : Known) (items : List Item) (s : State) (flag looks : ℕ)
    → StandsAt terms k items s → s.rest ≡ drop done terms.section.lines → s.set ≡ set → IsInScript (spare_of terms.section) block k s (walk.Awaiting flag) → (s.block ≡ Idle → IsUpToDate terms k.seen s) → IsAwaitedIn terms.section flag
    → looks < terms.settings.patience → HasFoundNone k q flag → IsRested terms plan done block set (Awaiting flag looks) q items
waiting-rested terms plan done block set k q items s flag looks h rest channels here up awaited few r =
    let seen : List Tx = k.seen ++ r.more in
    let g : StandsAt terms (record k { seen = seen }) items s = stands-grows terms k r.more items s h in
    subst (λ (p : Known). IsRested terms plan done block set (Awaiting flag looks) p items) (sym r.known)
    (record {
      state = s;
      stands = record { holds = g.holds; session = g.session; database = g.database; own = g.own; mark = g.mark; marks = g.marks; stood = g.stood; named = g.named; interested = g.interested; patient = g.patient };
      rest = rest;
      channels = channels;
      here = (
        (
          record {
            owes = here.owes;
            block_state = here.block_state;
            list = here.list;
            tells = record { told = here.tells.told; raised = here.tells.raised; found = here.tells.found };
            budget = here.budget;
            quits_last = here.quits_last;
          },
          few,
          awaited,
        ),
        λ idle. up_to_date-grows terms k.seen r.more s (holds-within terms k.seen items s h.holds).told (up idle),
      );
    })

-- a line that is among the lines of the section
pub among-lines : (lines : List ScriptLine) (done : ℕ) (line : ScriptLine) (rest : List ScriptLine) → drop done lines ≡ line ∷ rest → Contains lines line
among-lines lines done line rest e =
    subst (λ (ls : List ScriptLine). Contains ls line) (take-append-drop done lines)
    (Contains-append_right (take done lines) (drop done lines) line
    (subst (λ (ls : List ScriptLine). Contains ls line) (sym e) (Contains-append_left (line ∷ []) rest line (Contains-push [] line))))

-- a flag that a line of the section awaits is one of the hub's
pub awaited-below : (section : Section) (flags flag : ℕ) → All (λ line. IsFlagBelow flags line.act) section.lines → IsAwaitedIn section flag → flag < flags
awaited-below section flags flag all a = subst (λ (act : Act). IsFlagBelow flags act) a.does (All-contains (λ (line : ScriptLine). IsFlagBelow flags line.act) section.lines a.line all a.among)

-- a line begins to await a flag
pub await-begins : (terms : Terms) (plan : FlagPlan) (done : ℕ) (block : BlockView) (set : List (List ℕ)) (k : Known) (items : List Item) (line : ScriptLine) (lines : List ScriptLine) (flag : ℕ)
    → IsRested terms plan done block set Lines k items → drop done terms.section.lines ≡ line ∷ lines → lines ≡ drop (done + 1) terms.section.lines → line.act ≡ Await flag
    → IsLookingFor terms (done + 1) block set flag k (items ++ Line line.line ∷ [])
await-begins terms plan done block set k items line lines flag h e behind does =
    let s : State = h.state in
    let rest : s.rest ≡ line ∷ lines = h.rest ∙ e in
    let begins : ComesNext terms k.seen s line (Await flag) lines = comes terms plan done block set k items line (Await flag) lines h e does (reads-nothing (Await flag) block.state k refl) in
    record {
      state = record s { rest = lines; owed = walk.Awaiting flag };
      stands = record {
        holds = record {
          stands_fresh = line-awaits terms k.seen items s line lines flag h.stands.holds.stands_fresh begins;
          full = All-push (IsFullThere terms.settings k.seen) items (Line line.line) h.stands.holds.full tt;
          found = h.stands.holds.found;
        };
        session = h.stands.session;
        database = h.stands.database;
        own = finished-more items (Line line.line ∷ []) refl ∙ h.stands.own;
        mark = h.stands.mark;
        marks = h.stands.marks;
        stood = h.stands.stood;
        named = h.stands.named;
        interested = h.stands.interested;
        patient = h.stands.patient;
      };
      rest = behind;
      channels = h.channels;
      here = (
        record {
          owes = refl;
          block_state = h.here.0.block_state;
          list = h.here.0.list;
          tells = record { told = h.here.0.tells.told; raised = h.here.0.tells.raised; found = h.here.0.tells.found };
          budget = budget-less line lines s.rest _ k.notes_left rest h.here.0.budget;
          quits_last = (subst QuitsLast rest h.here.0.quits_last).1;
        },
        h.here.1,
        record { line = line; among = among-lines terms.section.lines done line lines e; does = does },
      );
    }

-- the same, at the line's number
pub await-line : (terms : Terms) (plan : FlagPlan) (done : ℕ) (block : BlockView) (set : List (List ℕ)) (doing : Doing) (k : Known) (items after : List Item) (line : ScriptLine) (number flag : ℕ)
    → doing ≡ Lines → IsRested terms plan done block set doing k items → drop done terms.section.lines ≡ line ∷ drop (done + 1) terms.section.lines → line.line ≡ number → line.act ≡ Await flag
    → after ≡ items ++ Line number ∷ [] → IsLookingFor terms (done + 1) block set flag k after
await-line terms plan done block set doing k items after line number flag place h e is does shown =
    subst (λ (xs : List Item). IsLookingFor terms (done + 1) block set flag k xs) (ap (λ (n : ℕ). items ++ Line n ∷ []) is ∙ sym shown)
    (await-begins terms plan done block set k items line (drop (done + 1) terms.section.lines) flag (subst (λ (d : Doing). IsRested terms plan done block set d k items) place h) e refl does)

-- a session that awaits a flag, at its next turn
pub await-again : (terms : Terms) (plan : FlagPlan) (done : ℕ) (block : BlockView) (set : List (List ℕ)) (k : Known) (items : List Item) (flag looks : ℕ)
    → IsRested terms plan done block set (Awaiting flag looks) k items → IsLookingFor terms done block set flag k items
await-again terms plan done block set k items flag looks h = record { state = h.state; stands = h.stands; rest = h.rest; channels = h.channels; here = (h.here.0.0, h.here.1, h.here.0.2) }

-- a look that found the flag: its number is within what the pass has seen
found-within : (k q : Known) (flag value : ℕ) → HasFound k q flag value → IsWithin q → value ≤ next_xid q.seen
found-within k q flag value r w =
    let all : All (IsPairWithin q.told) (k.found ++ (flag, value) ∷ []) = subst (λ (pairs : List (ℕ × ℕ)). All (IsPairWithin q.told) pairs) (ap (λ (p : Known). p.found) r.known) w.found in
    let below : value ≤ q.told = All-contains (IsPairWithin q.told) (k.found ++ (flag, value) ∷ []) (flag, value) all (Contains-push k.found (flag, value)) in
    omega (arith, below, w.told)

-- where the session stands after a turn
abbrev pub TurnAnswers : Terms → FlagPlan → ℕ → BlockView → List (List ℕ) → Known → List Item → Doing → Step → Type 0
TurnAnswers terms plan done block set q after doing step = IsAnswered terms plan done block set doing q after × (step ≢ Ended)

none-answers : (terms : Terms) (plan : FlagPlan) (done : ℕ) (block : BlockView) (set : List (List ℕ)) (k q : Known) (items : List Item) (flag looks : ℕ) (b : Bool) → nat_lt looks terms.settings.patience ≡ b
    → looks ≤ terms.settings.patience → IsLookingFor terms done block set flag k items → HasFoundNone k q flag
    → TurnAnswers terms plan done block set q (cond b items (items ++ TimedOut looks ∷ [])) (cond b (Awaiting flag looks) Lines) (cond b Waiting Did)
none-answers terms plan done block set k q items flag looks true e few h r =
    let waits = waiting-rested terms plan done block set k q items h.state flag looks h.stands h.rest h.channels h.here.0 h.here.1 h.here.2 (ltb-true looks terms.settings.patience e) r in
    (record { state = waits.state; stands = waits.stands; rest = waits.rest; channels = waits.channels; here = waits.here.0 }, λ (ended : Waiting ≡ Ended). let no : ⊥ = cc in no)
none-answers terms plan done block set k q items flag looks false e few h r =
    let back : terms.settings.patience ≤ looks = ltb-false looks terms.settings.patience e in
    let all : terms.settings.patience ≡ looks = omega (arith, back, few) in
    (subst (λ (n : ℕ). IsAnswered terms plan done block set Lines q (items ++ TimedOut n ∷ [])) all (timed_out-answered terms plan done block set k q items h.state flag h.stands h.rest h.channels h.here.0 r), λ (ended : Did ≡ Ended). let no : ⊥ = cc in no)

look-answers : (terms : Terms) (plan : FlagPlan) (done : ℕ) (block : BlockView) (set : List (List ℕ)) (k q : Known) (items : List Item) (flag looks : ℕ) (found : Option ℕ)
    → looks ≤ terms.settings.patience → IsWithin q → IsLookingFor terms done block set flag k items → HasLooked k q flag found
    → TurnAnswers terms plan done block set q (looked_items items looks terms.settings.patience found) (looked_doing flag looks terms.settings.patience found) (looked_step looks terms.settings.patience found)
look-answers terms plan done block set k q items flag looks (Some value) few w h r =
    (found-answered terms plan done block set k q items h.state flag value h.stands h.rest h.channels h.here.0 r (found-within k q flag value r w), λ (ended : Did ≡ Ended). let no : ⊥ = cc in no)
look-answers terms plan done block set k q items flag looks None few w h r =
    none-answers terms plan done block set k q items flag looks (nat_lt looks terms.settings.patience) refl few h r

-- a turn of an await
pub turn-answers : (terms : Terms) (plan : FlagPlan) (done : ℕ) (block : BlockView) (set : List (List ℕ)) (k q : Known) (items after : List Item) (flag looks : ℕ) (doing : Doing) (step : Step)
    → looks ≤ terms.settings.patience → IsWithin q → IsLookingFor terms done block set flag k items → HasTurned flag looks terms.settings.patience k q items after doing step
    → TurnAnswers terms plan done block set q after doing step
turn-answers terms plan done block set k q items after flag looks doing step few w h t =
    subst (λ (x : Step). TurnAnswers terms plan done block set q after doing x) (sym t.comes_to)
    (subst (λ (d : Doing). TurnAnswers terms plan done block set q after d (looked_step looks terms.settings.patience t.found)) (sym t.place)
    (subst (λ (xs : List Item). TurnAnswers terms plan done block set q xs (looked_doing flag looks terms.settings.patience t.found) (looked_step looks terms.settings.patience t.found)) (sym t.shown)
    (look-answers terms plan done block set k q items flag looks t.found few w h t.looked)))
