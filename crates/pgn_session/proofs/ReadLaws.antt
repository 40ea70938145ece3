-- A read that was made, and a session that need not read.
use Rattle.std.proofs.Common.{◌≡◌, ℕ, ◌≤◌, max, Bool, true, false, cond, nat_lt, ltb-true, ltb-false, List, [], ◌∷◌, ◌++◌, append_assoc, Option, Some, None, IfSome, Contains, sym, ap, ◌∙◌, refl, subst, arith}
use Rattle.std.proofs.lemmas.List.Elements.{All-push, All-contains, Contains-push}
use Rattle.pgn_base.specs.declared.format.Format.{Format}
use Rattle.pgn_base.specs.declared.note.Delivery.{Delivery}
use Rattle.pgn_journal.specs.declared.tx.Tx.{Tx}
use Rattle.pgn_answers.specs.declared.block_state.BlockState.TheVariants.{Idle}
use Rattle.pgn_model.specs.declared.item.Item.{Item}
use Rattle.pgn_model.specs.declared.item.Item.TheVariants.{Read}
use Rattle.pgn_hub.specs.declared.known.Known.{Known}
use Rattle.pgn_journal.specs.Journal.{next_xid}
use Rattle.pgn_journal.specs.Due.{due, is_due_to}
use Rattle.pgn_journal.specs.Near.{Near}
use Rattle.pgn_model.specs.Walk.{Terms, State}
use Rattle.pgn_model.specs.Legal.{IsFullThere}
use Rattle.pgn_model.specs.Trace.{IsUpToDate}
use Rattle.pgn_model.specs.laws.NextLine.{StandsFresh, MayReadTo}
use Rattle.pgn_model.proofs.NextLineLaws.{idle-reads, await-reads, end-reads, reader-is_up_to_date, quiet-is_up_to_date, finished-more}
use Rattle.pgn_hub.specs.Calls.{HasLearned, HasWoken}
use Rattle.pgn_hub.specs.Passes.{IsWithin}
use Rattle.pgn_block.specs.Views.{BlockView}
use Rattle.pgn_session.specs.declared.doing.FlagPlan.{FlagPlan}
use Rattle.pgn_session.specs.declared.doing.Doing.{Doing}
use Rattle.pgn_session.specs.declared.doing.Doing.TheVariants.{Lines, Committing, Awaiting, Ending, Over}
use Rattle.pgn_session.specs.Parts.{HasReadOn, with_read}
use Rattle.pgn_session.specs.Standing.{StandsAt, HasAnswered, HasRested, IsAnswered, IsRested}
use Rattle.pgn_session.proofs.KnownLaws.{stands-grows, stands-learned, IsSameTold, answered-same, told-below, answered-rested, members-push, members-again}

-- a pass that has looked at its wake
pub stands-woken : (terms : Terms) (k q : Known) (items : List Item) (s : State) (woken : Bool) → HasWoken terms.settings.format k q woken → StandsAt terms k items s → StandsAt terms q items s
stands-woken terms k q items s woken w h =
    let g = stands-grows terms k w.more items s h in
    subst (λ (p : Known). StandsAt terms p items s) (sym w.known)
    (record { holds = g.holds; session = g.session; database = g.database; own = g.own; mark = g.mark; marks = g.marks; stood = g.stood; named = g.named; interested = g.interested; patient = g.patient })

same-woken : (terms : Terms) (k q : Known) (woken : Bool) → HasWoken terms.settings.format k q woken → IsSameTold k q
same-woken terms k q woken w = record {
  told = ap (λ (p : Known). p.told) w.known;
  raised = ap (λ (p : Known). p.raised) w.known;
  found = ap (λ (p : Known). p.found) w.known;
  notes_left = ap (λ (p : Known). p.notes_left) w.known;
}

same-learned : (k q : Known) → HasLearned k q → IsSameTold k q
same-learned k q l = record {
  told = ap (λ (p : Known). p.told) l.known;
  raised = ap (λ (p : Known). p.raised) l.known;
  found = ap (λ (p : Known). p.found) l.known;
  notes_left = ap (λ (p : Known). p.notes_left) l.known;
}

-- a read that was refused is owed still
pub owed-still : (format : Format) (k j q : Known) → HasWoken format k j true → HasLearned j q → HasWoken format k q true
owed-still format k j q w l = record {
  more = w.more ++ l.more;
  was_set = w.was_set;
  known =
      l.known
      ∙ ap (λ (p : Known). let t : Known = record p { seen = p.seen ++ l.more } in t) w.known
      ∙ ap (λ (txs : List Tx). let t : Known = record k { seen = txs; owes = true; wake_look = Some (w.was_set, k.owes) } in t) (append_assoc k.seen w.more l.more);
  cause = w.cause;
  near = λ unset. absurd (let no : ⊥ = cc (unset) in no);
}

-- a session that was woken has still to read
pub woken-answered : (terms : Terms) (plan : FlagPlan) (done : ℕ) (block : BlockView) (set : List (List ℕ)) (doing : Doing) (k q : Known) (items : List Item) (woken : Bool)
    → HasWoken terms.settings.format k q woken → IsAnswered terms plan done block set doing k items → IsAnswered terms plan done block set doing q items
woken-answered terms plan done block set doing k q items woken w h = record {
  state = h.state;
  stands = stands-woken terms k q items h.state woken w h.stands;
  rest = h.rest;
  channels = h.channels;
  here = answered-same terms plan block k q h.state doing (same-woken terms k q woken w) h.here;
}

-- a session has answered still where its pass has learned more
pub learned-answered : (terms : Terms) (plan : FlagPlan) (done : ℕ) (block : BlockView) (set : List (List ℕ)) (doing : Doing) (k q : Known) (items : List Item)
    → HasLearned k q → IsAnswered terms plan done block set doing k items → IsAnswered terms plan done block set doing q items
learned-answered terms plan done block set doing k q items l h = record {
  state = h.state;
  stands = stands-learned terms k q items h.state l h.stands;
  rest = h.rest;
  channels = h.channels;
  here = answered-same terms plan block k q h.state doing (same-learned k q l) h.here;
}

-- a listener that is near by what it has told is near by its own database and set
near-told : (mark : Option ℕ) (format : Format) (d db : ℕ) (told set : List (List ℕ)) (seen : List Tx) (upto : ℕ) → d ≡ db → IfSome mark (λ _. told ≡ set)
    → IfSome mark (λ m. Near format (is_due_to d told) seen m upto) → IfSome mark (λ m. Near format (is_due_to db set) seen m upto)
near-told None format d db told set seen upto same is near = tt
near-told (Some m) format d db told set seen upto same is near =
    subst (λ (n : ℕ). Near format (is_due_to n set) seen m upto) same (subst (λ (channels : List (List ℕ)). Near format (is_due_to d channels) seen m upto) is near)

-- a session that was not woken has rested
pub quiet-rested : (terms : Terms) (plan : FlagPlan) (done : ℕ) (block : BlockView) (set : List (List ℕ)) (doing : Doing) (k q : Known) (items : List Item)
    → HasWoken terms.settings.format k q false → IsAnswered terms plan done block set doing k items → IsRested terms plan done block set doing q items
quiet-rested terms plan done block set doing k q items w h =
    let near : IfSome h.state.mark (λ mark. Near terms.settings.format (is_due_to terms.section.db h.state.set) q.seen mark k.told) =
    subst (λ (mark : Option ℕ). IfSome mark (λ m. Near terms.settings.format (is_due_to terms.section.db h.state.set) q.seen m k.told)) (sym h.stands.mark)
    (near-told k.mark terms.settings.format k.db terms.section.db k.set h.state.set q.seen k.told h.stands.database h.stands.interested (w.near refl)) in
    record {
      state = h.state;
      stands = stands-woken terms k q items h.state false w h.stands;
      rest = h.rest;
      channels = h.channels;
      here = answered-rested terms plan block q h.state doing
          (answered-same terms plan block k q h.state doing (same-woken terms k q false w) h.here)
          (quiet-is_up_to_date terms q.seen h.state k.told (told-below terms plan block k h.state doing h.here) near);
    }

-- a read may be shown wherever a session has answered and no block is open
read-shown : (terms : Terms) (plan : FlagPlan) (block : BlockView) (k : Known) (seen : List Tx) (items : List Item) (s : State) (doing : Doing) (from to : ℕ)
    → StandsFresh terms seen items s → block.state ≡ Idle → HasAnswered terms plan block k s doing → MayReadTo seen s from to
    → StandsFresh terms seen (items ++ Read from to (due seen from to terms.section.db s.set) ∷ []) (record s { mark = Some to; told = max s.told to; marks = s.marks ++ to ∷ [] })
read-shown terms plan block k seen items s Lines from to h idle a may = idle-reads terms seen items s from to h a.owes (a.block_state ∙ idle) may
read-shown terms plan block k seen items s (Committing actions notes tag) from to h idle a may = absurd a
read-shown terms plan block k seen items s (Awaiting flag looks) from to h idle a may = await-reads terms seen items s flag from to h a.0.owes (a.0.block_state ∙ idle) may
read-shown terms plan block k seen items s (Ending found looks) from to h idle a may = end-reads terms seen items s from to h a.0.owes a.0.done may
read-shown terms plan block k seen items s Over from to h idle a may = end-reads terms seen items s from to h a.owes a.done may

-- the mark moves, and what was told with it, and nothing else of where the session stands
answered-moved : (terms : Terms) (plan : FlagPlan) (block : BlockView) (k : Known) (s : State) (to : ℕ) (marks : List ℕ) (doing : Doing)
    → HasAnswered terms plan block k s doing → HasAnswered terms plan block (record k { told = max k.told to }) (record s { mark = Some to; told = max s.told to; marks = marks }) doing
answered-moved terms plan block k s to marks Lines h =
    record { owes = h.owes; block_state = h.block_state; list = h.list; tells = record { told = ap (λ (n : ℕ). max n to) h.tells.told; raised = h.tells.raised; found = h.tells.found }; budget = h.budget; quits_last = h.quits_last }
answered-moved terms plan block k s to marks (Committing actions notes tag) h = h
answered-moved terms plan block k s to marks (Awaiting flag looks) h = (
  record {
    owes = h.0.owes;
    block_state = h.0.block_state;
    list = h.0.list;
    tells = record { told = ap (λ (n : ℕ). max n to) h.0.tells.told; raised = h.0.tells.raised; found = h.0.tells.found };
    budget = h.0.budget;
    quits_last = h.0.quits_last;
  },
  h.1,
  h.2,
)
answered-moved terms plan block k s to marks (Ending found looks) h =
    (record { owes = h.0.owes; done = h.0.done; dropped = h.0.dropped; tells = record { told = omega (arith, h.0.tells.told); raised = h.0.tells.raised; found = h.0.tells.found } }, h.1, h.2, h.3)
answered-moved terms plan block k s to marks Over h =
    record { owes = h.owes; done = h.done; dropped = h.dropped; tells = record { told = omega (arith, h.tells.told); raised = h.tells.raised; found = h.tells.found } }

-- a read that moved the mark, and one that did not
reads : (terms : Terms) (plan : FlagPlan) (done : ℕ) (block : BlockView) (set : List (List ℕ)) (doing : Doing) (k : Known) (more : List Tx) (items : List Item) (from to : ℕ) (b : Bool)
    → nat_lt from to ≡ b → k.mark ≡ Some from → from ≤ k.told → from ≤ to → k.told ≤ to → to ≤ next_xid (k.seen ++ more) → block.state ≡ Idle → IsAnswered terms plan done block set doing k items
    → IsRested terms plan done block set doing (record k { seen = k.seen ++ more; mark = Some to; told = max k.told to; marks = k.marks ++ to ∷ []; owes = false })
    (cond b (items ++ Read from to (due (k.seen ++ more) from to k.db set) ∷ []) items)
reads terms plan done block set doing k more items from to true e is_from low forward after_told within idle h =
    let seen : List Tx = k.seen ++ more in
    let s : State = h.state in
    let after : State = record s { mark = Some to; told = max s.told to; marks = s.marks ++ to ∷ [] } in
    let q : Known = record k { seen = seen; mark = Some to; told = max k.told to; marks = k.marks ++ to ∷ []; owes = false } in
    let g : StandsAt terms (record k { seen = seen }) items s = stands-grows terms k more items s h.stands in
    let below : s.told ≤ k.told = told-below terms plan block k s doing h.here in
    let told : k.set ≡ s.set = subst (λ (mark : Option ℕ). IfSome mark (λ _. k.set ≡ s.set)) is_from h.stands.interested in
    let shown : StandsFresh terms seen (items ++ Read from to (due seen from to terms.section.db s.set) ∷ []) after =
    read-shown terms plan block k seen items s doing from to g.holds.stands_fresh idle h.here
    (record { from_mark = h.stands.mark ∙ is_from; forward = ltb-true from to e; after_told = omega (arith, below, after_told); in_journal = within }) in
    let same : due seen from to terms.section.db s.set ≡ due seen from to k.db set =
    ap (λ (db : ℕ). due seen from to db s.set) (sym h.stands.database) ∙ ap (λ (channels : List (List ℕ)). due seen from to k.db channels) h.channels in
    let shown_so : StandsFresh terms seen (items ++ Read from to (due seen from to k.db set) ∷ []) after =
    subst (λ (got : List Delivery). StandsFresh terms seen (items ++ Read from to got ∷ []) after) same shown in
    let there : HasAnswered terms plan block q after doing =
    answered-same terms plan block (record k { told = max k.told to }) q after doing (record { told = refl; raised = refl; found = refl; notes_left = refl })
    (answered-moved terms plan block k s to (s.marks ++ to ∷ []) doing h.here) in
    record {
      state = after;
      stands = record {
        holds = record {
          stands_fresh = shown_so;
          full = All-push (IsFullThere terms.settings seen) items (Read from to (due seen from to k.db set)) g.holds.full tt;
          found = g.holds.found;
        };
        session = h.stands.session;
        database = h.stands.database;
        own = finished-more items (Read from to (due seen from to k.db set) ∷ []) refl ∙ h.stands.own;
        mark = refl;
        marks = members-push s.marks k.marks to h.stands.marks;
        stood = Contains-push k.marks to;
        named = h.stands.named;
        interested = told;
        patient = h.stands.patient;
      };
      rest = h.rest;
      channels = h.channels;
      here = answered-rested terms plan block q after doing there (reader-is_up_to_date terms seen after to refl (omega (arith, below, after_told)));
    }
reads terms plan done block set doing k more items from to false e is_from low forward after_told within idle h =
    let seen : List Tx = k.seen ++ more in
    let s : State = h.state in
    let q : Known = record k { seen = seen; mark = Some to; told = max k.told to; marks = k.marks ++ to ∷ []; owes = false } in
    let g : StandsAt terms (record k { seen = seen }) items s = stands-grows terms k more items s h.stands in
    let below : s.told ≤ k.told = told-below terms plan block k s doing h.here in
    let told : k.set ≡ s.set = subst (λ (mark : Option ℕ). IfSome mark (λ _. k.set ≡ s.set)) is_from h.stands.interested in
    let back : to ≤ from = ltb-false from to e in
    let still : from ≡ to = omega (arith, back, forward) in
    let at : s.mark ≡ Some to = h.stands.mark ∙ is_from ∙ ap Some still in
    let stood : IfSome (Some to) (Contains k.marks) = subst (λ (mark : Option ℕ). IfSome mark (Contains k.marks)) (is_from ∙ ap Some still) h.stands.stood in
    record {
      state = s;
      stands = record {
        holds = g.holds;
        session = h.stands.session;
        database = h.stands.database;
        own = h.stands.own;
        mark = at;
        marks = members-again s.marks k.marks to (All-contains (Contains s.marks) k.marks to h.stands.marks.of_right stood) h.stands.marks;
        stood = Contains-push k.marks to;
        named = h.stands.named;
        interested = told;
        patient = h.stands.patient;
      };
      rest = h.rest;
      channels = h.channels;
      here = answered-rested terms plan block q s doing
          (answered-same terms plan block k q s doing (record { told = omega (arith, low, back, after_told); raised = refl; found = refl; notes_left = refl }) h.here)
          (reader-is_up_to_date terms seen s to at (omega (arith, below, after_told)));
    }

-- a session that has read has rested
pub read-rested : (terms : Terms) (plan : FlagPlan) (done : ℕ) (block : BlockView) (set : List (List ℕ)) (doing : Doing) (k q : Known) (items after : List Item) (from to : ℕ)
    → HasReadOn k q set from to items after → block.state ≡ Idle → k.mark ≡ Some from → IsWithin k → IsAnswered terms plan done block set doing k items → IsRested terms plan done block set doing q after
read-rested terms plan done block set doing k q items after from to r idle is_from known h =
    let read = r.read in
    let low : from ≤ k.told = subst (λ (mark : Option ℕ). IfSome mark (λ own. own ≤ k.told)) is_from known.told_of_read in
    let same_from : Some read.from ≡ Some from = sym read.from_mark ∙ is_from in
    let starts : read.from ≡ from = cc in
    let seen : q.seen ≡ k.seen ++ read.more = ap (λ (p : Known). p.seen) read.known in
    let forward : from ≤ to = omega (arith, read.forward, starts) in
    let within : to ≤ next_xid (k.seen ++ read.more) = subst (λ (txs : List Tx). to ≤ next_xid txs) seen read.in_seen in
    let got : r.got ≡ due (k.seen ++ read.more) from to k.db set =
    read.delivered ∙ ap (λ (txs : List Tx). due txs read.from to k.db set) seen ∙ ap (λ (n : ℕ). due (k.seen ++ read.more) n to k.db set) starts in
    let shown : after ≡ with_read items from to (due (k.seen ++ read.more) from to k.db set) = r.shown ∙ ap (λ (ds : List Delivery). with_read items from to ds) got in
    subst (λ (is : List Item). IsRested terms plan done block set doing q is) (sym shown)
    (subst (λ (p : Known). IsRested terms plan done block set doing p (with_read items from to (due (k.seen ++ read.more) from to k.db set))) (sym read.known)
    (reads terms plan done block set doing k read.more items from to (nat_lt from to) refl is_from low forward read.after_told within idle h))

-- where a block is open, no read is due
read-none : (terms : Terms) (plan : FlagPlan) (block : BlockView) (k : Known) (s : State) (doing : Doing) → (block.state ≡ Idle → ⊥) → HasAnswered terms plan block k s doing → HasRested terms plan block k s doing
read-none terms plan block k s Lines opened h = (h, λ idle. absurd (opened (sym h.block_state ∙ idle)))
read-none terms plan block k s (Committing actions notes tag) opened h = absurd h
read-none terms plan block k s (Awaiting flag looks) opened h = (h, λ idle. absurd (opened (sym h.0.block_state ∙ idle)))
read-none terms plan block k s (Ending found looks) opened h = absurd (opened h.0.dropped)
read-none terms plan block k s Over opened h = absurd (opened h.dropped)

-- so who has answered has rested
pub open-rested : (terms : Terms) (plan : FlagPlan) (done : ℕ) (block : BlockView) (set : List (List ℕ)) (doing : Doing) (k : Known) (items : List Item)
    → (block.state ≡ Idle → ⊥) → IsAnswered terms plan done block set doing k items → IsRested terms plan done block set doing k items
open-rested terms plan done block set doing k items opened h =
    record { state = h.state; stands = h.stands; rest = h.rest; channels = h.channels; here = read-none terms plan block k h.state doing opened h.here }

-- nor is it of who is no listener
pub unlisted-rested : (terms : Terms) (plan : FlagPlan) (done : ℕ) (block : BlockView) (set : List (List ℕ)) (doing : Doing) (k : Known) (items : List Item)
    → k.mark ≡ None → IsAnswered terms plan done block set doing k items → IsRested terms plan done block set doing k items
unlisted-rested terms plan done block set doing k items none h =
    let s : State = h.state in
    let up : IsUpToDate terms k.seen s = subst (λ (m : Option ℕ). IfSome m (λ mark. Near terms.settings.format (is_due_to terms.section.db s.set) k.seen mark s.told)) (sym (h.stands.mark ∙ none)) tt in
    record { state = s; stands = h.stands; rest = h.rest; channels = h.channels; here = answered-rested terms plan block k s doing h.here up }
