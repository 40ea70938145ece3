-- The walk over a trace: where it has come, and the line that is to blame.
use Rattle.std.proofs.Common.{◌≡◌, ◌↔◌, ℕ, ◌+◌, Bool, true, false, ◌&&◌, List, [], ◌∷◌, ◌++◌, length, sym, ap, ◌∙◌, refl, subst, inl, inr, arith}
use Rattle.std.proofs.lemmas.Bool.{false≢true}
use Rattle.pgn_model.proofs.WalkLaws.{fold-push}
use Rattle.pgn_reading.proofs.BlameLaws.{blamed-from_before, blamed-from_end, blamed-from_item, blamed-from_last, spotless-first, spotless-on}
use Rattle.pgn_reading.proofs.ComesLaws.{comes-first, comes-on}
use Rattle.pgn_journal.specs.declared.tx.Tx.{Tx}
use Rattle.pgn_language.specs.declared.scenario.Section.{Section}
use Rattle.pgn_model.specs.declared.item.Item.{Item}
use Rattle.pgn_model.specs.declared.trace.Trace.{Trace}
use Rattle.pgn_model.specs.Walk.{State, Terms, Allowed, start}
use Rattle.pgn_model.specs.Legal.{finished_xids}
use Rattle.pgn_model.specs.Trace.{IsFreshAt, IsUpToDate}
use Rattle.pgn_reading.specs.Completed.{ready, stepped, walked, with_owed}
use Rattle.pgn_reading.specs.Blame.{BlamesTrace, Comes, IsAtRest, IsBorneOut, IsNextOwn, IsWhole, Refused, LeftOut, NotNext, Unfounded, LeftOutLast, Unfinished, last_line, line_after}
use Rattle.pgn_reading.specs.WholeLaws.{IsWalked}
use Rattle.pgn_walk.specs.declared.basis.Basis.{Basis}
use Rattle.pgn_walk.specs.declared.standing.Standing.{Standing}
use Rattle.pgn_check.specs.declared.walker.Walker.{Walker}
use Rattle.pgn_check.specs.Fresh.{Asks}
use Rattle.pgn_walk.specs.Basis.{journal_of, terms_of}
use Rattle.pgn_walk.specs.Standing.{Holds, Leads}
use Rattle.pgn_walk.specs.Steps.{Moves}
use Rattle.pgn_check.specs.Walked.{AsksLast, HasCome, IsAround, IsAtEnd, IsFreshLast, IsJudged, IsLeastOf, IsMissingNone, IsTaken}

-- An item is judged.

taken : (terms : Terms) (journal : List Tx) (sections : List Section) (traces : List Trace) (before : List Item) (i : Item) (s : State) (a b d : Bool) → (a ≡ true) ↔ IsNextOwn terms.section journal before i
    → (b ≡ true) ↔ IsBorneOut terms.settings sections journal traces s i → (d ≡ true) ↔ Allowed terms journal s (with_owed s.owed i) → IsTaken terms journal sections traces before i s (a && (b && d))
taken terms journal sections traces before i s true true true next borne allowed = (allowed.0 refl, next.0 refl, borne.0 refl)
taken terms journal sections traces before i s true true false next borne allowed = inl (λ h. false≢true (allowed.1 h))
taken terms journal sections traces before i s true false d next borne allowed = inr (inr (λ h. false≢true (borne.1 h)))
taken terms journal sections traces before i s false b d next borne allowed = inr (inl (λ h. false≢true (next.1 h)))

last_true : (a b d : Bool) → (a && (b && d)) ≡ true → d ≡ true
last_true true true d h = h
last_true true false d h = absurd (false≢true h)
last_true false b d h = absurd (false≢true h)

-- an item is judged by three tests: it is the session's next number, it is borne out, and the walk moves
pub judged_by : (terms : Terms) (journal : List Tx) (sections : List Section) (traces : List Trace) (before : List Item) (old new : Standing) (i : Item) (a b d : Bool) → (a ≡ true) ↔ IsNextOwn terms.section journal before i
    → ((s : State) → Holds terms.section journal old s → (b ≡ true) ↔ IsBorneOut terms.settings sections journal traces s i) → Moves terms journal old i d new → IsJudged terms journal sections traces before old i (a && (b && d)) new
judged_by terms journal sections traces before old new i a b d next borne moves = record {
  judged = λ s h. taken terms journal sections traces before i s a b d next (borne s h) (moves.judged s h);
  moved = λ s h all. moves.moved s h (last_true a b d all);
}

-- A step.

-- the walk begins before the first item
pub come_first : (basis : Basis) (sections : List Section) (traces : List Trace) (at : Standing) → Holds basis.section.now (journal_of basis) at (start basis.section.now) → HasCome basis sections traces [] at
come_first basis sections traces at h = record {
  comes = comes-first (terms_of basis) (journal_of basis);
  holds = h;
  spotless = spotless-first (terms_of basis) (journal_of basis) sections traces;
}

-- the state in which the walk has come to an item
abbrev state_at : Basis → List Item → State
state_at basis before = walked (start basis.section.now) before

-- what is known behind a test of freshness
holds_ready : (basis : Basis) (sections : List Section) (traces : List Trace) (before : List Item) (at ready_at : Standing) → HasCome basis sections traces before at → Leads at ready_at ready
    → Holds basis.section.now (journal_of basis) ready_at (ready (state_at basis before))
holds_ready basis sections traces before at ready_at come leads = leads basis.section.now (journal_of basis) (state_at basis before) come.holds

-- a read that was left out before an item: the last line before it is the least to blame
pub step_left : (basis : Basis) (sections : List Section) (traces : List Trace) (head : ℕ) (trace : Trace) (before : List Item) (i : Item) (after : List Item) (old : Walker) (ready_at : Standing) (b : Bool)
    → IsAround basis sections traces head trace before i after old → Leads old.at ready_at ready → Asks (terms_of basis).section (journal_of basis) ready_at b (λ s. IsFreshAt (terms_of basis) (journal_of basis) s i) → b ≡ false
    → IsLeastOf (terms_of basis) (journal_of basis) sections traces head trace old.line
step_left basis sections traces head trace before i after old ready_at b around leads asks off =
    let s : State = state_at basis before in
    let holds = holds_ready basis sections traces before old.at ready_at around.come leads in
    let line : last_line head basis.section.now before ≡ old.line = sym around.line in
    subst (λ (n : ℕ). IsLeastOf (terms_of basis) (journal_of basis) sections traces head trace n) line (record {
      blamed = LeftOut before after i s around.split around.come.comes (λ fresh. false≢true (sym off ∙ (asks (ready s) holds).1 fresh));
      least = λ m blames. blamed-from_before (terms_of basis) (journal_of basis) sections traces head trace before after i s m around.split around.come.comes around.come.spotless blames;
    })

-- which of the three an item is not
blames_item : (basis : Basis) (sections : List Section) (traces : List Trace) (head : ℕ) (trace : Trace) (before : List Item) (i : Item) (after : List Item) → trace.items ≡ before ++ i ∷ after
    → Comes (terms_of basis) (journal_of basis) before (state_at basis before) → IsTaken (terms_of basis) (journal_of basis) sections traces before i (ready (state_at basis before)) false
    → BlamesTrace (terms_of basis) (journal_of basis) sections traces head trace (line_after head basis.section.now before)
blames_item basis sections traces head trace before i after split comes (inl h) = Refused before after i (state_at basis before) split comes h
blames_item basis sections traces head trace before i after split comes (inr (inl h)) = NotNext before after i (state_at basis before) split comes h
blames_item basis sections traces head trace before i after split comes (inr (inr h)) = Unfounded before after i (state_at basis before) split comes h

-- an item that is judged bad: its first line is the least to blame
pub step_bad : (basis : Basis) (sections : List Section) (traces : List Trace) (head : ℕ) (trace : Trace) (before : List Item) (i : Item) (after : List Item) (old : Walker) (ready_at new : Standing) (b d : Bool)
    → IsAround basis sections traces head trace before i after old → Leads old.at ready_at ready → Asks (terms_of basis).section (journal_of basis) ready_at b (λ s. IsFreshAt (terms_of basis) (journal_of basis) s i) → b ≡ true
    → IsJudged (terms_of basis) (journal_of basis) sections traces before ready_at i d new → d ≡ false → IsLeastOf (terms_of basis) (journal_of basis) sections traces head trace (old.line + 1)
step_bad basis sections traces head trace before i after old ready_at new b d around leads asks on judged off =
    let s : State = state_at basis before in
    let holds = holds_ready basis sections traces before old.at ready_at around.come leads in
    let bad : IsTaken (terms_of basis) (journal_of basis) sections traces before i (ready s) false =
    subst (λ (t : Bool). IsTaken (terms_of basis) (journal_of basis) sections traces before i (ready s) t) off (judged.judged (ready s) holds) in
    let line : line_after head basis.section.now before ≡ old.line + 1 = ap (λ (n : ℕ). n + 1) (sym around.line) in
    subst (λ (n : ℕ). IsLeastOf (terms_of basis) (journal_of basis) sections traces head trace n) line (record {
      blamed = blames_item basis sections traces head trace before i after around.split around.come.comes bad;
      least = λ m blames. blamed-from_item (terms_of basis) (journal_of basis) sections traces head trace before after i s m around.read around.split around.come.comes around.come.spotless ((asks (ready s) holds).0 on) blames;
    })

-- an item that is judged good: the walk has come past it
pub step_on : (basis : Basis) (sections : List Section) (traces : List Trace) (head : ℕ) (trace : Trace) (before : List Item) (i : Item) (after : List Item) (old : Walker) (ready_at new : Standing) (b d : Bool)
    → IsAround basis sections traces head trace before i after old → Leads old.at ready_at ready → Asks (terms_of basis).section (journal_of basis) ready_at b (λ s. IsFreshAt (terms_of basis) (journal_of basis) s i) → b ≡ true
    → IsJudged (terms_of basis) (journal_of basis) sections traces before ready_at i d new → d ≡ true → HasCome basis sections traces (before ++ i ∷ []) new
step_on basis sections traces head trace before i after old ready_at new b d around leads asks on judged said =
    let s : State = state_at basis before in
    let holds = holds_ready basis sections traces before old.at ready_at around.come leads in
    let good : IsTaken (terms_of basis) (journal_of basis) sections traces before i (ready s) true =
    subst (λ (t : Bool). IsTaken (terms_of basis) (journal_of basis) sections traces before i (ready s) t) said (judged.judged (ready s) holds) in
    let next : stepped s i ≡ state_at basis (before ++ i ∷ []) = sym (fold-push stepped (start basis.section.now) before i) in
    record {
      comes = subst (λ (t : State). Comes (terms_of basis) (journal_of basis) (before ++ i ∷ []) t) next (comes-on (terms_of basis) (journal_of basis) before i s around.come.comes good.0);
      holds = subst (λ (t : State). Holds basis.section.now (journal_of basis) new t) next (judged.moved (ready s) holds said);
      spotless = spotless-on (terms_of basis) (journal_of basis) sections traces before i s around.come.comes around.come.spotless (record {
        fresh = (asks (ready s) holds).0 on;
        next = good.1;
        borne_out = good.2;
      });
    }

-- The end.

-- a read that was left out at the end: the last line before it is the least to blame
pub end_left : (basis : Basis) (sections : List Section) (traces : List Trace) (head : ℕ) (trace : Trace) (old : Walker) (b : Bool) → IsAtEnd basis sections traces head trace old
    → AsksLast (terms_of basis) (journal_of basis) old.at b → b ≡ false → IsLeastOf (terms_of basis) (journal_of basis) sections traces head trace old.line
end_left basis sections traces head trace old b end asks off =
    let s : State = state_at basis trace.items in
    let out : IsFreshLast false (IsAtRest s) (IsUpToDate (terms_of basis) (journal_of basis) s) =
    subst (λ (t : Bool). IsFreshLast t (IsAtRest s) (IsUpToDate (terms_of basis) (journal_of basis) s)) off (asks s end.come.holds) in
    subst (λ (n : ℕ). IsLeastOf (terms_of basis) (journal_of basis) sections traces head trace n) (sym end.line) (record {
      blamed = LeftOutLast s end.come.comes out.0 out.1;
      least = λ m blames. blamed-from_last (terms_of basis) (journal_of basis) sections traces head trace s m end.come.comes end.come.spotless blames;
    })

fresh_last : (basis : Basis) (sections : List Section) (traces : List Trace) (trace : Trace) (at : Standing) (b : Bool) → HasCome basis sections traces trace.items at → AsksLast (terms_of basis) (journal_of basis) at b
    → b ≡ true → IsAtRest (state_at basis trace.items) → IsUpToDate (terms_of basis) (journal_of basis) (state_at basis trace.items)
fresh_last basis sections traces trace at b come asks on =
    let s : State = state_at basis trace.items in
    subst (λ (t : Bool). IsFreshLast t (IsAtRest s) (IsUpToDate (terms_of basis) (journal_of basis) s)) on (asks s come.holds)

-- nothing is missing
whole_is : (basis : Basis) (trace : Trace) (own : ℕ) (s : State) → own ≡ length (finished_xids trace.items) → IsMissingNone basis own trace.last s → IsWhole basis.section.now (journal_of basis) trace s
whole_is basis trace own s e h = record { ended = h.ended; own = omega (arith, e, h.all_own); read_all = h.read_all }

is_whole : (basis : Basis) (trace : Trace) (own : ℕ) (s : State) → own ≡ length (finished_xids trace.items) → IsWhole basis.section.now (journal_of basis) trace s → IsMissingNone basis own trace.last s
is_whole basis trace own s e h = record { ended = h.ended; all_own = omega (arith, e, h.own); read_all = h.read_all }

-- something missing at the end: the end's line is the least to blame
pub end_bad : (basis : Basis) (sections : List Section) (traces : List Trace) (head : ℕ) (trace : Trace) (old : Walker) (own : ℕ) (b d : Bool) → IsAtEnd basis sections traces head trace old
    → AsksLast (terms_of basis) (journal_of basis) old.at b → b ≡ true → own ≡ length (finished_xids trace.items) → Asks basis.section.now (journal_of basis) old.at d (IsMissingNone basis own trace.last) → d ≡ false
    → IsLeastOf (terms_of basis) (journal_of basis) sections traces head trace (old.line + 1)
end_bad basis sections traces head trace old own b d end asks on e missing off =
    let s : State = state_at basis trace.items in
    let line : line_after head basis.section.now trace.items ≡ old.line + 1 = ap (λ (n : ℕ). n + 1) (sym end.line) in
    subst (λ (n : ℕ). IsLeastOf (terms_of basis) (journal_of basis) sections traces head trace n) line (record {
      blamed = Unfinished s end.come.comes (λ whole. false≢true (sym off ∙ (missing s end.come.holds).1 (is_whole basis trace own s e whole)));
      least = λ m blames. blamed-from_end (terms_of basis) (journal_of basis) sections traces head trace s m end.come.comes end.come.spotless (fresh_last basis sections traces trace old.at b end.come asks on) blames;
    })

-- nothing missing at the end: the trace is walked
pub end_good : (basis : Basis) (sections : List Section) (traces : List Trace) (head : ℕ) (trace : Trace) (old : Walker) (own : ℕ) (b d : Bool) → IsAtEnd basis sections traces head trace old
    → AsksLast (terms_of basis) (journal_of basis) old.at b → b ≡ true → own ≡ length (finished_xids trace.items) → Asks basis.section.now (journal_of basis) old.at d (IsMissingNone basis own trace.last) → d ≡ true
    → IsWalked (terms_of basis) (journal_of basis) sections traces trace
end_good basis sections traces head trace old own b d end asks on e missing said =
    let s : State = state_at basis trace.items in
    record {
      state = s;
      comes = end.come.comes;
      spotless = end.come.spotless;
      fresh = fresh_last basis sections traces trace old.at b end.come asks on;
      nothing_missing = whole_is basis trace own s e ((missing s end.come.holds).0 said);
    }
