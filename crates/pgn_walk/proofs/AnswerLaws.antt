-- Items that answer a line, where a session stands.
use Rattle.std.proofs.Common.{◌≡◌, ◌↔◌, ℕ, ◌≤◌, Bool, true, false, List, Option, None, sym, ap, ◌∙◌, refl, subst, arith, ◌++◌}
use Rattle.std.specs.Prelude.{IfSome}
use Rattle.std.proofs.lemmas.Bool.{false≢true}
use Rattle.pgn_base.specs.declared.answers.Tag.{Tag}
use Rattle.pgn_base.specs.declared.answers.Warning.{Warning}
use Rattle.pgn_base.specs.declared.answers.Refusal.{Refusal}
use Rattle.pgn_base.specs.declared.queue_answers.Usage.{Usage}
use Rattle.pgn_journal.specs.declared.tx.Tx.{Tx}
use Rattle.pgn_journal.specs.QueueUse.{IsFloorFor, ShowsUsage}
use Rattle.pgn_language.specs.declared.scenario.Section.{Section}
use Rattle.pgn_model.specs.declared.item.Item.TheVariants as item
use Rattle.pgn_model.specs.Walk.{Owed, State, Terms, IsLeaving, IsListing, IsMeasuring}
use Rattle.pgn_model.specs.Walk as walk
use Rattle.pgn_walk.specs.declared.standing.Standing.{Standing}
use Rattle.pgn_ledger.specs.declared.to_show.Ending.{Ending}
use Rattle.pgn_ledger.specs.declared.to_show.Ending.TheVariants.{Replied, Refused}
use Rattle.pgn_ledger.specs.declared.to_show.ToShow.{ToShow}
use Rattle.pgn_ledger.specs.declared.to_show.ToShow.TheVariants as show
use Rattle.pgn_ledger.specs.ToShow.{ending_of, owed_of}
use Rattle.pgn_walk.specs.Standing.{Holds, behind}
use Rattle.pgn_walk.specs.Steps.{Moves, is_leaving}
use Rattle.pgn_walk.proofs.StandingLaws.{holds_owed}
use Rattle.pgn_walk.proofs.ItemLaws.{IsBehind, moves_by, moves_not, moves_on}

-- The session stops being a listener.

-- no listener any more
unmarked : (section : Section) (journal : List Tx) (old : Standing) (s : State) (left : ToShow) (owed : Owed) → Holds section journal old s → owed ≡ owed_of left
    → Holds section journal (record old { owed = left; mark = None }) (record s { mark = None; owed = owed })
unmarked section journal old s left owed h e = record {
  rest = h.rest;
  owed = e;
  block = h.block;
  changes = h.changes;
  set = h.set;
  mark = refl;
  told = h.told;
  marks = h.marks;
  flags = h.flags;
  watch = record { over = h.watch.over; within = h.watch.within; next = tt };
}

-- a commit that owes it leaves, and owes its answer
leave_on : (terms : Terms) (journal : List Tx) (old : Standing) (ending : Ending) → old.owed ≡ show.Leaving ending → Moves terms journal old item.Leave true (record old { owed = show.Answering ending; mark = None })
leave_on terms journal old ending e =
    moves_on terms journal old (record old { owed = show.Answering ending; mark = None }) item.Leave (λ s h. subst IsLeaving (sym (h.owed ∙ ap owed_of e)) tt)
    (λ s h. subst (λ (owed : Owed). Holds terms.section journal (record old { owed = show.Answering ending; mark = None }) (walk.at_leave (record s { mark = None }) owed)) (sym (h.owed ∙ ap owed_of e))
    (unmarked terms.section journal old s (show.Answering ending) (walk.Answering (ending_of ending)) h refl))

-- a quit that owes it leaves, and owes nothing more
leave_quit : (terms : Terms) (journal : List Tx) (old : Standing) → old.owed ≡ show.Quitting → Moves terms journal old item.Leave true (record old { owed = show.Nothing; mark = None })
leave_quit terms journal old e =
    moves_on terms journal old (record old { owed = show.Nothing; mark = None }) item.Leave (λ s h. subst IsLeaving (sym (h.owed ∙ ap owed_of e)) tt)
    (λ s h. subst (λ (owed : Owed). Holds terms.section journal (record old { owed = show.Nothing; mark = None }) (walk.at_leave (record s { mark = None }) owed)) (sym (h.owed ∙ ap owed_of e))
    (unmarked terms.section journal old s show.Nothing walk.Nothing h refl))

-- a session that does not owe to leave may not
leave_never : (terms : Terms) (journal : List Tx) (old new : Standing) (left : ToShow) → old.owed ≡ left → (IsLeaving (owed_of left) → ⊥) → Moves terms journal old item.Leave false new
leave_never terms journal old new left e none = moves_not terms journal old new item.Leave (λ s h allowed. none (subst IsLeaving (h.owed ∙ ap owed_of e) allowed))

leave_at : (terms : Terms) (journal : List Tx) (old : Standing) (left : ToShow) → old.owed ≡ left → Moves terms journal old item.Leave (is_leaving left) (record old { owed = behind left; mark = None })
leave_at terms journal old (show.Leaving f) e = leave_on terms journal old f e
leave_at terms journal old show.Quitting e = leave_quit terms journal old e
leave_at terms journal old show.Nothing e = leave_never terms journal old (record old { mark = None; owed = show.Nothing }) show.Nothing e (λ is. is)
leave_at terms journal old (show.Enlisting a n f) e = leave_never terms journal old (record old { mark = None; owed = show.Enlisting a n f }) (show.Enlisting a n f) e (λ is. is)
leave_at terms journal old (show.Queueing a n f) e = leave_never terms journal old (record old { mark = None; owed = show.Queueing a n f }) (show.Queueing a n f) e (λ is. is)
leave_at terms journal old (show.Answering f) e = leave_never terms journal old (record old { mark = None; owed = show.Answering f }) (show.Answering f) e (λ is. is)
leave_at terms journal old (show.Listing n f) e = leave_never terms journal old (record old { mark = None; owed = show.Answering f }) (show.Listing n f) e (λ is. is)
leave_at terms journal old (show.Measuring f) e = leave_never terms journal old (record old { mark = None; owed = show.Answering f }) (show.Measuring f) e (λ is. is)
leave_at terms journal old (show.Raising f) e = leave_never terms journal old (record old { mark = None; owed = show.Raising f }) (show.Raising f) e (λ is. is)
leave_at terms journal old (show.Awaiting f) e = leave_never terms journal old (record old { mark = None; owed = show.Awaiting f }) (show.Awaiting f) e (λ is. is)

-- a session may leave exactly where that is what it owes
pub leave_by : (terms : Terms) (journal : List Tx) (old new : Standing) (b : Bool) → b ≡ is_leaving old.owed → new ≡ record old { owed = behind old.owed; mark = None } → Moves terms journal old item.Leave b new
leave_by terms journal old new b is e =
    subst (λ (n : Standing). Moves terms journal old item.Leave b n) (sym e)
    (subst (λ (x : Bool). Moves terms journal old item.Leave x (record old { owed = behind old.owed; mark = None })) (sym is) (leave_at terms journal old old.owed refl))

-- A tag, and a refusal.

reply_is : (left : ToShow) (t : Tag) (w : Option Warning) → owed_of left ≡ walk.Answering (walk.Replied t w) → left ≡ show.Answering (Replied t w)
reply_is (show.Answering (Replied u v)) t w e = let one : t ≡ u = cc in let two : w ≡ v = cc in ap (λ (x : Tag). show.Answering (Replied x v)) (sym one) ∙ ap (λ (x : Option Warning). show.Answering (Replied t x)) (sym two)
reply_is (show.Answering (Refused r)) t w e = absurd (let no : ⊥ = cc in no)
reply_is show.Nothing t w e = absurd (let no : ⊥ = cc in no)
reply_is (show.Enlisting a n f) t w e = absurd (let no : ⊥ = cc in no)
reply_is (show.Queueing a n f) t w e = absurd (let no : ⊥ = cc in no)
reply_is (show.Leaving f) t w e = absurd (let no : ⊥ = cc in no)
reply_is (show.Listing n f) t w e = absurd (let no : ⊥ = cc in no)
reply_is (show.Measuring f) t w e = absurd (let no : ⊥ = cc in no)
reply_is (show.Raising f) t w e = absurd (let no : ⊥ = cc in no)
reply_is (show.Awaiting f) t w e = absurd (let no : ⊥ = cc in no)
reply_is show.Quitting t w e = absurd (let no : ⊥ = cc in no)

-- who owes no answer may not reply
pub reply_never : (terms : Terms) (journal : List Tx) (old new : Standing) (t : Tag) (w : Option Warning) → ((f : Ending) → old.owed ≡ show.Answering f → ⊥) → Moves terms journal old (item.Reply t w) false new
reply_never terms journal old new t w no_one = moves_not terms journal old new (item.Reply t w) (λ s h allowed. no_one (Replied t w) (reply_is old.owed t w (sym h.owed ∙ allowed)))

-- a reply is allowed exactly where it is the one that is owed
pub reply_by : (terms : Terms) (journal : List Tx) (old : Standing) (t : Tag) (w : Option Warning) (f : Ending) (b : Bool) → old.owed ≡ show.Answering f → (b ≡ true) ↔ (f ≡ Replied t w)
    → Moves terms journal old (item.Reply t w) b (record old { owed = show.Nothing })
reply_by terms journal old t w f b e test =
    moves_by terms journal old (record old { owed = show.Nothing }) (item.Reply t w) b
    (λ s h.
    let due : s.owed ≡ walk.Answering (ending_of f) = h.owed ∙ ap owed_of e in (
      λ is. due ∙ ap (λ (x : Ending). walk.Answering (ending_of x)) (test.0 is),
      λ allowed.
          let same : show.Answering f ≡ show.Answering (Replied t w) = reply_is (show.Answering f) t w (sym due ∙ allowed) in
          let one : f ≡ Replied t w = cc in
          test.1 one,
    ))
    (λ s h. holds_owed terms.section journal old s show.Nothing walk.Nothing h refl)

-- what a test of an ending tells
pub reply_same : (f : Ending) (t u : Tag) (w v : Option Warning) (b : Bool) → f ≡ Replied u v → (b ≡ true) ↔ ((t ≡ u) × (w ≡ v)) → (b ≡ true) ↔ (f ≡ Replied t w)
reply_same f t u w v b e test = (
  λ is. e ∙ ap (λ (x : Tag). Replied x v) (sym (test.0 is).0) ∙ ap (λ (x : Option Warning). Replied t x) (sym (test.0 is).1),
  λ same.
      let both : Replied u v ≡ Replied t w = sym e ∙ same in
      let one : t ≡ u = cc in
      let two : w ≡ v = cc in
      test.1 (one, two),
)

-- a refusal that is owed is no reply
pub reply_other : (f : Ending) (t : Tag) (w : Option Warning) (r : Refusal) → f ≡ Refused r → (false ≡ true) ↔ (f ≡ Replied t w)
reply_other f t w r e = (λ no_one. absurd (false≢true no_one), λ same. absurd (let both : Refused r ≡ Replied t w = sym e ∙ same in let no : ⊥ = cc in no))

refuse_is : (left : ToShow) (r : Refusal) → owed_of left ≡ walk.Answering (walk.Refused r) → left ≡ show.Answering (Refused r)
refuse_is (show.Answering (Refused q)) r e = let one : r ≡ q = cc in ap (λ (x : Refusal). show.Answering (Refused x)) (sym one)
refuse_is (show.Answering (Replied u v)) r e = absurd (let no : ⊥ = cc in no)
refuse_is show.Nothing r e = absurd (let no : ⊥ = cc in no)
refuse_is (show.Enlisting a n f) r e = absurd (let no : ⊥ = cc in no)
refuse_is (show.Queueing a n f) r e = absurd (let no : ⊥ = cc in no)
refuse_is (show.Leaving f) r e = absurd (let no : ⊥ = cc in no)
refuse_is (show.Listing n f) r e = absurd (let no : ⊥ = cc in no)
refuse_is (show.Measuring f) r e = absurd (let no : ⊥ = cc in no)
refuse_is (show.Raising f) r e = absurd (let no : ⊥ = cc in no)
refuse_is (show.Awaiting f) r e = absurd (let no : ⊥ = cc in no)
refuse_is show.Quitting r e = absurd (let no : ⊥ = cc in no)

-- who owes no answer may not refuse
pub refuse_never : (terms : Terms) (journal : List Tx) (old new : Standing) (r : Refusal) → ((f : Ending) → old.owed ≡ show.Answering f → ⊥) → Moves terms journal old (item.Refuse r) false new
refuse_never terms journal old new r no_one = moves_not terms journal old new (item.Refuse r) (λ s h allowed. no_one (Refused r) (refuse_is old.owed r (sym h.owed ∙ allowed)))

-- a refusal is allowed exactly where it is the one that is owed
pub refuse_by : (terms : Terms) (journal : List Tx) (old : Standing) (r : Refusal) (f : Ending) (b : Bool) → old.owed ≡ show.Answering f → (b ≡ true) ↔ (f ≡ Refused r) → Moves terms journal old (item.Refuse r) b (record old { owed = show.Nothing })
refuse_by terms journal old r f b e test =
    moves_by terms journal old (record old { owed = show.Nothing }) (item.Refuse r) b
    (λ s h.
    let due : s.owed ≡ walk.Answering (ending_of f) = h.owed ∙ ap owed_of e in (
      λ is. due ∙ ap (λ (x : Ending). walk.Answering (ending_of x)) (test.0 is),
      λ allowed.
          let same : show.Answering f ≡ show.Answering (Refused r) = refuse_is (show.Answering f) r (sym due ∙ allowed) in
          let one : f ≡ Refused r = cc in
          test.1 one,
    ))
    (λ s h. holds_owed terms.section journal old s show.Nothing walk.Nothing h refl)

-- what a test of an ending tells
pub refuse_same : (f : Ending) (r q : Refusal) (b : Bool) → f ≡ Refused q → (b ≡ true) ↔ (r ≡ q) → (b ≡ true) ↔ (f ≡ Refused r)
refuse_same f r q b e test = (
  λ is. e ∙ ap (λ (x : Refusal). Refused x) (sym (test.0 is)),
  λ same.
      let both : Refused q ≡ Refused r = sym e ∙ same in
      let one : r ≡ q = cc in
      test.1 one,
)

-- a reply that is owed is no refusal
pub refuse_other : (f : Ending) (r : Refusal) (t : Tag) (w : Option Warning) → f ≡ Replied t w → (false ≡ true) ↔ (f ≡ Refused r)
refuse_other f r t w e = (λ no_one. absurd (false≢true no_one), λ same. absurd (let both : Replied t w ≡ Refused r = sym e ∙ same in let no : ⊥ = cc in no))

-- Rows.

not_listing : (left : ToShow) (names : List (List ℕ)) → ((ns : List (List ℕ)) (f : Ending) → left ≡ show.Listing ns f → ⊥) → IsListing names (owed_of left) → ⊥
not_listing (show.Listing n f) names no_one is = no_one n f refl
not_listing show.Nothing names no_one is = is
not_listing (show.Enlisting a n f) names no_one is = is
not_listing (show.Queueing a n f) names no_one is = is
not_listing (show.Leaving f) names no_one is = is
not_listing (show.Answering f) names no_one is = is
not_listing (show.Measuring f) names no_one is = is
not_listing (show.Raising f) names no_one is = is
not_listing (show.Awaiting f) names no_one is = is
not_listing show.Quitting names no_one is = is

-- who owes no channels may not show them
pub rows_never : (terms : Terms) (journal : List Tx) (old new : Standing) (names : List (List ℕ)) → ((ns : List (List ℕ)) (f : Ending) → old.owed ≡ show.Listing ns f → ⊥) → Moves terms journal old (item.Channels names) false new
rows_never terms journal old new names no_one = moves_not terms journal old new (item.Channels names) (λ s h allowed. not_listing old.owed names no_one (subst (IsListing names) h.owed allowed))

-- behind what is owed, where that is this
gone : (old new : Standing) (left : ToShow) → old.owed ≡ left → new ≡ record old { owed = behind old.owed } → new ≡ record old { owed = behind left }
gone old new left e is = is ∙ ap (λ (due : ToShow). let at : Standing = record old { owed = behind due } in at) e

rows_at : (terms : Terms) (journal : List Tx) (old : Standing) (names due : List (List ℕ)) (ending : Ending) (b : Bool) → old.owed ≡ show.Listing due ending → (b ≡ true) ↔ (names ≡ due)
    → Moves terms journal old (item.Channels names) b (record old { owed = show.Answering ending })
rows_at terms journal old names due ending b e f =
    moves_by terms journal old (record old { owed = show.Answering ending }) (item.Channels names) b
    (λ s h.
    let owed : s.owed ≡ walk.Listing due (ending_of ending) = h.owed ∙ ap owed_of e in
    (λ t. subst (IsListing names) (sym owed) (f.0 t), λ allowed. f.1 (subst (IsListing names) owed allowed)))
    (λ s h. subst (λ (owed : Owed). Holds terms.section journal (record old { owed = show.Answering ending }) (walk.at_rows s owed)) (sym (h.owed ∙ ap owed_of e))
    (holds_owed terms.section journal old s (show.Answering ending) (walk.Answering (ending_of ending)) h refl))

-- channels are allowed exactly where they are those that are owed
pub rows_by : (terms : Terms) (journal : List Tx) (old new : Standing) (names due : List (List ℕ)) (ending : Ending) (b : Bool) → old.owed ≡ show.Listing due ending → (b ≡ true) ↔ (names ≡ due)
    → new ≡ record old { owed = behind old.owed } → Moves terms journal old (item.Channels names) b new
rows_by terms journal old new names due ending b e f is =
    subst (λ (n : Standing). Moves terms journal old (item.Channels names) b n) (sym (gone old new (show.Listing due ending) e is)) (rows_at terms journal old names due ending b e f)

-- A usage.

not_measuring : (left : ToShow) → ((f : Ending) → left ≡ show.Measuring f → ⊥) → IsMeasuring (owed_of left) → ⊥
not_measuring (show.Measuring f) no_one is = no_one f refl
not_measuring show.Nothing no_one is = is
not_measuring (show.Enlisting a n f) no_one is = is
not_measuring (show.Queueing a n f) no_one is = is
not_measuring (show.Leaving f) no_one is = is
not_measuring (show.Answering f) no_one is = is
not_measuring (show.Listing n f) no_one is = is
not_measuring (show.Raising f) no_one is = is
not_measuring (show.Awaiting f) no_one is = is
not_measuring show.Quitting no_one is = is

-- who owes no usage may not show it
pub measure_never : (terms : Terms) (journal : List Tx) (old new : Standing) (usage : Usage) → ((f : Ending) → old.owed ≡ show.Measuring f → ⊥) → Moves terms journal old (item.Used usage) false new
measure_never terms journal old new usage no_one = moves_not terms journal old new (item.Used usage) (λ s h allowed. not_measuring old.owed no_one (subst IsMeasuring h.owed allowed.expected))

-- nor one at a number before what the session was told of
pub measure_early : (terms : Terms) (journal : List Tx) (old new : Standing) (usage : Usage) (b : Bool) → (b ≡ true) ↔ IsBehind old usage.at → b ≡ false → Moves terms journal old (item.Used usage) false new
measure_early terms journal old new usage b test is = moves_not terms journal old new (item.Used usage) (λ s h allowed.
    false≢true (sym is ∙ test.1 (omega (arith, h.told, allowed.after_told), subst (λ (m : Option ℕ). IfSome m (λ mark. mark ≤ usage.at)) h.mark allowed.after_mark)))

-- nor one that the journal does not bear out
pub measure_other : (terms : Terms) (journal : List Tx) (old new : Standing) (usage : Usage) (b : Bool) → (b ≡ true) ↔ ShowsUsage terms.settings.format terms.settings.limit journal usage → b ≡ false → Moves terms journal old (item.Used usage) false new
measure_other terms journal old new usage b test is = moves_not terms journal old new (item.Used usage) (λ s h allowed. false≢true (sym is ∙ test.1 allowed.shown))

-- nor one with a floor that is none for the session
pub measure_floor : (terms : Terms) (journal : List Tx) (old new : Standing) (usage : Usage) (b : Bool) → (b ≡ true) ↔ IsFloorFor terms.section.no old.mark usage.floor_mark usage.holder → b ≡ false → Moves terms journal old (item.Used usage) false new
measure_floor terms journal old new usage b test is = moves_not terms journal old new (item.Used usage) (λ s h allowed.
    false≢true (sym is ∙ test.1 (subst (λ (m : Option ℕ). IsFloorFor terms.section.no m usage.floor_mark usage.holder) h.mark allowed.floor)))

-- a usage that is owed and passes these tests is allowed
pub measure_on : (terms : Terms) (journal : List Tx) (old new : Standing) (usage : Usage) (b d f : Bool) (ending : Ending) → (b ≡ true) ↔ IsBehind old usage.at → b ≡ true
    → (d ≡ true) ↔ ShowsUsage terms.settings.format terms.settings.limit journal usage → d ≡ true → (f ≡ true) ↔ IsFloorFor terms.section.no old.mark usage.floor_mark usage.holder → f ≡ true
    → old.owed ≡ show.Measuring ending → new ≡ record old { owed = behind old.owed } → Moves terms journal old (item.Used usage) true new
measure_on terms journal old new usage b d f ending test is shown found floor held e left =
    let t = test.0 is in
    subst (λ (n : Standing). Moves terms journal old (item.Used usage) true n) (sym (gone old new (show.Measuring ending) e left))
    (moves_on terms journal old (record old { owed = show.Answering ending }) (item.Used usage)
    (λ s h. record {
      expected = subst IsMeasuring (sym (h.owed ∙ ap owed_of e)) tt;
      after_told = omega (arith, h.told, t.0);
      after_mark = subst (λ (m : Option ℕ). IfSome m (λ mark. mark ≤ usage.at)) (sym h.mark) t.1;
      shown = shown.0 found;
      floor = subst (λ (m : Option ℕ). IsFloorFor terms.section.no m usage.floor_mark usage.holder) (sym h.mark) (floor.0 held);
    })
    (λ s h.
    let named : State = record s { named = s.named ++ walk.holder_at usage.holder usage.floor_mark } in
    let stands : Holds terms.section journal old named = record {
      rest = h.rest;
      owed = h.owed;
      block = h.block;
      changes = h.changes;
      set = h.set;
      mark = h.mark;
      told = h.told;
      marks = h.marks;
      flags = h.flags;
      watch = h.watch;
    } in
    subst (λ (owed : Owed). Holds terms.section journal (record old { owed = show.Answering ending }) (walk.at_rows named owed)) (sym (h.owed ∙ ap owed_of e))
    (holds_owed terms.section journal old named (show.Answering ending) (walk.Answering (ending_of ending)) stands refl)))
