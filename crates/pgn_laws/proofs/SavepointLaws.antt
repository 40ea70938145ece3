-- What survives savepoints, first occurrences, and both together.
use Rattle.std.proofs.Common.{◌≡◌, ℕ, Bool, true, false, cond, not, ◌||◌, List, [], ◌∷◌, ◌++◌, bytes_eq, filter, filter_map, Contains, inl, inr, refl, sym, ap, subst, ◌∙◌, append_assoc, append-nil}
use Rattle.std.specs.List.{list_any}
use Rattle.std.proofs.lemmas.List.Folds.{list_any-append, list_any_at}
use Rattle.std.proofs.lemmas.Map.Views.{Contains-from_any}
use Rattle.pgn_base.specs.Names.{has_name}
use Rattle.pgn_base.specs.declared.note.Note.{Note}
use Rattle.pgn_answers.specs.Savepoints.{Change, Saved, Acted, Noted, RolledBack, Released, is_savepoint, is_savepoint_of, has_savepoint, rolled_back, released, survivors, survivors_from, live_names, saved_name, same_note, firsts, firsts_after, has_note, once_after, once, live_changes}
use Rattle.pgn_answers.specs.laws.Savepoints.{IsSublist}
use Rattle.pgn_answers.proofs.SavepointLemmas.{survives-rolled_back, survives-released, survives-saved, survives-acted, survives-noted, rolled_back-none, released-none, rolled_back-cuts, release-keeps, live-is_saved, same_note-same, same_note-true, seen-too, absorbed, grouped, firsts_after-have, firsts-differ, at_end, rolled_back-keeps, released-keeps, live-has_actions, live-has_firsts, live-push, live-after_change, live-saved, live-acted, live-rolled_back, live-released, live-has_savepoint}

-- the mark that is cut back to stays
pub has_savepoint-cut : (name : List ℕ) (changes : List Change) → has_savepoint name (rolled_back name changes) ≡ has_savepoint name changes
has_savepoint-cut name [] = refl
has_savepoint-cut name (change ∷ changes) = cut (has_savepoint name changes) (is_savepoint_of name change) refl refl (has_savepoint-cut name changes)
  where
    cut : (later here : Bool) → has_savepoint name changes ≡ later → is_savepoint_of name change ≡ here → has_savepoint name (rolled_back name changes) ≡ has_savepoint name changes
        → has_savepoint name (cond later (change ∷ rolled_back name changes) (cond here (change ∷ []) (change ∷ changes))) ≡ (is_savepoint_of name change || has_savepoint name changes)
    cut true here l h ih = ap (λ (b : Bool). is_savepoint_of name change || b) ih
    cut false true l h ih = ap (λ (b : Bool). is_savepoint_of name change || b) (sym l)
    cut false false l h ih = refl

pub rolled_back-keeps_mark : (changes : List Change) (name : List ℕ) → has_name (live_names (changes ++ RolledBack name ∷ [])) name ≡ has_name (live_names changes) name
rolled_back-keeps_mark changes name =
    live-is_saved (changes ++ RolledBack name ∷ []) name ∙ ap (has_savepoint name) (survives-rolled_back changes name) ∙ has_savepoint-cut name (survivors changes) ∙ sym (live-is_saved changes name)

pub rolled_back-of_none : (changes : List Change) (name : List ℕ) → has_name (live_names changes) name ≡ false → survivors (changes ++ RolledBack name ∷ []) ≡ survivors changes
rolled_back-of_none changes name e = survives-rolled_back changes name ∙ rolled_back-none name (survivors changes) (sym (live-is_saved changes name) ∙ e)

pub released-of_none : (changes : List Change) (name : List ℕ) → has_name (live_names changes) name ≡ false → survivors (changes ++ Released name ∷ []) ≡ survivors changes
released-of_none changes name e = survives-released changes name ∙ released-none name (survivors changes) (sym (live-is_saved changes name) ∙ e)

-- a list with items left out, before a longer list
sublist-skip : (xs ys : List Note) (y : Note) → IsSublist xs ys → IsSublist xs (y ∷ ys)
sublist-skip [] ys y h = tt
sublist-skip (x ∷ xs) ys y h = inr h

firsts_after-order : (seen notes : List Note) → IsSublist (firsts_after seen notes) notes
firsts_after-order seen [] = tt
firsts_after-order seen (note ∷ notes) = elim (list_any (same_note note) seen) as (λ b. IsSublist (cond b (firsts_after seen notes) (note ∷ firsts_after (seen ++ note ∷ []) notes)) (note ∷ notes)) [
  | true ↦ sublist-skip (firsts_after seen notes) notes note (firsts_after-order seen notes)
  | false ↦ inl (refl, firsts_after-order (seen ++ note ∷ []) notes)
]

pub firsts-in_order : (notes : List Note) → IsSublist (firsts notes) notes
firsts-in_order notes = firsts_after-order [] notes

pub firsts-have_all : (notes : List Note) (note : Note) → Contains notes note → Contains (firsts notes) note
firsts-have_all notes note h =
    Contains-from_any same_note-true note (firsts notes) (firsts_after-have note [] notes ∙ any-from_Contains notes note h)
  where
    any-from_Contains : (xs : List Note) (x : Note) → Contains xs x → list_any (same_note x) xs ≡ true
    any-from_Contains xs x (k, within, at) = list_any_at (same_note x) xs k x within (ap (same_note x) at ∙ same_note-same x)

-- one more notification
firsts_after-push : (note : Note) (seen notes : List Note)
    → firsts_after seen (notes ++ note ∷ []) ≡ firsts_after seen notes ++ cond (list_any (same_note note) seen || list_any (same_note note) notes) [] (note ∷ [])
firsts_after-push note seen [] = last (list_any (same_note note) seen)
  where
    last : (b : Bool) → cond b (firsts_after seen []) (note ∷ []) ≡ cond (b || false) [] (note ∷ [])
    last true = refl
    last false = refl
firsts_after-push note seen (other ∷ notes) =
    let has : Bool = list_any (same_note note) seen in
    let same : Bool = same_note note other in
    let later : Bool = list_any (same_note note) notes in
    let more : List Note = seen ++ other ∷ [] in
    (elim (list_any (same_note other) seen) as (λ b. list_any (same_note other) seen ≡ b
    → cond b (firsts_after seen (notes ++ note ∷ [])) (other ∷ firsts_after more (notes ++ note ∷ [])) ≡ cond b (firsts_after seen notes) (other ∷ firsts_after more notes) ++ cond (has || (same || later)) [] (note ∷ [])) [
      | true ↦ λ e. firsts_after-push note seen notes ∙ ap (λ (b : Bool). firsts_after seen notes ++ cond b [] (note ∷ [])) (absorbed has same later (λ h. seen-too note other seen e h))
      | false ↦ λ e. ap (λ (ns : List Note). other ∷ ns) (firsts_after-push note more notes
          ∙ ap (λ (b : Bool). firsts_after more notes ++ cond (b || later) [] (note ∷ [])) (list_any-append (same_note note) seen (other ∷ []))
          ∙ ap (λ (b : Bool). firsts_after more notes ++ cond b [] (note ∷ [])) (grouped has same later))
    ]) refl

pub firsts-push : (notes : List Note) (note : Note) → firsts (notes ++ note ∷ []) ≡ cond (list_any (same_note note) notes) (firsts notes) (firsts notes ++ note ∷ [])
firsts-push notes note = firsts_after-push note [] notes ∙ at_end (list_any (same_note note) notes) (firsts notes) note

firsts_after-twice : (seen notes : List Note) → firsts_after seen (firsts_after seen notes) ≡ firsts_after seen notes
firsts_after-twice seen [] = refl
firsts_after-twice seen (note ∷ notes) =
    let rest : List Note = firsts_after (seen ++ note ∷ []) notes in
    (elim (list_any (same_note note) seen) as (λ b. list_any (same_note note) seen ≡ b → firsts_after seen (cond b (firsts_after seen notes) (note ∷ rest)) ≡ cond b (firsts_after seen notes) (note ∷ rest)) [
      | true ↦ λ e. firsts_after-twice seen notes
      | false ↦ λ e. rw e (ap (λ (ns : List Note). note ∷ ns) (firsts_after-twice (seen ++ note ∷ []) notes))
    ]) refl

pub firsts-twice : (notes : List Note) → firsts (firsts notes) ≡ firsts notes
firsts-twice notes = firsts_after-twice [] notes

-- the names stay
names-once : (seen : List Note) (changes : List Change) → filter_map saved_name (once_after seen changes) ≡ filter_map saved_name changes
names-once seen [] = refl
names-once seen (Noted note ∷ changes) = elim (list_any (same_note note) seen) as (λ b. filter_map saved_name (cond b (once_after seen changes) (Noted note ∷ once_after (seen ++ note ∷ []) changes)) ≡ filter_map saved_name changes) [
  | true ↦ names-once seen changes
  | false ↦ names-once (seen ++ note ∷ []) changes
]
names-once seen (Saved name ∷ changes) = ap (λ (names : List (List ℕ)). name ∷ names) (names-once seen changes)
names-once seen (Acted action ∷ changes) = names-once seen changes
names-once seen (RolledBack other ∷ changes) = names-once seen changes
names-once seen (Released other ∷ changes) = names-once seen changes

pub live-has_names : (changes : List Change) → filter_map saved_name (live_changes changes) ≡ live_names changes
live-has_names changes = names-once [] (survivors changes)

pub live-new : (changes : List Change) (note : Note) → has_note note (live_changes changes) ≡ false → live_changes (changes ++ Noted note ∷ []) ≡ live_changes changes ++ Noted note ∷ []
live-new changes note e = live-push changes (Noted note) ∙ ap (λ (b : Bool). cond b (live_changes changes) (live_changes changes ++ Noted note ∷ [])) e

pub live-repeated : (changes : List Change) (note : Note) → has_note note (live_changes changes) ≡ true → live_changes (changes ++ Noted note ∷ []) ≡ live_changes changes
live-repeated changes note e = live-push changes (Noted note) ∙ ap (λ (b : Bool). cond b (live_changes changes) (live_changes changes ++ Noted note ∷ [])) e

-- there is no ROLLBACK TO and no RELEASE in a list
IsSettled : List Change → Type 0
IsSettled [] = Unit {0}
IsSettled (RolledBack name ∷ changes) = ⊥
IsSettled (Released name ∷ changes) = ⊥
IsSettled (change ∷ changes) = IsSettled changes

settled-cut : (name : List ℕ) (changes : List Change) → IsSettled changes → IsSettled (rolled_back name changes)
unfolding IsSettled
settled-cut name [] h = tt
settled-cut name (Noted note ∷ changes) h = subst IsSettled (sym (rolled_back-keeps name (Noted note) changes refl)) (settled-cut name changes h)
settled-cut name (Acted action ∷ changes) h = subst IsSettled (sym (rolled_back-keeps name (Acted action) changes refl)) (settled-cut name changes h)
settled-cut name (Saved other ∷ changes) h =
    let mark : Change = Saved other in
    elim (has_savepoint name changes) as (λ b. IsSettled (cond b (mark ∷ rolled_back name changes) (cond (bytes_eq name other) (mark ∷ []) (mark ∷ changes)))) [
      | true ↦ settled-cut name changes h
      | false ↦ elim (bytes_eq name other) as (λ b. IsSettled (cond b (mark ∷ []) (mark ∷ changes))) [ true ↦ tt | false ↦ h ]
    ]
settled-cut name (RolledBack other ∷ changes) h = absurd h
settled-cut name (Released other ∷ changes) h = absurd h

settled-unmarked : (changes : List Change) → IsSettled changes → IsSettled (filter (λ change. not (is_savepoint change)) changes)
unfolding IsSettled
settled-unmarked [] h = tt
settled-unmarked (Noted note ∷ changes) h = settled-unmarked changes h
settled-unmarked (Acted action ∷ changes) h = settled-unmarked changes h
settled-unmarked (Saved other ∷ changes) h = settled-unmarked changes h
settled-unmarked (RolledBack other ∷ changes) h = absurd h
settled-unmarked (Released other ∷ changes) h = absurd h

settled-released : (name : List ℕ) (changes : List Change) → IsSettled changes → IsSettled (released name changes)
unfolding IsSettled
settled-released name [] h = tt
settled-released name (Noted note ∷ changes) h = subst IsSettled (sym (released-keeps name (Noted note) changes refl)) (settled-released name changes h)
settled-released name (Acted action ∷ changes) h = subst IsSettled (sym (released-keeps name (Acted action) changes refl)) (settled-released name changes h)
settled-released name (Saved other ∷ changes) h =
    let mark : Change = Saved other in
    elim (has_savepoint name changes) as (λ b. IsSettled (cond b (mark ∷ released name changes) (cond (bytes_eq name other) (filter (λ change. not (is_savepoint change)) changes) (mark ∷ changes)))) [
      | true ↦ settled-released name changes h
      | false ↦ elim (bytes_eq name other) as (λ b. IsSettled (cond b (filter (λ change. not (is_savepoint change)) changes) (mark ∷ changes))) [ true ↦ settled-unmarked changes h | false ↦ h ]
    ]
settled-released name (RolledBack other ∷ changes) h = absurd h
settled-released name (Released other ∷ changes) h = absurd h

settled-append : (xs ys : List Change) → IsSettled xs → IsSettled ys → IsSettled (xs ++ ys)
unfolding IsSettled
settled-append [] ys h k = k
settled-append (Noted note ∷ xs) ys h k = settled-append xs ys h k
settled-append (Acted action ∷ xs) ys h k = settled-append xs ys h k
settled-append (Saved other ∷ xs) ys h k = settled-append xs ys h k
settled-append (RolledBack other ∷ xs) ys h k = absurd h
settled-append (Released other ∷ xs) ys h k = absurd h

-- what survives is settled
settled-survivors : (kept changes : List Change) → IsSettled kept → IsSettled (survivors_from kept changes)
unfolding IsSettled
settled-survivors kept [] h = h
settled-survivors kept (RolledBack name ∷ changes) h = settled-survivors (rolled_back name kept) changes (settled-cut name kept h)
settled-survivors kept (Released name ∷ changes) h = settled-survivors (released name kept) changes (settled-released name kept h)
settled-survivors kept (Saved name ∷ changes) h = settled-survivors (kept ++ Saved name ∷ []) changes (settled-append kept (Saved name ∷ []) h tt)
settled-survivors kept (Acted action ∷ changes) h = settled-survivors (kept ++ Acted action ∷ []) changes (settled-append kept (Acted action ∷ []) h tt)
settled-survivors kept (Noted note ∷ changes) h = settled-survivors (kept ++ Noted note ∷ []) changes (settled-append kept (Noted note ∷ []) h tt)

settled-once : (seen : List Note) (changes : List Change) → IsSettled changes → IsSettled (once_after seen changes)
unfolding IsSettled
settled-once seen [] h = tt
settled-once seen (Noted note ∷ changes) h = elim (list_any (same_note note) seen) as (λ b. IsSettled (cond b (once_after seen changes) (Noted note ∷ once_after (seen ++ note ∷ []) changes))) [
  | true ↦ settled-once seen changes h
  | false ↦ settled-once (seen ++ note ∷ []) changes h
]
settled-once seen (Acted action ∷ changes) h = settled-once seen changes h
settled-once seen (Saved other ∷ changes) h = settled-once seen changes h
settled-once seen (RolledBack other ∷ changes) h = absurd h
settled-once seen (Released other ∷ changes) h = absurd h

-- a settled list survives whole
survivors_from-settled : (kept changes : List Change) → IsSettled changes → survivors_from kept changes ≡ kept ++ changes
unfolding IsSettled
survivors_from-settled kept [] h = sym (append-nil kept)
survivors_from-settled kept (Noted note ∷ changes) h = survivors_from-settled (kept ++ Noted note ∷ []) changes h ∙ append_assoc kept (Noted note ∷ []) changes
survivors_from-settled kept (Acted action ∷ changes) h = survivors_from-settled (kept ++ Acted action ∷ []) changes h ∙ append_assoc kept (Acted action ∷ []) changes
survivors_from-settled kept (Saved name ∷ changes) h = survivors_from-settled (kept ++ Saved name ∷ []) changes h ∙ append_assoc kept (Saved name ∷ []) changes
survivors_from-settled kept (RolledBack name ∷ changes) h = absurd h
survivors_from-settled kept (Released name ∷ changes) h = absurd h

-- a list without repeats has none to drop
once-twice : (seen : List Note) (changes : List Change) → once_after seen (once_after seen changes) ≡ once_after seen changes
once-twice seen [] = refl
once-twice seen (Noted note ∷ changes) =
    let rest : List Change = once_after (seen ++ note ∷ []) changes in
    (elim (list_any (same_note note) seen) as (λ b. list_any (same_note note) seen ≡ b → once_after seen (cond b (once_after seen changes) (Noted note ∷ rest)) ≡ cond b (once_after seen changes) (Noted note ∷ rest)) [
      | true ↦ λ e. once-twice seen changes
      | false ↦ λ e. rw e (ap (λ (cs : List Change). Noted note ∷ cs) (once-twice (seen ++ note ∷ []) changes))
    ]) refl
once-twice seen (Saved other ∷ changes) = ap (λ (cs : List Change). Saved other ∷ cs) (once-twice seen changes)
once-twice seen (Acted action ∷ changes) = ap (λ (cs : List Change). Acted action ∷ cs) (once-twice seen changes)
once-twice seen (RolledBack other ∷ changes) = ap (λ (cs : List Change). RolledBack other ∷ cs) (once-twice seen changes)
once-twice seen (Released other ∷ changes) = ap (λ (cs : List Change). Released other ∷ cs) (once-twice seen changes)

pub live-twice : (changes : List Change) → live_changes (live_changes changes) ≡ live_changes changes
unfolding IsSettled
live-twice changes =
    ap once (survivors_from-settled [] (live_changes changes) (settled-once [] (survivors changes) (settled-survivors [] changes tt))) ∙ once-twice [] (survivors changes)

-- the laws of savepoints, rollbacks and releases
pub ruleset savepoint_laws = (survives-rolled_back, survives-released, survives-saved, survives-acted, survives-noted, rolled_back-cuts, release-keeps, live-is_saved, live-has_savepoint, rolled_back-keeps_mark, rolled_back-of_none, released-of_none)

-- the laws of the first notifications of each kind
pub ruleset firsts_laws = (firsts-in_order, firsts-differ, firsts-have_all, firsts-push, firsts-twice)

-- the laws of what is left of a list, one change after another
pub ruleset live_laws = (live-after_change, live-saved, live-acted, live-new, live-repeated, live-rolled_back, live-released, live-twice, live-has_names, live-has_actions, live-has_firsts)
