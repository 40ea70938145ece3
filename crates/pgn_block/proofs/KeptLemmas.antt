-- What is kept of a live list, and what one more change makes of it.
use Rattle.std.proofs.Common.{◌≡◌, ℕ, ◌+◌, zero, suc, Bool, true, false, cond, not, ◌||◌, List, [], ◌∷◌, ◌++◌, Some, bytes_eq, filter, filter_map, length, take, drop, get_or, slice_get, ◌<◌, All, refl, sym, ap, subst, ◌∙◌, arith, append-nil, length-drop}
use Rattle.std.specs.List.{list_any}
use Rattle.std.proofs.lemmas.Slice.Eq.{bytes_eq-Decides}
use Rattle.std.proofs.lemmas.List.{get_or-drop}
use Rattle.std.proofs.lemmas.List.Elements.{filter_map-append, All-from_get_or}
use Rattle.std.proofs.lemmas.List.Folds.{list_any_none, list_any_at}
use Rattle.std.proofs.lemmas.Option.{slice_get-get_or, slice_get_read}
use Rattle.std.proofs.Math.Seq.{take-append_seam, take-append-add, drop-append-add}
use Rattle.pgn_base.specs.Names.{has_name}
use Rattle.pgn_base.specs.declared.note.Note.{Note}
use Rattle.pgn_base.specs.declared.action.Action.{Action}
use Rattle.pgn_answers.specs.Savepoints.{Change, Saved, Acted, Noted, RolledBack, Released, is_savepoint, has_savepoint, rolled_back, released, live_names, acted_action, noted_note, surviving_actions, surviving_notes, same_note, firsts, has_note, live_changes}
use Rattle.pgn_answers.proofs.SavepointLemmas.{rolled_back-cuts, release-keeps, rolled_back-none, released-none, live-has_savepoint, live-saved, live-acted, live-after_change, live-rolled_back, live-released, live-has_actions, live-has_firsts}
use Rattle.pgn_block.specs.declared.savepoint.Savepoint.{Savepoint}
use Rattle.pgn_block.specs.Kept.{Kept, kept, savepoints_after, kept_of, StandsFor, is_named, is_saved}

-- the savepoints of one list and then another
savepoints-append : (n a : ℕ) (xs ys : List Change)
    → savepoints_after n a (xs ++ ys) ≡ savepoints_after n a xs ++ savepoints_after (n + length (filter_map noted_note xs)) (a + length (filter_map acted_action xs)) ys
savepoints-append n a [] ys =
    let here : n ≡ n + 0 = omega arith in
    let there : a ≡ a + 0 = omega arith in
    ap (λ (k : ℕ). savepoints_after k a ys) here ∙ ap (λ (k : ℕ). savepoints_after (n + 0) k ys) there
savepoints-append n a (Noted note ∷ xs) ys =
    let count : ℕ = length (filter_map noted_note xs) in
    let others : ℕ = length (filter_map acted_action xs) in
    let next : (n + 1) + count ≡ n + suc count = omega arith in
    savepoints-append (n + 1) a xs ys ∙ ap (λ (k : ℕ). savepoints_after (n + 1) a xs ++ savepoints_after k (a + others) ys) next
savepoints-append n a (Acted action ∷ xs) ys =
    let count : ℕ = length (filter_map noted_note xs) in
    let others : ℕ = length (filter_map acted_action xs) in
    let next : (a + 1) + others ≡ a + suc others = omega arith in
    savepoints-append n (a + 1) xs ys ∙ ap (λ (k : ℕ). savepoints_after n (a + 1) xs ++ savepoints_after (n + count) k ys) next
savepoints-append n a (Saved name ∷ xs) ys = ap (λ (savepoints : List Savepoint). (record { name = name; notes = n; actions = a }) ∷ savepoints) (savepoints-append n a xs ys)
savepoints-append n a (RolledBack name ∷ xs) ys = savepoints-append n a xs ys
savepoints-append n a (Released name ∷ xs) ys = savepoints-append n a xs ys

-- where no savepoint has the name, none of them all has
pub none-saved : (name : List ℕ) (savepoints : List Savepoint) → All (λ (savepoint : Savepoint). is_named name savepoint ≡ false) savepoints → is_saved name savepoints ≡ false
none-saved name savepoints none = list_any_none (is_named name) savepoints none

-- the last savepoint of this name stands at this place
pub record IsNewest (name : List ℕ) (savepoints : List Savepoint) (at : ℕ) : Type 0 where
  pub within : at < length savepoints
  pub named : (other : Savepoint) → is_named name (get_or savepoints at other) ≡ true
  pub newest : (k : ℕ) (other : Savepoint) → at < k → k < length savepoints → is_named name (get_or savepoints k other) ≡ false

-- then some savepoint has the name
pub newest-saved : (name : List ℕ) (savepoints : List Savepoint) (at : ℕ) → IsNewest name savepoints at → is_saved name savepoints ≡ true
newest-saved name savepoints at found =
    let other : Savepoint = record { name = []; notes = 0; actions = 0 } in
    list_any_at (is_named name) savepoints at other found.within (found.named other)

-- and none of the later ones
newest-last : (name : List ℕ) (savepoints : List Savepoint) (at : ℕ) → IsNewest name savepoints at → is_saved name (drop (at + 1) savepoints) ≡ false
newest-last name savepoints at found =
    let other : Savepoint = record { name = []; notes = 0; actions = 0 } in
    let Unnamed : Savepoint → Type 0 = λ (savepoint : Savepoint). is_named name savepoint ≡ false in
    let within : at < length savepoints = found.within in
    list_any_none (is_named name) (drop (at + 1) savepoints)
    (All-from_get_or Unnamed (drop (at + 1) savepoints) other (λ k inside. subst Unnamed (sym (get_or-drop (at + 1) savepoints k other))
    (found.newest (at + 1 + k) other (omega arith) (omega (arith, length-drop (at + 1) savepoints)))))

-- a refusal that comes exactly where a test fails, where the test fails
pub refused : (test : Bool) → test ≡ false → (true ≡ true → test ≡ false) × (test ≡ false → true ≡ true)
refused test e = (λ h. e, λ h. refl)

-- and where it passes
pub granted : (test : Bool) → test ≡ true → (false ≡ true → test ≡ false) × (test ≡ false → false ≡ true)
granted test e = (λ h. e ∙ sym h, λ h. sym h ∙ e)

-- three equal lists are kept alike
kept-same : (fewer more : List Action) (xs ys : List Note) (ms ns : List Savepoint) → fewer ≡ more → xs ≡ ys → ms ≡ ns → kept fewer xs ms ≡ kept more ys ns
kept-same fewer more xs ys ms ns a x m = ap (λ (l : List Action). kept l xs ms) a ∙ ap (λ (l : List Note). kept more l ms) x ∙ ap (λ (l : List Savepoint). kept more ys l) m

-- what is kept of a list with a savepoint in it
kept-middle : (name : List ℕ) (before after : List Change)
    → kept_of (before ++ Saved name ∷ after)
    ≡ kept (filter_map acted_action before ++ filter_map acted_action after) (filter_map noted_note before ++ filter_map noted_note after)
    (savepoints_after 0 0 before ++ (record { name = name; notes = 0 + length (filter_map noted_note before); actions = 0 + length (filter_map acted_action before) })
    ∷ savepoints_after (0 + length (filter_map noted_note before)) (0 + length (filter_map acted_action before)) after)
kept-middle name before after =
    kept-same _ _ _ _ _ _ (filter_map-append acted_action before (Saved name ∷ after)) (filter_map-append noted_note before (Saved name ∷ after)) (savepoints-append 0 0 before (Saved name ∷ after))

-- a savepoint of a list stands somewhere in it, with so many notifications and actions before it
record Stands (n a : ℕ) (changes : List Change) (at : ℕ) (savepoint : Savepoint) : Type 0 where
  before : List Change
  after : List Change
  whole : changes ≡ before ++ Saved savepoint.name ∷ after
  place : at ≡ length (savepoints_after n a before)
  notes : savepoint.notes ≡ n + length (filter_map noted_note before)
  actions : savepoint.actions ≡ a + length (filter_map acted_action before)

stands : (n a : ℕ) (changes : List Change) (at : ℕ) (savepoint : Savepoint) → slice_get (savepoints_after n a changes) at ≡ Some savepoint → Stands n a changes at savepoint
stands n a [] at savepoint e = absurd (let no : ⊥ = cc in no)
stands n a (Noted note ∷ changes) at savepoint e =
    let s : Stands (n + 1) a changes at savepoint = stands (n + 1) a changes at savepoint e in
    record { before = Noted note ∷ s.before; after = s.after; whole = ap (λ (cs : List Change). Noted note ∷ cs) s.whole; place = s.place; notes = omega (arith, s.notes); actions = s.actions }
stands n a (Acted action ∷ changes) at savepoint e =
    let s : Stands n (a + 1) changes at savepoint = stands n (a + 1) changes at savepoint e in
    record { before = Acted action ∷ s.before; after = s.after; whole = ap (λ (cs : List Change). Acted action ∷ cs) s.whole; place = s.place; notes = s.notes; actions = omega (arith, s.actions) }
stands n a (RolledBack name ∷ changes) at savepoint e =
    let s : Stands n a changes at savepoint = stands n a changes at savepoint e in
    record { before = RolledBack name ∷ s.before; after = s.after; whole = ap (λ (cs : List Change). RolledBack name ∷ cs) s.whole; place = s.place; notes = s.notes; actions = s.actions }
stands n a (Released name ∷ changes) at savepoint e =
    let s : Stands n a changes at savepoint = stands n a changes at savepoint e in
    record { before = Released name ∷ s.before; after = s.after; whole = ap (λ (cs : List Change). Released name ∷ cs) s.whole; place = s.place; notes = s.notes; actions = s.actions }
stands n a (Saved name ∷ changes) zero savepoint e =
    let first : Savepoint = record { name = name; notes = n; actions = a } in
    let same : first ≡ savepoint = cc in
    record {
      before = [];
      after = changes;
      whole = ap (λ (m : Savepoint). Saved m.name ∷ changes) same;
      place = refl;
      notes = sym (ap (λ (m : Savepoint). m.notes) same) ∙ (omega arith);
      actions = sym (ap (λ (m : Savepoint). m.actions) same) ∙ (omega arith);
    }
stands n a (Saved name ∷ changes) (suc at) savepoint e =
    let s : Stands n a changes at savepoint = stands n a changes at savepoint e in
    record { before = Saved name ∷ s.before; after = s.after; whole = ap (λ (cs : List Change). Saved name ∷ cs) s.whole; place = omega (arith, s.place); notes = s.notes; actions = s.actions }

-- some savepoint of a list has the name where a savepoint of it has
saved-has_savepoint : (name : List ℕ) (n a : ℕ) (changes : List Change) → is_saved name (savepoints_after n a changes) ≡ has_savepoint name changes
saved-has_savepoint name n a [] = refl
saved-has_savepoint name n a (Saved other ∷ changes) = ap (λ (b : Bool). bytes_eq name other || b) (saved-has_savepoint name n a changes)
saved-has_savepoint name n a (Acted action ∷ changes) = saved-has_savepoint name n (a + 1) changes
saved-has_savepoint name n a (Noted note ∷ changes) = saved-has_savepoint name (n + 1) a changes
saved-has_savepoint name n a (RolledBack other ∷ changes) = saved-has_savepoint name n a changes
saved-has_savepoint name n a (Released other ∷ changes) = saved-has_savepoint name n a changes

-- a notification stands in a list where it is one of its notifications
noted-has_note : (note : Note) (changes : List Change) → has_note note changes ≡ list_any (same_note note) (filter_map noted_note changes)
noted-has_note note [] = refl
noted-has_note note (Noted other ∷ changes) = ap (λ (b : Bool). same_note note other || b) (noted-has_note note changes)
noted-has_note note (Saved other ∷ changes) = noted-has_note note changes
noted-has_note note (Acted action ∷ changes) = noted-has_note note changes
noted-has_note note (RolledBack other ∷ changes) = noted-has_note note changes
noted-has_note note (Released other ∷ changes) = noted-has_note note changes

-- without its savepoints a list has the same notifications
notes-unsaved : (changes : List Change) → filter_map noted_note (filter (λ change. not (is_savepoint change)) changes) ≡ filter_map noted_note changes
notes-unsaved [] = refl
notes-unsaved (Noted note ∷ changes) = ap (λ (notes : List Note). note ∷ notes) (notes-unsaved changes)
notes-unsaved (Saved other ∷ changes) = notes-unsaved changes
notes-unsaved (Acted action ∷ changes) = notes-unsaved changes
notes-unsaved (RolledBack other ∷ changes) = notes-unsaved changes
notes-unsaved (Released other ∷ changes) = notes-unsaved changes

-- the same actions
actions-unsaved : (changes : List Change) → filter_map acted_action (filter (λ change. not (is_savepoint change)) changes) ≡ filter_map acted_action changes
actions-unsaved [] = refl
actions-unsaved (Acted action ∷ changes) = ap (λ (actions : List Action). action ∷ actions) (actions-unsaved changes)
actions-unsaved (Saved other ∷ changes) = actions-unsaved changes
actions-unsaved (Noted note ∷ changes) = actions-unsaved changes
actions-unsaved (RolledBack other ∷ changes) = actions-unsaved changes
actions-unsaved (Released other ∷ changes) = actions-unsaved changes

-- and no savepoints
savepoints-unsaved : (n a : ℕ) (changes : List Change) → savepoints_after n a (filter (λ change. not (is_savepoint change)) changes) ≡ []
savepoints-unsaved n a [] = refl
savepoints-unsaved n a (Saved other ∷ changes) = savepoints-unsaved n a changes
savepoints-unsaved n a (Acted action ∷ changes) = savepoints-unsaved n (a + 1) changes
savepoints-unsaved n a (Noted note ∷ changes) = savepoints-unsaved (n + 1) a changes
savepoints-unsaved n a (RolledBack other ∷ changes) = savepoints-unsaved n a changes
savepoints-unsaved n a (Released other ∷ changes) = savepoints-unsaved n a changes

-- the last savepoint of a name in a list, and what stands before it
record Last (name : List ℕ) (changes : List Change) (at : ℕ) (savepoint : Savepoint) : Type 0 where
  before : List Change
  after : List Change
  whole : changes ≡ before ++ Saved name ∷ after
  later : has_savepoint name after ≡ false
  notes : take savepoint.notes (filter_map noted_note changes) ≡ filter_map noted_note before
  actions : take savepoint.actions (filter_map acted_action changes) ≡ filter_map acted_action before
  savepoints : take at (savepoints_after 0 0 changes) ≡ savepoints_after 0 0 before
  through : take (at + 1) (savepoints_after 0 0 changes)
      ≡ savepoints_after 0 0 before ++ (record { name = name; notes = 0 + length (filter_map noted_note before); actions = 0 + length (filter_map acted_action before) }) ∷ []

last-savepoint : (changes : List Change) (name : List ℕ) (at : ℕ) (savepoint : Savepoint)
    → slice_get (savepoints_after 0 0 changes) at ≡ Some savepoint → bytes_eq name savepoint.name ≡ true → is_saved name (drop (at + 1) (savepoints_after 0 0 changes)) ≡ false
    → Last name changes at savepoint
last-savepoint changes name at savepoint e same none =
    let s : Stands 0 0 changes at savepoint = stands 0 0 changes at savepoint e in
    let named : savepoint.name ≡ name = sym ((bytes_eq-Decides name savepoint.name).0 same) in
    let whole : changes ≡ s.before ++ Saved name ∷ s.after = s.whole ∙ ap (λ (n : List ℕ). s.before ++ Saved n ∷ s.after) named in
    let n : ℕ = 0 + length (filter_map noted_note s.before) in
    let a : ℕ = 0 + length (filter_map acted_action s.before) in
    let here : Savepoint = record { name = name; notes = n; actions = a } in
    let front : List Savepoint = savepoints_after 0 0 s.before in
    let rest : List Savepoint = savepoints_after n a s.after in
    let all : kept_of changes ≡ kept (filter_map acted_action s.before ++ filter_map acted_action s.after) (filter_map noted_note s.before ++ filter_map noted_note s.after) (front ++ here ∷ rest) = ap kept_of whole ∙ kept-middle name s.before s.after in
    let savepoints : savepoints_after 0 0 changes ≡ front ++ here ∷ rest = ap (λ (k : Kept). k.savepoints) all in
    let notes : filter_map noted_note changes ≡ filter_map noted_note s.before ++ filter_map noted_note s.after = ap (λ (k : Kept). k.notes) all in
    let actions : filter_map acted_action changes ≡ filter_map acted_action s.before ++ filter_map acted_action s.after = ap (λ (k : Kept). k.actions) all in
    let past : drop (at + 1) (savepoints_after 0 0 changes) ≡ rest = ap (drop (at + 1)) savepoints ∙ ap (λ (k : ℕ). drop (k + 1) (front ++ here ∷ rest)) s.place ∙ drop-append-add front (here ∷ rest) 1 in
    record {
      before = s.before;
      after = s.after;
      whole = whole;
      later = sym (saved-has_savepoint name n a s.after) ∙ ap (is_saved name) (sym past) ∙ none;
      notes = ap (take savepoint.notes) notes ∙ ap (λ (k : ℕ). take k (filter_map noted_note s.before ++ filter_map noted_note s.after)) (s.notes ∙ (omega arith)) ∙ take-append_seam (filter_map noted_note s.before) (filter_map noted_note s.after);
      actions = ap (take savepoint.actions) actions ∙ ap (λ (k : ℕ). take k (filter_map acted_action s.before ++ filter_map acted_action s.after)) (s.actions ∙ (omega arith)) ∙ take-append_seam (filter_map acted_action s.before) (filter_map acted_action s.after);
      savepoints = ap (take at) savepoints ∙ ap (λ (k : ℕ). take k (front ++ here ∷ rest)) s.place ∙ take-append_seam front (here ∷ rest);
      through = ap (take (at + 1)) savepoints ∙ ap (λ (k : ℕ). take (k + 1) (front ++ here ∷ rest)) s.place ∙ take-append-add front (here ∷ rest) 1;
    }

-- ROLLBACK TO the last savepoint of its name
rolled_back-kept : (changes : List Change) (name : List ℕ) (at : ℕ) (savepoint : Savepoint)
    → slice_get (savepoints_after 0 0 changes) at ≡ Some savepoint → bytes_eq name savepoint.name ≡ true → is_saved name (drop (at + 1) (savepoints_after 0 0 changes)) ≡ false
    → kept_of (rolled_back name changes) ≡ kept (take savepoint.actions (filter_map acted_action changes)) (take savepoint.notes (filter_map noted_note changes)) (take (at + 1) (savepoints_after 0 0 changes))
rolled_back-kept changes name at savepoint e same none =
    let l : Last name changes at savepoint = last-savepoint changes name at savepoint e same none in
    ap (λ (cs : List Change). kept_of (rolled_back name cs)) l.whole ∙ ap kept_of (rolled_back-cuts name l.before l.after l.later) ∙ kept-middle name l.before []
    ∙ kept-same _ _ _ _ _ _ (append-nil (filter_map acted_action l.before) ∙ sym l.actions) (append-nil (filter_map noted_note l.before) ∙ sym l.notes) (sym l.through)

-- RELEASE of the last savepoint of its name
released-kept : (changes : List Change) (name : List ℕ) (at : ℕ) (savepoint : Savepoint)
    → slice_get (savepoints_after 0 0 changes) at ≡ Some savepoint → bytes_eq name savepoint.name ≡ true → is_saved name (drop (at + 1) (savepoints_after 0 0 changes)) ≡ false
    → kept_of (released name changes) ≡ kept (filter_map acted_action changes) (filter_map noted_note changes) (take at (savepoints_after 0 0 changes))
released-kept changes name at savepoint e same none =
    let l : Last name changes at savepoint = last-savepoint changes name at savepoint e same none in
    let later : List Change = filter (λ change. not (is_savepoint change)) l.after in
    let n : ℕ = 0 + length (filter_map noted_note l.before) in
    let a : ℕ = 0 + length (filter_map acted_action l.before) in
    let all : kept_of changes ≡ kept (filter_map acted_action l.before ++ filter_map acted_action l.after) (filter_map noted_note l.before ++ filter_map noted_note l.after) (savepoints_after 0 0 l.before ++ (record { name = name; notes = n; actions = a }) ∷ savepoints_after n a l.after) = ap kept_of l.whole ∙ kept-middle name l.before l.after in
    let left : kept_of (l.before ++ later) ≡ kept (filter_map acted_action l.before ++ filter_map acted_action later) (filter_map noted_note l.before ++ filter_map noted_note later) (savepoints_after 0 0 l.before ++ savepoints_after n a later) =
    kept-same _ _ _ _ _ _ (filter_map-append acted_action l.before later) (filter_map-append noted_note l.before later) (savepoints-append 0 0 l.before later) in
    ap (λ (cs : List Change). kept_of (released name cs)) l.whole ∙ ap kept_of (release-keeps name l.before l.after l.later) ∙ left
    ∙ kept-same _ _ _ _ _ _
    (ap (λ (more : List Action). filter_map acted_action l.before ++ more) (actions-unsaved l.after) ∙ sym (ap (λ (k : Kept). k.actions) all))
    (ap (λ (more : List Note). filter_map noted_note l.before ++ more) (notes-unsaved l.after) ∙ sym (ap (λ (k : Kept). k.notes) all))
    (ap (λ (more : List Savepoint). savepoints_after 0 0 l.before ++ more) (savepoints-unsaved n a l.after) ∙ append-nil (savepoints_after 0 0 l.before) ∙ sym l.savepoints)

-- what stood for a value stands for the next, after a SAVEPOINT
pub after-saved : (changes : List Change) (old : Kept) (name : List ℕ) (n a : ℕ) → n ≡ length old.notes → a ≡ length old.actions → StandsFor changes old
    → StandsFor (changes ++ Saved name ∷ []) (kept old.actions old.notes (old.savepoints ++ (record { name = name; notes = n; actions = a }) ∷ []))
after-saved changes old name n a sent done h =
    let live : List Change = live_changes changes in
    (subst (λ (k : Kept). n ≡ length k.notes → a ≡ length k.actions → StandsFor (changes ++ Saved name ∷ []) (kept k.actions k.notes (k.savepoints ++ (record { name = name; notes = n; actions = a }) ∷ []))) h
    (λ ns acts. ap kept_of (live-saved changes name) ∙ kept-middle name live []
    ∙ kept-same _ _ _ _ _ _ (append-nil (filter_map acted_action live)) (append-nil (filter_map noted_note live))
    (counted live (0 + length (filter_map noted_note live)) n (0 + length (filter_map acted_action live)) a (omega arith) (omega arith)))) sent done
  where
    counted : (live : List Change) (n m a b : ℕ) → n ≡ m → a ≡ b
        → savepoints_after 0 0 live ++ (record { name = name; notes = n; actions = a }) ∷ [] ≡ savepoints_after 0 0 live ++ (record { name = name; notes = m; actions = b }) ∷ []
    counted live n m a b e f =
        ap (λ (k : ℕ). savepoints_after 0 0 live ++ (record { name = name; notes = k; actions = a }) ∷ []) e
        ∙ ap (λ (k : ℕ). savepoints_after 0 0 live ++ (record { name = name; notes = m; actions = k }) ∷ []) f

-- after a LISTEN or UNLISTEN
pub after-acted : (changes : List Change) (old : Kept) (action : Action) → StandsFor changes old → StandsFor (changes ++ Acted action ∷ []) (kept (old.actions ++ action ∷ []) old.notes old.savepoints)
after-acted changes old action h =
    let live : List Change = live_changes changes in
    subst (λ (k : Kept). StandsFor (changes ++ Acted action ∷ []) (kept (k.actions ++ action ∷ []) k.notes k.savepoints)) h
    (ap kept_of (live-acted changes action)
    ∙ kept-same _ _ _ _ _ _ (filter_map-append acted_action live (Acted action ∷ [])) (filter_map-append noted_note live (Acted action ∷ []) ∙ append-nil (filter_map noted_note live))
    (savepoints-append 0 0 live (Acted action ∷ []) ∙ append-nil (savepoints_after 0 0 live)))

-- after a NOTIFY
pub after-noted : (changes : List Change) (old : Kept) (note : Note) → StandsFor changes old
    → StandsFor (changes ++ Noted note ∷ []) (kept old.actions (cond (list_any (same_note note) old.notes) old.notes (old.notes ++ note ∷ [])) old.savepoints)
after-noted changes old note h =
    let live : List Change = live_changes changes in
    let pushed : kept_of (live ++ Noted note ∷ []) ≡ kept (filter_map acted_action live) (filter_map noted_note live ++ note ∷ []) (savepoints_after 0 0 live) =
    kept-same _ _ _ _ _ _ (filter_map-append acted_action live (Noted note ∷ []) ∙ append-nil (filter_map acted_action live)) (filter_map-append noted_note live (Noted note ∷ []))
    (savepoints-append 0 0 live (Noted note ∷ []) ∙ append-nil (savepoints_after 0 0 live)) in
    subst (λ (k : Kept). StandsFor (changes ++ Noted note ∷ []) (kept k.actions (cond (list_any (same_note note) k.notes) k.notes (k.notes ++ note ∷ [])) k.savepoints)) h
    (ap kept_of (live-after_change changes live (Noted note) refl) ∙ ap (λ (b : Bool). kept_of (cond b live (live ++ Noted note ∷ []))) (noted-has_note note live) ∙ either (list_any (same_note note) (filter_map noted_note live)) live note pushed)
  where
    either : (b : Bool) (live : List Change) (note : Note) → kept_of (live ++ Noted note ∷ []) ≡ kept (filter_map acted_action live) (filter_map noted_note live ++ note ∷ []) (savepoints_after 0 0 live)
        → kept_of (cond b live (live ++ Noted note ∷ [])) ≡ kept (filter_map acted_action live) (cond b (filter_map noted_note live) (filter_map noted_note live ++ note ∷ [])) (savepoints_after 0 0 live)
    either true live note e = refl
    either false live note e = e

-- after a ROLLBACK TO the savepoint at this place
pub after-rolled_back : (changes : List Change) (old : Kept) (name : List ℕ) (at : ℕ) (savepoint : Savepoint) → IsNewest name old.savepoints at → savepoint ≡ get_or old.savepoints at savepoint
    → StandsFor changes old → StandsFor (changes ++ RolledBack name ∷ []) (kept (take savepoint.actions old.actions) (take savepoint.notes old.notes) (take (at + 1) old.savepoints))
after-rolled_back changes old name at savepoint found here h =
    (subst (λ (k : Kept). IsNewest name k.savepoints at → savepoint ≡ get_or k.savepoints at savepoint
    → StandsFor (changes ++ RolledBack name ∷ []) (kept (take savepoint.actions k.actions) (take savepoint.notes k.notes) (take (at + 1) k.savepoints))) h
    (λ f e. let savepoints : List Savepoint = savepoints_after 0 0 (live_changes changes) in
    ap kept_of (live-rolled_back changes name)
    ∙ rolled_back-kept (live_changes changes) name at savepoint (slice_get_read savepoints (length savepoints) at savepoint refl f.within e) (ap (is_named name) e ∙ f.named savepoint) (newest-last name savepoints at f))) found here

-- after a RELEASE of the savepoint at this place
pub after-released : (changes : List Change) (old : Kept) (name : List ℕ) (at : ℕ) → IsNewest name old.savepoints at
    → StandsFor changes old → StandsFor (changes ++ Released name ∷ []) (kept old.actions old.notes (take at old.savepoints))
after-released changes old name at found h =
    (subst (λ (k : Kept). IsNewest name k.savepoints at → StandsFor (changes ++ Released name ∷ []) (kept k.actions k.notes (take at k.savepoints))) h
    (λ f. let savepoints : List Savepoint = savepoints_after 0 0 (live_changes changes) in
    let other : Savepoint = record { name = []; notes = 0; actions = 0 } in
    ap kept_of (live-released changes name)
    ∙ released-kept (live_changes changes) name at (get_or savepoints at other) (slice_get-get_or savepoints at other f.within) (f.named other) (newest-last name savepoints at f))) found

-- a savepoint of a history is live where one of those that stand has the name
pub live-is_saved : (changes : List Change) (old : Kept) (name : List ℕ) → StandsFor changes old → has_name (live_names changes) name ≡ is_saved name old.savepoints
live-is_saved changes old name h =
    live-has_savepoint changes name ∙ sym (saved-has_savepoint name 0 0 (live_changes changes)) ∙ ap (λ (k : Kept). is_saved name k.savepoints) h

-- after a ROLLBACK TO of a name that no savepoint has
pub after-rolled_back_none : (changes : List Change) (old : Kept) (name : List ℕ) → is_saved name old.savepoints ≡ false → StandsFor changes old → StandsFor (changes ++ RolledBack name ∷ []) old
after-rolled_back_none changes old name none h =
    ap kept_of (live-rolled_back changes name ∙ rolled_back-none name (live_changes changes) (sym (live-has_savepoint changes name) ∙ live-is_saved changes old name h ∙ none)) ∙ h

-- after a RELEASE of a name that no savepoint has
pub after-released_none : (changes : List Change) (old : Kept) (name : List ℕ) → is_saved name old.savepoints ≡ false → StandsFor changes old → StandsFor (changes ++ Released name ∷ []) old
after-released_none changes old name none h =
    ap kept_of (live-released changes name ∙ released-none name (live_changes changes) (sym (live-has_savepoint changes name) ∙ live-is_saved changes old name h ∙ none)) ∙ h

-- the actions that are kept are those that survive
pub kept-actions : (changes : List Change) (old : Kept) → StandsFor changes old → old.actions ≡ surviving_actions changes
kept-actions changes old h = sym (ap (λ (k : Kept). k.actions) h) ∙ live-has_actions changes

-- the notifications that are kept are the first occurrences of those that survive
pub kept-notes : (changes : List Change) (old : Kept) → StandsFor changes old → old.notes ≡ firsts (surviving_notes changes)
kept-notes changes old h = sym (ap (λ (k : Kept). k.notes) h) ∙ live-has_firsts changes
