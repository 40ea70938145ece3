-- What survives savepoints, first occurrences, and both together.
use Rattle.std.proofs.Common.{◌≡◌, ◌≢◌, ℕ, Bool, true, false, cond, not, ◌&&◌, ◌||◌, List, [], ◌∷◌, ◌++◌, bytes_eq, filter, filter_map, AllPairs, All, refl, sym, ap, subst, ◌∙◌, arith, append-nil}
use Rattle.std.specs.List.{list_any}
use Rattle.std.proofs.lemmas.Slice.Eq.{bytes_eq-Decides}
use Rattle.std.proofs.lemmas.List.Folds.{list_any-append}
use Rattle.std.proofs.lemmas.List.Elements.{All-nil, All-cons, All-weaker}
use Rattle.std.proofs.lemmas.List.Kept.{AllPairs-cons}
use Rattle.pgn_base.specs.Names.{has_name}
use Rattle.pgn_base.specs.declared.note.Note.{Note}
use Rattle.pgn_base.specs.declared.action.Action.{Action}
use Rattle.pgn_answers.specs.Savepoints.{Change, Saved, Acted, Noted, RolledBack, Released, is_savepoint, is_savepoint_of, has_savepoint, rolled_back, released, survivors, survivors_from, live_names, saved_name, acted_action, noted_note, surviving_actions, surviving_notes, same_note, firsts, firsts_after, has_note, once_after, once, live_changes, after_change}

-- one more change comes after what is left of those before it
survivors_from-push : (kept changes : List Change) (change : Change) → survivors_from kept (changes ++ change ∷ []) ≡ survivors_from (survivors_from kept changes) (change ∷ [])
survivors_from-push kept [] change = refl
survivors_from-push kept (RolledBack name ∷ changes) change = survivors_from-push (rolled_back name kept) changes change
survivors_from-push kept (Released name ∷ changes) change = survivors_from-push (released name kept) changes change
survivors_from-push kept (Saved name ∷ changes) change = survivors_from-push (kept ++ Saved name ∷ []) changes change
survivors_from-push kept (Acted action ∷ changes) change = survivors_from-push (kept ++ Acted action ∷ []) changes change
survivors_from-push kept (Noted note ∷ changes) change = survivors_from-push (kept ++ Noted note ∷ []) changes change

-- what survives one more change
pub survives-rolled_back : (changes : List Change) (name : List ℕ) → survivors (changes ++ RolledBack name ∷ []) ≡ rolled_back name (survivors changes)
survives-rolled_back changes name = survivors_from-push [] changes (RolledBack name)

-- likewise a RELEASE
pub survives-released : (changes : List Change) (name : List ℕ) → survivors (changes ++ Released name ∷ []) ≡ released name (survivors changes)
survives-released changes name = survivors_from-push [] changes (Released name)

-- likewise a savepoint
pub survives-saved : (changes : List Change) (name : List ℕ) → survivors (changes ++ Saved name ∷ []) ≡ survivors changes ++ Saved name ∷ []
survives-saved changes name = survivors_from-push [] changes (Saved name)

-- likewise an action
pub survives-acted : (changes : List Change) (action : Action) → survivors (changes ++ Acted action ∷ []) ≡ survivors changes ++ Acted action ∷ []
survives-acted changes action = survivors_from-push [] changes (Acted action)

-- likewise a notification
pub survives-noted : (changes : List Change) (note : Note) → survivors (changes ++ Noted note ∷ []) ≡ survivors changes ++ Noted note ∷ []
survives-noted changes note = survivors_from-push [] changes (Noted note)

-- a name is itself
pub same-name : (name : List ℕ) → bytes_eq name name ≡ true
same-name name = (bytes_eq-Decides name name).1 refl

-- where no mark has the name, nothing is cut
pub rolled_back-none : (name : List ℕ) (changes : List Change) → has_savepoint name changes ≡ false → rolled_back name changes ≡ changes
rolled_back-none name [] e = refl
rolled_back-none name (change ∷ changes) e = none (is_savepoint_of name change) (has_savepoint name changes) e
  where
    none : (here later : Bool) → (here || later) ≡ false → cond later (change ∷ rolled_back name changes) (cond here (change ∷ []) (change ∷ changes)) ≡ change ∷ changes
    none true later e = cc
    none false true e = cc
    none false false e = refl

-- and nothing is released
pub released-none : (name : List ℕ) (changes : List Change) → has_savepoint name changes ≡ false → released name changes ≡ changes
released-none name [] e = refl
released-none name (change ∷ changes) e = none (is_savepoint_of name change) (has_savepoint name changes) e
  where
    none : (here later : Bool) → (here || later) ≡ false → cond later (change ∷ released name changes) (cond here (filter (λ other. not (is_savepoint other)) changes) (change ∷ changes)) ≡ change ∷ changes
    none true later e = cc
    none false true e = cc
    none false false e = refl

-- a mark in the middle of a list stands in it
pub has_savepoint-middle : (name : List ℕ) (before after : List Change) → has_savepoint name (before ++ Saved name ∷ after) ≡ true
has_savepoint-middle name [] after = rw (same-name name) refl
has_savepoint-middle name (change ∷ before) after = later (is_savepoint_of name change) (has_savepoint name (before ++ Saved name ∷ after)) (has_savepoint-middle name before after)
  where
    later : (a b : Bool) → b ≡ true → (a || b) ≡ true
    later true b e = refl
    later false b e = e

-- a rollback to the last savepoint of a name cuts the list behind it
pub rolled_back-cuts : (name : List ℕ) (before after : List Change) → has_savepoint name after ≡ false → rolled_back name (before ++ Saved name ∷ after) ≡ before ++ Saved name ∷ []
rolled_back-cuts name [] after e = rw (e, same-name name) refl
rolled_back-cuts name (change ∷ before) after e = rw (has_savepoint-middle name before after) (ap (λ (cs : List Change). change ∷ cs) (rolled_back-cuts name before after e))

-- a release of the last savepoint of a name keeps all behind it but the savepoints
pub release-keeps : (name : List ℕ) (before after : List Change) → has_savepoint name after ≡ false → released name (before ++ Saved name ∷ after) ≡ before ++ filter (λ change. not (is_savepoint change)) after
release-keeps name [] after e = rw (e, same-name name) refl
release-keeps name (change ∷ before) after e = rw (has_savepoint-middle name before after) (ap (λ (cs : List Change). change ∷ cs) (release-keeps name before after e))

-- a name is one of the marks' names where a mark has it
pub named : (name : List ℕ) (changes : List Change) → has_name (filter_map saved_name changes) name ≡ has_savepoint name changes
named name [] = refl
named name (Saved other ∷ changes) = ap (λ (b : Bool). bytes_eq name other || b) (named name changes)
named name (Acted action ∷ changes) = named name changes
named name (Noted note ∷ changes) = named name changes
named name (RolledBack other ∷ changes) = named name changes
named name (Released other ∷ changes) = named name changes

-- a name is live where a savepoint of it survives
pub live-is_saved : (changes : List Change) (name : List ℕ) → has_name (live_names changes) name ≡ has_savepoint name (survivors changes)
live-is_saved changes name = named name (survivors changes)

-- a notification is itself
pub same_note-same : (note : Note) → same_note note note ≡ true
same_note-same note = rw (same-name note.channel, same-name note.payload) refl

-- two notifications with the same channel and payload are one
pub same_note-true : (a b : Note) → same_note a b ≡ true → a ≡ b
same_note-true a b e =
    let channel : a.channel ≡ b.channel = (bytes_eq-Decides a.channel b.channel).0 (first (bytes_eq a.channel b.channel) (bytes_eq a.payload b.payload) e) in
    let payload : a.payload ≡ b.payload = (bytes_eq-Decides a.payload b.payload).0 (second (bytes_eq a.channel b.channel) (bytes_eq a.payload b.payload) e) in
    ap (λ (c : List ℕ). let n : Note = record { channel = c; payload = a.payload } in n) channel
    ∙ ap (λ (p : List ℕ). let n : Note = record { channel = b.channel; payload = p } in n) payload
  where
    first : (x y : Bool) → (x && y) ≡ true → x ≡ true
    first true y e = refl
    first false y e = e

    second : (x y : Bool) → (x && y) ≡ true → y ≡ true
    second true y e = e
    second false y e = cc

-- who has the same notification finds it in the same lists
pub seen-too : (note other : Note) (seen : List Note) → list_any (same_note other) seen ≡ true → same_note note other ≡ true → list_any (same_note note) seen ≡ true
seen-too note other seen e same = subst (λ (n : Note). list_any (same_note n) seen ≡ true) (sym (same_note-true note other same)) e

-- a test that another implies
pub absorbed : (seen here later : Bool) → (here ≡ true → seen ≡ true) → (seen || later) ≡ (seen || (here || later))
absorbed true here later h = refl
absorbed false true later h = absurd (let e : false ≡ true = h refl in cc)
absorbed false false later h = refl

-- a test moves to those seen
moved : (seen here a b : Bool) → ((seen || (here || false)) || a) ≡ ((seen || (here || false)) || b) → (seen || (here || a)) ≡ (seen || (here || b))
moved true here a b e = refl
moved false true a b e = refl
moved false false a b e = e

-- a test of one more among those seen
pub grouped : (a b c : Bool) → ((a || (b || false)) || c) ≡ (a || (b || c))
grouped true b c = refl
grouped false true c = refl
grouped false false c = refl

-- which notifications stand in first occurrences and in those seen
pub firsts_after-have : (note : Note) (seen notes : List Note)
    → (list_any (same_note note) seen || list_any (same_note note) (firsts_after seen notes)) ≡ (list_any (same_note note) seen || list_any (same_note note) notes)
firsts_after-have note seen [] = refl
firsts_after-have note seen (other ∷ notes) =
    let has : Bool = list_any (same_note note) seen in
    let same : Bool = same_note note other in
    let rest : List Note = firsts_after (seen ++ other ∷ []) notes in
    (elim (list_any (same_note other) seen) as (λ b. list_any (same_note other) seen ≡ b → (has || list_any (same_note note) (cond b (firsts_after seen notes) (other ∷ rest))) ≡ (has || (same || list_any (same_note note) notes))) [
      | true ↦ λ e. firsts_after-have note seen notes ∙ absorbed has same (list_any (same_note note) notes) (λ h. seen-too note other seen e h)
      | false ↦ λ e. moved has same (list_any (same_note note) rest) (list_any (same_note note) notes)
          (subst (λ (b : Bool). (b || list_any (same_note note) rest) ≡ (b || list_any (same_note note) notes)) (list_any-append (same_note note) seen (other ∷ [])) (firsts_after-have note (seen ++ other ∷ []) notes))
    ]) refl

-- a test that neither of two lists passes, the first of them does not
any-front : (test : Note → Bool) (xs ys : List Note) → list_any test (xs ++ ys) ≡ false → list_any test xs ≡ false
any-front test xs ys e = front (list_any test xs) (list_any test ys) (sym (list_any-append test xs ys) ∙ e)
  where
    front : (a b : Bool) → (a || b) ≡ false → a ≡ false
    front true b e = e
    front false b e = refl

-- nothing that was seen stands in first occurrences
firsts_after-new : (seen notes : List Note) → All (λ (note : Note). list_any (same_note note) seen ≡ false) (firsts_after seen notes)
firsts_after-new seen [] = All-nil (λ (note : Note). list_any (same_note note) seen ≡ false)
firsts_after-new seen (note ∷ notes) =
    let Is : Note → Type 0 = λ x. list_any (same_note x) seen ≡ false in
    let rest : List Note = firsts_after (seen ++ note ∷ []) notes in
    (elim (list_any (same_note note) seen) as (λ b. list_any (same_note note) seen ≡ b → All Is (cond b (firsts_after seen notes) (note ∷ rest))) [
      | true ↦ λ e. firsts_after-new seen notes
      | false ↦ λ e. All-cons Is note rest e (All-weaker (λ (x : Note). list_any (same_note x) (seen ++ note ∷ []) ≡ false) Is (λ x h. any-front (same_note x) seen (note ∷ []) h) rest (firsts_after-new (seen ++ note ∷ []) notes))
    ]) refl

-- what is not the last one seen differs from it
differs : (seen : List Note) (note other : Note) → list_any (same_note other) (seen ++ note ∷ []) ≡ false → note ≢ other
differs seen note other h e =
    let is : same_note other note ≡ true = subst (λ (n : Note). same_note n note ≡ true) e (same_note-same note) in
    let none : (list_any (same_note other) seen || (same_note other note || false)) ≡ false = sym (list_any-append (same_note other) seen (note ∷ [])) ∙ h in
    not-both (list_any (same_note other) seen) (same_note other note) is none
  where
    not-both : (a b : Bool) → b ≡ true → (a || (b || false)) ≡ false → ⊥
    not-both true b e h = cc
    not-both false true e h = cc
    not-both false false e h = cc

firsts_after-differ : (seen notes : List Note) → AllPairs (λ (a : Note) (b : Note). a ≢ b) (firsts_after seen notes)
firsts_after-differ seen [] = λ i j d lt within. absurd (omega arith)
firsts_after-differ seen (note ∷ notes) =
    let rest : List Note = firsts_after (seen ++ note ∷ []) notes in
    elim (list_any (same_note note) seen) as (λ b. AllPairs (λ (x : Note) (y : Note). x ≢ y) (cond b (firsts_after seen notes) (note ∷ rest))) [
      | true ↦ firsts_after-differ seen notes
      | false ↦ AllPairs-cons (λ (x : Note) (y : Note). x ≢ y) note rest
          (All-weaker (λ (x : Note). list_any (same_note x) (seen ++ note ∷ []) ≡ false) (λ (x : Note). note ≢ x) (λ x h. differs seen note x h) rest (firsts_after-new (seen ++ note ∷ []) notes))
          (firsts_after-differ (seen ++ note ∷ []) notes)
    ]

-- no two of the first notifications of each kind are the same
pub firsts-differ : (notes : List Note) → AllPairs (λ (a : Note) (b : Note). a ≢ b) (firsts notes)
firsts-differ notes = firsts_after-differ [] notes

-- an item at the end of a list that is there or not
pub at_end : {A : Type 0} (b : Bool) (xs : List A) (x : A) → xs ++ cond b [] (x ∷ []) ≡ cond b xs (xs ++ x ∷ [])
at_end true xs x = append-nil xs
at_end false xs x = refl

-- dropping repeats leaves the marks
pub has_savepoint-once : (name : List ℕ) (seen : List Note) (changes : List Change) → has_savepoint name (once_after seen changes) ≡ has_savepoint name changes
has_savepoint-once name seen [] = refl
has_savepoint-once name seen (Noted note ∷ changes) = elim (list_any (same_note note) seen) as (λ b. has_savepoint name (cond b (once_after seen changes) (Noted note ∷ once_after (seen ++ note ∷ []) changes)) ≡ has_savepoint name changes) [
  | true ↦ has_savepoint-once name seen changes
  | false ↦ has_savepoint-once name (seen ++ note ∷ []) changes
]
has_savepoint-once name seen (Saved other ∷ changes) = ap (λ (b : Bool). bytes_eq name other || b) (has_savepoint-once name seen changes)
has_savepoint-once name seen (Acted action ∷ changes) = has_savepoint-once name seen changes
has_savepoint-once name seen (RolledBack other ∷ changes) = has_savepoint-once name seen changes
has_savepoint-once name seen (Released other ∷ changes) = has_savepoint-once name seen changes

-- what is no such mark is not cut away before a list
pub rolled_back-keeps : (name : List ℕ) (change : Change) (changes : List Change) → is_savepoint_of name change ≡ false → rolled_back name (change ∷ changes) ≡ change ∷ rolled_back name changes
rolled_back-keeps name change changes other = (elim (has_savepoint name changes) as (λ b. has_savepoint name changes ≡ b → cond b (change ∷ rolled_back name changes) (cond (is_savepoint_of name change) (change ∷ []) (change ∷ changes)) ≡ change ∷ rolled_back name changes) [
  | true ↦ λ e. refl
  | false ↦ λ e. rw other (ap (λ (cs : List Change). change ∷ cs) (sym (rolled_back-none name changes e)))
]) refl

-- and is not released
pub released-keeps : (name : List ℕ) (change : Change) (changes : List Change) → is_savepoint_of name change ≡ false → released name (change ∷ changes) ≡ change ∷ released name changes
released-keeps name change changes other = (elim (has_savepoint name changes) as (λ b. has_savepoint name changes ≡ b → cond b (change ∷ released name changes) (cond (is_savepoint_of name change) (filter (λ later. not (is_savepoint later)) changes) (change ∷ changes)) ≡ change ∷ released name changes) [
  | true ↦ λ e. refl
  | false ↦ λ e. rw other (ap (λ (cs : List Change). change ∷ cs) (sym (released-none name changes e)))
]) refl

-- dropping repeats goes past ROLLBACK TO
once-cut : (name : List ℕ) (seen : List Note) (changes : List Change) → once_after seen (rolled_back name changes) ≡ rolled_back name (once_after seen changes)
once-cut name seen [] = refl
once-cut name seen (Noted note ∷ changes) =
    let more : List Note = seen ++ note ∷ [] in
    ap (once_after seen) (rolled_back-keeps name (Noted note) changes refl)
    ∙ elim (list_any (same_note note) seen) as (λ b. cond b (once_after seen (rolled_back name changes)) (Noted note ∷ once_after more (rolled_back name changes)) ≡ rolled_back name (cond b (once_after seen changes) (Noted note ∷ once_after more changes))) [
      | true ↦ once-cut name seen changes
      | false ↦ ap (λ (cs : List Change). Noted note ∷ cs) (once-cut name more changes) ∙ sym (rolled_back-keeps name (Noted note) (once_after more changes) refl)
    ]
once-cut name seen (Saved other ∷ changes) =
    let mark : Change = Saved other in
    let rest : List Change = once_after seen changes in
    (elim (has_savepoint name changes) as (λ b. once_after seen (cond b (mark ∷ rolled_back name changes) (cond (bytes_eq name other) (mark ∷ []) (mark ∷ changes))) ≡ cond b (mark ∷ rolled_back name rest) (cond (bytes_eq name other) (mark ∷ []) (mark ∷ rest))) [
      | true ↦ ap (λ (cs : List Change). mark ∷ cs) (once-cut name seen changes)
      | false ↦ elim (bytes_eq name other) as (λ b. once_after seen (cond b (mark ∷ []) (mark ∷ changes)) ≡ cond b (mark ∷ []) (mark ∷ rest)) [ true ↦ refl | false ↦ refl ]
    ])
    ∙ ap (λ (b : Bool). cond b (mark ∷ rolled_back name rest) (cond (bytes_eq name other) (mark ∷ []) (mark ∷ rest))) (sym (has_savepoint-once name seen changes))
once-cut name seen (Acted action ∷ changes) =
    ap (once_after seen) (rolled_back-keeps name (Acted action) changes refl) ∙ ap (λ (cs : List Change). Acted action ∷ cs) (once-cut name seen changes) ∙ sym (rolled_back-keeps name (Acted action) (once_after seen changes) refl)
once-cut name seen (RolledBack other ∷ changes) =
    ap (once_after seen) (rolled_back-keeps name (RolledBack other) changes refl) ∙ ap (λ (cs : List Change). RolledBack other ∷ cs) (once-cut name seen changes) ∙ sym (rolled_back-keeps name (RolledBack other) (once_after seen changes) refl)
once-cut name seen (Released other ∷ changes) =
    ap (once_after seen) (rolled_back-keeps name (Released other) changes refl) ∙ ap (λ (cs : List Change). Released other ∷ cs) (once-cut name seen changes) ∙ sym (rolled_back-keeps name (Released other) (once_after seen changes) refl)

-- dropping repeats goes past dropping marks
once-unmarked : (seen : List Note) (changes : List Change) → once_after seen (filter (λ change. not (is_savepoint change)) changes) ≡ filter (λ change. not (is_savepoint change)) (once_after seen changes)
once-unmarked seen [] = refl
once-unmarked seen (Noted note ∷ changes) =
    let more : List Note = seen ++ note ∷ [] in
    let kept : List Change = filter (λ change. not (is_savepoint change)) changes in
    elim (list_any (same_note note) seen) as (λ b. cond b (once_after seen kept) (Noted note ∷ once_after more kept) ≡ filter (λ change. not (is_savepoint change)) (cond b (once_after seen changes) (Noted note ∷ once_after more changes))) [
      | true ↦ once-unmarked seen changes
      | false ↦ ap (λ (cs : List Change). Noted note ∷ cs) (once-unmarked more changes)
    ]
once-unmarked seen (Saved other ∷ changes) = once-unmarked seen changes
once-unmarked seen (Acted action ∷ changes) = ap (λ (cs : List Change). Acted action ∷ cs) (once-unmarked seen changes)
once-unmarked seen (RolledBack other ∷ changes) = ap (λ (cs : List Change). RolledBack other ∷ cs) (once-unmarked seen changes)
once-unmarked seen (Released other ∷ changes) = ap (λ (cs : List Change). Released other ∷ cs) (once-unmarked seen changes)

-- dropping repeats goes past RELEASE
once-released : (name : List ℕ) (seen : List Note) (changes : List Change) → once_after seen (released name changes) ≡ released name (once_after seen changes)
once-released name seen [] = refl
once-released name seen (Noted note ∷ changes) =
    let more : List Note = seen ++ note ∷ [] in
    ap (once_after seen) (released-keeps name (Noted note) changes refl)
    ∙ elim (list_any (same_note note) seen) as (λ b. cond b (once_after seen (released name changes)) (Noted note ∷ once_after more (released name changes)) ≡ released name (cond b (once_after seen changes) (Noted note ∷ once_after more changes))) [
      | true ↦ once-released name seen changes
      | false ↦ ap (λ (cs : List Change). Noted note ∷ cs) (once-released name more changes) ∙ sym (released-keeps name (Noted note) (once_after more changes) refl)
    ]
once-released name seen (Saved other ∷ changes) =
    let mark : Change = Saved other in
    let rest : List Change = once_after seen changes in
    let unmarked : List Change → List Change = λ cs. filter (λ change. not (is_savepoint change)) cs in
    (elim (has_savepoint name changes) as (λ b. once_after seen (cond b (mark ∷ released name changes) (cond (bytes_eq name other) (unmarked changes) (mark ∷ changes))) ≡ cond b (mark ∷ released name rest) (cond (bytes_eq name other) (unmarked rest) (mark ∷ rest))) [
      | true ↦ ap (λ (cs : List Change). mark ∷ cs) (once-released name seen changes)
      | false ↦ elim (bytes_eq name other) as (λ b. once_after seen (cond b (unmarked changes) (mark ∷ changes)) ≡ cond b (unmarked rest) (mark ∷ rest)) [ true ↦ once-unmarked seen changes | false ↦ refl ]
    ])
    ∙ ap (λ (b : Bool). cond b (mark ∷ released name rest) (cond (bytes_eq name other) (unmarked rest) (mark ∷ rest))) (sym (has_savepoint-once name seen changes))
once-released name seen (Acted action ∷ changes) =
    ap (once_after seen) (released-keeps name (Acted action) changes refl) ∙ ap (λ (cs : List Change). Acted action ∷ cs) (once-released name seen changes) ∙ sym (released-keeps name (Acted action) (once_after seen changes) refl)
once-released name seen (RolledBack other ∷ changes) =
    ap (once_after seen) (released-keeps name (RolledBack other) changes refl) ∙ ap (λ (cs : List Change). RolledBack other ∷ cs) (once-released name seen changes) ∙ sym (released-keeps name (RolledBack other) (once_after seen changes) refl)
once-released name seen (Released other ∷ changes) =
    ap (once_after seen) (released-keeps name (Released other) changes refl) ∙ ap (λ (cs : List Change). Released other ∷ cs) (once-released name seen changes) ∙ sym (released-keeps name (Released other) (once_after seen changes) refl)

-- what is no notification goes to the end
once-other : (change : Change) → ((seen : List Note) → once_after seen (change ∷ []) ≡ change ∷ []) → (seen : List Note) (changes : List Change) → once_after seen (changes ++ change ∷ []) ≡ once_after seen changes ++ change ∷ []
once-other change h seen [] = h seen
once-other change h seen (Noted note ∷ changes) =
    let more : List Note = seen ++ note ∷ [] in
    elim (list_any (same_note note) seen) as (λ b. cond b (once_after seen (changes ++ change ∷ [])) (Noted note ∷ once_after more (changes ++ change ∷ [])) ≡ cond b (once_after seen changes) (Noted note ∷ once_after more changes) ++ change ∷ []) [
      | true ↦ once-other change h seen changes
      | false ↦ ap (λ (cs : List Change). Noted note ∷ cs) (once-other change h more changes)
    ]
once-other change h seen (Saved other ∷ changes) = ap (λ (cs : List Change). Saved other ∷ cs) (once-other change h seen changes)
once-other change h seen (Acted action ∷ changes) = ap (λ (cs : List Change). Acted action ∷ cs) (once-other change h seen changes)
once-other change h seen (RolledBack other ∷ changes) = ap (λ (cs : List Change). RolledBack other ∷ cs) (once-other change h seen changes)
once-other change h seen (Released other ∷ changes) = ap (λ (cs : List Change). Released other ∷ cs) (once-other change h seen changes)

-- the notifications without repeats are the first occurrences of the notifications
notes-once : (seen : List Note) (changes : List Change) → filter_map noted_note (once_after seen changes) ≡ firsts_after seen (filter_map noted_note changes)
notes-once seen [] = refl
notes-once seen (Noted note ∷ changes) =
    let more : List Note = seen ++ note ∷ [] in
    let notes : List Note = filter_map noted_note changes in
    elim (list_any (same_note note) seen) as (λ b. filter_map noted_note (cond b (once_after seen changes) (Noted note ∷ once_after more changes)) ≡ cond b (firsts_after seen notes) (note ∷ firsts_after more notes)) [
      | true ↦ notes-once seen changes
      | false ↦ ap (λ (ns : List Note). note ∷ ns) (notes-once more changes)
    ]
notes-once seen (Saved other ∷ changes) = notes-once seen changes
notes-once seen (Acted action ∷ changes) = notes-once seen changes
notes-once seen (RolledBack other ∷ changes) = notes-once seen changes
notes-once seen (Released other ∷ changes) = notes-once seen changes

-- the notification stands in a list where it stands among its notifications
pub noted : (note : Note) (changes : List Change) → has_note note changes ≡ list_any (same_note note) (filter_map noted_note changes)
noted note [] = refl
noted note (Noted other ∷ changes) = ap (λ (b : Bool). same_note note other || b) (noted note changes)
noted note (Saved other ∷ changes) = noted note changes
noted note (Acted action ∷ changes) = noted note changes
noted note (RolledBack other ∷ changes) = noted note changes
noted note (Released other ∷ changes) = noted note changes

-- dropping repeats leaves each notification
pub has_note-once : (note : Note) (changes : List Change) → has_note note (once changes) ≡ has_note note changes
has_note-once note changes =
    noted note (once changes) ∙ ap (list_any (same_note note)) (notes-once [] changes) ∙ firsts_after-have note [] (filter_map noted_note changes) ∙ sym (noted note changes)

-- the actions stay
actions-once : (seen : List Note) (changes : List Change) → filter_map acted_action (once_after seen changes) ≡ filter_map acted_action changes
actions-once seen [] = refl
actions-once seen (Noted note ∷ changes) = elim (list_any (same_note note) seen) as (λ b. filter_map acted_action (cond b (once_after seen changes) (Noted note ∷ once_after (seen ++ note ∷ []) changes)) ≡ filter_map acted_action changes) [
  | true ↦ actions-once seen changes
  | false ↦ actions-once (seen ++ note ∷ []) changes
]
actions-once seen (Saved other ∷ changes) = actions-once seen changes
actions-once seen (Acted action ∷ changes) = ap (λ (actions : List Action). action ∷ actions) (actions-once seen changes)
actions-once seen (RolledBack other ∷ changes) = actions-once seen changes
actions-once seen (Released other ∷ changes) = actions-once seen changes

-- what is left of a list holds the actions that survive, in their order
pub live-has_actions : (changes : List Change) → filter_map acted_action (live_changes changes) ≡ surviving_actions changes
live-has_actions changes = actions-once [] (survivors changes)

-- what is left of a list holds each notification that survives once, in the order of the first ones
pub live-has_firsts : (changes : List Change) → filter_map noted_note (live_changes changes) ≡ firsts (surviving_notes changes)
live-has_firsts changes = notes-once [] (survivors changes)

-- one more notification, without repeats
once-note : (note : Note) (seen : List Note) (changes : List Change)
    → once_after seen (changes ++ Noted note ∷ []) ≡ once_after seen changes ++ cond (list_any (same_note note) seen || has_note note changes) [] (Noted note ∷ [])
once-note note seen [] = last (list_any (same_note note) seen)
  where
    last : (b : Bool) → cond b (once_after seen []) (Noted note ∷ []) ≡ cond (b || false) [] (Noted note ∷ [])
    last true = refl
    last false = refl
once-note note seen (Saved other ∷ changes) = ap (λ (cs : List Change). Saved other ∷ cs) (once-note note seen changes)
once-note note seen (Acted action ∷ changes) = ap (λ (cs : List Change). Acted action ∷ cs) (once-note note seen changes)
once-note note seen (RolledBack other ∷ changes) = ap (λ (cs : List Change). RolledBack other ∷ cs) (once-note note seen changes)
once-note note seen (Released other ∷ changes) = ap (λ (cs : List Change). Released other ∷ cs) (once-note note seen changes)
once-note note seen (Noted other ∷ changes) =
    let has : Bool = list_any (same_note note) seen in
    let same : Bool = same_note note other in
    let later : Bool = has_note note changes in
    let more : List Note = seen ++ other ∷ [] in
    (elim (list_any (same_note other) seen) as (λ b. list_any (same_note other) seen ≡ b
    → cond b (once_after seen (changes ++ Noted note ∷ [])) (Noted other ∷ once_after more (changes ++ Noted note ∷ [])) ≡ cond b (once_after seen changes) (Noted other ∷ once_after more changes) ++ cond (has || (same || later)) [] (Noted note ∷ [])) [
      | true ↦ λ e. once-note note seen changes ∙ ap (λ (b : Bool). once_after seen changes ++ cond b [] (Noted note ∷ [])) (absorbed has same later (λ h. seen-too note other seen e h))
      | false ↦ λ e. ap (λ (cs : List Change). Noted other ∷ cs) (once-note note more changes
          ∙ ap (λ (b : Bool). once_after more changes ++ cond (b || later) [] (Noted note ∷ [])) (list_any-append (same_note note) seen (other ∷ []))
          ∙ ap (λ (b : Bool). once_after more changes ++ cond b [] (Noted note ∷ [])) (grouped has same later))
    ]) refl

-- what is live takes one more change in
pub live-push : (changes : List Change) (change : Change) → live_changes (changes ++ change ∷ []) ≡ after_change (live_changes changes) change
live-push changes (RolledBack name) = ap once (survives-rolled_back changes name) ∙ once-cut name [] (survivors changes)
live-push changes (Released name) = ap once (survives-released changes name) ∙ once-released name [] (survivors changes)
live-push changes (Saved name) = ap once (survives-saved changes name) ∙ once-other (Saved name) (λ seen. refl) [] (survivors changes)
live-push changes (Acted action) = ap once (survives-acted changes action) ∙ once-other (Acted action) (λ seen. refl) [] (survivors changes)
live-push changes (Noted note) =
    let live : List Change = live_changes changes in
    ap once (survives-noted changes note) ∙ once-note note [] (survivors changes)
    ∙ ap (λ (b : Bool). live ++ cond b [] (Noted note ∷ [])) (sym (has_note-once note (survivors changes))) ∙ at_end (has_note note live) live (Noted note)

-- one change more: what is left is that of what was left before, with the change
pub live-after_change : (changes live : List Change) (change : Change) → live_changes changes ≡ live → live_changes (changes ++ change ∷ []) ≡ after_change live change
live-after_change changes live change e = live-push changes change ∙ ap (λ (cs : List Change). after_change cs change) e

-- a savepoint more: it stands at the end of what is left
pub live-saved : (changes : List Change) (name : List ℕ) → live_changes (changes ++ Saved name ∷ []) ≡ live_changes changes ++ Saved name ∷ []
live-saved changes name = live-push changes (Saved name)

-- an action more: it stands at the end of what is left
pub live-acted : (changes : List Change) (action : Action) → live_changes (changes ++ Acted action ∷ []) ≡ live_changes changes ++ Acted action ∷ []
live-acted changes action = live-push changes (Acted action)

-- a rollback more: what was left is rolled back
pub live-rolled_back : (changes : List Change) (name : List ℕ) → live_changes (changes ++ RolledBack name ∷ []) ≡ rolled_back name (live_changes changes)
live-rolled_back changes name = live-push changes (RolledBack name)

-- a release more: what was left is released
pub live-released : (changes : List Change) (name : List ℕ) → live_changes (changes ++ Released name ∷ []) ≡ released name (live_changes changes)
live-released changes name = live-push changes (Released name)

-- a savepoint of a name is live exactly where what is left has one
pub live-has_savepoint : (changes : List Change) (name : List ℕ) → has_name (live_names changes) name ≡ has_savepoint name (live_changes changes)
live-has_savepoint changes name = live-is_saved changes name ∙ sym (has_savepoint-once name [] (survivors changes))
