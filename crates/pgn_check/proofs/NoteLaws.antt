-- Notifications of a transaction that are all different.
use Rattle.std.proofs.Common.{◌≡◌, ◌≢◌, suc, ◌<◌, Bool, true, false, ◌||◌, cond, not, List, [], ◌∷◌, ◌++◌, length, get_or, sym, ap, ◌∙◌, refl, subst, arith}
use Rattle.std.specs.Prelude.{All, AllPairs}
use Rattle.std.specs.List.{list_any}
use Rattle.std.proofs.lemmas.List.Elements.{All-nil, All-cons, All-head, All-tail}
use Rattle.std.proofs.lemmas.List.Folds.{list_any-append}
use Rattle.std.proofs.lemmas.List.Kept.{AllPairs-cons}
use Rattle.pgn_base.specs.declared.note.Note.{Note}
use Rattle.pgn_answers.specs.Savepoints.{same_note}
use Rattle.pgn_answers.proofs.SavepointLemmas.{same_note-same, same_note-true}
use Rattle.pgn_check.specs.Entries.{repeats_after}

-- two notifications that are not the same
abbrev pub Differ : Note → Note → Type 0
Differ a b = a ≢ b

-- a notification is not among these
abbrev IsNew : List Note → Note → Type 0
IsNew seen note = list_any (same_note note) seen ≡ false

no_first : (a b : Bool) → (a || b) ≡ false → a ≡ false
no_first true b e = absurd (let no : ⊥ = cc in no)
no_first false b e = refl

no_second : (a b : Bool) → (a || b) ≡ false → b ≡ false
no_second true b e = absurd (let no : ⊥ = cc in no)
no_second false b e = e

neither : (a b : Bool) → a ≡ false → b ≡ false → (a || b) ≡ false
neither true b h k = absurd (let no : ⊥ = cc in no)
neither false b h k = k

true_is_not : true ≡ false → ⊥
true_is_not e = let no : ⊥ = cc in no

-- one more is seen
more_seen : (seen : List Note) (first note : Note) → list_any (same_note note) (seen ++ first ∷ []) ≡ (list_any (same_note note) seen || (same_note note first || false))
more_seen seen first note = list_any-append (same_note note) seen (first ∷ [])

-- where no test finds a repeat there is none
apart_from : (seen notes : List Note) → repeats_after seen notes ≡ false → All (IsNew seen) notes × AllPairs Differ notes
apart_from seen [] h = (All-nil (IsNew seen), λ i j d lt within. absurd (omega (arith, within)))
apart_from seen (note ∷ notes) h =
    let here : IsNew seen note = no_first (list_any (same_note note) seen) (repeats_after (seen ++ note ∷ []) notes) h in
    let behind = apart_from (seen ++ note ∷ []) notes (no_second (list_any (same_note note) seen) (repeats_after (seen ++ note ∷ []) notes) h) in
    let news : All (IsNew seen) notes =
    λ k d lt. let other : Note = get_or notes k d in no_first (list_any (same_note other) seen) (same_note other note || false) (sym (more_seen seen note other) ∙ behind.0 k d lt) in
    let apart : All (Differ note) notes =
    λ k d lt same.
    let other : Note = get_or notes k d in
    let none : same_note other note ≡ false =
    no_first (same_note other note) false (no_second (list_any (same_note other) seen) (same_note other note || false) (sym (more_seen seen note other) ∙ behind.0 k d lt)) in
    true_is_not (sym (same_note-same note) ∙ ap (λ (n : Note). same_note n note) same ∙ none) in
    (All-cons (IsNew seen) note notes here news, AllPairs-cons Differ note notes apart behind.1)

-- and where all are different it finds none
none_found : (seen notes : List Note) → All (IsNew seen) notes → AllPairs Differ notes → repeats_after seen notes ≡ false
none_found seen [] h k = refl
none_found seen (note ∷ notes) h k =
    let news : All (IsNew (seen ++ note ∷ [])) notes =
    λ i d lt.
    let other : Note = get_or notes i d in
    let old : IsNew seen other = All-tail (IsNew seen) note notes h i d lt in
    let differ : note ≢ other = k 0 (suc i) d (omega arith) (omega (arith, lt)) in
    more_seen seen note other ∙ neither (list_any (same_note other) seen) (same_note other note || false) old (neither (same_note other note) false (by (same_note other note) (same_note other note) refl (λ same. differ (sym (same_note-true other note same)))) refl) in
    neither (list_any (same_note note) seen) (repeats_after (seen ++ note ∷ []) notes) (All-head (IsNew seen) note notes h)
    (none_found (seen ++ note ∷ []) notes news (λ i j d lt within. k (suc i) (suc j) d (omega (arith, lt)) (omega (arith, within))))
  where
    by : (b c : Bool) → b ≡ c → (b ≡ true → ⊥) → b ≡ false
    by b true e none = absurd (none e)
    by b false e none = e

-- where the test finds none twice, no two notifications are the same
pub are_apart : (notes : List Note) → repeats_after [] notes ≡ false → AllPairs Differ notes
are_apart notes h = (apart_from [] notes h).1

-- where no two are the same, the test finds none twice
pub apart_has_none : (notes : List Note) → AllPairs Differ notes → repeats_after [] notes ≡ false
apart_has_none notes h = none_found [] notes (λ k d lt. refl) h

-- one alone has no repeat
pub short_has_none : (notes : List Note) → length notes < 2 → repeats_after [] notes ≡ false
short_has_none [] h = refl
short_has_none (note ∷ []) h = refl
short_has_none (note ∷ other ∷ notes) h = absurd (omega (arith, h))

was : (t : Bool) → not t ≡ false → t ≡ true
was true h = refl
was false h = absurd (true_is_not h)

was_not : (t : Bool) → not t ≡ true → t ≡ false
was_not false h = refl
was_not true h = absurd (true_is_not (sym h))

-- a notification that is not new repeats
pub repeat_found : (keys rest : List Note) (note copy : Note) (b : Bool) → copy ≡ note → b ≡ not (list_any (same_note copy) keys) → b ≡ false → repeats_after keys (note ∷ rest) ≡ true
repeat_found keys rest note copy b same test off =
    let there : list_any (same_note note) keys ≡ true = subst (λ (n : Note). list_any (same_note n) keys ≡ true) same (was (list_any (same_note copy) keys) (sym test ∙ off)) in
    ap (λ (t : Bool). t || repeats_after (keys ++ note ∷ []) rest) there

-- one that is new does not, and is seen from then on
pub repeat_none : (keys now rest : List Note) (note copy : Note) (b : Bool) → copy ≡ note → b ≡ not (list_any (same_note copy) keys) → b ≡ true → now ≡ cond (list_any (same_note copy) keys) keys (keys ++ copy ∷ [])
    → repeats_after keys (note ∷ rest) ≡ repeats_after now rest
repeat_none keys now rest note copy b same test on put =
    let absent : list_any (same_note copy) keys ≡ false = was_not (list_any (same_note copy) keys) (sym test ∙ on) in
    let more : now ≡ keys ++ note ∷ [] = subst (λ (n : Note). now ≡ keys ++ n ∷ []) same (put ∙ ap (λ (t : Bool). cond t keys (keys ++ copy ∷ [])) absent) in
    ap (λ (t : Bool). t || repeats_after (keys ++ note ∷ []) rest) (subst (λ (n : Note). list_any (same_note n) keys ≡ false) same absent) ∙ ap (λ (ks : List Note). repeats_after ks rest) (sym more)
