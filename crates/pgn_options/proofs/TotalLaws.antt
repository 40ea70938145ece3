-- What is wrong with the words of a subcommand, a word at a time.
use Rattle.std.proofs.Common.{◌≡◌, ◌∙◌, false, List, [], ◌∷◌, Option, Some, None, refl, ap, sym, subst}
use Rattle.std.specs.Prelude.{fold}
use Rattle.clap.specs.Kinds.{Kinds, or_else}
use Rattle.clap.specs.Walk.{Held, Row, Text, Walk, finished, settled, walked}
use Rattle.clap.specs.Simple.{Shape}
use Rattle.clap.specs.Faults.{check_fault, defaults_fault, settle_fault, turn_fault, walk_fault}

-- where one list of faults or else another is empty the first one is
pub or-first : (a b : Kinds) → or_else a b ≡ [] → a ≡ []
or-first [] b e = refl
or-first (k ∷ ks) b e = e

-- and the second one is
pub or-second : (a b : Kinds) → or_else a b ≡ [] → b ≡ []
or-second [] b e = e
or-second (k ∷ ks) b e = absurd (cc)

or-assoc : (a b c : Kinds) → or_else (or_else a b) c ≡ or_else a (or_else b c)
or-assoc [] b c = refl
or-assoc (k ∷ ks) b c = refl

-- or else nothing is what stood before
pub or-none : (a : Kinds) → or_else a [] ≡ a
or-none [] = refl
or-none (k ∷ ks) = refl

-- no faults of two are none of both
pub both-none : (a b : Kinds) → a ≡ [] → b ≡ [] → or_else a (or_else b []) ≡ []
both-none a b h k = ap (λ (x : Kinds). or_else x (or_else b [])) h ∙ ap (λ (x : Kinds). or_else x []) k

-- what is wrong at the end of the words
abbrev pub ending : Shape → Held → Kinds
ending s h =
    or_else (settle_fault s.rules s.args_override_self h)
    (or_else (defaults_fault (settled s.rules h).rows s.rules) (check_fault s (finished s.rules h) false))

-- where the walk over words comes to
abbrev pub walk_end : Shape → Walk → List Text → Held
walk_end s w words = (fold (walked s.rules []) w words).held

-- what is wrong with words, from somewhere on
abbrev pub total : Shape → Walk → List Text → Kinds
total s w words = or_else (walk_fault s [] w words) (ending s (walk_end s w words))

-- what is found of them
abbrev pub found : Shape → Walk → List Text → List Row
found s w words = finished s.rules (walk_end s w words)

-- the faults of no words are those of the end
pub total-nil : (s : Shape) (w : Walk) → total s w [] ≡ ending s w.held
unfolding walk_fault
total-nil s w = refl

total-step : (s : Shape) (w : Walk) (word : Text) (words : List Text) → total s w (word ∷ words) ≡ or_else (turn_fault s [] w word) (total s (walked s.rules [] w word) words)
unfolding walk_fault
total-step s w word words = or-assoc (turn_fault s [] w word) (walk_fault s [] (walked s.rules [] w word) words) (ending s (walk_end s w (word ∷ words)))

-- no kinds where there is a meaning, of which P holds with what was found; else some
abbrev pub Agrees : {A : Type 0} → (A → List Row → Type 0) → Option A → Kinds → List Row → Type 0
Agrees P None kinds rows = kinds ≡ [] → ⊥
Agrees P (Some a) kinds rows = (kinds ≡ []) × P a rows

module _ {A : Type 0} (P : A → List Row → Type 0) (s : Shape) (w after : Walk) (word : Text) (words : List Text) where
  -- a word with which nothing is wrong
  pub agrees-step : (o : Option A) → turn_fault s [] w word ≡ [] → walked s.rules [] w word ≡ after
      → Agrees P o (total s after words) (found s after words) → Agrees P o (total s w (word ∷ words)) (found s w (word ∷ words))
  agrees-step o fine comes h =
      let same : total s w (word ∷ words) ≡ total s (walked s.rules [] w word) words = total-step s w word words ∙ ap (λ (k : Kinds). or_else k (total s (walked s.rules [] w word) words)) fine in
      let there = subst (λ (x : Walk). Agrees P o (total s x words) (found s x words)) (sym comes) h in
      subst (λ (k : Kinds). Agrees P o k (found s (walked s.rules [] w word) words)) (sym same) there

  -- a word with which something is wrong
  pub wrong-step : (turn_fault s [] w word ≡ [] → ⊥) → total s w (word ∷ words) ≡ [] → ⊥
  wrong-step wrong e = wrong (or-first _ _ (sym (total-step s w word words) ∙ e))

  -- a word after which something is wrong
  pub later-step : walked s.rules [] w word ≡ after → (total s after words ≡ [] → ⊥) → total s w (word ∷ words) ≡ [] → ⊥
  later-step comes wrong e =
      let rest : total s (walked s.rules [] w word) words ≡ [] = or-second _ _ (sym (total-step s w word words) ∙ e) in
      wrong (subst (λ (x : Walk). total s x words ≡ []) comes rest)
