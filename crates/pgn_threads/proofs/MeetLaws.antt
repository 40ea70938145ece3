-- Sessions that are over and meet.
use Rattle.std.proofs.Common.{◌≡◌, ℕ, zero, suc, ◌-◌, ◌<◌, max, List, [], ◌∷◌, ◌++◌, length, set, get_or, map, take, drop, All, sym, ap, ◌∙◌, refl, subst, arith}
use Rattle.std.proofs.lemmas.List.{map-set, set-get_or, get_or-set_other, get_or-take, get_or-drop, get_or_default}
use Rattle.std.proofs.Math.Seq.{map-set_same}
use Rattle.std.proofs.lemmas.List.Elements.{All-append, All-set, All-take, All-drop}
use Rattle.pgn_hub.specs.declared.known.Known.{Known}
use Rattle.pgn_hub.specs.Shape.{Shape}
use Rattle.pgn_hub.specs.Calls.{HasLearned, HasHeard}
use Rattle.pgn_session.specs.declared.session.Session.{Session}
use Rattle.pgn_session.specs.Standing.{terms_of}
use Rattle.pgn_session.specs.Whole.{HasRest}
use Rattle.pgn_session.proofs.OverLaws.{learned-at_end}
use Rattle.pgn_session.specs.Runs.{IsOver, script_of, shown_of}
use Rattle.pgn_threads.specs.Drain.{signals_of, told_at, heard_up, heard_down}

-- two neighbours are put anew, one in each half
mended : {X : Type 0} (xs : List X) (p : ℕ) (a b : X) → suc p < length xs → set (take (suc p) xs) p a ++ set (drop (suc p) xs) 0 b ≡ set (set xs p a) (suc p) b
mended [] p a b lt = absurd (omega (arith, lt))
mended (x ∷ xs) zero a b lt = refl
mended (x ∷ xs) (suc p) a b lt = ap (λ (ys : List _). x ∷ ys) (mended xs p a b (omega (arith, lt)))

-- a session that has learned more of the journal is over still
over-learned : {P : Type 0} (is_own : P → Type 0) (shape : Shape) (known : P → Known) (s q : Session P) → is_own q.pass → HasLearned (known s.pass) (known q.pass) → q ≡ record s { pass = q.pass }
    → IsOver is_own shape known s → IsOver is_own shape known q
over-learned {P} is_own shape known s q own learned same h =
    subst (λ (t : Session P). IsOver is_own shape known t) (sym same)
    (record {
      own = own;
      over = h.over;
      rested = learned-at_end (terms_of shape s.section s.patience) s.plan s.done s.block s.set.channels s.doing (known s.pass) (known q.pass) s.items.items s.items.items h.over learned refl h.rested;
    })

-- one that has rested is over where it was
over-rested : {P : Type 0} (is_own : P → Type 0) (shape : Shape) (known : P → Known) (s q : Session P) → is_own q.pass → HasRest shape known q → q ≡ record s { pass = q.pass }
    → IsOver is_own shape known s → IsOver is_own shape known q
over-rested {P} is_own shape known s q own rested same h = record { own = own; over = ap (λ (t : Session P). t.doing) same ∙ h.over; rested = rested }

-- what two sessions that met are, of which the first told and the second heard
pub record HaveMet {P : Type 0} (is_own : P → Type 0) (shape : Shape) (known : P → Known) (from from_new into into_new : Session P) : Type 0 where
  pub from_own : is_own from_new.pass
  pub into_own : is_own into_new.pass
  pub into_rested : HasRest shape known into_new
  pub told : HasLearned (known from.pass) (known from_new.pass)
  pub heard : HasHeard (known from.pass) (known into.pass) (known into_new.pass)
  pub from_same : from_new ≡ record from { pass = from_new.pass }
  pub into_same : into_new ≡ record into { pass = into_new.pass }

module _ {P : Type 0} (is_own : P → Type 0) (shape : Shape) (known : P → Known) where
  abbrev signals : Session P → ℕ
  signals s = (known s.pass).signalled

  from-over : (from from_new into into_new : Session P) → HaveMet is_own shape known from from_new into into_new → IsOver is_own shape known from → IsOver is_own shape known from_new
  from-over from from_new into into_new m h = over-learned is_own shape known from from_new m.from_own m.told m.from_same h

  into-over : (from from_new into into_new : Session P) → HaveMet is_own shape known from from_new into into_new → IsOver is_own shape known into → IsOver is_own shape known into_new
  into-over from from_new into into_new m h = over-rested is_own shape known into into_new m.into_own m.into_rested m.into_same h

  from-signals : (from from_new into into_new : Session P) → HaveMet is_own shape known from from_new into into_new → signals from_new ≡ signals from
  from-signals from from_new into into_new m = ap (λ (k : Known). k.signalled) m.told.known

  into-signals : (from from_new into into_new : Session P) → HaveMet is_own shape known from from_new into into_new → signals into_new ≡ max (signals into) (signals from)
  into-signals from from_new into into_new m = ap (λ (k : Known). k.signalled) m.heard.known

  from-script : (from from_new into into_new : Session P) → HaveMet is_own shape known from from_new into into_new → script_of from_new ≡ script_of from
  from-script from from_new into into_new m = ap (λ (s : Session P). script_of s) m.from_same

  into-script : (from from_new into into_new : Session P) → HaveMet is_own shape known from from_new into into_new → script_of into_new ≡ script_of into
  into-script from from_new into into_new m = ap (λ (s : Session P). script_of s) m.into_same

  from-shown : (from from_new into into_new : Session P) → HaveMet is_own shape known from from_new into into_new → shown_of from_new ≡ shown_of from
  from-shown from from_new into into_new m = ap (λ (s : Session P). shown_of s) m.from_same

  into-shown : (from from_new into into_new : Session P) → HaveMet is_own shape known from from_new into into_new → shown_of into_new ≡ shown_of into
  into-shown from from_new into into_new m = ap (λ (s : Session P). shown_of s) m.into_same

  -- two neighbours that met, in a list, by a number that each shows
  neighbours : {X : Type 0} (f : Session P → X) (sessions : List (Session P)) (p : ℕ) (a b : Session P) → suc p < length sessions
      → map f (set (take (suc p) sessions) p a ++ set (drop (suc p) sessions) 0 b) ≡ set (set (map f sessions) p (f a)) (suc p) (f b)
  neighbours f sessions p a b lt =
      ap (λ (ss : List (Session P)). map f ss) (mended sessions p a b lt) ∙ map-set f (set sessions p a) (suc p) b ∙ ap (λ (xs : List _). set xs (suc p) (f b)) (map-set f sessions p a)

  -- what each shows stays where neither shows anything new
  neighbours-same : {X : Type 0} (f : Session P → X) (sessions : List (Session P)) (p : ℕ) (a b d : Session P) → suc p < length sessions → f a ≡ f (get_or sessions p d) → f b ≡ f (get_or sessions (suc p) d)
      → map f (set (take (suc p) sessions) p a ++ set (drop (suc p) sessions) 0 b) ≡ map f sessions
  neighbours-same f sessions p a b d lt ea eb =
      neighbours f sessions p a b lt
      ∙ ap (λ (xs : List _). set xs (suc p) (f b)) (sym (map-set f sessions p a) ∙ map-set_same f sessions p a d ea)
      ∙ sym (map-set f sessions (suc p) b) ∙ map-set_same f sessions (suc p) b d eb

  -- they are over still
  neighbours-over : (sessions : List (Session P)) (p : ℕ) (a b : Session P) → IsOver is_own shape known a → IsOver is_own shape known b → All (IsOver is_own shape known) sessions
      → All (IsOver is_own shape known) (set (take (suc p) sessions) p a ++ set (drop (suc p) sessions) 0 b)
  neighbours-over sessions p a b ha hb h =
      All-append (IsOver is_own shape known) (set (take (suc p) sessions) p a) (set (drop (suc p) sessions) 0 b)
      (All-set (IsOver is_own shape known) (take (suc p) sessions) p a ha (All-take (IsOver is_own shape known) (suc p) sessions h))
      (All-set (IsOver is_own shape known) (drop (suc p) sessions) 0 b hb (All-drop (IsOver is_own shape known) (suc p) sessions h))

  -- the number of a place
  signals-there : (sessions : List (Session P)) (k : ℕ) (d : Session P) → k < length sessions → told_at (signals_of known sessions) k ≡ signals (get_or sessions k d)
  signals-there [] k d lt = absurd (omega (arith, lt))
  signals-there (s ∷ sessions) zero d lt = refl
  signals-there (s ∷ sessions) (suc k) d lt = signals-there sessions k d (omega (arith, lt))

  module _ (sessions : List (Session P)) (p : ℕ) (d a b : Session P) (lt : suc p < length sessions) where
    -- up the list: the first tells, the second hears
    module _ (m : HaveMet is_own shape known (get_or sessions p d) a (get_or sessions (suc p) d) b) where
      pub up-over : All (IsOver is_own shape known) sessions → All (IsOver is_own shape known) (set (take (suc p) sessions) p a ++ set (drop (suc p) sessions) 0 b)
      up-over h =
          neighbours-over sessions p a b (from-over (get_or sessions p d) a (get_or sessions (suc p) d) b m (h p d (omega (arith, lt))))
          (into-over (get_or sessions p d) a (get_or sessions (suc p) d) b m (h (suc p) d lt)) h

      pub up-scripts : map script_of (set (take (suc p) sessions) p a ++ set (drop (suc p) sessions) 0 b) ≡ map script_of sessions
      up-scripts =
          neighbours-same (λ (s : Session P). script_of s) sessions p a b d lt (from-script (get_or sessions p d) a (get_or sessions (suc p) d) b m) (into-script (get_or sessions p d) a (get_or sessions (suc p) d) b m)

      pub up-shown : map shown_of (set (take (suc p) sessions) p a ++ set (drop (suc p) sessions) 0 b) ≡ map shown_of sessions
      up-shown =
          neighbours-same (λ (s : Session P). shown_of s) sessions p a b d lt (from-shown (get_or sessions p d) a (get_or sessions (suc p) d) b m) (into-shown (get_or sessions p d) a (get_or sessions (suc p) d) b m)

      pub up-signals : signals_of known (set (take (suc p) sessions) p a ++ set (drop (suc p) sessions) 0 b) ≡ heard_up (signals_of known sessions) (suc p)
      up-signals =
          let ts : List ℕ = signals_of known sessions in
          let first : told_at ts p ≡ signals a = signals-there sessions p d (omega (arith, lt)) ∙ sym (from-signals (get_or sessions p d) a (get_or sessions (suc p) d) b m) in
          let second : signals b ≡ max (told_at ts (suc p)) (told_at ts (suc p - 1)) =
          into-signals (get_or sessions p d) a (get_or sessions (suc p) d) b m
          ∙ ap (λ (n : ℕ). max n (signals (get_or sessions p d))) (sym (signals-there sessions (suc p) d lt))
          ∙ ap (λ (n : ℕ). max (told_at ts (suc p)) n) (sym (signals-there sessions p d (omega (arith, lt))))
          ∙ ap (λ (n : ℕ). max (told_at ts (suc p)) (told_at ts n)) (omega arith) in
          neighbours signals sessions p a b lt
          ∙ ap (λ (xs : List ℕ). set xs (suc p) (signals b)) (ap (λ (n : ℕ). set ts p n) (sym first) ∙ set-get_or ts p 0)
          ∙ ap (λ (n : ℕ). set ts (suc p) n) second

    -- down the list: the second tells, the first hears
    module _ (m : HaveMet is_own shape known (get_or sessions (suc p) d) b (get_or sessions p d) a) where
      pub down-over : All (IsOver is_own shape known) sessions → All (IsOver is_own shape known) (set (take (suc p) sessions) p a ++ set (drop (suc p) sessions) 0 b)
      down-over h =
          neighbours-over sessions p a b (into-over (get_or sessions (suc p) d) b (get_or sessions p d) a m (h p d (omega (arith, lt))))
          (from-over (get_or sessions (suc p) d) b (get_or sessions p d) a m (h (suc p) d lt)) h

      pub down-scripts : map script_of (set (take (suc p) sessions) p a ++ set (drop (suc p) sessions) 0 b) ≡ map script_of sessions
      down-scripts =
          neighbours-same (λ (s : Session P). script_of s) sessions p a b d lt (into-script (get_or sessions (suc p) d) b (get_or sessions p d) a m) (from-script (get_or sessions (suc p) d) b (get_or sessions p d) a m)

      pub down-shown : map shown_of (set (take (suc p) sessions) p a ++ set (drop (suc p) sessions) 0 b) ≡ map shown_of sessions
      down-shown =
          neighbours-same (λ (s : Session P). shown_of s) sessions p a b d lt (into-shown (get_or sessions (suc p) d) b (get_or sessions p d) a m) (from-shown (get_or sessions (suc p) d) b (get_or sessions p d) a m)

      pub down-signals : signals_of known (set (take (suc p) sessions) p a ++ set (drop (suc p) sessions) 0 b) ≡ heard_down (signals_of known sessions) (suc p)
      down-signals =
          let ts : List ℕ = signals_of known sessions in
          let top : ℕ = max (told_at ts (suc p - 1)) (told_at ts (suc p)) in
          let second : signals b ≡ told_at ts (suc p) = from-signals (get_or sessions (suc p) d) b (get_or sessions p d) a m ∙ sym (signals-there sessions (suc p) d lt) in
          let first : signals a ≡ top =
          into-signals (get_or sessions (suc p) d) b (get_or sessions p d) a m
          ∙ ap (λ (n : ℕ). max n (signals (get_or sessions (suc p) d))) (sym (signals-there sessions p d (omega (arith, lt))))
          ∙ ap (λ (n : ℕ). max (told_at ts p) n) (sym (signals-there sessions (suc p) d lt))
          ∙ ap (λ (n : ℕ). max (told_at ts n) (told_at ts (suc p))) (omega arith) in
          let there : told_at (set ts p top) (suc p) ≡ told_at ts (suc p) = get_or-set_other ts p (suc p) top 0 (λ e. no-loop p e) in
          neighbours signals sessions p a b lt
          ∙ ap (λ (n : ℕ). set (set ts p n) (suc p) (signals b)) first
          ∙ ap (λ (n : ℕ). set (set ts p top) (suc p) n) (second ∙ sym there)
          ∙ set-get_or (set ts p top) (suc p) 0
          ∙ ap (λ (n : ℕ). set ts n top) (omega arith)
        where
          no-loop : (p : ℕ) → suc p ≡ p → ⊥
          no-loop p e = omega (arith, e)

-- sessions that are over after two of them met
pub record HaveGoneOn {P : Type 0} (is_own : P → Type 0) (shape : Shape) (known : P → Known) (old new : List (Session P)) (tolds : List ℕ) : Type 0 where
  pub over : All (IsOver is_own shape known) new
  pub scripts : map script_of new ≡ map script_of old
  pub signals : signals_of known new ≡ tolds
  pub shown : map shown_of new ≡ map shown_of old

module _ {P : Type 0} (is_own : P → Type 0) (shape : Shape) (known : P → Known) (sessions : List (Session P)) (d e a b : Session P) where
  -- the halves at a place, and the two neighbours there
  front-at : (p : ℕ) → suc p < length sessions → get_or (take (suc p) sessions) p d ≡ get_or sessions p d
  front-at p lt = get_or-take (suc p) sessions p d (omega arith)

  back-at : (p : ℕ) → suc p < length sessions → get_or (drop (suc p) sessions) 0 e ≡ get_or sessions (suc p) d
  back-at p lt = get_or-drop (suc p) sessions 0 e ∙ ap (λ (n : ℕ). get_or sessions n e) (omega arith) ∙ get_or_default sessions (suc p) e d lt

  up-at : (i : ℕ) → 0 < i → i < length sessions → HaveMet is_own shape known (get_or (take i sessions) (i - 1) d) a (get_or (drop i sessions) 0 e) b → All (IsOver is_own shape known) sessions
      → HaveGoneOn is_own shape known sessions (set (take i sessions) (i - 1) a ++ set (drop i sessions) 0 b) (heard_up (signals_of known sessions) i)
  up-at zero first lt m h = absurd (omega (arith, first))
  up-at (suc p) first lt m h =
      let place : suc p - 1 ≡ p = omega arith in
      let met : HaveMet is_own shape known (get_or sessions p d) a (get_or sessions (suc p) d) b =
      subst (λ (s : Session P). HaveMet is_own shape known s a (get_or sessions (suc p) d) b) (ap (λ (n : ℕ). get_or (take (suc p) sessions) n d) place ∙ front-at p lt)
      (subst (λ (s : Session P). HaveMet is_own shape known (get_or (take (suc p) sessions) (suc p - 1) d) a s b) (back-at p lt) m) in
      subst (λ (n : ℕ). HaveGoneOn is_own shape known sessions (set (take (suc p) sessions) n a ++ set (drop (suc p) sessions) 0 b) (heard_up (signals_of known sessions) (suc p))) (sym place)
      (record { over = up-over is_own shape known sessions p d a b lt met h; scripts = up-scripts is_own shape known sessions p d a b lt met; signals = up-signals is_own shape known sessions p d a b lt met; shown = up-shown is_own shape known sessions p d a b lt met })

  down-at : (i : ℕ) → 0 < i → i < length sessions → HaveMet is_own shape known (get_or (drop i sessions) 0 e) b (get_or (take i sessions) (i - 1) d) a → All (IsOver is_own shape known) sessions
      → HaveGoneOn is_own shape known sessions (set (take i sessions) (i - 1) a ++ set (drop i sessions) 0 b) (heard_down (signals_of known sessions) i)
  down-at zero first lt m h = absurd (omega (arith, first))
  down-at (suc p) first lt m h =
      let place : suc p - 1 ≡ p = omega arith in
      let met : HaveMet is_own shape known (get_or sessions (suc p) d) b (get_or sessions p d) a =
      subst (λ (s : Session P). HaveMet is_own shape known (get_or sessions (suc p) d) b s a) (ap (λ (n : ℕ). get_or (take (suc p) sessions) n d) place ∙ front-at p lt)
      (subst (λ (s : Session P). HaveMet is_own shape known s b (get_or (take (suc p) sessions) (suc p - 1) d) a) (back-at p lt) m) in
      subst (λ (n : ℕ). HaveGoneOn is_own shape known sessions (set (take (suc p) sessions) n a ++ set (drop (suc p) sessions) 0 b) (heard_down (signals_of known sessions) (suc p))) (sym place)
      (record { over = down-over is_own shape known sessions p d a b lt met h; scripts = down-scripts is_own shape known sessions p d a b lt met; signals = down-signals is_own shape known sessions p d a b lt met; shown = down-shown is_own shape known sessions p d a b lt met })

  -- a session that hears from the one before it: the others stay, and what each knows of wakes is as by definition
  pub up-all : (front back : List (Session P)) (i : ℕ) → front ≡ take i sessions → back ≡ drop i sessions → 0 < i → i < length sessions
      → HaveMet is_own shape known (get_or front (i - 1) d) a (get_or back 0 e) b → All (IsOver is_own shape known) sessions
      → HaveGoneOn is_own shape known sessions (set front (i - 1) a ++ set back 0 b) (heard_up (signals_of known sessions) i)
  up-all front back i ef eb first lt =
      subst (λ (f : List (Session P)). HaveMet is_own shape known (get_or f (i - 1) d) a (get_or back 0 e) b → All (IsOver is_own shape known) sessions
      → HaveGoneOn is_own shape known sessions (set f (i - 1) a ++ set back 0 b) (heard_up (signals_of known sessions) i)) (sym ef)
      (subst (λ (k : List (Session P)). HaveMet is_own shape known (get_or (take i sessions) (i - 1) d) a (get_or k 0 e) b → All (IsOver is_own shape known) sessions
      → HaveGoneOn is_own shape known sessions (set (take i sessions) (i - 1) a ++ set k 0 b) (heard_up (signals_of known sessions) i)) (sym eb)
      (up-at i first lt))

  -- the same of one that hears from the one behind it
  pub down-all : (front back : List (Session P)) (i : ℕ) → front ≡ take i sessions → back ≡ drop i sessions → 0 < i → i < length sessions
      → HaveMet is_own shape known (get_or back 0 e) b (get_or front (i - 1) d) a → All (IsOver is_own shape known) sessions
      → HaveGoneOn is_own shape known sessions (set front (i - 1) a ++ set back 0 b) (heard_down (signals_of known sessions) i)
  down-all front back i ef eb first lt =
      subst (λ (f : List (Session P)). HaveMet is_own shape known (get_or back 0 e) b (get_or f (i - 1) d) a → All (IsOver is_own shape known) sessions
      → HaveGoneOn is_own shape known sessions (set f (i - 1) a ++ set back 0 b) (heard_down (signals_of known sessions) i)) (sym ef)
      (subst (λ (k : List (Session P)). HaveMet is_own shape known (get_or k 0 e) b (get_or (take i sessions) (i - 1) d) a → All (IsOver is_own shape known) sessions
      → HaveGoneOn is_own shape known sessions (set (take i sessions) (i - 1) a ++ set k 0 b) (heard_down (signals_of known sessions) i)) (sym eb)
      (down-at i first lt))
