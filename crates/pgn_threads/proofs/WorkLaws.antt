-- Sessions as workers: parts of them, the turns that they take, and what they come to.
use Rattle.std.proofs.Common.{◌≡◌, inl, inr, ◌+◌, ◌<◌, List, [], ◌∷◌, ◌++◌, length, map, length-append, All, Any, Result, Ok, Err, OnOk, OnErr, sym, ap, ◌∙◌, refl, subst, arith}
use Rattle.std.specs.Result.{result_and}
use Rattle.std.proofs.lemmas.List.{map-append, get_or_append_left, get_or-append-add}
use Rattle.std.proofs.lemmas.List.Elements.{All-append, All-cons, All-head, All-nil, All-weaker}
use Rattle.pgn_hub.specs.declared.known.Known.{Known}
use Rattle.pgn_hub.specs.Shape.{Shape}
use Rattle.pgn_session.specs.declared.session.Session.{Session}
use Rattle.pgn_session.specs.Runs.{Script, script_of, IsHeld, IsOver, IsReady, HasGivenUp, HasStopped}
use Rattle.pgn_threads.specs.Whole.{HaveRun}
use Rattle.pgn_threads.specs.Work.{AreReadyHalves, HasTakenTurn, HaveEnded, HaveTakenTurns}
use Rattle.pgn_workers.specs.declared.turn.Turn.{Turn}
use Rattle.pgn_threads.proofs.ListLemmas.{all-first, all-rest, same-count}

-- one of a front, or of what follows it
any-front : {X : Type 0} (Q : X → Type 0) (xs ys : List X) → Any Q xs → Any Q (xs ++ ys)
any-front Q xs ys some = (some.0, some.1, omega (arith, some.2, length-append xs ys), get_or_append_left xs ys some.1 some.0 some.2 ∙ some.3, some.4)

any-behind : {X : Type 0} (Q : X → Type 0) (xs ys : List X) → Any Q ys → Any Q (xs ++ ys)
any-behind Q xs ys some = (length xs + some.0, some.1, omega (arith, some.2, length-append xs ys), get_or-append-add xs ys some.0 some.1 ∙ some.3, some.4)

-- one of some of which each is so
all-any : {X : Type 0} (Q : X → Type 0) (xs : List X) → 0 < length xs → All Q xs → Any Q xs
all-any Q [] some all = absurd (omega (arith, some))
all-any Q (x ∷ xs) some all = (0, x, omega arith, refl, All-head Q x xs all)

module _ {P : Type 0} (is_own : P → Type 0) (shape : Shape) (known : P → Known) where
  -- turns
  pub no-turns : (xs : List (Session P)) → All (IsReady is_own shape known) xs → HaveTakenTurns is_own shape xs xs
  no-turns xs ready = record { held = All-weaker (IsReady is_own shape known) (IsHeld is_own shape) (λ s r. record { own = r.own; served = r.served }) xs ready; scripts = refl }

  -- turns behind turns are turns
  pub further-turns : (xs ys zs : List (Session P)) → HaveTakenTurns is_own shape xs ys → HaveTakenTurns is_own shape ys zs → HaveTakenTurns is_own shape xs zs
  further-turns xs ys zs f g = record { held = g.held; scripts = g.scripts ∙ f.scripts }

  -- the first ones of sessions that are ready are so
  pub front-ready : (xs ys : List (Session P)) → All (IsReady is_own shape known) (xs ++ ys) → All (IsReady is_own shape known) xs
  front-ready xs ys ready = all-first (IsReady is_own shape known) xs ys ready

  -- and those behind them
  pub behind-ready : (xs ys : List (Session P)) → All (IsReady is_own shape known) (xs ++ ys) → All (IsReady is_own shape known) ys
  behind-ready xs ys ready = all-rest (IsReady is_own shape known) xs ys ready

  both-scripts : (left left_new right right_new : List (Session P)) → map script_of left_new ≡ map script_of left → map script_of right_new ≡ map script_of right → map script_of (left_new ++ right_new) ≡ map script_of (left ++ right)
  both-scripts left left_new right right_new l r =
      map-append (λ (s : Session P). script_of s) left_new right_new
      ∙ ap (λ (scripts : List Script). scripts ++ map script_of right_new) l
      ∙ ap (λ (scripts : List Script). map script_of left ++ scripts) r
      ∙ sym (map-append (λ (s : Session P). script_of s) left right)

  -- turns of the first and of those behind them are turns of all
  pub both-turns : (left left_new right right_new : List (Session P)) → HaveTakenTurns is_own shape left left_new → HaveTakenTurns is_own shape right right_new → HaveTakenTurns is_own shape (left ++ right) (left_new ++ right_new)
  both-turns left left_new right right_new l r = record { held = All-append (IsHeld is_own shape) left_new right_new l.held r.held; scripts = both-scripts left left_new right right_new l.scripts r.scripts }

  -- two halves
  both-ran : {A E : Type 0} (left left_new right right_new : List (Session P)) (first second : Result A E) → HaveRun is_own shape known left left_new first → HaveRun is_own shape known right right_new second
      → HaveRun is_own shape known (left ++ right) (left_new ++ right_new) (result_and first second)
  both-ran left left_new right right_new (Ok a) (Ok b) l r = record {
    over = All-append (IsOver is_own shape known) left_new right_new l.over r.over;
    scripts = both-scripts left left_new right right_new l.scripts r.scripts;
    stopped = All-append (HasStopped is_own shape known) left_new right_new l.stopped r.stopped;
    gave_up = tt;
  }
  both-ran left left_new right right_new (Ok a) (Err e) l r = record {
    over = tt;
    scripts = both-scripts left left_new right right_new l.scripts r.scripts;
    stopped = All-append (HasStopped is_own shape known) left_new right_new l.stopped r.stopped;
    gave_up = any-behind (HasGivenUp known) left_new right_new r.gave_up;
  }
  both-ran left left_new right right_new (Err e) second l r = record {
    over = tt;
    scripts = both-scripts left left_new right right_new l.scripts r.scripts;
    stopped = All-append (HasStopped is_own shape known) left_new right_new l.stopped r.stopped;
    gave_up = any-front (HasGivenUp known) left_new right_new l.gave_up;
  }

  -- halves that have run are a whole that has run
  pub both-halves : {A E : Type 0} (whole left left_new right right_new : List (Session P)) (first second : Result A E) → AreReadyHalves is_own shape known whole left right → HaveRun is_own shape known left left_new first
      → HaveRun is_own shape known right right_new second → HaveRun is_own shape known whole (left_new ++ right_new) (result_and first second)
  both-halves whole left left_new right right_new first second halves l r =
      subst (λ (xs : List (Session P)). HaveRun is_own shape known xs (left_new ++ right_new) (result_and first second)) (sym halves.cut) (both-ran left left_new right right_new first second l r)

  -- both halves together are ready still
  pub still-ready : (whole left right : List (Session P)) → AreReadyHalves is_own shape known whole left right → All (IsReady is_own shape known) (left ++ right)
  still-ready whole left right halves = All-append (IsReady is_own shape known) left right halves.left_ready halves.right_ready

  -- and what they come to, run as one, the whole has come to
  pub whole-ran : {A E : Type 0} (whole left right new : List (Session P)) (r : Result A E) → AreReadyHalves is_own shape known whole left right → HaveRun is_own shape known (left ++ right) new r → HaveRun is_own shape known whole new r
  whole-ran whole left right new r halves ran = subst (λ (xs : List (Session P)). HaveRun is_own shape known xs new r) (sym halves.cut) ran

  -- a turn of one session
  pub one-turn : {E : Type 0} (old new : Session P) (r : Result Turn E) → HasTakenTurn is_own shape known old new r → HaveTakenTurns is_own shape (old ∷ []) (new ∷ [])
  one-turn old new r t = record { held = All-cons (IsHeld is_own shape) new [] t.held (All-nil (IsHeld is_own shape)); scripts = ap (λ (c : Script). c ∷ []) t.script }

  -- a wait of sessions that are ready
  pub waited : (old new : List (Session P)) → All (IsReady is_own shape known) new → map script_of new ≡ map script_of old → HaveTakenTurns is_own shape old new
  waited old new ready scripts = record { held = All-weaker (IsReady is_own shape known) (IsHeld is_own shape) (λ s r. record { own = r.own; served = r.served }) new ready; scripts = scripts }

  -- the end of a part
  pub ended : {E : Type 0} (old mid new : List (Session P)) (rounds answer : Result Unit E) → HaveTakenTurns is_own shape old mid → OnOk rounds (All (IsOver is_own shape known) mid) → OnErr rounds (0 < length old)
      → HaveEnded known mid new rounds answer → HaveRun is_own shape known old new answer
  ended {E} old mid new rounds answer turns over some e = subst (λ (r : Result Unit E). HaveRun is_own shape known old new r) (sym e.same) (by rounds over some e.kept e.gave_up)
    where
      by : (r : Result Unit E) → OnOk r (All (IsOver is_own shape known) mid) → OnErr r (0 < length old) → OnOk r (new ≡ mid) → OnErr r (All (HasGivenUp known) new) → HaveRun is_own shape known old new r
      by (Ok a) over some kept gave_up =
          let all : All (IsOver is_own shape known) new = subst (λ (xs : List (Session P)). All (IsOver is_own shape known) xs) (sym kept) over in
          record {
            over = all;
            scripts = e.scripts ∙ turns.scripts;
            stopped = All-weaker (IsOver is_own shape known) (HasStopped is_own shape known) (λ s h. inl h) new all;
            gave_up = tt;
          }
      by (Err x) over some kept gave_up =
          let as_many = same-count (λ (s : Session P). script_of s) new old (e.scripts ∙ turns.scripts) in
          record {
            over = tt;
            scripts = e.scripts ∙ turns.scripts;
            stopped = All-weaker (HasGivenUp known) (HasStopped is_own shape known) (λ s h. inr h) new gave_up;
            gave_up = all-any (HasGivenUp known) new (omega (arith, some, as_many)) gave_up;
          }

  -- sessions whose turns were refused memory can give up
  pub held-after : {E : Type 0} (old mid : List (Session P)) (rounds : Result Unit E) → HaveTakenTurns is_own shape old mid → OnErr rounds (All (IsHeld is_own shape) mid)
  held-after old mid (Ok a) turns = tt
  held-after old mid (Err x) turns = turns.held
