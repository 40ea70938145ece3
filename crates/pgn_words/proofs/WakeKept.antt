-- The steps on wakes keep the rule.
use Rattle.std.proofs.Common.{◌≡◌, ◌≢◌, ◌⊎◌, inl, inr, ⊎_elim, ℕ, zero, suc, ◌+◌, ◌-◌, ◌/◌, ◌<◌, ◌≤◌, ◌==◌, ◌&&◌, ◌||◌, nat_le, not, Bool, true, false, cond, List, [], ◌∷◌, ◌++◌, length, drop, get_or, set, bit_or, Option, Some, All, sym, refl, ap, ◌∙◌, subst, arith, true≢false, length-set, get_or-set_other, get_or-set_same}
use Rattle.std.specs.List.{list_any}
use Rattle.std.proofs.lemmas.Bool.Decides.{nat_tests}
use mathlib.Core.Option.{some, none}
use lib.ListN.{get_elem?}
use native.Mathlib.Decide.{ℕ_discrete}
use Rattle.atomic_table.specs.Table.{Me, Allows, step}
use Rattle.pgn_base.specs.declared.format.Format.{Format}
use Rattle.pgn_lanes.specs.Behind.{is_woken}
use Rattle.pgn_journal.specs.declared.tx.Tx.{Tx}
use Rattle.pgn_journal.proofs.BeginsLaws.{begins-itself, begins-shorter}
use Rattle.pgn_journal.specs.Journal.{next_xid, entries_between, is_committed, IsFinished}
use Rattle.pgn_journal.specs.Due.{is_due_to}
use Rattle.pgn_journal.specs.Near.{Near}
use Rattle.pgn_journal.proofs.NearLaws.{near-shrinks, none-within}
use Rattle.pgn_journal.specs.Packing.{page_start, place, image}
use Rattle.pgn_hub.specs.Shape.{Shape}
use Rattle.pgn_journal.proofs.PackingLemmas.{place_grows, last_place}
use Rattle.pgn_words.specs.declared.pos_word.PosWord.{PosWord}
use Rattle.pgn_words.specs.declared.view.View.{View}
use Rattle.pgn_words.specs.declared.view.Listen.{Listen}
use Rattle.pgn_words.specs.declared.view.Listen.TheVariants.{Registered}
use Rattle.pgn_words.specs.declared.view.Phase.{Phase}
use Rattle.pgn_words.specs.declared.view.Phase.TheVariants.{Signalling}
use Rattle.pgn_words.specs.declared.view.Stage.TheVariants.{Still}
use Rattle.pgn_words.specs.Words.{Content, row, room_of, seats_of, pos_at, wakes_at}
use Rattle.pgn_words.specs.declared.view.Verdict.{Verdict}
use Rattle.pgn_words.specs.declared.view.Verdict.TheVariants.{Unseen, Needed, Decided}
use Rattle.pgn_words.specs.Views.{holds_lock, seat_of, is_open, is_walking}
use Rattle.pgn_words.specs.Positions.{position_in, shown_as, place_or, is_placed}
use Rattle.pgn_words.specs.Waking.{TellsTaken, verdict_on, verdict_of, is_concerned, concerned_db, needs_wake, wake_looked, HasLookedToWake, TellsWakeLook, wake_set, TellsWakeSet}
use Rattle.pgn_words.specs.WakeRule.{served, passed, IsServed, Deems, IsHeard, IsHeeded, Heeds, waits_in, pending, Signals, ended_in}
use Rattle.pgn_words.specs.Rule.{World, KnowsStop, Holds, IsSignalling, Law, Lawful, Keeps}
use Rattle.pgn_words.proofs.EachLaws.{each_turn, each_keep}
use Rattle.pgn_words.proofs.Frames.{seats_keep, locking_keep, history_keep, numbers_keep, budget_keep, statuses_keep}
use Rattle.pgn_words.proofs.MoreFrames.{posts_keep, walks_keep, looks_keep, interests_keep, flags_keep, named_keep, taken_keep}
use Rattle.pgn_words.proofs.LockKept.{setup_of, held_setup, alone}
use Rattle.pgn_words.proofs.HeadKept.{phase_holds}
use Rattle.pgn_words.proofs.StatusKept.{holder_sees}
use Rattle.pgn_words.proofs.NearSteps.{served_near, passed_least, none_between, nothing_more, not_due_elsewhere}
use Rattle.pgn_words.proofs.RowLaws.{get_pos, set_wake_word, get_wake_word}
use Rattle.pgn_words.proofs.PostKept.{turned, turns}
use Rattle.pgn_words.proofs.WalkKept.{seat_within, learned_more}
use Rattle.pgn_words.proofs.MetLaws.{seat_shows, first_mark}
use Rattle.pgn_words.proofs.LookKept.{position_told}
use Rattle.pgn_words.proofs.Meets.{allowed}

-- what was heard is at most what a listener was served of
pub heard_served : (fin : ℕ) (undecided : ℕ → Bool) (i n : ℕ) → IsHeard fin undecided n → n ≤ served undecided fin i
heard_served fin undecided i n h = by_seat (undecided i) refl
  where
    by_seat : (b : Bool) → undecided i ≡ b → n ≤ cond b (fin - 1) fin
    by_seat true e = let low = h.decided i e in omega (arith, low)
    by_seat false e = h.most

-- and at most what it was passed by
pub heard_passed : (fin : ℕ) (undecided concerned : ℕ → Bool) (i n : ℕ) → IsHeard fin undecided n → n ≤ passed undecided concerned fin i
heard_passed fin undecided concerned i n h =
    let low = heard_served fin undecided i n h in by_seats (undecided i) (concerned i) low
  where
    by_seats : (a b : Bool) → n ≤ cond a (fin - 1) fin → n ≤ cond (a && b) (fin - 1) fin
    by_seats true true low = low
    by_seats true false low = omega (arith, low)
    by_seats false b low = low

-- after a wake was taken a read is owed, or the listener is near
after_taking : (wake : ℕ) (owes : Bool) (N : Type 0) → wake ≤ 1 → (wake ≡ 1) ⊎ ((owes ≡ true) ⊎ N) → ((not (wake == 0) || owes) ≡ true) ⊎ N
after_taking wake owes N small h =
    ⊎_elim
    (λ set_now. let some_wake : wake == 0 ≡ false = grind (arith, nat_tests) in inl (ap (λ b. not b || owes) some_wake))
    (λ r. ⊎_elim (λ o. inl (ap (λ b. not (wake == 0) || b) o ∙ or_true (not (wake == 0)))) (λ n. inr n) r)
    h
  where
    or_true : (b : Bool) → (b || true) ≡ true
    or_true true = refl
    or_true false = refl

-- a listener may take its wake
pub take_wake_allowed : (z : Shape) (slots id word : ℕ) (me : Me ℕ View) → word ≡ wakes_at z + (me.0.known.session - 1) → 0 < me.0.known.session → me.0.post.listen ≡ Registered
    → Allows (Lawful z) slots id me word (λ _. 0) (TellsTaken (step slots word 0 0 none) me)
take_wake_allowed z slots id word me there positive registered =
    allowed z slots id word me (λ _. 0) (TellsTaken (step slots word 0 0 none) me) (λ shape c g views h here.
    let v = me.0 in
    let i : ℕ = v.known.session - 1 in
    let number : v.known.session ≡ i + 1 = omega (arith, positive) in
    let within : i < length c.wakes = let low = seat_within z c g views id v i h here number in let a = h.laid.pos_long in let b = h.laid.wakes_long in omega (arith, low, a, b) in
    let n : ℕ = get_or c.wakes i 0 in
    let found : get_or (row c) word 0 ≡ n = ap (λ k. get_or (row c) k 0) there ∙ get_wake_word z c i h.laid within in
    let owes : Bool = not (n == 0) || v.known.owes in
    let look : Option (Bool × Bool) = Some (not (n == 0), v.known.owes) in
    let k : Rattle.pgn_words.specs.declared.view.Walk.Walk = record v.walk { stage = Still } in
    let w : View = turned v.known.told g.past v.known.mark v.known.marks owes look v.known.set v.post k v in
    let setup : v.setup ≡ z = setup_of z c g views id v h here positive in
    let has : is_placed v.post.listen ≡ true = ap is_placed registered in
    let heeded = h.wakes.heeds id v here registered i number in
    let rest = after_taking n v.known.owes (IsServed z.format (is_due_to v.known.db v.known.set) g.past v.post.mark (passed g.undecided g.concerned c.fin i) (served g.undecided c.fin i)) (h.wakes.small i) heeded.still in record {
      w = w;
      content = record c { wakes = set c.wakes i 0 };
      world = g;
      moves = ap (λ e. set (row c) e 0) there ∙ set_wake_word z c i 0 h.laid within;
      law = turns z c g views id v i v.known.told g.past v.known.mark v.known.marks owes look v.known.set v.post k c.pos (set c.wakes i 0) c.interests h here number
          (begins-itself g.past) (begins-shorter v.known.seen g.past (h.history.sees id v here))
          (λ held. sym (holder_sees v.phase z (λ log. Keeps (room_of z) (page_start c.stop) log c.cells) g.past g.shown v.known.seen v.known.session v.known.db v.pen held (h.holding.holds id v here)))
          refl (λ j other. refl) (h.posts.shows id v here i number)
          (λ _. (h.posts.placed id v here has).1) (λ _ low. h.looks.spared id v here has low)
          (h.posts.marks id v here)
          (λ walks. absurd (cc)) (λ shown. absurd (cc))
          (length-set c.wakes i 0) (λ j other. get_or-set_other c.wakes i j 0 0 other) (let none_now = get_or-set_same c.wakes i 0 0 within in omega (arith, none_now))
          refl (λ j other. refl) (λ _. h.interests.covered id v here registered i number)
          (λ _. record { still = inr rest; walked = λ walks. absurd (cc) })
          (λ m x. x) (h.named.current id v here) (h.flags.told id v here);
      told = subst (λ (e : ℕ). TellsTaken (step slots word 0 0 none) me e (w, me.1)) (sym found) (record {
        slots = refl;
        taken = record {
          more = drop (length v.known.seen) g.past;
          view = ap (λ (xs : List Tx). turned v.known.told xs v.known.mark v.known.marks owes look v.known.set v.post k v) (learned_more z c g views id v h here);
          near = λ none_owed.
              subst (λ (y : Shape). Near y.format (is_due_to v.known.db v.known.set) g.past v.post.mark v.known.signalled) (sym setup)
              (⊎_elim
              (λ some_owed. absurd (true≢false (sym some_owed ∙ none_owed)))
              (λ near. served_near z.format (is_due_to v.known.db v.known.set) g.past v.post.mark (passed g.undecided g.concerned c.fin i) (served g.undecided c.fin i) v.known.signalled
              (heard_passed c.fin g.undecided g.concerned i v.known.signalled (h.wakes.heard id v here)) (heard_served c.fin g.undecided i v.known.signalled (h.wakes.heard id v here)) near)
              rest);
        };
        kept = (refl, refl);
      });
    })

-- the holder has decided on a seat: fewer are undecided, and every listener is heeded
decides : (z : Shape) (c : Content) (g : World) (views : List View) (id : ℕ) (v : View) (us : List Verdict) (ws : List ℕ) → Law z c g views → get_elem? views id ≡ some v → v.phase ≡ Signalling
    → length ws ≡ length c.wakes → ((i : ℕ) → get_or ws i 0 ≤ 1) → ((i : ℕ) → waits_in us i ≡ true → g.undecided i ≡ true)
    → ((j : ℕ) (u : View) → get_elem? views j ≡ some u → Heeds z.format g.past c.fin g.undecided g.concerned c.wakes j u → Heeds z.format g.past c.fin (waits_in us) g.concerned ws j u)
    → Law z (record c { wakes = ws }) (record g { undecided = waits_in us }) (set views id (record v { verdicts = us }))
decides z c g views id v us ws h here signals long small fewer heeds =
    let w : View = record v { verdicts = us } in
    let held : holds_lock v.phase ≡ true = ap holds_lock signals in
    let locked = h.locking.locks id v here held in
    let gone : (j : ℕ) (u : View) → j ≢ id → get_elem? views j ≡ some u → holds_lock u.phase ≡ true → ⊥ = alone c.lock g.holder views id v h.locking here held in
    let heard : (n : ℕ) → IsHeard c.fin g.undecided n → IsHeard c.fin (waits_in us) n = λ n p. record { most = p.most; decided = λ i waits. p.decided i (fewer i waits) } in record {
      laid = record { pos_long = h.laid.pos_long; wakes_long = long ∙ h.laid.wakes_long; interests_long = h.laid.interests_long; flags_long = h.laid.flags_long; statuses_long = h.laid.statuses_long; cells_long = h.laid.cells_long };
      seats = seats_keep views id v w here z g.made g.seat h.seats refl refl refl refl;
      locking = locking_keep views id v w here c.lock g.holder h.locking refl refl;
      stored = h.stored;
      history = history_keep views id v w here z c.lock c.fin g.made g.past g.shown h.history refl refl refl refl;
      numbers = numbers_keep views id v w here c.lock c.fin c.xid h.numbers refl refl;
      holding = record {
        holds = each_keep (Holds z c.stop g.past g.shown c.cells) views id v w here h.holding.holds (λ x. x);
        stops = each_keep (KnowsStop c.stop) views id v w here h.holding.stops (λ x. x);
      };
      statuses = statuses_keep views id v w here c.lock g.past c.statuses h.statuses refl refl;
      budget = budget_keep views id v w here z g.made g.past h.budget (omega arith);
      posts = posts_keep views id v w here z.format g.past c.fin c.stop g.made c.tail c.pos h.posts refl refl refl;
      walks = walks_keep views id v w here z.format (room_of z) c.head c.cells h.walks refl refl (omega arith);
      looks = looks_keep views id v w here z.format g.past c.fin c.stop g.looked g.target c.tail h.looks refl refl refl refl;
      wakes = record {
        small = small;
        heeds = each_turn (Heeds z.format g.past c.fin g.undecided g.concerned c.wakes) (Heeds z.format g.past c.fin (waits_in us) g.concerned ws) views id w h.wakes.heeds (heeds id v here (h.wakes.heeds id v here)) (λ j u other there x. heeds j u there x);
        signals = each_turn (Signals g.undecided) (Signals (waits_in us)) views id w h.wakes.signals (λ _ i. sym (ap (λ p. pending p (waits_in us) i) signals)) (λ j u other there x also. absurd (gone j u other there also));
        calm = λ nobody. let is = locked.1 in let positive = locked.2 in absurd (omega (arith, nobody, is, positive));
        heard = each_turn (λ _ u. IsHeard c.fin g.undecided u.known.signalled) (λ _ u. IsHeard c.fin (waits_in us) u.known.signalled) views id w h.wakes.heard (heard v.known.signalled (h.wakes.heard id v here)) (λ j u other there p. heard u.known.signalled p);
        ended = each_keep (λ _ u. u.ended ≡ ended_in u.phase c.fin) views id v w here h.wakes.ended (λ x. x);
      };
      interests = interests_keep views id v w here g.concerned c.interests h.interests refl refl refl (λ x. x);
      flags = flags_keep views id v w here c.fin c.flags h.flags refl (h.flags.told id v here) refl refl;
      named = named_keep views id v w here h.named refl refl refl refl refl;
      taken = taken_keep views id v w here z g.made c.fin g.seat g.past h.taken refl refl;
    }

-- a listener at another seat is served as before
served_same : (before after : ℕ → Bool) (fin i : ℕ) → after i ≡ before i → served after fin i ≡ served before fin i
served_same before after fin i e = ap (λ b. cond b (fin - 1) fin) e

same_heeded : (format : Format) (matters : Tx → Bool) (past : List Tx) (by by' upto upto' wake wake' mark : ℕ) (walks : Bool) (ends : ℕ) (owes : Bool) → by' ≡ by → upto' ≡ upto → wake' ≡ wake
    → IsHeeded format matters past by upto wake mark walks ends owes → IsHeeded format matters past by' upto' wake' mark walks ends owes
same_heeded format matters past by by' upto upto' wake wake' mark walks ends owes b u w h =
    subst (λ (p : ℕ). IsHeeded format matters past p upto' wake' mark walks ends owes) (sym b)
    (subst (λ (n : ℕ). IsHeeded format matters past by n wake' mark walks ends owes) (sym u) (subst (λ (n : ℕ). IsHeeded format matters past by upto n mark walks ends owes) (sym w) h))

-- and so is passed by
passed_same : (before after concerned : ℕ → Bool) (fin i : ℕ) → after i ≡ before i → passed after concerned fin i ≡ passed before concerned fin i
passed_same before after concerned fin i e = ap (λ b. cond (b && concerned i) (fin - 1) fin) e

bit_set : (n : ℕ) → n ≤ 1 → bit_or n 1 ≡ 1
bit_set zero low = refl
bit_set (suc zero) low = refl
bit_set (suc (suc n)) low = absurd (omega (arith, low))

-- a list in which a seat is decided
decided_other : (us : List Verdict) (seat i : ℕ) (b : Verdict) → i ≢ seat → waits_in (set us seat b) i ≡ waits_in us i
decided_other us seat i b other = ap is_open (get_or-set_other us seat i b Decided other)

decided_here : (us : List Verdict) (seat : ℕ) (b : Verdict) → waits_in us seat ≡ true → waits_in (set us seat b) seat ≡ is_open b
decided_here [] seat b waits = absurd (true≢false (sym waits))
decided_here (x ∷ us) zero b waits = refl
decided_here (x ∷ us) (suc seat) b waits = decided_here us seat b waits

-- there is still to decide where a look has found a need
still_open : (b : Bool) → is_open (verdict_of b) ≡ b
still_open true = refl
still_open false = refl

-- who signals may set the wake of a seat that needs it
pub set_wake_allowed : (z : Shape) (slots id word seat : ℕ) (me : Me ℕ View) → word ≡ wakes_at z + seat → seat < seats_of z → me.0.phase ≡ Signalling → verdict_on me.0 seat ≡ Needed
    → Allows (Lawful z) slots id me word (λ n. bit_or n 1) (TellsWakeSet (step slots word 1 0 none) me)
set_wake_allowed z slots id word seat me there room signals needed =
    allowed z slots id word me (λ n. bit_or n 1) (TellsWakeSet (step slots word 1 0 none) me) (λ shape c g views h here.
    let v = me.0 in
    let held : holds_lock v.phase ≡ true = ap holds_lock signals in
    let setup : v.setup ≡ z = held_setup z c g views id v h here held in
    let within : seat < length c.wakes = let long = h.laid.wakes_long in omega (arith, room, long) in
    let n : ℕ = get_or c.wakes seat 0 in
    let found : get_or (row c) word 0 ≡ n = ap (λ k. get_or (row c) k 0) there ∙ get_wake_word z c seat h.laid within in
    let us : List Verdict = set v.verdicts seat Decided in
    let ws : List ℕ = set c.wakes seat 1 in
    let before : (i : ℕ) → g.undecided i ≡ waits_in v.verdicts i = λ i. h.wakes.signals id v here held i ∙ ap (λ p. pending p (waits_in v.verdicts) i) signals in
    let set_now : get_or ws seat 0 ≡ 1 = get_or-set_same c.wakes seat 1 0 within in record {
      w = wake_set seat v;
      content = record c { wakes = ws };
      world = record g { undecided = waits_in us };
      moves = ap (λ k. set (row c) word (bit_or k 1)) found ∙ ap (λ k. set (row c) word k) (bit_set n (h.wakes.small seat)) ∙ ap (λ k. set (row c) k 1) there ∙ set_wake_word z c seat 1 h.laid within;
      law = decides z c g views id v us ws h here signals (length-set c.wakes seat 1)
          (λ i. small_at c.wakes seat i within h.wakes.small (ℕ_discrete i seat))
          (λ i still. before i ∙ fewer v.verdicts seat i still (ℕ_discrete i seat))
          (λ j u their x registered i number.
          heeds_at z.format (is_due_to u.known.db u.known.set) g.past c.fin g.undecided g.concerned c.wakes v.verdicts seat i u.post.mark (is_walking u.walk.stage) u.walk.upto u.known.owes before set_now (x registered i number) (ℕ_discrete i seat));
      told = record {
        slots = refl;
        view = λ other is. let same : seat ≡ other = let e : wakes_at v.setup ≡ wakes_at z = ap wakes_at setup in omega (arith, there, is, e) in ap (λ s. wake_set s v) same;
        same = record { setup = refl; session = refl; db = refl; mark = refl; told = refl; left = refl; owes = refl; ended = refl; base = refl; at = refl };
      };
    })
  where
    small_at : (wakes : List ℕ) (seat i : ℕ) → seat < length wakes → ((k : ℕ) → get_or wakes k 0 ≤ 1) → Dec (i ≡ seat) → get_or (set wakes seat 1) i 0 ≤ 1
    small_at wakes seat i within all (yes e) = let one = get_or-set_same wakes seat 1 0 within in let same : get_or (set wakes seat 1) i 0 ≡ get_or (set wakes seat 1) seat 0 = ap (λ k. get_or (set wakes seat 1) k 0) e in omega (arith, one, same)
    small_at wakes seat i within all (no ne) = let same = get_or-set_other wakes seat i 1 0 ne in let was = all i in omega (arith, same, was)

    fewer : (us : List Verdict) (seat i : ℕ) → waits_in (set us seat Decided) i ≡ true → Dec (i ≡ seat) → waits_in us i ≡ true
    fewer us seat i still (yes e) = absurd (true≢false (sym still ∙ ap (waits_in (set us seat Decided)) e ∙ none_here us seat))
      where
        none_here : (bs : List Verdict) (k : ℕ) → waits_in (set bs k Decided) k ≡ false
        none_here [] k = refl
        none_here (b ∷ bs) zero = refl
        none_here (b ∷ bs) (suc k) = none_here bs k
    fewer us seat i still (no ne) = sym (decided_other us seat i Decided ne) ∙ still

    heeds_at : (format : Format) (matters : Tx → Bool) (past : List Tx) (fin : ℕ) (undecided concerned : ℕ → Bool) (wakes : List ℕ) (us : List Verdict) (seat i mark : ℕ) (walks : Bool) (ends : ℕ) (owes : Bool)
        → ((k : ℕ) → undecided k ≡ waits_in us k) → get_or (set wakes seat 1) seat 0 ≡ 1 → IsHeeded format matters past (passed undecided concerned fin i) (served undecided fin i) (get_or wakes i 0) mark walks ends owes → Dec (i ≡ seat)
        → IsHeeded format matters past (passed (waits_in (set us seat Decided)) concerned fin i) (served (waits_in (set us seat Decided)) fin i) (get_or (set wakes seat 1) i 0) mark walks ends owes
    heeds_at format matters past fin undecided concerned wakes us seat i mark walks ends owes before set_now x (yes e) =
        let is : get_or (set wakes seat 1) i 0 ≡ 1 = ap (λ k. get_or (set wakes seat 1) k 0) e ∙ set_now in record { still = inl is; walked = λ _. inl is }
    heeds_at format matters past fin undecided concerned wakes us seat i mark walks ends owes before set_now x (no ne) =
        let as_before : waits_in (set us seat Decided) i ≡ undecided i = decided_other us seat i Decided ne ∙ sym (before i) in
        same_heeded format matters past (passed undecided concerned fin i) (passed (waits_in (set us seat Decided)) concerned fin i) (served undecided fin i) (served (waits_in (set us seat Decided)) fin i) (get_or wakes i 0) (get_or (set wakes seat 1) i 0) mark walks ends owes
        (passed_same undecided (waits_in (set us seat Decided)) concerned fin i as_before) (served_same undecided (waits_in (set us seat Decided)) fin i as_before) (get_or-set_other wakes seat i 1 0 ne) x

-- a listener whose position needs no wake is served up to the journal's end, by the two cases of the test
served_from : (format : Format) (past before : List Tx) (last : Tx) (fin head db at d own mark m far upto : ℕ) (set : List (List ℕ)) → All IsFinished past → fin ≡ next_xid past → past ≡ before ++ last ∷ [] → last.db ≡ db → 3 ≤ mark → head ≡ length (image format past)
    → at ≡ place format past mark → is_woken head db at d ≡ false → mark ≤ m → fin - 1 ≤ far → (far ≡ fin) ⊎ ((d ≡ db) ⊎ (d ≡ own)) → IsServed format (is_due_to own set) past m far upto → IsServed format (is_due_to own set) past m fin fin
served_from format past before last fin head db at d own mark m far upto set finished counted ends theirs first head_is at_is quiet forth least how near = by_db (d == db) refl
  where
    end : place format past fin ≡ head
    end = last_place format past fin (omega (arith, counted)) ∙ sym head_is

    by_db : (b : Bool) → d == db ≡ b → IsServed format (is_due_to own set) past m fin fin
    by_db true e =
        let same_place : not (at == head) ≡ false = ap (λ b. cond b (not (at == head)) (nat_le (at / 2048 + 4) (head / 2048))) (sym e) ∙ quiet in
        let there : at ≡ head = by_test (at == head) refl same_place in
        let still = near-shrinks format (is_due_to own set) past mark m fin fin (omega arith) forth (none_between format own set past mark fin finished first (sym at_is ∙ there ∙ sym end)) in
        record { nothing_due = still.nothing_due; few_pages = still.few_pages }
      where
        by_test : (b : Bool) → at == head ≡ b → not b ≡ false → at ≡ head
        by_test true e none_there = grind (arith, nat_tests)
        by_test false e none_there = absurd (true≢false none_there)
    by_db false e = record {
      nothing_due = ⊎_elim
          (λ all. subst (λ (n : ℕ). list_any (is_due_to own set) (entries_between past m n) ≡ false) all near.nothing_due)
          (λ r. ⊎_elim
          (λ mine. absurd (let is : d == db ≡ true = grind (arith, nat_tests) in true≢false (sym is ∙ e)))
          (λ is_own.
          let other : last.db ≢ own = λ same. let is : d == db ≡ true = let eq : d ≡ db = is_own ∙ sym same ∙ theirs in grind (arith, nat_tests) in true≢false (sym is ∙ e) in
          nothing_more (is_due_to own set) past before last m fin counted ends (not_due_elsewhere own set last other)
          (none-within (is_due_to own set) past (m - 3) (far - 3) (m - 3) (fin - 1 - 3) (omega arith) (omega (arith, least)) near.nothing_due))
          r)
          how;
      few_pages =
          let few : nat_le (at / 2048 + 4) (head / 2048) ≡ false = ap (λ b. cond b (not (at == head)) (nat_le (at / 2048 + 4) (head / 2048))) (sym e) ∙ quiet in
          let close : head / 2048 < at / 2048 + 4 = grind (arith, nat_tests) in
          let up = place_grows format past mark m forth in omega (arith, close, end, at_is, up);
    }

-- by which database the test is made
tested : (committed concerned : Bool) (mine theirs : ℕ) → (concerned ≡ false) ⊎ ((cond committed (cond concerned theirs 0) mine ≡ mine) ⊎ (cond committed (cond concerned theirs 0) mine ≡ theirs))
tested false concerned mine theirs = inr (inl refl)
tested true true mine theirs = inr (inr refl)
tested true false mine theirs = inl refl

-- whom the transaction does not concern is passed by of all of the journal
unconcerned : (undecided concerned : ℕ → Bool) (fin i : ℕ) → concerned i ≡ false → passed undecided concerned fin i ≡ fin
unconcerned undecided concerned fin i e = ap (λ b. cond (undecided i && b) (fin - 1) fin) e ∙ by_seat (undecided i)
  where
    by_seat : (b : Bool) → cond (b && false) (fin - 1) fin ≡ fin
    by_seat true = refl
    by_seat false = refl

-- who signals may look at a seat at which it has not looked
pub wake_look_allowed : (z : Shape) (slots id word seat : ℕ) (me : Me ℕ View) → word ≡ pos_at + seat → seat < seats_of z → me.0.phase ≡ Signalling → verdict_on me.0 seat ≡ Unseen
    → Allows (Lawful z) slots id me word (λ n. n) (TellsWakeLook (step slots word 0 0 none) me)
wake_look_allowed z slots id word seat me there room signals unseen =
    allowed z slots id word me (λ n. n) (TellsWakeLook (step slots word 0 0 none) me) (λ shape c g views h here.
    let v = me.0 in
    let waits : waits_in v.verdicts seat ≡ true = ap is_open unseen in
    let held : holds_lock v.phase ≡ true = ap holds_lock signals in
    let setup : v.setup ≡ z = held_setup z c g views id v h here held in
    let seen : v.known.seen ≡ g.past = holder_sees v.phase z (λ log. Keeps (room_of z) (page_start c.stop) log c.cells) g.past g.shown v.known.seen v.known.session v.known.db v.pen held (h.holding.holds id v here) in
    let was : IsSignalling g.past g.shown v.known.seen v.known.db v.pen = phase_holds Signalling z c.stop g.past g.shown c.cells id v signals (h.holding.holds id v here) in
    let n : ℕ = get_or c.pos seat 0 in
    let p : PosWord = position_in n in
    let within : seat < length c.pos = let long = h.laid.pos_long in omega (arith, room, long) in
    let found : get_or (row c) word 0 ≡ n = ap (λ k. get_or (row c) k 0) there ∙ get_pos z c seat within in
    let needs : Bool = needs_wake v seat p in
    let us : List Verdict = set v.verdicts seat (verdict_of needs) in
    let before : (i : ℕ) → g.undecided i ≡ waits_in v.verdicts i = λ i. h.wakes.signals id v here held i ∙ ap (λ q. pending q (waits_in v.verdicts) i) signals in
    let head : ℕ = length (image v.setup.format v.known.seen) in
    let head_is : head ≡ length (image z.format g.past) = ap (λ (y : Shape). length (image y.format v.known.seen)) setup ∙ ap (λ (txs : List Tx). length (image z.format txs)) seen in
    let deems : (i : ℕ) → g.concerned i ≡ get_or v.concerned i false = subst (λ (q : Phase). Deems q g.concerned v.concerned) signals (h.interests.deems id v here) in
    let d : ℕ = concerned_db v seat in
    let heeds : (j : ℕ) (u : View) → get_elem? views j ≡ some u → Heeds z.format g.past c.fin g.undecided g.concerned c.wakes j u → Heeds z.format g.past c.fin (waits_in us) g.concerned c.wakes j u = λ j u their x registered i number.
    let old : IsHeeded z.format (is_due_to u.known.db u.known.set) g.past (passed g.undecided g.concerned c.fin i) (served g.undecided c.fin i) (get_or c.wakes i 0) u.post.mark (is_walking u.walk.stage) u.walk.upto u.known.owes = x registered i number in
    let here_again : i ≡ seat → needs ≡ false → (m : ℕ) → u.post.mark ≤ m → IsServed z.format (is_due_to u.known.db u.known.set) g.past m (passed g.undecided g.concerned c.fin i) (served g.undecided c.fin i) → IsServed z.format (is_due_to u.known.db u.known.set) g.past m c.fin c.fin = λ same quiet m forth near.
    let place_there = (h.posts.placed j u their (ap is_placed registered)).1 in
    let shows : p ≡ shown_as u.post.listen u.post.mark u.post.at = seat_shows z c g views seat j u h their (omega (arith, number, same)) in
    let at_is : place_or head p ≡ u.post.at = ap (place_or head) (shows ∙ ap (λ (l : Listen). shown_as l u.post.mark u.post.at) registered) in
    let seat_db : (seat_of v.setup (seat + 1)).db ≡ u.known.db = ap (λ (y : Shape). (seat_of y (seat + 1)).db) setup ∙ ap (λ k. (seat_of z k).db) (let e : seat + 1 ≡ u.known.session = omega (arith, number, same) in e) ∙ sym (h.seats.seated j u their (omega (arith, number))).db_is in
    let asleep : is_woken head v.known.db u.post.at d ≡ false = ap (λ a. is_woken head v.known.db a d) (sym at_is) ∙ quiet in
    let how : (passed g.undecided g.concerned c.fin i ≡ c.fin) ⊎ ((d ≡ v.known.db) ⊎ (d ≡ u.known.db)) =
    ⊎_elim (λ none. inl (unconcerned g.undecided g.concerned c.fin i (deems i ∙ ap (λ k. get_or v.concerned k false) same ∙ none)))
    (λ r. ⊎_elim (λ mine. inr (inl mine)) (λ theirs. inr (inr (theirs ∙ seat_db))) r)
    (tested (is_committed v.pen.ending.fate) (is_concerned v seat) v.known.db (seat_of v.setup (seat + 1)).db) in
    served_from z.format g.past was.before v.pen.ending c.fin head v.known.db u.post.at d u.known.db u.post.mark m (passed g.undecided g.concerned c.fin i) (served g.undecided c.fin i) u.known.set
    h.history.finished h.history.counted was.last was.db_is place_there.least head_is place_there.at_is asleep forth (passed_least g.undecided g.concerned c.fin i) how near in
    heeds_at z.format (is_due_to u.known.db u.known.set) g.past c.fin g.undecided g.concerned c.wakes v.verdicts seat i needs u.post.mark (is_walking u.walk.stage) u.walk.upto u.known.owes before waits old
    (λ same quiet. here_again same quiet u.post.mark (omega arith))
    (λ same quiet walks. here_again same quiet u.walk.upto (h.walks.walking j u their walks).1)
    (ℕ_discrete i seat) needs refl in record {
      w = wake_looked seat p v;
      content = c;
      world = record g { undecided = waits_in us };
      moves = Rattle.std.proofs.lemmas.List.set-get_or (row c) word 0;
      law = decides z c g views id v us c.wakes h here signals refl h.wakes.small (λ i still. before i ∙ fewer v.verdicts seat i (verdict_of needs) waits still (ℕ_discrete i seat)) heeds;
      told = subst (λ (k : ℕ). TellsWakeLook (step slots word 0 0 none) me k (wake_looked seat p v, me.1)) (sym found) (record {
        slots = refl;
        looked = λ other is.
            let same : seat ≡ other = omega (arith, there, is) in
            subst (λ (s : ℕ). HasLookedToWake v s p (wake_looked seat p v)) same (record { view = refl; position = position_told z c g views id v seat h here setup seen });
        low = λ more. first_mark z c g views seat h more;
        same = record { setup = refl; session = refl; db = refl; mark = refl; told = refl; left = refl; owes = refl; ended = refl; base = refl; at = refl };
      });
    })
  where
    fewer : (us : List Verdict) (seat i : ℕ) (b : Verdict) → waits_in us seat ≡ true → waits_in (set us seat b) i ≡ true → Dec (i ≡ seat) → waits_in us i ≡ true
    fewer us seat i b waits still (yes e) = ap (waits_in us) e ∙ waits
    fewer us seat i b waits still (no ne) = sym (decided_other us seat i b ne) ∙ still

    heeds_at : (format : Format) (matters : Tx → Bool) (past : List Tx) (fin : ℕ) (undecided concerned : ℕ → Bool) (wakes : List ℕ) (us : List Verdict) (seat i : ℕ) (needs : Bool) (mark : ℕ) (walks : Bool) (ends : ℕ) (owes : Bool)
        → ((k : ℕ) → undecided k ≡ waits_in us k) → waits_in us seat ≡ true → IsHeeded format matters past (passed undecided concerned fin i) (served undecided fin i) (get_or wakes i 0) mark walks ends owes
        → (i ≡ seat → needs ≡ false → IsServed format matters past mark (passed undecided concerned fin i) (served undecided fin i) → IsServed format matters past mark fin fin)
        → (i ≡ seat → needs ≡ false → walks ≡ true → IsServed format matters past ends (passed undecided concerned fin i) (served undecided fin i) → IsServed format matters past ends fin fin)
        → Dec (i ≡ seat) → (b : Bool) → needs ≡ b → IsHeeded format matters past (passed (waits_in (set us seat (verdict_of needs))) concerned fin i) (served (waits_in (set us seat (verdict_of needs))) fin i) (get_or wakes i 0) mark walks ends owes
    heeds_at format matters past fin undecided concerned wakes us seat i needs mark walks ends owes before waits x near_mark near_end (no ne) b e =
        let as_before : waits_in (set us seat (verdict_of needs)) i ≡ undecided i = decided_other us seat i (verdict_of needs) ne ∙ sym (before i) in
        same_heeded format matters past (passed undecided concerned fin i) (passed (waits_in (set us seat (verdict_of needs))) concerned fin i) (served undecided fin i) (served (waits_in (set us seat (verdict_of needs))) fin i) (get_or wakes i 0) (get_or wakes i 0) mark walks ends owes
        (passed_same undecided (waits_in (set us seat (verdict_of needs))) concerned fin i as_before) (served_same undecided (waits_in (set us seat (verdict_of needs))) fin i as_before) refl x
    heeds_at format matters past fin undecided concerned wakes us seat i needs mark walks ends owes before waits x near_mark near_end (yes e) true needs_it =
        let is : waits_in (set us seat (verdict_of needs)) i ≡ undecided i = ap (waits_in (set us seat (verdict_of needs))) e ∙ decided_here us seat (verdict_of needs) waits ∙ still_open needs ∙ needs_it ∙ sym waits ∙ sym (ap (waits_in us) e) ∙ sym (before i) in
        same_heeded format matters past (passed undecided concerned fin i) (passed (waits_in (set us seat (verdict_of needs))) concerned fin i) (served undecided fin i) (served (waits_in (set us seat (verdict_of needs))) fin i) (get_or wakes i 0) (get_or wakes i 0) mark walks ends owes
        (passed_same undecided (waits_in (set us seat (verdict_of needs))) concerned fin i is) (served_same undecided (waits_in (set us seat (verdict_of needs))) fin i is) refl x
    heeds_at format matters past fin undecided concerned wakes us seat i needs mark walks ends owes before waits x near_mark near_end (yes e) false quiet =
        let decided : waits_in (set us seat (verdict_of needs)) i ≡ false = ap (waits_in (set us seat (verdict_of needs))) e ∙ decided_here us seat (verdict_of needs) waits ∙ still_open needs ∙ quiet in
        let now : served (waits_in (set us seat (verdict_of needs))) fin i ≡ fin = ap (λ b. cond b (fin - 1) fin) decided in
        let by_now : passed (waits_in (set us seat (verdict_of needs))) concerned fin i ≡ fin = ap (λ b. cond (b && concerned i) (fin - 1) fin) decided in
        subst (λ (far : ℕ). IsHeeded format matters past far (served (waits_in (set us seat (verdict_of needs))) fin i) (get_or wakes i 0) mark walks ends owes) (sym by_now)
        (subst (λ (n : ℕ). IsHeeded format matters past fin n (get_or wakes i 0) mark walks ends owes) (sym now) (record {
          still = ⊎_elim (λ set_now. inl set_now) (λ r. ⊎_elim (λ o. inr (inl o)) (λ near. inr (inr (near_mark e quiet near))) r) x.still;
          walked = λ walk. ⊎_elim (λ set_now. inl set_now) (λ near. inr (near_end e quiet walk near)) (x.walked walk);
        }))
