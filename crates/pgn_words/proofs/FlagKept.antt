-- The steps on flags keep the rule.
use Rattle.std.specs.Prelude.{Contains, flat_map}
use Rattle.std.proofs.Common.{◌≡◌, ◌≢◌, ◌⊎◌, inl, inr, ⊎_elim, ℕ, zero, suc, ◌+◌, ◌<◌, ◌≤◌, nat_lt, max, Bool, true, false, ◌&&◌, ◌||◌, is_some, List, [], ◌∷◌, ◌++◌, length, drop, get_or, set, Option, Some, None, All, sym, refl, ap, ◌∙◌, subst, arith, true≢false, length-set, get_or-set_other, get_or-set_same}
use Rattle.std.proofs.lemmas.List.Elements.{All-nil, All-cons, All-head, All-tail, All-weaker, All-contains}
use Rattle.std.proofs.lemmas.Bool.Decides.{nat_tests}
use mathlib.Core.Option.{some, none}
use lib.ListN.{get_elem?}
use native.Mathlib.Decide.{ℕ_discrete, dec_le}
use Rattle.atomic_table.specs.Table.{Me, Allows, step}
use Rattle.pgn_journal.specs.declared.tx.Tx.{Tx}
use Rattle.pgn_journal.specs.Begins.{Begins}
use Rattle.pgn_journal.proofs.BeginsLaws.{begins-itself, begins-shorter}
use Rattle.pgn_journal.specs.Journal.{next_xid, xids_of}
use Rattle.pgn_journal.specs.Packing.{page_start}
use Rattle.pgn_hub.specs.Shape.{Shape, IsShape, notes_of_seats}
use Rattle.pgn_hub.specs.Calls.{owes_after}
use Rattle.pgn_words.specs.declared.view.View.{View}
use Rattle.pgn_words.specs.Words.{Content, row, room_of, flags_at}
use Rattle.pgn_words.specs.Views.{holds_lock}
use Rattle.pgn_words.specs.Waking.{raised, TellsRaised, HasFoundNone, HasFound, TellsLooked}
use Rattle.pgn_words.specs.WakeRule.{IsHeard, IsTold, Signals, ended_in, raised_in, found_in, Raised, IsMost}
use Rattle.pgn_words.specs.Rule.{World, HoldsIn, KnowsStop, Holds, Law, Lawful, Keeps, KnowsAll}
use Rattle.pgn_words.proofs.EachLaws.{each_turn, each_keep, changed_at, own_further}
use Rattle.pgn_words.proofs.Frames.{seats_keep, locking_keep, numbers_keep, budget_keep, statuses_keep, history_keep}
use Rattle.pgn_words.proofs.MoreFrames.{someone_keep, posts_keep, walks_keep, looks_keep, heeds_owing, wakes_keep, interests_keep, named_keep, taken_keep}
use Rattle.pgn_words.proofs.LockKept.{setup_of, few_left, others_hold}
use Rattle.pgn_words.proofs.StatusKept.{holder_sees}
use Rattle.pgn_words.proofs.RowLaws.{set_flag_word, get_flag_word}
use Rattle.pgn_words.proofs.WalkKept.{learned_more}
use Rattle.pgn_words.proofs.Meets.{Goes, allowed}

-- one more in the midst of a list
contains_more : (xs ys : List (ℕ × ℕ)) (x p : ℕ × ℕ) → Contains (xs ++ ys) p → Contains (xs ++ x ∷ [] ++ ys) p
contains_more [] ys x p (k, within, is) = (suc k, omega (arith, within), is)
contains_more (y ∷ xs) ys x p (zero, within, is) = (zero, omega arith, is)
contains_more (y ∷ xs) ys x p (suc k, within, is) = let r = contains_more xs ys x p (k, omega (arith, within), is) in (suc r.0, (let low = r.1 in omega (arith, low)), r.2)

contains_this : (xs ys : List (ℕ × ℕ)) (x : ℕ × ℕ) → Contains (xs ++ x ∷ [] ++ ys) x
contains_this [] ys x = (zero, omega arith, refl)
contains_this (y ∷ xs) ys x = let r = contains_this xs ys x in (suc r.0, (let low = r.1 in omega (arith, low)), r.2)

all_more : (P : ℕ × ℕ → Type 0) (xs ys : List (ℕ × ℕ)) (x : ℕ × ℕ) → All P (xs ++ ys) → P x → All P (xs ++ x ∷ [] ++ ys)
all_more P [] ys x all mine = All-cons P x ys mine all
all_more P (y ∷ xs) ys x all mine = All-cons P y (xs ++ x ∷ [] ++ ys) (All-head P y (xs ++ ys) all) (all_more P xs ys x (All-tail P y (xs ++ ys) all) mine)

flag_at : (flags : List ℕ) (f g x : ℕ) → f < length flags → Dec (g ≡ f) → (P : ℕ → Type 0) → (g ≡ f → P x) → (g ≢ f → P (get_or flags g 0)) → P (get_or (set flags f x) g 0)
flag_at flags f g x within (yes e) P mine other = subst (λ (n : ℕ). P n) (sym (ap (λ k. get_or (set flags f x) k 0) e ∙ get_or-set_same flags f x 0 within)) (mine e)
flag_at flags f g x within (no ne) P mine other = subst (λ (n : ℕ). P n) (sym (get_or-set_other flags f g x 0 ne)) (other ne)

flag_grows : (flags : List ℕ) (f g x : ℕ) → f < length flags → get_or flags f 0 ≤ x → get_or flags g 0 ≤ get_or (set flags f x) g 0
flag_grows flags f g x within up = by_flag (ℕ_discrete g f)
  where
    by_flag : Dec (g ≡ f) → get_or flags g 0 ≤ get_or (set flags f x) g 0
    by_flag (yes e) =
        let now : get_or (set flags f x) g 0 ≡ x = ap (λ k. get_or (set flags f x) k 0) e ∙ get_or-set_same flags f x 0 within in
        let was : get_or flags g 0 ≡ get_or flags f 0 = ap (λ k. get_or flags k 0) e in omega (arith, now, was, up)
    by_flag (no ne) = let same = get_or-set_other flags f g x 0 ne in omega (arith, same)

raises : (z : Shape) (c : Content) (g : World) (views : List View) (id : ℕ) (v : View) (f x : ℕ) → Law z c g views → get_elem? views id ≡ some v → 0 < v.known.session → f < length c.flags → x ≡ max (get_or c.flags f 0) v.known.told
    → Law z (record c { flags = set c.flags f x }) g (set views id (raised f v))
raises z c g views id v f x h here positive within is =
    let w : View = raised f v in
    let told = v.known.told in
    let n : ℕ = get_or c.flags f 0 in
    let mine_told = h.flags.told id v here in
    let first : 3 ≤ told = let low = mine_told.first in let below = mine_told.below in omega (arith, low, below) in
    let up : n ≤ x = omega (arith, is) in
    let finished_x : x ≤ c.fin = let p = h.flags.finished f in let q = mine_told.finished in omega (arith, p, q, is) in
    let rest : List (ℕ × ℕ) = flat_map (λ k. k.raised) v.joined in
    let still : (pair : ℕ × ℕ) → Raised views pair → Raised (set views id w) pair = λ pair r. someone_keep views id v w here (λ u. Contains (raised_in u) pair) refl (λ p. contains_more v.known.raised rest (f, told) pair p) r in
    let mine : Raised (set views id w) (f, told) = (id, w, changed_at views id v w here, positive, contains_this v.known.raised rest (f, told)) in
    let grown : (pair : ℕ × ℕ) → IsMost c.flags pair → IsMost (set c.flags f x) pair = λ pair p. (p.0, let low = p.1 in let more = flag_grows c.flags f pair.0 x within up in omega (arith, low, more)) in
    let top : IsMost (set c.flags f x) (f, told) = (first, let now = get_or-set_same c.flags f x 0 within in omega (arith, now, is)) in record {
      laid = record { pos_long = h.laid.pos_long; wakes_long = h.laid.wakes_long; interests_long = h.laid.interests_long; flags_long = length-set c.flags f x ∙ h.laid.flags_long; statuses_long = h.laid.statuses_long; cells_long = h.laid.cells_long };
      seats = seats_keep views id v w here z g.made g.seat h.seats refl refl refl refl;
      locking = locking_keep views id v w here c.lock g.holder h.locking refl refl;
      stored = h.stored;
      history = history_keep views id v w here z c.lock c.fin g.made g.past g.shown h.history refl refl refl refl;
      numbers = numbers_keep views id v w here c.lock c.fin c.xid h.numbers refl refl;
      holding = record {
        holds = each_keep (Holds z c.stop g.past g.shown c.cells) views id v w here h.holding.holds (λ y. y);
        stops = each_keep (KnowsStop c.stop) views id v w here h.holding.stops (λ y. y);
      };
      statuses = statuses_keep views id v w here c.lock g.past c.statuses h.statuses refl refl;
      budget = budget_keep views id v w here z g.made g.past h.budget (omega arith);
      posts = posts_keep views id v w here z.format g.past c.fin c.stop g.made c.tail c.pos h.posts refl refl refl;
      walks = walks_keep views id v w here z.format (room_of z) c.head c.cells h.walks refl refl (omega arith);
      looks = looks_keep views id v w here z.format g.past c.fin c.stop g.looked g.target c.tail h.looks refl refl refl refl;
      wakes = wakes_keep views id v w here z.format c.lock c.fin g.past g.undecided g.concerned c.wakes h.wakes refl refl refl refl refl refl refl (λ i. refl) refl refl;
      interests = interests_keep views id v w here g.concerned c.interests h.interests refl refl refl (λ x. x);
      flags = record {
        finished = λ e. flag_at c.flags f e x within (ℕ_discrete e f) (λ y. y ≤ c.fin) (λ _. finished_x) (λ _. h.flags.finished e);
        told = each_keep (λ _ u. IsTold c.fin u.known.told u.known.signalled) views id v w here h.flags.told (λ y. y);
        most = each_turn (λ _ u. All (IsMost c.flags) (raised_in u)) (λ _ u. All (IsMost (set c.flags f x)) (raised_in u)) views id w h.flags.most
            (all_more (IsMost (set c.flags f x)) v.known.raised rest (f, told) (All-weaker (IsMost c.flags) (IsMost (set c.flags f x)) grown (raised_in v) (h.flags.most id v here)) top)
            (λ j u other there all. All-weaker (IsMost c.flags) (IsMost (set c.flags f x)) grown (raised_in u) all);
        source = λ e. flag_at c.flags f e x within (ℕ_discrete e f) (λ y. (y ≡ 0) ⊎ Raised (set views id w) (e, y))
            (λ at_f. source_of e at_f (dec_le n told))
            (λ _. ⊎_elim (λ none_raised. inl none_raised) (λ r. inr (still (e, get_or c.flags e 0) r)) (h.flags.source e));
        found = λ j u there. All-weaker (Raised views) (Raised (set views id w)) (λ pair r. still pair r) (found_in u)
            (each_keep (λ _ y. All (Raised views) (found_in y)) views id v w here h.flags.found (λ y. y) j u there);
      };
      named = named_keep views id v w here h.named refl refl refl refl refl;
      taken = taken_keep views id v w here z g.made c.fin g.seat g.past h.taken refl refl;
    }
  where
    source_of : (e : ℕ) → e ≡ f → Dec (get_or c.flags f 0 ≤ v.known.told) → (x ≡ 0) ⊎ Raised (set views id (raised f v)) (e, x)
    source_of e at_f (yes low) =
        let now : v.known.told ≡ x = omega (arith, low, is) in
        let mine : Raised (set views id (raised f v)) (f, v.known.told) = (id, raised f v, changed_at views id v (raised f v) here, positive, contains_this v.known.raised (flat_map (λ k. k.raised) v.joined) (f, v.known.told)) in
        inr (subst (λ (k : ℕ). Raised (set views id (raised f v)) (k, x)) (sym at_f) (subst (λ (k : ℕ). Raised (set views id (raised f v)) (f, k)) now mine))
    source_of e at_f (no high) =
        let now : get_or c.flags f 0 ≡ x = omega (arith, high, is) in
        ⊎_elim
        (λ none_raised. absurd (omega (arith, none_raised, high)))
        (λ r. inr (subst (λ (k : ℕ). Raised (set views id (raised f v)) (k, x)) (sym at_f) (subst (λ (k : ℕ). Raised (set views id (raised f v)) (f, k)) now
        (someone_keep views id v (raised f v) here (λ u. Contains (raised_in u) (f, get_or c.flags f 0)) refl (λ p. contains_more v.known.raised (flat_map (λ k. k.raised) v.joined) (f, v.known.told) (f, get_or c.flags f 0) p) r))))
        (h.flags.source f)

-- a pass may raise a flag to the number that it was told of
pub raise_flag_allowed : (z : Shape) (slots id word flag told : ℕ) (me : Me ℕ View) → 0 < me.0.known.session → word ≡ flags_at z + flag → flag < z.flags → told ≡ me.0.known.told
    → Allows (Lawful z) slots id me word (λ n. max n told) (TellsRaised (step slots word told 0 none) me)
raise_flag_allowed z slots id word flag told me positive there room is =
    allowed z slots id word me (λ n. max n told) (TellsRaised (step slots word told 0 none) me) (λ shape c g views h here.
    let v = me.0 in
    let within : flag < length c.flags = let long = h.laid.flags_long in omega (arith, room, long) in
    let n : ℕ = get_or c.flags flag 0 in
    let found : get_or (row c) word 0 ≡ n = ap (λ k. get_or (row c) k 0) there ∙ get_flag_word z c flag h.laid within in
    let setup : v.setup ≡ z = setup_of z c g views id v h here positive in record {
      w = raised flag v;
      content = record c { flags = set c.flags flag (max n told) };
      world = g;
      moves = ap (λ k. set (row c) word (max k told)) found ∙ ap (λ k. set (row c) k (max n told)) there ∙ set_flag_word z c flag (max n told) h.laid within;
      law = raises z c g views id v flag (max n told) h here positive within (ap (max n) is);
      told = record {
        slots = refl;
        view = λ other word_is. let same : flag ≡ other = let e : flags_at v.setup ≡ flags_at z = ap flags_at setup in omega (arith, there, word_is, e) in ap (λ f. raised f v) same;
        same = record { setup = refl; session = refl; db = refl; mark = refl; told = refl; left = refl; owes = refl; ended = refl; base = refl; at = refl };
      };
    })

-- the pass, once it has looked at a flag
abbrev pub flag_seen : List Tx → ℕ → Bool → List (ℕ × ℕ) → Option (ℕ × Option ℕ) → View → View
flag_seen txs told owes found look v = record v { known = record v.known { seen = txs; told = told; owes = owes; found = found; looks = v.known.looks + 1; flag_look = look } }

looks_at : (z : Shape) (c : Content) (g : World) (views : List View) (id : ℕ) (v : View) (told : ℕ) (owes : Bool) (found : List (ℕ × ℕ)) (look : Option (ℕ × Option ℕ)) → Law z c g views → get_elem? views id ≡ some v
    → IsTold c.fin told v.known.signalled → (v.known.owes ≡ true → owes ≡ true) → All (Raised views) (found ++ flat_map (λ k. k.found) v.joined) → Law z c g (set views id (flag_seen g.past told owes found look v))
looks_at z c g views id v told owes found look h here now owed raised_all =
    let w : View = flag_seen g.past told owes found look v in
    let still : (pair : ℕ × ℕ) → Raised views pair → Raised (set views id w) pair = λ pair r. someone_keep views id v w here (λ u. Contains (raised_in u) pair) refl (λ p. p) r in record {
      laid = h.laid;
      seats = seats_keep views id v w here z g.made g.seat h.seats refl refl refl refl;
      locking = locking_keep views id v w here c.lock g.holder h.locking refl refl;
      stored = h.stored;
      history = record {
        counted = h.history.counted;
        finished = h.history.finished;
        sessions = h.history.sessions;
        written = h.history.written;
        one_more = h.history.one_more;
        begins = h.history.begins;
        free = h.history.free;
        whole = someone_keep views id v w here (KnowsAll g.past) refl (λ _. inl refl) h.history.whole;
        sees = each_keep (λ _ u. Begins u.known.seen g.past) views id v w here h.history.sees (λ _. begins-itself g.past);
        own_seen = each_keep (λ _ u. All (λ x. x < next_xid u.known.seen) u.known.own) views id v w here h.history.own_seen (λ y. own_further v.known.own (length v.known.seen) (length g.past) (begins-shorter v.known.seen g.past (h.history.sees id v here)) y);
        owns = each_keep (λ _ u. u.known.own ≡ xids_of u.known.session g.past) views id v w here h.history.owns (λ y. y);
      };
      numbers = numbers_keep views id v w here c.lock c.fin c.xid h.numbers refl refl;
      holding = record {
        holds = each_keep (Holds z c.stop g.past g.shown c.cells) views id v w here h.holding.holds (λ y. by_lock (holds_lock v.phase) refl y);
        stops = each_keep (KnowsStop c.stop) views id v w here h.holding.stops (λ y. y);
      };
      statuses = statuses_keep views id v w here c.lock g.past c.statuses h.statuses refl refl;
      budget = budget_keep views id v w here z g.made g.past h.budget (omega arith);
      posts = posts_keep views id v w here z.format g.past c.fin c.stop g.made c.tail c.pos h.posts refl refl refl;
      walks = walks_keep views id v w here z.format (room_of z) c.head c.cells h.walks refl refl (begins-shorter v.known.seen g.past (h.history.sees id v here));
      looks = looks_keep views id v w here z.format g.past c.fin c.stop g.looked g.target c.tail h.looks refl refl refl refl;
      wakes = record {
        small = h.wakes.small;
        heeds = heeds_owing views id v w here z.format g.past c.fin g.undecided g.concerned c.wakes h.wakes.heeds refl refl refl refl owed;
        signals = each_keep (Signals g.undecided) views id v w here h.wakes.signals (λ y. y);
        calm = h.wakes.calm;
        heard = each_keep (λ _ u. IsHeard c.fin g.undecided u.known.signalled) views id v w here h.wakes.heard (λ y. y);
        ended = each_keep (λ _ u. u.ended ≡ ended_in u.phase c.fin) views id v w here h.wakes.ended (λ y. y);
      };
      interests = interests_keep views id v w here g.concerned c.interests h.interests refl refl refl (λ x. x);
      flags = record {
        finished = h.flags.finished;
        told = each_keep (λ _ u. IsTold c.fin u.known.told u.known.signalled) views id v w here h.flags.told (λ _. now);
        most = each_keep (λ _ u. All (IsMost c.flags) (raised_in u)) views id v w here h.flags.most (λ y. y);
        source = λ e. ⊎_elim (λ none_raised. inl none_raised) (λ r. inr (still (e, get_or c.flags e 0) r)) (h.flags.source e);
        found = λ j u there. All-weaker (Raised views) (Raised (set views id w)) (λ pair r. still pair r) (found_in u)
            (each_turn (λ _ y. All (Raised views) (found_in y)) (λ _ y. All (Raised views) (found_in y)) views id w h.flags.found raised_all (λ k y other theirs all. all) j u there);
      };
      named = named_keep views id v w here h.named refl refl refl refl refl;
      taken = taken_keep views id v w here z g.made c.fin g.seat g.past h.taken refl refl;
    }
  where
    by_lock : (b : Bool) → holds_lock v.phase ≡ b → Holds z c.stop g.past g.shown c.cells id v → Holds z c.stop g.past g.shown c.cells id (flag_seen g.past told owes found look v)
    by_lock true e y =
        let same : v.known.seen ≡ g.past = holder_sees v.phase z (λ log. Keeps (room_of z) (page_start c.stop) log c.cells) g.past g.shown v.known.seen v.known.session v.known.db v.pen e y in
        subst (λ (xs : List Tx). HoldsIn v.phase z.format (λ log. Keeps (room_of z) (page_start c.stop) log c.cells) g.past g.shown xs v.known.session v.known.db v.pen) same y
    by_lock false e y = others_hold z c.stop g.past g.shown c.cells id (flag_seen g.past told owes found look v) (λ held. true≢false (sym held ∙ e))

-- who finds no flag owes what he owed
owes_as_before : (owes listens : Bool) (told : ℕ) → owes ≡ (owes || (listens && nat_lt told 0))
owes_as_before true listens told = refl
owes_as_before false true told = let none : nat_lt told 0 ≡ false = grind (arith, nat_tests) in sym none
owes_as_before false false told = refl

-- a number that was raised or found for a flag is at most what its word holds
raised_low : (z : Shape) (c : Content) (g : World) (views : List View) (pair : ℕ × ℕ) → Law z c g views → Raised views pair → (3 ≤ pair.1) × (pair.1 ≤ get_or c.flags pair.0 0)
raised_low z c g views pair h (j, u, there, positive, has) = All-contains (IsMost c.flags) (raised_in u) pair (h.flags.most j u there) has

all_front : (P : ℕ × ℕ → Type 0) (xs ys : List (ℕ × ℕ)) → All P (xs ++ ys) → All P xs
all_front P [] ys all = All-nil P
all_front P (x ∷ xs) ys all = All-cons P x xs (All-head P x (xs ++ ys) all) (all_front P xs ys (All-tail P x (xs ++ ys) all))

-- a pass may look at a flag
pub look_flag_allowed : (z : Shape) (slots id word flag : ℕ) (me : Me ℕ View) → 0 < me.0.known.session → word ≡ flags_at z + flag → flag < z.flags
    → Allows (Lawful z) slots id me word (λ n. n) (TellsLooked (step slots word 0 0 none) me)
look_flag_allowed z slots id word flag me positive there room =
    allowed z slots id word me (λ n. n) (TellsLooked (step slots word 0 0 none) me) (λ shape c g views h here.
    let within : flag < length c.flags = let long = h.laid.flags_long in omega (arith, room, long) in
    let found : get_or (row c) word 0 ≡ get_or c.flags flag 0 = ap (λ k. get_or (row c) k 0) there ∙ get_flag_word z c flag h.laid within in
    subst (λ (k : ℕ). Goes z id word me k (TellsLooked (step slots word 0 0 none) me) c views) (sym found) (by_number shape c g views h here within found (ℕ_discrete (get_or c.flags flag 0) 0)))
  where
    keeps_words : (c : Content) → get_or (row c) word 0 ≡ get_or c.flags flag 0 → set (row c) word (get_or c.flags flag 0) ≡ row c
    keeps_words c found = ap (λ k. set (row c) word k) (sym found) ∙ Rattle.std.proofs.lemmas.List.set-get_or (row c) word 0

    flag_is : (c : Content) (g : World) (views : List View) (other : ℕ) → Law z c g views → get_elem? views id ≡ some me.0 → word ≡ flags_at me.0.setup + other → flag ≡ other
    flag_is c g views other h here is = let e : flags_at me.0.setup ≡ flags_at z = ap flags_at (setup_of z c g views id me.0 h here positive) in omega (arith, there, is, e)

    by_number : IsShape z → (c : Content) (g : World) (views : List View) → Law z c g views → get_elem? views id ≡ some me.0 → flag < length c.flags → get_or (row c) word 0 ≡ get_or c.flags flag 0 → Dec (get_or c.flags flag 0 ≡ 0)
        → Goes z id word me (get_or c.flags flag 0) (TellsLooked (step slots word 0 0 none) me) c views
    by_number shape c g views h here within found (yes none_raised) =
        let v = me.0 in
        let w : View = flag_seen g.past v.known.told v.known.owes v.known.found (Some (flag, None)) v in
        let raised_mine : All (Raised views) v.known.found = all_front (Raised views) v.known.found (flat_map (λ k. k.found) v.joined) (h.flags.found id v here) in
        let most_mine : All (IsMost c.flags) v.known.raised = all_front (IsMost c.flags) v.known.raised (flat_map (λ k. k.raised) v.joined) (h.flags.most id v here) in
        let unraised : (pair : ℕ × ℕ) → (3 ≤ pair.1) × (pair.1 ≤ get_or c.flags pair.0 0) → pair.0 ≢ flag = λ pair low same. let a = low.0 in let b = low.1 in let e : get_or c.flags pair.0 0 ≡ 0 = ap (λ k. get_or c.flags k 0) same ∙ none_raised in omega (arith, a, b, e) in record {
          w = w;
          content = c;
          world = g;
          moves = keeps_words c found;
          law = looks_at z c g views id v v.known.told v.known.owes v.known.found (Some (flag, None)) h here (h.flags.told id v here) (λ o. o) (h.flags.found id v here);
          told = subst (λ (k : ℕ). TellsLooked (step slots word 0 0 none) me k (w, me.1)) (sym (found ∙ none_raised)) (record {
            slots = refl;
            none = λ other is _. subst (λ (f : ℕ). HasFoundNone v f w) (flag_is c g views other h here is) (record {
              more = drop (length v.known.seen) g.past;
              view = ap (λ (xs : List Tx). flag_seen xs v.known.told v.known.owes v.known.found (Some (flag, None)) v) (learned_more z c g views id v h here);
              not_raised = All-weaker (IsMost c.flags) (λ (pair : ℕ × ℕ). pair.0 ≢ flag) unraised v.known.raised most_mine;
              not_found = All-weaker (Raised views) (λ (pair : ℕ × ℕ). pair.0 ≢ flag) (λ pair r. unraised pair (raised_low z c g views pair h r)) v.known.found raised_mine;
            });
            found = λ other is some_number. absurd (some_number refl);
            first = λ some_number. absurd (some_number refl);
            low = omega arith;
            told = omega arith;
            owes = owes_as_before v.known.owes (is_some v.known.mark) v.known.told;
            same = record { setup = refl; session = refl; db = refl; mark = refl; told = refl; left = refl; owes = refl; ended = refl; base = refl; at = refl };
          });
        }
    by_number shape c g views h here within found (no some_raised) =
        let v = me.0 in
        let n : ℕ = get_or c.flags flag 0 in
        let told : ℕ = max v.known.told n in
        let owes : Bool = owes_after v.known n in
        let w : View = flag_seen g.past told owes (v.known.found ++ (flag, n) ∷ []) (Some (flag, Some n)) v in
        let raiser : Raised views (flag, n) = ⊎_elim (λ none_raised. absurd (some_raised none_raised)) (λ r. r) (h.flags.source flag) in
        let low = raised_low z c g views (flag, n) h raiser in
        let finished_n = h.flags.finished flag in
        let now : IsTold c.fin told v.known.signalled =
        let t = h.flags.told id v here in let below = t.below in let finished = t.finished in record { first = t.first; below = omega (arith, below); finished = omega (arith, finished, finished_n) } in
        let counted = h.history.counted in
        let left = few_left z g.made g.past views id v h.budget here h.history.finished (setup_of z c g views id v h here positive) in
        let all : notes_of_seats v.setup.seats ≤ 1048575 = let few = shape.few_notes in subst (λ (y : Shape). notes_of_seats y.seats ≤ 1048575) (sym (setup_of z c g views id v h here positive)) few in
        let raised_mine : All (Raised views) v.known.found = all_front (Raised views) v.known.found (flat_map (λ k. k.found) v.joined) (h.flags.found id v here) in
        let most_mine : All (IsMost c.flags) v.known.raised = all_front (IsMost c.flags) v.known.raised (flat_map (λ k. k.raised) v.joined) (h.flags.most id v here) in
        let no_greater : (pair : ℕ × ℕ) → (3 ≤ pair.1) × (pair.1 ≤ get_or c.flags pair.0 0) → pair.0 ≡ flag → pair.1 ≤ n = λ pair is_low same. let b = is_low.1 in let e : get_or c.flags pair.0 0 ≡ n = ap (λ k. get_or c.flags k 0) same in omega (arith, b, e) in record {
          w = w;
          content = c;
          world = g;
          moves = keeps_words c found;
          law = looks_at z c g views id v told owes (v.known.found ++ (flag, n) ∷ []) (Some (flag, Some n)) h here now (λ owed. ap (λ b. b || (is_some v.known.mark && nat_lt v.known.told n)) owed)
              (all_more (Raised views) v.known.found (flat_map (λ k. k.found) v.joined) (flag, n) (h.flags.found id v here) raiser);
          told = subst (λ (k : ℕ). TellsLooked (step slots word 0 0 none) me k (w, me.1)) (sym found) (record {
            slots = refl;
            none = λ other is none_raised. absurd (some_raised none_raised);
            found = λ other is _. subst (λ (f : ℕ). HasFound v f n w) (flag_is c g views other h here is) (record {
              more = drop (length v.known.seen) g.past;
              view = ap (λ (xs : List Tx). flag_seen xs told owes (v.known.found ++ (flag, n) ∷ []) (Some (flag, Some n)) v) (learned_more z c g views id v h here);
              first = low.0;
              within = omega (arith, finished_n, counted);
              after_raised = All-weaker (IsMost c.flags) (λ (pair : ℕ × ℕ). pair.0 ≡ flag → pair.1 ≤ n) no_greater v.known.raised most_mine;
              after_found = All-weaker (Raised views) (λ (pair : ℕ × ℕ). pair.0 ≡ flag → pair.1 ≤ n) (λ pair r. no_greater pair (raised_low z c g views pair h r)) v.known.found raised_mine;
            });
            first = λ _. low.0;
            low = omega (arith, finished_n, counted, left, all);
            told = refl;
            owes = refl;
            same = record { setup = refl; session = refl; db = refl; mark = refl; told = refl; left = refl; owes = refl; ended = refl; base = refl; at = refl };
          });
        }
