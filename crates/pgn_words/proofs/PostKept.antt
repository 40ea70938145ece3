-- What a listener does keeps the rule: one lemma for all that it changes of itself and of its position.
use Rattle.std.specs.Prelude.{Contains}
use Rattle.std.proofs.Common.{◌≡◌, ◌≢◌, ℕ, ◌+◌, ◌<◌, ◌≤◌, Bool, true, false, List, length, get_or, set, Option, All, sym, refl, ap, ◌∙◌, subst, arith, ⊎_elim, inl, inr, true≢false}
use mathlib.Core.Option.{some}
use lib.ListN.{get_elem?}
use native.Mathlib.Decide.{ℕ_discrete}
use Rattle.pgn_journal.specs.declared.tx.Tx.{Tx}
use Rattle.pgn_journal.specs.Begins.{Begins}
use Rattle.pgn_journal.specs.Journal.{next_xid, xids_of}
use Rattle.pgn_journal.specs.Due.{is_due_to}
use Rattle.pgn_journal.specs.Interest.{Covers}
use Rattle.pgn_journal.specs.Packing.{page_start, image}
use Rattle.pgn_hub.specs.Shape.{Shape}
use Rattle.pgn_words.specs.declared.view.View.{View}
use Rattle.pgn_words.specs.declared.view.Post.{Post}
use Rattle.pgn_words.specs.declared.view.Walk.{Walk}
use Rattle.pgn_words.specs.declared.view.Listen.TheVariants.{Registered}
use Rattle.pgn_words.specs.declared.view.Stage.TheVariants.{Shown}
use Rattle.pgn_words.specs.Words.{Content, room_of}
use Rattle.pgn_words.specs.Views.{holds_lock, is_walking}
use Rattle.pgn_words.specs.Positions.{shown_as, word_of, listens_at, is_placed}
use Rattle.pgn_words.specs.ListenRule.{IsPlaced, Placed, Marks, ShowsPosition, Walking, Bounds, LooksBy, Spared}
use Rattle.pgn_words.specs.WakeRule.{served, passed, Covered, Deems, IsHeard, IsHeeded, IsTold, Heeds, Signals, ended_in, named_in, Marked, MarkedBy, IsLast}
use Rattle.pgn_words.specs.Rule.{World, HoldsIn, Holds, KnowsStop, Law, Keeps}
use Rattle.std.proofs.lemmas.List.Elements.{All-weaker}
use Rattle.pgn_words.proofs.EachLaws.{each_turn, each_keep, changed_at, own_further}
use Rattle.pgn_words.proofs.Frames.{seats_keep, locking_keep, numbers_keep, budget_keep, statuses_keep, whole_keep}
use Rattle.pgn_words.proofs.MoreFrames.{still_there, someone_keep, flags_keep, taken_keep}
use Rattle.pgn_words.proofs.LockKept.{others_hold}

-- what a pass has once it has learned of the journal and has changed as a listener
abbrev pub turned : ℕ → List Tx → Option ℕ → List ℕ → Bool → Option (Bool × Bool) → List (List ℕ) → Post → Walk → View → View
turned t txs m ms o wl st q k v = record v { known = record v.known { seen = txs; mark = m; told = t; set = st; marks = ms; owes = o; wake_look = wl }; post = q; walk = k }

-- the law stays where a pass has turned so, with its own position, wake and interest in their words
pub turns : (z : Shape) (c : Content) (g : World) (views : List View) (id : ℕ) (v : View) (i t : ℕ) (txs : List Tx) (m : Option ℕ) (ms : List ℕ) (o : Bool) (wl : Option (Bool × Bool)) (st : List (List ℕ)) (q : Post) (k : Walk) (p ws is : List ℕ)
    → Law z c g views → get_elem? views id ≡ some v → v.known.session ≡ i + 1
    → Begins txs g.past → length v.known.seen ≤ length txs → (holds_lock v.phase ≡ true → txs ≡ v.known.seen)
    → length p ≡ length c.pos → ((j : ℕ) → j ≢ i → get_or p j 0 ≡ get_or c.pos j 0) → get_or p i 0 ≡ word_of (shown_as q.listen q.mark q.at)
    → (is_placed q.listen ≡ true → IsPlaced z.format g.past c.fin c.stop q.mark q.at) → (is_placed q.listen ≡ true → v.known.session ≤ g.looked → g.target ≤ q.at)
    → m ≡ listens_at q
    → (is_walking k.stage ≡ true → (q.listen ≡ Registered) × (q.mark ≤ k.upto) × (k.upto ≤ next_xid txs))
    → (k.stage ≡ Shown → Keeps (room_of z) q.at (image z.format k.shown) c.cells × (length (image z.format k.shown) ≤ c.head))
    → length ws ≡ length c.wakes → ((j : ℕ) → j ≢ i → get_or ws j 0 ≡ get_or c.wakes j 0) → get_or ws i 0 ≤ 1
    → length is ≡ length c.interests → ((j : ℕ) → j ≢ i → get_or is j 0 ≡ get_or c.interests j 0) → (q.listen ≡ Registered → Covers (get_or is i 0) st)
    → (q.listen ≡ Registered → IsHeeded z.format (is_due_to v.known.db st) g.past (passed g.undecided g.concerned c.fin i) (served g.undecided c.fin i) (get_or ws i 0) q.mark (is_walking k.stage) k.upto o)
    → ((n : ℕ) → Contains v.known.marks n → Contains ms n) → (q.listen ≡ Registered → IsLast ms q.mark) → IsTold c.fin t v.known.signalled
    → Law z (record c { pos = p; wakes = ws; interests = is }) g (set views id (turned t txs m ms o wl st q k v))
turns z c g views id v i t txs m ms o wl st q k p ws is h here number begins longer same long elsewhere word placed spared mark walks bounds wlong others_wake one ilong others_interest covers heeds more current told =
    let w : View = turned t txs m ms o wl st q k v in
    let seat = h.seats.seated id v here (omega (arith, number)) in
    let apart : (j n : ℕ) (u : View) → j ≢ id → get_elem? views j ≡ some u → u.known.session ≡ n + 1 → n ≢ i = λ j n u other there theirs equal.
    let one : u.known.session ≡ v.known.session = omega (arith, theirs, number, equal) in
    other (sym (h.seats.seated j u there (omega (arith, theirs))).sits ∙ ap g.seat one ∙ seat.sits) in record {
      laid = record { pos_long = long ∙ h.laid.pos_long; wakes_long = wlong ∙ h.laid.wakes_long; interests_long = ilong ∙ h.laid.interests_long; flags_long = h.laid.flags_long; statuses_long = h.laid.statuses_long; cells_long = h.laid.cells_long };
      seats = seats_keep views id v w here z g.made g.seat h.seats refl refl refl refl;
      locking = locking_keep views id v w here c.lock g.holder h.locking refl refl;
      stored = h.stored;
      history = record {
        counted = h.history.counted;
        finished = h.history.finished;
        sessions = h.history.sessions;
        written = h.history.written;
        one_more = h.history.one_more;
        begins = h.history.begins;
        free = h.history.free;
        whole = whole_keep views id v w here g.past refl refl begins longer h.history.whole;
        sees = each_keep (λ _ u. Begins u.known.seen g.past) views id v w here h.history.sees (λ _. begins);
        own_seen = each_keep (λ _ u. All (λ x. x < next_xid u.known.seen) u.known.own) views id v w here h.history.own_seen (λ x. own_further v.known.own (length v.known.seen) (length txs) longer x);
        owns = each_keep (λ _ u. u.known.own ≡ xids_of u.known.session g.past) views id v w here h.history.owns (λ x. x);
      };
      numbers = numbers_keep views id v w here c.lock c.fin c.xid h.numbers refl refl;
      holding = record {
        holds = each_keep (Holds z c.stop g.past g.shown c.cells) views id v w here h.holding.holds (λ x. by_lock (holds_lock v.phase) refl x);
        stops = each_keep (KnowsStop c.stop) views id v w here h.holding.stops (λ x. x);
      };
      statuses = statuses_keep views id v w here c.lock g.past c.statuses h.statuses refl refl;
      budget = budget_keep views id v w here z g.made g.past h.budget (omega arith);
      posts = record {
        placed = each_turn (Placed z.format g.past c.fin c.stop) (Placed z.format g.past c.fin c.stop) views id w h.posts.placed (λ has. (omega (arith, number), placed has)) (λ j u other there x. x);
        marks = each_turn Marks Marks views id w h.posts.marks mark (λ j u other there x. x);
        shows = each_turn (ShowsPosition c.pos) (ShowsPosition p) views id w h.posts.shows
            (λ n theirs. let at_i : n ≡ i = omega (arith, theirs, number) in ap (λ e. get_or p e 0) at_i ∙ word)
            (λ j u other there x n theirs. elsewhere n (apart j n u other there theirs) ∙ x n theirs);
        owned = λ n some_mark. owned_by n some_mark (ℕ_discrete n i);
        unmade = λ n later. let low = seat.was_made in let none = h.posts.unmade n later in elsewhere n (λ equal. omega (arith, equal, later, low, number)) ∙ none;
        tail_placed = h.posts.tail_placed;
      };
      walks = record {
        walking = each_turn Walking Walking views id w h.walks.walking walks (λ j u other there x. x);
        bounds = each_turn (Bounds z.format (room_of z) c.head c.cells) (Bounds z.format (room_of z) c.head c.cells) views id w h.walks.bounds bounds (λ j u other there x. x);
      };
      looks = record {
        looking = each_keep (LooksBy z.format g.past c.fin g.looked g.target c.tail) views id v w here h.looks.looking (λ x. x);
        spared = each_turn (Spared g.looked g.target) (Spared g.looked g.target) views id w h.looks.spared spared (λ j u other there x. x);
        aims = h.looks.aims;
        above = h.looks.above;
      };
      wakes = record {
        small = λ n. small_at n (ℕ_discrete n i);
        heeds = each_turn (Heeds z.format g.past c.fin g.undecided g.concerned c.wakes) (Heeds z.format g.past c.fin g.undecided g.concerned ws) views id w h.wakes.heeds
            (λ registered n theirs.
            let at_i : i ≡ n = omega (arith, theirs, number) in
            subst (λ (e : ℕ). IsHeeded z.format (is_due_to v.known.db st) g.past (passed g.undecided g.concerned c.fin e) (served g.undecided c.fin e) (get_or ws e 0) q.mark (is_walking k.stage) k.upto o) at_i (heeds registered))
            (λ j u other there x registered n theirs.
            subst (λ (wake : ℕ). IsHeeded z.format (is_due_to u.known.db u.known.set) g.past (passed g.undecided g.concerned c.fin n) (served g.undecided c.fin n) wake u.post.mark (is_walking u.walk.stage) u.walk.upto u.known.owes) (sym (others_wake n (apart j n u other there theirs))) (x registered n theirs));
        signals = each_keep (Signals g.undecided) views id v w here h.wakes.signals (λ x. x);
        calm = h.wakes.calm;
        heard = each_keep (λ _ u. IsHeard c.fin g.undecided u.known.signalled) views id v w here h.wakes.heard (λ x. x);
        ended = each_keep (λ _ u. u.ended ≡ ended_in u.phase c.fin) views id v w here h.wakes.ended (λ x. x);
      };
      interests = record {
        covered = each_turn (Covered c.interests) (Covered is) views id w h.interests.covered
            (λ registered n theirs.
            let at_i : i ≡ n = omega (arith, theirs, number) in
            subst (λ (e : ℕ). Covers (get_or is e 0) st) at_i (covers registered))
            (λ j u other there x registered n theirs.
            subst (λ (bits : ℕ). Covers bits u.known.set) (sym (others_interest n (apart j n u other there theirs))) (x registered n theirs));
        deems = each_keep (λ _ u. Deems u.phase g.concerned u.concerned) views id v w here h.interests.deems (λ x. x);
      };
      flags = flags_keep views id v w here c.fin c.flags h.flags refl told refl refl;
      named = record {
        current = each_turn (λ _ u. u.post.listen ≡ Registered → IsLast u.known.marks u.post.mark) (λ _ u. u.post.listen ≡ Registered → IsLast u.known.marks u.post.mark) views id w h.named.current current (λ j u other there x. x);
        named = λ j u there. All-weaker (Marked views) (Marked (set views id w))
            (λ pair x. someone_keep views id v w here (MarkedBy pair) refl (λ y. ⊎_elim (λ mine. inl (mine.0, more pair.1 mine.1)) (λ theirs. inr theirs) y) x) (named_in u)
            (each_keep (λ _ x. All (Marked views) (named_in x)) views id v w here h.named.named (λ x. x) j u there);
      };
      taken = taken_keep views id v w here z g.made c.fin g.seat g.past h.taken refl refl;
    }
  where
    by_lock : (b : Bool) → holds_lock v.phase ≡ b → Holds z c.stop g.past g.shown c.cells id v → Holds z c.stop g.past g.shown c.cells id (turned t txs m ms o wl st q k v)
    by_lock true e x = subst (λ (xs : List Tx). HoldsIn v.phase z.format (λ log. Keeps (room_of z) (page_start c.stop) log c.cells) g.past g.shown xs v.known.session v.known.db v.pen) (sym (same e)) x
    by_lock false e x = others_hold z c.stop g.past g.shown c.cells id (turned t txs m ms o wl st q k v) (λ held. true≢false (sym held ∙ e))

    owned_by : (n : ℕ) → 2 ≤ get_or p n 0 → Dec (n ≡ i) → (j : ℕ) × (u : View) × (get_elem? (set views id (turned t txs m ms o wl st q k v)) j ≡ some u) × (u.known.session ≡ n + 1)
    owned_by n some_mark (yes e) = (id, turned t txs m ms o wl st q k v, changed_at views id v (turned t txs m ms o wl st q k v) here, omega (arith, number, e))
    owned_by n some_mark (no ne) = let at_n = elsewhere n ne in still_there views id v (turned t txs m ms o wl st q k v) here (λ u. u.known.session ≡ n + 1) (λ x. x) (h.posts.owned n (omega (arith, some_mark, at_n)))

    small_at : (n : ℕ) → Dec (n ≡ i) → get_or ws n 0 ≤ 1
    small_at n (yes e) = subst (λ (k : ℕ). get_or ws k 0 ≤ 1) (sym e) one
    small_at n (no ne) = let same = others_wake n ne in let was = h.wakes.small n in omega (arith, same, was)

-- the same where its wake stays
pub moves_on : (z : Shape) (c : Content) (g : World) (views : List View) (id : ℕ) (v : View) (i t : ℕ) (txs : List Tx) (m : Option ℕ) (ms : List ℕ) (o : Bool) (st : List (List ℕ)) (q : Post) (k : Walk) (p : List ℕ)
    → Law z c g views → get_elem? views id ≡ some v → v.known.session ≡ i + 1
    → Begins txs g.past → length v.known.seen ≤ length txs → (holds_lock v.phase ≡ true → txs ≡ v.known.seen)
    → length p ≡ length c.pos → ((j : ℕ) → j ≢ i → get_or p j 0 ≡ get_or c.pos j 0) → get_or p i 0 ≡ word_of (shown_as q.listen q.mark q.at)
    → (is_placed q.listen ≡ true → IsPlaced z.format g.past c.fin c.stop q.mark q.at) → (is_placed q.listen ≡ true → v.known.session ≤ g.looked → g.target ≤ q.at)
    → m ≡ listens_at q
    → (is_walking k.stage ≡ true → (q.listen ≡ Registered) × (q.mark ≤ k.upto) × (k.upto ≤ next_xid txs))
    → (k.stage ≡ Shown → Keeps (room_of z) q.at (image z.format k.shown) c.cells × (length (image z.format k.shown) ≤ c.head))
    → (q.listen ≡ Registered → Covers (get_or c.interests i 0) st)
    → (q.listen ≡ Registered → IsHeeded z.format (is_due_to v.known.db st) g.past (passed g.undecided g.concerned c.fin i) (served g.undecided c.fin i) (get_or c.wakes i 0) q.mark (is_walking k.stage) k.upto o)
    → ((n : ℕ) → Contains v.known.marks n → Contains ms n) → (q.listen ≡ Registered → IsLast ms q.mark) → IsTold c.fin t v.known.signalled
    → Law z (record c { pos = p }) g (set views id (turned t txs m ms o v.known.wake_look st q k v))
moves_on z c g views id v i t txs m ms o st q k p h here number begins longer same long elsewhere word placed spared mark walks bounds covers heeds more current told =
    turns z c g views id v i t txs m ms o v.known.wake_look st q k p c.wakes c.interests h here number begins longer same long elsewhere word placed spared mark walks bounds refl (λ j other. refl) (h.wakes.small i) refl (λ j other. refl) covers heeds more current told

-- and where it is told no more
abbrev pub moved : List Tx → Option ℕ → List ℕ → Bool → List (List ℕ) → Post → Walk → View → View
moved txs m ms o st q k v = record v { known = record v.known { seen = txs; mark = m; set = st; marks = ms; owes = o }; post = q; walk = k }

-- the same where its wake and its interest stay too
pub moves : (z : Shape) (c : Content) (g : World) (views : List View) (id : ℕ) (v : View) (i : ℕ) (txs : List Tx) (m : Option ℕ) (ms : List ℕ) (o : Bool) (st : List (List ℕ)) (q : Post) (k : Walk) (p : List ℕ)
    → Law z c g views → get_elem? views id ≡ some v → v.known.session ≡ i + 1
    → Begins txs g.past → length v.known.seen ≤ length txs → (holds_lock v.phase ≡ true → txs ≡ v.known.seen)
    → length p ≡ length c.pos → ((j : ℕ) → j ≢ i → get_or p j 0 ≡ get_or c.pos j 0) → get_or p i 0 ≡ word_of (shown_as q.listen q.mark q.at)
    → (is_placed q.listen ≡ true → IsPlaced z.format g.past c.fin c.stop q.mark q.at) → (is_placed q.listen ≡ true → v.known.session ≤ g.looked → g.target ≤ q.at)
    → m ≡ listens_at q
    → (is_walking k.stage ≡ true → (q.listen ≡ Registered) × (q.mark ≤ k.upto) × (k.upto ≤ next_xid txs))
    → (k.stage ≡ Shown → Keeps (room_of z) q.at (image z.format k.shown) c.cells × (length (image z.format k.shown) ≤ c.head))
    → (q.listen ≡ Registered → Covers (get_or c.interests i 0) st)
    → (q.listen ≡ Registered → IsHeeded z.format (is_due_to v.known.db st) g.past (passed g.undecided g.concerned c.fin i) (served g.undecided c.fin i) (get_or c.wakes i 0) q.mark (is_walking k.stage) k.upto o)
    → ((n : ℕ) → Contains v.known.marks n → Contains ms n) → (q.listen ≡ Registered → IsLast ms q.mark)
    → Law z (record c { pos = p }) g (set views id (moved txs m ms o st q k v))
moves z c g views id v i txs m ms o st q k p h here number begins longer same long elsewhere word placed spared mark walks bounds covers heeds more current =
    moves_on z c g views id v i v.known.told txs m ms o st q k p h here number begins longer same long elsewhere word placed spared mark walks bounds covers heeds more current (h.flags.told id v here)
