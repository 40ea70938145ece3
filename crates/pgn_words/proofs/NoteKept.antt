-- The writing of a note, and the joining of one, keep the rule.
use Rattle.std.specs.Prelude.{Contains}
use Rattle.std.proofs.Common.{◌≡◌, ◌≢◌, ⊎_elim, inl, inr, get_or, ℕ, ◌+◌, ◌<◌, ◌≤◌, ◌==◌, nat_lt, max, Bool, true, false, ◌&&◌, ◌||◌, is_some, cond, List, [], ◌∷◌, ◌++◌, length, drop, set, All, sym, refl, ap, ◌∙◌, subst, arith}
use Rattle.std.proofs.lemmas.List.{append-nil, drop_all, length-append}
use Rattle.std.proofs.lemmas.List.Elements.{All-nil, All-head, All-tail, All-weaker}
use Rattle.std.proofs.lemmas.Bool.Decides.{nat_tests}
use mathlib.Core.Option.{some, some-injective}
use lib.ListN.{get_elem?}
use native.Mathlib.Decide.{dec_le}
use Rattle.atomic_table.specs.Table.{Splits, Joins}
use Rattle.atomic_table.proofs.Lists.{at_longer, set_again, set_else}
use Rattle.pgn_journal.specs.declared.tx.Tx.{Tx}
use Rattle.pgn_journal.specs.Begins.{Begins}
use Rattle.pgn_journal.proofs.BeginsLaws.{begins-none, begins-rest, begins-alike}
use Rattle.pgn_journal.specs.Journal.{next_xid, xids_from, xids_of}
use Rattle.pgn_hub.specs.Shape.{Shape}
use Rattle.pgn_hub.specs.Calls.{owes_after}
use Rattle.pgn_words.specs.declared.view.View.{View}
use Rattle.pgn_words.specs.Words.{Content, room_of}
use Rattle.pgn_words.specs.Views.{holds_lock, spent_by}
use Rattle.pgn_words.specs.declared.view.Listen.TheVariants.{Registered}
use Rattle.pgn_words.specs.Each.{Someone}
use Rattle.pgn_words.specs.ListenRule.{Placed, Marks, ShowsPosition, Walking, Bounds, LooksBy, Spared}
use Rattle.pgn_words.specs.WakeRule.{IsHeard, IsTold, Heeds, Covered, Deems, Signals, ended_in, raised_in, found_in, named_in, Raised, IsMost, MarkedBy, Marked, IsTaken, IsLast}
use Rattle.pgn_words.specs.Rule.{World, Seated, Makes, Locks, WasMade, Draws, KnowsStop, Holds, Fates, Law, Lawful, KnowsAll}
use Rattle.pgn_words.specs.Told.{noted, joined, longer, spent_view}
use Rattle.pgn_words.proofs.EachLaws.{each_turn, each_made, sum_set, sum_made}
use Rattle.pgn_words.proofs.MoreFrames.{told_first}
use Rattle.pgn_words.proofs.MoreMade.{flags_more, named_more, someone_more}
use Rattle.pgn_words.proofs.StatusKept.{hears}

-- no transaction is of the number 0
pub none_of_no : (z : Shape) (x made : ℕ) (past : List Tx) → All (WasMade z made) past → xids_from 0 x past ≡ []
none_of_no z x made [] all = refl
none_of_no z x made (tx ∷ past) all =
    let first = All-head (WasMade z made) tx past all in
    let other : tx.session == 0 ≡ false = let low = first.0 in grind (arith, nat_tests) in
    ap (λ b. cond b (x ∷ xids_from 0 (x + 1) past) (xids_from 0 (x + 1) past)) other ∙ none_of_no z (x + 1) made past (All-tail (WasMade z made) tx past all)

-- at one seat is one pass
pub at_one : (views : List View) (id : ℕ) (v : View) → get_elem? views id ≡ some v → v.known.session ≡ 0 → (j : ℕ) (u : View) → get_elem? views j ≡ some u → j ≡ id → u.known.session ≡ 0
at_one views id v here number j u there same = let one : v ≡ u = some-injective v u (sym here ∙ ap (get_elem? views) (sym same) ∙ there) in ap (λ (x : View). x.known.session) (sym one) ∙ number

-- the pass of a session is another one than a view that is no session's
someone_else : (views : List View) (id : ℕ) (v w : View) → get_elem? views id ≡ some v → v.known.session ≡ 0 → (P : View → Type 0) → Someone P views → Someone P (set views id w)
someone_else views id v w here number P (j, u, there, positive, p) =
    let other : j ≢ id = λ same. let none = at_one views id v here number j u there same in omega (arith, none, positive) in
    (j, u, set_else views id j w other ∙ there, positive, p)

-- one more view, which is no session's and knows a prefix of the journal
notes : (z : Shape) (c : Content) (g : World) (views : List View) (id : ℕ) (v : View) → Law z c g views → get_elem? views id ≡ some v → Law z c g (views ++ noted v ∷ [])
notes z c g views id v h here =
    let w : View = noted v in record {
      laid = h.laid;
      seats = record {
        few = h.seats.few;
        seated = each_made (Seated z g.made g.seat) views w h.seats.seated (λ positive. absurd (omega (arith, positive)));
        makes = each_made (Makes g.made) views w h.seats.makes (λ positive. absurd (omega (arith, positive)));
      };
      locking = record {
        locks = each_made (Locks c.lock g.holder) views w h.locking.locks (λ held. absurd (cc));
        owned = λ lock. let o = h.locking.owned lock in (o.0, at_longer views (w ∷ []) g.holder o.0 o.1, o.2, o.3);
      };
      stored = h.stored;
      history = record {
        counted = h.history.counted;
        finished = h.history.finished;
        sessions = h.history.sessions;
        written = h.history.written;
        one_more = h.history.one_more;
        begins = h.history.begins;
        free = h.history.free;
        whole = someone_more views w (KnowsAll g.past) h.history.whole;
        sees = each_made (λ _ u. Begins u.known.seen g.past) views w h.history.sees (h.history.sees id v here);
        own_seen = each_made (λ _ u. All (λ x. x < next_xid u.known.seen) u.known.own) views w h.history.own_seen (All-nil (λ (x : ℕ). x < next_xid v.known.seen));
        owns = each_made (λ _ u. u.known.own ≡ xids_of u.known.session g.past) views w h.history.owns (sym (none_of_no z 3 g.made g.past h.history.sessions));
      };
      numbers = record { free = h.numbers.free; draws = each_made (Draws c.fin c.xid) views w h.numbers.draws (λ held. absurd (cc)) };
      holding = record {
        holds = each_made (Holds z c.stop g.past g.shown c.cells) views w h.holding.holds tt;
        stops = each_made (KnowsStop c.stop) views w h.holding.stops (λ held. absurd (cc));
      };
      statuses = record {
        below = h.statuses.below;
        above = h.statuses.above;
        free = h.statuses.free;
        fates = each_made (Fates g.past c.statuses) views w h.statuses.fates (λ held. absurd (cc));
      };
      budget = let before = h.budget in let more = sum_made spent_by views w in omega (arith, before, more);
      posts = record {
        placed = each_made (Placed z.format g.past c.fin c.stop) views w h.posts.placed (λ has. absurd (cc));
        marks = each_made Marks views w h.posts.marks refl;
        shows = each_made (ShowsPosition c.pos) views w h.posts.shows (λ i number. absurd (omega (arith, number)));
        owned = λ i some_mark. let o = h.posts.owned i some_mark in (o.0, o.1, at_longer views (w ∷ []) o.0 o.1 o.2, o.3);
        unmade = h.posts.unmade;
        tail_placed = h.posts.tail_placed;
      };
      walks = record {
        walking = each_made Walking views w h.walks.walking (λ walks. absurd (cc));
        bounds = each_made (Bounds z.format (room_of z) c.head c.cells) views w h.walks.bounds (λ bounded. absurd (cc));
      };
      looks = record {
        looking = each_made (LooksBy z.format g.past c.fin g.looked g.target c.tail) views w h.looks.looking (λ held. absurd (cc));
        spared = each_made (Spared g.looked g.target) views w h.looks.spared (λ has. absurd (cc));
        aims = h.looks.aims;
        above = h.looks.above;
      };
      wakes = record {
        small = h.wakes.small;
        heeds = each_made (Heeds z.format g.past c.fin g.undecided g.concerned c.wakes) views w h.wakes.heeds (λ registered. absurd (cc));
        signals = each_made (Signals g.undecided) views w h.wakes.signals (λ held. absurd (cc));
        calm = h.wakes.calm;
        heard = each_made (λ _ u. IsHeard c.fin g.undecided u.known.signalled) views w h.wakes.heard (h.wakes.heard id v here);
        ended = each_made (λ _ u. u.ended ≡ ended_in u.phase c.fin) views w h.wakes.ended refl;
      };
      interests = record { covered = each_made (Covered c.interests) views w h.interests.covered (λ registered. absurd (cc)); deems = each_made (λ _ u. Deems u.phase g.concerned u.concerned) views w h.interests.deems tt };
      flags = flags_more views w c.fin c.flags h.flags (h.flags.told id v here) refl refl;
      named = named_more views w h.named (λ registered. absurd (cc)) refl;
      taken = each_made (λ j u. All (IsTaken z g.made c.fin g.seat g.past j u.known.session) u.joined) views w h.taken (All-nil (IsTaken z g.made c.fin g.seat g.past (length views) 0));
    }

-- a pass may split off a note of what it was told
pub note_allowed : (z : Shape) (id : ℕ) (v : View) → Splits (Lawful z) id v v (noted v)
note_allowed z id v s holds here = record {
  shape = holds.shape;
  content = holds.content;
  world = holds.world;
  stands = holds.stands;
  law = subst (λ (us : List View). Law z holds.content holds.world (us ++ noted v ∷ [])) (sym (set_again s.views id v here)) (notes z holds.content holds.world s.views id v holds.law here);
}

-- a view that is no session's is spent
spends : (z : Shape) (c : Content) (g : World) (views : List View) (id : ℕ) (v : View) → Law z c g views → get_elem? views id ≡ some v → v.known.session ≡ 0 → Law z c g (set views id spent_view)
spends z c g views id v h here number =
    let heard_first : IsHeard c.fin g.undecided 3 = let t = h.wakes.heard id v here in let first = (h.flags.told id v here).first in record { most = let most = t.most in omega (arith, most, first); decided = λ i waits. let low = t.decided i waits in omega (arith, low, first) } in
    let w : View = spent_view in record {
      laid = h.laid;
      seats = record {
        few = h.seats.few;
        seated = each_turn (Seated z g.made g.seat) (Seated z g.made g.seat) views id w h.seats.seated (λ positive. absurd (omega (arith, positive))) (λ j u other there p. p);
        makes = each_turn (Makes g.made) (Makes g.made) views id w h.seats.makes (λ positive. absurd (omega (arith, positive))) (λ j u other there p. p);
      };
      locking = record {
        locks = each_turn (Locks c.lock g.holder) (Locks c.lock g.holder) views id w h.locking.locks (λ held. absurd (cc)) (λ j u other there p. p);
        owned = λ lock.
            let o = h.locking.owned lock in
            let other : g.holder ≢ id = λ same.
            let one : v ≡ o.0 = some-injective v o.0 (sym here ∙ ap (get_elem? views) (sym same) ∙ o.1) in
            lock (sym o.2 ∙ ap (λ (x : View). x.known.session) (sym one) ∙ number) in
            (o.0, set_else views id g.holder w other ∙ o.1, o.2, o.3);
      };
      stored = h.stored;
      history = record {
        counted = h.history.counted;
        finished = h.history.finished;
        sessions = h.history.sessions;
        written = h.history.written;
        one_more = h.history.one_more;
        begins = h.history.begins;
        free = h.history.free;
        whole = someone_else views id v w here number (KnowsAll g.past) h.history.whole;
        sees = each_turn (λ _ u. Begins u.known.seen g.past) (λ _ u. Begins u.known.seen g.past) views id w h.history.sees (begins-none g.past) (λ j u other there p. p);
        own_seen = each_turn (λ _ u. All (λ x. x < next_xid u.known.seen) u.known.own) (λ _ u. All (λ x. x < next_xid u.known.seen) u.known.own) views id w h.history.own_seen (All-nil (λ (x : ℕ). x < 3)) (λ j u other there p. p);
        owns = each_turn (λ _ u. u.known.own ≡ xids_of u.known.session g.past) (λ _ u. u.known.own ≡ xids_of u.known.session g.past) views id w h.history.owns
            (sym (none_of_no z 3 g.made g.past h.history.sessions)) (λ j u other there p. p);
      };
      numbers = record { free = h.numbers.free; draws = each_turn (Draws c.fin c.xid) (Draws c.fin c.xid) views id w h.numbers.draws (λ held. absurd (cc)) (λ j u other there p. p) };
      holding = record {
        holds = each_turn (Holds z c.stop g.past g.shown c.cells) (Holds z c.stop g.past g.shown c.cells) views id w h.holding.holds tt (λ j u other there p. p);
        stops = each_turn (KnowsStop c.stop) (KnowsStop c.stop) views id w h.holding.stops (λ held. absurd (cc)) (λ j u other there p. p);
      };
      statuses = record {
        below = h.statuses.below;
        above = h.statuses.above;
        free = h.statuses.free;
        fates = each_turn (Fates g.past c.statuses) (Fates g.past c.statuses) views id w h.statuses.fates (λ held. absurd (cc)) (λ j u other there p. p);
      };
      budget = let before = h.budget in let all = sum_set spent_by views id v w here in omega (arith, before, all);
      posts = record {
        placed = each_turn (Placed z.format g.past c.fin c.stop) (Placed z.format g.past c.fin c.stop) views id w h.posts.placed (λ has. absurd (cc)) (λ j u other there p. p);
        marks = each_turn Marks Marks views id w h.posts.marks refl (λ j u other there p. p);
        shows = each_turn (ShowsPosition c.pos) (ShowsPosition c.pos) views id w h.posts.shows (λ i one. absurd (omega (arith, one))) (λ j u other there p. p);
        owned = λ i some_mark.
            let o = h.posts.owned i some_mark in
            let theirs = o.3 in
            let other : o.0 ≢ id = λ same. let none = at_one views id v here number o.0 o.1 o.2 same in omega (arith, none, theirs) in
            (o.0, o.1, set_else views id o.0 w other ∙ o.2, o.3);
        unmade = h.posts.unmade;
        tail_placed = h.posts.tail_placed;
      };
      walks = record {
        walking = each_turn Walking Walking views id w h.walks.walking (λ walks. absurd (cc)) (λ j u other there p. p);
        bounds = each_turn (Bounds z.format (room_of z) c.head c.cells) (Bounds z.format (room_of z) c.head c.cells) views id w h.walks.bounds (λ bounded. absurd (cc)) (λ j u other there p. p);
      };
      looks = record {
        looking = each_turn (LooksBy z.format g.past c.fin g.looked g.target c.tail) (LooksBy z.format g.past c.fin g.looked g.target c.tail) views id w h.looks.looking (λ held. absurd (cc)) (λ j u other there p. p);
        spared = each_turn (Spared g.looked g.target) (Spared g.looked g.target) views id w h.looks.spared (λ has. absurd (cc)) (λ j u other there p. p);
        aims = h.looks.aims;
        above = h.looks.above;
      };
      wakes = record {
        small = h.wakes.small;
        heeds = each_turn (Heeds z.format g.past c.fin g.undecided g.concerned c.wakes) (Heeds z.format g.past c.fin g.undecided g.concerned c.wakes) views id w h.wakes.heeds (λ registered. absurd (cc)) (λ j u other there p. p);
        signals = each_turn (Signals g.undecided) (Signals g.undecided) views id w h.wakes.signals (λ held. absurd (cc)) (λ j u other there p. p);
        calm = h.wakes.calm;
        heard = each_turn (λ _ u. IsHeard c.fin g.undecided u.known.signalled) (λ _ u. IsHeard c.fin g.undecided u.known.signalled) views id w h.wakes.heard heard_first (λ j u other there p. p);
        ended = each_turn (λ _ u. u.ended ≡ ended_in u.phase c.fin) (λ _ u. u.ended ≡ ended_in u.phase c.fin) views id w h.wakes.ended refl (λ j u other there p. p);
      };
      interests = record {
        covered = each_turn (Covered c.interests) (Covered c.interests) views id w h.interests.covered (λ registered. absurd (cc)) (λ j u other there p. p);
        deems = each_turn (λ _ u. Deems u.phase g.concerned u.concerned) (λ _ u. Deems u.phase g.concerned u.concerned) views id w h.interests.deems tt (λ j u other there p. p);
      };
      flags = record {
        finished = h.flags.finished;
        told = each_turn (λ _ u. IsTold c.fin u.known.told u.known.signalled) (λ _ u. IsTold c.fin u.known.told u.known.signalled) views id w h.flags.told (told_first c.fin v.known.told v.known.signalled (h.flags.told id v here)) (λ j u other there p. p);
        most = each_turn (λ _ u. All (IsMost c.flags) (raised_in u)) (λ _ u. All (IsMost c.flags) (raised_in u)) views id w h.flags.most (All-nil (IsMost c.flags)) (λ j u other there p. p);
        source = λ f. ⊎_elim (λ none. inl none) (λ r. inr (someone_else views id v w here number (λ u. Contains (raised_in u) (f, get_or c.flags f 0)) r)) (h.flags.source f);
        found = λ j u there. All-weaker (Raised views) (Raised (set views id w)) (λ x r. someone_else views id v w here number (λ u. Contains (raised_in u) x) r) (found_in u)
            (each_turn (λ _ x. All (Raised views) (found_in x)) (λ _ x. All (Raised views) (found_in x)) views id w h.flags.found (All-nil (Raised views)) (λ k x other there p. p) j u there);
      };
      named = record {
        current = each_turn (λ _ u. u.post.listen ≡ Registered → IsLast u.known.marks u.post.mark) (λ _ u. u.post.listen ≡ Registered → IsLast u.known.marks u.post.mark) views id w h.named.current (λ registered. absurd (cc)) (λ j u other there p. p);
        named = λ j u there. All-weaker (Marked views) (Marked (set views id w)) (λ x m. someone_else views id v w here number (MarkedBy x) m) (named_in u)
            (each_turn (λ _ x. All (Marked views) (named_in x)) (λ _ x. All (Marked views) (named_in x)) views id w h.named.named (All-nil (Marked views)) (λ k x other there p. p) j u there);
      };
      taken = each_turn (λ j u. All (IsTaken z g.made c.fin g.seat g.past j u.known.session) u.joined) (λ j u. All (IsTaken z g.made c.fin g.seat g.past j u.known.session) u.joined) views id w h.taken
          (All-nil (IsTaken z g.made c.fin g.seat g.past id 0)) (λ j u other there p. p);
    }

-- of two prefixes of a list the longer one is a prefix
pub longer_begins : (xs ys past : List Tx) → Begins xs past → Begins ys past → Begins (longer xs ys) past
longer_begins xs ys past x y = by_length (dec_le (length xs) (length ys))
  where
    by_length : Dec (length xs ≤ length ys) → Begins (longer xs ys) past
    by_length (yes le) = subst (λ (l : List Tx). Begins l past) (begins-rest xs ys (begins-alike xs ys past x y le)) y
    by_length (no more) =
        let empty : drop (length xs) ys ≡ [] = drop_all (length xs) ys (omega (arith, more)) in
        subst (λ (l : List Tx). Begins l past) (sym (ap (λ (l : List Tx). xs ++ l) empty ∙ append-nil xs)) x

-- and another may take such a note in
pub join_allowed : (z : Shape) (id other : ℕ) (v w : View) → w.known.session ≡ 0 → Joins (Lawful z) id v other w (joined v w) spent_view
join_allowed z id other v w number s holds here apart there =
    let theirs : get_elem? s.views other ≡ some w = sym (set_else s.views id other (joined v w) apart) ∙ there in
    let seen : List Tx = cond (holds_lock v.phase) v.known.seen (longer v.known.seen w.known.seen) in
    let mine : Begins v.known.seen holds.world.past = holds.law.history.sees id v here in
    let note : Begins w.known.seen holds.world.past = holds.law.history.sees other w theirs in
    let begins : Begins seen holds.world.past = by_lock (holds_lock v.phase) v.known.seen (longer v.known.seen w.known.seen) holds.world.past mine (longer_begins v.known.seen w.known.seen holds.world.past mine note) in
    let law : Law z holds.content holds.world (set s.views id (joined v w)) =
    hears z holds.content holds.world s.views id v seen (max v.known.told w.known.told) (max v.known.signalled w.known.signalled) (owes_after v.known w.known.told) holds.law here begins
    (no_shorter (holds_lock v.phase) v.known.seen w.known.seen)
    (λ held. ap (λ b. cond b v.known.seen (longer v.known.seen w.known.seen)) held)
    (λ owed. ap (λ b. b || (is_some v.known.mark && nat_lt v.known.told w.known.told)) owed)
    (heard_max holds.content.fin holds.world.undecided v.known.signalled w.known.signalled (holds.law.wakes.heard id v here) (holds.law.wakes.heard other w theirs))
    (told_max holds.content.fin v.known.told v.known.signalled w.known.told w.known.signalled (holds.law.flags.told id v here) (holds.law.flags.told other w theirs)) in record {
      shape = holds.shape;
      content = holds.content;
      world = holds.world;
      stands = holds.stands;
      law = spends z holds.content holds.world (set s.views id (joined v w)) other w law there number;
    }
  where
    by_lock : (b : Bool) (xs ys past : List Tx) → Begins xs past → Begins ys past → Begins (cond b xs ys) past
    by_lock true xs ys past x y = x
    by_lock false xs ys past x y = y

    no_shorter : (b : Bool) (xs ys : List Tx) → length xs ≤ length (cond b xs (longer xs ys))
    no_shorter true xs ys = omega arith
    no_shorter false xs ys = omega (arith, length-append xs (drop (length xs) ys))

    told_max : (fin a x b y : ℕ) → IsTold fin a x → IsTold fin b y → IsTold fin (max a b) (max x y)
    told_max fin a x b y p q =
        let first = p.first in let below = p.below in let other = q.below in let finished = p.finished in let ended = q.finished in
        record { first = omega (arith, first); below = omega (arith, below, other); finished = omega (arith, finished, ended) }

    heard_max : (fin : ℕ) (undecided : ℕ → Bool) (m n : ℕ) → IsHeard fin undecided m → IsHeard fin undecided n → IsHeard fin undecided (max m n)
    heard_max fin undecided m n p q = record { most = let a = p.most in let b = q.most in omega (arith, a, b); decided = λ i waits. let a = p.decided i waits in let b = q.decided i waits in omega (arith, a, b) }
