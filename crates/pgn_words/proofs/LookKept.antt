-- The looks of an advance of the tail, and the announcing of the tail, keep the rule.
use Rattle.std.proofs.Common.{◌≡◌, ◌≢◌, ⊎_elim, ℕ, ◌+◌, ◌^◌, ◌<◌, ◌≤◌, ◌==◌, Bool, true, false, cond, List, [], ◌∷◌, ◌++◌, length, get_or, set, All, sym, refl, ap, ◌∙◌, subst, arith, true≢false}
use Rattle.std.specs.Prelude.{flat_map}
use Rattle.std.proofs.lemmas.List.Elements.{All-weaker, All-append}
use Rattle.std.proofs.lemmas.Bool.Decides.{nat_tests}
use mathlib.Core.Option.{some, none}
use lib.ListN.{get_elem?}
use Rattle.atomic_table.specs.Table.{Me, Allows, step}
use Rattle.pgn_journal.specs.declared.tx.Tx.{Tx}
use Rattle.pgn_hub.specs.declared.known.Advance.{Advance}
use Rattle.pgn_journal.specs.Journal.{next_xid}
use Rattle.pgn_journal.specs.Packing.{page_of, page_start, image}
use Rattle.pgn_hub.specs.Shape.{Shape, IsShape, notes_of_seats}
use Rattle.pgn_journal.proofs.PackingLemmas.{last_place}
use Rattle.pgn_words.specs.declared.pos_word.PosWord.{PosWord}
use Rattle.pgn_words.specs.declared.view.View.{View}
use Rattle.pgn_words.specs.declared.view.Eye.{Eye}
use Rattle.pgn_words.specs.declared.view.Listen.TheVariants.{Registered}
use Rattle.pgn_words.specs.declared.view.Phase.{Phase}
use Rattle.pgn_words.specs.declared.view.Phase.TheVariants.{Free, Held, Headed, Ready, Open, Finished, Signalling}
use Rattle.pgn_words.specs.declared.view.Look.{Look}
use Rattle.pgn_words.specs.declared.view.Look.TheVariants.{First, Second}
use Rattle.pgn_words.specs.Words.{Content, row, room_of, seats_of, pos_at}
use Rattle.pgn_words.specs.Views.{holds_lock, knows_stop, may_look}
use Rattle.pgn_words.specs.Positions.{packed, mark_in, place_in, position_in, met_at, IsPlacedIn, IsPositionIn}
use Rattle.pgn_words.specs.Told.{IsSamePass}
use Rattle.pgn_words.specs.Looking.{MayLookFirst, look_begun, least_after, looked_first, TellsPosition, HasLeast, HasLookedFirst, TellsFirstLook, second_begun, TellsTail, MayAnnounce, announced, TellsTailStore}
use Rattle.pgn_words.specs.ListenRule.{IsPlaced, IsLeast, IsSecond, LookIn, LooksBy, Spared}
use Rattle.pgn_words.specs.WakeRule.{named_in, Marked, MarkedBy, IsLast}
use Rattle.pgn_words.specs.Rule.{World, KnowsStop, Holds, Law, Lawful, Keeps}
use Rattle.pgn_words.proofs.EachLaws.{each_turn, each_keep}
use Rattle.pgn_words.proofs.Frames.{seats_keep, locking_keep, history_keep, numbers_keep, budget_keep, statuses_keep}
use Rattle.pgn_words.proofs.MoreFrames.{someone_keep, posts_keep, walks_keep, wakes_keep, interests_keep, flags_keep, taken_keep}
use Rattle.pgn_words.proofs.LockKept.{held_setup, alone, few_left}
use Rattle.pgn_words.proofs.StatusKept.{holder_sees}
use Rattle.pgn_words.proofs.RowLaws.{get_pos}
use Rattle.pgn_words.proofs.WalkKept.{placed_in}
use Rattle.pgn_words.proofs.MetLaws.{seat_shows, met, first_mark, met_in, met_named, least_met, places_follow, mark_of_packed, place_of_packed}
use Rattle.pgn_words.proofs.Meets.{allowed}

-- who may look holds the lock
pub looker_holds : (p : Phase) → may_look p ≡ true → (holds_lock p ≡ true) × (knows_stop p ≡ true)
looker_holds Free e = absurd (cc)
looker_holds Held e = absurd (cc)
looker_holds Headed e = absurd (cc)
looker_holds Ready e = (refl, refl)
looker_holds Open e = (refl, refl)
looker_holds Finished e = absurd (cc)
looker_holds Signalling e = (refl, refl)

-- the holder, once it has looked
abbrev pub gazed : Eye → List (ℕ × ℕ) → Advance → View → View
gazed e ns a v = record v { eye = e; known = record v.known { named = ns; advance = a } }

-- the holder looks, and so may announce the tail
pub gazes : (z : Shape) (c : Content) (g : World) (views : List View) (id : ℕ) (v : View) (e : Eye) (ns : List (ℕ × ℕ)) (a : Advance) (tail l y : ℕ)
    → Law z c g views → get_elem? views id ≡ some v → holds_lock v.phase ≡ true
    → IsPlaced z.format g.past c.fin c.stop (mark_in tail) (place_in tail)
    → LookIn e.look z.format g.past c.fin l y tail e
    → ((j : ℕ) (u : View) → get_elem? views j ≡ some u → Spared g.looked g.target j u → Spared l y j u)
    → y ≤ place_in tail → c.stop ≤ page_of y
    → All (Marked views) (ns ++ flat_map (λ k. k.named) v.joined)
    → Law z (record c { tail = tail }) (record g { looked = l; target = y }) (set views id (gazed e ns a v))
gazes z c g views id v e ns a tail l y h here held placed looks spares aims above named =
    let w : View = gazed e ns a v in
    let gone : (j : ℕ) (u : View) → j ≢ id → get_elem? views j ≡ some u → holds_lock u.phase ≡ true → ⊥ = alone c.lock g.holder views id v h.locking here held in
    let posts = posts_keep views id v w here z.format g.past c.fin c.stop g.made c.tail c.pos h.posts refl refl refl in record {
      laid = h.laid;
      seats = seats_keep views id v w here z g.made g.seat h.seats refl refl refl refl;
      locking = locking_keep views id v w here c.lock g.holder h.locking refl refl;
      stored = h.stored;
      history = history_keep views id v w here z c.lock c.fin g.made g.past g.shown h.history refl refl refl refl;
      numbers = numbers_keep views id v w here c.lock c.fin c.xid h.numbers refl refl;
      holding = record {
        holds = each_keep (Holds z c.stop g.past g.shown c.cells) views id v w here h.holding.holds (λ x. x);
        stops = each_keep (KnowsStop c.stop) views id v w here h.holding.stops (λ x. x);
      };
      statuses = statuses_keep views id v w here c.lock g.past c.statuses h.statuses refl refl;
      budget = budget_keep views id v w here z g.made g.past h.budget (omega arith);
      posts = record { placed = posts.placed; marks = posts.marks; shows = posts.shows; owned = posts.owned; unmade = posts.unmade; tail_placed = placed };
      walks = walks_keep views id v w here z.format (room_of z) c.head c.cells h.walks refl refl (omega arith);
      looks = record {
        looking = each_turn (LooksBy z.format g.past c.fin g.looked g.target c.tail) (LooksBy z.format g.past c.fin l y tail) views id w h.looks.looking (λ _. looks) (λ j u other there x also. absurd (gone j u other there also));
        spared = each_turn (Spared g.looked g.target) (Spared l y) views id w h.looks.spared (spares id v here (h.looks.spared id v here)) (λ j u other there x. spares j u there x);
        aims = aims;
        above = above;
      };
      wakes = wakes_keep views id v w here z.format c.lock c.fin g.past g.undecided g.concerned c.wakes h.wakes refl refl refl refl refl refl refl (λ i. refl) refl refl;
      interests = interests_keep views id v w here g.concerned c.interests h.interests refl refl refl (λ x. x);
      flags = flags_keep views id v w here c.fin c.flags h.flags refl (h.flags.told id v here) refl refl;
      named = record {
        current = each_keep (λ _ u. u.post.listen ≡ Registered → IsLast u.known.marks u.post.mark) views id v w here h.named.current (λ x. x);
        named = λ j u there. All-weaker (Marked views) (Marked (set views id w)) (λ pair x. someone_keep views id v w here (MarkedBy pair) refl (λ y. y) x) (named_in u)
            (each_turn (λ _ x. All (Marked views) (named_in x)) (λ _ x. All (Marked views) (named_in x)) views id w h.named.named named (λ k x other theirs old. old) j u there);
      };
      taken = taken_keep views id v w here z g.made c.fin g.seat g.past h.taken refl refl;
    }

-- the marks that a pass has met, with some more
pub named_more : (views : List View) (a b c : List (ℕ × ℕ)) → All (Marked views) (a ++ c) → All (Marked views) b → All (Marked views) (a ++ b ++ c)
named_more views a b c old more = All-append (Marked views) (a ++ b) c (All-append (Marked views) a b (front a c old) more) (back a c old)
  where
    front : (xs ys : List (ℕ × ℕ)) → All (Marked views) (xs ++ ys) → All (Marked views) xs
    front [] ys all = Rattle.std.proofs.lemmas.List.Elements.All-nil (Marked views)
    front (x ∷ xs) ys all = Rattle.std.proofs.lemmas.List.Elements.All-cons (Marked views) x xs (Rattle.std.proofs.lemmas.List.Elements.All-head (Marked views) x (xs ++ ys) all) (front xs ys (Rattle.std.proofs.lemmas.List.Elements.All-tail (Marked views) x (xs ++ ys) all))

    back : (xs ys : List (ℕ × ℕ)) → All (Marked views) (xs ++ ys) → All (Marked views) ys
    back [] ys all = all
    back (x ∷ xs) ys all = back xs ys (Rattle.std.proofs.lemmas.List.Elements.All-tail (Marked views) x (xs ++ ys) all)

-- what a look tells of the position that it finds
pub position_told : (z : Shape) (c : Content) (g : World) (views : List View) (id : ℕ) (v : View) (seat : ℕ) → Law z c g views → get_elem? views id ≡ some v → v.setup ≡ z → v.known.seen ≡ g.past
    → TellsPosition v seat (position_in (get_or c.pos seat 0))
position_told z c g views id v seat h here setup seen = record {
  placed = subst (λ (y : Shape). IsPositionIn y.format v.known.seen (position_in (get_or c.pos seat 0))) (sym setup)
      (subst (λ (txs : List Tx). IsPositionIn z.format txs (position_in (get_or c.pos seat 0))) (sym seen)
      (met_in z.format g.past c.fin c.stop views seat (position_in (get_or c.pos seat 0)) h.history.counted (met z c g views seat h)));
  mine = λ own. seat_shows z c g views seat id v h here (sym own);
}

-- a least mark is told with its place
pub least_told : (z : Shape) (c : Content) (g : World) (views : List View) (v : View) (least : ℕ) → Law z c g views → v.setup ≡ z → v.known.seen ≡ g.past → IsLeast z.format g.past c.fin least
    → IsPlacedIn v.setup.format v.known.seen (mark_in least) (place_in least)
least_told z c g views v least h setup seen p =
    subst (λ (y : Shape). IsPlacedIn y.format v.known.seen (mark_in least) (place_in least)) (sym setup)
    (subst (λ (txs : List Tx). IsPlacedIn z.format txs (mark_in least) (place_in least)) (sym seen)
    (placed_in z.format g.past c.fin (mark_in least) (place_in least) h.history.counted p.at_is p.first p.most))

-- its least mark is one with its place
first_least : (z : Shape) (c : Content) (g : World) (views : List View) (id : ℕ) (v : View) (seat : ℕ) → IsShape z → Law z c g views → get_elem? views id ≡ some v → holds_lock v.phase ≡ true → v.setup ≡ z → v.known.seen ≡ g.past
    → MayLookFirst v seat → (b : Bool) → seat == 0 ≡ b → IsLeast z.format g.past c.fin (cond b (look_begun v) v).eye.least
first_least z c g views id v seat shape h here held setup seen may true e =
    let at : ℕ = length (image v.setup.format v.known.seen) in
    let at_is : at ≡ length (image z.format g.past) = ap (λ (y : Shape). length (image y.format v.known.seen)) setup ∙ ap (λ (txs : List Tx). length (image z.format txs)) seen in
    let size : length v.known.seen ≡ length g.past = ap length seen in
    let low : at < 2 ^ 32 = let all = head_low z c g views h in omega (arith, at_is, all) in
    let mark : ℕ = next_xid v.known.seen in
    let counted = h.history.counted in record {
      at_is = place_of_packed mark at low ∙ at_is ∙ sym (last_place z.format g.past (mark_in (packed mark at)) (let m = mark_of_packed mark at low in omega (arith, m, size)));
      first = let m = mark_of_packed mark at low in omega (arith, m);
      most = let m = mark_of_packed mark at low in omega (arith, m, size, counted);
    }
  where
    head_low : (z : Shape) (c : Content) (g : World) (views : List View) → Law z c g views → length (image z.format g.past) < 2 ^ 32
    head_low z c g views h =
        let low = h.stored.low in
        let headed = h.stored.headed in
        let more = Rattle.pgn_journal.proofs.BeginsLaws.begins-shorter (image z.format g.past) (image z.format g.shown) (Rattle.pgn_journal.proofs.DraftLaws.longer_agrees.images z.format g.past g.shown h.history.begins) in
        omega (arith, low, headed, more)
first_least z c g views id v seat shape h here held setup seen may false e =
    ⊎_elim
    (λ zero_is. let is : seat == 0 ≡ true = grind (arith, nat_tests) in absurd (true≢false (sym is ∙ e)))
    (λ going. subst (λ (k : Look). LookIn k z.format g.past c.fin g.looked g.target c.tail v.eye) going.0 (h.looks.looking id v here held))
    may

-- what the first look makes of the pass is what it does of its eye, its marks and its advance
first_view : (z : Shape) (v : View) (seat : ℕ) (p : PosWord) (b : Bool) → looked_first seat p (cond b (look_begun v) v)
    ≡ gazed (looked_first seat p (cond b (look_begun v) v)).eye (v.known.named ++ met_at seat p) (looked_first seat p (cond b (look_begun v) v)).known.advance v
first_view z v seat p true = refl
first_view z v seat p false = refl

first_looks : (v : View) (seat : ℕ) (p : PosWord) (b : Bool) → seat == 0 ≡ b → MayLookFirst v seat → (looked_first seat p (cond b (look_begun v) v)).eye.look ≡ First
first_looks v seat p true e may = refl
first_looks v seat p false e may =
    ⊎_elim
    (λ zero_is. let is : seat == 0 ≡ true = grind (arith, nat_tests) in absurd (true≢false (sym is ∙ e)))
    (λ going. going.0)
    may

least_is : (v : View) (seat : ℕ) (p : PosWord) (b : Bool) → (looked_first seat p (cond b (look_begun v) v)).eye.least ≡ least_after p (cond b (look_begun v) v).eye.least
least_is v seat p true = refl
least_is v seat p false = refl

-- the holder of the lock may look at the next seat for the first time
pub first_look_allowed : (z : Shape) (slots id word seat : ℕ) (me : Me ℕ View) → word ≡ pos_at + seat → seat < seats_of z → may_look me.0.phase ≡ true → MayLookFirst me.0 seat
    → Allows (Lawful z) slots id me word (λ n. n) (TellsFirstLook (step slots word 0 0 none) me)
first_look_allowed z slots id word seat me there room looker may =
    allowed z slots id word me (λ n. n) (TellsFirstLook (step slots word 0 0 none) me) (λ shape c g views h here.
    let v = me.0 in
    let held : holds_lock v.phase ≡ true = (looker_holds v.phase looker).0 in
    let setup : v.setup ≡ z = held_setup z c g views id v h here held in
    let seen : v.known.seen ≡ g.past = holder_sees v.phase z (λ log. Keeps (room_of z) (page_start c.stop) log c.cells) g.past g.shown v.known.seen v.known.session v.known.db v.pen held (h.holding.holds id v here) in
    let n : ℕ = get_or c.pos seat 0 in
    let p : PosWord = position_in n in
    let within : seat < length c.pos = let long = h.laid.pos_long in omega (arith, room, long) in
    let found : get_or (row c) word 0 ≡ n = ap (λ k. get_or (row c) k 0) there ∙ get_pos z c seat within in
    let b : Bool = seat == 0 in
    let w : View = looked_first seat p (cond b (look_begun v) v) in
    let least : IsLeast z.format g.past c.fin w.eye.least = subst (λ (k : ℕ). IsLeast z.format g.past c.fin k) (sym (least_is v seat p b))
    (least_met z.format g.past c.fin c.stop views seat (cond b (look_begun v) v).eye.least p (met z c g views seat h) (first_least z c g views id v seat shape h here held setup seen may b refl)) in
    let look : LookIn w.eye.look z.format g.past c.fin g.looked g.target c.tail w.eye = subst (λ (k : Look). LookIn k z.format g.past c.fin g.looked g.target c.tail w.eye) (sym (first_looks v seat p b refl may)) least in
    let law : Law z c g (set views id (gazed w.eye (v.known.named ++ met_at seat p) w.known.advance v)) =
    gazes z c g views id v w.eye (v.known.named ++ met_at seat p) w.known.advance c.tail g.looked g.target h here held h.posts.tail_placed look (λ j u theirs x. x) h.looks.aims h.looks.above
    (named_more views v.known.named (met_at seat p) (flat_map (λ k. k.named) v.joined) (h.named.named id v here) (met_named z c g views seat p h (met z c g views seat h))) in record {
      w = w;
      content = c;
      world = g;
      moves = Rattle.std.proofs.lemmas.List.set-get_or (row c) word 0;
      law = subst (λ (u : View). Law z c g (set views id u)) (sym (first_view z v seat p b)) law;
      told = subst (λ (k : ℕ). TellsFirstLook (step slots word 0 0 none) me k (w, me.1)) (sym found) (record {
        slots = refl;
        looked = λ other is.
            let same : seat ≡ other = omega (arith, there, is) in
            subst (λ (s : ℕ). HasLookedFirst v s p w) same (record {
              view = refl;
              position = position_told z c g views id v seat h here setup seen;
              least = least_first z c g views v seat p b w.eye.least h setup seen least refl;
            });
        low = λ more. first_mark z c g views seat h more;
        same = first_same v seat p b;
      });
    })
  where
    first_same : (v : View) (seat : ℕ) (p : PosWord) (b : Bool) → IsSamePass v (looked_first seat p (cond b (look_begun v) v))
    first_same v seat p true = record { setup = refl; session = refl; db = refl; mark = refl; told = refl; left = refl; owes = refl; ended = refl; base = refl; at = refl }
    first_same v seat p false = record { setup = refl; session = refl; db = refl; mark = refl; told = refl; left = refl; owes = refl; ended = refl; base = refl; at = refl }

    least_first : (z : Shape) (c : Content) (g : World) (views : List View) (v : View) (seat : ℕ) (p : PosWord) (b : Bool) (least : ℕ) → Law z c g views → v.setup ≡ z → v.known.seen ≡ g.past → IsLeast z.format g.past c.fin least
        → (looked_first seat p (cond b (look_begun v) v)).eye.least ≡ least → HasLeast (looked_first seat p (cond b (look_begun v) v))
    least_first z c g views v seat p true least h setup seen l e = subst (λ (n : ℕ). IsPlacedIn v.setup.format v.known.seen (mark_in n) (place_in n)) (sym e) (least_told z c g views v least h setup seen l)
    least_first z c g views v seat p false least h setup seen l e = subst (λ (n : ℕ). IsPlacedIn v.setup.format v.known.seen (mark_in n) (place_in n)) (sym e) (least_told z c g views v least h setup seen l)

-- the first look has met each seat, and its least mark is one with its place
in_first : (z : Shape) (c : Content) (g : World) (views : List View) (id : ℕ) (v : View) → Law z c g views → get_elem? views id ≡ some v → holds_lock v.phase ≡ true → v.eye.look ≡ First → IsLeast z.format g.past c.fin v.eye.least
in_first z c g views id v h here held first = subst (λ (k : Look). LookIn k z.format g.past c.fin g.looked g.target c.tail v.eye) first (h.looks.looking id v here held)

-- in the second look the least is that of the positions, and the target is the world's
pub in_second : (z : Shape) (c : Content) (g : World) (views : List View) (id : ℕ) (v : View) → Law z c g views → get_elem? views id ≡ some v → holds_lock v.phase ≡ true → v.eye.look ≡ Second
    → IsLeast z.format g.past c.fin v.eye.least × IsSecond g.looked g.target c.tail v.eye
in_second z c g views id v h here held second = subst (λ (k : Look). LookIn k z.format g.past c.fin g.looked g.target c.tail v.eye) second (h.looks.looking id v here held)

-- behind the first look it may load the tail
pub load_tail_allowed : (z : Shape) (slots id : ℕ) (me : Me ℕ View) → may_look me.0.phase ≡ true → me.0.eye.look ≡ First → Allows (Lawful z) slots id me 3 (λ n. n) (TellsTail (step slots 3 0 0 none) me)
load_tail_allowed z slots id me looker first =
    allowed z slots id 3 me (λ n. n) (TellsTail (step slots 3 0 0 none) me) (λ shape c g views h here.
    let v = me.0 in
    let held : holds_lock v.phase ≡ true = (looker_holds v.phase looker).0 in
    let setup : v.setup ≡ z = held_setup z c g views id v h here held in
    let seen : v.known.seen ≡ g.past = holder_sees v.phase z (λ log. Keeps (room_of z) (page_start c.stop) log c.cells) g.past g.shown v.known.seen v.known.session v.known.db v.pen held (h.holding.holds id v here) in
    let w : View = second_begun c.tail v in
    let tail = h.posts.tail_placed in
    let kept = tail.kept in record {
      w = w;
      content = c;
      world = record g { looked = 0; target = place_in c.tail };
      moves = refl;
      law = gazes z c g views id v w.eye v.known.named w.known.advance c.tail 0 (place_in c.tail) h here held tail
          (in_first z c g views id v h here held first, record { looked_is = refl; target_is = refl; tail_is = refl; begins = λ _. refl; floor = λ some. absurd (omega (arith, some)) })
          (λ j u theirs x has none_looked. let positive = (h.posts.placed j u theirs has).0 in absurd (omega (arith, positive, none_looked)))
          (omega arith) kept (h.named.named id v here);
      told = record {
        slots = refl;
        view = refl;
        placed = least_told z c g views v c.tail h setup seen (record { at_is = tail.at_is; first = tail.least; most = tail.most });
        low =
            let most = tail.most in
            let counted = h.history.counted in
            let left = few_left z g.made g.past views id v h.budget here h.history.finished setup in
            let all : notes_of_seats v.setup.seats ≤ 1048575 = let few = shape.few_notes in subst (λ (y : Shape). notes_of_seats y.seats ≤ 1048575) (sym setup) few in
            omega (arith, most, counted, left, all);
      };
    })

-- and store one that it may announce
pub store_tail_allowed : (z : Shape) (slots id x mark at : ℕ) (me : Me ℕ View) → may_look me.0.phase ≡ true → MayAnnounce me.0 mark at → at < 2 ^ 32 → x ≡ packed mark at
    → Allows (Lawful z) slots id me 3 (λ _. x) (λ _. TellsTailStore (step slots 3 x 0 none) me x)
store_tail_allowed z slots id x mark at me looker may low value =
    allowed z slots id 3 me (λ _. x) (λ _. TellsTailStore (step slots 3 x 0 none) me x) (λ shape c g views h here.
    let v = me.0 in
    let held : holds_lock v.phase ≡ true = (looker_holds v.phase looker).0 in
    let w : View = announced v in
    let second = in_second z c g views id v h here held may.second in
    let least = second.0 in
    let is : x ≡ v.eye.least = value ∙ sym may.least in
    let tail_is : v.eye.tail ≡ c.tail = second.1.tail_is in
    let forth : mark_in c.tail ≤ mark_in v.eye.least =
    let grows = may.grows in
    let m = mark_of_packed mark at low in
    let least_is : v.eye.least ≡ packed mark at = may.least in omega (arith, grows, m, least_is, tail_is) in
    let tail = h.posts.tail_placed in
    let up : place_in c.tail ≤ place_in v.eye.least = places_follow z.format g.past (mark_in c.tail) (mark_in v.eye.least) (place_in c.tail) (place_in v.eye.least) tail.at_is least.at_is forth in
    let kept : c.stop ≤ page_of (place_in v.eye.least) = let was = tail.kept in omega (arith, was, up) in record {
      w = w;
      content = record c { tail = v.eye.least };
      world = record g { looked = 0; target = place_in v.eye.least };
      moves = ap (λ n. row (record c { tail = n })) is;
      law = gazes z c g views id v w.eye v.known.named w.known.advance v.eye.least 0 (place_in v.eye.least) h here held
          (record { at_is = least.at_is; least = least.first; most = least.most; kept = kept; low = omega arith })
          (least, record { looked_is = refl; target_is = refl; tail_is = refl; begins = λ _. refl; floor = λ some. absurd (omega (arith, some)) })
          (λ j u theirs y has none_looked. let positive = (h.posts.placed j u theirs has).0 in absurd (omega (arith, positive, none_looked)))
          (omega arith) kept (h.named.named id v here);
      told = record { slots = refl; view = refl };
    })
