-- The second look of an advance of the tail, and the store of the oldest kept page, keep the rule.
use Rattle.std.proofs.Common.{◌≡◌, ◌≢◌, ℕ, ◌+◌, ◌<◌, ◌≤◌, min, true, List, ◌++◌, length, get_or, set, Option, sym, refl, ap, ◌∙◌, subst, arith, true≢false}
use Rattle.std.specs.Prelude.{flat_map}
use mathlib.Core.Option.{some, none}
use lib.ListN.{get_elem?}
use native.Mathlib.Decide.{ℕ_discrete, dec_le}
use Rattle.atomic_table.specs.Table.{Me, Allows, step}
use Rattle.pgn_base.specs.declared.format.Format.{Format}
use Rattle.pgn_journal.specs.declared.tx.Tx.{Tx}
use Rattle.pgn_journal.specs.Packing.{page_of, page_start}
use Rattle.pgn_hub.specs.Shape.{Shape}
use Rattle.pgn_words.specs.declared.pos_word.PosWord.{PosWord}
use Rattle.pgn_words.specs.declared.pos_word.PosWord.TheVariants as words
use Rattle.pgn_words.specs.declared.view.View.{View}
use Rattle.pgn_words.specs.declared.view.Pen.{Pen}
use Rattle.pgn_words.specs.declared.view.Listen.{Listen}
use Rattle.pgn_words.specs.declared.view.Listen.TheVariants.{Out, Joining, Based, Registered}
use Rattle.pgn_words.specs.declared.view.Phase.{Phase}
use Rattle.pgn_words.specs.declared.view.Phase.TheVariants.{Free, Held, Headed, Ready, Open, Finished, Signalling}
use Rattle.pgn_words.specs.declared.view.Look.{Look}
use Rattle.pgn_words.specs.Words.{Content, row, room_of, seats_of, pos_at}
use Rattle.pgn_words.specs.Views.{holds_lock, may_look}
use Rattle.pgn_words.specs.Positions.{packed, mark_in, place_in, position_in, shown_as, place_or, met_at, is_placed}
use Rattle.pgn_words.specs.Told.{IsSamePass}
use Rattle.pgn_words.specs.Looking.{least_after, HasLeast, MayLookSecond, looked_second, joins_at, second_looked, HasFloor, HasLookedSecond, TellsSecondLook, MayFree, stopped, TellsStopStore}
use Rattle.pgn_words.specs.ListenRule.{IsPlaced, Placed, IsLeast, IsSecond, Spared}
use Rattle.pgn_words.specs.Rule.{World, KnowsStop, HoldsIn, Holds, Law, Lawful, Keeps}
use Rattle.pgn_words.proofs.EachLaws.{each_turn}
use Rattle.pgn_words.proofs.Frames.{seats_keep, locking_keep, history_keep, numbers_keep, budget_keep, statuses_keep}
use Rattle.pgn_words.proofs.MoreFrames.{posts_keep, walks_keep, looks_keep, wakes_keep, interests_keep, flags_keep, named_keep, taken_keep}
use Rattle.pgn_words.proofs.LockKept.{held_setup, alone, others_hold, others_stop}
use Rattle.pgn_words.proofs.StatusKept.{holder_sees}
use Rattle.pgn_words.proofs.RowLaws.{get_pos}
use Rattle.pgn_words.proofs.MetLaws.{seat_shows, Met, met, first_mark, met_named, least_met, places_follow, place_of_packed}
use Rattle.pgn_words.proofs.LookKept.{looker_holds, gazes, named_more, position_told, least_told, in_second}
use Rattle.pgn_words.proofs.Meets.{allowed}

-- what the second look makes of the world and of the pass, at a position
record IsSeconded (z : Shape) (c : Content) (g : World) (views : List View) (id : ℕ) (v : View) (seat : ℕ) (p : PosWord) : Type 0 where
  world : World
  law : Law z c world (set views id (second_looked seat p v))
  least : HasLeast (second_looked seat p v)
  floor : HasFloor (second_looked seat p v)

-- the least mark is no further than the target, once the tail has come to it
least_below : (z : Shape) (c : Content) (g : World) (views : List View) (v : View) (seat : ℕ) → Law z c g views → IsLeast z.format g.past c.fin v.eye.least → IsSecond g.looked g.target c.tail v.eye → MayLookSecond v seat
    → place_in v.eye.least ≤ v.eye.target
least_below z c g views v seat h least second may = by_seat (ℕ_discrete seat 0)
  where
    by_seat : Dec (seat ≡ 0) → place_in v.eye.least ≤ v.eye.target
    by_seat (yes e) =
        let next = may.next in
        let looked = second.looked_is in
        let target = second.target_is in
        let tail_is = second.tail_is in
        let begins = second.begins (omega (arith, e, next, looked)) in
        let announced = may.announced e in
        let tail = h.posts.tail_placed in
        let up = places_follow z.format g.past (mark_in v.eye.least) (mark_in c.tail) (place_in v.eye.least) (place_in c.tail) least.at_is tail.at_is (omega (arith, announced, tail_is)) in
        omega (arith, up, begins, target)
    by_seat (no ne) =
        let next = may.next in
        let looked = second.looked_is in
        let target = second.target_is in
        let floor = second.floor (omega (arith, ne, next, looked)) in omega (arith, floor, target)

-- a place that is shown at the seat is not before the target
not_before : (l : Listen) (mark at m a target : ℕ) → shown_as l mark at ≡ words.At m a → is_placed l ≡ true → min a target ≤ at
not_before Out mark at m a target e has = absurd (cc)
not_before Joining mark at m a target e has = absurd (cc)
not_before Based mark at m a target e has = absurd (cc)
not_before Registered mark at m a target e has = let same : at ≡ a = cc in omega (arith, same)

out_unplaced : (l : Listen) (mark at : ℕ) → shown_as l mark at ≡ words.Out → is_placed l ≡ true → ⊥
out_unplaced Out mark at e has = true≢false (sym has)
out_unplaced Joining mark at e has = absurd (cc)
out_unplaced Based mark at e has = absurd (cc)
out_unplaced Registered mark at e has = absurd (cc)

-- the seat counts as looked at
counts : (z : Shape) (c : Content) (g : World) (views : List View) (id : ℕ) (v : View) (seat : ℕ) (p : PosWord) → Law z c g views → get_elem? views id ≡ some v → holds_lock v.phase ≡ true → v.setup ≡ z → v.known.seen ≡ g.past
    → MayLookSecond v seat → Met z.format g.past c.fin c.stop views seat p
    → ((j : ℕ) (u : View) → get_elem? views j ≡ some u → u.known.session ≡ seat + 1 → is_placed u.post.listen ≡ true → min (place_or v.eye.target p) v.eye.target ≤ u.post.at)
    → c.stop ≤ page_of (min (place_or v.eye.target p) v.eye.target) → place_in (least_after p v.eye.least) ≤ min (place_or v.eye.target p) v.eye.target
    → (Law z c (record g { looked = seat + 1; target = min (place_or v.eye.target p) v.eye.target }) (set views id (looked_second seat p v))) × HasLeast (looked_second seat p v) × HasFloor (looked_second seat p v)
counts z c g views id v seat p h here held setup seen may found spares above floor =
    let w : View = looked_second seat p v in
    let second = in_second z c g views id v h here held may.second in
    let y : ℕ = min (place_or v.eye.target p) v.eye.target in
    let target = second.1.target_is in
    let least = least_met z.format g.past c.fin c.stop views seat v.eye.least p found second.0 in
    let looks : IsSecond (seat + 1) y c.tail w.eye = record { looked_is = refl; target_is = refl; tail_is = second.1.tail_is; begins = λ none_looked. absurd (omega (arith, none_looked)); floor = λ _. floor } in (
      gazes z c g views id v w.eye (v.known.named ++ met_at seat p) w.known.advance c.tail (seat + 1) y h here held h.posts.tail_placed
          (subst (λ (k : Look). Rattle.pgn_words.specs.ListenRule.LookIn k z.format g.past c.fin (seat + 1) y c.tail w.eye) (sym may.second) (least, looks))
          (λ j u there old has low. by_number j u there old has low (ℕ_discrete u.known.session (seat + 1)))
          (let aims = h.looks.aims in omega (arith, aims, target)) above
          (named_more views v.known.named (met_at seat p) (flat_map (λ k. k.named) v.joined) (h.named.named id v here) (met_named z c g views seat p h found)),
      least_told z c g views v (least_after p v.eye.least) h setup seen least,
      λ _. floor,
    )
  where
    by_number : (j : ℕ) (u : View) → get_elem? views j ≡ some u → Spared g.looked g.target j u → is_placed u.post.listen ≡ true → u.known.session ≤ seat + 1 → Dec (u.known.session ≡ seat + 1)
        → min (place_or v.eye.target p) v.eye.target ≤ u.post.at
    by_number j u there old has low (yes e) = spares j u there e has
    by_number j u there old has low (no ne) =
        let second = in_second z c g views id v h here held may.second in
        let next = may.next in
        let looked = second.1.looked_is in
        let target = second.1.target_is in
        let was = old has (omega (arith, low, ne, next, looked)) in omega (arith, was, target)

seconds : (z : Shape) (c : Content) (g : World) (views : List View) (id : ℕ) (v : View) (seat : ℕ) (p : PosWord) → Law z c g views → get_elem? views id ≡ some v → holds_lock v.phase ≡ true → v.setup ≡ z → v.known.seen ≡ g.past
    → MayLookSecond v seat → position_in (get_or c.pos seat 0) ≡ p → Met z.format g.past c.fin c.stop views seat p → IsSeconded z c g views id v seat p
seconds z c g views id v seat words.Out h here held setup seen may is found =
    let second = in_second z c g views id v h here held may.second in
    let target = second.1.target_is in
    let below = least_below z c g views v seat h second.0 second.1 may in
    let r = counts z c g views id v seat words.Out h here held setup seen may found
    (λ j u there number has. absurd (out_unplaced u.post.listen u.post.mark u.post.at (sym (seat_shows z c g views seat j u h there number) ∙ is) has))
    (let above = h.looks.above in omega (arith, above, target)) (omega (arith, below)) in
    record { world = record g { looked = seat + 1; target = min v.eye.target v.eye.target }; law = r.0; least = r.1; floor = r.2 }
seconds z c g views id v seat words.Joining h here held setup seen may is found =
    let second = in_second z c g views id v h here held may.second in
    let w : View = joins_at seat v in
    let looks : IsSecond g.looked g.target c.tail w.eye = record { looked_is = second.1.looked_is; target_is = second.1.target_is; tail_is = second.1.tail_is; begins = second.1.begins; floor = second.1.floor } in record {
      world = g;
      law = gazes z c g views id v w.eye v.known.named v.known.advance c.tail g.looked g.target h here held h.posts.tail_placed
          (subst (λ (k : Look). Rattle.pgn_words.specs.ListenRule.LookIn k z.format g.past c.fin g.looked g.target c.tail w.eye) (sym may.second) (second.0, looks))
          (λ j u there spared. spared) h.looks.aims h.looks.above (h.named.named id v here);
      least = least_told z c g views v v.eye.least h setup seen second.0;
      floor = λ some_looked. let looked = second.1.looked_is in let target = second.1.target_is in let floor = second.1.floor (omega (arith, some_looked, looked)) in omega (arith, floor, target);
    }
seconds z c g views id v seat (words.At mark at) h here held setup seen may is found =
    let second = in_second z c g views id v h here held may.second in
    let target = second.1.target_is in
    let below = least_below z c g views v seat h second.0 second.1 may in
    let r = counts z c g views id v seat (words.At mark at) h here held setup seen may found
    (λ j u there number has. not_before u.post.listen u.post.mark u.post.at mark at v.eye.target (sym (seat_shows z c g views seat j u h there number) ∙ is) has)
    (let above = h.looks.above in let kept = found.placed.kept in omega (arith, above, target, kept))
    (floor_at z.format g.past c.fin c.stop mark at v.eye.least v.eye.target found.placed second.0 below (dec_le (packed mark at) v.eye.least)) in
    record { world = record g { looked = seat + 1; target = min at v.eye.target }; law = r.0; least = r.1; floor = r.2 }
  where
    floor_at : (format : Format) (past : List Tx) (fin stop mark at least target : ℕ) → IsPlaced format past fin stop mark at → IsLeast format past fin least → place_in least ≤ target → Dec (packed mark at ≤ least)
        → place_in (min (packed mark at) least) ≤ min at target
    floor_at format past fin stop mark at least target placed l below (yes low) =
        let small = placed.low in
        let is : min (packed mark at) least ≡ packed mark at = omega (arith, low) in
        let part = place_of_packed mark at small in
        let up = places_follow format past mark (mark_in least) at (place_in least) placed.at_is l.at_is (omega (arith, low, small)) in
        subst (λ (n : ℕ). place_in n ≤ min at target) (sym is) (omega (arith, part, up, below))
    floor_at format past fin stop mark at least target placed l below (no high) =
        let small = placed.low in
        let is : min (packed mark at) least ≡ least = omega (arith, high) in
        let up = places_follow format past (mark_in least) mark (place_in least) at l.at_is placed.at_is (omega (arith, high, small)) in
        subst (λ (n : ℕ). place_in n ≤ min at target) (sym is) (omega (arith, up, below))

second_same : (v : View) (seat : ℕ) (p : PosWord) → IsSamePass v (second_looked seat p v)
second_same v seat words.Out = record { setup = refl; session = refl; db = refl; mark = refl; told = refl; left = refl; owes = refl; ended = refl; base = refl; at = refl }
second_same v seat words.Joining = record { setup = refl; session = refl; db = refl; mark = refl; told = refl; left = refl; owes = refl; ended = refl; base = refl; at = refl }
second_same v seat (words.At mark at) = record { setup = refl; session = refl; db = refl; mark = refl; told = refl; left = refl; owes = refl; ended = refl; base = refl; at = refl }

-- the holder of the lock may look at the next seat for the second time
pub second_look_allowed : (z : Shape) (slots id word seat : ℕ) (me : Me ℕ View) → word ≡ pos_at + seat → seat < seats_of z → may_look me.0.phase ≡ true → MayLookSecond me.0 seat
    → Allows (Lawful z) slots id me word (λ n. n) (TellsSecondLook (step slots word 0 0 none) me)
second_look_allowed z slots id word seat me there room looker may =
    allowed z slots id word me (λ n. n) (TellsSecondLook (step slots word 0 0 none) me) (λ shape c g views h here.
    let v = me.0 in
    let held : holds_lock v.phase ≡ true = (looker_holds v.phase looker).0 in
    let setup : v.setup ≡ z = held_setup z c g views id v h here held in
    let seen : v.known.seen ≡ g.past = holder_sees v.phase z (λ log. Keeps (room_of z) (page_start c.stop) log c.cells) g.past g.shown v.known.seen v.known.session v.known.db v.pen held (h.holding.holds id v here) in
    let n : ℕ = get_or c.pos seat 0 in
    let p : PosWord = position_in n in
    let within : seat < length c.pos = let long = h.laid.pos_long in omega (arith, room, long) in
    let found : get_or (row c) word 0 ≡ n = ap (λ k. get_or (row c) k 0) there ∙ get_pos z c seat within in
    let w : View = second_looked seat p v in
    let r = seconds z c g views id v seat p h here held setup seen may refl (met z c g views seat h) in record {
      w = w;
      content = c;
      world = r.world;
      moves = Rattle.std.proofs.lemmas.List.set-get_or (row c) word 0;
      law = r.law;
      told = subst (λ (k : ℕ). TellsSecondLook (step slots word 0 0 none) me k (w, me.1)) (sym found) (record {
        slots = refl;
        looked = λ other is.
            let same : seat ≡ other = omega (arith, there, is) in
            subst (λ (s : ℕ). HasLookedSecond v s p w) same (record { view = refl; position = position_told z c g views id v seat h here setup seen; least = r.least; floor = r.floor });
        low = λ more. first_mark z c g views seat h more;
        same = second_same v seat p;
      });
    })

-- what the holder knows of the cells from a page on it knows from a later page on
holds_later : (p : Phase) (format : Format) (keeps keeps' : List (Option ℕ) → Type 0) (past shown seen : List Tx) (session db : ℕ) (pen : Pen) → ((log : List (Option ℕ)) → keeps log → keeps' log)
    → HoldsIn p format keeps past shown seen session db pen → HoldsIn p format keeps' past shown seen session db pen
holds_later Free format keeps keeps' past shown seen session db pen later h = tt
holds_later Held format keeps keeps' past shown seen session db pen later h = h
holds_later Headed format keeps keeps' past shown seen session db pen later h = h
holds_later Ready format keeps keeps' past shown seen session db pen later h = h
holds_later Open format keeps keeps' past shown seen session db pen later h = record {
  seen_is = h.seen_is;
  cells_are = h.cells_are;
  kept = later (pen.cells ++ pen.batch) h.kept;
  some_notes = h.some_notes;
  valid = h.valid;
  different = h.different;
  taken_is = h.taken_is;
}
holds_later Finished format keeps keeps' past shown seen session db pen later h = h
holds_later Signalling format keeps keeps' past shown seen session db pen later h = h

-- no listener needs the pages before that of the target
frees : (z : Shape) (c : Content) (g : World) (views : List View) (id : ℕ) (v : View) (page : ℕ) → Law z c g views → get_elem? views id ≡ some v → holds_lock v.phase ≡ true → MayFree v page
    → Law z (record c { stop = page }) g (set views id (stopped page v))
frees z c g views id v page h here held may =
    let w : View = stopped page v in
    let setup : v.setup ≡ z = held_setup z c g views id v h here held in
    let second = in_second z c g views id v h here held may.second in
    let target = second.1.target_is in
    let page_is : page ≡ page_of g.target = let is = may.page_is in omega (arith, is, target) in
    let all : g.looked ≡ seats_of z = sym second.1.looked_is ∙ may.all ∙ ap seats_of setup in
    let above = h.looks.above in
    let aims = h.looks.aims in
    let further : c.stop ≤ page = omega (arith, above, page_is) in
    let gone : (j : ℕ) (u : View) → j ≢ id → get_elem? views j ≡ some u → holds_lock u.phase ≡ true → ⊥ = alone c.lock g.holder views id v h.locking here held in
    let kept_still : (j : ℕ) (u : View) → get_elem? views j ≡ some u → Placed z.format g.past c.fin c.stop j u → Placed z.format g.past c.fin page j u = λ j u there p has.
    let was = p has in
    let seat = h.seats.seated j u there was.0 in
    let made = seat.was_made in
    let few = h.seats.few in
    let spared = h.looks.spared j u there has (omega (arith, made, few, all)) in
    (was.0, record { at_is = was.1.at_is; least = was.1.least; most = was.1.most; kept = omega (arith, spared, page_is); low = was.1.low }) in
    let posts = posts_keep views id v w here z.format g.past c.fin c.stop g.made c.tail c.pos h.posts refl refl refl in record {
      laid = h.laid;
      seats = seats_keep views id v w here z g.made g.seat h.seats refl refl refl refl;
      locking = locking_keep views id v w here c.lock g.holder h.locking refl refl;
      stored = record {
        headed = h.stored.headed;
        kept = λ i x low there. h.stored.kept i x (omega (arith, low, further)) there;
        ahead = let ahead = h.stored.ahead in omega (arith, ahead, further);
        reach = h.stored.reach;
        small = h.stored.small;
        low = h.stored.low;
      };
      history = history_keep views id v w here z c.lock c.fin g.made g.past g.shown h.history refl refl refl refl;
      numbers = numbers_keep views id v w here c.lock c.fin c.xid h.numbers refl refl;
      holding = record {
        holds = each_turn (Holds z c.stop g.past g.shown c.cells) (Holds z page g.past g.shown c.cells) views id w h.holding.holds
            (holds_later v.phase z.format (λ log. Keeps (room_of z) (page_start c.stop) log c.cells) (λ log. Keeps (room_of z) (page_start page) log c.cells) g.past g.shown v.known.seen v.known.session v.known.db v.pen
            (λ log kept i x low there. kept i x (omega (arith, low, further)) there) (h.holding.holds id v here))
            (λ j u other there p. others_hold z page g.past g.shown c.cells j u (gone j u other there));
        stops = each_turn (KnowsStop c.stop) (KnowsStop page) views id w h.holding.stops (λ _. refl) (λ j u other there p. others_stop page j u (gone j u other there));
      };
      statuses = statuses_keep views id v w here c.lock g.past c.statuses h.statuses refl refl;
      budget = budget_keep views id v w here z g.made g.past h.budget (omega arith);
      posts = record {
        placed = each_turn (Placed z.format g.past c.fin c.stop) (Placed z.format g.past c.fin page) views id w h.posts.placed (kept_still id v here (h.posts.placed id v here)) (λ j u other there p. kept_still j u there p);
        marks = posts.marks;
        shows = posts.shows;
        owned = posts.owned;
        unmade = posts.unmade;
        tail_placed = let tail = h.posts.tail_placed in record { at_is = tail.at_is; least = tail.least; most = tail.most; kept = omega (arith, aims, page_is); low = tail.low };
      };
      walks = walks_keep views id v w here z.format (room_of z) c.head c.cells h.walks refl refl (omega arith);
      looks = let looks = looks_keep views id v w here z.format g.past c.fin c.stop g.looked g.target c.tail h.looks refl refl refl refl in record { looking = looks.looking; spared = looks.spared; aims = h.looks.aims; above = omega (arith, page_is) };
      wakes = wakes_keep views id v w here z.format c.lock c.fin g.past g.undecided g.concerned c.wakes h.wakes refl refl refl refl refl refl refl (λ i. refl) refl refl;
      interests = interests_keep views id v w here g.concerned c.interests h.interests refl refl refl (λ x. x);
      flags = flags_keep views id v w here c.fin c.flags h.flags refl (h.flags.told id v here) refl refl;
      named = named_keep views id v w here h.named refl refl refl refl refl;
      taken = taken_keep views id v w here z g.made c.fin g.seat g.past h.taken refl refl;
    }

-- behind the second look it may free the pages before the target
pub store_stop_allowed : (z : Shape) (slots id page : ℕ) (me : Me ℕ View) → may_look me.0.phase ≡ true → MayFree me.0 page → Allows (Lawful z) slots id me 4 (λ _. page) (λ _. TellsStopStore (step slots 4 page 0 none) me page)
store_stop_allowed z slots id page me looker may =
    allowed z slots id 4 me (λ _. page) (λ _. TellsStopStore (step slots 4 page 0 none) me page) (λ shape c g views h here. record {
      w = stopped page me.0;
      content = record c { stop = page };
      world = g;
      moves = refl;
      law = frees z c g views id me.0 page h here (looker_holds me.0.phase looker).0 may;
      told = record { slots = refl; view = refl };
    })
