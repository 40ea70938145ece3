-- The store of the first unfinished number keeps the rule.
use Rattle.std.proofs.Common.{◌≡◌, ◌≢◌, ◌⊎◌, inl, inr, ℕ, zero, suc, replicate, ◌+◌, ◌-◌, ◌<◌, ◌≤◌, true, List, [], ◌∷◌, ◌++◌, length, get_or, set, sum_by, All, Option, Some, slice_get, sym, refl, ap, ◌∙◌, subst, ⊎_elim, arith, length-append, append-nil, Bool, false, cond, ◌==◌, ◌^◌}
use Rattle.std.proofs.lemmas.Bool.Decides.{nat_tests}
use Rattle.std.proofs.lemmas.List.Elements.{All-push, All-weaker}
use Rattle.std.proofs.lemmas.List.Sums.{sum_by-append, sum_by-cons}
use mathlib.Core.Option.{some, none}
use lib.ListN.{get_elem?}
use Rattle.atomic_table.specs.Table.{Me, Allows, step}
use Rattle.pgn_journal.specs.declared.tx.Tx.{Tx}
use Rattle.pgn_journal.specs.Begins.{Begins}
use Rattle.pgn_journal.proofs.BeginsLaws.{begins-continued, begins-itself, begins-on}
use Rattle.pgn_journal.specs.Journal.{next_xid, xids_of, IsFinished}
use Rattle.pgn_journal.specs.Due.{is_due_to}
use Rattle.pgn_base.specs.declared.format.Format.{Format}
use Rattle.pgn_hub.specs.declared.known.Known.{Known}
use Rattle.pgn_journal.specs.Pieces.{IsWritten}
use Rattle.pgn_journal.proofs.DraftLaws.{xids_go_on, finished_are_written}
use Rattle.pgn_journal.specs.Packing.{page_start}
use Rattle.pgn_hub.specs.Shape.{Shape, IsShape}
use Rattle.pgn_layout.specs.Status.{status_code}
use Rattle.pgn_words.specs.declared.view.View.{View}
use Rattle.pgn_words.specs.declared.view.Phase.{Phase}
use Rattle.pgn_words.specs.declared.view.Phase.TheVariants.{Finished}
use Rattle.pgn_words.specs.Words.{Content, row, seats_of, room_of}
use Rattle.pgn_words.specs.Views.{holds_lock, knows_stop, drawn_by, spent_by, fated, is_walking, seat_of}
use Rattle.pgn_words.specs.declared.view.Eye.{Eye}
use Rattle.pgn_words.specs.declared.view.Look.{Look}
use Rattle.pgn_words.specs.declared.view.Look.TheVariants.{Idle, First, Second}
use Rattle.pgn_words.specs.Positions.{mark_in, place_in}
use Rattle.pgn_words.specs.ListenRule.{Placed, Marks, ShowsPosition, LookIn, LooksBy, Spared}
use Rattle.pgn_words.specs.declared.view.Verdict.TheVariants.{Unseen}
use Rattle.pgn_words.specs.WakeRule.{served, passed, Covered, Deems, IsHeard, IsHeeded, IsTold, Heeds, Signals, ended_in, pending, waits_in, raised_in, found_in, Raised, IsMost, IsTaken}
use Rattle.pgn_words.specs.Rule.{World, KnowsStop, Draws, Holds, IsEnding, WasMade, Fates, Law, Lawful, Keeps, Budget, notes_of, status_at}
use Rattle.pgn_words.specs.Told.{TellsFinStore, fin_stored}
use Rattle.pgn_words.proofs.EachLaws.{each_turn, each_keep, changed_at, sum_set, own_further}
use Rattle.pgn_words.proofs.ImageLaws.{written_part, placed_grows, least_grows}
use Rattle.pgn_words.proofs.NearSteps.{heeded_later}
use Rattle.pgn_words.proofs.Frames.{seats_keep, locking_keep}
use Rattle.pgn_words.proofs.MoreFrames.{still_there, walks_keep, raised_keep, named_keep}
use Rattle.pgn_words.proofs.LockKept.{held_setup, alone, free_holds, others_hold, few_txs, has_left, some_of}
use Rattle.pgn_words.proofs.HeadKept.{phase_holds}
use Rattle.pgn_words.proofs.Meets.{allowed}

-- the journal grows by the transaction that has ended, no seat is decided yet, and it may concern each
abbrev pub after_ending : View → Shape → World → World
after_ending v z g = record g { past = g.past ++ v.pen.ending ∷ []; shown = g.past ++ v.pen.ending ∷ []; undecided = waits_in (replicate (seats_of z) Unseen); concerned = λ i. get_or (replicate (seats_of z) true) i false }

finishes : (z : Shape) (c : Content) (g : World) (views : List View) (id : ℕ) (v : View) → IsShape z → Law z c g views → get_elem? views id ≡ some v → v.phase ≡ Finished
    → Law z (record c { fin = c.fin + 1 }) (after_ending v z g) (set views id (fin_stored v))
finishes z c g views id v shape h here ended =
    let x : ℕ = next_xid v.known.seen in
    let w : View = fin_stored v in
    let tx : Tx = v.pen.ending in
    let now : List Tx = g.past ++ tx ∷ [] in
    let held : holds_lock v.phase ≡ true = ap holds_lock ended in
    let was : IsEnding z.format g.past g.shown v.known.seen v.known.session v.known.db v.pen = phase_holds Finished z c.stop g.past g.shown c.cells id v ended (h.holding.holds id v here) in
    let gone : (j : ℕ) (u : View) → j ≢ id → get_elem? views j ≡ some u → holds_lock u.phase ≡ true → ⊥ = alone c.lock g.holder views id v h.locking here held in
    let locked = h.locking.locks id v here held in
    let seated = h.seats.seated id v here locked.2 in
    let counted = h.history.counted in
    let size : length now ≡ length g.past + 1 = length-append g.past (tx ∷ []) in
    let drew : c.xid ≡ c.fin + 1 = h.numbers.draws id v here held ∙ ap (λ p. c.fin + drawn_by p) ended in
    let made_by_now : WasMade z g.made tx = (
      (let is = was.session_is in let some = locked.2 in omega (arith, is, some)),
      (let is = was.session_is in let low = seated.was_made in omega (arith, is, low)),
      was.db_is ∙ seated.db_is ∙ ap (λ n. (seat_of z n).db) (sym was.session_is),
    ) in
    let calm : (i : ℕ) → g.undecided i ≡ false = λ i. h.wakes.signals id v here held i ∙ ap (λ p. pending p (waits_in v.verdicts) i) ended in
    let all : ℕ → Bool = waits_in (replicate (seats_of z) Unseen) in
    let may : ℕ → Bool = λ i. get_or (replicate (seats_of z) true) i false in
    let heard_still : (n : ℕ) → IsHeard c.fin g.undecided n → IsHeard (c.fin + 1) all n = λ n p. record { most = let most = p.most in omega (arith, most); decided = λ i waits. let most = p.most in omega (arith, most) } in
    let setup : v.setup ≡ z = held_setup z c g views id v h here held in
    let heeds_still : (j : ℕ) (u : View) → get_elem? views j ≡ some u → Heeds z.format g.past c.fin g.undecided g.concerned c.wakes j u → Heeds z.format now (c.fin + 1) all may c.wakes j u =
    λ j u there p registered i number.
    let before : IsHeeded z.format (is_due_to u.known.db u.known.set) g.past (passed g.undecided g.concerned c.fin i) (served g.undecided c.fin i) (get_or c.wakes i 0) u.post.mark (is_walking u.walk.stage) u.walk.upto u.known.owes = p registered i number in
    let within : i < seats_of z = let seat = h.seats.seated j u there (omega (arith, number)) in let made = seat.was_made in let few = h.seats.few in omega (arith, number, made, few) in
    heeded_later z.format (is_due_to u.known.db u.known.set) g.past tx c.fin g.undecided all g.concerned may i (get_or c.wakes i 0) u.post.mark (is_walking u.walk.stage) u.walk.upto u.known.owes counted (calm i) (all_wait (seats_of z) i within) (all_may (seats_of z) i within) before in
    let set_one : status_at c.statuses (next_xid g.past) ≡ status_code tx.fate = h.statuses.fates id v here held ∙ ap (λ p. fated p tx.fate) ended in record {
      laid = h.laid;
      seats = seats_keep views id v w here z g.made g.seat h.seats refl refl refl refl;
      locking = locking_keep views id v w here c.lock g.holder h.locking refl (sym held);
      stored = record {
        headed = h.stored.headed ∙ ap length (sym was.shows);
        kept = subst (λ (log : List (Option ℕ)). Keeps (room_of z) (page_start c.stop) log c.cells) (sym was.shows) h.stored.kept;
        ahead = h.stored.ahead;
        reach = h.stored.reach;
        small = h.stored.small;
        low = h.stored.low;
      };
      history = record {
        counted = omega (arith, counted, size);
        finished = All-push IsFinished g.past tx h.history.finished was.finished;
        sessions = All-push (WasMade z g.made) g.past tx h.history.sessions made_by_now;
        written = All-push IsWritten g.past tx (written_part g.past g.shown h.history.begins h.history.written)
            (finished_are_written tx was.finished (subst (λ (n : ℕ). 0 < n) (sym was.db_is) seated.some_db) (subst (λ (n : ℕ). n < 2 ^ 32) (sym was.db_is) seated.db_fits)
            (let made = seated.was_made in let few = h.seats.few in let most = shape.few_seats in let is = was.session_is in omega (arith, made, few, most, is)));
        one_more = omega arith;
        begins = begins-itself now;
        free = λ nobody. refl;
        whole = (id, w, changed_at views id v w here, locked.2, inl (ap (λ (txs : List Tx). txs ++ tx ∷ []) was.seen_is));
        sees = each_turn (λ _ u. Begins u.known.seen g.past) (λ _ u. Begins u.known.seen now) views id w h.history.sees
            (subst (λ (txs : List Tx). Begins txs now) (ap (λ (txs : List Tx). txs ++ tx ∷ []) (sym was.seen_is)) (begins-itself now))
            (λ j u other there p. begins-on u.known.seen g.past now p (begins-continued g.past (tx ∷ [])));
        own_seen = each_turn (λ _ u. All (λ x. x < next_xid u.known.seen) u.known.own) (λ _ u. All (λ x. x < next_xid u.known.seen) u.known.own) views id w h.history.own_seen
            (All-push (λ (n : ℕ). n < next_xid (v.known.seen ++ tx ∷ [])) v.known.own x (own_further v.known.own (length v.known.seen) (length (v.known.seen ++ tx ∷ [])) (let long = length-append v.known.seen (tx ∷ []) in omega (arith, long)) (h.history.own_seen id v here)) (let long = length-append v.known.seen (tx ∷ []) in omega (arith, long)))
            (λ j u other there p. p);
        owns = each_turn (λ _ u. u.known.own ≡ xids_of u.known.session g.past) (λ _ u. u.known.own ≡ xids_of u.known.session now) views id w h.history.owns
            (own_grows v.known.session v.known.own g.past tx x (h.history.owns id v here) was.session_is (ap next_xid was.seen_is))
            (λ j u other there p. own_stays u.known.session u.known.own g.past tx p
            (λ same. let positive : 0 < u.known.session = let one = locked.2 in let is = was.session_is in omega (arith, same, one, is) in
            other (sym (h.seats.seated j u there positive).sits ∙ ap g.seat (sym same ∙ was.session_is) ∙ seated.sits)));
      };
      numbers = record {
        free = λ nobody. let is = locked.1 in let positive = locked.2 in absurd (omega (arith, nobody, is, positive));
        draws = each_turn (Draws c.fin c.xid) (Draws (c.fin + 1) c.xid) views id w h.numbers.draws (λ also. omega (arith, drew)) (λ j u other there p also. absurd (gone j u other there also));
      };
      holding = record {
        holds = each_turn (Holds z c.stop g.past g.shown c.cells) (Holds z c.stop now now c.cells) views id w h.holding.holds
            (record { idle = record { seen_is = ap (λ (txs : List Tx). txs ++ tx ∷ []) was.seen_is; shown_is = refl }; before = g.past; last = refl; db_is = was.db_is })
            (λ j u other there p. others_hold z c.stop now now c.cells j u (gone j u other there));
        stops = each_turn (KnowsStop c.stop) (KnowsStop c.stop) views id w h.holding.stops (λ knows. h.holding.stops id v here (ap knows_stop ended)) (λ j u other there p. p);
      };
      statuses = record {
        below = λ y one low there. ⊎_elim (λ before. h.statuses.below y one low before)
            (λ t. let place : y ≡ next_xid g.past = let t_is = t.0 in omega (arith, t_is, low) in ap (status_at c.statuses) place ∙ set_one ∙ ap (λ (one : Tx). status_code one.fate) t.1)
            (entry_more g.past tx one (y - 3) there);
        above = λ y later. h.statuses.above y (omega (arith, later, size));
        free = λ nobody. let is = locked.1 in let positive = locked.2 in absurd (omega (arith, nobody, is, positive));
        fates = each_turn (Fates g.past c.statuses) (Fates now c.statuses) views id w h.statuses.fates (λ _. h.statuses.above (next_xid now) (omega (arith, size))) (λ j u other there p also. absurd (gone j u other there also));
      };
      budget =
          let before = h.budget in
          let taken = was.taken_is in
          let sums = sum_set spent_by views id v w here in
          let more : notes_of now ≡ notes_of g.past + length tx.notes = sum_by-append (λ (t : Tx). length t.notes) g.past (tx ∷ []) ∙ ap (λ n. notes_of g.past + n) (sum_one tx) in
          omega (arith, before, sums, more, taken);
      posts = record {
        placed = each_turn (Placed z.format g.past c.fin c.stop) (Placed z.format now (c.fin + 1) c.stop) views id w h.posts.placed
            (λ has. let p = h.posts.placed id v here has in (p.0, placed_grows z.format g.past (tx ∷ []) c.fin (c.fin + 1) c.stop v.post.mark v.post.at counted (omega arith) p.1))
            (λ j u other there q has. let p = q has in (p.0, placed_grows z.format g.past (tx ∷ []) c.fin (c.fin + 1) c.stop u.post.mark u.post.at counted (omega arith) p.1));
        marks = each_keep Marks views id v w here h.posts.marks (λ p. p);
        shows = each_keep (ShowsPosition c.pos) views id v w here h.posts.shows (λ p. p);
        owned = λ i some_mark. still_there views id v w here (λ u. u.known.session ≡ i + 1) (λ p. p) (h.posts.owned i some_mark);
        unmade = h.posts.unmade;
        tail_placed = placed_grows z.format g.past (tx ∷ []) c.fin (c.fin + 1) c.stop (mark_in c.tail) (place_in c.tail) counted (omega arith) h.posts.tail_placed;
      };
      walks = walks_keep views id v w here z.format (room_of z) c.head c.cells h.walks refl refl (let long = length-append v.known.seen (tx ∷ []) in omega (arith, long));
      looks = record {
        looking = each_turn (LooksBy z.format g.past c.fin g.looked g.target c.tail) (LooksBy z.format now (c.fin + 1) g.looked g.target c.tail) views id w h.looks.looking
            (λ _. look_grows v.eye.look z.format g.past (tx ∷ []) c.fin (c.fin + 1) g.looked g.target c.tail v.eye counted (omega arith) (h.looks.looking id v here held))
            (λ j u other there p also. absurd (gone j u other there also));
        spared = each_keep (Spared g.looked g.target) views id v w here h.looks.spared (λ p. p);
        aims = h.looks.aims;
        above = h.looks.above;
      };
      wakes = record {
        small = h.wakes.small;
        heeds = each_turn (Heeds z.format g.past c.fin g.undecided g.concerned c.wakes) (Heeds z.format now (c.fin + 1) all may c.wakes) views id w h.wakes.heeds
            (heeds_still id v here (h.wakes.heeds id v here)) (λ j u other there p. heeds_still j u there p);
        signals = each_turn (Signals g.undecided) (Signals all) views id w h.wakes.signals (λ _ i. ap (λ (y : Shape). waits_in (replicate (seats_of y) Unseen) i) (sym setup)) (λ j u other there p also. absurd (gone j u other there also));
        calm = λ nobody. let is = locked.1 in let positive = locked.2 in absurd (omega (arith, nobody, is, positive));
        heard = each_turn (λ _ u. IsHeard c.fin g.undecided u.known.signalled) (λ _ u. IsHeard (c.fin + 1) all u.known.signalled) views id w h.wakes.heard
            (heard_still v.known.signalled (h.wakes.heard id v here)) (λ j u other there p. heard_still u.known.signalled p);
        ended = each_turn (λ _ u. u.ended ≡ ended_in u.phase c.fin) (λ _ u. u.ended ≡ ended_in u.phase (c.fin + 1)) views id w h.wakes.ended
            (let long : length v.known.seen ≡ length g.past = ap length was.seen_is in let next : next_xid v.known.seen + 1 ≡ c.fin + 1 = omega (arith, long, counted) in ap (λ (n : ℕ). Some n) next)
            (λ j u other there p. p ∙ ap (λ q. ended_in q c.fin) (free_holds u.phase (gone j u other there)) ∙ sym (ap (λ q. ended_in q (c.fin + 1)) (free_holds u.phase (gone j u other there))));
      };
      interests = record {
        covered = each_keep (Covered c.interests) views id v w here h.interests.covered (λ p. p);
        deems = each_turn (λ _ u. Deems u.phase g.concerned u.concerned) (λ _ u. Deems u.phase may u.concerned) views id w h.interests.deems
            (λ i. ap (λ (y : Shape). get_or (replicate (seats_of y) true) i false) (sym setup))
            (λ j u other there p. subst (λ (q : Phase). Deems q may u.concerned) (sym (free_holds u.phase (gone j u other there))) tt);
      };
      flags = record {
        finished = λ f. let low = h.flags.finished f in omega (arith, low);
        told = each_turn (λ _ u. IsTold c.fin u.known.told u.known.signalled) (λ _ u. IsTold (c.fin + 1) u.known.told u.known.signalled) views id w h.flags.told
            (told_still c.fin v.known.told v.known.signalled (h.flags.told id v here)) (λ j u other there p. told_still c.fin u.known.told u.known.signalled p);
        most = each_keep (λ _ u. All (IsMost c.flags) (raised_in u)) views id v w here h.flags.most (λ p. p);
        source = λ f. ⊎_elim (λ none. inl none) (λ r. inr (raised_keep views id v w here (f, get_or c.flags f 0) refl refl r)) (h.flags.source f);
        found = λ j u there. All-weaker (Raised views) (Raised (set views id w)) (λ x r. raised_keep views id v w here x refl refl r) (found_in u)
            (each_keep (λ _ x. All (Raised views) (found_in x)) views id v w here h.flags.found (λ p. p) j u there);
      };
      named = named_keep views id v w here h.named refl refl refl refl refl;
      taken = each_turn (λ j u. All (IsTaken z g.made c.fin g.seat g.past j u.known.session) u.joined) (λ j u. All (IsTaken z g.made (c.fin + 1) g.seat now j u.known.session) u.joined) views id w h.taken
          (All-weaker (IsTaken z g.made c.fin g.seat g.past id v.known.session) (IsTaken z g.made (c.fin + 1) g.seat now id v.known.session)
          (λ k p. gone_later z g.made c.fin g.seat g.past tx id v.known.session k p (λ same. p.other (sym same ∙ was.session_is))) v.joined (h.taken id v here))
          (λ j u other there all_gone. All-weaker (IsTaken z g.made c.fin g.seat g.past j u.known.session) (IsTaken z g.made (c.fin + 1) g.seat now j u.known.session)
          (λ k p. gone_later z g.made c.fin g.seat g.past tx j u.known.session k p (λ same. other (sym p.sits ∙ ap g.seat (sym same ∙ was.session_is) ∙ seated.sits))) u.joined all_gone);
    }
  where
    look_grows : (look : Look) (format : Format) (past more : List Tx) (fin fin' looked target tail : ℕ) (eye : Eye) → fin ≡ next_xid past → fin ≤ fin'
        → LookIn look format past fin looked target tail eye → LookIn look format (past ++ more) fin' looked target tail eye
    look_grows Idle format past more fin fin' looked target tail eye counted further h = tt
    look_grows First format past more fin fin' looked target tail eye counted further h = least_grows format past more fin fin' eye.least counted further h
    look_grows Second format past more fin fin' looked target tail eye counted further h = (least_grows format past more fin fin' eye.least counted further h.0, h.1)

    all_wait : (n i : ℕ) → i < n → waits_in (replicate n Unseen) i ≡ true
    all_wait zero i within = absurd (omega (arith, within))
    all_wait (suc n) zero within = refl
    all_wait (suc n) (suc i) within = all_wait n i (omega (arith, within))

    all_may : (n i : ℕ) → i < n → get_or (replicate n true) i false ≡ true
    all_may zero i within = absurd (omega (arith, within))
    all_may (suc n) zero within = refl
    all_may (suc n) (suc i) within = all_may n i (omega (arith, within))

    sum_one : (tx : Tx) → sum_by (λ (t : Tx). length t.notes) (tx ∷ []) ≡ length tx.notes
    sum_one tx = let all = sum_by-cons (λ (t : Tx). length t.notes) tx [] in omega (arith, all)

    entry_more : (past : List Tx) (tx one : Tx) (k : ℕ) → slice_get (past ++ tx ∷ []) k ≡ Some one → (slice_get past k ≡ Some one) ⊎ ((k ≡ length past) × (tx ≡ one))
    entry_more past tx one k e = Rattle.pgn_words.proofs.RingLaws.at_end past tx one k e

    own_grows : (session : ℕ) (own : List ℕ) (past : List Tx) (tx : Tx) (x : ℕ) → own ≡ xids_of session past → tx.session ≡ session → x ≡ next_xid past → own ++ x ∷ [] ≡ xids_of session (past ++ tx ∷ [])
    own_grows session own past tx x is mine number =
        let same : tx.session == session ≡ true = grind (arith, nat_tests) in
        ap (λ l. l ++ x ∷ []) is ∙ ap (λ n. xids_of session past ++ n ∷ []) number
        ∙ ap (λ b. xids_of session past ++ cond b (next_xid past ∷ []) []) (sym same) ∙ sym (xids_go_on.one session past tx)

    own_stays : (session : ℕ) (own : List ℕ) (past : List Tx) (tx : Tx) → own ≡ xids_of session past → (tx.session ≡ session → ⊥) → own ≡ xids_of session (past ++ tx ∷ [])
    own_stays session own past tx is other =
        let differs : tx.session == session ≡ false = grind (arith, nat_tests, other) in
        is ∙ sym (append-nil (xids_of session past)) ∙ ap (λ b. xids_of session past ++ cond b (next_xid past ∷ []) []) (sym differs) ∙ sym (xids_go_on.one session past tx)

    told_still : (fin told signalled : ℕ) → IsTold fin told signalled → IsTold (fin + 1) told signalled
    told_still fin told signalled p = record { first = p.first; below = p.below; finished = let low = p.finished in omega (arith, low) }

    gone_later : (z : Shape) (made fin : ℕ) (seat : ℕ → ℕ) (past : List Tx) (tx : Tx) (j session : ℕ) (k : Known) → IsTaken z made fin seat past j session k → (tx.session ≡ k.session → ⊥)
        → IsTaken z made (fin + 1) seat (past ++ tx ∷ []) j session k
    gone_later z made fin seat past tx j session k p other = record {
      sits = p.sits;
      positive = p.positive;
      was_made = p.was_made;
      other = p.other;
      db_is = p.db_is;
      sees = begins-on k.seen past (past ++ tx ∷ []) p.sees (begins-continued past (tx ∷ []));
      own_seen = p.own_seen;
      owns = own_stays k.session k.own past tx p.owns other;
      told = let low = p.told in omega (arith, low);
    }

-- a transaction that has ended counts among those that may be sent
past_low : (z : Shape) (made : ℕ) (past : List Tx) (views : List View) (id : ℕ) (v : View) → IsShape z → Budget z made past views → get_elem? views id ≡ some v → All IsFinished past → 1 ≤ v.pen.taken → next_xid past + 1 < 2 ^ 32
past_low z made past views id v shape budget here finished some_taken =
    let few = few_txs past finished in
    let left = has_left views id v here in
    let all = shape.few_notes in omega (arith, budget, few, left, all, some_taken)

-- a writer whose transaction has its status may move the first unfinished number behind it
pub store_fin_allowed : (z : Shape) (slots id next : ℕ) (me : Me ℕ View) → me.0.phase ≡ Finished → next ≡ next_xid me.0.known.seen + 1
    → Allows (Lawful z) slots id me 2 (λ _. next) (λ _. TellsFinStore (step slots 2 next 0 none) me next)
store_fin_allowed z slots id next me ended number =
    allowed z slots id 2 me (λ _. next) (λ _. TellsFinStore (step slots 2 next 0 none) me next) (λ shape c g views h here.
    let was : IsEnding z.format g.past g.shown me.0.known.seen me.0.known.session me.0.known.db me.0.pen = phase_holds Finished z c.stop g.past g.shown c.cells id me.0 ended (h.holding.holds id me.0 here) in
    let fin : next ≡ c.fin + 1 = let counted = h.history.counted in let size : length me.0.known.seen ≡ length g.past = ap length was.seen_is in omega (arith, counted, number, size) in record {
      w = fin_stored me.0;
      content = record c { fin = c.fin + 1 };
      world = after_ending me.0 z g;
      moves = ap (λ n. row (record c { fin = n })) fin;
      law = finishes z c g views id me.0 shape h here ended;
      told = record { slots = refl; view = refl; low = let size : length me.0.known.seen ≡ length g.past = ap length was.seen_is in let low = past_low z g.made g.past views id me.0 shape h.budget here h.history.finished (let taken = was.taken_is in let one = some_of me.0.pen.ending.notes was.finished.some in omega (arith, taken, one)) in omega (arith, low, size) };
    })
