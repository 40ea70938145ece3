-- The making of a pass keeps the rule.
use Rattle.std.proofs.Common.{◌≡◌, ℕ, zero, suc, ◌+◌, ◌-◌, ◌^◌, ◌<◌, ◌≤◌, ◌==◌, true, false, cond, List, [], ◌∷◌, ◌++◌, length, get_or, drop, set, All, sym, refl, ap, ◌∙◌, subst, arith, length-set}
use Rattle.std.proofs.lemmas.List.Elements.{All-nil, All-weaker, All-head, All-tail}
use Rattle.std.proofs.lemmas.List.Sums.{sum_by-cons}
use Rattle.std.proofs.lemmas.Bool.Decides.{nat_tests}
use mathlib.Core.Option.{some}
use lib.ListN.{get_elem?}
use Rattle.atomic_table.specs.Table.{Splits}
use Rattle.atomic_table.proofs.Lists.{at_longer}
use Rattle.pgn_journal.specs.declared.tx.Tx.{Tx}
use Rattle.pgn_hub.specs.declared.setup.SeatSetup.{SeatSetup}
use Rattle.pgn_hub.specs.declared.known.Known.{Known}
use Rattle.pgn_journal.specs.Begins.{Begins}
use Rattle.pgn_journal.proofs.BeginsLaws.{begins-none}
use Rattle.pgn_journal.specs.Journal.{next_xid, xids_from, xids_of}
use Rattle.pgn_hub.specs.Shape.{Shape, notes_of_seats}
use Rattle.pgn_words.specs.declared.view.View.{View}
use Rattle.pgn_words.specs.Words.{Content, seats_of, room_of}
use Rattle.pgn_words.specs.Views.{seat_of, no_seat, opened_view, spent_by}
use Rattle.pgn_words.specs.ListenRule.{Placed, Marks, ShowsPosition, Walking, Bounds, LooksBy, Spared}
use Rattle.pgn_words.specs.WakeRule.{IsHeard, Heeds, Covered, Deems, Signals, ended_in, IsTaken}
use Rattle.pgn_words.specs.Rule.{World, IsSeated, Seated, Makes, Locks, Locking, WasMade, Draws, KnowsStop, Holds, Law, Lawful, Fates, KnowsAll}
use Rattle.pgn_words.specs.Told.{after_making, made_by}
use Rattle.pgn_words.proofs.EachLaws.{each_turn, each_keep, each_made, sum_set, sum_made}
use Rattle.pgn_words.proofs.Frames.{locking_keep}
use Rattle.pgn_words.proofs.MoreFrames.{told_first, someone_keep, posts_keep, flags_keep, named_keep}
use Rattle.pgn_words.proofs.MoreMade.{someone_more, flags_more, named_more}

-- the seats, with one more
abbrev pub seat_more : ℕ → ℕ → (ℕ → ℕ) → ℕ → ℕ
seat_more made at seat n = cond (n == made + 1) at (seat n)

seat_before : (made at n : ℕ) (seat : ℕ → ℕ) → n ≤ made → seat_more made at seat n ≡ seat n
seat_before made at n seat low = let other : n == made + 1 ≡ false = grind (arith, nat_tests) in ap (λ b. cond b at (seat n)) other

seat_last : (made at : ℕ) (seat : ℕ → ℕ) → seat_more made at seat (made + 1) ≡ at
seat_last made at seat = let same : made + 1 == made + 1 ≡ true = grind (arith, nat_tests) in ap (λ b. cond b at (seat (made + 1))) same

-- nothing in the journal is of a session whose pass is not made
none_of : (z : Shape) (n x made : ℕ) (past : List Tx) → made < n → All (WasMade z made) past → xids_from n x past ≡ []
none_of z n x made [] later all = refl
none_of z n x made (tx ∷ past) later all =
    let first = All-head (WasMade z made) tx past all in
    let other : tx.session == n ≡ false = let low = first.1 in grind (arith, nat_tests) in
    let more = none_of z n (x + 1) made past later (All-tail (WasMade z made) tx past all) in
    ap (λ b. cond b (x ∷ xids_from n (x + 1) past) (xids_from n (x + 1) past)) other ∙ more

-- the notifications of the seats from one on
pub seat_taken : (seats : List SeatSetup) (k : ℕ) → k < length seats → notes_of_seats (drop k seats) ≡ (get_or seats k no_seat).notes + notes_of_seats (drop (k + 1) seats)
seat_taken [] k within = absurd (omega (arith, within))
seat_taken (s ∷ seats) zero within = sum_by-cons (λ (x : SeatSetup). x.notes) s seats
seat_taken (s ∷ seats) (suc k) within =
    let next : k + 1 ≡ suc k = omega arith in
    let after : suc k + 1 ≡ suc (k + 1) = omega arith in
    seat_taken seats k (omega (arith, within)) ∙ ap (λ n. (get_or seats k no_seat).notes + notes_of_seats (drop n (s ∷ seats))) (sym after)

makes : (z : Shape) (c : Content) (g : World) (views : List View) (id : ℕ) (v : View) → Law z c g views → get_elem? views id ≡ some v → 0 < v.made → v.made < seats_of z → 0 < (seat_of z (g.made + 1)).db → (seat_of z (g.made + 1)).db < 2 ^ 32
    → Law z c (record g { made = g.made + 1; seat = seat_more g.made (length views) g.seat }) (set views id (after_making v) ++ opened_view z (g.made + 1) ∷ [])
makes z c g views id v h here mine room some_db db_fits =
    let left : View = after_making v in
    let right : View = opened_view z (g.made + 1) in
    let me = h.seats.makes id v here mine in
    let made : v.made ≡ g.made = me.1 in
    let long : length (set views id left) ≡ length views = length-set views id left in
    let keep : (n : ℕ) → n ≤ g.made → seat_more g.made (length views) g.seat n ≡ g.seat n = λ n low. seat_before g.made (length views) n g.seat low in
    let heard_first : IsHeard c.fin g.undecided 3 = let t = h.wakes.heard id v here in let first = (h.flags.told id v here).first in record { most = let most = t.most in omega (arith, most, first); decided = λ i waits. let low = t.decided i waits in omega (arith, low, first) } in
    let locking : Locking c.lock g.holder (set views id left) = locking_keep views id v left here c.lock g.holder h.locking refl refl in record {
      laid = h.laid;
      seats = record {
        few = omega (arith, made, room);
        seated = each_made (Seated z (g.made + 1) (seat_more g.made (length views) g.seat)) (set views id left) right
            (each_turn (Seated z g.made g.seat) (Seated z (g.made + 1) (seat_more g.made (length views) g.seat)) views id left h.seats.seated
            (λ positive. let s = more z g.made (length views) g.seat id v keep (h.seats.seated id v here positive) in record { sits = s.sits; was_made = s.was_made; db_is = s.db_is; some_db = s.some_db; db_fits = s.db_fits; setup_is = s.setup_is })
            (λ j u other there p positive. more z g.made (length views) g.seat j u keep (p positive)))
            (λ positive. record { sits = seat_last g.made (length views) g.seat ∙ sym long; was_made = omega arith; db_is = refl; some_db = some_db; db_fits = db_fits; setup_is = refl });
        makes = each_made (Makes (g.made + 1)) (set views id left) right
            (each_turn (Makes g.made) (Makes (g.made + 1)) views id left h.seats.makes (λ _. (me.0, ap (λ n. n + 1) made))
            (λ j u other there p positive. let theirs = p positive in let one : j ≡ id = sym (seat_is z g.made g.seat j u (h.seats.seated j u there) theirs.0) ∙ seat_is z g.made g.seat id v (h.seats.seated id v here) me.0 in absurd (other one)))
            (λ positive. absurd (omega (arith, positive)));
      };
      locking = record {
        locks = each_made (Locks c.lock g.holder) (set views id left) right locking.locks (λ held. absurd (cc));
        owned = λ lock. let o = locking.owned lock in (o.0, at_longer (set views id left) (right ∷ []) g.holder o.0 o.1, o.2, o.3);
      };
      stored = h.stored;
      history = record {
        counted = h.history.counted;
        finished = h.history.finished;
        sessions = All-weaker (WasMade z g.made) (WasMade z (g.made + 1)) (λ tx p. let low = p.1 in (p.0, omega (arith, low), p.2)) g.past h.history.sessions;
        written = h.history.written;
        one_more = h.history.one_more;
        begins = h.history.begins;
        free = h.history.free;
        whole = someone_more (set views id left) right (KnowsAll g.past) (someone_keep views id v left here (KnowsAll g.past) refl (λ p. p) h.history.whole);
        sees = each_made (λ _ u. Begins u.known.seen g.past) (set views id left) right (each_keep (λ _ u. Begins u.known.seen g.past) views id v left here h.history.sees (λ p. p)) (begins-none g.past);
        own_seen = each_made (λ _ u. All (λ x. x < next_xid u.known.seen) u.known.own) (set views id left) right (each_keep (λ _ u. All (λ x. x < next_xid u.known.seen) u.known.own) views id v left here h.history.own_seen (λ p. p)) (All-nil (λ (x : ℕ). x < 3));
        owns = each_made (λ _ u. u.known.own ≡ xids_of u.known.session g.past) (set views id left) right (each_keep (λ _ u. u.known.own ≡ xids_of u.known.session g.past) views id v left here h.history.owns (λ p. p))
            (sym (none_of z (g.made + 1) 3 g.made g.past (omega arith) h.history.sessions));
      };
      numbers = record {
        free = h.numbers.free;
        draws = each_made (Draws c.fin c.xid) (set views id left) right (each_keep (Draws c.fin c.xid) views id v left here h.numbers.draws (λ p. p)) (λ held. absurd (cc));
      };
      holding = record {
        holds = each_made (Holds z c.stop g.past g.shown c.cells) (set views id left) right (each_keep (Holds z c.stop g.past g.shown c.cells) views id v left here h.holding.holds (λ p. p)) tt;
        stops = each_made (KnowsStop c.stop) (set views id left) right (each_keep (KnowsStop c.stop) views id v left here h.holding.stops (λ p. p)) (λ held. absurd (cc));
      };
      statuses = record {
        below = h.statuses.below;
        above = h.statuses.above;
        free = h.statuses.free;
        fates = each_made (Fates g.past c.statuses) (set views id left) right (each_keep (Fates g.past c.statuses) views id v left here h.statuses.fates (λ p. p)) (λ held. absurd (cc));
      };
      budget =
          let before = h.budget in
          let kept = sum_set spent_by views id v left here in
          let more = sum_made spent_by (set views id left) right in
          let index : g.made + 1 - 1 ≡ g.made = omega arith in
          let notes : (seat_of z (g.made + 1)).notes ≡ (get_or z.seats g.made no_seat).notes = ap (λ n. (get_or z.seats n no_seat).notes) index in
          let taken = seat_taken z.seats g.made (omega (arith, made, room)) in
          omega (arith, before, kept, more, notes, taken);
      posts =
          let p = posts_keep views id v left here z.format g.past c.fin c.stop g.made c.tail c.pos h.posts refl refl refl in record {
            placed = each_made (Placed z.format g.past c.fin c.stop) (set views id left) right p.placed (λ has. absurd (cc));
            marks = each_made Marks (set views id left) right p.marks refl;
            shows = each_made (ShowsPosition c.pos) (set views id left) right p.shows (λ i number. h.posts.unmade i (omega (arith, number)));
            owned = λ i some_mark. let o = p.owned i some_mark in (o.0, o.1, at_longer (set views id left) (right ∷ []) o.0 o.1 o.2, o.3);
            unmade = λ i later. h.posts.unmade i (omega (arith, later));
            tail_placed = h.posts.tail_placed;
          };
      walks = record {
        walking = each_made Walking (set views id left) right (each_keep Walking views id v left here h.walks.walking (λ p. p)) (λ walks. absurd (cc));
        bounds = each_made (Bounds z.format (room_of z) c.head c.cells) (set views id left) right (each_keep (Bounds z.format (room_of z) c.head c.cells) views id v left here h.walks.bounds (λ p. p)) (λ bounded. absurd (cc));
      };
      looks = record {
        looking = each_made (LooksBy z.format g.past c.fin g.looked g.target c.tail) (set views id left) right
            (each_keep (LooksBy z.format g.past c.fin g.looked g.target c.tail) views id v left here h.looks.looking (λ p. p)) (λ held. absurd (cc));
        spared = each_made (Spared g.looked g.target) (set views id left) right (each_keep (Spared g.looked g.target) views id v left here h.looks.spared (λ p. p)) (λ has. absurd (cc));
        aims = h.looks.aims;
        above = h.looks.above;
      };
      wakes = record {
        small = h.wakes.small;
        heeds = each_made (Heeds z.format g.past c.fin g.undecided g.concerned c.wakes) (set views id left) right (each_keep (Heeds z.format g.past c.fin g.undecided g.concerned c.wakes) views id v left here h.wakes.heeds (λ p. p)) (λ registered. absurd (cc));
        signals = each_made (Signals g.undecided) (set views id left) right (each_keep (Signals g.undecided) views id v left here h.wakes.signals (λ p. p)) (λ held. absurd (cc));
        calm = h.wakes.calm;
        heard = each_made (λ _ u. IsHeard c.fin g.undecided u.known.signalled) (set views id left) right (each_keep (λ _ u. IsHeard c.fin g.undecided u.known.signalled) views id v left here h.wakes.heard (λ p. p)) heard_first;
        ended = each_made (λ _ u. u.ended ≡ ended_in u.phase c.fin) (set views id left) right (each_keep (λ _ u. u.ended ≡ ended_in u.phase c.fin) views id v left here h.wakes.ended (λ p. p)) refl;
      };
      interests = record {
        covered = each_made (Covered c.interests) (set views id left) right (each_keep (Covered c.interests) views id v left here h.interests.covered (λ p. p)) (λ registered. absurd (cc));
        deems = each_made (λ _ u. Deems u.phase g.concerned u.concerned) (set views id left) right (each_keep (λ _ u. Deems u.phase g.concerned u.concerned) views id v left here h.interests.deems (λ p. p)) tt;
      };
      flags = flags_more (set views id left) right c.fin c.flags (flags_keep views id v left here c.fin c.flags h.flags refl (h.flags.told id v here) refl refl) (told_first c.fin v.known.told v.known.signalled (h.flags.told id v here)) refl refl;
      named = named_more (set views id left) right (named_keep views id v left here h.named refl refl refl refl refl) (λ registered. absurd (cc)) refl;
      taken = each_made (λ j u. All (IsTaken z (g.made + 1) c.fin (seat_more g.made (length views) g.seat) g.past j u.known.session) u.joined) (set views id left) right
          (each_turn (λ j u. All (IsTaken z g.made c.fin g.seat g.past j u.known.session) u.joined) (λ j u. All (IsTaken z (g.made + 1) c.fin (seat_more g.made (length views) g.seat) g.past j u.known.session) u.joined) views id left h.taken
          (gone_more z g.made c.fin (length views) g.seat g.past id v.known.session v.joined keep (h.taken id v here))
          (λ j u other there all. gone_more z g.made c.fin (length views) g.seat g.past j u.known.session u.joined keep all))
          (All-nil (IsTaken z (g.made + 1) c.fin (seat_more g.made (length views) g.seat) g.past (length (set views id left)) (g.made + 1)));
    }
  where
    more : (z : Shape) (made at : ℕ) (seat : ℕ → ℕ) (j : ℕ) (u : View) → ((n : ℕ) → n ≤ made → seat_more made at seat n ≡ seat n) → IsSeated z made seat j u → IsSeated z (made + 1) (seat_more made at seat) j u
    more z made at seat j u keep s = record { sits = keep u.known.session s.was_made ∙ s.sits; was_made = let low = s.was_made in omega (arith, low); db_is = s.db_is; some_db = s.some_db; db_fits = s.db_fits; setup_is = s.setup_is }

    gone_more : (z : Shape) (made fin : ℕ) (at : ℕ) (seat : ℕ → ℕ) (past : List Tx) (j session : ℕ) (gone : List Known) → ((n : ℕ) → n ≤ made → seat_more made at seat n ≡ seat n)
        → All (IsTaken z made fin seat past j session) gone → All (IsTaken z (made + 1) fin (seat_more made at seat) past j session) gone
    gone_more z made fin at seat past j session gone keep all = All-weaker (IsTaken z made fin seat past j session) (IsTaken z (made + 1) fin (seat_more made at seat) past j session) (λ k p. record {
      sits = keep k.session p.was_made ∙ p.sits;
      positive = p.positive;
      was_made = let low = p.was_made in omega (arith, low);
      other = p.other;
      db_is = p.db_is;
      sees = p.sees;
      owns = p.owns;
      own_seen = p.own_seen;
      told = p.told;
    }) gone all

    seat_is : (z : Shape) (made : ℕ) (seat : ℕ → ℕ) (j : ℕ) (u : View) → Seated z made seat j u → u.known.session ≡ 1 → seat 1 ≡ j
    seat_is z made seat j u s one = ap seat (sym one) ∙ (s (omega (arith, one))).sits

-- the first pass may make that of the next seat
pub make_allowed : (z : Shape) (id : ℕ) (v : View) → v.setup ≡ z → 0 < v.made → v.made < seats_of z → 0 < (seat_of z (v.made + 1)).db → (seat_of z (v.made + 1)).db < 2 ^ 32 → Splits (Lawful z) id v (after_making v) (made_by v)
make_allowed z id v setup mine room some_db db_fits s holds here =
    let me = holds.law.seats.makes id v here mine in
    let same : opened_view z (holds.world.made + 1) ≡ made_by v = ap (λ n. opened_view z (n + 1)) (sym me.1) ∙ ap (λ (y : Shape). opened_view y (v.made + 1)) (sym setup) in record {
      shape = holds.shape;
      content = holds.content;
      world = record holds.world { made = holds.world.made + 1; seat = seat_more holds.world.made (length s.views) holds.world.seat };
      stands = holds.stands;
      law = subst (λ (u : View). Law z holds.content (record holds.world { made = holds.world.made + 1; seat = seat_more holds.world.made (length s.views) holds.world.seat }) (set s.views id (after_making v) ++ u ∷ [])) same
          (makes z holds.content holds.world s.views id v holds.law here mine room (subst (λ (n : ℕ). 0 < (seat_of z (n + 1)).db) me.1 some_db) (subst (λ (n : ℕ). (seat_of z (n + 1)).db < 2 ^ 32) me.1 db_fits));
    }
