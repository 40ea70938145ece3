-- The taking in of a pass keeps the rule.
use Rattle.std.specs.Prelude.{Contains}
use Rattle.std.proofs.Common.{◌≡◌, ◌≢◌, inl, inr, ⊎_elim, ℕ, zero, ◌+◌, ◌<◌, true, List, [], ◌∷◌, ◌++◌, get_or, set, All, sym, refl, ap, ◌∙◌, arith, true≢false}
use Rattle.std.proofs.lemmas.List.Elements.{All-nil, All-cons, All-append, All-weaker}
use mathlib.Core.Option.{some, some-injective}
use lib.ListN.{get_elem?}
use Rattle.atomic_table.specs.Table.{Joins}
use Rattle.atomic_table.proofs.Lists.{set_else}
use Rattle.pgn_hub.specs.declared.known.Known.{Known}
use Rattle.pgn_journal.specs.Begins.{Begins}
use Rattle.pgn_journal.proofs.BeginsLaws.{begins-none}
use Rattle.pgn_journal.specs.Journal.{next_xid, xids_of}
use Rattle.pgn_hub.specs.Shape.{Shape}
use Rattle.pgn_words.specs.declared.view.View.{View}
use Rattle.pgn_words.specs.declared.view.Phase.TheVariants.{Free}
use Rattle.pgn_words.specs.declared.view.Listen.{Listen}
use Rattle.pgn_words.specs.declared.view.Listen.TheVariants.{Out, Registered}
use Rattle.pgn_words.specs.Words.{Content, room_of}
use Rattle.pgn_words.specs.Views.{holds_lock, spent_by}
use Rattle.pgn_words.specs.Positions.{shown_as, word_of}
use Rattle.pgn_words.specs.Told.{spent_view}
use Rattle.pgn_words.specs.Closing.{taken_in}
use Rattle.pgn_words.specs.ListenRule.{Placed, Marks, ShowsPosition, Walking, Bounds, LooksBy, Spared}
use Rattle.pgn_words.specs.WakeRule.{IsHeard, IsTold, Heeds, Covered, Deems, Signals, ended_in, raised_in, found_in, named_in, Raised, IsMost, IsMarkedBy, MarkedBy, Marked, IsTaken, IsLast}
use Rattle.pgn_words.specs.Rule.{World, Seated, Makes, Locks, Draws, KnowsStop, Holds, Fates, Law, Lawful, KnowsAll}
use Rattle.pgn_words.proofs.EachLaws.{sum_set}
use Rattle.pgn_words.proofs.MoreFrames.{told_first}
use Rattle.pgn_words.proofs.NoteKept.{none_of_no}
use Rattle.pgn_words.proofs.TakenLaws.{seat_moved, seat_stays, seat_goes, each_two, seen_at, someone_two, any_left, any_right, all_taken, has_mine, has_theirs}

-- one more pass is among those that were taken in
all_joined : (P : Known → Type 0) (js us : List Known) (k : Known) → All P js → All P us → P k → All P (js ++ us ++ k ∷ [])
all_joined P js us k a b mine = All-append P (js ++ us) (k ∷ []) (All-append P js us a b) (All-cons P k [] mine (All-nil P))

-- two passes made one: the rule holds of the words with the one that took the other in, whose seats it now has, and of the other, that has
-- nothing left
takes_in : (z : Shape) (c : Content) (g : World) (views : List View) (id other : ℕ) (v u : View) → Law z c g views → get_elem? views id ≡ some v → get_elem? views other ≡ some u → other ≢ id
    → 0 < v.known.session → 0 < u.known.session → u.phase ≡ Free → u.post.listen ≡ Out
    → Law z c (record g { seat = seat_moved other id g.seat }) (set (set views id (taken_in v u)) other spent_view)
takes_in z c g views id other v u h here there apart mine_positive positive free out =
    let w : View = taken_in v u in
    let seat = h.seats.seated id v here mine_positive in
    let theirs = h.seats.seated other u there positive in
    let stays : (n at : ℕ) → g.seat n ≡ at → at ≢ other → seat_moved other id g.seat n ≡ at = λ n at is ne. seat_stays other id g.seat n at is ne in
    let mine_at : seat_moved other id g.seat v.known.session ≡ id = stays v.known.session id seat.sits (λ same. apart (sym same)) in
    let heard_first : IsHeard c.fin g.undecided 3 = let t = h.wakes.heard id v here in let first = (h.flags.told id v here).first in record { most = let most = t.most in omega (arith, most, first); decided = λ i waits. let low = t.decided i waits in omega (arith, low, first) } in
    let raised_on : (pair : ℕ × ℕ) → Raised views pair → Raised (set (set views id w) other spent_view) pair = λ pair r.
    someone_two views id other v u w here there apart (λ x. Contains (raised_in x) pair) mine_positive
    (λ p. has_mine (λ k. k.raised) v.known.raised v.joined u.joined u.known pair p) (λ p. has_theirs (λ k. k.raised) v.known.raised v.joined u.joined u.known pair p) r in
    let marked_on : (pair : ℕ × ℕ) → Marked views pair → Marked (set (set views id w) other spent_view) pair = λ pair m.
    someone_two views id other v u w here there apart (MarkedBy pair) mine_positive
    (λ p. ⊎_elim (λ own. inl own) (λ joined. inr (any_left (IsMarkedBy pair) (v.joined ++ u.joined) (u.known ∷ []) (any_left (IsMarkedBy pair) v.joined u.joined joined))) p)
    (λ p. ⊎_elim (λ own. inr (any_right (IsMarkedBy pair) (v.joined ++ u.joined) (u.known ∷ []) (zero, u.known, omega arith, refl, own)))
    (λ joined. inr (any_left (IsMarkedBy pair) (v.joined ++ u.joined) (u.known ∷ []) (any_right (IsMarkedBy pair) v.joined u.joined joined))) p) m in record {
      laid = h.laid;
      seats = record {
        few = h.seats.few;
        seated = each_two views id other v u w here there apart (Seated z g.made g.seat) (Seated z g.made (seat_moved other id g.seat)) h.seats.seated
            (λ _. record { sits = mine_at; was_made = seat.was_made; db_is = seat.db_is; some_db = seat.some_db; db_fits = seat.db_fits; setup_is = seat.setup_is })
            (λ some_session. absurd (omega (arith, some_session)))
            (λ j x off off_other at p some_session. let s = p some_session in record { sits = stays x.known.session j s.sits off_other; was_made = s.was_made; db_is = s.db_is; some_db = s.some_db; db_fits = s.db_fits; setup_is = s.setup_is });
        makes = each_two views id other v u w here there apart (Makes g.made) (Makes g.made) h.seats.makes (h.seats.makes id v here) (λ makes. absurd (omega (arith, makes))) (λ j x off off_other at p. p);
      };
      locking = record {
        locks = each_two views id other v u w here there apart (Locks c.lock g.holder) (Locks c.lock g.holder) h.locking.locks (h.locking.locks id v here) (λ held. absurd (cc)) (λ j x off off_other at p. p);
        owned = λ lock.
            let o = h.locking.owned lock in
            let off : g.holder ≢ other = λ same.
            let one : u ≡ o.0 = some-injective u o.0 (sym there ∙ ap (get_elem? views) (sym same) ∙ o.1) in
            true≢false (sym o.3 ∙ ap (λ (x : View). holds_lock x.phase) (sym one) ∙ ap holds_lock free) in
            let r = seen_at views id other v u w here there apart (λ x. (x.known.session ≡ c.lock) × (holds_lock x.phase ≡ true)) (λ p. p) g.holder o.0 o.1 off (o.2, o.3) in (r.0, r.1, r.2.0, r.2.1);
      };
      stored = h.stored;
      history = record {
        counted = h.history.counted;
        finished = h.history.finished;
        sessions = h.history.sessions;
        written = h.history.written;
        one_more = h.history.one_more;
        begins = h.history.begins;
        free = h.history.free;
        whole = someone_two views id other v u w here there apart (KnowsAll g.past) mine_positive
            (λ p. ⊎_elim (λ own. inl own) (λ joined. inr (any_left (λ k. k.seen ≡ g.past) (v.joined ++ u.joined) (u.known ∷ []) (any_left (λ k. k.seen ≡ g.past) v.joined u.joined joined))) p)
            (λ p. ⊎_elim (λ own. inr (any_right (λ k. k.seen ≡ g.past) (v.joined ++ u.joined) (u.known ∷ []) (zero, u.known, omega arith, refl, own)))
            (λ joined. inr (any_left (λ k. k.seen ≡ g.past) (v.joined ++ u.joined) (u.known ∷ []) (any_right (λ k. k.seen ≡ g.past) v.joined u.joined joined))) p) h.history.whole;
        sees = each_two views id other v u w here there apart (λ _ x. Begins x.known.seen g.past) (λ _ x. Begins x.known.seen g.past) h.history.sees (h.history.sees id v here) (begins-none g.past) (λ j x off off_other at p. p);
        own_seen = each_two views id other v u w here there apart (λ _ u. All (λ x. x < next_xid u.known.seen) u.known.own) (λ _ u. All (λ x. x < next_xid u.known.seen) u.known.own) h.history.own_seen (h.history.own_seen id v here) (All-nil (λ (x : ℕ). x < 3)) (λ j x off off_other at p. p);
        owns = each_two views id other v u w here there apart (λ _ x. x.known.own ≡ xids_of x.known.session g.past) (λ _ x. x.known.own ≡ xids_of x.known.session g.past) h.history.owns
            (h.history.owns id v here) (sym (none_of_no z 3 g.made g.past h.history.sessions)) (λ j x off off_other at p. p);
      };
      numbers = record {
        free = h.numbers.free;
        draws = each_two views id other v u w here there apart (Draws c.fin c.xid) (Draws c.fin c.xid) h.numbers.draws (h.numbers.draws id v here) (λ held. absurd (cc)) (λ j x off off_other at p. p);
      };
      holding = record {
        holds = each_two views id other v u w here there apart (Holds z c.stop g.past g.shown c.cells) (Holds z c.stop g.past g.shown c.cells) h.holding.holds
            (h.holding.holds id v here) tt (λ j x off off_other at p. p);
        stops = each_two views id other v u w here there apart (KnowsStop c.stop) (KnowsStop c.stop) h.holding.stops (h.holding.stops id v here) (λ knows. absurd (cc)) (λ j x off off_other at p. p);
      };
      statuses = record {
        below = h.statuses.below;
        above = h.statuses.above;
        free = h.statuses.free;
        fates = each_two views id other v u w here there apart (Fates g.past c.statuses) (Fates g.past c.statuses) h.statuses.fates (h.statuses.fates id v here) (λ held. absurd (cc)) (λ j x off off_other at p. p);
      };
      budget =
          let before = h.budget in
          let first = sum_set spent_by views id v w here in
          let second = sum_set spent_by (set views id w) other u spent_view (set_else views id other w apart ∙ there) in
          omega (arith, before, first, second);
      posts = record {
        placed = each_two views id other v u w here there apart (Placed z.format g.past c.fin c.stop) (Placed z.format g.past c.fin c.stop) h.posts.placed (h.posts.placed id v here) (λ has. absurd (cc)) (λ j x off off_other at p. p);
        marks = each_two views id other v u w here there apart Marks Marks h.posts.marks (h.posts.marks id v here) refl (λ j x off off_other at p. p);
        shows = each_two views id other v u w here there apart (ShowsPosition c.pos) (ShowsPosition c.pos) h.posts.shows (h.posts.shows id v here) (λ i number. absurd (omega (arith, number))) (λ j x off off_other at p. p);
        owned = λ i some_mark.
            let o = h.posts.owned i some_mark in
            let off : o.0 ≢ other = λ same.
            let one : u ≡ o.1 = some-injective u o.1 (sym there ∙ ap (get_elem? views) (sym same) ∙ o.2) in
            let number : u.known.session ≡ i + 1 = ap (λ (x : View). x.known.session) one ∙ o.3 in
            let none : get_or c.pos i 0 ≡ 0 = h.posts.shows other u there i number ∙ ap (λ (l : Listen). word_of (shown_as l u.post.mark u.post.at)) out in omega (arith, none, some_mark) in
            let r = seen_at views id other v u w here there apart (λ x. x.known.session ≡ i + 1) (λ p. p) o.0 o.1 o.2 off o.3 in (o.0, r.0, r.1, r.2);
        unmade = h.posts.unmade;
        tail_placed = h.posts.tail_placed;
      };
      walks = record {
        walking = each_two views id other v u w here there apart Walking Walking h.walks.walking
            (h.walks.walking id v here) (λ walks. absurd (cc)) (λ j x off off_other at p. p);
        bounds = each_two views id other v u w here there apart (Bounds z.format (room_of z) c.head c.cells) (Bounds z.format (room_of z) c.head c.cells) h.walks.bounds (h.walks.bounds id v here) (λ bounded. absurd (cc)) (λ j x off off_other at p. p);
      };
      looks = record {
        looking = each_two views id other v u w here there apart (LooksBy z.format g.past c.fin g.looked g.target c.tail) (LooksBy z.format g.past c.fin g.looked g.target c.tail) h.looks.looking (h.looks.looking id v here) (λ held. absurd (cc)) (λ j x off off_other at p. p);
        spared = each_two views id other v u w here there apart (Spared g.looked g.target) (Spared g.looked g.target) h.looks.spared (h.looks.spared id v here) (λ has. absurd (cc)) (λ j x off off_other at p. p);
        aims = h.looks.aims;
        above = h.looks.above;
      };
      wakes = record {
        small = h.wakes.small;
        heeds = each_two views id other v u w here there apart (Heeds z.format g.past c.fin g.undecided g.concerned c.wakes) (Heeds z.format g.past c.fin g.undecided g.concerned c.wakes) h.wakes.heeds (h.wakes.heeds id v here) (λ registered. absurd (cc)) (λ j x off off_other at p. p);
        signals = each_two views id other v u w here there apart (Signals g.undecided) (Signals g.undecided) h.wakes.signals (h.wakes.signals id v here) (λ held. absurd (cc)) (λ j x off off_other at p. p);
        calm = h.wakes.calm;
        heard = each_two views id other v u w here there apart (λ _ x. IsHeard c.fin g.undecided x.known.signalled) (λ _ x. IsHeard c.fin g.undecided x.known.signalled) h.wakes.heard (h.wakes.heard id v here) heard_first (λ j x off off_other at p. p);
        ended = each_two views id other v u w here there apart (λ _ x. x.ended ≡ ended_in x.phase c.fin) (λ _ x. x.ended ≡ ended_in x.phase c.fin) h.wakes.ended (h.wakes.ended id v here) refl (λ j x off off_other at p. p);
      };
      interests = record {
        covered = each_two views id other v u w here there apart (Covered c.interests) (Covered c.interests) h.interests.covered (h.interests.covered id v here) (λ registered. absurd (cc)) (λ j x off off_other at p. p);
        deems = each_two views id other v u w here there apart (λ _ x. Deems x.phase g.concerned x.concerned) (λ _ x. Deems x.phase g.concerned x.concerned) h.interests.deems (h.interests.deems id v here) tt (λ j x off off_other at p. p);
      };
      flags = record {
        finished = h.flags.finished;
        told = each_two views id other v u w here there apart (λ _ x. IsTold c.fin x.known.told x.known.signalled) (λ _ x. IsTold c.fin x.known.told x.known.signalled) h.flags.told (h.flags.told id v here) (told_first c.fin v.known.told v.known.signalled (h.flags.told id v here)) (λ j x off off_other at p. p);
        most = each_two views id other v u w here there apart (λ _ x. All (IsMost c.flags) (raised_in x)) (λ _ x. All (IsMost c.flags) (raised_in x)) h.flags.most
            (all_taken (IsMost c.flags) (λ k. k.raised) v.known.raised v.joined u.joined u.known (h.flags.most id v here) (h.flags.most other u there)) (All-nil (IsMost c.flags)) (λ j x off off_other at p. p);
        source = λ f. ⊎_elim (λ none_raised. inl none_raised) (λ r. inr (raised_on (f, get_or c.flags f 0) r)) (h.flags.source f);
        found = each_two views id other v u w here there apart (λ _ x. All (Raised views) (found_in x)) (λ _ x. All (Raised (set (set views id w) other spent_view)) (found_in x)) h.flags.found
            (All-weaker (Raised views) (Raised (set (set views id w) other spent_view)) raised_on (found_in w) (all_taken (Raised views) (λ k. k.found) v.known.found v.joined u.joined u.known (h.flags.found id v here) (h.flags.found other u there)))
            (All-nil (Raised (set (set views id w) other spent_view)))
            (λ j x off off_other at p. All-weaker (Raised views) (Raised (set (set views id w) other spent_view)) raised_on (found_in x) p);
      };
      named = record {
        current = each_two views id other v u w here there apart (λ _ x. x.post.listen ≡ Registered → IsLast x.known.marks x.post.mark) (λ _ x. x.post.listen ≡ Registered → IsLast x.known.marks x.post.mark) h.named.current (h.named.current id v here) (λ registered. absurd (cc)) (λ j x off off_other at p. p);
        named = each_two views id other v u w here there apart (λ _ x. All (Marked views) (named_in x)) (λ _ x. All (Marked (set (set views id w) other spent_view)) (named_in x)) h.named.named
            (All-weaker (Marked views) (Marked (set (set views id w) other spent_view)) marked_on (named_in w) (all_taken (Marked views) (λ k. k.named) v.known.named v.joined u.joined u.known (h.named.named id v here) (h.named.named other u there)))
            (All-nil (Marked (set (set views id w) other spent_view)))
            (λ j x off off_other at p. All-weaker (Marked views) (Marked (set (set views id w) other spent_view)) marked_on (named_in x) p);
      };
      taken = each_two views id other v u w here there apart (λ j x. All (IsTaken z g.made c.fin g.seat g.past j x.known.session) x.joined) (λ j x. All (IsTaken z g.made c.fin (seat_moved other id g.seat) g.past j x.known.session) x.joined) h.taken
          (all_joined (IsTaken z g.made c.fin (seat_moved other id g.seat) g.past id v.known.session) v.joined u.joined u.known
          (All-weaker (IsTaken z g.made c.fin g.seat g.past id v.known.session) (IsTaken z g.made c.fin (seat_moved other id g.seat) g.past id v.known.session)
          (λ k p. record { sits = stays k.session id p.sits (λ same. apart (sym same)); positive = p.positive; was_made = p.was_made; other = p.other; db_is = p.db_is; sees = p.sees; owns = p.owns; own_seen = p.own_seen; told = p.told }) v.joined (h.taken id v here))
          (All-weaker (IsTaken z g.made c.fin g.seat g.past other u.known.session) (IsTaken z g.made c.fin (seat_moved other id g.seat) g.past id v.known.session)
          (λ k p. record { sits = seat_goes other id g.seat k.session p.sits; positive = p.positive; was_made = p.was_made; other = λ same. apart (sym p.sits ∙ ap g.seat same ∙ seat.sits); db_is = p.db_is; sees = p.sees; owns = p.owns; own_seen = p.own_seen; told = p.told }) u.joined (h.taken other u there))
          (record {
            sits = seat_goes other id g.seat u.known.session theirs.sits;
            positive = positive;
            was_made = theirs.was_made;
            other = λ same. apart (sym theirs.sits ∙ ap g.seat same ∙ seat.sits);
            db_is = theirs.db_is;
            sees = h.history.sees other u there;
            owns = h.history.owns other u there;
            own_seen = h.history.own_seen other u there;
            told = (h.flags.told other u there).finished;
          }))
          (All-nil (IsTaken z g.made c.fin (seat_moved other id g.seat) g.past other 0))
          (λ j x off off_other at all. All-weaker (IsTaken z g.made c.fin g.seat g.past j x.known.session) (IsTaken z g.made c.fin (seat_moved other id g.seat) g.past j x.known.session)
          (λ k p. record { sits = stays k.session j p.sits off_other; positive = p.positive; was_made = p.was_made; other = p.other; db_is = p.db_is; sees = p.sees; owns = p.owns; own_seen = p.own_seen; told = p.told }) x.joined all);
    }

-- a pass may take in another one that neither holds the lock nor listens
pub take_in_allowed : (z : Shape) (id other : ℕ) (v u : View) → 0 < v.known.session → 0 < u.known.session → u.phase ≡ Free → u.post.listen ≡ Out → Joins (Lawful z) id v other u (taken_in v u) spent_view
take_in_allowed z id other v u mine_positive positive free out s holds here apart there =
    let theirs : get_elem? s.views other ≡ some u = sym (set_else s.views id other (taken_in v u) apart) ∙ there in record {
      shape = holds.shape;
      content = holds.content;
      world = record holds.world { seat = seat_moved other id holds.world.seat };
      stands = holds.stands;
      law = takes_in z holds.content holds.world s.views id other v u holds.law here theirs apart mine_positive positive free out;
    }
