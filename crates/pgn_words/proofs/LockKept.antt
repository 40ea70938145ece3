-- The steps on the lock keep the rule.
use Rattle.std.proofs.Common.{◌≡◌, ◌≢◌, ℕ, zero, suc, ◌+◌, ◌<◌, ◌≤◌, ◌==◌, true, false, Bool, Option, true≢false, unwrap_or, List, [], ◌∷◌, ◌++◌, length, drop, set, sum_by, All, inl, sym, refl, ap, ◌∙◌, subst, arith}
use Rattle.std.proofs.lemmas.List.Elements.{All-head, All-tail}
use Rattle.std.proofs.lemmas.List.Sums.{sum_by-cons}
use mathlib.Core.Option.{some, none, some-injective, some-ne-none}
use lib.ListN.{get_elem?}
use Rattle.atomic_table.specs.Table.{Me, Allows, step}
use Rattle.atomic_table.proofs.Lists.{exchanged}
use prog.Atomic.{either}
use Rattle.pgn_base.specs.declared.limits.TheConstants.{FIRST_XID}
use Rattle.pgn_base.specs.declared.note.Note.{Note}
use Rattle.pgn_journal.specs.declared.tx.Tx.{Tx}
use Rattle.pgn_journal.specs.declared.tx.Fate.{Fate}
use Rattle.pgn_journal.specs.Begins.{Begins}
use Rattle.pgn_journal.proofs.BeginsLaws.{begins-rest, begins-itself, begins-shorter}
use Rattle.pgn_journal.specs.Journal.{next_xid, xids_of, IsFinished}
use Rattle.pgn_hub.specs.Shape.{Shape, notes_of_seats}
use Rattle.pgn_words.specs.declared.view.View.{View}
use Rattle.pgn_words.specs.declared.view.Phase.{Phase}
use Rattle.pgn_words.specs.declared.view.Phase.TheVariants.{Free, Held, Headed, Ready, Open, Finished, Signalling}
use Rattle.pgn_words.specs.declared.view.Verdict.{Verdict}
use Rattle.pgn_words.specs.declared.view.Verdict.TheVariants.{Decided}
use Rattle.pgn_words.specs.Words.{Content, room_of, seats_of}
use Rattle.pgn_words.specs.Views.{holds_lock, knows_stop, drawn_by, spent_by, fated, may_drop, is_open, AreDecided}
use Rattle.pgn_words.specs.ListenRule.{LooksBy, Spared}
use Rattle.pgn_words.specs.WakeRule.{IsHeard, IsTold, Signals, ended_in, pending, waits_in}
use Rattle.pgn_words.specs.Rule.{World, Locks, Locking, Draws, KnowsStop, HoldsIn, Holds, Law, Lawful, Keeps, Budget, notes_of, Fates, KnowsAll}
use Rattle.pgn_words.specs.Told.{HasLocked, IsLocked, TellsLock, TellsDrop, locked, refused, freed}
use Rattle.pgn_words.proofs.EachLaws.{each_turn, each_keep, changed_at, own_further}
use Rattle.pgn_words.proofs.Frames.{seats_keep, locking_keep, history_keep, numbers_keep, budget_keep, statuses_keep}
use Rattle.pgn_words.proofs.MoreFrames.{posts_keep, walks_keep, looks_keep, heeds_keep, wakes_keep, interests_keep, flags_keep, named_keep, taken_keep, someone_keep}
use Rattle.pgn_words.proofs.Meets.{Goes, allowed}

-- nobody holds the lock while its word is 0
pub nobody : (lock holder : ℕ) (views : List View) → Locking lock holder views → lock ≡ 0 → (j : ℕ) (u : View) → get_elem? views j ≡ some u → holds_lock u.phase ≡ true → ⊥
nobody lock holder views h nothing j u there held = let l = h.locks j u there held in let positive = l.2 in let is = l.1 in omega (arith, positive, is, nothing)

-- nobody but the holder holds it
pub alone : (lock holder : ℕ) (views : List View) (id : ℕ) (v : View) → Locking lock holder views → get_elem? views id ≡ some v → holds_lock v.phase ≡ true
    → (j : ℕ) (u : View) → j ≢ id → get_elem? views j ≡ some u → holds_lock u.phase ≡ true → ⊥
alone lock holder views id v h here held j u other there also = other ((h.locks j u there also).0 ∙ sym (h.locks id v here held).0)

-- a pass whose phase does not hold the lock is free
pub free_holds : (phase : Phase) → (holds_lock phase ≡ true → ⊥) → phase ≡ Free
free_holds Free nothing = refl
free_holds Held nothing = absurd (nothing refl)
free_holds Headed nothing = absurd (nothing refl)
free_holds Ready nothing = absurd (nothing refl)
free_holds Open nothing = absurd (nothing refl)
free_holds Finished nothing = absurd (nothing refl)
free_holds Signalling nothing = absurd (nothing refl)

-- of a view that does not hold the lock nothing is asked that is asked of its holder
pub others_hold : (z : Shape) (stop : ℕ) (past shown : List Tx) (cells : List ℕ) (j : ℕ) (u : View) → (holds_lock u.phase ≡ true → ⊥) → Holds z stop past shown cells j u
others_hold z stop past shown cells j u nothing =
    subst (λ (p : Phase). HoldsIn p z.format (λ log. Keeps (room_of z) (Rattle.pgn_journal.specs.Packing.page_start stop) log cells) past shown u.known.seen u.known.session u.known.db u.pen) (sym (free_holds u.phase nothing)) tt

-- nor need it know the oldest kept page
pub others_stop : (stop j : ℕ) (u : View) → (holds_lock u.phase ≡ true → ⊥) → KnowsStop stop j u
others_stop stop j u nothing knows = absurd (nothing (knowing u.phase knows))
  where
    knowing : (phase : Phase) → knows_stop phase ≡ true → holds_lock phase ≡ true
    knowing Free e = absurd (cc)
    knowing Held e = refl
    knowing Headed e = refl
    knowing Ready e = refl
    knowing Open e = refl
    knowing Finished e = refl
    knowing Signalling e = refl

-- notifications that are not none are at least one
pub some_of : (notes : List Note) → notes ≢ [] → 1 ≤ length notes
some_of [] filled = absurd (filled refl)
some_of (x ∷ xs) filled = omega arith

-- a pass that has drawn no number has set no status
not_ended : (p : Phase) (fate : Fate) → drawn_by p ≡ 0 → fated p fate ≡ 0
not_ended Free fate e = refl
not_ended Held fate e = refl
not_ended Headed fate e = refl
not_ended Ready fate e = refl
not_ended Open fate e = absurd (omega (arith, e))
not_ended Finished fate e = absurd (omega (arith, e))
not_ended Signalling fate e = refl

-- what the pass of a session has the queue opened for
pub setup_of : (z : Shape) (c : Content) (g : World) (views : List View) (id : ℕ) (v : View) → Law z c g views → get_elem? views id ≡ some v → 0 < v.known.session → v.setup ≡ z
setup_of z c g views id v h here positive = (h.seats.seated id v here positive).setup_is

-- who holds the lock has the setup of the hub
pub held_setup : (z : Shape) (c : Content) (g : World) (views : List View) (id : ℕ) (v : View) → Law z c g views → get_elem? views id ≡ some v → holds_lock v.phase ≡ true → v.setup ≡ z
held_setup z c g views id v h here held = setup_of z c g views id v h here (h.locking.locks id v here held).2

-- a transaction has a notification
some_notes : (tx : Tx) → IsFinished tx → 1 ≤ length tx.notes
some_notes tx finished = some_of tx.notes finished.some

-- there are no more transactions than notifications
pub few_txs : (past : List Tx) → All IsFinished past → length past ≤ notes_of past
few_txs [] all = omega arith
few_txs (tx ∷ past) all =
    let one = some_notes tx (All-head IsFinished tx past all) in
    let more = few_txs past (All-tail IsFinished tx past all) in
    omega (arith, one, more, sum_by-cons (λ (t : Tx). length t.notes) tx past)

-- a pass has no more left than all seats may send
pub has_left : (views : List View) (id : ℕ) (v : View) → get_elem? views id ≡ some v → spent_by v ≤ sum_by spent_by views
has_left [] id v e = absurd (some-ne-none v (sym e))
has_left (x ∷ xs) zero v e = let same : spent_by x ≡ spent_by v = ap spent_by (some-injective x v e) in omega (arith, same, sum_by-cons spent_by x xs)
has_left (x ∷ xs) (suc id) v e = let more = has_left xs id v e in omega (arith, more, sum_by-cons spent_by x xs)

-- the journal has room for all that a pass may still send
pub few_left : (z : Shape) (made : ℕ) (past : List Tx) (views : List View) (id : ℕ) (v : View) → Budget z made past views → get_elem? views id ≡ some v → All IsFinished past → v.setup ≡ z
    → length past + v.known.notes_left ≤ notes_of_seats v.setup.seats
few_left z made past views id v budget here finished setup =
    let few = few_txs past finished in
    let left = has_left views id v here in
    subst (λ (x : Shape). length past + v.known.notes_left ≤ notes_of_seats x.seats) (sym setup) (omega (arith, budget, few, left))

-- The lock was free: the pass takes it.
takes : (z : Shape) (c : Content) (g : World) (views : List View) (id : ℕ) (v : View) → Law z c g views → get_elem? views id ≡ some v → v.phase ≡ Free → 0 < v.known.session → c.lock ≡ 0
    → Law z (record c { lock = v.known.session }) (record g { holder = id }) (set views id (locked g.past v))
takes z c g views id v h here free positive nothing =
    let w : View = locked g.past v in
    let all_free : (j : ℕ) (u : View) → get_elem? views j ≡ some u → holds_lock u.phase ≡ true → ⊥ = nobody c.lock g.holder views h.locking nothing in record {
      laid = h.laid;
      seats = seats_keep views id v w here z g.made g.seat h.seats refl refl refl refl;
      locking = record {
        locks = each_turn (Locks c.lock g.holder) (Locks v.known.session id) views id w h.locking.locks (λ held. (refl, refl, positive)) (λ j u other there p held. absurd (all_free j u there held));
        owned = λ _. (w, changed_at views id v w here, refl, refl);
      };
      stored = h.stored;
      history = record {
        counted = h.history.counted;
        finished = h.history.finished;
        sessions = h.history.sessions;
        written = h.history.written;
        one_more = h.history.one_more;
        begins = h.history.begins;
        free = λ _. h.history.free nothing;
        whole = someone_keep views id v w here (KnowsAll g.past) refl (λ p. inl refl) h.history.whole;
        sees = each_keep (λ _ u. Begins u.known.seen g.past) views id v w here h.history.sees (λ p. begins-itself g.past);
        own_seen = each_keep (λ _ u. All (λ x. x < next_xid u.known.seen) u.known.own) views id v w here h.history.own_seen (λ p. own_further v.known.own (length v.known.seen) (length g.past) (begins-shorter v.known.seen g.past (h.history.sees id v here)) p);
        owns = each_keep (λ _ u. u.known.own ≡ xids_of u.known.session g.past) views id v w here h.history.owns (λ p. p);
      };
      numbers = record {
        free = λ nothing. absurd (omega (arith, nothing, positive));
        draws = each_turn (Draws c.fin c.xid) (Draws c.fin c.xid) views id w h.numbers.draws (λ held. let e = h.numbers.free nothing in omega (arith, e)) (λ j u other there p. p);
      };
      holding = record {
        holds = each_turn (Holds z c.stop g.past g.shown c.cells) (Holds z c.stop g.past g.shown c.cells) views id w h.holding.holds (record { seen_is = refl; shown_is = h.history.free nothing }) (λ j u other there p. p);
        stops = each_turn (KnowsStop c.stop) (KnowsStop c.stop) views id w h.holding.stops (λ knows. absurd (cc)) (λ j u other there p. p);
      };
      statuses = record {
        below = h.statuses.below;
        above = h.statuses.above;
        free = λ nobody. absurd (omega (arith, nobody, positive));
        fates = each_turn (Fates g.past c.statuses) (Fates g.past c.statuses) views id w h.statuses.fates (λ held. h.statuses.free nothing) (λ j u other there p. p);
      };
      budget = budget_keep views id v w here z g.made g.past h.budget (omega arith);
      posts = posts_keep views id v w here z.format g.past c.fin c.stop g.made c.tail c.pos h.posts refl refl refl;
      walks = walks_keep views id v w here z.format (room_of z) c.head c.cells h.walks refl refl (begins-shorter v.known.seen g.past (h.history.sees id v here));
      looks = record {
        looking = each_turn (LooksBy z.format g.past c.fin g.looked g.target c.tail) (LooksBy z.format g.past c.fin g.looked g.target c.tail) views id w h.looks.looking (λ held. tt) (λ j u other there p. p);
        spared = each_keep (Spared g.looked g.target) views id v w here h.looks.spared (λ p. p);
        aims = h.looks.aims;
        above = h.looks.above;
      };
      wakes = record {
        small = h.wakes.small;
        heeds = heeds_keep views id v w here z.format g.past c.fin g.undecided g.concerned c.wakes h.wakes.heeds refl refl refl refl refl;
        signals = each_turn (Signals g.undecided) (Signals g.undecided) views id w h.wakes.signals (λ held i. h.wakes.calm nothing i) (λ j u other there p. p);
        calm = λ nobody. absurd (omega (arith, nobody, positive));
        heard = each_keep (λ _ u. IsHeard c.fin g.undecided u.known.signalled) views id v w here h.wakes.heard (λ p. p);
        ended = each_keep (λ _ u. u.ended ≡ ended_in u.phase c.fin) views id v w here h.wakes.ended (λ p. p ∙ ap (λ q. ended_in q c.fin) free);
      };
      interests = interests_keep views id v w here g.concerned c.interests h.interests refl refl refl (λ _. tt);
      flags = flags_keep views id v w here c.fin c.flags h.flags refl (h.flags.told id v here) refl refl;
      named = named_keep views id v w here h.named refl refl refl refl refl;
      taken = taken_keep views id v w here z g.made c.fin g.seat g.past h.taken refl refl;
    }

-- The holder gives it up.
-- it knows of no more wakes than were set, once each seat is decided
told_then : (phase : Phase) (fin : ℕ) (undecided : ℕ → Bool) (told : ℕ) → ((i : ℕ) → undecided i ≡ false) → IsHeard fin undecided told → IsHeard fin undecided (unwrap_or (ended_in phase fin) told)
told_then Free fin undecided told settled h = h
told_then Held fin undecided told settled h = h
told_then Headed fin undecided told settled h = h
told_then Ready fin undecided told settled h = h
told_then Open fin undecided told settled h = h
told_then Finished fin undecided told settled h = h
told_then Signalling fin undecided told settled h = record { most = omega arith; decided = λ i waits. absurd (true≢false (sym waits ∙ settled i)) }

-- and it is told of no more than is finished
finished_then : (phase : Phase) (fin told signalled : ℕ) → FIRST_XID ≤ fin → IsTold fin told signalled → IsTold fin (unwrap_or (ended_in phase fin) told) (unwrap_or (ended_in phase fin) signalled)
finished_then Free fin told signalled f h = h
finished_then Held fin told signalled f h = h
finished_then Headed fin told signalled f h = h
finished_then Ready fin told signalled f h = h
finished_then Open fin told signalled f h = h
finished_then Finished fin told signalled f h = h
finished_then Signalling fin told signalled f h = record { first = f; below = omega arith; finished = omega arith }

-- no seat is undecided where the holder has none in its list
all_decided : (phase : Phase) (waits : ℕ → Bool) (i : ℕ) → waits i ≡ false → pending phase waits i ≡ false
all_decided Free waits i e = refl
all_decided Held waits i e = refl
all_decided Headed waits i e = refl
all_decided Ready waits i e = refl
all_decided Open waits i e = refl
all_decided Finished waits i e = refl
all_decided Signalling waits i e = e

drops : (z : Shape) (c : Content) (g : World) (views : List View) (id : ℕ) (v : View) → Law z c g views → get_elem? views id ≡ some v → holds_lock v.phase ≡ true → drawn_by v.phase ≡ 0 → g.shown ≡ g.past → ((i : ℕ) → g.undecided i ≡ false)
    → Law z (record c { lock = 0 }) g (set views id (freed v))
drops z c g views id v h here held nothing even settled =
    let w : View = freed v in
    let gone : (j : ℕ) (u : View) → j ≢ id → get_elem? views j ≡ some u → holds_lock u.phase ≡ true → ⊥ = alone c.lock g.holder views id v h.locking here held in record {
      laid = h.laid;
      seats = seats_keep views id v w here z g.made g.seat h.seats refl refl refl refl;
      locking = record {
        locks = each_turn (Locks c.lock g.holder) (Locks 0 g.holder) views id w h.locking.locks (λ held. absurd (cc)) (λ j u other there p also. absurd (gone j u other there also));
        owned = λ positive. absurd (positive refl);
      };
      stored = h.stored;
      history = record {
        counted = h.history.counted;
        finished = h.history.finished;
        sessions = h.history.sessions;
        written = h.history.written;
        one_more = h.history.one_more;
        begins = h.history.begins;
        free = λ _. even;
        whole = someone_keep views id v w here (KnowsAll g.past) refl (λ p. p) h.history.whole;
        sees = each_keep (λ _ u. Begins u.known.seen g.past) views id v w here h.history.sees (λ p. p);
        own_seen = each_keep (λ _ u. All (λ x. x < next_xid u.known.seen) u.known.own) views id v w here h.history.own_seen (λ p. p);
        owns = each_keep (λ _ u. u.known.own ≡ xids_of u.known.session g.past) views id v w here h.history.owns (λ p. p);
      };
      numbers = record {
        free = λ _. let e = h.numbers.draws id v here held in omega (arith, e, nothing);
        draws = each_turn (Draws c.fin c.xid) (Draws c.fin c.xid) views id w h.numbers.draws (λ held. absurd (cc)) (λ j u other there p. p);
      };
      holding = record {
        holds = each_turn (Holds z c.stop g.past g.shown c.cells) (Holds z c.stop g.past g.shown c.cells) views id w h.holding.holds tt (λ j u other there p. p);
        stops = each_turn (KnowsStop c.stop) (KnowsStop c.stop) views id w h.holding.stops (λ knows. absurd (cc)) (λ j u other there p. p);
      };
      statuses = record {
        below = h.statuses.below;
        above = h.statuses.above;
        free = λ _. h.statuses.fates id v here held ∙ not_ended v.phase v.pen.ending.fate nothing;
        fates = each_turn (Fates g.past c.statuses) (Fates g.past c.statuses) views id w h.statuses.fates (λ held. absurd (cc)) (λ j u other there p. p);
      };
      budget = budget_keep views id v w here z g.made g.past h.budget (omega arith);
      posts = posts_keep views id v w here z.format g.past c.fin c.stop g.made c.tail c.pos h.posts refl refl refl;
      walks = walks_keep views id v w here z.format (room_of z) c.head c.cells h.walks refl refl (omega arith);
      looks = record {
        looking = each_turn (LooksBy z.format g.past c.fin g.looked g.target c.tail) (LooksBy z.format g.past c.fin g.looked g.target c.tail) views id w h.looks.looking (λ held. absurd (cc)) (λ j u other there p. p);
        spared = each_keep (Spared g.looked g.target) views id v w here h.looks.spared (λ p. p);
        aims = h.looks.aims;
        above = h.looks.above;
      };
      wakes = record {
        small = h.wakes.small;
        heeds = heeds_keep views id v w here z.format g.past c.fin g.undecided g.concerned c.wakes h.wakes.heeds refl refl refl refl refl;
        signals = each_turn (Signals g.undecided) (Signals g.undecided) views id w h.wakes.signals (λ held. absurd (cc)) (λ j u other there p. p);
        calm = λ _. settled;
        heard = each_keep (λ _ u. IsHeard c.fin g.undecided u.known.signalled) views id v w here h.wakes.heard (λ p.
            subst (λ (e : Option ℕ). IsHeard c.fin g.undecided (unwrap_or e v.known.signalled)) (sym (h.wakes.ended id v here)) (told_then v.phase c.fin g.undecided v.known.signalled settled p));
        ended = each_turn (λ _ u. u.ended ≡ ended_in u.phase c.fin) (λ _ u. u.ended ≡ ended_in u.phase c.fin) views id w h.wakes.ended refl (λ j u other there p. p);
      };
      interests = interests_keep views id v w here g.concerned c.interests h.interests refl refl refl (λ _. tt);
      flags = flags_keep views id v w here c.fin c.flags h.flags refl
          (subst (λ (e : Option ℕ). IsTold c.fin (unwrap_or e v.known.told) (unwrap_or e v.known.signalled)) (sym (h.wakes.ended id v here))
          (finished_then v.phase c.fin v.known.told v.known.signalled (let counted = h.history.counted in omega (arith, counted)) (h.flags.told id v here))) refl refl;
      named = named_keep views id v w here h.named refl refl refl refl refl;
      taken = taken_keep views id v w here z g.made c.fin g.seat g.past h.taken refl refl;
    }

-- nobody waits in a list in which nobody does
pub none_waits : (verdicts : List Verdict) → AreDecided verdicts → (i : ℕ) → waits_in verdicts i ≡ false
none_waits [] all i = refl
none_waits (x ∷ verdicts) all zero = ap is_open (All-head (λ (y : Verdict). y ≡ Decided) x verdicts all)
none_waits (x ∷ verdicts) all (suc i) = none_waits verdicts (All-tail (λ (y : Verdict). y ≡ Decided) x verdicts all) i

-- while the holder has drawn no number, the head shows the journal
pub idle_shows : (phase : Phase) (z : Shape) (stop : ℕ) (past shown seen : List Tx) (cells : List ℕ) (session db : ℕ) (pen : Rattle.pgn_words.specs.declared.view.Pen.Pen) → may_drop phase ≡ true
    → HoldsIn phase z.format (λ log. Keeps (room_of z) (Rattle.pgn_journal.specs.Packing.page_start stop) log cells) past shown seen session db pen → shown ≡ past
idle_shows Free z stop past shown seen cells session db pen e h = absurd (cc)
idle_shows Held z stop past shown seen cells session db pen e h = h.shown_is
idle_shows Headed z stop past shown seen cells session db pen e h = h.idle.shown_is
idle_shows Ready z stop past shown seen cells session db pen e h = h.idle.shown_is
idle_shows Open z stop past shown seen cells session db pen e h = absurd (cc)
idle_shows Finished z stop past shown seen cells session db pen e h = absurd (cc)
idle_shows Signalling z stop past shown seen cells session db pen e h = h.idle.shown_is

idle_holds : (phase : Phase) → may_drop phase ≡ true → (holds_lock phase ≡ true) × (drawn_by phase ≡ 0)
idle_holds Free e = absurd (cc)
idle_holds Held e = (refl, refl)
idle_holds Headed e = (refl, refl)
idle_holds Ready e = (refl, refl)
idle_holds Open e = absurd (cc)
idle_holds Finished e = absurd (cc)
idle_holds Signalling e = (refl, refl)

-- who may drop the lock may do so once it has decided on each seat
pub drop_lock_allowed : (z : Shape) (slots id : ℕ) (me : Me ℕ View) → may_drop me.0.phase ≡ true → ((i : ℕ) → waits_in me.0.verdicts i ≡ false) → Allows (Lawful z) slots id me 0 (λ _. 0) (λ _. TellsDrop (step slots 0 0 0 none) me 0)
drop_lock_allowed z slots id me idle settled =
    allowed z slots id 0 me (λ _. 0) (λ _. TellsDrop (step slots 0 0 0 none) me 0) (λ shape c g views h here.
    let phase = idle_holds me.0.phase idle in
    let even = idle_shows me.0.phase z c.stop g.past g.shown me.0.known.seen c.cells me.0.known.session me.0.known.db me.0.pen idle (h.holding.holds id me.0 here) in record {
      w = freed me.0;
      content = record c { lock = 0 };
      world = g;
      moves = refl;
      law = drops z c g views id me.0 h here phase.0 phase.1 even (λ i. h.wakes.signals id me.0 here phase.0 i ∙ all_decided me.0.phase (waits_in me.0.verdicts) i (settled i));
      told = record { slots = refl; view = refl };
    })

taken_told : (z : Shape) (c : Content) (g : World) (views : List View) (id : ℕ) (v : View) → Law z c g views → get_elem? views id ≡ some v → 0 < v.known.session
    → HasLocked v (locked g.past v)
taken_told z c g views id v h here positive =
    let rest : g.past ≡ v.known.seen ++ drop (length v.known.seen) g.past = begins-rest v.known.seen g.past (h.history.sees id v here) in record {
      more = drop (length v.known.seen) g.past;
      view = ap (λ (xs : List Tx). locked xs v) rest;
      finished = h.history.finished;
      few = few_left z g.made g.past views id v h.budget here h.history.finished (setup_of z c g views id v h here positive);
    }

held_told : (z : Shape) (c : Content) (g : World) (views : List View) (id : ℕ) (v : View) → Law z c g views → get_elem? views id ≡ some v → v.phase ≡ Free → 0 < v.known.session → c.lock ≢ 0 → IsLocked v c.lock
held_told z c g views id v h here free positive lock =
    let o = h.locking.owned lock in
    let theirs : 0 < o.0.known.session = let e = o.2 in omega (arith, e, lock) in
    let seated = h.seats.seated g.holder o.0 o.1 theirs in record {
      some = omega (arith, lock);
      seated = let e = o.2 in let made = seated.was_made in let few = h.seats.few in subst (λ (x : Shape). c.lock ≤ seats_of x) (sym (setup_of z c g views id v h here positive)) (omega (arith, e, made, few));
      other = λ same.
          let mine = h.seats.seated id v here positive in
          let there : g.holder ≡ id = sym seated.sits ∙ ap g.seat (o.2 ∙ same) ∙ mine.sits in
          let one : v ≡ o.0 = some-injective v o.0 (sym here ∙ ap (get_elem? views) (sym there) ∙ o.1) in
          let held : holds_lock v.phase ≡ true = ap (λ x. holds_lock x.phase) one ∙ o.3 in
          let is : holds_lock v.phase ≡ false = ap holds_lock free in absurd (cc);
    }

-- The lock was not free: the pass keeps who had it.
refuses : (z : Shape) (c : Content) (g : World) (views : List View) (id : ℕ) (v : View) (by : ℕ) → Law z c g views → get_elem? views id ≡ some v → Law z c g (set views id (refused by v))
refuses z c g views id v by h here =
    let w : View = refused by v in record {
      laid = h.laid;
      seats = seats_keep views id v w here z g.made g.seat h.seats refl refl refl refl;
      locking = locking_keep views id v w here c.lock g.holder h.locking refl refl;
      stored = h.stored;
      history = history_keep views id v w here z c.lock c.fin g.made g.past g.shown h.history refl refl refl refl;
      numbers = numbers_keep views id v w here c.lock c.fin c.xid h.numbers refl refl;
      holding = record {
        holds = each_keep (Holds z c.stop g.past g.shown c.cells) views id v w here h.holding.holds (λ x. x);
        stops = each_keep (KnowsStop c.stop) views id v w here h.holding.stops (λ x. x);
      };
      statuses = statuses_keep views id v w here c.lock g.past c.statuses h.statuses refl refl;
      budget = budget_keep views id v w here z g.made g.past h.budget (omega arith);
      posts = posts_keep views id v w here z.format g.past c.fin c.stop g.made c.tail c.pos h.posts refl refl refl;
      walks = walks_keep views id v w here z.format (room_of z) c.head c.cells h.walks refl refl (omega arith);
      looks = looks_keep views id v w here z.format g.past c.fin c.stop g.looked g.target c.tail h.looks refl refl refl refl;
      wakes = wakes_keep views id v w here z.format c.lock c.fin g.past g.undecided g.concerned c.wakes h.wakes refl refl refl refl refl refl refl (λ i. refl) refl refl;
      interests = interests_keep views id v w here g.concerned c.interests h.interests refl refl refl (λ x. x);
      flags = flags_keep views id v w here c.fin c.flags h.flags refl (h.flags.told id v here) refl refl;
      named = named_keep views id v w here h.named refl refl refl refl refl;
      taken = taken_keep views id v w here z g.made c.fin g.seat g.past h.taken refl refl;
    }

-- the same, whatever is found
tries : (z : Shape) (id : ℕ) (me : Me ℕ View) (slots : ℕ) (c : Content) (g : World) (views : List View) → me.0.phase ≡ Free → 0 < me.0.known.session → Law z c g views → get_elem? views id ≡ some me.0
    → Goes z id 0 me (either (c.lock == 0) me.0.known.session c.lock) (TellsLock (step slots 0 0 me.0.known.session none) me) c views
tries z id me slots c g views free positive h here =
    exchanged c.lock 0 me.0.known.session (λ (y : ℕ). Goes z id 0 me y (TellsLock (step slots 0 0 me.0.known.session none) me) c views)
    (λ nothing. record {
      w = locked g.past me.0;
      content = record c { lock = me.0.known.session };
      world = record g { holder = id };
      moves = refl;
      law = takes z c g views id me.0 h here free positive nothing;
      told = record { slots = refl; same = refl; free = λ _. taken_told z c g views id me.0 h here positive; locked = λ lock. absurd (lock nothing) };
    })
    (λ lock. record {
      w = refused c.lock me.0;
      content = c;
      world = g;
      moves = refl;
      law = refuses z c g views id me.0 c.lock h here;
      told = record { slots = refl; same = refl; free = λ nothing. absurd (lock nothing); locked = λ _. (refl, held_told z c g views id me.0 h here free positive lock) };
    })

-- a pass may try the lock, and has it where it was free
pub try_lock_allowed : (z : Shape) (slots id number : ℕ) (me : Me ℕ View) → me.0.phase ≡ Free → 0 < number → number ≡ me.0.known.session
    → Allows (Lawful z) slots id me 0 (λ n. either (n == 0) number n) (TellsLock (step slots 0 0 number none) me)
try_lock_allowed z slots id number me free positive is =
    subst (λ (n : ℕ). Allows (Lawful z) slots id me 0 (λ k. either (k == 0) n k) (TellsLock (step slots 0 0 n none) me)) (sym is)
    (allowed z slots id 0 me (λ n. either (n == 0) me.0.known.session n) (TellsLock (step slots 0 0 me.0.known.session none) me)
    (λ shape c g views h here. tries z id me slots c g views free (subst (λ (n : ℕ). 0 < n) is positive) h here))
