-- The steps on statuses, and those on the first unfinished number, keep the rule.
use Rattle.std.proofs.Common.{◌≡◌, ◌≢◌, ℕ, ◌+◌, ◌-◌, ◌<◌, ◌≤◌, true, List, [], ◌∷◌, ◌++◌, length, get_or, set, bit_or, All, Option, Some, sym, refl, ap, ◌∙◌, subst, arith, length-set, get_or-set_other, get_or-set_same, drop, true≢false, Bool, false}
use Rattle.std.proofs.lemmas.Option.{slice_get_within}
use mathlib.Core.Option.{some, none}
use lib.ListN.{get_elem?}
use native.Mathlib.Decide.{ℕ_discrete}
use Rattle.atomic_table.specs.Table.{Me, Allows, step}
use Rattle.atomic_table.proofs.Lists.{set_again}
use Rattle.pgn_journal.specs.declared.tx.Tx.{Tx}
use Rattle.pgn_journal.specs.declared.tx.Fate.{Fate}
use Rattle.pgn_journal.specs.Begins.{Begins}
use Rattle.pgn_journal.proofs.BeginsLaws.{begins-itself, begins-holds, begins-rest, begins-shorter}
use Rattle.pgn_journal.specs.Journal.{next_xid, entry, xids_of}
use Rattle.pgn_journal.specs.Packing.{page_start, image}
use Rattle.pgn_hub.specs.Shape.{Shape, notes_of_seats}
use Rattle.pgn_layout.specs.Status.{status_word, status_in, status_set, status_code}
use Rattle.pgn_layout.proofs.StatusLaws.{set_is_read, others_stay}
use Rattle.pgn_words.specs.declared.view.View.{View}
use Rattle.pgn_words.specs.declared.view.Phase.{Phase}
use Rattle.pgn_words.specs.declared.view.Pen.{Pen}
use Rattle.pgn_words.specs.declared.view.Phase.TheVariants.{Free, Held, Headed, Ready, Open, Finished, Signalling}
use Rattle.pgn_words.specs.Words.{Content, row, room_of, statuses_at, status_words}
use Rattle.pgn_words.specs.Views.{holds_lock, knows_stop, drawn_by, fated}
use Rattle.pgn_words.specs.WakeRule.{IsHeard, IsTold, Signals, ended_in, pending, waits_in}
use Rattle.pgn_words.specs.Rule.{World, KnowsStop, HoldsIn, Holds, IsWriting, Fates, Law, Lawful, Keeps, status_at}
use Rattle.pgn_words.specs.Told.{TellsStatusSet, TellsFin, TellsStatus, MayEnd, ended_by}
use Rattle.pgn_words.proofs.EachLaws.{each_turn, each_keep, own_further}
use Rattle.pgn_words.proofs.Frames.{seats_keep, locking_keep, history_keep, numbers_keep, budget_keep, statuses_keep, whole_keep}
use Rattle.pgn_words.proofs.MoreFrames.{posts_keep, walks_keep, looks_keep, heeds_owing, wakes_keep, interests_keep, flags_keep, named_keep, taken_keep}
use Rattle.pgn_words.proofs.LockKept.{held_setup, setup_of, alone, others_hold, few_left, few_txs}
use Rattle.pgn_words.proofs.HeadKept.{phase_holds}
use Rattle.pgn_words.proofs.RowLaws.{set_status_word, get_status_word}
use Rattle.pgn_words.proofs.Meets.{allowed}

-- a status after one was set
set_here : (ss : List ℕ) (x : ℕ) (fate : Fate) → status_word x < length ss → status_at ss x ≡ 0
    → status_at (set ss (status_word x) (bit_or (get_or ss (status_word x) 0) (status_set x fate))) x ≡ status_code fate
set_here ss x fate within fresh =
    ap (λ n. status_in n x) (get_or-set_same ss (status_word x) (bit_or (get_or ss (status_word x) 0) (status_set x fate)) 0 within) ∙ set_is_read (get_or ss (status_word x) 0) x fate fresh

set_there : (ss : List ℕ) (x y : ℕ) (fate : Fate) → status_word x < length ss → 3 ≤ x → 3 ≤ y → y ≢ x
    → status_at (set ss (status_word x) (bit_or (get_or ss (status_word x) 0) (status_set x fate))) y ≡ status_at ss y
set_there ss x y fate within low also other = by_word (ℕ_discrete (status_word y) (status_word x))
  where
    by_word : Dec (status_word y ≡ status_word x) → status_at (set ss (status_word x) (bit_or (get_or ss (status_word x) 0) (status_set x fate))) y ≡ status_at ss y
    by_word (yes e) =
        ap (λ n. status_in (get_or (set ss (status_word x) (bit_or (get_or ss (status_word x) 0) (status_set x fate))) n 0) y) e
        ∙ ap (λ n. status_in n y) (get_or-set_same ss (status_word x) (bit_or (get_or ss (status_word x) 0) (status_set x fate)) 0 within)
        ∙ others_stay (get_or ss (status_word x) 0) x y fate low also other e
        ∙ ap (λ n. status_in (get_or ss n 0) y) (sym e)
    by_word (no ne) = ap (λ n. status_in n y) (get_or-set_other ss (status_word x) (status_word y) (bit_or (get_or ss (status_word x) 0) (status_set x fate)) 0 ne)

-- the number after the last one has a status word
has_word : (z : Shape) (n : ℕ) → n < notes_of_seats z.seats → status_word (3 + n) < status_words z
has_word z n few = omega (arith, few)

ends : (z : Shape) (c : Content) (g : World) (views : List View) (id : ℕ) (v : View) (tx : Tx) (x : ℕ) → Law z c g views → get_elem? views id ≡ some v → v.phase ≡ Open
    → MayEnd v tx → tx.notes ≡ v.pen.notes → tx.session ≡ v.known.session → tx.db ≡ v.known.db → x ≡ next_xid g.past → status_word x < length c.statuses
    → Law z (record c { statuses = set c.statuses (status_word x) (bit_or (get_or c.statuses (status_word x) 0) (status_set x tx.fate)) }) g (set views id (ended_by tx v))
ends z c g views id v tx x h here opened may notes session db number within =
    let w : View = ended_by tx v in
    let ss : List ℕ = set c.statuses (status_word x) (bit_or (get_or c.statuses (status_word x) 0) (status_set x tx.fate)) in
    let held : holds_lock v.phase ≡ true = ap holds_lock opened in
    let was : IsWriting z.format (λ log. Keeps (room_of z) (page_start c.stop) log c.cells) g.past g.shown v.known.seen v.pen = phase_holds Open z c.stop g.past g.shown c.cells id v opened (h.holding.holds id v here) in
    let gone : (j : ℕ) (u : View) → j ≢ id → get_elem? views j ≡ some u → holds_lock u.phase ≡ true → ⊥ = alone c.lock g.holder views id v h.locking here held in
    let locked = h.locking.locks id v here held in
    let fresh : status_at c.statuses x ≡ 0 = ap (status_at c.statuses) number ∙ h.statuses.fates id v here held ∙ ap (λ p. fated p v.pen.ending.fate) opened in record {
      laid = record {
        pos_long = h.laid.pos_long;
        wakes_long = h.laid.wakes_long;
        interests_long = h.laid.interests_long;
        flags_long = h.laid.flags_long;
        statuses_long = length-set c.statuses (status_word x) (bit_or (get_or c.statuses (status_word x) 0) (status_set x tx.fate)) ∙ h.laid.statuses_long;
        cells_long = h.laid.cells_long;
      };
      seats = seats_keep views id v w here z g.made g.seat h.seats refl refl refl refl;
      locking = locking_keep views id v w here c.lock g.holder h.locking refl (sym held);
      stored = h.stored;
      history = history_keep views id v w here z c.lock c.fin g.made g.past g.shown h.history refl refl refl refl;
      numbers = numbers_keep views id v w here c.lock c.fin c.xid h.numbers (sym held) (sym (ap drawn_by opened));
      holding = record {
        holds = each_turn (Holds z c.stop g.past g.shown c.cells) (Holds z c.stop g.past g.shown c.cells) views id w h.holding.holds
            (record {
              seen_is = was.seen_is;
              shows = ap (λ (txs : List Tx). image z.format (txs ++ tx ∷ [])) (sym was.seen_is) ∙ ap (λ (y : Shape). image y.format (v.known.seen ++ tx ∷ [])) (sym (held_setup z c g views id v h here held)) ∙ sym may.all_shown ∙ was.cells_are;
              finished = may.finished;
              session_is = session;
              db_is = db;
              taken_is = was.taken_is ∙ ap length (sym notes);
            })
            (λ j u other there p. p);
        stops = each_turn (KnowsStop c.stop) (KnowsStop c.stop) views id w h.holding.stops (λ knows. h.holding.stops id v here (ap knows_stop opened)) (λ j u other there p. p);
      };
      statuses = record {
        below = λ y one low there. let before = entry_low g.past y one there low in set_there c.statuses x y tx.fate within (omega (arith, number)) low (λ same. omega (arith, before, same, number)) ∙ h.statuses.below y one low there;
        above = λ y later. set_there c.statuses x y tx.fate within (omega (arith, number)) (omega (arith, later)) (λ same. omega (arith, later, same, number)) ∙ h.statuses.above y later;
        free = λ nobody. let is = locked.1 in let positive = locked.2 in absurd (omega (arith, nobody, is, positive));
        fates = each_turn (Fates g.past c.statuses) (Fates g.past ss) views id w h.statuses.fates (λ _. ap (status_at ss) (sym number) ∙ set_here c.statuses x tx.fate within fresh) (λ j u other there p also. absurd (gone j u other there also));
      };
      budget = budget_keep views id v w here z g.made g.past h.budget (omega arith);
      posts = posts_keep views id v w here z.format g.past c.fin c.stop g.made c.tail c.pos h.posts refl refl refl;
      walks = walks_keep views id v w here z.format (room_of z) c.head c.cells h.walks refl refl (omega arith);
      looks = looks_keep views id v w here z.format g.past c.fin c.stop g.looked g.target c.tail h.looks refl refl (sym held) refl;
      wakes = wakes_keep views id v w here z.format c.lock c.fin g.past g.undecided g.concerned c.wakes h.wakes refl refl refl refl refl refl (sym held) (λ i. sym (ap (λ p. pending p (waits_in v.verdicts) i) opened)) refl (sym (ap (λ p. ended_in p c.fin) opened));
      interests = interests_keep views id v w here g.concerned c.interests h.interests refl refl refl (λ _. tt);
      flags = flags_keep views id v w here c.fin c.flags h.flags refl (h.flags.told id v here) refl refl;
      named = named_keep views id v w here h.named refl refl refl refl refl;
      taken = taken_keep views id v w here z g.made c.fin g.seat g.past h.taken refl refl;
    }
  where
    entry_low : (past : List Tx) (y : ℕ) (one : Tx) → entry past y ≡ Some one → 3 ≤ y → y < next_xid past
    entry_low past y one there low = let within = slice_get_within past (y - 3) one there in omega (arith, within, low)

pub set_status_allowed : (z : Shape) (slots id word x : ℕ) (me : Me ℕ View) (tx : Tx) → word ≡ statuses_at z + status_word x → me.0.phase ≡ Open → x ≡ next_xid me.0.known.seen
    → length me.0.known.seen < notes_of_seats z.seats → MayEnd me.0 tx → tx.notes ≡ me.0.pen.notes → tx.session ≡ me.0.known.session → tx.db ≡ me.0.known.db
    → Allows (Lawful z) slots id me word (λ n. bit_or n (status_set x tx.fate)) (TellsStatusSet tx (step slots word (status_set x tx.fate) 0 none) me)
set_status_allowed z slots id word x me tx there opened number reach may notes session db =
    allowed z slots id word me (λ n. bit_or n (status_set x tx.fate)) (TellsStatusSet tx (step slots word (status_set x tx.fate) 0 none) me) (λ shape c g views h here.
    let was : IsWriting z.format (λ log. Keeps (room_of z) (page_start c.stop) log c.cells) g.past g.shown me.0.known.seen me.0.pen = phase_holds Open z c.stop g.past g.shown c.cells id me.0 opened (h.holding.holds id me.0 here) in
    let mine : x ≡ next_xid g.past = number ∙ ap next_xid was.seen_is in
    let long = h.laid.statuses_long in
    let within : status_word x < length c.statuses = let has = has_word z (length me.0.known.seen) reach in omega (arith, number, has, long) in
    let found : get_or (row c) word 0 ≡ get_or c.statuses (status_word x) 0 = ap (λ n. get_or (row c) n 0) there ∙ get_status_word z c (status_word x) h.laid within in record {
      w = ended_by tx me.0;
      content = record c { statuses = set c.statuses (status_word x) (bit_or (get_or c.statuses (status_word x) 0) (status_set x tx.fate)) };
      world = g;
      moves = ap (λ n. set (row c) word (bit_or n (status_set x tx.fate))) found ∙ ap (λ n. set (row c) n (bit_or (get_or c.statuses (status_word x) 0) (status_set x tx.fate))) there
          ∙ set_status_word z c (status_word x) (bit_or (get_or c.statuses (status_word x) 0) (status_set x tx.fate)) h.laid within;
      law = ends z c g views id me.0 tx x h here opened may notes session db mine within;
      told = record { slots = refl; view = refl };
    })

-- the same, with the bits and the transaction as the step has them
pub status_bits_allowed : (z : Shape) (slots id word x bits : ℕ) (me : Me ℕ View) (tx given : Tx) → bits ≡ status_set x tx.fate → given ≡ tx → word ≡ statuses_at z + status_word x → me.0.phase ≡ Open
    → x ≡ next_xid me.0.known.seen → length me.0.known.seen < notes_of_seats z.seats → MayEnd me.0 tx → tx.notes ≡ me.0.pen.notes → tx.session ≡ me.0.known.session → tx.db ≡ me.0.known.db
    → Allows (Lawful z) slots id me word (λ n. bit_or n bits) (TellsStatusSet given (step slots word bits 0 none) me)
status_bits_allowed z slots id word x bits me tx given bits_are same there opened number reach may notes session db =
    subst (λ (t : Tx). Allows (Lawful z) slots id me word (λ n. bit_or n bits) (TellsStatusSet t (step slots word bits 0 none) me)) (sym same)
    (subst (λ (b : ℕ). Allows (Lawful z) slots id me word (λ n. bit_or n b) (TellsStatusSet tx (step slots word b 0 none) me)) (sym bits_are)
    (set_status_allowed z slots id word x me tx there opened number reach may notes session db))

-- the holder knows the whole journal
pub holder_sees : (p : Phase) (z : Shape) (keeps : List (Option ℕ) → Type 0) (past shown seen : List Tx) (session db : ℕ) (pen : Pen) → holds_lock p ≡ true → HoldsIn p z.format keeps past shown seen session db pen → seen ≡ past
holder_sees Free z keeps past shown seen session db pen held h = absurd (cc)
holder_sees Held z keeps past shown seen session db pen held h = h.seen_is
holder_sees Headed z keeps past shown seen session db pen held h = h.idle.seen_is
holder_sees Ready z keeps past shown seen session db pen held h = h.idle.seen_is
holder_sees Open z keeps past shown seen session db pen held h = h.seen_is
holder_sees Finished z keeps past shown seen session db pen held h = h.seen_is
holder_sees Signalling z keeps past shown seen session db pen held h = h.idle.seen_is

-- the pass learns more of the journal, where it does not hold the lock, is told more, and owes a read that it owed
pub hears : (z : Shape) (c : Content) (g : World) (views : List View) (id : ℕ) (v : View) (txs : List Tx) (told signalled : ℕ) (owes : Bool) → Law z c g views → get_elem? views id ≡ some v
    → Begins txs g.past → length v.known.seen ≤ length txs → (holds_lock v.phase ≡ true → txs ≡ v.known.seen) → (v.known.owes ≡ true → owes ≡ true) → IsHeard c.fin g.undecided signalled → IsTold c.fin told signalled
    → Law z c g (set views id (record v { known = record v.known { seen = txs; told = told; signalled = signalled; owes = owes } }))
hears z c g views id v txs told signalled owes h here begins longer same owed heard first =
    let w : View = record v { known = record v.known { seen = txs; told = told; signalled = signalled; owes = owes } } in record {
      laid = h.laid;
      seats = seats_keep views id v w here z g.made g.seat h.seats refl refl refl refl;
      locking = locking_keep views id v w here c.lock g.holder h.locking refl refl;
      stored = h.stored;
      history = record {
        counted = h.history.counted;
        finished = h.history.finished;
        sessions = h.history.sessions;
        written = h.history.written;
        one_more = h.history.one_more;
        begins = h.history.begins;
        free = h.history.free;
        whole = whole_keep views id v w here g.past refl refl begins longer h.history.whole;
        sees = each_keep (λ _ u. Begins u.known.seen g.past) views id v w here h.history.sees (λ p. begins);
        own_seen = each_keep (λ _ u. All (λ x. x < next_xid u.known.seen) u.known.own) views id v w here h.history.own_seen (λ p. own_further v.known.own (length v.known.seen) (length txs) longer p);
        owns = each_keep (λ _ u. u.known.own ≡ xids_of u.known.session g.past) views id v w here h.history.owns (λ p. p);
      };
      numbers = numbers_keep views id v w here c.lock c.fin c.xid h.numbers refl refl;
      holding = record {
        holds = each_keep (Holds z c.stop g.past g.shown c.cells) views id v w here h.holding.holds (λ p. by_lock (holds_lock v.phase) refl p);
        stops = each_keep (KnowsStop c.stop) views id v w here h.holding.stops (λ p. p);
      };
      statuses = statuses_keep views id v w here c.lock g.past c.statuses h.statuses refl refl;
      budget = budget_keep views id v w here z g.made g.past h.budget (omega arith);
      posts = posts_keep views id v w here z.format g.past c.fin c.stop g.made c.tail c.pos h.posts refl refl refl;
      walks = walks_keep views id v w here z.format (room_of z) c.head c.cells h.walks refl refl longer;
      looks = looks_keep views id v w here z.format g.past c.fin c.stop g.looked g.target c.tail h.looks refl refl refl refl;
      wakes = record {
        small = h.wakes.small;
        heeds = heeds_owing views id v w here z.format g.past c.fin g.undecided g.concerned c.wakes h.wakes.heeds refl refl refl refl owed;
        signals = each_keep (Signals g.undecided) views id v w here h.wakes.signals (λ p. p);
        calm = h.wakes.calm;
        heard = each_keep (λ _ u. IsHeard c.fin g.undecided u.known.signalled) views id v w here h.wakes.heard (λ p. heard);
        ended = each_keep (λ _ u. u.ended ≡ ended_in u.phase c.fin) views id v w here h.wakes.ended (λ p. p);
      };
      interests = interests_keep views id v w here g.concerned c.interests h.interests refl refl refl (λ x. x);
      flags = flags_keep views id v w here c.fin c.flags h.flags refl first refl refl;
      named = named_keep views id v w here h.named refl refl refl refl refl;
      taken = taken_keep views id v w here z g.made c.fin g.seat g.past h.taken refl refl;
    }
  where
    by_lock : (b : Bool) → holds_lock v.phase ≡ b → Holds z c.stop g.past g.shown c.cells id v → Holds z c.stop g.past g.shown c.cells id (record v { known = record v.known { seen = txs; told = told; signalled = signalled; owes = owes } })
    by_lock true e p = subst (λ (xs : List Tx). HoldsIn v.phase z.format (λ log. Keeps (room_of z) (page_start c.stop) log c.cells) g.past g.shown xs v.known.session v.known.db v.pen) (sym (same e)) p
    by_lock false e p = others_hold z c.stop g.past g.shown c.cells id (record v { known = record v.known { seen = txs; told = told; signalled = signalled; owes = owes } }) (λ held. true≢false (sym held ∙ e))

-- a pass may load the first unfinished number
pub load_fin_allowed : (z : Shape) (slots id : ℕ) (me : Me ℕ View) → 0 < me.0.known.session → Allows (Lawful z) slots id me 2 (λ n. n) (TellsFin (step slots 2 0 0 none) me)
load_fin_allowed z slots id me positive =
    allowed z slots id 2 me (λ n. n) (TellsFin (step slots 2 0 0 none) me) (λ shape c g views h here.
    let rest : g.past ≡ me.0.known.seen ++ drop (length me.0.known.seen) g.past = begins-rest me.0.known.seen g.past (h.history.sees id me.0 here) in
    let left = few_left z g.made g.past views id me.0 h.budget here h.history.finished (setup_of z c g views id me.0 h here positive) in
    let all : notes_of_seats me.0.setup.seats ≤ 1048575 = let most = shape.few_notes in subst (λ (x : Shape). notes_of_seats x.seats ≤ 1048575) (sym (setup_of z c g views id me.0 h here positive)) most in
    let counted = h.history.counted in record {
      w = record me.0 { known = record me.0.known { seen = g.past } };
      content = c;
      world = g;
      moves = refl;
      law = hears z c g views id me.0 g.past me.0.known.told me.0.known.signalled me.0.known.owes h here (begins-itself g.past)
          (begins-shorter me.0.known.seen g.past (h.history.sees id me.0 here))
          (λ held. sym (holder_sees me.0.phase z (λ log. Keeps (room_of z) (page_start c.stop) log c.cells) g.past g.shown me.0.known.seen me.0.known.session me.0.known.db me.0.pen held (h.holding.holds id me.0 here)))
          (λ owed. owed) (h.wakes.heard id me.0 here) (h.flags.told id me.0 here);
      told = record {
        slots = refl;
        heard = record {
          more = drop (length me.0.known.seen) g.past;
          view = ap (λ (xs : List Tx). let x : View = record me.0 { known = record me.0.known { seen = xs } } in x) rest;
          number = counted;
          finished = h.history.finished;
          few = left;
          holder = λ held. ap (λ (xs : List Tx). let x : View = record me.0 { known = record me.0.known { seen = xs } } in x)
              (sym (holder_sees me.0.phase z (λ log. Keeps (room_of z) (page_start c.stop) log c.cells) g.past g.shown me.0.known.seen me.0.known.session me.0.known.db me.0.pen held (h.holding.holds id me.0 here)));
        };
        low = omega (arith, counted, left, all);
        kept = (refl, refl);
      };
    })

-- and a word of statuses
pub load_status_allowed : (z : Shape) (slots id word : ℕ) (me : Me ℕ View) → 0 < me.0.known.session → Allows (Lawful z) slots id me word (λ n. n) (TellsStatus (step slots word 0 0 none) me)
load_status_allowed z slots id word me positive =
    allowed z slots id word me (λ n. n) (TellsStatus (step slots word 0 0 none) me) (λ shape c g views h here. record {
      w = me.0;
      content = c;
      world = g;
      moves = Rattle.std.proofs.lemmas.List.set-get_or (row c) word 0;
      law = subst (λ (us : List View). Law z c g us) (sym (set_again views id me.0 here)) h;
      told = record {
        slots = refl;
        view = refl;
        value = λ x tx there low is.
            let setup : me.0.setup ≡ z = setup_of z c g views id me.0 h here positive in
            let stands : entry g.past x ≡ Some tx = begins-holds me.0.known.seen g.past (x - 3) tx (h.history.sees id me.0 here) is in
            let few = few_txs g.past h.history.finished in
            let budget = h.budget in
            let inside = slice_get_within g.past (x - 3) tx stands in
            let long = h.laid.statuses_long in
            let within : status_word x < length c.statuses = omega (arith, few, budget, inside, long) in
            ap (λ n. status_in n x) (ap (λ n. get_or (row c) n 0) (there ∙ ap (λ (y : Shape). statuses_at y + status_word x) setup) ∙ get_status_word z c (status_word x) h.laid within)
            ∙ h.statuses.below x tx low stands;
      };
    })
