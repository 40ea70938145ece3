-- The steps on cells and the store of the head keep the rule.
use Rattle.std.proofs.Common.{◌≡◌, ◌≢◌, ℕ, ◌+◌, ◌*◌, ◌%◌, ◌^◌, ◌<◌, ◌≤◌, true, List, [], ◌∷◌, ◌++◌, length, set, Option, Some, All, sym, refl, ap, ◌∙◌, subst, arith, append_assoc, mod-lt, length-set}
use Rattle.std.proofs.lemmas.List.{append-nil, length-append}
use mathlib.Core.Option.{some, none}
use lib.ListN.{get_elem?}
use Rattle.atomic_table.specs.Table.{Me, Allows, step}
use Rattle.pgn_journal.specs.declared.tx.Tx.{Tx}
use Rattle.pgn_journal.specs.Begins.{Begins}
use Rattle.pgn_journal.specs.Journal.{next_xid}
use Rattle.pgn_journal.proofs.BeginsLaws.{begins-continued}
use Rattle.pgn_journal.specs.Packing.{page_of, page_start, image}
use Rattle.pgn_journal.specs.Pieces.{draft, IsWritten}
use Rattle.pgn_hub.specs.Shape.{Shape, IsShape, notes_of_seats}
use Rattle.pgn_journal.proofs.DraftLaws.{drafts_are_written}
use Rattle.std.proofs.lemmas.List.Elements.{All-push}
use Rattle.pgn_layout.specs.Batches.{padded_to}
use Rattle.pgn_words.specs.declared.view.View.{View}
use Rattle.pgn_words.specs.declared.view.Phase.{Phase}
use Rattle.pgn_words.specs.declared.view.Phase.TheVariants.{Open}
use Rattle.pgn_words.specs.Words.{Content, row, room_of, cells_at}
use Rattle.pgn_words.specs.Views.{holds_lock, knows_stop, stored_by, is_walking}
use Rattle.pgn_words.specs.Positions.{is_placed}
use Rattle.pgn_words.specs.declared.view.Stage.TheVariants.{Shown}
use Rattle.pgn_words.specs.ListenRule.{LooksBy, Spared, Walking, Bounds}
use Rattle.pgn_words.specs.Rule.{World, KnowsStop, HoldsIn, Holds, IsWriting, Law, Lawful, Keeps, KnowsAll}
use Rattle.pgn_words.specs.Told.{TellsCellStore, TellsHeadStore, MayShow, cell_stored, head_stored}
use Rattle.pgn_words.proofs.EachLaws.{each_turn, each_keep}
use Rattle.pgn_words.proofs.Frames.{seats_keep, locking_keep, history_keep, numbers_keep, budget_keep, statuses_keep}
use Rattle.pgn_words.proofs.MoreFrames.{posts_keep, looks_keep, wakes_keep, interests_keep, flags_keep, named_keep, taken_keep, someone_keep}
use Rattle.pgn_words.proofs.LockKept.{held_setup, alone, others_hold, has_left}
use Rattle.pgn_words.proofs.ImageLaws.{shown_bound, shown_low, written_part}
use Rattle.pgn_words.proofs.HeadKept.{phase_holds}
use Rattle.pgn_words.proofs.RowLaws.{set_cell}
use Rattle.pgn_words.proofs.RingLaws.{keeps_below, keeps_more, keeps_padded, length-padded, small_set}
use Rattle.pgn_words.proofs.Meets.{allowed}

-- a place on the head's page, less than the limit of pages from the oldest kept page, is less than a turn from that page's beginning
near_enough : (z : Shape) (stop head at : ℕ) → page_of at < stop + z.pages → page_of at ≡ page_of head → head ≤ 4096 * notes_of_seats z.seats + 2048 → at < page_start stop + room_of z
near_enough z stop head at page stays reach = omega (arith, page, stays, reach)

some_room : (z : Shape) → 0 < room_of z
some_room z = omega arith

-- what a listener reads keeps its cells where one is stored at or past the head, less than a turn from the oldest kept page
readable : (z : Shape) (c : Content) (g : World) (views : List View) (j : ℕ) (u : View) (at x : ℕ) → Law z c g views → get_elem? views j ≡ some u → u.walk.stage ≡ Shown
    → c.head ≤ at → at < page_start c.stop + room_of z → Keeps (room_of z) u.post.at (image z.format u.walk.shown) c.cells → length (image z.format u.walk.shown) ≤ c.head
    → Keeps (room_of z) u.post.at (image z.format u.walk.shown) (set c.cells (at % room_of z) x)
readable z c g views j u at x h there bounded head near kept within =
    let walks = h.walks.walking j u there (ap is_walking bounded) in
    let place = (h.posts.placed j u there (ap is_placed walks.0)).1 in
    let from = place.kept in
    keeps_below (room_of z) u.post.at at x (image z.format u.walk.shown) c.cells (omega (arith, head, within)) (omega (arith, near, from)) kept

stores : (z : Shape) (c : Content) (g : World) (views : List View) (id : ℕ) (v : View) (at x : ℕ) → Law z c g views → get_elem? views id ≡ some v → v.phase ≡ Open
    → at ≡ length (stored_by v) → page_of at < v.stop + z.pages → page_of at ≡ page_of (length v.pen.cells) → x < 2 ^ 32
    → Law z (record c { cells = set c.cells (at % room_of z) x }) g (set views id (cell_stored x v))
stores z c g views id v at x h here opened next page stays low =
    let w : View = cell_stored x v in
    let held : holds_lock v.phase ≡ true = ap holds_lock opened in
    let was : IsWriting z.format (λ log. Keeps (room_of z) (page_start c.stop) log c.cells) g.past g.shown v.known.seen v.pen = phase_holds Open z c.stop g.past g.shown c.cells id v opened (h.holding.holds id v here) in
    let stop : v.stop ≡ c.stop = h.holding.stops id v here (ap knows_stop opened) in
    let shown : length (image z.format g.shown) ≡ length v.pen.cells = ap length (sym was.cells_are) in
    let near : at < page_start c.stop + room_of z = near_enough z c.stop (length v.pen.cells) at (omega (arith, page, stop)) stays (let headed = h.stored.headed in let reach = h.stored.reach in omega (arith, shown, headed, reach)) in
    let long = h.laid.cells_long in
    let within : at % room_of z < length c.cells = let m : at % room_of z < room_of z = mod-lt at (some_room z) in omega (arith, m, long) in
    let past : length (image z.format g.shown) ≤ at = omega (arith, shown, next, length-append v.pen.cells v.pen.batch) in
    let head : c.head ≤ at = let headed = h.stored.headed in omega (arith, headed, past) in
    let bounds_stay : (j : ℕ) (u : View) → get_elem? views j ≡ some u → Bounds z.format (room_of z) c.head c.cells j u → Bounds z.format (room_of z) c.head (set c.cells (at % room_of z) x) j u =
    λ j u there p bounded. let s = p bounded in (readable z c g views j u at x h there bounded head near s.0 s.1, s.1) in
    let gone : (j : ℕ) (u : View) → j ≢ id → get_elem? views j ≡ some u → holds_lock u.phase ≡ true → ⊥ = alone c.lock g.holder views id v h.locking here held in record {
      laid = record {
        pos_long = h.laid.pos_long;
        wakes_long = h.laid.wakes_long;
        interests_long = h.laid.interests_long;
        flags_long = h.laid.flags_long;
        statuses_long = h.laid.statuses_long;
        cells_long = length-set c.cells (at % room_of z) x ∙ h.laid.cells_long;
      };
      seats = seats_keep views id v w here z g.made g.seat h.seats refl refl refl refl;
      locking = locking_keep views id v w here c.lock g.holder h.locking refl refl;
      stored = record {
        headed = h.stored.headed;
        kept = keeps_below (room_of z) (page_start c.stop) at x (image z.format g.shown) c.cells past near h.stored.kept;
        ahead = h.stored.ahead;
        reach = h.stored.reach;
        small = small_set c.cells (at % room_of z) x within low h.stored.small;
        low = h.stored.low;
      };
      history = history_keep views id v w here z c.lock c.fin g.made g.past g.shown h.history refl refl refl refl;
      numbers = numbers_keep views id v w here c.lock c.fin c.xid h.numbers refl refl;
      holding = record {
        holds = each_turn (Holds z c.stop g.past g.shown c.cells) (Holds z c.stop g.past g.shown (set c.cells (at % room_of z) x)) views id w h.holding.holds
            (in_open z c.stop g.past g.shown (set c.cells (at % room_of z) x) id w opened (record {
              seen_is = was.seen_is;
              cells_are = was.cells_are;
              kept = subst (λ (log : List (Option ℕ)). Keeps (room_of z) (page_start c.stop) log (set c.cells (at % room_of z) x)) (append_assoc v.pen.cells v.pen.batch (Some x ∷ []))
                  (keeps_more (room_of z) (page_start c.stop) at x (v.pen.cells ++ v.pen.batch) c.cells next near long (some_room z) was.kept);
              some_notes = was.some_notes;
              valid = was.valid;
              different = was.different;
              taken_is = was.taken_is;
            }))
            (λ j u other there p. others_hold z c.stop g.past g.shown (set c.cells (at % room_of z) x) j u (gone j u other there));
        stops = each_keep (KnowsStop c.stop) views id v w here h.holding.stops (λ p. p);
      };
      statuses = statuses_keep views id v w here c.lock g.past c.statuses h.statuses refl refl;
      budget = budget_keep views id v w here z g.made g.past h.budget (omega arith);
      posts = posts_keep views id v w here z.format g.past c.fin c.stop g.made c.tail c.pos h.posts refl refl refl;
      walks = record {
        walking = each_keep Walking views id v w here h.walks.walking (λ p. p);
        bounds = each_turn (Bounds z.format (room_of z) c.head c.cells) (Bounds z.format (room_of z) c.head (set c.cells (at % room_of z) x)) views id w h.walks.bounds
            (bounds_stay id v here (h.walks.bounds id v here)) (λ j u other there p. bounds_stay j u there p);
      };
      looks = looks_keep views id v w here z.format g.past c.fin c.stop g.looked g.target c.tail h.looks refl refl refl refl;
      wakes = wakes_keep views id v w here z.format c.lock c.fin g.past g.undecided g.concerned c.wakes h.wakes refl refl refl refl refl refl refl (λ i. refl) refl refl;
      interests = interests_keep views id v w here g.concerned c.interests h.interests refl refl refl (λ x. x);
      flags = flags_keep views id v w here c.fin c.flags h.flags refl (h.flags.told id v here) refl refl;
      named = named_keep views id v w here h.named refl refl refl refl refl;
      taken = taken_keep views id v w here z g.made c.fin g.seat g.past h.taken refl refl;
    }
  where
    in_open : (z : Shape) (stop : ℕ) (past shown : List Tx) (cells : List ℕ) (j : ℕ) (w : View) → w.phase ≡ Open
        → IsWriting z.format (λ log. Keeps (room_of z) (page_start stop) log cells) past shown w.known.seen w.pen → Holds z stop past shown cells j w
    in_open z stop past shown cells j w e h = subst (λ (q : Phase). HoldsIn q z.format (λ log. Keeps (room_of z) (page_start stop) log cells) past shown w.known.seen w.known.session w.known.db w.pen) (sym e) h

-- a writer may store the next cell behind its head, on the head's page, where that page is free
pub store_cell_allowed : (z : Shape) (slots id word at x : ℕ) (me : Me ℕ View) → word ≡ cells_at z + at % room_of z → me.0.phase ≡ Open → at ≡ length (stored_by me.0) → page_of at < me.0.stop + z.pages → page_of at ≡ page_of (length me.0.pen.cells) → x < 2 ^ 32
    → Allows (Lawful z) slots id me word (λ _. x) (λ _. TellsCellStore (step slots word x 0 none) me x)
store_cell_allowed z slots id word at x me there opened next page stays low =
    allowed z slots id word me (λ _. x) (λ _. TellsCellStore (step slots word x 0 none) me x) (λ shape c g views h here. record {
      w = cell_stored x me.0;
      content = record c { cells = set c.cells (at % room_of z) x };
      world = g;
      moves = ap (λ n. set (row c) n x) there ∙ set_cell z c (at % room_of z) x h.laid;
      law = stores z c g views id me.0 at x h here opened next page stays low;
      told = record { slots = refl; view = refl };
    })

shows : (z : Shape) (c : Content) (g : World) (views : List View) (id : ℕ) (v : View) (to : ℕ) → IsShape z → Law z c g views → get_elem? views id ≡ some v → v.phase ≡ Open → (may : MayShow v to)
    → Law z (record c { head = to }) (record g { shown = g.past ++ draft v.known.session v.known.db v.pen.notes may.queued may.fate ∷ [] }) (set views id (head_stored to v))
shows z c g views id v to shape h here opened may =
    let w : View = head_stored to v in
    let held : holds_lock v.phase ≡ true = ap holds_lock opened in
    let was : IsWriting z.format (λ log. Keeps (room_of z) (page_start c.stop) log c.cells) g.past g.shown v.known.seen v.pen = phase_holds Open z c.stop g.past g.shown c.cells id v opened (h.holding.holds id v here) in
    let stop : v.stop ≡ c.stop = h.holding.stops id v here (ap knows_stop opened) in
    let setup : v.setup ≡ z = held_setup z c g views id v h here held in
    let now : List Tx = g.past ++ draft v.known.session v.known.db v.pen.notes may.queued may.fate ∷ [] in
    let locked = h.locking.locks id v here held in
    let image_is : image z.format now ≡ padded_to to (stored_by v) = ap (λ txs. image z.format (txs ++ draft v.known.session v.known.db v.pen.notes may.queued may.fate ∷ [])) (sym was.seen_is)
    ∙ ap (λ (y : Shape). image y.format (v.known.seen ++ draft v.known.session v.known.db v.pen.notes may.queued may.fate ∷ [])) (sym setup) ∙ may.image_is in
    let further : c.head ≤ to =
    let headed = h.stored.headed in
    let cells : length v.pen.cells ≡ length (image z.format g.shown) = ap length was.cells_are in
    let long = length-append v.pen.cells v.pen.batch in
    let up = may.up in omega (arith, headed, cells, long, up) in
    let kept : Keeps (room_of z) (page_start c.stop) (padded_to to (stored_by v)) c.cells = keeps_padded (room_of z) (page_start c.stop) to (stored_by v) c.cells was.kept in
    let gone : (j : ℕ) (u : View) → j ≢ id → get_elem? views j ≡ some u → holds_lock u.phase ≡ true → ⊥ = alone c.lock g.holder views id v h.locking here held in record {
      laid = h.laid;
      seats = seats_keep views id v w here z g.made g.seat h.seats refl refl refl refl;
      locking = locking_keep views id v w here c.lock g.holder h.locking refl refl;
      stored = record {
        headed = sym (ap length image_is ∙ length-padded to (stored_by v) may.up);
        kept = subst (λ (log : List (Option ℕ)). Keeps (room_of z) (page_start c.stop) log c.cells) (sym image_is) kept;
        ahead = subst (λ (n : ℕ). to ≤ page_start (n + z.pages)) stop (subst (λ (y : Shape). to ≤ page_start (v.stop + y.pages)) setup may.within);
        small = h.stored.small;
        reach = subst (λ (n : ℕ). n ≤ 4096 * notes_of_seats z.seats + 2048) (ap length image_is ∙ length-padded to (stored_by v) may.up)
            (shown_bound z g.past v.known.session v.known.db v.pen.notes may.queued may.fate (notes_of_seats z.seats) h.history.finished was.valid (let taken = was.taken_is in let left = has_left views id v here in let budget = h.budget in omega (arith, taken, left, budget)));
        low = subst (λ (n : ℕ). n < 2 ^ 32) (ap length image_is ∙ length-padded to (stored_by v) may.up)
            (shown_low z g.past v.known.session v.known.db v.pen.notes may.queued may.fate h.history.finished was.valid (let all = shape.few_notes in let taken = was.taken_is in let left = has_left views id v here in let budget = h.budget in omega (arith, all, taken, left, budget)));
      };
      history = record {
        counted = h.history.counted;
        finished = h.history.finished;
        sessions = h.history.sessions;
        written = All-push IsWritten g.past (draft v.known.session v.known.db v.pen.notes may.queued may.fate) (written_part g.past g.shown h.history.begins h.history.written)
            (let seat = h.seats.seated id v here locked.2 in drafts_are_written v.known.session v.known.db v.pen.notes may.queued may.fate was.valid seat.some_db seat.db_fits
            (let made = seat.was_made in let few = h.seats.few in let most = shape.few_seats in omega (arith, made, few, most)));
        one_more = let more = length-append g.past (draft v.known.session v.known.db v.pen.notes may.queued may.fate ∷ []) in omega (arith, more);
        begins = begins-continued g.past (draft v.known.session v.known.db v.pen.notes may.queued may.fate ∷ []);
        free = λ nobody. let is = locked.1 in let positive = locked.2 in absurd (omega (arith, nobody, is, positive));
        whole = someone_keep views id v w here (KnowsAll g.past) refl (λ p. p) h.history.whole;
        sees = each_keep (λ _ u. Begins u.known.seen g.past) views id v w here h.history.sees (λ p. p);
        own_seen = each_keep (λ _ u. All (λ x. x < next_xid u.known.seen) u.known.own) views id v w here h.history.own_seen (λ p. p);
        owns = each_keep (λ _ u. u.known.own ≡ Rattle.pgn_journal.specs.Journal.xids_of u.known.session g.past) views id v w here h.history.owns (λ p. p);
      };
      numbers = numbers_keep views id v w here c.lock c.fin c.xid h.numbers refl refl;
      holding = record {
        holds = each_turn (Holds z c.stop g.past g.shown c.cells) (Holds z c.stop g.past now c.cells) views id w h.holding.holds
            (subst (λ (q : Phase). HoldsIn q z.format (λ log. Keeps (room_of z) (page_start c.stop) log c.cells) g.past now v.known.seen v.known.session v.known.db w.pen) (sym opened) (record {
              seen_is = was.seen_is;
              cells_are = sym image_is;
              kept = subst (λ (log : List (Option ℕ)). Keeps (room_of z) (page_start c.stop) log c.cells) (sym (append-nil (padded_to to (stored_by v)))) kept;
              some_notes = was.some_notes;
              valid = was.valid;
              different = was.different;
              taken_is = was.taken_is;
            }))
            (λ j u other there p. others_hold z c.stop g.past now c.cells j u (gone j u other there));
        stops = each_keep (KnowsStop c.stop) views id v w here h.holding.stops (λ p. p);
      };
      statuses = statuses_keep views id v w here c.lock g.past c.statuses h.statuses refl refl;
      budget = budget_keep views id v w here z g.made g.past h.budget (omega arith);
      posts = posts_keep views id v w here z.format g.past c.fin c.stop g.made c.tail c.pos h.posts refl refl refl;
      walks = record {
        walking = each_keep Walking views id v w here h.walks.walking (λ p. p);
        bounds = each_turn (Bounds z.format (room_of z) c.head c.cells) (Bounds z.format (room_of z) to c.cells) views id w h.walks.bounds
            (λ bounded. let s = h.walks.bounds id v here bounded in (s.0, let far = s.1 in omega (arith, far, further)))
            (λ j u other there p bounded. let s = p bounded in (s.0, let far = s.1 in omega (arith, far, further)));
      };
      looks = record {
        looking = each_turn (LooksBy z.format g.past c.fin g.looked g.target c.tail) (LooksBy z.format g.past c.fin g.looked g.target c.tail) views id w h.looks.looking (λ held. tt) (λ j u other there p. p);
        spared = each_keep (Spared g.looked g.target) views id v w here h.looks.spared (λ p. p);
        aims = h.looks.aims;
        above = h.looks.above;
      };
      wakes = wakes_keep views id v w here z.format c.lock c.fin g.past g.undecided g.concerned c.wakes h.wakes refl refl refl refl refl refl refl (λ i. refl) refl refl;
      interests = interests_keep views id v w here g.concerned c.interests h.interests refl refl refl (λ x. x);
      flags = flags_keep views id v w here c.fin c.flags h.flags refl (h.flags.told id v here) refl refl;
      named = named_keep views id v w here h.named refl refl refl refl refl;
      taken = taken_keep views id v w here z g.made c.fin g.seat g.past h.taken refl refl;
    }

-- a writer may move the head to a place that it may show
pub store_head_allowed : (z : Shape) (slots id to : ℕ) (me : Me ℕ View) → me.0.phase ≡ Open → MayShow me.0 to → Allows (Lawful z) slots id me 1 (λ _. to) (λ _. TellsHeadStore (step slots 1 to 0 none) me to)
store_head_allowed z slots id to me opened may =
    allowed z slots id 1 me (λ _. to) (λ _. TellsHeadStore (step slots 1 to 0 none) me to) (λ shape c g views h here.
    let law = shows z c g views id me.0 to shape h here opened may in record {
      w = head_stored to me.0;
      content = record c { head = to };
      world = record g { shown = g.past ++ draft me.0.known.session me.0.known.db me.0.pen.notes may.queued may.fate ∷ [] };
      moves = refl;
      law = law;
      told = record { slots = refl; view = refl; low = law.stored.low };
    })
