-- The steps of a listener keep the rule: joining, its walks through the cells, and leaving.
use Rattle.std.specs.Prelude.{Contains}
use Rattle.std.proofs.Common.{◌≡◌, ℕ, ◌+◌, ◌-◌, ◌%◌, ◌^◌, ◌<◌, ◌≤◌, max, true, false, List, [], ◌∷◌, ◌++◌, length, drop, get_or, set, Some, None, slice_get, sym, refl, ap, ◌∙◌, subst, arith, ⊎_elim, inl, inr, true≢false, length-set, get_or-set_other, get_or-set_same}
use Rattle.std.specs.Int.{bit_at}
use Rattle.std.proofs.lemmas.List.Elements.{All-nil}
use Rattle.std.proofs.lemmas.Grind.{common_steps}
use mathlib.Core.Option.{some, none}
use lib.ListN.{get_elem?}
use Rattle.atomic_table.specs.Table.{Me, Allows, step}
use Rattle.atomic_table.proofs.Lists.{set_again}
use Rattle.pgn_base.specs.declared.format.Format.{Format}
use Rattle.pgn_journal.specs.declared.tx.Tx.{Tx}
use Rattle.pgn_journal.proofs.BeginsLaws.{begins-itself, begins-on, begins-rest, begins-shorter}
use Rattle.pgn_journal.specs.Journal.{next_xid}
use Rattle.pgn_journal.specs.Due.{is_due_to}
use Rattle.pgn_base.specs.Interest.{channel_bit}
use Rattle.pgn_journal.specs.Packing.{page_start, place, image}
use Rattle.pgn_hub.specs.Shape.{Shape, IsShape, notes_of_seats}
use Rattle.pgn_journal.proofs.PackingLemmas.{place_grows, last_place}
use Rattle.pgn_journal.proofs.DraftLaws.{longer_agrees}
use Rattle.pgn_words.specs.declared.view.View.{View}
use Rattle.pgn_words.specs.declared.view.Post.{Post}
use Rattle.pgn_words.specs.declared.view.Walk.{Walk}
use Rattle.pgn_words.specs.declared.view.Listen.{Listen}
use Rattle.pgn_words.specs.declared.view.Listen.TheVariants.{Out, Joining, Based, Registered}
use Rattle.pgn_words.specs.declared.view.Phase.TheVariants.{Free}
use Rattle.pgn_words.specs.declared.view.Stage.TheVariants.{Still, Begun, Shown}
use Rattle.pgn_words.specs.Words.{Content, row, room_of, pos_at, cells_at}
use Rattle.pgn_words.specs.Views.{holds_lock, is_walking}
use Rattle.pgn_words.specs.Positions.{packed, mark_in, place_in, shown_as, marked, word_of, is_placed, IsPlacedIn}
use Rattle.pgn_words.specs.Rule.{World, Law, Lawful, Keeps}
use Rattle.pgn_words.specs.Listening.{joining, TellsJoining, TellsBase, registered, TellsRegistered, TellsBegun, TellsShown, TellsShownCell, forwarded, TellsForwarded, left, TellsLeft}
use Rattle.pgn_words.proofs.LockKept.{setup_of, few_left}
use Rattle.pgn_words.proofs.StatusKept.{holder_sees}
use Rattle.pgn_words.proofs.NearSteps.{near_itself_served}
use Rattle.pgn_words.proofs.RowLaws.{set_pos, get_cell}
use Rattle.pgn_words.proofs.PostKept.{moved, moves, moves_on}
use Rattle.pgn_words.proofs.Meets.{allowed}

-- a session has a position
pub seat_within : (z : Shape) (c : Content) (g : World) (views : List View) (id : ℕ) (v : View) (i : ℕ) → Law z c g views → get_elem? views id ≡ some v → v.known.session ≡ i + 1 → i < length c.pos
seat_within z c g views id v i h here number =
    let seat = h.seats.seated id v here (omega (arith, number)) in
    let made = seat.was_made in
    let few = h.seats.few in
    let long = h.laid.pos_long in omega (arith, number, made, few, long)

-- who is out or joins makes no walk
still : (z : Shape) (c : Content) (g : World) (views : List View) (id : ℕ) (v : View) (l : Listen) → Law z c g views → get_elem? views id ≡ some v → v.post.listen ≡ l → is_placed l ≡ false → is_walking v.walk.stage ≡ true → ⊥
still z c g views id v l h here is unplaced walks =
    let registered : v.post.listen ≡ Registered = (h.walks.walking id v here walks).0 in
    let placed : is_placed l ≡ true = ap is_placed (sym is ∙ registered) in true≢false (sym placed ∙ unplaced)

-- who does not listen may show that it joins
pub mark_joining_allowed : (z : Shape) (slots id word : ℕ) (me : Me ℕ View) → word + 1 ≡ pos_at + me.0.known.session → 0 < me.0.known.session → me.0.post.listen ≡ Out
    → Allows (Lawful z) slots id me word (λ _. 1) (λ _. TellsJoining (step slots word 1 0 none) me 1)
mark_joining_allowed z slots id word me own positive out =
    allowed z slots id word me (λ _. 1) (λ _. TellsJoining (step slots word 1 0 none) me 1) (λ shape c g views h here.
    let v = me.0 in
    let i : ℕ = v.known.session - 1 in
    let number : v.known.session ≡ i + 1 = omega (arith, positive) in
    let within : i < length c.pos = seat_within z c g views id v i h here number in
    let there : word ≡ pos_at + i = omega (arith, own, number) in
    let none_walks : is_walking v.walk.stage ≡ true → ⊥ = still z c g views id v Out h here out refl in record {
      w = joining v;
      content = record c { pos = set c.pos i 1 };
      world = g;
      moves = ap (λ n. set (row c) n 1) there ∙ set_pos z c i 1 within;
      law = moves z c g views id v i v.known.seen v.known.mark v.known.marks v.known.owes v.known.set (record v.post { listen = Joining }) v.walk (set c.pos i 1) h here number
          (h.history.sees id v here) (omega arith) (λ _. refl)
          (length-set c.pos i 1) (λ j other. get_or-set_other c.pos i j 1 0 other) (get_or-set_same c.pos i 1 0 within)
          (λ has. absurd (cc)) (λ has. absurd (cc))
          (h.posts.marks id v here ∙ ap (λ (l : Listen). marked (shown_as l v.post.mark v.post.at)) out)
          (λ walks. absurd (none_walks walks)) (λ shown. absurd (none_walks (ap is_walking shown)))
          (λ registered. absurd (cc)) (λ registered. absurd (cc)) (λ n x. x) (λ registered. absurd (cc));
      told = record { slots = refl; view = refl };
    })

-- a mark with its place belongs to the journal
pub placed_in : (format : Format) (past : List Tx) (fin mark at : ℕ) → fin ≡ next_xid past → at ≡ place format past mark → 3 ≤ mark → mark ≤ fin → IsPlacedIn format past mark at
placed_in format past fin mark at counted is first most = record {
  first = first;
  within = omega (arith, counted, most);
  at_is = is;
  before = let up = place_grows format past mark (next_xid past) (omega (arith, counted, most)) in let last = last_place format past (next_xid past) (omega arith) in omega (arith, is, up, last);
}

-- what a pass that has learned the whole journal is told of it
pub learned_more : (z : Shape) (c : Content) (g : World) (views : List View) (id : ℕ) (v : View) → Law z c g views → get_elem? views id ≡ some v → g.past ≡ v.known.seen ++ drop (length v.known.seen) g.past
learned_more z c g views id v h here = begins-rest v.known.seen g.past (h.history.sees id v here)

-- who joins may load the tail
pub load_base_allowed : (z : Shape) (slots id : ℕ) (me : Me ℕ View) → 0 < me.0.known.session → me.0.post.listen ≡ Joining → Allows (Lawful z) slots id me 3 (λ n. n) (TellsBase (step slots 3 0 0 none) me)
load_base_allowed z slots id me positive joins =
    allowed z slots id 3 me (λ n. n) (TellsBase (step slots 3 0 0 none) me) (λ shape c g views h here.
    let v = me.0 in
    let i : ℕ = v.known.session - 1 in
    let number : v.known.session ≡ i + 1 = omega (arith, positive) in
    let q : Post = record { listen = Based; mark = mark_in c.tail; at = place_in c.tail } in
    let setup : v.setup ≡ z = setup_of z c g views id v h here positive in
    let tail = h.posts.tail_placed in
    let none_walks : is_walking v.walk.stage ≡ true → ⊥ = still z c g views id v Joining h here joins refl in record {
      w = moved g.past v.known.mark v.known.marks v.known.owes v.known.set q v.walk v;
      content = c;
      world = g;
      moves = refl;
      law = moves z c g views id v i g.past v.known.mark v.known.marks v.known.owes v.known.set q v.walk c.pos h here number
          (begins-itself g.past) (begins-shorter v.known.seen g.past (h.history.sees id v here))
          (λ held. sym (holder_sees v.phase z (λ log. Keeps (room_of z) (page_start c.stop) log c.cells) g.past g.shown v.known.seen v.known.session v.known.db v.pen held (h.holding.holds id v here)))
          refl (λ j other. refl) (h.posts.shows id v here i number ∙ ap (λ (l : Listen). word_of (shown_as l v.post.mark v.post.at)) joins)
          (λ has. tail) (λ has low. h.looks.aims)
          (h.posts.marks id v here ∙ ap (λ (l : Listen). marked (shown_as l v.post.mark v.post.at)) joins)
          (λ walks. absurd (none_walks walks)) (λ shown. absurd (none_walks (ap is_walking shown)))
          (λ registered. absurd (cc)) (λ registered. absurd (cc)) (λ n x. x) (λ registered. absurd (cc));
      told = record {
        slots = refl;
        base = record {
          more = drop (length v.known.seen) g.past;
          view = ap (λ (xs : List Tx). moved xs v.known.mark v.known.marks v.known.owes v.known.set q v.walk v) (learned_more z c g views id v h here);
          placed = subst (λ (y : Shape). IsPlacedIn y.format g.past (mark_in c.tail) (place_in c.tail)) (sym setup) (placed_in z.format g.past c.fin (mark_in c.tail) (place_in c.tail) h.history.counted tail.at_is tail.least tail.most);
        };
        kept = (refl, refl);
      };
    })

-- a list that is longer by one has that one, and what it had
pub has_last : (ns : List ℕ) (n : ℕ) → Contains (ns ++ n ∷ []) n
has_last ns n = (length ns, grind (arith, common_steps), grind (arith, common_steps))

pub has_still : (ns : List ℕ) (n k : ℕ) → Contains ns k → Contains (ns ++ n ∷ []) k
has_still ns n k (i, within, is) = (i, grind (arith, common_steps), grind (arith, common_steps))

-- and show the mark that it found there
pub store_valid_allowed : (z : Shape) (slots id word x : ℕ) (me : Me ℕ View) → word + 1 ≡ pos_at + me.0.known.session → 0 < me.0.known.session → me.0.post.listen ≡ Based → x ≡ packed me.0.post.mark me.0.post.at
    → Allows (Lawful z) slots id me word (λ _. x) (λ _. TellsRegistered (step slots word x 0 none) me x)
store_valid_allowed z slots id word x me own positive based value =
    allowed z slots id word me (λ _. x) (λ _. TellsRegistered (step slots word x 0 none) me x) (λ shape c g views h here.
    let v = me.0 in
    let i : ℕ = v.known.session - 1 in
    let number : v.known.session ≡ i + 1 = omega (arith, positive) in
    let within : i < length c.pos = seat_within z c g views id v i h here number in
    let there : word ≡ pos_at + i = omega (arith, own, number) in
    let has : is_placed v.post.listen ≡ true = ap is_placed based in record {
      w = registered v;
      content = record c { pos = set c.pos i x };
      world = g;
      moves = ap (λ n. set (row c) n x) there ∙ set_pos z c i x within;
      law = moves z c g views id v i v.known.seen (Some v.post.mark) (v.known.marks ++ v.post.mark ∷ []) true [] (record v.post { listen = Registered }) (record v.walk { stage = Still }) (set c.pos i x) h here number
          (h.history.sees id v here) (omega arith) (λ _. refl)
          (length-set c.pos i x) (λ j other. get_or-set_other c.pos i j x 0 other) (get_or-set_same c.pos i x 0 within ∙ value)
          (λ _. (h.posts.placed id v here has).1) (λ _ low. h.looks.spared id v here has low)
          refl
          (λ walks. absurd (cc)) (λ shown. absurd (cc))
          (λ registered. All-nil (λ (channel : List ℕ). bit_at (get_or c.interests i 0) (channel_bit channel) ≡ 1))
          (λ registered. record { still = inr (inl refl); walked = λ walks. absurd (cc) })
          (λ n x. has_still v.known.marks v.post.mark n x) (λ registered. (v.known.marks, refl));
      told = record { slots = refl; view = refl };
    })

-- a listener that does not hold the lock may begin a walk with the first unfinished number
pub begin_walk_allowed : (z : Shape) (slots id : ℕ) (me : Me ℕ View) → 0 < me.0.known.session → me.0.phase ≡ Free → me.0.post.listen ≡ Registered → Allows (Lawful z) slots id me 2 (λ n. n) (TellsBegun (step slots 2 0 0 none) me)
begin_walk_allowed z slots id me positive free registered =
    allowed z slots id 2 me (λ n. n) (TellsBegun (step slots 2 0 0 none) me) (λ shape c g views h here.
    let v = me.0 in
    let i : ℕ = v.known.session - 1 in
    let number : v.known.session ≡ i + 1 = omega (arith, positive) in
    let k : Walk = record v.walk { stage = Begun; upto = c.fin } in
    let setup : v.setup ≡ z = setup_of z c g views id v h here positive in
    let has : is_placed v.post.listen ≡ true = ap is_placed registered in
    let mine = (h.posts.placed id v here has).1 in
    let counted = h.history.counted in
    let left = few_left z g.made g.past views id v h.budget here h.history.finished setup in
    let all : notes_of_seats v.setup.seats ≤ 1048575 = let most = shape.few_notes in subst (λ (y : Shape). notes_of_seats y.seats ≤ 1048575) (sym setup) most in record {
      w = moved g.past v.known.mark v.known.marks v.known.owes v.known.set v.post k v;
      content = c;
      world = g;
      moves = refl;
      law = moves z c g views id v i g.past v.known.mark v.known.marks v.known.owes v.known.set v.post k c.pos h here number
          (begins-itself g.past) (begins-shorter v.known.seen g.past (h.history.sees id v here))
          (λ held. absurd (true≢false (sym held ∙ ap holds_lock free)))
          refl (λ j other. refl) (h.posts.shows id v here i number)
          (λ _. mine) (λ _ low. h.looks.spared id v here has low)
          (h.posts.marks id v here)
          (λ walks. (registered, mine.most, omega (arith, counted))) (λ shown. absurd (cc))
          (λ _. h.interests.covered id v here registered i number)
          (λ _. record { still = (h.wakes.heeds id v here registered i number).still; walked = λ walks. inr (near_itself_served z.format (is_due_to v.known.db v.known.set) g.past g.undecided g.concerned c.fin i c.fin (omega arith)) })
          (λ n x. x) (h.named.current id v here);
      told = record {
        slots = refl;
        begun = record {
          more = drop (length v.known.seen) g.past;
          view = ap (λ (xs : List Tx). moved xs v.known.mark v.known.marks v.known.owes v.known.set v.post k v) (learned_more z c g views id v h here);
          number = counted;
          finished = h.history.finished;
          few = omega (arith, left);
          placed = subst (λ (y : Shape). IsPlacedIn y.format g.past v.post.mark v.post.at) (sym setup) (placed_in z.format g.past c.fin v.post.mark v.post.at counted mine.at_is mine.least mine.most);
        };
        low = omega (arith, counted, left, all);
        kept = (refl, refl);
      };
    })

-- what the head shows has few transactions
pub shown_few : (z : Shape) (c : Content) (g : World) (views : List View) (id : ℕ) (v : View) → IsShape z → Law z c g views → get_elem? views id ≡ some v → v.setup ≡ z → next_xid g.shown < 2 ^ 32
shown_few z c g views id v shape h here setup =
    let left = few_left z g.made g.past views id v h.budget here h.history.finished setup in
    let all : notes_of_seats v.setup.seats ≤ 1048575 = let most = shape.few_notes in subst (λ (y : Shape). notes_of_seats y.seats ≤ 1048575) (sym setup) most in
    let more = h.history.one_more in omega (arith, left, all, more)

-- on its walk it may load the head
pub show_head_allowed : (z : Shape) (slots id : ℕ) (me : Me ℕ View) → 0 < me.0.known.session → is_walking me.0.walk.stage ≡ true → Allows (Lawful z) slots id me 1 (λ n. n) (TellsShown (step slots 1 0 0 none) me)
show_head_allowed z slots id me positive walks =
    allowed z slots id 1 me (λ n. n) (TellsShown (step slots 1 0 0 none) me) (λ shape c g views h here.
    let v = me.0 in
    let i : ℕ = v.known.session - 1 in
    let number : v.known.session ≡ i + 1 = omega (arith, positive) in
    let k : Walk = record v.walk { stage = Shown; shown = g.shown } in
    let setup : v.setup ≡ z = setup_of z c g views id v h here positive in
    let way = h.walks.walking id v here walks in
    let has : is_placed v.post.listen ≡ true = ap is_placed way.0 in
    let mine = (h.posts.placed id v here has).1 in
    let from : page_start c.stop ≤ v.post.at = let kept = mine.kept in omega (arith, kept) in
    let headed = h.stored.headed in record {
      w = moved v.known.seen v.known.mark v.known.marks v.known.owes v.known.set v.post k v;
      content = c;
      world = g;
      moves = refl;
      law = moves z c g views id v i v.known.seen v.known.mark v.known.marks v.known.owes v.known.set v.post k c.pos h here number
          (h.history.sees id v here) (omega arith) (λ _. refl)
          refl (λ j other. refl) (h.posts.shows id v here i number)
          (λ _. mine) (λ _ low. h.looks.spared id v here has low)
          (h.posts.marks id v here)
          (λ _. way) (λ shown. (λ at y low is. h.stored.kept at y (omega (arith, from, low)) is, omega (arith, headed)))
          (λ _. h.interests.covered id v here way.0 i number)
          (λ _. let heeded = h.wakes.heeds id v here way.0 i number in record { still = heeded.still; walked = λ _. heeded.walked walks })
          (λ n x. x) (h.named.current id v here);
      told = record {
        slots = refl;
        shown = record {
          shown = g.shown;
          view = refl;
          begins = begins-on v.known.seen g.past g.shown (h.history.sees id v here) h.history.begins;
          written = h.history.written;
          few = shown_few z c g views id v shape h here setup;
          head = headed ∙ ap (λ (y : Shape). length (image y.format g.shown)) (sym setup);
          low = h.stored.low;
        };
        kept = (refl, refl);
      };
    })

-- and the cells before it
pub load_shown_allowed : (z : Shape) (slots id word at : ℕ) (me : Me ℕ View) → 0 < me.0.known.session → word ≡ cells_at z + at % room_of z → me.0.walk.stage ≡ Shown
    → Allows (Lawful z) slots id me word (λ n. n) (TellsShownCell (step slots word 0 0 none) me)
load_shown_allowed z slots id word at me positive there shown =
    allowed z slots id word me (λ n. n) (TellsShownCell (step slots word 0 0 none) me) (λ shape c g views h here.
    let v = me.0 in
    let found : get_or (row c) word 0 ≡ get_or c.cells (at % room_of z) 0 = ap (λ n. get_or (row c) n 0) there ∙ get_cell z c (at % room_of z) h.laid in
    let setup : v.setup ≡ z = setup_of z c g views id v h here positive in
    let kept = (h.walks.bounds id v here shown).0 in record {
      w = v;
      content = c;
      world = g;
      moves = Rattle.std.proofs.lemmas.List.set-get_or (row c) word 0;
      law = subst (λ (us : List View). Law z c g us) (sym (set_again views id v here)) h;
      told = record {
        slots = refl;
        view = refl;
        low = let was = h.stored.small (at % room_of z) in omega (arith, found, was);
        value = λ place_of x word_is from that.
            ap (λ n. get_or (row c) n 0) (word_is ∙ ap (λ (y : Shape). cells_at y + place_of % room_of y) setup) ∙ get_cell z c (place_of % room_of z) h.laid
            ∙ kept place_of x from (ap (λ (y : Shape). slice_get (image y.format v.walk.shown) place_of) (sym setup) ∙ that);
      };
    })

-- at the end of its walk it may move its mark to where it went
pub store_forward_allowed : (z : Shape) (slots id word x at : ℕ) (me : Me ℕ View) → word + 1 ≡ pos_at + me.0.known.session → 0 < me.0.known.session → me.0.walk.stage ≡ Shown
    → at ≡ place z.format me.0.known.seen me.0.walk.upto → at < 2 ^ 32 → x ≡ packed me.0.walk.upto at
    → Allows (Lawful z) slots id me word (λ _. x) (λ _. TellsForwarded (step slots word x 0 none) me x)
store_forward_allowed z slots id word x at me own positive shown place_is low value =
    allowed z slots id word me (λ _. x) (λ _. TellsForwarded (step slots word x 0 none) me x) (λ shape c g views h here.
    let v = me.0 in
    let i : ℕ = v.known.session - 1 in
    let number : v.known.session ≡ i + 1 = omega (arith, positive) in
    let within : i < length c.pos = seat_within z c g views id v i h here number in
    let there : word ≡ pos_at + i = omega (arith, own, number) in
    let way = h.walks.walking id v here (ap is_walking shown) in
    let registered : v.post.listen ≡ Registered = way.0 in
    let forth : v.post.mark ≤ v.walk.upto = way.1 in
    let seen : v.walk.upto ≤ next_xid v.known.seen = way.2 in
    let has : is_placed v.post.listen ≡ true = ap is_placed registered in
    let mine = (h.posts.placed id v here has).1 in
    let sees = h.history.sees id v here in
    let further = begins-shorter v.known.seen g.past sees in
    let counted = h.history.counted in
    let at_is : at ≡ place z.format g.past v.walk.upto = place_is ∙ sym (longer_agrees.places z.format v.known.seen g.past v.walk.upto sees seen) in
    let up : v.post.at ≤ at = let rises = place_grows z.format g.past v.post.mark v.walk.upto forth in let was = mine.at_is in omega (arith, rises, was, at_is) in
    let q : Post = record v.post { mark = v.walk.upto; at = at } in
    let part : place_in x ≡ at = omega (arith, value, low) in record {
      w = forwarded at v;
      content = record c { pos = set c.pos i x };
      world = g;
      moves = ap (λ n. set (row c) n x) there ∙ set_pos z c i x within;
      law = moves_on z c g views id v i (max v.known.told v.walk.upto) v.known.seen (Some v.walk.upto) (v.known.marks ++ v.walk.upto ∷ []) false v.known.set q (record v.walk { stage = Still }) (set c.pos i x) h here number
          sees (omega arith) (λ _. refl)
          (length-set c.pos i x) (λ j other. get_or-set_other c.pos i j x 0 other)
          (get_or-set_same c.pos i x 0 within ∙ value ∙ ap (λ (l : Listen). word_of (shown_as l v.walk.upto at)) (sym registered))
          (λ _. record { at_is = at_is; least = let first = mine.least in omega (arith, first, forth); most = omega (arith, seen, further, counted); kept = let kept = mine.kept in omega (arith, kept, up); low = low })
          (λ _ looked. let least = h.looks.spared id v here has looked in omega (arith, least, up))
          (ap (λ (l : Listen). marked (shown_as l v.walk.upto at)) (sym registered))
          (λ walks. absurd (cc)) (λ ends. absurd (cc))
          (λ _. h.interests.covered id v here registered i number)
          (λ _. let heeded = h.wakes.heeds id v here registered i number in record { still = ⊎_elim (λ set_now. inl set_now) (λ near. inr (inr near)) (heeded.walked (ap is_walking shown)); walked = λ walks. absurd (cc) })
          (λ n y. has_still v.known.marks v.walk.upto n y) (λ _. (v.known.marks, refl))
          (let t = h.flags.told id v here in let below = t.below in let finished = t.finished in record { first = t.first; below = omega (arith, below); finished = omega (arith, finished, seen, further, counted) });
      told = record { slots = refl; view = ap (λ n. forwarded n v) (sym part) };
    })

-- a pass may show that it does not listen
pub store_out_allowed : (z : Shape) (slots id word : ℕ) (me : Me ℕ View) → word + 1 ≡ pos_at + me.0.known.session → 0 < me.0.known.session
    → Allows (Lawful z) slots id me word (λ _. 0) (λ _. TellsLeft (step slots word 0 0 none) me 0)
store_out_allowed z slots id word me own positive =
    allowed z slots id word me (λ _. 0) (λ _. TellsLeft (step slots word 0 0 none) me 0) (λ shape c g views h here.
    let v = me.0 in
    let i : ℕ = v.known.session - 1 in
    let number : v.known.session ≡ i + 1 = omega (arith, positive) in
    let within : i < length c.pos = seat_within z c g views id v i h here number in
    let there : word ≡ pos_at + i = omega (arith, own, number) in record {
      w = left v;
      content = record c { pos = set c.pos i 0 };
      world = g;
      moves = ap (λ n. set (row c) n 0) there ∙ set_pos z c i 0 within;
      law = moves z c g views id v i v.known.seen None v.known.marks v.known.owes v.known.set (record v.post { listen = Out }) (record v.walk { stage = Still }) (set c.pos i 0) h here number
          (h.history.sees id v here) (omega arith) (λ _. refl)
          (length-set c.pos i 0) (λ j other. get_or-set_other c.pos i j 0 0 other) (get_or-set_same c.pos i 0 0 within)
          (λ has. absurd (cc)) (λ has. absurd (cc))
          refl
          (λ walks. absurd (cc)) (λ shown. absurd (cc))
          (λ registered. absurd (cc)) (λ registered. absurd (cc)) (λ n x. x) (λ registered. absurd (cc));
      told = record { slots = refl; view = refl };
    })
