-- The steps on interests keep the rule.
use Rattle.std.proofs.Common.{◌≡◌, ◌≢◌, ◌⊎◌, inl, inr, ⊎_elim, ℕ, zero, suc, ◌+◌, ◌-◌, ◌<◌, ◌≤◌, ◌&&◌, Bool, true, false, cond, List, [], ◌∷◌, ◌++◌, length, get_or, set, sym, refl, ap, ◌∙◌, subst, arith, length-set, get_or-set_other, get_or-set_same}
use mathlib.Core.Option.{some, none}
use lib.ListN.{get_elem?}
use native.Mathlib.Decide.{ℕ_discrete}
use Rattle.atomic_table.specs.Table.{Me, Allows, step}
use Rattle.pgn_base.specs.declared.format.Format.{Format}
use Rattle.pgn_journal.specs.declared.tx.Tx.{Tx}
use Rattle.pgn_journal.specs.Journal.{next_xid}
use Rattle.pgn_journal.specs.Due.{is_due_to}
use Rattle.pgn_base.specs.Interest.{interest}
use Rattle.pgn_journal.specs.Interest.{channels_of, meets, Covers}
use Rattle.pgn_journal.proofs.InterestLaws.{interest-covers, nothing-in_common}
use Rattle.pgn_journal.proofs.NearLaws.{none-within}
use Rattle.pgn_hub.specs.Shape.{Shape}
use Rattle.pgn_words.specs.declared.view.View.{View}
use Rattle.pgn_words.specs.declared.view.Walk.{Walk}
use Rattle.pgn_words.specs.declared.view.Listen.TheVariants.{Registered}
use Rattle.pgn_words.specs.declared.view.Phase.{Phase}
use Rattle.pgn_words.specs.declared.view.Phase.TheVariants.{Signalling}
use Rattle.pgn_words.specs.declared.view.Stage.TheVariants.{Still}
use Rattle.pgn_words.specs.Words.{Content, row, room_of, seats_of, interests_at}
use Rattle.pgn_words.specs.Views.{holds_lock, is_walking}
use Rattle.pgn_words.specs.Positions.{is_placed}
use Rattle.pgn_words.specs.Interests.{interested, TellsInterested, interest_loaded, TellsInterest}
use Rattle.pgn_words.specs.WakeRule.{served, passed, IsServed, IsHeeded, Heeds, Signals, IsHeard, ended_in, Covered, Deems}
use Rattle.pgn_words.specs.Rule.{World, KnowsStop, Holds, IsSignalling, Law, Lawful}
use Rattle.pgn_words.proofs.EachLaws.{each_turn, each_keep}
use Rattle.pgn_words.proofs.Frames.{seats_keep, locking_keep, history_keep, numbers_keep, budget_keep, statuses_keep}
use Rattle.pgn_words.proofs.MoreFrames.{posts_keep, walks_keep, looks_keep, flags_keep, named_keep, taken_keep}
use Rattle.pgn_words.proofs.LockKept.{held_setup, alone, free_holds}
use Rattle.pgn_words.proofs.HeadKept.{phase_holds}
use Rattle.pgn_words.proofs.NearSteps.{served_shrinks, passed_least, nothing_more, not_due_unheard}
use Rattle.pgn_words.proofs.RowLaws.{set_interest_word, get_interest_word}
use Rattle.pgn_words.proofs.PostKept.{turns}
use Rattle.pgn_words.proofs.WalkKept.{seat_within}
use Rattle.pgn_words.proofs.Meets.{allowed}

-- A listener tells its channels: it owes a read, and is on no way to a later mark.
pub store_interest_allowed : (z : Shape) (slots id word x : ℕ) (channels : List (List ℕ)) (me : Me ℕ View) → word ≡ interests_at z + (me.0.known.session - 1) → 0 < me.0.known.session → me.0.post.listen ≡ Registered → x ≡ interest channels
    → Allows (Lawful z) slots id me word (λ _. x) (λ _. TellsInterested channels (step slots word x 0 none) me x)
store_interest_allowed z slots id word x channels me there positive registered value =
    allowed z slots id word me (λ _. x) (λ _. TellsInterested channels (step slots word x 0 none) me x) (λ shape c g views h here.
    let v = me.0 in
    let i : ℕ = v.known.session - 1 in
    let number : v.known.session ≡ i + 1 = omega (arith, positive) in
    let within : i < length c.interests = let low = seat_within z c g views id v i h here number in let a = h.laid.pos_long in let b = h.laid.interests_long in omega (arith, low, a, b) in
    let has : is_placed v.post.listen ≡ true = ap is_placed registered in
    let k : Walk = record v.walk { stage = Still } in record {
      w = interested channels v;
      content = record c { interests = set c.interests i x };
      world = g;
      moves = ap (λ e. set (row c) e x) there ∙ set_interest_word z c i x h.laid within;
      law = turns z c g views id v i v.known.told v.known.seen v.known.mark v.known.marks true v.known.wake_look channels v.post k c.pos c.wakes (set c.interests i x) h here number
          (h.history.sees id v here) (omega arith) (λ _. refl)
          refl (λ j other. refl) (h.posts.shows id v here i number)
          (λ _. (h.posts.placed id v here has).1) (λ _ low. h.looks.spared id v here has low)
          (h.posts.marks id v here)
          (λ walks. absurd (cc)) (λ shown. absurd (cc))
          refl (λ j other. refl) (h.wakes.small i)
          (length-set c.interests i x) (λ j other. get_or-set_other c.interests i j x 0 other)
          (λ _. subst (λ (bits : ℕ). Covers bits channels) (sym (get_or-set_same c.interests i x 0 within ∙ value)) (interest-covers channels))
          (λ _. record { still = inr (inl refl); walked = λ walks. absurd (cc) })
          (λ n y. y) (h.named.current id v here) (h.flags.told id v here);
      told = record { slots = refl; view = refl };
    })

-- a write to a list is there, or past its end
written_there : (bs : List Bool) (k : ℕ) (b : Bool) → (get_or (set bs k b) k false ≡ b) ⊎ (get_or (set bs k b) k false ≡ get_or bs k false)
written_there [] k b = inr refl
written_there (x ∷ bs) zero b = inl refl
written_there (x ∷ bs) (suc k) b = written_there bs k b

-- where the transaction may concern a listener that it was known not to concern, the listener is passed by of less
passed_less : (undecided before after : ℕ → Bool) (fin i : ℕ) → after i ≡ true → passed undecided after fin i ≤ passed undecided before fin i
passed_less undecided before after fin i may =
    let is : passed undecided after fin i ≡ cond (undecided i && true) (fin - 1) fin = ap (λ b. cond (undecided i && b) (fin - 1) fin) may in
    let low = by_seats (undecided i) (before i) in omega (arith, is, low)
  where
    by_seats : (a b : Bool) → cond (a && true) (fin - 1) fin ≤ cond (a && b) (fin - 1) fin
    by_seats true true = omega arith
    by_seats true false = omega arith
    by_seats false b = omega arith

-- whom it is known not to concern is passed by of all
passed_all : (undecided concerned : ℕ → Bool) (fin i : ℕ) → concerned i ≡ false → passed undecided concerned fin i ≡ fin
passed_all undecided concerned fin i e = ap (λ b. cond (undecided i && b) (fin - 1) fin) e ∙ by_seat (undecided i)
  where
    by_seat : (b : Bool) → cond (b && false) (fin - 1) fin ≡ fin
    by_seat true = refl
    by_seat false = refl

-- a listener at whose seat an interest was loaded is served as before; where it has no bit in common, of the last transaction too
loaded_served : (format : Format) (matters : Tx → Bool) (past before : List Tx) (last : Tx) (fin i m : ℕ) (undecided old new : ℕ → Bool) (b : Bool) → fin ≡ next_xid past → past ≡ before ++ last ∷ []
    → (new i ≡ b) ⊎ (new i ≡ old i) → (b ≡ false → matters last ≡ false)
    → IsServed format matters past m (passed undecided old fin i) (served undecided fin i) → IsServed format matters past m (passed undecided new fin i) (served undecided fin i)
loaded_served format matters past before last fin i m undecided old new b counted ends how apart near =
    ⊎_elim (λ there. by_bits b there apart)
    (λ same. subst (λ (n : ℕ). IsServed format matters past m n (served undecided fin i)) (sym (ap (λ a. cond (undecided i && a) (fin - 1) fin) same)) near)
    how
  where
    by_bits : (a : Bool) → new i ≡ a → (a ≡ false → matters last ≡ false) → IsServed format matters past m (passed undecided new fin i) (served undecided fin i)
    by_bits true e apart_too = served_shrinks format matters past m m (passed undecided old fin i) (served undecided fin i) (passed undecided new fin i) (served undecided fin i) (passed_less undecided old new fin i e) (omega arith) (omega arith) near
    by_bits false e apart_too =
        let least = passed_least undecided old fin i in
        subst (λ (n : ℕ). IsServed format matters past m n (served undecided fin i)) (sym (passed_all undecided new fin i e)) (record {
          nothing_due = nothing_more matters past before last m fin counted ends (apart_too refl)
              (none-within matters past (m - 3) (passed undecided old fin i - 3) (m - 3) (fin - 1 - 3) (omega arith) (omega (arith, least)) near.nothing_due);
          few_pages = near.few_pages;
        })

-- it is heeded as before
loaded_heeded : (format : Format) (matters : Tx → Bool) (past before : List Tx) (last : Tx) (fin i wake mark : ℕ) (walks : Bool) (ends : ℕ) (owes : Bool) (undecided old new : ℕ → Bool) (b : Bool) → fin ≡ next_xid past → past ≡ before ++ last ∷ []
    → (new i ≡ b) ⊎ (new i ≡ old i) → (b ≡ false → matters last ≡ false)
    → IsHeeded format matters past (passed undecided old fin i) (served undecided fin i) wake mark walks ends owes → IsHeeded format matters past (passed undecided new fin i) (served undecided fin i) wake mark walks ends owes
loaded_heeded format matters past before last fin i wake mark walks ends owes undecided old new b counted split how apart h = record {
  still = ⊎_elim (λ set_now. inl set_now) (λ r. ⊎_elim (λ o. inr (inl o)) (λ near. inr (inr (loaded_served format matters past before last fin i mark undecided old new b counted split how apart near))) r) h.still;
  walked = λ walk. ⊎_elim (λ set_now. inl set_now) (λ near. inr (loaded_served format matters past before last fin i ends undecided old new b counted split how apart near)) (h.walked walk);
}

-- The holder has loaded an interest: the list of those whom its transaction may concern changes at that seat, and every listener is heeded.
loads_interest : (z : Shape) (c : Content) (g : World) (views : List View) (id : ℕ) (v : View) (seat : ℕ) → Law z c g views → get_elem? views id ≡ some v → v.phase ≡ Signalling
    → Law z c (record g { concerned = λ i. get_or (interest_loaded seat (get_or c.interests seat 0) v).concerned i false }) (set views id (interest_loaded seat (get_or c.interests seat 0) v))
loads_interest z c g views id v seat h here signals =
    let n : ℕ = get_or c.interests seat 0 in
    let b : Bool = meets n (interest (channels_of v.pen.ending.notes)) in
    let bs : List Bool = set v.concerned seat b in
    let w : View = record v { concerned = bs } in
    let now : ℕ → Bool = λ i. get_or bs i false in
    let held : holds_lock v.phase ≡ true = ap holds_lock signals in
    let was : IsSignalling g.past g.shown v.known.seen v.known.db v.pen = phase_holds Signalling z c.stop g.past g.shown c.cells id v signals (h.holding.holds id v here) in
    let gone : (j : ℕ) (u : View) → j ≢ id → get_elem? views j ≡ some u → holds_lock u.phase ≡ true → ⊥ = alone c.lock g.holder views id v h.locking here held in
    let deems : (i : ℕ) → g.concerned i ≡ get_or v.concerned i false = subst (λ (q : Phase). Deems q g.concerned v.concerned) signals (h.interests.deems id v here) in
    let how : (i : ℕ) → i ≡ seat → (now i ≡ b) ⊎ (now i ≡ g.concerned i) = λ i same.
    ⊎_elim (λ there. inl (ap now same ∙ there)) (λ kept. inr (ap now same ∙ kept ∙ sym (deems seat) ∙ sym (ap g.concerned same))) (written_there v.concerned seat b) in
    let heeds : (j : ℕ) (u : View) → get_elem? views j ≡ some u → Heeds z.format g.past c.fin g.undecided g.concerned c.wakes j u → Heeds z.format g.past c.fin g.undecided now c.wakes j u = λ j u their x registered i number.
    let old : IsHeeded z.format (is_due_to u.known.db u.known.set) g.past (passed g.undecided g.concerned c.fin i) (served g.undecided c.fin i) (get_or c.wakes i 0) u.post.mark (is_walking u.walk.stage) u.walk.upto u.known.owes = x registered i number in
    by_seat z.format (is_due_to u.known.db u.known.set) g.past was.before v.pen.ending c.fin i seat (get_or c.wakes i 0) u.post.mark (is_walking u.walk.stage) u.walk.upto u.known.owes g.undecided g.concerned now b h.history.counted was.last
    (how i)
    (λ other. get_or-set_other v.concerned seat i b false other ∙ sym (deems i))
    (λ same apart.
    let covers : Covers n u.known.set = subst (λ (k : ℕ). Covers (get_or c.interests k 0) u.known.set) same (h.interests.covered j u their registered i number) in
    not_due_unheard u.known.db u.known.set v.pen.ending (nothing-in_common n u.known.set v.pen.ending.notes covers apart))
    old (ℕ_discrete i seat) in record {
      laid = h.laid;
      seats = seats_keep views id v w here z g.made g.seat h.seats refl refl refl refl;
      locking = locking_keep views id v w here c.lock g.holder h.locking refl refl;
      stored = h.stored;
      history = history_keep views id v w here z c.lock c.fin g.made g.past g.shown h.history refl refl refl refl;
      numbers = numbers_keep views id v w here c.lock c.fin c.xid h.numbers refl refl;
      holding = record {
        holds = each_keep (Holds z c.stop g.past g.shown c.cells) views id v w here h.holding.holds (λ x. x);
        stops = each_keep (KnowsStop c.stop) views id v w here h.holding.stops (λ x. x);
      };
      statuses = statuses_keep views id v w here c.lock g.past c.statuses h.statuses refl refl;
      budget = budget_keep views id v w here z g.made g.past h.budget (omega arith);
      posts = posts_keep views id v w here z.format g.past c.fin c.stop g.made c.tail c.pos h.posts refl refl refl;
      walks = walks_keep views id v w here z.format (room_of z) c.head c.cells h.walks refl refl (omega arith);
      looks = looks_keep views id v w here z.format g.past c.fin c.stop g.looked g.target c.tail h.looks refl refl refl refl;
      wakes = record {
        small = h.wakes.small;
        heeds = each_turn (Heeds z.format g.past c.fin g.undecided g.concerned c.wakes) (Heeds z.format g.past c.fin g.undecided now c.wakes) views id w h.wakes.heeds (heeds id v here (h.wakes.heeds id v here)) (λ j u other there x. heeds j u there x);
        signals = each_keep (Signals g.undecided) views id v w here h.wakes.signals (λ x. x);
        calm = h.wakes.calm;
        heard = each_keep (λ _ u. IsHeard c.fin g.undecided u.known.signalled) views id v w here h.wakes.heard (λ x. x);
        ended = each_keep (λ _ u. u.ended ≡ ended_in u.phase c.fin) views id v w here h.wakes.ended (λ x. x);
      };
      interests = record {
        covered = each_keep (Covered c.interests) views id v w here h.interests.covered (λ x. x);
        deems = each_turn (λ _ u. Deems u.phase g.concerned u.concerned) (λ _ u. Deems u.phase now u.concerned) views id w h.interests.deems
            (subst (λ (q : Phase). Deems q now bs) (sym signals) (λ i. refl))
            (λ j u other there p. subst (λ (q : Phase). Deems q now u.concerned) (sym (free_holds u.phase (gone j u other there))) tt);
      };
      flags = flags_keep views id v w here c.fin c.flags h.flags refl (h.flags.told id v here) refl refl;
      named = named_keep views id v w here h.named refl refl refl refl refl;
      taken = taken_keep views id v w here z g.made c.fin g.seat g.past h.taken refl refl;
    }
  where
    by_seat : (format : Format) (matters : Tx → Bool) (past before : List Tx) (last : Tx) (fin i seat wake mark : ℕ) (walks : Bool) (ends : ℕ) (owes : Bool) (undecided old new : ℕ → Bool) (b : Bool) → fin ≡ next_xid past → past ≡ before ++ last ∷ []
        → (i ≡ seat → (new i ≡ b) ⊎ (new i ≡ old i)) → (i ≢ seat → new i ≡ old i) → (i ≡ seat → b ≡ false → matters last ≡ false)
        → IsHeeded format matters past (passed undecided old fin i) (served undecided fin i) wake mark walks ends owes → Dec (i ≡ seat) → IsHeeded format matters past (passed undecided new fin i) (served undecided fin i) wake mark walks ends owes
    by_seat format matters past before last fin i seat wake mark walks ends owes undecided old new b counted split how kept apart h (yes e) =
        loaded_heeded format matters past before last fin i wake mark walks ends owes undecided old new b counted split (how e) (apart e) h
    by_seat format matters past before last fin i seat wake mark walks ends owes undecided old new b counted split how kept apart h (no ne) =
        subst (λ (n : ℕ). IsHeeded format matters past n (served undecided fin i) wake mark walks ends owes) (sym (ap (λ a. cond (undecided i && a) (fin - 1) fin) (kept ne))) h

-- who signals may load the interest of a seat
pub load_interest_allowed : (z : Shape) (slots id word seat : ℕ) (me : Me ℕ View) → word ≡ interests_at z + seat → seat < seats_of z → me.0.phase ≡ Signalling
    → Allows (Lawful z) slots id me word (λ n. n) (TellsInterest (step slots word 0 0 none) me)
load_interest_allowed z slots id word seat me there room signals =
    allowed z slots id word me (λ n. n) (TellsInterest (step slots word 0 0 none) me) (λ shape c g views h here.
    let v = me.0 in
    let setup : v.setup ≡ z = held_setup z c g views id v h here (ap holds_lock signals) in
    let within : seat < length c.interests = let long = h.laid.interests_long in omega (arith, room, long) in
    let n : ℕ = get_or c.interests seat 0 in
    let found : get_or (row c) word 0 ≡ n = ap (λ k. get_or (row c) k 0) there ∙ get_interest_word z c seat h.laid within in record {
      w = interest_loaded seat n v;
      content = c;
      world = record g { concerned = λ i. get_or (interest_loaded seat n v).concerned i false };
      moves = Rattle.std.proofs.lemmas.List.set-get_or (row c) word 0;
      law = loads_interest z c g views id v seat h here signals;
      told = subst (λ (k : ℕ). TellsInterest (step slots word 0 0 none) me k (interest_loaded seat n v, me.1)) (sym found) (record {
        slots = refl;
        view = λ other is. let same : seat ≡ other = let e : interests_at v.setup ≡ interests_at z = ap interests_at setup in omega (arith, there, is, e) in ap (λ s. interest_loaded s n v) same;
        same = record { setup = refl; session = refl; db = refl; mark = refl; told = refl; left = refl; owes = refl; ended = refl; base = refl; at = refl };
      });
    })
