-- What is known when one pass has taken in all others.
use Rattle.std.specs.Prelude.{Any, Contains, flat_map, IsSomeAnd}
use Rattle.std.specs.List.{range_with_len}
use Rattle.std.proofs.Common.{◌≡◌, ◌⊎◌, ⊎_elim, ℕ, zero, suc, ◌+◌, ◌-◌, ◌^◌, ◌<◌, ◌≤◌, List, [], ◌∷◌, ◌++◌, length, map, get_or, Option, Some, slice_get, All, sym, refl, ap, ◌∙◌, subst, arith}
use Rattle.std.proofs.lemmas.List.Elements.{All-nil, All-cons, All-head, All-tail}
use Rattle.std.proofs.lemmas.Option.{none-some, same_Some}
use mathlib.Core.Option.{some, some-injective}
use lib.ListN.{get_elem?}
use Rattle.atomic_table.specs.Table.{Final, Seen}
use Rattle.pgn_hub.specs.Gathered.{IsBy, IsAmongMarks, Gathered}
use Rattle.pgn_journal.specs.declared.tx.Tx.{Tx}
use Rattle.pgn_hub.specs.declared.known.Known.{Known}
use Rattle.pgn_journal.specs.Begins.{Begins}
use Rattle.pgn_journal.specs.Journal.{next_xid, xids_of}
use Rattle.pgn_hub.specs.Shape.{Shape, notes_of_seats}
use Rattle.pgn_words.specs.declared.view.View.{View}
use Rattle.pgn_words.specs.declared.pass.WordPass.{WordPass}
use Rattle.pgn_words.specs.declared.pass.WordQueue.{WordQueue}
use Rattle.pgn_words.specs.Words.{Content, seats_of}
use Rattle.pgn_words.specs.Views.{seat_of}
use Rattle.pgn_words.specs.Closing.{settled}
use Rattle.pgn_words.specs.Passes.{IsPassOf, view_of, known_of}
use Rattle.pgn_words.specs.WakeRule.{raised_in, found_in, named_in, Raised, IsMarkedBy, Marked, IsTaken}
use Rattle.pgn_words.specs.Rule.{World, WasMade, Law, Lawful}
use Rattle.pgn_words.proofs.LockKept.{few_left}

-- what is so of each item of a list, by its place
all_at : {X : Type 0} (P : X → Type 0) (xs : List X) → ((i : ℕ) (x : X) → slice_get xs i ≡ Some x → P x) → All P xs
all_at P [] each = All-nil P
all_at P (x ∷ xs) each = All-cons P x xs (each zero x refl) (all_at P xs (λ i y there. each (suc i) y there))

at_all : {X : Type 0} (P : X → Type 0) (xs : List X) (i : ℕ) (x : X) → All P xs → slice_get xs i ≡ Some x → P x
at_all P [] i x all there = absurd (none-some x there)
at_all P (y ∷ xs) zero x all there = subst P (same_Some y x there) (All-head P y xs all)
at_all P (y ∷ xs) (suc i) x all there = at_all P xs i x (All-tail P y xs all) there

-- an item of a list stands at a place
place_of : {X : Type 0} (xs : List X) (x : X) → Contains xs x → (i : ℕ) × (slice_get xs i ≡ Some x)
place_of [] x (k, within, is) = absurd (omega (arith, within))
place_of (y ∷ xs) x (zero, within, is) = (zero, ap (λ z. Some z) is)
place_of (y ∷ xs) x (suc k, within, is) = let r = place_of xs x (k, omega (arith, within), is) in (suc r.0, r.1)

contains_at : {X : Type 0} (xs : List X) (i : ℕ) (x : X) → slice_get xs i ≡ Some x → Contains xs x
contains_at [] i x there = absurd (none-some x there)
contains_at (y ∷ xs) zero x there = (zero, omega arith, same_Some y x there)
contains_at (y ∷ xs) (suc i) x there = let r = contains_at xs i x there in (suc r.0, (let low = r.1 in omega (arith, low)), r.2)

-- the passes that one has taken in, and itself
abbrev family : View → List Known
family v = v.known ∷ v.joined

-- what is known of each of them
record IsFamily (z : Shape) (made fin : ℕ) (seat : ℕ → ℕ) (past : List Tx) (id : ℕ) (k : Known) : Type 0 where
  sits : seat k.session ≡ id
  positive : 0 < k.session
  was_made : k.session ≤ made
  db_is : k.db ≡ (seat_of z k.session).db
  sees : Begins k.seen past
  owns : k.own ≡ xids_of k.session past
  own_seen : All (λ x. x < next_xid k.seen) k.own
  told : k.told ≤ fin

all_family : (z : Shape) (c : Content) (g : World) (views : List View) (id : ℕ) (v : View) → Law z c g views → get_elem? views id ≡ some v → 0 < v.known.session → (i : ℕ) (k : Known) → slice_get (family v) i ≡ Some k
    → IsFamily z g.made c.fin g.seat g.past id k
all_family z c g views id v h here positive zero k there =
    let seat = h.seats.seated id v here positive in
    subst (λ (x : Known). IsFamily z g.made c.fin g.seat g.past id x) (same_Some v.known k there)
    (record { sits = seat.sits; positive = positive; was_made = seat.was_made; db_is = seat.db_is; sees = h.history.sees id v here; owns = h.history.owns id v here; own_seen = h.history.own_seen id v here; told = (h.flags.told id v here).finished })
all_family z c g views id v h here positive (suc i) k there =
    let t = at_all (IsTaken z g.made c.fin g.seat g.past id v.known.session) v.joined i k (h.taken id v here) there in
    record { sits = t.sits; positive = t.positive; was_made = t.was_made; db_is = t.db_is; sees = t.sees; owns = t.owns; own_seen = t.own_seen; told = t.told }

-- the same of passes of which each is settled
map_at : (ks : List Known) (i : ℕ) (k : Known) → slice_get ks i ≡ Some k → slice_get (map settled ks) i ≡ Some (settled k)
map_at [] i k there = absurd (none-some k there)
map_at (x ∷ ks) zero k there = ap (λ (y : Known). Some (settled y)) (same_Some x k there)
map_at (x ∷ ks) (suc i) k there = map_at ks i k there

map_from : (ks : List Known) (i : ℕ) (k : Known) → slice_get (map settled ks) i ≡ Some k → (x : Known) × (slice_get ks i ≡ Some x) × (k ≡ settled x)
map_from [] i k there = absurd (none-some k there)
map_from (x ∷ ks) zero k there = (x, refl, sym (same_Some (settled x) k there))
map_from (x ∷ ks) (suc i) k there = map_from ks i k there

flat_settled : (f : Known → List (ℕ × ℕ)) → ((k : Known) → f (settled k) ≡ f k) → (ks : List Known) → flat_map f (map settled ks) ≡ flat_map f ks
flat_settled f same [] = refl
flat_settled f same (k ∷ ks) = ap (λ l. l ++ flat_map f (map settled ks)) (same k) ∙ ap (λ l. f k ++ l) (flat_settled f same ks)

-- the sessions stand in order
session_at : (ks : List Known) (n a i : ℕ) (k : Known) → map (λ k. k.session) ks ≡ range_with_len a n → slice_get ks i ≡ Some k → (k.session ≡ a + i) × (i < n)
session_at [] n a i k order there = absurd (none-some k there)
session_at (x ∷ ks) zero a i k order there = absurd (cc)
session_at (x ∷ ks) (suc n) a zero k order there =
    let first : x.session ≡ a = cc in let same : x.session ≡ k.session = ap (λ (y : Known). y.session) (same_Some x k there) in (omega (arith, first, same), omega arith)
session_at (x ∷ ks) (suc n) a (suc i) k order there =
    let more : map (λ k. k.session) ks ≡ range_with_len (a + 1) n = cc in let r = session_at ks n (a + 1) i k more there in (let is = r.0 in omega (arith, is), let low = r.1 in omega (arith, low))

some_at : (ks : List Known) (n a i : ℕ) → map (λ k. k.session) ks ≡ range_with_len a n → i < n → (k : Known) × (slice_get ks i ≡ Some k)
some_at ks zero a i order within = absurd (omega (arith, within))
some_at [] (suc n) a i order within = absurd (cc)
some_at (x ∷ ks) (suc n) a zero order within = (x, refl)
some_at (x ∷ ks) (suc n) a (suc i) order within = let more : map (λ k. k.session) ks ≡ range_with_len (a + 1) n = cc in some_at ks n (a + 1) i more (omega (arith, within))

-- a pass of a session is the one that has taken in all
the_taker : (z : Shape) (c : Content) (g : World) (views : List View) (id : ℕ) (v : View) (ks : List Known) → Law z c g views → get_elem? views id ≡ some v → 0 < v.known.session → family v ≡ map settled ks
    → map (λ k. k.session) ks ≡ range_with_len 1 (seats_of z) → (j : ℕ) (x : View) → get_elem? views j ≡ some x → 0 < x.known.session → x ≡ v
the_taker z c g views id v ks h here positive all order j x there some_session =
    let seat = h.seats.seated j x there some_session in
    let made = seat.was_made in
    let few = h.seats.few in
    let i : ℕ = x.known.session - 1 in
    let r = some_at ks (seats_of z) 1 i order (omega (arith, some_session, made, few)) in
    let number = (session_at ks (seats_of z) 1 i r.0 order r.1).0 in
    let in_family : slice_get (family v) i ≡ Some (settled r.0) = ap (λ l. slice_get l i) all ∙ map_at ks i r.0 r.1 in
    let fam = all_family z c g views id v h here positive i (settled r.0) in_family in
    let same_session : x.known.session ≡ r.0.session = omega (arith, number, some_session) in
    let at : j ≡ id = sym seat.sits ∙ ap g.seat same_session ∙ fam.sits in
    some-injective x v (sym there ∙ ap (get_elem? views) at ∙ here)

-- each transaction is one of the pass of the session that sent it
sent_by : (z : Shape) (made : ℕ) (ks : List Known) (tx : Tx) → map (λ k. k.session) ks ≡ range_with_len 1 (seats_of z) → made ≤ seats_of z → WasMade z made tx → ((i : ℕ) (k : Known) → slice_get ks i ≡ Some k → k.db ≡ (seat_of z k.session).db)
    → IsSomeAnd (slice_get ks (tx.session - 1)) (λ k. IsBy k tx)
sent_by z made ks tx order few (some_session, low, of_db) dbs =
    let r = some_at ks (seats_of z) 1 (tx.session - 1) order (omega (arith, some_session, low, few)) in by_found r.0 r.1
  where
    by_found : (k : Known) → slice_get ks (tx.session - 1) ≡ Some k → IsSomeAnd (slice_get ks (tx.session - 1)) (λ k. IsBy k tx)
    by_found k there =
        let number = (session_at ks (seats_of z) 1 (tx.session - 1) k order there).0 in
        let same : tx.session ≡ k.session = omega (arith, number, some_session) in
        subst (λ (o : Option Known). IsSomeAnd o (λ k. IsBy k tx)) (sym there) (record { session = same; database = of_db ∙ ap (λ e. (seat_of z e).db) same ∙ sym (dbs (tx.session - 1) k there) })

-- a number that was raised by the one that has taken in all was raised by one of them
was_raised : (ks : List Known) (v x : View) (p : ℕ × ℕ) → family v ≡ map settled ks → x ≡ v → Contains (raised_in x) p → Contains (flat_map (λ k. k.raised) ks) p
was_raised ks v x p all same has =
    subst (λ (l : List (ℕ × ℕ)). Contains l p) (ap (flat_map (λ (k : Known). k.raised)) all ∙ flat_settled (λ (k : Known). k.raised) (λ k. refl) ks) (subst (λ (y : View). Contains (raised_in y) p) same has)

-- a mark of one of those that the one has taken in is among its pass's marks
is_among : (ks : List Known) (count i : ℕ) (k : Known) (p : ℕ × ℕ) → map (λ k. k.session) ks ≡ range_with_len 1 count → slice_get (map settled ks) i ≡ Some k → IsMarkedBy p k → IsAmongMarks ks p
is_among ks count i k p order there marked =
    let from = map_from ks i k there in
    let who : from.0.session ≡ p.0 = ap (λ (k : Known). k.session) (sym from.2) ∙ marked.0 in
    let number = (session_at ks count 1 i from.0 order from.1).0 in
    let index : p.0 - 1 ≡ i = omega (arith, who, number) in
    subst (λ (o : Option Known). IsSomeAnd o (λ k. (k.session ≡ p.0) × Contains k.marks p.1)) (sym (ap (slice_get ks) index ∙ from.1))
    (who, subst (λ (ms : List ℕ). Contains ms p.1) (ap (λ (k : Known). k.marks) from.2) marked.1)

any_at : (P : Known → Type 0) (xs : List Known) → Any P xs → (i : ℕ) × (k : Known) × (slice_get xs i ≡ Some k) × P k
any_at P [] (k, x, within, is, p) = absurd (omega (arith, within))
any_at P (y ∷ xs) (zero, x, within, is, p) = (zero, x, ap (λ e. Some e) is, p)
any_at P (y ∷ xs) (suc k, x, within, is, p) = let r = any_at P xs (k, x, omega (arith, within), is, p) in (suc r.0, r.1, r.2, r.3)

marked_in : (v : View) (p : ℕ × ℕ) → Rattle.pgn_words.specs.WakeRule.MarkedBy p v → (i : ℕ) × (k : Known) × (slice_get (family v) i ≡ Some k) × IsMarkedBy p k
marked_in v p m = ⊎_elim (λ mine. (zero, v.known, refl, mine)) (λ theirs. let r = any_at (IsMarkedBy p) v.joined theirs in (suc r.0, r.1, r.2, r.3)) m

was_marked : (ks : List Known) (count : ℕ) (v x : View) (p : ℕ × ℕ) → map (λ k. k.session) ks ≡ range_with_len 1 count → family v ≡ map settled ks → x ≡ v → Rattle.pgn_words.specs.WakeRule.MarkedBy p x → IsAmongMarks ks p
was_marked ks count v x p order all same marked =
    let mark = marked_in v p (subst (λ (y : View). Rattle.pgn_words.specs.WakeRule.MarkedBy p y) same marked) in is_among ks count mark.0 mark.1 p order (ap (λ l. slice_get l mark.0) (sym all) ∙ mark.2) mark.3

-- the passes that one has taken in fix a journal together
pub gathers : (z : Shape) (c : Content) (g : World) (views : List View) (id : ℕ) (v : View) (ks : List Known) (count : ℕ) → Law z c g views → get_elem? views id ≡ some v → 0 < v.known.session → family v ≡ map settled ks
    → map (λ k. k.session) ks ≡ range_with_len 1 (seats_of z) → c.fin ≡ 3 + count → Gathered ks count
gathers z c g views id v ks count h here positive all order fin =
    let counted = h.history.counted in
    let fam : (i : ℕ) (k : Known) → slice_get ks i ≡ Some k → IsFamily z g.made c.fin g.seat g.past id (settled k) = λ i k there.
    all_family z c g views id v h here positive i (settled k) (ap (λ l. slice_get l i) all ∙ map_at ks i k there) in
    let lists : (f : Known → List (ℕ × ℕ)) → ((k : Known) → f (settled k) ≡ f k) → flat_map f (family v) ≡ flat_map f ks = λ f same. ap (flat_map f) all ∙ flat_settled f same ks in record {
      journal = g.past;
      counted = omega (arith, counted, fin);
      seen = all_at (λ (k : Known). Begins k.seen g.past) ks (λ i k there. (fam i k there).sees);
      own = all_at (λ (k : Known). k.own ≡ xids_of k.session g.past) ks (λ i k there. (fam i k there).owns);
      own_seen = all_at (λ (k : Known). All (λ x. x < next_xid k.seen) k.own) ks (λ i k there. (fam i k there).own_seen);
      by_pass = all_at (λ (tx : Tx). IsSomeAnd (slice_get ks (tx.session - 1)) (λ k. IsBy k tx)) g.past (λ n tx there.
          sent_by z g.made ks tx order h.seats.few (at_all (WasMade z g.made) g.past n tx h.history.sessions there) (λ i k at. (fam i k at).db_is));
      finished = h.history.finished;
      told = all_at (λ (k : Known). k.told ≤ next_xid g.past) ks (λ i k there. let low = (fam i k there).told in omega (arith, low, counted));
      found = all_at (λ (p : ℕ × ℕ). Contains (flat_map (λ k. k.raised) ks) p) (flat_map (λ k. k.found) ks) (λ n p there.
          let has : Contains (found_in v) p = subst (λ (l : List (ℕ × ℕ)). Contains l p) (sym (lists (λ k. k.found) (λ k. refl))) (contains_at (flat_map (λ k. k.found) ks) n p there) in
          let place = place_of (found_in v) p has in
          let r = at_all (Raised views) (found_in v) place.0 p (h.flags.found id v here) place.1 in
          was_raised ks v r.1 p all (the_taker z c g views id v ks h here positive all order r.0 r.1 r.2 r.3) r.4);
      named = all_at (IsAmongMarks ks) (flat_map (λ k. k.named) ks) (λ n p there.
          let has : Contains (named_in v) p = subst (λ (l : List (ℕ × ℕ)). Contains l p) (sym (lists (λ k. k.named) (λ k. refl))) (contains_at (flat_map (λ k. k.named) ks) n p there) in
          let place = place_of (named_in v) p has in
          let r = at_all (Marked views) (named_in v) place.0 p (h.named.named id v here) place.1 in
          was_marked ks (seats_of z) v r.1 p order all (the_taker z c g views id v ks h here positive all order r.0 r.1 r.2 r.3) r.4);
    }

-- so many passes were taken in by the first, which was no listener any more, as they were not
pub record HasTakenIn (queue : WordQueue) (all yielded rest : List WordPass) (first : WordPass) : Type 0 where
  pub head : WordPass
  pub order : all ≡ head ∷ (yielded ++ rest)
  pub own : IsPassOf queue first
  pub known : known_of first ≡ settled (known_of head)
  pub joined : (view_of first).joined ≡ map (λ p. settled (known_of p)) yielded

-- all are taken in
pub family_is : (all yielded : List WordPass) (head : WordPass) (v : View) → all ≡ head ∷ yielded → v.known ≡ settled (known_of head) → v.joined ≡ map (λ p. settled (known_of p)) yielded → v.known ∷ v.joined ≡ map settled (map known_of all)
family_is all yielded head v order known joined =
    ap (λ k. k ∷ v.joined) known ∙ ap (λ l. settled (known_of head) ∷ l) (joined ∙ map_twice yielded) ∙ sym (ap (λ l. map settled (map known_of l)) order)
  where
    map_twice : (ps : List WordPass) → map (λ p. settled (known_of p)) ps ≡ map settled (map known_of ps)
    map_twice [] = refl
    map_twice (p ∷ ps) = ap (λ l. settled (known_of p) ∷ l) (map_twice ps)

-- the sessions of passes are those of what is known of them
pub sessions_are : (ps : List WordPass) → map (λ pass. (known_of pass).session) ps ≡ map (λ k. k.session) (map known_of ps)
sessions_are [] = refl
sessions_are (p ∷ ps) = ap (λ l. (known_of p).session ∷ l) (sessions_are ps)

-- the first of the passes, and the others
pub first_and_rest : (all : List WordPass) (x : WordPass) (n : ℕ) → map (λ pass. (known_of pass).session) all ≡ range_with_len 1 n → 1 ≤ n → x ≡ get_or all 0 x → all ≡ x ∷ Rattle.std.proofs.Common.drop 1 all
first_and_rest [] x zero order some_seats is = absurd (omega (arith, some_seats))
first_and_rest [] x (suc n) order some_seats is = absurd (cc)
first_and_rest (y ∷ ys) x n order some_seats is = ap (λ p. p ∷ ys) (sym is)

-- one more was taken in
pub joined_more : (v w u : View) (yielded : List WordPass) (pass : WordPass) → u ≡ Rattle.pgn_words.specs.Closing.taken_in v w → v.joined ≡ map (λ p. settled (known_of p)) yielded → w.joined ≡ [] → w.known ≡ settled (known_of pass)
    → u.joined ≡ map (λ p. settled (known_of p)) (yielded ++ pass ∷ [])
joined_more v w u yielded pass view had alone known =
    ap (λ (x : View). x.joined) view
    ∙ ap (λ l. l ++ w.joined ++ w.known ∷ []) had
    ∙ ap (λ l. map (λ p. settled (known_of p)) yielded ++ l ++ w.known ∷ []) alone
    ∙ ap (λ l. l ++ w.known ∷ []) (Rattle.std.proofs.lemmas.List.append-nil (map (λ p. settled (known_of p)) yielded))
    ∙ ap (λ k. map (λ p. settled (known_of p)) yielded ++ k ∷ []) known
    ∙ sym (map_push yielded)
  where
    map_push : (ps : List WordPass) → map (λ p. settled (known_of p)) (ps ++ pass ∷ []) ≡ map (λ p. settled (known_of p)) ps ++ settled (known_of pass) ∷ []
    map_push [] = refl
    map_push (p ∷ ps) = ap (λ l. settled (known_of p) ∷ l) (map_push ps)

-- the number in the words of a queue that is closed
last_fin : (z : Shape) (id : ℕ) (v : View) (ws xs : List ℕ) (fin : ℕ) (f : Final (Seen (Lawful z) id v) ws xs) → get_elem? ws 2 ≡ some fin → fin ≡ f.1.0.content.fin
last_fin z id v ws xs fin f there = some-injective fin f.1.0.content.fin (sym there ∙ ap (λ l. get_elem? l 2) (sym f.2 ∙ f.1.0.stands))

-- at the end the first unfinished number has 32 bits
pub closed_low : (z : Shape) (id : ℕ) (v : View) (ws xs : List ℕ) (fin : ℕ) → 0 < v.known.session → v.setup ≡ z → Final (Seen (Lawful z) id v) ws xs → get_elem? ws 2 ≡ some fin → fin < 2 ^ 32
closed_low z id v ws xs fin positive setup f there =
    let is = last_fin z id v ws xs fin f there in
    let l = f.1.0 in
    let counted = l.law.history.counted in
    let left = few_left z l.world.made l.world.past f.0.views id v l.law.budget f.1.1 l.law.history.finished setup in
    let all : notes_of_seats v.setup.seats ≤ 1048575 = let few = l.shape.few_notes in subst (λ (y : Shape). notes_of_seats y.seats ≤ 1048575) (sym setup) few in
    omega (arith, is, counted, left, all)

-- where one pass has taken in all others, they are gathered, and the journal has as many transactions as the word says
pub closes : (z : Shape) (id : ℕ) (v : View) (ws xs : List ℕ) (fin count : ℕ) (all yielded : List WordPass) (head : WordPass) → 0 < v.known.session → Final (Seen (Lawful z) id v) ws xs → get_elem? ws 2 ≡ some fin
    → all ≡ head ∷ yielded → v.known ≡ settled (known_of head) → v.joined ≡ map (λ p. settled (known_of p)) yielded → map (λ pass. (known_of pass).session) all ≡ range_with_len 1 (seats_of z) → count ≡ fin - 3
    → Gathered (map known_of all) count
closes z id v ws xs fin count all yielded head positive f there order known joined sessions counts =
    let is = last_fin z id v ws xs fin f there in
    let l = f.1.0 in
    let counted = l.law.history.counted in
    gathers z l.content l.world f.0.views id v (map known_of all) count l.law f.1.1 positive (family_is all yielded head v order known joined) (sym (sessions_are all) ∙ sessions) (omega (arith, is, counted, counts))

-- a list of no passes is empty
pub none_left : (l : List WordPass) → length l ≡ 0 → l ≡ []
none_left [] e = refl
none_left (x ∷ l) e = absurd (omega (arith, e))

-- what holds of each pass of a list holds of one within it
last_holds : (P : WordPass → Type 0) (front rest : List WordPass) (x : WordPass) → All P (front ++ x ∷ rest) → P x
last_holds P [] rest x all = All-head P x rest all
last_holds P (y ∷ front) rest x all = last_holds P front rest x (All-tail P y (front ++ x ∷ rest) all)

-- what holds of all of the passes holds of the one that is taken in next
pub yielded_holds : (P : WordPass → Type 0) (all : List WordPass) (head : WordPass) (front : List WordPass) (x : WordPass) (rest : List WordPass) → all ≡ head ∷ (front ++ x ∷ rest) → All P all → P x
yielded_holds P all head front x rest order holds =
    last_holds P front rest x (All-tail P head (front ++ x ∷ rest) (subst (λ (l : List WordPass). All P l) order holds))
