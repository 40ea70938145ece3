-- The two looks of an advance, from seat to seat.
use Rattle.std.proofs.Common.{◌≡◌, ℕ, zero, suc, ◌+◌, ◌^◌, ◌<◌, ◌≤◌, ◌==◌, min, Bool, true, false, cond, List, [], ◌∷◌, ◌++◌, length, take, set, slice_get, Option, Some, None, IfSome, inl, inr, All, Contains, sym, refl, ap, ◌∙◌, subst, arith}
use Rattle.std.proofs.lemmas.List.{append-nil, append_assoc, length-append}
use Rattle.std.proofs.lemmas.List.Elements.{All-nil, All-cons, All-append, All-weaker, Contains-append_left, Contains-append_right, Contains-push}
use Rattle.std.proofs.lemmas.Bool.Decides.{nat_tests}
use Rattle.std.proofs.Math.Seq.{take-suc-set}
use Rattle.std.proofs.Math.Nat.{min-eq_left, min-le_left, min-le_right, min_comm}
use native.Mathlib.Decide.{ℕ_discrete}
use Rattle.pgn_lanes.specs.Least.{least_with}
use Rattle.pgn_lanes.proofs.LeastLaws.{least_with-append}
use Rattle.pgn_base.specs.declared.format.Format.{Format}
use Rattle.pgn_journal.specs.declared.tx.Tx.{Tx}
use Rattle.pgn_journal.specs.Journal.{next_xid}
use Rattle.pgn_journal.specs.Packing.{place, image}
use Rattle.pgn_journal.proofs.PackingLemmas.{last_place}
use Rattle.pgn_hub.specs.Calls.{met_from}
use Rattle.pgn_hub.specs.Passes.{no_advance}
use Rattle.pgn_words.specs.declared.pos_word.PosWord.{PosWord}
use Rattle.pgn_words.specs.declared.pos_word.PosWord.TheVariants as words
use Rattle.pgn_words.specs.declared.view.View.{View}
use Rattle.pgn_words.specs.Positions.{packed, marked, met_at, shown_as, listens_at, place_or, IsPositionIn}
use Rattle.pgn_words.specs.Looking.{look_begun, looked_first, first_looked, looked_second, second_looked, least_after, MayLookFirst, MayLookSecond, HasLookedFirst, HasLookedSecond}
use Rattle.pgn_wordhub.specs.Advancing.{advanced_view}
use Rattle.pgn_wordhub.specs.Floors.{IsFloorOf}
use Rattle.pgn_wordhub.specs.Looks.{HasCome, begun_at, HasSeenFirst, HasSeenSecond}

-- what a look has met, with one more seat
met_more : (n : ℕ) (look : List (Option ℕ)) (o : Option ℕ) → met_from n (look ++ o ∷ []) ≡ met_from n look ++ met_from (n + length look) (o ∷ [])
met_more n [] o = ap (λ k. met_from k (o ∷ [])) (omega arith)
met_more n (None ∷ look) o = met_more (n + 1) look o ∙ ap (λ k. met_from (n + 1) look ++ met_from k (o ∷ [])) (omega arith)
met_more n (Some mark ∷ look) o = ap (λ l. (n, mark) ∷ l) (met_more (n + 1) look o ∙ ap (λ k. met_from (n + 1) look ++ met_from k (o ∷ [])) (omega arith))

met_one : (seat : ℕ) (found : PosWord) → met_from (seat + 1) (marked found ∷ []) ≡ met_at seat found
met_one seat words.Out = refl
met_one seat words.Joining = refl
met_one seat (words.At mark at) = refl

pub met_next : (seat : ℕ) (look : List (Option ℕ)) (found : PosWord) → length look ≡ seat → met_from 1 (look ++ marked found ∷ []) ≡ met_from 1 look ++ met_at seat found
met_next seat look found long =
    met_more 1 look (marked found) ∙ ap (λ k. met_from 1 look ++ met_from k (marked found ∷ [])) (omega (arith, long)) ∙ ap (λ l. met_from 1 look ++ l) (met_one seat found)

-- what a seat shows of the pass itself
own_at : (session seat : ℕ) (mark : Option ℕ) (found : PosWord) → (seat + 1 ≡ session → marked found ≡ mark) → All (λ pair. pair.0 ≡ session → mark ≡ Some pair.1) (met_at seat found)
own_at session seat mark words.Out mine = All-nil (λ pair. pair.0 ≡ session → mark ≡ Some pair.1)
own_at session seat mark words.Joining mine = All-nil (λ pair. pair.0 ≡ session → mark ≡ Some pair.1)
own_at session seat mark (words.At m at) mine = All-cons (λ pair. pair.0 ≡ session → mark ≡ Some pair.1) (seat + 1, m) [] (λ is. sym (mine is)) (All-nil (λ pair. pair.0 ≡ session → mark ≡ Some pair.1))

met_own : (session seat : ℕ) (mark : Option ℕ) (found : PosWord) → seat + 1 ≡ session → marked found ≡ mark → IfSome mark (λ own. Contains (met_at seat found) (session, own))
met_own session seat mark words.Out is own = subst (λ (o : Option ℕ). IfSome o (λ own. Contains (met_at seat words.Out) (session, own))) own tt
met_own session seat mark words.Joining is own = subst (λ (o : Option ℕ). IfSome o (λ own. Contains (met_at seat words.Joining) (session, own))) own tt
met_own session seat mark (words.At m at) is own = subst (λ (o : Option ℕ). IfSome o (λ own. Contains (met_at seat (words.At m at)) (session, own))) own
    (subst (λ (s : ℕ). Contains {X = ℕ × ℕ} ((seat + 1, m) ∷ []) (s, m)) is (Contains-push [] (seat + 1, m)))

kept_in : (session : ℕ) (mark : Option ℕ) (met more : List (ℕ × ℕ)) → IfSome mark (λ own. Contains met (session, own)) → IfSome mark (λ own. Contains (met ++ more) (session, own))
kept_in session None met more has = tt
kept_in session (Some own) met more has = Contains-append_left met more (session, own) has

new_in : (session : ℕ) (mark : Option ℕ) (met more : List (ℕ × ℕ)) → IfSome mark (λ own. Contains more (session, own)) → IfSome mark (λ own. Contains (met ++ more) (session, own))
new_in session None met more has = tt
new_in session (Some own) met more has = Contains-append_right met more (session, own) has

pub come_on : (session : ℕ) (mark : Option ℕ) (seat : ℕ) (look : List (Option ℕ)) (found : PosWord) → HasCome session mark seat look → (seat + 1 ≡ session → marked found ≡ mark)
    → HasCome session mark (seat + 1) (look ++ marked found ∷ [])
come_on session mark seat look found h mine =
    let next = met_next seat look found h.long in
    let long = h.long in record {
      long = length-append look (marked found ∷ []) ∙ omega (arith, long);
      own = subst (λ (l : List (ℕ × ℕ)). All (λ pair. pair.0 ≡ session → mark ≡ Some pair.1) l) (sym next)
          (All-append (λ pair. pair.0 ≡ session → mark ≡ Some pair.1) (met_from 1 look) (met_at seat found) h.own (own_at session seat mark found mine));
      own_met = λ le. subst (λ (l : List (ℕ × ℕ)). IfSome mark (λ own. Contains l (session, own))) (sym next) (which le (ℕ_discrete (seat + 1) session));
    }
  where
    which : session ≤ seat + 1 → Dec (seat + 1 ≡ session) → IfSome mark (λ own. Contains (met_from 1 look ++ met_at seat found) (session, own))
    which le (yes is) = new_in session mark (met_from 1 look) (met_at seat found) (met_own session seat mark found is (mine is))
    which le (no other) = kept_in session mark (met_from 1 look) (met_at seat found) (h.own_met (omega (arith, le, other)))

-- no seat is looked at yet
pub none_come : (session : ℕ) (mark : Option ℕ) → 0 < session → HasCome session mark 0 []
none_come session mark some = record {
  long = refl;
  own = All-nil (λ pair. pair.0 ≡ session → mark ≡ Some pair.1);
  own_met = λ le. absurd (omega (arith, some, le));
}

-- nobody is met yet: the floor is the next number
pub floor_begins : (format : Format) (seen : List Tx) → length (image format seen) < 2 ^ 32
    → IsFloorOf format seen [] (packed (next_xid seen) (length (image format seen))) (next_xid seen) (length (image format seen)) None
floor_begins format seen small = record {
  floor = record { below = omega arith; least = All-nil (λ pair. next_xid seen ≤ pair.1); held = refl };
  least_is = refl;
  at_is = sym (last_place format seen (next_xid seen) (omega arith));
  low = small;
}

-- the first look begins
pub first_begins : (v : View) → 0 < v.known.session → length (image v.setup.format v.known.seen) < 2 ^ 32
    → HasSeenFirst v (begun_at 0 v) 0 (next_xid v.known.seen) (length (image v.setup.format v.known.seen)) None
first_begins v some small = record {
  first = [];
  view = ap (λ l. record v { eye = (look_begun v).eye; known = record v.known { named = l; advance = no_advance } }) (sym (append-nil v.known.named));
  look = refl;
  looked = refl;
  come = none_come v.known.session v.known.mark some;
  floor = floor_begins v.setup.format v.known.seen small;
}

-- what does not change as the look begins
by_seat : (P : View → Type 0) (b : Bool) (w : View) → P (look_begun w) → P w → P (cond b (look_begun w) w)
by_seat P true w begun still = begun
by_seat P false w begun still = still

-- the first look may go to the next seat
pub may_look_first : (v w : View) (seat mark at : ℕ) (holder : Option ℕ) → HasSeenFirst v (begun_at seat w) seat mark at holder → MayLookFirst w seat
may_look_first v w seat mark at holder h = which (ℕ_discrete seat 0)
  where
    which : Dec (seat ≡ 0) → MayLookFirst w seat
    which (yes is) = inl is
    which (no other) =
        let later : seat == 0 ≡ false = grind (arith, nat_tests) in
        let same : begun_at seat w ≡ w = ap (λ b. cond b (look_begun w) w) later in
        inr (ap (λ (u : View). u.eye.look) (sym same) ∙ h.look, ap (λ (u : View). u.eye.looked) (sym same) ∙ h.looked)

-- of the pass it changes what an advance changes
pub first_keeps : (v w x : View) (seat : ℕ) (found : PosWord) → w ≡ advanced_view w v → x ≡ first_looked seat found w → x ≡ advanced_view x v
first_keeps v w x seat found h e = by_begun (seat == 0) e
  where
    by_begun : (b : Bool) → x ≡ looked_first seat found (cond b (look_begun w) w) → x ≡ advanced_view x v
    by_begun true is = subst (λ (q : View). q ≡ advanced_view q v) (sym (is ∙ ap (λ (q : View). looked_first seat found (look_begun q)) h)) refl
    by_begun false is = subst (λ (q : View). q ≡ advanced_view q v) (sym (is ∙ ap (looked_first seat found) h)) refl

-- what a session that is met makes of the floor
abbrev pub Meets : ℕ → PosWord → ℕ → ℕ → Option ℕ → ℕ → ℕ → Option ℕ → Type 0
Meets seat found mark at holder mark2 at2 holder2 = (format : Format) (seen : List Tx) (met : List (ℕ × ℕ)) (least : ℕ) → length (image format seen) < 2 ^ 32 → IsPositionIn format seen found
    → IsFloorOf format seen met least mark at holder → IsFloorOf format seen (met ++ met_at seat found) (least_after found least) mark2 at2 holder2

-- what a look learns of a position, for the pass as the look goes to the seat
abbrev pub Learns : ℕ → PosWord → View → Type 0
Learns seat found y = IsPositionIn y.setup.format y.known.seen found × (seat + 1 ≡ y.known.session → found ≡ shown_as y.post.listen y.post.mark y.post.at)

-- the look has then come over the next seat
pub first_goes_on : (v w x : View) (seat mark at mark2 at2 : ℕ) (holder holder2 : Option ℕ) (found : PosWord) → v.known.mark ≡ listens_at v.post → length (image v.setup.format v.known.seen) < 2 ^ 32
    → HasSeenFirst v (begun_at seat w) seat mark at holder → HasLookedFirst w seat found x → Meets seat found mark at holder mark2 at2 holder2 → HasSeenFirst v (begun_at (seat + 1) x) (seat + 1) mark2 at2 holder2
first_goes_on v w x seat mark at mark2 at2 holder holder2 found listens small h looked meets =
    let u = begun_at seat w in
    let U : View = record v { eye = u.eye; known = record v.known { named = v.known.named ++ met_from 1 h.first; advance = record no_advance { first = h.first } } } in
    let e : x ≡ looked_first seat found U = looked.view ∙ ap (looked_first seat found) h.view in
    let now : Learns seat found u = by_seat (Learns seat found) (seat == 0) w (looked.position.placed, looked.position.mine) (looked.position.placed, looked.position.mine) in
    let learns : Learns seat found v = subst (λ (y : View). Learns seat found y) h.view now in
    let mine : seat + 1 ≡ v.known.session → marked found ≡ v.known.mark = λ is. ap marked (learns.1 is) ∙ sym listens in
    let next = met_next seat h.first found h.come.long in
    let first = h.first ++ marked found ∷ [] in
    let later : seat + 1 == 0 ≡ false = grind (arith, nat_tests) in
    let same : begun_at (seat + 1) x ≡ x = ap (λ b. cond b (look_begun x) x) later in
    subst (λ (y : View). HasSeenFirst v y (seat + 1) mark2 at2 holder2) (sym same) (record {
      first = first;
      view = e ∙ ap (λ E. record v { eye = E; known = record v.known { named = v.known.named ++ met_from 1 h.first ++ met_at seat found; advance = record no_advance { first = first } } }) (sym (ap (λ (y : View). y.eye) e))
          ∙ ap (λ l. record v { eye = x.eye; known = record v.known { named = l; advance = record no_advance { first = first } } }) (append_assoc v.known.named (met_from 1 h.first) (met_at seat found) ∙ ap (λ l. v.known.named ++ l) (sym next));
      look = ap (λ (y : View). y.eye.look) e ∙ h.look;
      looked = ap (λ (y : View). y.eye.looked) e;
      come = come_on v.known.session v.known.mark seat h.first found h.come mine;
      floor = subst (λ (n : ℕ). IsFloorOf v.setup.format v.known.seen (met_from 1 first) n mark2 at2 holder2) (sym (ap (λ (y : View). y.eye.least) e))
          (subst (λ (l : List (ℕ × ℕ)). IsFloorOf v.setup.format v.known.seen l (least_after found u.eye.least) mark2 at2 holder2) (sym next)
          (meets v.setup.format v.known.seen (met_from 1 h.first) u.eye.least small learns.0 h.floor));
    })

-- the second look may go to the next seat
pub may_look_second : (v w : View) (seat mark at : ℕ) (holder : Option ℕ) → HasSeenSecond v w seat mark at holder → MayLookSecond w seat
may_look_second v w seat mark at holder h = record { second = h.look; next = h.looked; announced = λ is. h.announced (h.looked ∙ is) }

-- the second look is where it was, but for what it has last found of a session that joins
abbrev pub looking_on : Option ℕ → View → View
looking_on joins v = record v { eye = record v.eye { joins = joins } }

-- only what it has found of such a session has changed
abbrev pub IsLookingOn : View → View → Type 0
IsLookingOn v w = w ≡ looking_on w.eye.joins v

-- a seat whose session does not join counts as looked at
pub counts : (seat : ℕ) (found : PosWord) (w : View) → (found ≡ words.Joining → ⊥) → second_looked seat found w ≡ looked_second seat found w
counts seat words.Out w settled = refl
counts seat words.Joining w settled = absurd (settled refl)
counts seat (words.At mark at) w settled = refl

-- the target is no later than a place that is met
met_needed : (format : Format) (seen : List Tx) (seat target : ℕ) (found : PosWord) → IsPositionIn format seen found → All (λ pair. min (place_or target found) target ≤ place format seen pair.1) (met_at seat found)
met_needed format seen seat target words.Out placed = All-nil (λ (pair : ℕ × ℕ). min target target ≤ place format seen pair.1)
met_needed format seen seat target words.Joining placed = All-nil (λ (pair : ℕ × ℕ). min target target ≤ place format seen pair.1)
met_needed format seen seat target (words.At mark at) placed =
    All-cons (λ (pair : ℕ × ℕ). min at target ≤ place format seen pair.1) (seat + 1, mark) []
    (let is = placed.at_is in let low = min-le_left at target in omega (arith, is, low))
    (All-nil (λ (pair : ℕ × ℕ). min at target ≤ place format seen pair.1))

-- at the next seat the second look goes on, with the floor as it is once that seat is met
pub second_goes_on : (v w x : View) (seat mark at mark2 at2 : ℕ) (holder holder2 : Option ℕ) (found : PosWord) → v.known.mark ≡ listens_at v.post → length (image v.setup.format v.known.seen) < 2 ^ 32 → (found ≡ words.Joining → ⊥)
    → HasSeenSecond v w seat mark at holder → HasLookedSecond w seat found x → Meets seat found mark at holder mark2 at2 holder2 → HasSeenSecond v x (seat + 1) mark2 at2 holder2
second_goes_on v w x seat mark at mark2 at2 holder holder2 found listens small settled h looked meets =
    let first = v.known.advance.first in
    let U : View = record v { eye = w.eye; known = record v.known { named = v.known.named ++ met_from 1 h.second; advance = record v.known.advance { second = h.second } } } in
    let e : x ≡ looked_second seat found U = looked.view ∙ counts seat found w settled ∙ ap (looked_second seat found) h.view in
    let learns : Learns seat found v = subst (λ (y : View). Learns seat found y) h.view (looked.position.placed, looked.position.mine) in
    let mine : seat + 1 ≡ v.known.session → marked found ≡ v.known.mark = λ is. ap marked (learns.1 is) ∙ sym listens in
    let next = met_next seat h.second found h.come.long in
    let second = h.second ++ marked found ∷ [] in
    let target = min (place_or w.eye.target found) w.eye.target in
    let at_seat : x.eye.looked ≡ seat + 1 = ap (λ (y : View). y.eye.looked) e in record {
      second = second;
      view = e ∙ ap (λ E. record v { eye = E; known = record v.known { named = v.known.named ++ met_from 1 h.second ++ met_at seat found; advance = record v.known.advance { second = second } } }) (sym (ap (λ (y : View). y.eye) e))
          ∙ ap (λ l. record v { eye = x.eye; known = record v.known { named = l; advance = record v.known.advance { second = second } } }) (append_assoc v.known.named (met_from 1 h.second) (met_at seat found) ∙ ap (λ l. v.known.named ++ l) (sym next));
      look = ap (λ (y : View). y.eye.look) e ∙ h.look;
      looked = at_seat;
      come = come_on v.known.session v.known.mark seat h.second found h.come mine;
      floor = subst (λ (n : ℕ). IsFloorOf v.setup.format v.known.seen (met_from 1 first ++ met_from 1 second) n mark2 at2 holder2) (sym (ap (λ (y : View). y.eye.least) e))
          (subst (λ (l : List (ℕ × ℕ)). IsFloorOf v.setup.format v.known.seen l (least_after found w.eye.least) mark2 at2 holder2)
          (append_assoc (met_from 1 first) (met_from 1 h.second) (met_at seat found) ∙ ap (λ l. met_from 1 first ++ l) (sym next))
          (meets v.setup.format v.known.seen (met_from 1 first ++ met_from 1 h.second) w.eye.least small learns.0 h.floor));
      announced = λ none. absurd (omega (arith, none, at_seat));
      no_later = looked.floor;
      needed = subst (λ (n : ℕ). All (λ pair. n ≤ place v.setup.format v.known.seen pair.1) (met_from 1 second)) (sym (ap (λ (y : View). y.eye.target) e))
          (subst (λ (l : List (ℕ × ℕ)). All (λ pair. target ≤ place v.setup.format v.known.seen pair.1) l) (sym next)
          (All-append (λ (pair : ℕ × ℕ). target ≤ place v.setup.format v.known.seen pair.1) (met_from 1 h.second) (met_at seat found)
          (All-weaker (λ (pair : ℕ × ℕ). w.eye.target ≤ place v.setup.format v.known.seen pair.1) (λ (pair : ℕ × ℕ). target ≤ place v.setup.format v.known.seen pair.1)
          (λ pair p. let low = min-le_right (place_or w.eye.target found) w.eye.target in omega (arith, p, low)) (met_from 1 h.second) h.needed)
          (met_needed v.setup.format v.known.seen seat w.eye.target found learns.0)));
    }

-- the first place that is needed is the least of the tail's and of those that are kept for the seats
least_within : (tail : ℕ) (places : List ℕ) → least_with tail places ≤ tail
least_within tail [] = omega arith
least_within tail (p ∷ places) = let more = least_within (min tail p) places in let less = min-le_left tail p in omega (arith, more, less)

lesser_left : (a b : ℕ) → a ≤ b → min a b ≡ a
lesser_left a b le = min-eq_left le

pub target_goes_on : (w x : View) (seat tail : ℕ) (places : List ℕ) (found : PosWord) → (found ≡ words.Joining → ⊥) → HasLookedSecond w seat found x → w.eye.target ≡ least_with tail places
    → x.eye.target ≡ least_with tail (places ++ place_or tail found ∷ [])
target_goes_on w x seat tail places found settled looked is =
    ap (λ (y : View). y.eye.target) (looked.view ∙ counts seat found w settled) ∙ by_place found
    ∙ ap (λ n. min n (place_or tail found)) is ∙ sym (least_with-append tail places (place_or tail found ∷ []))
  where
    within : w.eye.target ≤ tail
    within = let le = least_within tail places in omega (arith, is, le)

    by_place : (found : PosWord) → min (place_or w.eye.target found) w.eye.target ≡ min w.eye.target (place_or tail found)
    by_place words.Out = lesser_left w.eye.target w.eye.target (omega arith) ∙ sym (lesser_left w.eye.target tail within)
    by_place words.Joining = lesser_left w.eye.target w.eye.target (omega arith) ∙ sym (lesser_left w.eye.target tail within)
    by_place (words.At mark at) = min_comm at w.eye.target

-- the same, over the places as they are written
pub kept_goes_on : (w x : View) (seat tail kept : ℕ) (places : List ℕ) (found : PosWord) → (found ≡ words.Joining → ⊥) → HasLookedSecond w seat found x → kept ≡ place_or tail found → seat + 1 < length places
    → w.eye.target ≡ least_with tail (take (suc seat) places) → x.eye.target ≡ least_with tail (take (suc (seat + 1)) (set places (seat + 1) kept))
kept_goes_on w x seat tail kept places found settled looked is below target =
    let next : suc seat ≡ seat + 1 = omega arith in
    target_goes_on w x seat tail (take (suc seat) places) found settled looked target
    ∙ ap (λ p. least_with tail (take (suc seat) places ++ p ∷ [])) (sym is) ∙ ap (λ n. least_with tail (take n places ++ kept ∷ [])) next
    ∙ ap (least_with tail) (sym (take-suc-set places (seat + 1) kept below))

-- the first place stays as another one is written
pub first_stays : (places : List ℕ) (i k tail : ℕ) → 0 < i → slice_get places 0 ≡ Some tail → slice_get (set places i k) 0 ≡ Some tail
first_stays [] i k tail more is = is
first_stays (p ∷ places) zero k tail more is = absurd (omega (arith, more))
first_stays (p ∷ places) (suc i) k tail more is = is
