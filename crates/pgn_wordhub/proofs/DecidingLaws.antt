-- A writer that decides on the seats that a mask names, seat by seat and word by word, and that loads interests seat by seat.
use Rattle.std.proofs.Common.{◌≡◌, ◌≢◌, ℕ, zero, suc, ◌+◌, ◌==◌, ◌<◌, ◌≤◌, Bool, true, false, not, cond, List, [], ◌∷◌, length, replicate, set, get_or, inl, inr, refl, sym, ap, ◌∙◌, subst, arith}
use Rattle.std.proofs.lemmas.Bool.{cases_lt, cases_eq, ne_eqb}
use Rattle.std.proofs.lemmas.List.{length-set, get_or-set_same, get_or-set_other, get_or-replicate}
use Rattle.std.proofs.lemmas.List.Elements.{All-from_get_or}
use Rattle.std.specs.Int.RustNames.{bit_and}
use Rattle.pgn_base.specs.Interest.{interest}
use Rattle.pgn_journal.specs.Interest.{channels_of, meets}
use Rattle.pgn_hub.specs.Shape.{Shape}
use Rattle.pgn_words.specs.Interests.{interest_loaded}
use Rattle.pgn_journal.specs.Journal.{is_committed}
use Rattle.pgn_words.specs.declared.view.View.{View}
use Rattle.pgn_words.specs.declared.view.Verdict.{Verdict}
use Rattle.pgn_words.specs.declared.view.Verdict.TheVariants.{Decided}
use Rattle.pgn_words.specs.Views.{AreDecided, seat_of}
use Rattle.pgn_words.specs.Waking.{wake_set, is_concerned, concerned_db}
use Rattle.pgn_wordhub.specs.Wakes.{decided_as, deemed_as}

-- the seats from one on, up to another, are decided; of the others it is known what was known
pub record HasDecided (was now : List Verdict) (from to : ℕ) : Type 0 where
  pub long : length now ≡ length was
  pub decided : (i : ℕ) → from ≤ i → i < to → get_or now i Decided ≡ Decided
  pub before : (i : ℕ) → i < from → get_or now i Decided ≡ get_or was i Decided
  pub behind : (i : ℕ) → to ≤ i → get_or now i Decided ≡ get_or was i Decided

-- no seat is decided yet
pub decides_none : (vs : List Verdict) (from to : ℕ) → from ≡ to → HasDecided vs vs from to
decides_none vs from to same = record { long = refl; decided = λ i low high. absurd (omega (arith, low, high, same)); before = λ i below. refl; behind = λ i above. refl }

set_there : (vs : List Verdict) (seat : ℕ) → get_or (set vs seat Decided) seat Decided ≡ Decided
set_there [] seat = refl
set_there (v ∷ vs) zero = refl
set_there (v ∷ vs) (suc seat) = set_there vs seat

-- a wake that is set decides on its seat
pub decides_one : (vs : List Verdict) (seat : ℕ) → HasDecided vs (set vs seat Decided) seat (seat + 1)
decides_one vs seat = record {
  long = length-set vs seat Decided;
  decided = λ i low high. ap (λ (n : ℕ). get_or (set vs seat Decided) n Decided) (let same : i ≡ seat = omega (arith, low, high) in same) ∙ set_there vs seat;
  before = λ i below. get_or-set_other vs seat i Decided Decided (λ same. omega (arith, below, same));
  behind = λ i above. get_or-set_other vs seat i Decided Decided (λ same. omega (arith, above, same));
}

-- what is decided stays so as the next seats are decided
pub decides_on : (was mid now : List Verdict) (from at to : ℕ) → from ≤ at → at ≤ to → HasDecided was mid from at → HasDecided mid now at to → HasDecided was now from to
decides_on was mid now from at to first second h k = record {
  long = k.long ∙ h.long;
  decided = λ i low high. elim (cases_lt i at) [
    | inl below ↦ k.before i below ∙ h.decided i low below
    | inr above ↦ k.decided i above high
  ];
  before = λ i below. k.before i (omega (arith, below, first)) ∙ h.before i below;
  behind = λ i above. k.behind i above ∙ h.behind i (omega (arith, above, second));
}

-- once its wake is set, one seat more is decided
pub wake_decides : (v w x : View) (from seat : ℕ) → from ≤ seat → x ≡ wake_set seat w → w ≡ decided_as w.verdicts v → HasDecided v.verdicts w.verdicts from seat
    → (x ≡ decided_as x.verdicts v) × HasDecided v.verdicts x.verdicts from (seat + 1)
wake_decides v w x from seat low is view h =
    let verdicts : x.verdicts ≡ set w.verdicts seat Decided = ap (λ (u : View). u.verdicts) is in (
      is ∙ ap (wake_set seat) view ∙ ap (λ (vs : List Verdict). decided_as vs v) (sym verdicts),
      subst (λ (vs : List Verdict). HasDecided v.verdicts vs from (seat + 1)) (sym verdicts)
          (decides_on v.verdicts w.verdicts (set w.verdicts seat Decided) from seat (seat + 1) low (omega arith) h (decides_one w.verdicts seat)),
    )

-- all seats are decided
pub all_decided : (was now : List Verdict) (to : ℕ) → HasDecided was now 0 to → length was ≤ to → AreDecided now
all_decided was now to h past =
    let long = h.long in All-from_get_or (λ (verdict : Verdict). verdict ≡ Decided) now Decided (λ i below. h.decided i (omega arith) (omega (arith, below, long, past)))

-- which seats the loaded interests concern, of the seats before one; those from it on were not loaded
pub record HasLoaded (v : View) (owns : List ℕ) (seat : ℕ) : Type 0 where
  pub tested : (i : ℕ) → i < seat → get_or owns i 0 ≡ concerned_db v i
  pub left : (i : ℕ) → seat ≤ i → i < length owns → is_concerned v i ≡ true

-- none is loaded yet
pub none_loaded : (v : View) (owns : List ℕ) (n : ℕ) → v.concerned ≡ replicate n true → length owns ≡ n → HasLoaded v owns 0
none_loaded v owns n all long = record {
  tested = λ i below. absurd (omega (arith, below));
  left = λ i above short. ap (λ (bs : List Bool). get_or bs i false) all ∙ get_or-replicate n i true false (omega (arith, short, long));
}

-- by which database a listener is tested stays where it is known of it what was known
pub tested_still : (v w : View) (i : ℕ) → w ≡ deemed_as w.concerned v → is_concerned w i ≡ is_concerned v i → concerned_db w i ≡ concerned_db v i
tested_still v w i is same =
    ap (λ (u : View). concerned_db u i) is ∙ ap (λ b. cond (is_committed v.pen.ending.fate) (cond b (seat_of v.setup (i + 1)).db 0) v.known.db) same

-- one seat more is loaded
pub loads_on : (v w : View) (owns : List ℕ) (seat own : ℕ) → HasLoaded v owns seat → seat < length owns → w ≡ deemed_as w.concerned v → ((i : ℕ) → i ≢ seat → is_concerned w i ≡ is_concerned v i) → own ≡ concerned_db w seat
    → HasLoaded w (set owns seat own) (seat + 1)
loads_on v w owns seat own h within is others database = record {
  tested = λ i below. elim (cases_eq i seat) [
    | inl same ↦ ap (λ (n : ℕ). get_or (set owns seat own) n 0) same ∙ get_or-set_same owns seat own 0 within ∙ database ∙ ap (concerned_db w) (sym same)
    | inr other ↦ get_or-set_other owns seat i own 0 other ∙ h.tested i (omega (arith, below, other)) ∙ sym (tested_still v w i is (others i other))
  ];
  left = λ i above short. others i (λ same. omega (arith, above, same)) ∙ h.left i (omega (arith, above)) (let long = length-set owns seat own in omega (arith, short, long));
}

-- what the pass knows of a seat once it has loaded its interest
pub loaded_as : (v w : View) (seat n : ℕ) → w ≡ interest_loaded seat n v → w ≡ deemed_as w.concerned v
loaded_as v w seat n is = is ∙ ap (λ (bs : List Bool). deemed_as bs v) (sym (ap (λ (u : View). u.concerned) is))

set_got : (bs : List Bool) (seat : ℕ) (b : Bool) → get_or bs seat false ≡ true → get_or (set bs seat b) seat false ≡ b
set_got [] seat b may = absurd (cc)
set_got (x ∷ bs) zero b may = refl
set_got (x ∷ bs) (suc seat) b may = set_got bs seat b may

-- and by which database its listener is tested then
tested_as : (z : Shape) (v w : View) (seat n sent : ℕ) (b : Bool) → w ≡ interest_loaded seat n v → v.setup ≡ z → is_committed v.pen.ending.fate ≡ true → is_concerned v seat ≡ true → sent ≡ interest (channels_of v.pen.ending.notes)
    → meets n sent ≡ b → concerned_db w seat ≡ cond b (seat_of z (seat + 1)).db 0
tested_as z v w seat n sent b is setup committed may sent_is meeting =
    let W : View = interest_loaded seat n v in
    let own : ℕ = (seat_of v.setup (seat + 1)).db in
    ap (λ (u : View). concerned_db u seat) is ∙ ap (λ d. cond d (cond (is_concerned W seat) own 0) v.known.db) committed
    ∙ ap (λ d. cond d own 0) (set_got v.concerned seat (meets n (interest (channels_of v.pen.ending.notes))) may ∙ ap (meets n) (sym sent_is) ∙ meeting)
    ∙ ap (λ (y : Shape). cond b (seat_of y (seat + 1)).db 0) setup

-- by none where the interest has nothing in common with what was sent
pub tested_by_none : (z : Shape) (v w : View) (seat n sent : ℕ) → w ≡ interest_loaded seat n v → v.setup ≡ z → is_committed v.pen.ending.fate ≡ true → is_concerned v seat ≡ true → sent ≡ interest (channels_of v.pen.ending.notes)
    → bit_and n sent ≡ 0 → 0 ≡ concerned_db w seat
tested_by_none z v w seat n sent is setup committed may sent_is apart = sym (tested_as z v w seat n sent false is setup committed may sent_is (ap (λ m. not (m == 0)) apart))

-- and else by its own
pub tested_by_own : (z : Shape) (v w : View) (seat n sent own : ℕ) → w ≡ interest_loaded seat n v → v.setup ≡ z → is_committed v.pen.ending.fate ≡ true → is_concerned v seat ≡ true → sent ≡ interest (channels_of v.pen.ending.notes)
    → bit_and n sent ≢ 0 → own ≡ (seat_of z (seat + 1)).db → own ≡ concerned_db w seat
tested_by_own z v w seat n sent own is setup committed may sent_is common own_is =
    own_is ∙ sym (tested_as z v w seat n sent true is setup committed may sent_is (ap not (ne_eqb (bit_and n sent) 0 common)))
