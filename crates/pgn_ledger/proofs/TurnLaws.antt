-- Whose transaction each is, and which of that session's.
use Rattle.std.proofs.Common.{◌≡◌, ◌≢◌, ◌⊎◌, ℕ, zero, suc, ◌+◌, ◌<◌, ◌≤◌, ◌==◌, Bool, true, false, ◌&&◌, cond, List, [], ◌∷◌, ◌++◌, length, get_or, take, drop, Some, sym, ap, ◌∙◌, refl, subst, inl, inr, arith, append_assoc, replicate, slice_set, slice_index}
use Rattle.std.specs.Prelude.{slice_get}
use Rattle.std.proofs.lemmas.Bool.{cases_Bool, false≢true}
use Rattle.std.proofs.lemmas.Bool.Decides.{Decides-eqb}
use Rattle.std.proofs.lemmas.List.Sums.{count_by-le-length, count_by_more_no, count_by_more_yes, sum_by-cons}
use Rattle.std.proofs.lemmas.List.{append-nil, at_drop_more, drop_all, get_or-replicate, get_or-set_other, get_or-set_same, length-replicate, length-set, length-take, take_more}
use Rattle.pgn_base.specs.declared.limits.TheConstants.{FIRST_XID, SECTIONS_MAX}
use Rattle.pgn_journal.specs.declared.tx.Tx.{Tx}
use Rattle.pgn_journal.specs.Journal.{xids_from, xids_of}
use Rattle.pgn_ledger.specs.Turns.{AreTurns, ranks_from, turns}

turns-cons : (s : ℕ) (tx : Tx) (txs : List Tx) → turns s (tx ∷ txs) ≡ cond (tx.session == s) 1 0 + turns s txs
turns-cons s tx txs = sum_by-cons (λ (t : Tx). cond (t.session == s) 1 0) tx txs

turns-yes : (s : ℕ) (tx : Tx) (txs : List Tx) → (tx.session == s) ≡ true → turns s (tx ∷ txs) ≡ suc (turns s txs)
turns-yes s tx txs h = turns-cons s tx txs ∙ ap (λ (b : Bool). cond b 1 0 + turns s txs) h ∙ omega arith

turns-no : (s : ℕ) (tx : Tx) (txs : List Tx) → (tx.session == s) ≡ false → turns s (tx ∷ txs) ≡ turns s txs
turns-no s tx txs h = turns-cons s tx txs ∙ ap (λ (b : Bool). cond b 1 0 + turns s txs) h ∙ omega arith

-- the numbers of a session with one transaction more
xids-yes : (s x : ℕ) (tx : Tx) (txs : List Tx) → (tx.session == s) ≡ true → xids_from s x (tx ∷ txs) ≡ x ∷ xids_from s (x + 1) txs
xids-yes s x tx txs h = ap (λ (b : Bool). cond b (x ∷ xids_from s (x + 1) txs) (xids_from s (x + 1) txs)) h

xids-no : (s x : ℕ) (tx : Tx) (txs : List Tx) → (tx.session == s) ≡ false → xids_from s x (tx ∷ txs) ≡ xids_from s (x + 1) txs
xids-no s x tx txs h = ap (λ (b : Bool). cond b (x ∷ xids_from s (x + 1) txs) (xids_from s (x + 1) txs)) h

-- as many as the session has
xids_long : (s x : ℕ) (txs : List Tx) → length (xids_from s x txs) ≡ turns s txs
xids_long s x [] = refl
xids_long s x (tx ∷ txs) = elim (cases_Bool (tx.session == s)) [
  | inl is ↦ ap length (xids-yes s x tx txs is) ∙ omega (arith, xids_long s (x + 1) txs, turns-yes s tx txs is)
  | inr off ↦ ap length (xids-no s x tx txs off) ∙ omega (arith, xids_long s (x + 1) txs, turns-no s tx txs off)
]

-- a transaction of the session stands where as many are before it
nth_from : (s x : ℕ) (txs : List Tx) (k n : ℕ) (d : Tx) → k < length txs → (get_or txs k d).session ≡ s → turns s (take k txs) ≡ n → slice_get (xids_from s x txs) n ≡ Some (x + k)
nth_from s x [] k n d lt own e = absurd (omega (arith, lt))
nth_from s x (tx ∷ txs) zero n d lt own e =
    ap (λ (xs : List ℕ). slice_get xs n) (xids-yes s x tx txs ((Decides-eqb tx.session s).1 own))
    ∙ ap (λ (m : ℕ). slice_get (x ∷ xids_from s (x + 1) txs) m) (sym e) ∙ ap (λ (m : ℕ). Some m) (omega arith)
nth_from s x (tx ∷ txs) (suc k) n d lt own e = elim (cases_Bool (tx.session == s)) [
  | inl is ↦
      let m : ℕ = turns s (take k txs) in
      let more : n ≡ suc m = sym e ∙ turns-yes s tx (take k txs) is in
      ap (λ (xs : List ℕ). slice_get xs n) (xids-yes s x tx txs is) ∙ ap (λ (i : ℕ). slice_get (x ∷ xids_from s (x + 1) txs) i) more
      ∙ nth_from s (x + 1) txs k m d (omega (arith, lt)) own refl ∙ ap (λ (i : ℕ). Some i) (omega arith)
  | inr off ↦
      ap (λ (xs : List ℕ). slice_get xs n) (xids-no s x tx txs off)
      ∙ nth_from s (x + 1) txs k n d (omega (arith, lt)) own (sym (turns-no s tx (take k txs) off) ∙ e) ∙ ap (λ (i : ℕ). Some i) (omega arith)
]

-- and none else does
record IsTurn (s x : ℕ) (txs : List Tx) (n y : ℕ) : Type 0 where
  place : ℕ
  number : y ≡ x + place
  within : place < length txs
  own : (d : Tx) → (get_or txs place d).session ≡ s
  turn : turns s (take place txs) ≡ n

same_some : (a b : ℕ) → Some a ≡ Some b → a ≡ b
same_some a b e = cc

turn_cons : (s x : ℕ) (tx : Tx) (txs : List Tx) (n y : ℕ) (b : Bool) → (tx.session == s) ≡ b → ((m : ℕ) → slice_get (xids_from s (x + 1) txs) m ≡ Some y → IsTurn s (x + 1) txs m y)
    → slice_get (cond b (x ∷ xids_from s (x + 1) txs) (xids_from s (x + 1) txs)) n ≡ Some y → IsTurn s x (tx ∷ txs) n y
turn_cons s x tx txs zero y true is on e = record {
  place = 0;
  number = omega (arith, same_some x y e);
  within = omega arith;
  own = λ d. (Decides-eqb tx.session s).0 is;
  turn = refl;
}
turn_cons s x tx txs (suc m) y true is on e =
    let h = on m e in
    record {
      place = suc h.place;
      number = omega (arith, h.number);
      within = omega (arith, h.within);
      own = λ d. h.own d;
      turn = turns-yes s tx (take h.place txs) is ∙ ap (λ (i : ℕ). suc i) h.turn;
    }
turn_cons s x tx txs n y false off on e =
    let h = on n e in
    record {
      place = suc h.place;
      number = omega (arith, h.number);
      within = omega (arith, h.within);
      own = λ d. h.own d;
      turn = turns-no s tx (take h.place txs) off ∙ h.turn;
    }

turn_of : (s x : ℕ) (txs : List Tx) (n y : ℕ) → slice_get (xids_from s x txs) n ≡ Some y → IsTurn s x txs n y
turn_of s x [] n y e = absurd (let no : ⊥ = cc in no)
turn_of s x (tx ∷ txs) n y e = turn_cons s x tx txs n y (tx.session == s) refl (λ m h. turn_of s (x + 1) txs m y h) e

-- how many stand before each
pub rank_at : (before txs : List Tx) (k d : ℕ) (t : Tx) → k < length txs → get_or (ranks_from before txs) k d ≡ turns (get_or txs k t).session (before ++ take k txs)
rank_at before [] k d t lt = absurd (omega (arith, lt))
rank_at before (tx ∷ txs) zero d t lt = ap (λ (ts : List Tx). turns tx.session ts) (sym (append-nil before))
rank_at before (tx ∷ txs) (suc k) d t lt =
    rank_at (before ++ tx ∷ []) txs k d t (omega (arith, lt)) ∙ ap (λ (ts : List Tx). turns (get_or txs k t).session ts) (append_assoc before (tx ∷ []) (take k txs))

-- each transaction has a rank
pub ranks_long : (before txs : List Tx) → length (ranks_from before txs) ≡ length txs
ranks_long before [] = refl
ranks_long before (tx ∷ txs) = omega (arith, ranks_long (before ++ tx ∷ []) txs)

-- What is asked.

both : (a b : Bool) → (a && b) ≡ true → (a ≡ true) × (b ≡ true)
both true true h = (refl, refl)
both true false h = absurd (let no : ⊥ = cc in no)
both false b h = absurd (let no : ⊥ = cc in no)

-- a transaction of the session whose rank is a count is that of its turns
pub next_is : (session : ℕ) (journal : List Tx) (count at x rank : ℕ) (tx : Tx) → FIRST_XID + at ≡ x → at < length journal → tx ≡ get_or journal at tx → rank ≡ get_or (ranks_from [] journal) at rank
    → ((tx.session == session) && (rank == count)) ≡ true → slice_get (xids_of session journal) count ≡ Some x
next_is session journal count at x rank tx e within is r h =
    let p = both (tx.session == session) (rank == count) h in
    let own : tx.session ≡ session = (Decides-eqb tx.session session).0 p.0 in
    let mine : (get_or journal at tx).session ≡ session = sym (ap (λ (t : Tx). t.session) is) ∙ own in
    let turn : turns session (take at journal) ≡ count =
    sym (rank_at [] journal at rank tx within ∙ ap (λ (s : ℕ). turns s (take at journal)) mine) ∙ sym r ∙ (Decides-eqb rank count).0 p.1 in
    nth_from session FIRST_XID journal at count tx within mine turn ∙ ap (λ (n : ℕ). Some n) e

-- the transaction of a session's turn is of the session, and its rank is the count before it
pub is_next : (session : ℕ) (journal : List Tx) (count at x rank : ℕ) (tx : Tx) → FIRST_XID + at ≡ x → tx ≡ get_or journal at tx → rank ≡ get_or (ranks_from [] journal) at rank
    → slice_get (xids_of session journal) count ≡ Some x → ((tx.session == session) && (rank == count)) ≡ true
is_next session journal count at x rank tx e is r h =
    let t = turn_of session FIRST_XID journal count x h in
    let same : t.place ≡ at = omega (arith, t.number) in
    let within : at < length journal = omega (arith, t.within) in
    let mine : (get_or journal at tx).session ≡ session = subst (λ (k : ℕ). (get_or journal k tx).session ≡ session) same (t.own tx) in
    let turn : turns session (take at journal) ≡ count = subst (λ (k : ℕ). turns session (take k journal) ≡ count) same t.turn in
    let own : tx.session ≡ session = ap (λ (u : Tx). u.session) is ∙ mine in
    let ranked : rank ≡ count = r ∙ rank_at [] journal at rank tx within ∙ ap (λ (s : ℕ). turns s (take at journal)) mine ∙ turn in
    and_true ((Decides-eqb tx.session session).1 own) ((Decides-eqb rank count).1 ranked)
  where
    and_true : {a b : Bool} → a ≡ true → b ≡ true → (a && b) ≡ true
    and_true {a} {b} p q = ap (λ (t : Bool). t && b) p ∙ q

-- the transaction of a turn is one of the journal
pub next_within : (session : ℕ) (journal : List Tx) (count at x : ℕ) → FIRST_XID + at ≡ x → slice_get (xids_of session journal) count ≡ Some x → at < length journal
next_within session journal count at x e h = let t = turn_of session FIRST_XID journal count x h in omega (arith, t.number, t.within)

-- a session has as many numbers as turns
pub count_is : (session : ℕ) (journal : List Tx) → length (xids_of session journal) ≡ turns session journal
count_is session journal = xids_long session FIRST_XID journal

-- One transaction more.

-- before the first there is none
pub turns_none : (counts : List ℕ) → counts ≡ replicate (SECTIONS_MAX + 1) 0 → AreTurns [] counts
turns_none counts zeros = record {
  counted = ap length zeros ∙ length-replicate {A = ℕ} (SECTIONS_MAX + 1) 0;
  each = λ session few. ap (λ (ns : List ℕ). slice_index ns session) zeros ∙ get_or-replicate (SECTIONS_MAX + 1) session 0 0 (omega (arith, few));
}

-- one transaction more counts as a turn of its session
pub turns_more : (txs : List Tx) (counts : List ℕ) (k s n : ℕ) (tx : Tx) → k < length txs → tx ≡ get_or txs k tx → s ≡ tx.session → s ≤ SECTIONS_MAX → n ≡ slice_index counts s → AreTurns (take k txs) counts
    → AreTurns (take (k + 1) txs) (slice_set counts s (n + 1))
turns_more txs counts k s n tx lt is mine within now h = record {
  counted = length-set counts s (n + 1) ∙ h.counted;
  each = λ session few. each session few (cases_Bool (session == s));
}
  where
    each : (session : ℕ) → session ≤ SECTIONS_MAX → ((session == s) ≡ true) ⊎ ((session == s) ≡ false) → slice_index (slice_set counts s (n + 1)) session ≡ turns session (take (k + 1) txs)
    each session few (inl same) =
        let e : session ≡ s = (Decides-eqb session s).0 same in
        let p : ((get_or txs k tx).session == session) ≡ true = (Decides-eqb (get_or txs k tx).session session).1 (sym (ap (λ (t : Tx). t.session) is) ∙ sym mine ∙ sym e) in
        let here : slice_index (slice_set counts s (n + 1)) session ≡ n + 1 =
        ap (λ (i : ℕ). slice_index (slice_set counts s (n + 1)) i) e ∙ get_or-set_same counts s (n + 1) 0 (omega (arith, h.counted, within)) in
        let was : n ≡ turns session (take k txs) = now ∙ ap (λ (i : ℕ). slice_index counts i) (sym e) ∙ h.each session few in
        here ∙ ap (λ (m : ℕ). m + 1) was ∙ sym (count_by_more_yes (λ (t : Tx). t.session == session) txs k tx lt p)
    each session few (inr other) =
        let apart : session ≢ s = λ e. false≢true (sym other ∙ (Decides-eqb session s).1 e) in
        let p : ((get_or txs k tx).session == session) ≡ false =
        never ((get_or txs k tx).session == session) (λ is_it. apart (sym ((Decides-eqb (get_or txs k tx).session session).0 is_it) ∙ sym (ap (λ (t : Tx). t.session) is) ∙ sym mine)) in
        get_or-set_other counts s session (n + 1) 0 apart ∙ h.each session few ∙ sym (count_by_more_no (λ (t : Tx). t.session == session) txs k tx lt p)
      where
        never : (b : Bool) → (b ≡ true → ⊥) → b ≡ false
        never true f = absurd (f refl)
        never false f = refl

-- with none left these are all the ranks
pub ranks_end : (ranks : List ℕ) (txs : List Tx) (k : ℕ) → length txs ≤ k → ranks ++ ranks_from (take k txs) (drop k txs) ≡ ranks_from [] txs → ranks ≡ ranks_from [] txs
ranks_end ranks txs k past h = sym (ap (λ (ts : List Tx). ranks ++ ranks_from (take k txs) ts) (drop_all k txs past) ∙ append-nil ranks) ∙ h

-- a session has no more turns than there are transactions
pub turn_low : (txs : List Tx) (counts : List ℕ) (k s n : ℕ) → s ≤ SECTIONS_MAX → n ≡ slice_index counts s → AreTurns (take k txs) counts → n ≤ k
turn_low txs counts k s n within now h = omega (arith, now, h.each s within, count_by-le-length (λ (t : Tx). t.session == s) (take k txs), length-take k txs)

-- the ranks of all transactions, with one more taken from those that are left
pub ranks_more : (ranks : List ℕ) (txs : List Tx) (k n : ℕ) (tx : Tx) (all : List ℕ) → k < length txs → tx ≡ get_or txs k tx → n ≡ turns tx.session (take k txs) → ranks ++ ranks_from (take k txs) (drop k txs) ≡ all
    → (ranks ++ n ∷ []) ++ ranks_from (take (k + 1) txs) (drop (k + 1) txs) ≡ all
ranks_more ranks txs k n tx all lt is turn h =
    append_assoc ranks (n ∷ []) (ranks_from (take (k + 1) txs) (drop (k + 1) txs))
    ∙ ap (λ (m : ℕ). ranks ++ m ∷ ranks_from (take (k + 1) txs) (drop (k + 1) txs)) turn
    ∙ ap (λ (ts : List Tx). ranks ++ turns tx.session (take k txs) ∷ ranks_from ts (drop (k + 1) txs)) (take_more txs k tx lt)
    ∙ ap (λ (t : Tx). ranks ++ turns tx.session (take k txs) ∷ ranks_from (take k txs ++ t ∷ []) (drop (k + 1) txs)) (sym is)
    ∙ ap (λ (t : Tx). ranks ++ ranks_from (take k txs) (t ∷ drop (k + 1) txs)) is
    ∙ ap (λ (rs : List ℕ). ranks ++ rs) (sym (at_drop_more (λ (ts : List Tx). ranks_from (take k txs) ts) txs k tx lt)) ∙ h
