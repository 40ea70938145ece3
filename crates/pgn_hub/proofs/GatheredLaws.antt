-- Proof that who has read up to where every pass knows wakes to be set has read the whole journal.
use Rattle.std.proofs.Common.{◌≡◌, ℕ, zero, suc, ◌+◌, ◌-◌, ◌<◌, ◌≤◌, Bool, true, false, cond, ◌==◌, List, [], ◌∷◌, length, Option, Some, None, IfSome, IsSomeAnd, slice_get, slice_index_or, All, Contains, sym, ap, refl, subst, arith, eq-eqb}
use Rattle.std.proofs.lemmas.Option.{IfSome_then}
use Rattle.std.proofs.lemmas.List.Elements.{All-contains, Contains-append_right}
use Rattle.pgn_base.specs.declared.limits.TheConstants.{FIRST_XID}
use Rattle.pgn_journal.specs.declared.tx.Tx.{Tx}
use Rattle.pgn_hub.specs.declared.known.Known.{Known}
use Rattle.pgn_journal.specs.Journal.{xids_from, xids_of}
use Rattle.pgn_journal.proofs.BeginsLaws.{begins-shorter}
use Rattle.pgn_hub.specs.Passes.{IsWithin}
use Rattle.pgn_hub.specs.Gathered.{Gathered, IsBy}
use Rattle.pgn_hub.specs.Laws.{LastReads}

-- what stands in a list stands in it behind one more, or without it
in-more : (b : Bool) (y z : ℕ) (ys : List ℕ) → Contains ys z → Contains (cond b (y ∷ ys) ys) z
in-more true y z ys h = Contains-append_right (y ∷ []) ys z h
in-more false y z ys h = h

-- the number of a session's transaction is among the numbers of that session
number-among : (session x : ℕ) (txs : List Tx) (k : ℕ) (d : Tx) → k < length txs → (slice_index_or txs k d).session ≡ session → Contains (xids_from session x txs) (x + k)
number-among session x [] k d lt is = absurd (omega (arith, lt))
number-among session x (tx ∷ txs) zero d lt is =
    let rest = xids_from session (x + 1) txs in
    subst (λ (b : Bool). Contains (cond b (x ∷ rest) rest) (x + 0)) (sym (eq-eqb tx.session session is)) (0, omega arith, omega arith)
number-among session x (tx ∷ txs) (suc k) d lt is =
    let rest = xids_from session (x + 1) txs in
    let there : Contains rest (x + suc k) = subst (λ (n : ℕ). Contains rest n) (omega arith) (number-among session (x + 1) txs k d (omega (arith, lt)) is) in
    in-more (tx.session == session) x (x + suc k) rest there

-- what is said of an element that is there
some-at : (passes : List Known) (k : ℕ) (P : Known → Type 0) (d : Known) → IsSomeAnd (slice_get passes k) P → (k < length passes) × P (slice_index_or passes k d)
some-at [] k P d h = absurd h
some-at (pass ∷ passes) zero P d h = (omega arith, h)
some-at (pass ∷ passes) (suc k) P d h = let rest = some-at passes k P d h in (omega (arith, rest.0), rest.1)

-- some pass knows the wakes of the last transaction to be set
last-told : (passes : List Known) (count n : ℕ) (d : Known) (mark : ℕ) (first : Tx) (g : Gathered passes count) → All IsWithin passes → length g.journal ≡ suc n
    → All (λ other. other.signalled ≤ mark) passes → FIRST_XID + suc n ≤ mark
last-told passes count n d mark first g within is reads =
    let tx : Tx = slice_index_or g.journal n first in
    let by = some-at passes (tx.session - 1) (λ k. IsBy k tx) d (g.by_pass n first (omega (arith, is))) in
    let k : Known = slice_index_or passes (tx.session - 1) d in
    let among : Contains (xids_of k.session g.journal) (FIRST_XID + n) = number-among k.session FIRST_XID g.journal n first (omega (arith, is)) by.1.session in
    let own : Contains k.own (FIRST_XID + n) = subst (λ (xs : List ℕ). Contains xs (FIRST_XID + n)) (sym (g.own (tx.session - 1) d by.0)) among in
    let told : FIRST_XID + n < k.signalled = All-contains (λ x. x < k.signalled) k.own (FIRST_XID + n) (within (tx.session - 1) d by.0).own own in
    omega (arith, told, reads (tx.session - 1) d by.0)

-- a listener that has read up to where every pass knows wakes to be set stands at the journal's end or past it
at-end : (passes : List Known) (count : ℕ) (k : ℕ) (d : Known) (mark : ℕ) (g : Gathered passes count) → All IsWithin passes → k < length passes
    → All (λ other. other.signalled ≤ mark) passes → (journal : List Tx) → g.journal ≡ journal → FIRST_XID + count ≤ mark
at-end passes count k d mark g within lt reads [] is =
    let none : length g.journal ≡ 0 = ap length is in
    omega (arith, none, g.counted, (within k d lt).first, reads k d lt)
at-end passes count k d mark g within lt reads (first ∷ rest) is =
    let some : length g.journal ≡ suc (length rest) = ap length is in
    omega (arith, some, g.counted, last-told passes count (length rest) d mark first g within some reads)

equal : (mark : Option ℕ) (n : ℕ) → IfSome mark (λ own. own ≤ n) → IfSome mark (λ own. n ≤ own) → IfSome mark (λ own. own ≡ n)
equal None n h k = tt
equal (Some own) n h k = omega (arith, h, k)

-- once all are gathered that have read up to the last wakes, each has read the whole journal
pub last-reads : LastReads
last-reads passes count g within reads k d lt =
    let pass : Known = slice_index_or passes k d in
    let shorter : length pass.seen ≤ length g.journal = begins-shorter pass.seen g.journal (g.seen k d lt) in
    let above : IfSome pass.mark (λ mark. FIRST_XID + count ≤ mark) =
    IfSome_then pass.mark (reads k d lt) (λ mark all. at-end passes count k d mark g within lt all g.journal refl) in
    equal pass.mark (FIRST_XID + count) (IfSome_then pass.mark (within k d lt).mark (λ mark below. omega (arith, below, shorter, g.counted))) above
