-- Lemmas on the entries of a journal.
use Rattle.std.proofs.Common.{ℕ, zero, suc, ◌<◌, List, [], ◌∷◌, ◌++◌, length, IsSomeAnd, slice_get, arith}
use Rattle.pgn_journal.specs.declared.tx.Tx.{Tx}

-- an entry stays where it is as the journal grows
pub entry-append : (journal more : List Tx) (k : ℕ) (P : Tx → Type 0) → IsSomeAnd (slice_get journal k) P → IsSomeAnd (slice_get (journal ++ more) k) P
entry-append [] more k P h = absurd h
entry-append (tx ∷ journal) more zero P h = h
entry-append (tx ∷ journal) more (suc k) P h = entry-append journal more k P h

-- what stands in a list is below its length
pub entry-within : (xs : List Tx) (k : ℕ) (P : Tx → Type 0) → IsSomeAnd (slice_get xs k) P → k < length xs
entry-within [] k P h = absurd h
entry-within (x ∷ xs) zero P h = omega arith
entry-within (x ∷ xs) (suc k) P h = omega (arith, entry-within xs k P h)
