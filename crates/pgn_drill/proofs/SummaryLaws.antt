-- The five lines of a drill, written piece by piece.
use Rattle.std.proofs.Common.{◌≡◌, ℕ, ◌+◌, ◌-◌, ◌<◌, ◌≤◌, Bool, true, false, cond, List, [], ◌∷◌, ◌++◌, Option, Some, None, Result, Ok, Err, length, not, get_or, drop, refl, sym, subst, ap, ◌∙◌, append_assoc, append-nil, arith, codes}
use Rattle.std.specs.Prelude.{IsErr, MatchOption, count_by, decimal, flat_map, unwrap_or}
use Rattle.std.specs.Borrow.{Bor}
use Rattle.std.specs.Io.KnownBytes.{Appends}
use Rattle.std.proofs.lemmas.List.{at_drop_more, drop_all}
use Rattle.std.proofs.lemmas.List.Sums.{sum_by-cons}
use Rattle.pgn_base.specs.Outside.{AppendsPrefix, Writes}
use Rattle.pgn_base.proofs.OutsideLaws.{Appends-then, AppendsPrefix-more, AppendsPrefix-then, Writes-then}
use Rattle.pgn_journal.specs.Journal.{is_committed}
use Rattle.pgn_journal.specs.declared.tx.Tx.{Tx}
use Rattle.pgn_model.specs.declared.trace.Trace.{Trace}
use Rattle.pgn_model.specs.Text.{brief, received_in}

-- the number that there is
pub received-is : (o : Option ℕ) (all : ℕ) → MatchOption o (18446744073709551616 ≤ all) (λ n. n ≡ all) → all < 18446744073709551616 → unwrap_or o 0 ≡ all
received-is None all h fits = absurd (omega (arith, h, fits))
received-is (Some n) all h fits = h

one-of-two : (b : Bool) → cond b 1 0 + cond (not b) 1 0 ≡ 1
one-of-two true = refl
one-of-two false = refl

-- those that pass a test and those that do not are all
others : (test : Tx → Bool) (xs : List Tx) → count_by test xs + count_by (λ x. not (test x)) xs ≡ length xs
others test [] = refl
others test (x ∷ xs) =
    let rest : count_by test xs + count_by (λ y. not (test y)) xs ≡ length xs = others test xs in
    omega (arith, sum_by-cons (λ y. cond (test y) 1 0) x xs, sum_by-cons (λ y. cond (not (test y)) 1 0) x xs, rest, one-of-two (test x))

-- the transactions that did not commit are the others
pub aborted-are : (journal : List Tx) (committed : ℕ) → committed ≡ count_by (λ tx. is_committed tx.fate) journal
    → (committed ≤ length journal) × (length journal - committed ≡ count_by (λ tx. not (is_committed tx.fate)) journal)
aborted-are journal committed is =
    let all : count_by (λ tx. is_committed tx.fate) journal + count_by (λ tx. not (is_committed tx.fate)) journal ≡ length journal = others (λ tx. is_committed tx.fate) journal in
    (omega (arith, all, is), omega (arith, all, is))

-- a text and the number behind it
abbrev pub Piece : Type 0
Piece = Bor (List ℕ) × ℕ

-- what pieces say
abbrev pub told : List Piece → List ℕ
told pieces = flat_map (λ piece. piece.0.now ++ decimal piece.1) pieces

module _ (pieces : List Piece) (i : ℕ) (d : Piece) (within : i < length pieces) where
  abbrev this : List ℕ
  this = (get_or pieces i d).0.now ++ decimal (get_or pieces i d).1

  -- what the pieces from one on say: it, and those behind it
  told-more : this ++ told (drop (i + 1) pieces) ≡ told (drop i pieces)
  told-more = sym (at_drop_more told pieces i d within)

  -- a piece was written, and then those behind it
  pub told-whole : (a b c : Option (List ℕ)) → Appends a b ((get_or pieces i d).0.now ++ decimal (get_or pieces i d).1) → Appends b c (told (drop (i + 1) pieces)) → Appends a c (told (drop i pieces))
  told-whole a b c h k = subst (λ (t : List ℕ). Appends a c t) told-more (Appends-then a b c this (told (drop (i + 1) pieces)) h k)

  -- or a part of those
  pub told-front : (a b c : Option (List ℕ)) → Appends a b ((get_or pieces i d).0.now ++ decimal (get_or pieces i d).1) → AppendsPrefix b c (told (drop (i + 1) pieces)) → AppendsPrefix a c (told (drop i pieces))
  told-front a b c h k = subst (λ (t : List ℕ). AppendsPrefix a c t) told-more (AppendsPrefix-then a b c this (told (drop (i + 1) pieces)) h k)

  -- or a part of it
  pub told-begun : (a b : Option (List ℕ)) → AppendsPrefix a b ((get_or pieces i d).0.now ++ decimal (get_or pieces i d).1) → AppendsPrefix a b (told (drop i pieces))
  told-begun a b h = subst (λ (t : List ℕ). AppendsPrefix a b t) told-more (AppendsPrefix-more a b this (told (drop (i + 1) pieces)) h)

-- where a call fails a part of its text was written
pub begun-fails : {T E : Type 0} (r : Result T E) (old new : Option (List ℕ)) (text : List ℕ) → IsErr r → AppendsPrefix old new text → Writes old new r text
begun-fails (Ok x) old new text bad h = absurd (cc)
begun-fails (Err e) old new text bad h = h

Appends-none : (a : Option (List ℕ)) → Appends a a []
Appends-none None = tt
Appends-none (Some xs) = sym (append-nil xs)

-- behind the last piece nothing was written
pub told-all : (pieces : List Piece) (i : ℕ) (a : Option (List ℕ)) → length pieces ≤ i → Appends a a (told (drop i pieces))
told-all pieces i a past = subst (λ (ps : List Piece). Appends a a (told ps)) (sym (drop_all i pieces past)) (Appends-none a)

regroup : (a b c d e f g h i j k l m o n : List ℕ)
    → ((a ++ b) ++ ((c ++ d) ++ ((e ++ f) ++ ((n ++ g ++ h) ++ ((n ++ i ++ j) ++ ((n ++ k ++ l) ++ ((n ++ m ++ o) ++ []))))))) ++ n
    ≡ ((((((a ++ b) ++ c) ++ d) ++ e) ++ f) ++ n) ++ (((g ++ h) ++ n) ++ (((i ++ j) ++ n) ++ (((k ++ l) ++ n) ++ (((m ++ o) ++ n) ++ []))))
regroup a b c d e f g h i j k l m o n = simp (append_assoc, append-nil)

abbrev five_text : ℕ → ℕ → ℕ → ℕ → ℕ → ℕ → ℕ → List ℕ
five_text seed sessions notes all committed aborted received =
    (codes "drill seed " ++ decimal seed) ++ ((codes " sessions " ++ decimal sessions) ++ ((codes " notes " ++ decimal notes) ++ ((codes "\njournal " ++ decimal all)
    ++ ((codes "\ncommitted " ++ decimal committed) ++ ((codes "\naborted " ++ decimal aborted) ++ ((codes "\nreceived " ++ decimal received) ++ []))))))

brief-is : (seed notes : ℕ) (journal : List Tx) (traces : List Trace) (committed aborted received : ℕ)
    → committed ≡ count_by (λ tx. is_committed tx.fate) journal → aborted ≡ count_by (λ tx. not (is_committed tx.fate)) journal → received ≡ received_in traces
    → five_text seed (length traces) notes (length journal) committed aborted received ++ codes "\n" ≡ brief seed notes journal traces
brief-is seed notes journal traces committed aborted received done not_done got =
    ap (λ (n : ℕ). five_text seed (length traces) notes (length journal) n aborted received ++ codes "\n") done
    ∙ ap (λ (n : ℕ). five_text seed (length traces) notes (length journal) (count_by (λ tx. is_committed tx.fate) journal) n received ++ codes "\n") not_done
    ∙ ap (λ (n : ℕ). five_text seed (length traces) notes (length journal) (count_by (λ tx. is_committed tx.fate) journal) (count_by (λ tx. not (is_committed tx.fate)) journal) n ++ codes "\n") got
    ∙ regroup (codes "drill seed ") (decimal seed) (codes " sessions ") (decimal (length traces)) (codes " notes ") (decimal notes)
    (codes "journal ") (decimal (length journal)) (codes "committed ") (decimal (count_by (λ tx. is_committed tx.fate) journal))
    (codes "aborted ") (decimal (count_by (λ tx. not (is_committed tx.fate)) journal)) (codes "received ") (decimal (received_in traces)) (codes "\n")

module _ (old mid : Option (List ℕ)) (seed notes : ℕ) (journal : List Tx) (traces : List Trace) (committed received : ℕ)
    (done : committed ≡ count_by (λ tx. is_committed tx.fate) journal) (got : received ≡ received_in traces) where
  abbrev pub pieces_text : List ℕ
  pieces_text = five_text seed (length traces) notes (length journal) committed (length journal - committed) received

  -- the pieces and the end of the last line were written, or a part of them
  pub summary-written : {T E : Type 0} (new : Option (List ℕ)) (result : Result T E) → Appends old mid pieces_text → Writes mid new result (codes "\n") → Writes old new result (brief seed notes journal traces)
  summary-written new result h k =
      subst (λ (bytes : List ℕ). Writes old new result bytes)
      (brief-is seed notes journal traces committed (length journal - committed) received done (aborted-are journal committed done).1 got)
      (Writes-then old mid new result pieces_text (codes "\n") h k)

  -- a part of the pieces was
  pub summary-begun : AppendsPrefix old mid pieces_text → AppendsPrefix old mid (brief seed notes journal traces)
  summary-begun h =
      subst (λ (bytes : List ℕ). AppendsPrefix old mid bytes)
      (brief-is seed notes journal traces committed (length journal - committed) received done (aborted-are journal committed done).1 got)
      (AppendsPrefix-more old mid pieces_text (codes "\n") h)
