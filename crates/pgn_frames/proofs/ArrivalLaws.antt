-- What comes next of an input, as it is read.
use Rattle.std.proofs.Common.{◌≡◌, ℕ, ◌<◌, ◌≤◌, min, List, [], ◌∷◌, ◌++◌, length, take, drop, get_or, Option, None, Some, ◌∙◌, subst, refl, arith}
use Rattle.std.specs.Int.{w16, from_be_bytes}
use Rattle.std.specs.Io.KnownBytes.{Consumes, IsAtEnd}
use Rattle.std.proofs.lemmas.List.{length-take, take_all}
use Rattle.pgn_queries.specs.Client.{OfKnown}
use Rattle.pgn_queries.proofs.ClientLaws.{OfKnown-behind, OfKnown-last, OfKnown-read}
use Rattle.pgn_frames.specs.declared.frame_fault.FrameFault.TheVariants.{CutFrame, NoSeat}
use Rattle.pgn_frames.specs.Frames as frames
use Rattle.pgn_frames.specs.Frames.{Framing, Over, Comes, Wrong, IsSeat, NextFrame}

-- no byte came
pub Ended-known : (seats at n : ℕ) (head : List ℕ) (a b : Option (List ℕ)) → n ≡ 0 → Consumes a b (take n head) → IsAtEnd b → OfKnown (NextFrame seats at Over) a b
Ended-known seats at n head a b e h end =
    OfKnown-last (NextFrame seats at Over) a b [] (subst (λ (k : ℕ). Consumes a b (take k head)) e h) end (frames.NextFrame.Ended [] refl)

-- fewer than a head has
pub CutHead-known : (seats at n : ℕ) (head : List ℕ) (a b : Option (List ℕ)) → 1 ≤ n → n < 4 → length head ≡ 4 → Consumes a b (take n head) → IsAtEnd b
    → OfKnown (NextFrame seats at (Wrong (CutFrame at))) a b
CutHead-known seats at n head a b some few four h end =
    let len : length (take n head) ≡ min n (length head) = length-take n head in
    OfKnown-last (NextFrame seats at (Wrong (CutFrame at))) a b (take n head) h end (frames.NextFrame.CutHead (take n head) [] (omega arith) (omega arith))

-- a head came, and what is behind it
pub Head-known : (seats at n : ℕ) (framing : Framing) (head : List ℕ) (a b c : Option (List ℕ)) → 4 ≤ n → length head ≡ 4 → Consumes a b (take n head)
    → OfKnown (λ bytes rest. NextFrame seats at framing (head ++ bytes) rest) b c → OfKnown (NextFrame seats at framing) a c
Head-known seats at n framing head a b c enough four h k =
    OfKnown-behind (NextFrame seats at framing) (λ bytes rest. NextFrame seats at framing (head ++ bytes) rest) a b c head
    (subst (λ (xs : List ℕ). Consumes a b xs) (take_all n head (omega arith)) h) (λ ys zs p. p) k

-- the head tells no seat
pub BadSeat-known : (seats at seat size : ℕ) (head : List ℕ) (a : Option (List ℕ)) → length head ≡ 4 → seat ≡ from_be_bytes w16 (take 2 head) → size ≡ from_be_bytes w16 (drop 2 head)
    → (IsSeat seats seat → ⊥) → OfKnown (λ bytes rest. NextFrame seats at (Wrong (NoSeat at)) (head ++ bytes) rest) a a
BadSeat-known seats at seat size head None four e f none = tt
BadSeat-known seats at seat size head (Some xs) four e f none = frames.NextFrame.BadSeat (head ++ xs) head xs xs seat size refl (record { four = four; of_seat = e; of_size = f }) none

-- fewer bytes came than it tells
pub CutBody-known : (seats at seat size n : ℕ) (head body : List ℕ) (a b : Option (List ℕ)) → length head ≡ 4 → seat ≡ from_be_bytes w16 (take 2 head) → size ≡ from_be_bytes w16 (drop 2 head)
    → IsSeat seats seat → length body ≡ size → n < size → Consumes a b (take n body) → IsAtEnd b → OfKnown (λ bytes rest. NextFrame seats at (Wrong (CutFrame at)) (head ++ bytes) rest) a b
CutBody-known seats at seat size n head body a b four e f is len few h end =
    let short : length (take n body) ≡ min n (length body) = length-take n body in
    OfKnown-last (λ bytes rest. NextFrame seats at (Wrong (CutFrame at)) (head ++ bytes) rest) a b (take n body) h end
    (frames.NextFrame.CutBody (head ++ take n body) head (take n body) [] seat size refl (record { four = four; of_seat = e; of_size = f }) is (omega arith))

-- a frame came
pub Whole-known : (seats at seat size n : ℕ) (head body : List ℕ) (a b : Option (List ℕ)) → length head ≡ 4 → seat ≡ from_be_bytes w16 (take 2 head) → size ≡ from_be_bytes w16 (drop 2 head)
    → IsSeat seats seat → length body ≡ size → size ≤ n → Consumes a b (take n body) → OfKnown (λ bytes rest. NextFrame seats at (Comes (record { seat = seat; bytes = body })) (head ++ bytes) rest) a b
Whole-known seats at seat size n head body a b four e f is len enough h =
    let all : take n body ≡ body = take_all n body (omega arith) in
    OfKnown-read (λ bytes rest. NextFrame seats at (Comes (record { seat = seat; bytes = body })) (head ++ bytes) rest) a b body (subst (λ (xs : List ℕ). Consumes a b xs) all h)
    (λ rest. frames.NextFrame.Whole (head ++ (body ++ rest)) head body rest seat refl (record { four = four; of_seat = e; of_size = len ∙ f }) is)

-- the two halves of a head
pub first_two : (head : List ℕ) → length head ≡ 4 → get_or head 0 0 ∷ get_or head 1 0 ∷ [] ≡ take 2 head
first_two [] four = absurd (omega arith)
first_two (a ∷ []) four = absurd (omega arith)
first_two (a ∷ b ∷ head) four = refl

pub last_two : (head : List ℕ) → length head ≡ 4 → get_or head 2 0 ∷ get_or head 3 0 ∷ [] ≡ drop 2 head
last_two [] four = absurd (omega arith)
last_two (a ∷ []) four = absurd (omega arith)
last_two (a ∷ b ∷ []) four = absurd (omega arith)
last_two (a ∷ b ∷ c ∷ []) four = absurd (omega arith)
last_two (a ∷ b ∷ c ∷ d ∷ []) four = refl
last_two (a ∷ b ∷ c ∷ d ∷ x ∷ head) four = absurd (omega arith)

-- what comes next, by its head
pub ruleset head_laws = (Ended-known, CutHead-known, Head-known)

-- and by its body
pub ruleset body_laws = (BadSeat-known, CutBody-known, Whole-known)

-- the two bytes of a number
pub ruleset two_laws = (first_two, last_two)
