-- The signs of a seat, in frames that grow.
use Rattle.std.proofs.Common.{◌≡◌, ℕ, ◌==◌, cond, List, [], ◌∷◌, ◌++◌, Option, sym, ap, ◌∙◌, refl, append_assoc}
use Rattle.pgn_frames.specs.Frames.{Frame, signs_in, signs_of}

-- of frames behind frames
pub signs_of-append : (seat : ℕ) (front back : List Frame) → signs_of seat (front ++ back) ≡ signs_of seat front ++ signs_of seat back
signs_of-append seat [] back = refl
signs_of-append seat (frame ∷ front) back =
    let own : List (Option ℕ) = cond (frame.seat == seat) (signs_in frame.bytes) [] in
    ap (λ (l : List (Option ℕ)). own ++ l) (signs_of-append seat front back) ∙ sym (append_assoc own (signs_of seat front) (signs_of seat back))
