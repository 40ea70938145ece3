-- Frames that are put together.
use Rattle.std.proofs.Common.{◌≡◌, ℕ, ◌+◌, ◌^◌, ◌<◌, ◌≤◌, ◌==◌, Bool, true, false, cond, List, [], ◌∷◌, ◌++◌, length, Option, Some, None, sym, ap, ◌∙◌, refl, arith, append_assoc}
use Rattle.std.specs.Prelude.{flat_map, map}
use Rattle.std.specs.Int.{w16, to_be_bytes}
use Rattle.std.proofs.lemmas.List.{map-append}
use Rattle.std.proofs.lemmas.List.Elements.{All-head, All-tail}
use Rattle.std.proofs.lemmas.Nat.{from_be_bytes-to_be_bytes_2}
use Rattle.pgn_frames.specs.Frames as frames
use Rattle.pgn_frames.specs.Frames.{Frame, IsFrame, IsHead, frame_bytes, signs_in, signs_of}
use Rattle.pgn_frames.specs.Laws.{CutsChangeNoSign, FramesReadBack}

-- the head of a frame
abbrev head_of : Frame → List ℕ
head_of frame = to_be_bytes w16 frame.seat ++ to_be_bytes w16 (length frame.bytes)

is_head : (seats : ℕ) (frame : Frame) → seats ≤ 65535 → IsFrame seats frame → IsHead (head_of frame) frame.seat (length frame.bytes)
is_head seats frame few h =
    let most : frame.seat ≤ seats = h.seat.most in
    let fits : frame.seat < 2 ^ 16 = omega arith in
    let short : length frame.bytes ≤ 65535 = h.few in
    let size : length frame.bytes < 2 ^ 16 = omega arith in
    record { four = refl; of_seat = sym (from_be_bytes-to_be_bytes_2 frame.seat fits); of_size = sym (from_be_bytes-to_be_bytes_2 (length frame.bytes) size) }

-- frames that are written are read as they were
pub frames_read_back : FramesReadBack
frames_read_back seats at [] few h = frames.FramesAre.Ends at [] [] (frames.NextFrame.Ended [] refl)
frames_read_back seats at (frame ∷ others) few h =
    let rest : List ℕ = flat_map frame_bytes others in
    let own : IsFrame seats frame = All-head (IsFrame seats) frame others h in
    frames.FramesAre.Goes at (frame_bytes frame ++ rest) rest frame others None
    (frames.NextFrame.Whole (frame_bytes frame ++ rest) (head_of frame) frame.bytes rest frame.seat (append_assoc (head_of frame) frame.bytes rest) (is_head seats frame few own) own.seat)
    (frames_read_back seats (at + (4 + length frame.bytes)) others few (All-tail (IsFrame seats) frame others h))

-- a frame of a seat, or of another
cut : (own : Bool) (front back : List ℕ) (behind : List (Option ℕ)) → 0 < length front → 0 < length back
    → cond own (signs_in (front ++ back)) [] ++ behind ≡ cond own (signs_in front) [] ++ (cond own (signs_in back) [] ++ behind)
cut own [] back behind some more = absurd (omega arith)
cut own (x ∷ front) [] behind some more = absurd (omega arith)
cut false (x ∷ front) (y ∷ back) behind some more = refl
cut true (x ∷ front) (y ∷ back) behind some more =
    ap (λ (l : List (Option ℕ)). l ++ behind) (map-append Some (x ∷ front) (y ∷ back)) ∙ append_assoc (map Some (x ∷ front)) (map Some (y ∷ back)) behind

-- where the frames of a seat are cut changes none of its signs
pub cuts_change_no_sign : CutsChangeNoSign
cuts_change_no_sign seat of front back others some more = cut (of == seat) front back (signs_of seat others) some more
