use Rattle.std.proofs.Common.{◌≤◌, [], ◌∷◌, Some, refl, arith}
use Rattle.pgn_frames.specs.declared.frame_fault.FrameFault.TheVariants.{CutFrame, NoSeat}
use Rattle.pgn_frames.specs.Frames as frames
use Rattle.pgn_examples.specs.Frames.{of_seat_0, of_seat_3}
use Rattle.pgn_examples.proofs.FrameLaws.{cut_is, ends, goes, three_are}
use Rattle.pgn_examples.proofs.frames.frames.Goals as goal

pub returns-clause-three : goal.returns-clause-three
returns-clause-three c = three_are

pub returns-clause-no_byte : goal.returns-clause-no_byte
returns-clause-no_byte c = ends 2 0

pub returns-clause-seat_above : goal.returns-clause-seat_above
returns-clause-seat_above c = frames.FramesAre.Fails 0 of_seat_3 [] (NoSeat 0)
    (frames.NextFrame.BadSeat of_seat_3 of_seat_3 [] [] 3 0 refl (record { four = refl; of_seat = refl; of_size = refl }) (λ is. let most : 3 ≤ 2 = is.most in omega arith))

pub returns-clause-seat_below : goal.returns-clause-seat_below
returns-clause-seat_below c = frames.FramesAre.Fails 0 of_seat_0 [] (NoSeat 0)
    (frames.NextFrame.BadSeat of_seat_0 of_seat_0 [] [] 0 0 refl (record { four = refl; of_seat = refl; of_size = refl }) (λ is. let least : 1 ≤ 0 = is.least in omega arith))

pub returns-clause-cut_body : goal.returns-clause-cut_body
returns-clause-cut_body c = cut_is

pub returns-clause-cut_head : goal.returns-clause-cut_head
returns-clause-cut_head c =
    goes 2 0 (0 ∷ 2 ∷ 0 ∷ 0 ∷ []) [] (0 ∷ 1 ∷ []) 2 [] (Some (CutFrame 4)) (record { four = refl; of_seat = refl; of_size = refl }) (record { least = omega arith; most = omega arith })
    (frames.FramesAre.Fails 4 (0 ∷ 1 ∷ []) [] (CutFrame 4) (frames.NextFrame.CutHead (0 ∷ 1 ∷ []) [] (omega arith) (omega arith)))

pub returns-clause-cut_behind : goal.returns-clause-cut_behind
returns-clause-cut_behind c =
    goes 2 0 (0 ∷ 1 ∷ 0 ∷ 2 ∷ []) (81 ∷ 0 ∷ []) (0 ∷ []) 1 [] (Some (CutFrame 6)) (record { four = refl; of_seat = refl; of_size = refl }) (record { least = omega arith; most = omega arith })
    (frames.FramesAre.Fails 6 (0 ∷ []) [] (CutFrame 6) (frames.NextFrame.CutHead (0 ∷ []) [] (omega arith) (omega arith)))
