use Rattle.std.proofs.Common.{ℕ, List, [], ◌∷◌, None, Some, get_or, length, refl, ap}
use Rattle.pgn_frames.specs.declared.frame_fault.FrameFault.TheVariants.{CutFrame}
use Rattle.pgn_frames.specs.Frames.{Frame}
use Rattle.pgn_examples.specs.Frames.{cut_frame, frame_of, frames_of_three, three_frames}
use Rattle.pgn_examples.proofs.FrameLaws.{apart, cut_is, three_are}
use Rattle.pgn_frames.proofs.FrameLaws.{one_framing}
use Rattle.pgn_examples.proofs.frames.refused.Goals as goal

-- the seat of the first frame
abbrev first_seat : List Frame → ℕ
first_seat frames = (get_or frames 0 (frame_of 0 [])).seat

pub returns-clause-other_seat : goal.returns-clause-other_seat
returns-clause-other_seat c fault h =
    let same = (one_framing 2 0 three_frames frames_of_three (frame_of 2 (81 ∷ 0 ∷ []) ∷ frame_of 2 [] ∷ frame_of 1 (88 ∷ []) ∷ []) None fault three_are h).0 in
    apart 1 2 refl (ap first_seat same)

pub returns-clause-left_out : goal.returns-clause-left_out
returns-clause-left_out c fault h =
    let same = (one_framing 2 0 three_frames frames_of_three (frame_of 1 (81 ∷ 0 ∷ []) ∷ frame_of 1 (88 ∷ []) ∷ []) None fault three_are h).0 in
    apart 3 2 refl (ap length same)

pub returns-clause-as_the_end : goal.returns-clause-as_the_end
returns-clause-as_the_end c frames h =
    let same = (one_framing 2 0 cut_frame [] frames (Some (CutFrame 0)) None cut_is h).1 in
    absurd (cc)
