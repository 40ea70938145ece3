-- What comes in frames, and which signs of each seat stand in them.
use Rattle.std.specs.Prelude.{◌≡◌, ℕ, ◌+◌, ◌<◌, ◌≤◌, ◌==◌, cond, List, [], ◌∷◌, ◌++◌, length, take, drop, map, Option, Some, None}
use Rattle.std.specs.Int.{w16, from_be_bytes, to_be_bytes}
use Rattle.pgn_frames.specs.declared.frame_fault.FrameFault.{FrameFault}
use Rattle.pgn_frames.specs.declared.frame_fault.FrameFault.TheVariants.{CutFrame, NoSeat}

-- bytes of a seat
pub record Frame : Type 0 where
  pub seat : ℕ
  pub bytes : List ℕ

-- the four bytes at the head of a frame: its seat, and how many bytes follow, each in two bytes, the most significant first
pub record IsHead (head : List ℕ) (seat size : ℕ) : Type 0 where
  pub four : length head ≡ 4
  pub of_seat : seat ≡ from_be_bytes w16 (take 2 head)
  pub of_size : size ≡ from_be_bytes w16 (drop 2 head)

-- one of so many seats
pub record IsSeat (seats seat : ℕ) : Type 0 where
  pub least : 1 ≤ seat
  pub most : seat ≤ seats

-- what comes next of an input: the end, a frame, or a fault
pub data Framing : Type 0 where
  Over : Framing
  Comes : (frame : Frame) → Framing
  Wrong : (fault : FrameFault) → Framing

-- what comes next of these bytes, of which the first has this offset, where there are so many seats; and the bytes behind it. What
-- follows a fault is not looked at
pub data NextFrame (seats at : ℕ) : Framing → List ℕ → List ℕ → Type 0 where
  -- there are no more bytes
  Ended : (bytes : List ℕ) → bytes ≡ [] → NextFrame seats at Over bytes []
  -- they end inside the head
  CutHead : (bytes rest : List ℕ) → 0 < length bytes → length bytes < 4 → NextFrame seats at (Wrong (CutFrame at)) bytes rest
  -- the head has no seat
  BadSeat : (bytes head more rest : List ℕ) (seat size : ℕ) → bytes ≡ head ++ more → IsHead head seat size → (IsSeat seats seat → ⊥) → NextFrame seats at (Wrong (NoSeat at)) bytes rest
  -- the bytes end inside the frame's own
  CutBody : (bytes head more rest : List ℕ) (seat size : ℕ) → bytes ≡ head ++ more → IsHead head seat size → IsSeat seats seat → length more < size
      → NextFrame seats at (Wrong (CutFrame at)) bytes rest
  -- a frame
  Whole : (bytes head body rest : List ℕ) (seat : ℕ) → bytes ≡ head ++ (body ++ rest) → IsHead head seat (length body) → IsSeat seats seat
      → NextFrame seats at (Comes (record { seat = seat; bytes = body })) bytes rest

-- the frames of these bytes, of which the first has this offset, and the fault that ends them, where one does
pub data FramesAre (seats : ℕ) : ℕ → List ℕ → List Frame → Option FrameFault → Type 0 where
  Ends : (at : ℕ) (bytes rest : List ℕ) → NextFrame seats at Over bytes rest → FramesAre seats at bytes [] None
  Fails : (at : ℕ) (bytes rest : List ℕ) (fault : FrameFault) → NextFrame seats at (Wrong fault) bytes rest → FramesAre seats at bytes [] (Some fault)
  Goes : (at : ℕ) (bytes rest : List ℕ) (frame : Frame) (frames : List Frame) (fault : Option FrameFault) → NextFrame seats at (Comes frame) bytes rest
      → FramesAre seats (at + (4 + length frame.bytes)) rest frames fault → FramesAre seats at bytes (frame ∷ frames) fault

-- the signs of a frame. A sign is a byte of a seat's client, or, where the frame is empty, its end
abbrev pub signs_in : List ℕ → List (Option ℕ)
signs_in [] = None ∷ []
signs_in (byte ∷ bytes) = map Some (byte ∷ bytes)

-- the signs of a seat
abbrev pub signs_of : ℕ → List Frame → List (Option ℕ)
signs_of seat [] = []
signs_of seat (frame ∷ frames) = cond (frame.seat == seat) (signs_in frame.bytes) [] ++ signs_of seat frames

-- a frame that can be written: it is of a seat, and its head can tell how many bytes it has
pub record IsFrame (seats : ℕ) (frame : Frame) : Type 0 where
  pub seat : IsSeat seats frame.seat
  pub few : length frame.bytes ≤ 65535

-- the bytes that it is written by
abbrev pub frame_bytes : Frame → List ℕ
frame_bytes frame = (to_be_bytes w16 frame.seat ++ to_be_bytes w16 (length frame.bytes)) ++ frame.bytes
