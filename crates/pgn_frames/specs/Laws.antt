-- Each input has one reading.
use Rattle.std.specs.Prelude.{◌≡◌, ℕ, ◌+◌, ◌<◌, List, ◌++◌, length, Option, ◌≤◌, ◌∷◌, None, All, flat_map}
use Rattle.pgn_messages.specs.declared.asked.Ask.{Ask}
use Rattle.pgn_messages.specs.Asks.{GoOnFrom}
use Rattle.pgn_frames.specs.declared.frame_fault.FrameFault.{FrameFault}
use Rattle.pgn_frames.specs.Frames.{Frame, FramesAre, IsFrame, frame_bytes, signs_of}
use Rattle.pgn_frames.specs.Clients.{ClientAsks, Close, QueryNext, SeatAsks, Tally}
use Rattle.pgn_frames.specs.Callers.{IsTold}

-- bytes have frames, and end by a fault or without
abbrev pub EachHasFrames : Type 0
EachHasFrames = (seats at : ℕ) (bytes : List ℕ) → (frames : List Frame) × (fault : Option FrameFault) × FramesAre seats at bytes frames fault

-- and no others
abbrev pub OneFraming : Type 0
OneFraming = (seats at : ℕ) (bytes : List ℕ) (frames others : List Frame) (fault other : Option FrameFault) → FramesAre seats at bytes frames fault → FramesAre seats at bytes others other
    → (frames ≡ others) × (fault ≡ other)

-- frames are read as they were written
abbrev pub FramesReadBack : Type 0
FramesReadBack = (seats at : ℕ) (frames : List Frame) → seats ≤ 65535 → All (IsFrame seats) frames → FramesAre seats at (flat_map frame_bytes frames) frames None

-- a frame may be cut in two, neither of them empty: the signs of each seat are the same
abbrev pub CutsChangeNoSign : Type 0
CutsChangeNoSign = (seat of : ℕ) (front back : List ℕ) (frames : List Frame) → 0 < length front → 0 < length back
    → signs_of seat (record { seat = of; bytes = front ++ back } ∷ frames) ≡ signs_of seat (record { seat = of; bytes = front } ∷ record { seat = of; bytes = back } ∷ frames)

-- by its signs a seat is asked something
abbrev pub EachIsAsked : Type 0
EachIsAsked = (tally : Tally) (signs : List (Option ℕ)) → (asks : List Ask) × SeatAsks tally signs asks

-- and nothing else
abbrev pub OneAsking : Type 0
OneAsking = (tally : Tally) (signs : List (Option ℕ)) (asks others : List Ask) → SeatAsks tally signs asks → SeatAsks tally signs others → asks ≡ others

-- the numbers of what a seat is asked go on, over all of its clients
abbrev pub NumbersGoOn : Type 0
NumbersGoOn = (tally : Tally) (signs : List (Option ℕ)) (asks : List Ask) → SeatAsks tally signs asks → GoOnFrom (tally.lines + 1) asks

-- the message of a Query is the same where more bytes are behind it
abbrev pub QueryStaysWhole : Type 0
QueryStaysWhole = (bytes body rest more : List ℕ) → QueryNext bytes body rest → QueryNext (bytes ++ more) body (rest ++ more)

-- who has left, or was refused, has so whatever bytes follow
abbrev pub MoreMayFollow : Type 0
MoreMayFollow = (tally : Tally) (bytes more : List ℕ) (asks : List Ask) (close : Close) → ClientAsks tally bytes asks close → IsTold close → ClientAsks tally (bytes ++ more) asks close
