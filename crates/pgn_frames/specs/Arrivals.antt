-- What a reader of frames gives.
use Rattle.std.specs.Prelude.{ℕ, List}
use Rattle.pgn_frames.specs.declared.framing.Arrival.{Arrival}
use Rattle.pgn_frames.specs.declared.framing.Arrival.TheVariants as arrival
use Rattle.pgn_frames.specs.Frames.{Framing, Over, Comes, Wrong}

-- what comes, where a frame has these bytes
abbrev pub framing_of : Arrival → List ℕ → Framing
framing_of arrival.End bytes = Over
framing_of (arrival.Frame seat) bytes = Comes (record { seat = seat; bytes = bytes })
framing_of (arrival.Fault fault) bytes = Wrong fault
