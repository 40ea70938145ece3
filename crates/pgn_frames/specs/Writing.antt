-- What a writer of frames has taken from the outbox, and written.
use Rattle.std.specs.Prelude.{◌≡◌, ℕ, ◌==◌, cond, List, [], ◌++◌, Option, All, flat_map}
use Rattle.pgn_outlet.specs.declared.came.Came.{Came}
use Rattle.pgn_outlet.specs.declared.hand.Hand.{Hand}
use Rattle.pgn_outlet.specs.Cames.{what_of}
use Rattle.pgn_text.specs.declared.out.Out.{Out}
use Rattle.pgn_text.specs.Rendering.{Puts}
use Rattle.pgn_messages.specs.declared.saying.Saying.{Saying}
use Rattle.pgn_messages.specs.Sayings.{all_told}
use Rattle.pgn_frames.specs.Frames.{Frame, IsFrame, frame_bytes, signs_of}

-- these frames carry, seat by seat, what came for it, whole and in order, and nothing else
pub record Carry (frames : List Frame) (cames : List (Came Saying)) : Type 0 where
  pub can_be_written : All (IsFrame 256) frames
  pub signs : (seat : ℕ) → signs_of seat frames ≡ all_told (what_of seat cames)

-- frames of this seat alone, with these signs, were given out
pub record Gave {S : Type 0} (held : S → Option (List ℕ)) (faults : S → ℕ) (seat : ℕ) (signs : List (Option ℕ)) (sink : S) (out : Out) (sink_now : S) (out_now : Out) : Type 0 where
  pub frames : List Frame
  pub can_be_written : All (IsFrame 256) frames
  pub signed : (n : ℕ) → signs_of n frames ≡ cond (seat == n) signs []
  pub puts : Puts held faults sink out sink_now out_now (flat_map frame_bytes frames)

-- the pass has taken more, and frames that carry it were given out
pub record Wrote {S : Type 0} (held : S → Option (List ℕ)) (faults : S → ℕ) (before after : Hand Saying) (sink : S) (out : Out) (sink_now : S) (out_now : Out) : Type 0 where
  pub more : List (Came Saying)
  pub got : after ≡ record before { got = before.got ++ more }
  pub frames : List Frame
  pub carry : Carry frames more
  pub puts : Puts held faults sink out sink_now out_now (flat_map frame_bytes frames)
