-- What the arms of a service come to.
use Rattle.std.specs.Prelude.{◌≡◌, ◌⊎◌, ℕ, ◌<◌, ◌≤◌, Bool, true, cond, List, [], ◌++◌, length, flat_map, Option, All, Result, Ok, Err, OnOk}
use Rattle.std.specs.declared.alloc.AllocError.{AllocError}
use Rattle.pgn_base.specs.declared.source.Failed.{Failed}
use Rattle.pgn_base.specs.Outside.{HasCause, Rose, Writes}
use Rattle.pgn_hub.specs.declared.known.Known.{Known}
use Rattle.pgn_hub.specs.Shape.{Shape}
use Rattle.pgn_outlet.specs.declared.came.Came.{Came}
use Rattle.pgn_outlet.specs.declared.hand.Hand.{Hand}
use Rattle.pgn_outlet.specs.declared.outlet.Outlet.{Outlet}
use Rattle.pgn_outlet.specs.Cames.{what_of}
use Rattle.pgn_outlet.specs.Rule.{MayPush, sender}
use Rattle.pgn_text.specs.declared.out.Out.{Out}
use Rattle.pgn_text.specs.Rendering.{Puts}
use Rattle.pgn_messages.specs.declared.asked.Ask.{Ask}
use Rattle.pgn_messages.specs.declared.saying.Saying.{Saying}
use Rattle.pgn_messages.specs.Sayings.{all_told}
use Rattle.pgn_seats.specs.declared.desk.Desk.{Desk}
use Rattle.pgn_seats.specs.Desks.{HaveServed}
use Rattle.pgn_frames.specs.declared.caller.Caller.{Caller}
use Rattle.pgn_frames.specs.declared.frame_fault.FrameFault.{FrameFault}
use Rattle.pgn_frames.specs.declared.framing.NoFrame.{NoFrame}
use Rattle.pgn_frames.specs.declared.framing.NoFrame.TheVariants as none
use Rattle.pgn_frames.specs.Frames.{Frame, IsFrame, frame_bytes, signs_of}
use Rattle.pgn_frames.specs.Reading.{HasReadAll, HasReadFirst, HasReadSome, MayCall}
use Rattle.pgn_frames.specs.Writing.{Carry}
use Rattle.pgn_service.specs.Service.{over_frame}

-- behind a text of frames, where a service is over before its input, that it is
abbrev pub with_over : Bool → List Frame → List ℕ
with_over over outs = flat_map frame_bytes outs ++ cond over over_frame []

-- what one pass had not yet taken of what the other one has told was taken and given out, and nothing is kept back
pub record HasWrittenRest {S : Type 0} (held : S → Option (List ℕ)) (faults : S → ℕ) (tells takes : Hand Saying) (out : Out) (sink sink_now : S) (out_now : Out) : Type 0 where
  pub more : List (Came Saying)
  pub all : (seat : ℕ) → MayPush tells seat → what_of seat (takes.got ++ more) ≡ what_of seat tells.sent
  pub outs : List Frame
  pub carry : Carry outs more
  pub puts : Puts held faults sink out sink_now out_now (flat_map frame_bytes outs)
  pub sent : OnOk out_now.so_far (out_now.kept ≡ [])

-- frames tell, seat by seat, all that a pass has told, and nobody else anything
pub record CarryAll (outs : List Frame) (tells : Hand Saying) : Type 0 where
  pub can_be_written : All (IsFrame 256) outs
  pub signs : (seat : ℕ) → MayPush tells seat → signs_of seat outs ≡ all_told (what_of seat tells.sent)

-- the desks have served, what they told was written in frames, and behind it where a desk was refused memory that the service is over: this is
-- what the writes came to, and what the desks did
pub record HasToldBy {P S : Type 0} (is_own : P → Type 0) (shape : Shape) (known : P → Known) (inboxes : List (Outlet (Option Ask))) (old new : List (Desk P)) (held : S → Option (List ℕ)) (faults : S → ℕ) (sink sink_now : S) (told : Result Unit Failed × Result Unit AllocError) : Type 0 where
  pub after : Hand Saying
  pub ran : HaveServed is_own shape known inboxes old new sender after told.1
  pub outs : List Frame
  pub carry : CarryAll outs after
  pub over : Bool
  pub refused : over ≡ true → OnOk told.1 ⊥
  pub writes : Writes (held sink) (held sink_now) told.0 (with_over over outs)
  pub cause : HasCause (faults sink) (faults sink_now) told.0

-- by how a reader ended: what it has read and put
abbrev pub HasRead : ℕ → Option (List ℕ) → List (Outlet (Option Ask)) → List Caller → Result (Option FrameFault) NoFrame → Type 0
HasRead most bytes inboxes callers (Ok fault) = HasReadAll most bytes inboxes callers fault
HasRead most bytes inboxes callers (Err none.Failed) = HasReadFirst most bytes inboxes callers
HasRead most bytes inboxes callers (Err none.Memory) = HasReadSome most bytes inboxes callers

-- the callers have called, and the source was read so far
pub record HasReadBy {S : Type 0} (left : S → Option (List ℕ)) (faults : S → ℕ) (inboxes : List (Outlet (Option Ask))) (old new : List Caller) (source source_now : S) (res : Result (Option FrameFault) NoFrame) : Type 0 where
  pub read : (most : ℕ) → MayCall most inboxes old → HasRead most (left source) inboxes new res
  pub count : length new ≡ length old
  pub later : faults source ≤ faults source_now
  pub failed : res ≡ Err none.Failed → Rose (faults source) (faults source_now)
  pub rose : faults source < faults source_now → (res ≡ Err none.Failed) ⊎ (res ≡ Err none.Memory)
