-- What a reader of frames has put into each seat's inbox.
use Rattle.std.specs.Prelude.{◌≡◌, ℕ, ◌+◌, ◌<◌, ◌≤◌, List, [], ◌∷◌, ◌++◌, length, map, get_or, Option, Some, None, IfSome, Result, Ok, Err}
use Rattle.pgn_outlet.specs.declared.hand.Hand.{Hand}
use Rattle.pgn_outlet.specs.declared.outlet.Outlet.{Outlet}
use Rattle.pgn_outlet.specs.Passes.{IsPassOf, knows}
use Rattle.pgn_outlet.specs.Rule.{MayPush, sender}
use Rattle.pgn_queries.specs.Client.{OfKnown}
use Rattle.pgn_messages.specs.declared.asked.Ask.{Ask}
use Rattle.pgn_frames.specs.declared.frame_fault.FrameFault.{FrameFault}
use Rattle.pgn_frames.specs.declared.framing.NoFrame.{NoFrame}
use Rattle.pgn_frames.specs.declared.framing.NoFrame.TheVariants.{Failed, Memory}
use Rattle.pgn_frames.specs.declared.caller.Caller.{Caller}
use Rattle.pgn_frames.specs.Callers.{HasCome, Waits, carried, first_stand, stand_of, with_put}
use Rattle.pgn_frames.specs.Clients.{SeatAsks, first_tally}
use Rattle.pgn_frames.specs.Frames.{Frame, FramesAre, signs_of}

-- a pass that has put this for a seat, and nothing else
abbrev pub has_put : ℕ → List (Option Ask) → Hand (Option Ask)
has_put seat whats = record sender { sent = carried seat whats }

-- P holds of each seat, with its inbox and its caller: the seats are numbered from 1
abbrev pub EachSeat : (ℕ → Outlet (Option Ask) → Caller → Type 0) → List (Outlet (Option Ask)) → List Caller → Type 0
EachSeat P inboxes callers = (k : ℕ) (inbox : Outlet (Option Ask)) (caller : Caller) → k < length callers → P (k + 1) (get_or inboxes k inbox) (get_or callers k caller)

-- a caller that may begin: by its pass it puts into its seat's inbox, and has put nothing
pub record Begins (most seat : ℕ) (inbox : Outlet (Option Ask)) (caller : Caller) : Type 0 where
  pub own : IsPassOf inbox caller.asks
  pub unused : knows caller.asks ≡ sender
  pub first : stand_of caller ≡ first_stand most

-- callers that may begin, one for each inbox
pub record MayCall (most : ℕ) (inboxes : List (Outlet (Option Ask))) (callers : List Caller) : Type 0 where
  pub each : length inboxes ≡ length callers
  pub few : length callers ≤ 256
  pub begin : EachSeat (Begins most) inboxes callers

-- all that a seat's signs ask was put, and behind it that nothing more will be asked
pub record HasPutAll (most : ℕ) (frames : List Frame) (seat : ℕ) (inbox : Outlet (Option Ask)) (caller : Caller) : Type 0 where
  pub own : IsPassOf inbox caller.asks
  pub asks : List Ask
  pub asked : SeatAsks (first_tally most) (signs_of seat frames) asks
  pub put : knows caller.asks ≡ has_put seat (map Some asks ++ None ∷ [])

-- the first of what they ask were put
pub record HasPutFirst (most : ℕ) (frames : List Frame) (seat : ℕ) (inbox : Outlet (Option Ask)) (caller : Caller) : Type 0 where
  pub own : IsPassOf inbox caller.asks
  pub asks : List Ask
  pub asked : SeatAsks (first_tally most) (signs_of seat frames) asks
  pub now : List (Option Ask)
  pub others : List (Option Ask)
  pub first : map Some asks ++ None ∷ [] ≡ now ++ others
  pub put : knows caller.asks ≡ has_put seat now

-- these are the frames of bytes, and they end by a fault or not
abbrev pub AreFrames : ℕ → Option (List ℕ) → List Frame → Option FrameFault → Type 0
AreFrames seats bytes frames fault = IfSome bytes (λ all. FramesAre seats 0 all frames fault)

-- these are the first of them
pub record AreFirstFrames (seats : ℕ) (bytes : Option (List ℕ)) (frames : List Frame) : Type 0 where
  pub more : List Frame
  pub fault : Option FrameFault
  pub are : AreFrames seats bytes (frames ++ more) fault

-- the frames that bytes have were read to their end, and each seat was asked by all of its signs
pub record HasReadAll (most : ℕ) (bytes : Option (List ℕ)) (inboxes : List (Outlet (Option Ask))) (callers : List Caller) (fault : Option FrameFault) : Type 0 where
  pub frames : List Frame
  pub are : AreFrames (length callers) bytes frames fault
  pub asked : EachSeat (HasPutAll most frames) inboxes callers

-- the first frames were read, until the source failed
pub record HasReadFirst (most : ℕ) (bytes : Option (List ℕ)) (inboxes : List (Outlet (Option Ask))) (callers : List Caller) : Type 0 where
  pub frames : List Frame
  pub are : AreFirstFrames (length callers) bytes frames
  pub asked : EachSeat (HasPutAll most frames) inboxes callers

-- the first frames were read, until memory did not suffice: of each seat the first of what it is asked by them were put
pub record HasReadSome (most : ℕ) (bytes : Option (List ℕ)) (inboxes : List (Outlet (Option Ask))) (callers : List Caller) : Type 0 where
  pub frames : List Frame
  pub are : AreFirstFrames (length callers) bytes frames
  pub asked : EachSeat (HasPutFirst most frames) inboxes callers

-- what holds for as many queries of a seat as may notify
abbrev pub OfMost : List (Outlet (Option Ask)) → List Caller → (ℕ → Type 0) → Type 0
OfMost inboxes callers P = (most : ℕ) → MayCall most inboxes callers → P most

-- Between two frames.

-- a caller that goes on: it may put for its seat
pub record CallsOn (seat : ℕ) (inbox : Outlet (Option Ask)) (caller : Caller) : Type 0 where
  pub own : IsPassOf inbox caller.asks
  pub may : MayPush (knows caller.asks) seat
  pub waits : Waits (stand_of caller)

abbrev pub OwnsInbox : ℕ → Outlet (Option Ask) → Caller → Type 0
OwnsInbox seat inbox caller = IsPassOf inbox caller.asks

-- what a seat's signs of these frames ask was put, as far as it is told by them
pub record Calls (most : ℕ) (frames : List Frame) (seat : ℕ) (inbox : Outlet (Option Ask)) (caller : Caller) : Type 0 where
  pub asks : List Ask
  pub put : knows caller.asks ≡ has_put seat (map Some asks)
  pub come : HasCome (first_stand most) (signs_of seat frames) asks (stand_of caller)

-- whatever frames follow, with these before them they are those of all bytes
abbrev pub AreBefore : ℕ → ℕ → List Frame → List ℕ → List ℕ → Type 0
AreBefore seats at frames bytes rest = (more : List Frame) (fault : Option FrameFault) → FramesAre seats at rest more fault → FramesAre seats 0 bytes (frames ++ more) fault

-- the first frames of bytes were read, and what each seat is asked by them was put
pub record Reads (most at : ℕ) (bytes left : Option (List ℕ)) (inboxes : List (Outlet (Option Ask))) (callers : List Caller) : Type 0 where
  pub frames : List Frame
  pub are : OfKnown (AreBefore (length callers) at frames) bytes left
  pub asked : EachSeat (Calls most frames) inboxes callers

-- all frames were
pub record ReadsAll (most : ℕ) (bytes : Option (List ℕ)) (inboxes : List (Outlet (Option Ask))) (callers : List Caller) (fault : Option FrameFault) : Type 0 where
  pub frames : List Frame
  pub are : AreFrames (length callers) bytes frames fault
  pub asked : EachSeat (Calls most frames) inboxes callers

-- the first were, until the source failed
pub record ReadsFirst (most : ℕ) (bytes : Option (List ℕ)) (inboxes : List (Outlet (Option Ask))) (callers : List Caller) : Type 0 where
  pub frames : List Frame
  pub are : AreFirstFrames (length callers) bytes frames
  pub asked : EachSeat (Calls most frames) inboxes callers

-- by how the frames end
abbrev pub ReadsTo : Result (Option FrameFault) NoFrame → ℕ → Option (List ℕ) → List (Outlet (Option Ask)) → List Caller → Type 0
ReadsTo (Ok fault) most bytes inboxes callers = ReadsAll most bytes inboxes callers fault
ReadsTo (Err Failed) most bytes inboxes callers = ReadsFirst most bytes inboxes callers
ReadsTo (Err Memory) most bytes inboxes callers = HasReadSome most bytes inboxes callers

-- by whether one more frame was read, or they end
abbrev pub TurnsInto : Result (Option (Option FrameFault)) NoFrame → ℕ → ℕ → Option (List ℕ) → Option (List ℕ) → List (Outlet (Option Ask)) → List Caller → Type 0
TurnsInto (Ok None) most at bytes left inboxes callers = Reads most at bytes left inboxes callers
TurnsInto (Ok (Some fault)) most at bytes left inboxes callers = ReadsAll most bytes inboxes callers fault
TurnsInto (Err Failed) most at bytes left inboxes callers = ReadsFirst most bytes inboxes callers
TurnsInto (Err Memory) most at bytes left inboxes callers = HasReadSome most bytes inboxes callers

-- of these callers one has done something to its seat, and the others nothing
pub record DoesAt (P : Caller → Caller → Type 0) (k : ℕ) (olds news : List Caller) : Type 0 where
  pub size : length news ≡ length olds
  pub here : (caller : Caller) → P (get_or olds k caller) (get_or news k caller)
  pub others : (j : ℕ) (caller : Caller) → (j ≡ k → ⊥) → get_or news j caller ≡ get_or olds j caller

-- a seat was told that nothing more will be asked
pub record IsEnded (seat : ℕ) (inbox : Outlet (Option Ask)) (old new : Caller) : Type 0 where
  pub own : IsPassOf inbox new.asks
  pub put : knows new.asks ≡ with_put seat (knows old.asks) (None ∷ [])

-- it was not
pub record IsKept (inbox : Outlet (Option Ask)) (old new : Caller) : Type 0 where
  pub own : IsPassOf inbox new.asks
  pub same : knows new.asks ≡ knows old.asks

-- the first seats were, so many, and the others not
pub record AreEnded (n : ℕ) (inboxes : List (Outlet (Option Ask))) (olds news : List Caller) : Type 0 where
  pub size : length news ≡ length olds
  pub told : (k : ℕ) (inbox : Outlet (Option Ask)) (caller : Caller) → k < n → IsEnded (k + 1) (get_or inboxes k inbox) (get_or olds k caller) (get_or news k caller)
  pub kept : (k : ℕ) (inbox : Outlet (Option Ask)) (caller : Caller) → n ≤ k → k < length olds → IsKept (get_or inboxes k inbox) (get_or olds k caller) (get_or news k caller)
