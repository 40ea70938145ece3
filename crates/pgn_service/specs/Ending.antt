-- How a service ends.
use Rattle.std.specs.Prelude.{◌≡◌, ◌⊎◌, ℕ, List, Option, Some, None, Result, Ok, Err}
use Rattle.std.specs.Io.KnownBytes.{Appends}
use Rattle.pgn_base.specs.Outside.{AppendsPrefix}
use Rattle.pgn_frames.specs.declared.frame_fault.FrameFault.{FrameFault}
use Rattle.pgn_frames.specs.declared.framing.NoFrame.{NoFrame}
use Rattle.pgn_frames.specs.declared.framing.NoFrame.TheVariants.{Failed, Memory}
use Rattle.pgn_service.specs.declared.service.ServiceEnd.{ServiceEnd}
use Rattle.pgn_service.specs.declared.service.ServiceEnd.TheVariants as end
use Rattle.pgn_service.specs.Service.{ServesAll, ServesFirst, ServesInPart, StopsServing}

-- what a service has come to whose writes, desks and reader have come to this: a failed write before want of memory, and that before the
-- reader's own fault
abbrev pub end_of : {A B E D : Type 0} → Result A D → Result B E → Result (Option FrameFault) NoFrame → Result Unit ServiceEnd
end_of (Err d) ran read = Err end.Write
end_of (Ok a) (Err e) read = Err end.Memory
end_of (Ok a) (Ok b) (Err Memory) = Err end.Memory
end_of (Ok a) (Ok b) (Err Failed) = Err end.Read
end_of (Ok a) (Ok b) (Ok (Some fault)) = Err (end.Bad fault)
end_of (Ok a) (Ok b) (Ok None) = Ok tt

-- by how it ended: what was read, and what stands written
abbrev pub EndsService : {T : Type 0} → ℕ → Result T ServiceEnd → List ℕ → Option (List ℕ) → Option (List ℕ) → Type 0
EndsService seats (Ok x) bytes old new = ServesAll seats bytes None (Appends old new)
EndsService seats (Err (end.Bad fault)) bytes old new = ServesAll seats bytes (Some fault) (Appends old new)
EndsService seats (Err end.Read) bytes old new = ServesFirst seats bytes (Appends old new)
EndsService seats (Err end.Write) bytes old new = ServesInPart seats bytes (AppendsPrefix old new)
EndsService seats (Err end.Memory) bytes old new = (new ≡ old) ⊎ StopsServing seats bytes (Appends old new)
