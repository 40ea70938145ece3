-- The status of each end of a service, and of a client.
use Rattle.std.specs.Prelude.{Result, Ok, Err}
use Rattle.pgn_wire.specs.declared.wire_end.WireEnd.{WireEnd}
use Rattle.pgn_wire.specs.declared.wire_end.WireEnd.TheVariants as wire
use Rattle.pgn_service.specs.declared.service.ServiceEnd.{ServiceEnd}
use Rattle.pgn_service.specs.declared.service.ServiceEnd.TheVariants as end
use Rattle.pgn_run.specs.declared.status.Status.{Status}
use Rattle.pgn_run.specs.declared.status.Status.TheVariants.{Done, BadFrame, BadWire, NoMemory, ReadFault, WriteFault}

-- the status of each end of a service
abbrev pub serve_status : {T : Type 0} → Result T ServiceEnd → Status
serve_status (Ok x) = Done
serve_status (Err (end.Bad fault)) = BadFrame fault
serve_status (Err end.Read) = ReadFault
serve_status (Err end.Write) = WriteFault
serve_status (Err end.Memory) = NoMemory

-- the status of each end of a client
abbrev pub wire_status : {T : Type 0} → Result T WireEnd → Status
wire_status (Ok x) = Done
wire_status (Err (wire.Bad fault)) = BadWire fault
wire_status (Err wire.Read) = ReadFault
wire_status (Err wire.Write) = WriteFault
wire_status (Err wire.Memory) = NoMemory
