-- The line on standard error.
use Rattle.std.specs.Prelude.{ℕ, List, [], ◌++◌, codes, decimal}
use Rattle.pgn_run.specs.declared.status.Status.{Status}
use Rattle.pgn_run.specs.declared.status.Status.TheVariants.{Done, BadWords, BadScenario, ReadFault, WriteFault, NoMemory, BadWire, Illegal, NoOutput, CheckTooLarge, BadFrame}
use Rattle.pgn_language.specs.declared.scenario.ScenarioFault.{ScenarioFault}
use Rattle.pgn_language.specs.declared.scenario.ScenarioFault.TheVariants.{TooLarge, LineTooLong, NotUtf8, NulByte, BadMeta, NoSession, SameName, TooMany, Empty, NeverSignalled}
use Rattle.pgn_queries.specs.declared.wire_fault.WireFault.{WireFault}
use Rattle.pgn_queries.specs.declared.wire_fault.WireFault.TheVariants.{BadType, BadLength, Truncated, BadText, TooMany as TooManyQueries}
use Rattle.pgn_frames.specs.declared.frame_fault.FrameFault.{FrameFault}
use Rattle.pgn_frames.specs.declared.frame_fault.FrameFault.TheVariants.{CutFrame, NoSeat}
use Rattle.pgn_cli.specs.declared.fault_line.Line.{Line}
use Rattle.pgn_cli.specs.declared.fault_line.Line.TheVariants.{Text, Numbered}

-- what a line is
abbrev pub line_text : Line → List ℕ
line_text (Text text) = text.now
line_text (Numbered head number tail) = head.now ++ decimal number ++ tail.now

-- what is wrong at a line
abbrev pub line_fault : ℕ → List ℕ → List ℕ
line_fault line what = codes "pgnotify: line " ++ decimal line ++ what

-- what is wrong at a byte
abbrev pub byte_fault : ℕ → List ℕ → List ℕ
byte_fault at what = codes "pgnotify: byte " ++ decimal at ++ what

-- why an input is no scenario
abbrev pub scenario_fault_text : ScenarioFault → List ℕ
scenario_fault_text TooLarge = codes "pgnotify: input is larger than 16777216 bytes\n"
scenario_fault_text (LineTooLong line) = line_fault line (codes ": line too long\n")
scenario_fault_text (NotUtf8 at) = byte_fault at (codes ": not UTF-8\n")
scenario_fault_text (NulByte line) = line_fault line (codes ": zero byte\n")
scenario_fault_text (BadMeta line) = line_fault line (codes ": bad meta line\n")
scenario_fault_text (NoSession line) = line_fault line (codes ": no session\n")
scenario_fault_text (SameName line) = line_fault line (codes ": session name used twice\n")
scenario_fault_text (TooMany line) = line_fault line (codes ": too many\n")
scenario_fault_text Empty = codes "pgnotify: no session\n"
scenario_fault_text (NeverSignalled line) = line_fault line (codes ": flag is never signalled\n")

-- the offset of the message that is refused
abbrev pub at_of : WireFault → ℕ
at_of (BadType at) = at
at_of (BadLength at) = at
at_of (Truncated at) = at
at_of (BadText at) = at
at_of (TooManyQueries at) = at

-- where a client's bytes are at fault
abbrev pub wire_fault_text : WireFault → List ℕ
wire_fault_text fault = byte_fault (at_of fault) (codes ": bad message\n")

-- the offset of the frame that is refused
abbrev pub at_of_frame : FrameFault → ℕ
at_of_frame (CutFrame at) = at
at_of_frame (NoSeat at) = at

-- where frames are at fault
abbrev pub frame_fault_text : FrameFault → List ℕ
frame_fault_text fault = byte_fault (at_of_frame fault) (codes ": bad frame\n")

-- the line of an outcome, and nothing where the run is done
abbrev pub fault_text : Status → List ℕ
fault_text Done = []
fault_text BadWords = codes "usage: pgnotify run [--pages N] [--patience N] [--format N] [--live] or pgnotify drill SEED SESSIONS NOTES or pgnotify wire or pgnotify serve [--seats N] or pgnotify check [--pages N] [--patience N] [--format N]\n"
fault_text (BadScenario fault) = scenario_fault_text fault
fault_text ReadFault = codes "pgnotify: read failed\n"
fault_text WriteFault = codes "pgnotify: write failed\n"
fault_text NoMemory = codes "pgnotify: out of memory\n"
fault_text (BadWire fault) = wire_fault_text fault
fault_text (Illegal line) = codes "pgnotify: output is not legal\n"
fault_text NoOutput = codes "pgnotify: no output part\n"
fault_text CheckTooLarge = codes "pgnotify: check input is larger than 67108864 bytes\n"
fault_text (BadFrame fault) = frame_fault_text fault
