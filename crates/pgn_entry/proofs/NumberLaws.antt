-- The numbers that byteorder reads and writes are those of the definitions.
use Rattle.std.proofs.Common.{◌≡◌, ℕ, ◌*◌, List, length, drop, refl, ap, ◌∙◌, arith}
use Rattle.std.specs.Int.{w32, w64, from_le_bytes}
use Rattle.std.specs.List.{between}
use Rattle.std.proofs.lemmas.Slice.{between_to_end}
use Rattle.byteorder.specs.Endian.{little_number}
use Rattle.pgn_base.specs.declared.format.Format.{Format}
use Rattle.pgn_base.specs.declared.format.Format.TheVariants.{One, Two}
use Rattle.pgn_entry.specs.Cells.{pid_place}
use Rattle.pgn_entry.specs.Reading.{number_at, long_at, stated_pid}

-- byteorder reads the number of std's words from four bytes
pub little_number_is : (bytes : List ℕ) → little_number 4 bytes ≡ from_le_bytes w32 bytes
little_number_is bytes = omega arith

-- a number that byteorder reads from a place on
pub read_at : (place : ℕ) (bytes : List ℕ) → little_number 4 (between place (length bytes) bytes) ≡ number_at place bytes
unfolding number_at
read_at place bytes = ap (little_number 4) (between_to_end bytes place (length bytes) (omega arith)) ∙ little_number_is (drop place bytes)

-- byteorder reads the number of std's words from eight bytes, and from a place on
little_long_is : (bytes : List ℕ) → little_number 8 bytes ≡ from_le_bytes w64 bytes
little_long_is bytes = omega arith

-- a number of eight bytes, read from a place on, is the one that stands there
pub read_long_at : (place : ℕ) (bytes : List ℕ) → little_number 8 (between place (length bytes) bytes) ≡ long_at place bytes
unfolding long_at
read_long_at place bytes = ap (little_number 8) (between_to_end bytes place (length bytes) (omega arith)) ∙ little_long_is (drop place bytes)

-- the process number stands in the cell of its place
pub pid_at : (format : Format) (bytes : List ℕ) → number_at (4 * pid_place format) bytes ≡ stated_pid format bytes
pid_at One bytes = refl
pid_at Two bytes = refl
