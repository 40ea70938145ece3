-- Which texts are names and payloads.
use Rattle.std.specs.Prelude.{ℕ, ◌<◌, ◌≤◌, List, length, Contains, IsUtf8}
use Rattle.pgn_base.specs.declared.limits.TheConstants.{NAME_BYTES_MAX, PAYLOAD_BYTES_MAX}

-- a name is 1 to 63 bytes of UTF-8, none of them zero
pub record IsName (bytes : List ℕ) : Type 0 where
  pub text : IsUtf8 bytes
  pub some : 0 < length bytes
  pub short : length bytes ≤ NAME_BYTES_MAX
  pub no_nul : Contains bytes 0 → ⊥

-- a payload is at most 7,999 bytes of UTF-8, none of them zero
pub record IsPayload (bytes : List ℕ) : Type 0 where
  pub text : IsUtf8 bytes
  pub short : length bytes ≤ PAYLOAD_BYTES_MAX
  pub no_nul : Contains bytes 0 → ⊥
