-- Data of the examples.
use Rattle.std.specs.Prelude.{ℕ}
use Rattle.pgn_outlet.specs.declared.came.Came.{Came}

-- a number was pushed for a session
abbrev pub number_of : ℕ → ℕ → Came ℕ
number_of session number = record { session = session; what = number }
