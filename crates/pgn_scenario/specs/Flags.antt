-- The flags that the lines so far name.
use Rattle.std.specs.Prelude.{ℕ, Bool, cond, List, [], ◌∷◌, ◌++◌, Option, None, Some, bytes_eq}
use Rattle.std.specs.Option.{is_some}
use Rattle.std.specs.Map.{lookup}
use Rattle.pgn_base.specs.Names.{has_name}
use Rattle.pgn_language.specs.Inputs.{with_name}

-- the flags in order of first appearance, those that are signalled, and those that are awaited, each with the first line that
-- awaits it, in the order of these lines
pub record Flags : Type 0 where
  pub names : List (List ℕ)
  pub signalled : List (List ℕ)
  pub awaited : List (List ℕ × ℕ)

-- no flag is named
abbrev pub no_flags : Flags
no_flags = record { names = []; signalled = []; awaited = [] }

-- a flag is among those that are awaited
abbrev pub has_wait : List (List ℕ × ℕ) → List ℕ → Bool
has_wait awaited flag = is_some (lookup (bytes_eq flag) awaited)

-- a line awaits a flag
abbrev pub with_wait : List (List ℕ × ℕ) → List ℕ → ℕ → List (List ℕ × ℕ)
with_wait awaited flag line = cond (has_wait awaited flag) awaited (awaited ++ (flag, line) ∷ [])

-- a flag is signalled
abbrev pub signalling : Flags → List ℕ → Flags
signalling flags flag = record { names = with_name flags.names flag; signalled = with_name flags.signalled flag; awaited = flags.awaited }

-- a flag is awaited at this line
abbrev pub awaiting : Flags → List ℕ → ℕ → Flags
awaiting flags flag line = record { names = with_name flags.names flag; signalled = flags.signalled; awaited = with_wait flags.awaited flag line }

-- the first line that awaits a flag which is not signalled
abbrev pub first_unsignalled : List (List ℕ) → List (List ℕ × ℕ) → Option ℕ
first_unsignalled signalled [] = None
first_unsignalled signalled (wait ∷ awaited) = cond (has_name signalled wait.0) (first_unsignalled signalled awaited) (Some wait.1)
