-- What a read or a write did to known bytes, and why it failed.
use Rattle.std.specs.Prelude.{◌≡◌, ℕ, ◌<◌, ◌≤◌, ◌⊎◌, List, ◌++◌, Option, None, Some, Result, OnErr, OnOk, MatchResult}
use Rattle.std.specs.Io.KnownBytes.{Appends}

-- where a count of faults stands still
abbrev pub last_count : ℕ
last_count = 18446744073709551615

-- the count rose between these two, or stands at its last value
abbrev pub Rose : ℕ → ℕ → Type 0
Rose before now = (before < now) ⊎ (last_count ≤ now)

-- a call fails only where a fault was counted, and where it does not fail none was; the count doesn't fall
pub record HasCause {T E : Type 0} (before now : ℕ) (result : Result T E) : Type 0 where
  pub later : before ≤ now
  pub failed : OnErr result (Rose before now)
  pub passed : OnOk result (now ≡ before)

-- known bytes grow by a prefix of a text
abbrev pub AppendsPrefix : Option (List ℕ) → Option (List ℕ) → List ℕ → Type 0
AppendsPrefix None new text = Unit {0}
AppendsPrefix (Some xs) None text = ⊥
AppendsPrefix (Some xs) (Some ys) text = (prefix : List ℕ) × (rest : List ℕ) × (text ≡ prefix ++ rest) × (ys ≡ xs ++ prefix)

-- known bytes grow by a text, or by a prefix of it where the call fails
abbrev pub Writes : {T E : Type 0} → Option (List ℕ) → Option (List ℕ) → Result T E → List ℕ → Type 0
Writes old new result text = MatchResult result (λ _. Appends old new text) (λ _. AppendsPrefix old new text)
