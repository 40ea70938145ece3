-- Texts between quotes.
use Rattle.std.specs.Prelude.{◌≡◌, ℕ, Bool, ◌+◌, ◌-◌, ◌<◌, ◌≤◌, Option, MatchOption, drop, flat_map, ◌&&◌, ◌==◌, List, [], ◌∷◌, length, take, slice_index, true, false, Some}
use Rattle.pgn_language.specs.Tokens.{closed}
use Rattle.pgn_language.specs.Quotes.{doubled_byte}

-- a text with each quote that is written twice once
abbrev pub single : ℕ → List ℕ → List ℕ
single quote [] = []
single quote (b ∷ []) = b ∷ []
single quote (b ∷ c ∷ bytes) = elim (b == quote && c == quote) [ true ↦ quote ∷ single quote bytes | false ↦ b ∷ single quote (c ∷ bytes) ]

-- what follows an opening quote is a text as it is written, and its closing quote
pub record IsInside (quote : ℕ) (bytes : List ℕ) (by : ℕ) (raw : List ℕ) : Type 0 where
  pub quote_is : by ≡ quote
  pub front : raw ≡ take (length raw) bytes
  pub short : length raw + 1 ≤ length bytes
  pub last : slice_index bytes (length raw) ≡ quote
  pub closes : closed quote bytes ≡ Some (record { text = single quote raw; size = length raw + 1 })

-- the quote stands at the front
abbrev pub starts : ℕ → List ℕ → Bool
starts quote [] = false
starts quote (b ∷ bytes) = b == quote

-- no quote stands among the first n bytes
abbrev pub NoneAmong : ℕ → List ℕ → ℕ → Type 0
NoneAmong quote bytes n = (k : ℕ) → k < n → (slice_index bytes k == quote) ≡ true → ⊥

-- the first quote from a byte on
pub record IsQuoteAt (quote : ℕ) (bytes : List ℕ) (from at : ℕ) : Type 0 where
  pub low : from ≤ at
  pub high : at < length bytes
  pub is : slice_index bytes at ≡ quote
  pub before : NoneAmong quote (drop from bytes) (at - from)

-- where it stands, or that there is none
abbrev pub FindsQuote : ℕ → List ℕ → ℕ → Option ℕ → Type 0
FindsQuote quote bytes from found = MatchOption found (NoneAmong quote (drop from bytes) (length (drop from bytes))) (IsQuoteAt quote bytes from)

-- each quote is written twice
abbrev pub IsTwice : ℕ → List ℕ → Type 0
IsTwice quote raw = raw ≡ flat_map (doubled_byte quote) (single quote raw)
