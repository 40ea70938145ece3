-- Texts that are cut or shown are short, and are text.
use Rattle.std.specs.Prelude.{nat_le}
use Rattle.std.proofs.Common.{◌≤◌, ◌<◌, ℕ, ◌&&◌, inl, inr, List, [], ◌∷◌, map, length, arith, IsUtf8}
use Rattle.std.proofs.lemmas.Bool.{cases_Bool, and_parts}
use Rattle.std.proofs.lemmas.Bool.Decides.{nat_tests}
use Rattle.std.proofs.lemmas.Str.{IsUtf8-append, IsUtf8-nil, IsUtf8-from_ascii}
use Rattle.std.proofs.lemmas.Str.Ascii.{IsAscii-cons, IsAscii-nil}
use Rattle.pgn_language.specs.Grammar.{cut}
use Rattle.pgn_language.proofs.TokenLaws.{cut-longest}
use Rattle.pgn_requests.specs.Values.{shown_byte}

shown-ascii : (b : ℕ) → shown_byte b < 128
shown-ascii b = elim (cases_Bool (nat_le 32 b && nat_le b 126)) [
  | inl e ↦ let parts = and_parts (nat_le 32 b) (nat_le b 126) e in let second = parts.1 in let low : b < 128 = grind (arith, nat_tests) in rw e low
  | inr e ↦ rw e (omega arith)
]

-- what is shown of a name is ASCII
pub shown-text : (bytes : List ℕ) → IsUtf8 (map shown_byte bytes)
shown-text [] = IsUtf8-nil
shown-text (b ∷ bytes) = IsUtf8-append (shown_byte b ∷ []) (map shown_byte bytes) (IsUtf8-from_ascii (shown_byte b ∷ []) (IsAscii-cons (shown_byte b) [] (shown-ascii b) IsAscii-nil)) (shown-text bytes)

-- what is cut is short
pub cut-few : (text : List ℕ) → IsUtf8 text → length (cut 63 text) ≤ 63
cut-few text u = (cut-longest 63 text u).short
