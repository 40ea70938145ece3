-- Settings by their names, and values of them by words.
use Rattle.std.specs.Prelude.{ℕ, Bool, true, not, cond, ◌&&◌, nat_le, List, [], ◌∷◌, length, bytes_eq, Option, None, Some}
use Rattle.std.specs.Char.{is_ascii_alphanumeric}
use Rattle.std.specs.Str.{str_eq_ignore_ascii_case}
use Rattle.pgn_language.specs.Tokens.{is_blank}
use Rattle.pgn_requests.specs.declared.setting.Setting.{Setting}
use Rattle.pgn_requests.specs.Settings.{setting_name}

-- the first of these settings that has this name, without regard to ASCII case
abbrev pub named_among : List Setting → List ℕ → Option Setting
named_among [] name = None
named_among (one ∷ settings) name = cond (str_eq_ignore_ascii_case (setting_name one) name) (Some one) (named_among settings name)

-- the bytes are this word, with regard to ASCII case or without
abbrev pub is_same : Bool → List ℕ → List ℕ → Bool
is_same cased word bytes = cond cased (bytes_eq word bytes) (str_eq_ignore_ascii_case word bytes)

-- a letter or a digit is kept where only these are, and else all but a blank
abbrev pub is_kept : Bool → ℕ → Bool
is_kept letters byte = cond letters (is_ascii_alphanumeric byte) (not (is_blank byte))

-- what stands beside the first of these words that the bytes are
abbrev pub beside : Bool → List (List ℕ × List ℕ) → List ℕ → Option (List ℕ)
beside cased [] bytes = None
beside cased (row ∷ rows) bytes = cond (is_same cased row.0 bytes) (Some row.1) (beside cased rows bytes)

-- what stands beside them is short
abbrev pub are_short : List (List ℕ × List ℕ) → Bool
are_short [] = true
are_short (row ∷ rows) = nat_le (length row.1) 16 && are_short rows
