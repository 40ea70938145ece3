-- The lines of an input, and what each of them says.
use Rattle.std.specs.Prelude.{ℕ, Bool, true, false, cond, not, ◌&&◌, ◌||◌, ◌==◌, nat_le, List, [], ◌∷◌, length, drop, reverse, filter, bytes_eq, codes}
use Rattle.std.specs.List.{list_all, onto_first, prefix_len, slice_split}
use Rattle.std.specs.Char.{is_ascii_alphanumeric, is_ascii_digit}
use Rattle.std.specs.Str.Parse.{digits_value}
use Rattle.pgn_base.specs.declared.limits.TheConstants.{NAME_BYTES_MAX}
use Rattle.pgn_base.specs.declared.command.Command.{Command}
use Rattle.pgn_base.specs.declared.command.Command.TheVariants.{Empty}
use Rattle.pgn_language.specs.Tokens.{is_blank}
use Rattle.pgn_language.specs.Grammar.{reading}

-- the lines of an input, cut at each LF; the last may lack it, and an input that ends with LF has no further line
abbrev pub lines_of : List ℕ → List (List ℕ)
lines_of [] = []
lines_of (byte ∷ bytes) = cond (byte == 10) ([] ∷ lines_of bytes) (onto_first byte (lines_of bytes))

-- a line without the blanks at its start
abbrev pub trimmed_start : List ℕ → List ℕ
trimmed_start line = drop (prefix_len is_blank line) line

-- a line without the blanks at its end
abbrev pub trimmed_end : List ℕ → List ℕ
trimmed_end line = reverse (trimmed_start (reverse line))

-- the text of a line: the line without the blanks at both ends
abbrev pub trimmed : List ℕ → List ℕ
trimmed line = trimmed_end (trimmed_start line)

-- a space or a tab
abbrev pub is_gap : ℕ → Bool
is_gap byte = byte == 32 || byte == 9

-- there is no byte
abbrev pub is_empty : List ℕ → Bool
is_empty [] = true
is_empty (byte ∷ bytes) = false

-- the parts of a text, which one or more spaces or tabs separate
abbrev pub parts_of : List ℕ → List (List ℕ)
parts_of text = filter (λ part. not (is_empty part)) (slice_split is_gap text)

-- an ASCII letter, a digit, `_` or `-`
abbrev pub is_label_byte : ℕ → Bool
is_label_byte byte = is_ascii_alphanumeric byte || byte == 95 || byte == 45

-- the name of a section or of a flag: 1 to 63 ASCII letters, digits, `_` or `-`
abbrev pub is_label : List ℕ → Bool
is_label text = nat_le 1 (length text) && nat_le (length text) NAME_BYTES_MAX && list_all is_label_byte text

-- the number of a database: 1 to 10 ASCII digits with a value from 1 to 4,294,967,295
abbrev pub is_database : List ℕ → Bool
is_database digits = nat_le 1 (length digits) && nat_le (length digits) 10 && list_all is_ascii_digit digits
    && nat_le 1 (digits_value 10 digits) && nat_le (digits_value 10 digits) 4294967295

-- what a line says
pub data Says : Type 0 where
  -- nothing: it is blank
  SaysNothing : Says
  -- `\session NAME DB`: a section begins
  Opens : (name : List ℕ) → (db : ℕ) → Says
  -- a command, be it one that is Bad or Invalid
  Runs : (command : Command) → Says
  -- `\signal FLAG`
  Signals : (flag : List ℕ) → Says
  -- `\await FLAG`
  Awaits : (flag : List ℕ) → Says
  -- `\quit`
  Quits : Says
  -- it begins as a meta line and is none
  NoMeta : Says

-- what a text that begins with `\` says, by its parts
abbrev pub meta_says : List (List ℕ) → Says
meta_says (word ∷ []) = cond (bytes_eq word (codes "\\quit")) Quits NoMeta
meta_says (word ∷ flag ∷ []) =
    cond (bytes_eq word (codes "\\signal") && is_label flag) (Signals flag)
    (cond (bytes_eq word (codes "\\await") && is_label flag) (Awaits flag) NoMeta)
meta_says (word ∷ name ∷ digits ∷ []) = cond (bytes_eq word (codes "\\session") && is_label name && is_database digits) (Opens name (digits_value 10 digits)) NoMeta
meta_says parts = NoMeta

-- what a line that reads as this command says: nothing where it is Empty
abbrev pub command_says : Command → Says
command_says Empty = SaysNothing
command_says command = Runs command

-- the text begins with `\`, as each meta line does
abbrev pub begins_meta : List ℕ → Bool
begins_meta [] = false
begins_meta (byte ∷ bytes) = byte == 92

-- what a text says
abbrev pub text_says : List ℕ → Says
text_says text = cond (begins_meta text) (meta_says (parts_of text)) (command_says (reading text))

-- what a line says
unfoldable pub says : List ℕ → Says
says line = text_says (trimmed line)
