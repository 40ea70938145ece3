-- What a line reads as, computed, and the laws that tie this to the reading.
use Rattle.std.specs.Prelude.{◌≡◌, ◌≢◌, ◌↔◌, ℕ, Bool, true, false, cond, List, [], ◌∷◌, ◌++◌, map, filter_map, Option, None, Some}
use Rattle.std.specs.List.{list_any}
use Rattle.pgn_base.specs.declared.command.Command.{Command}
use Rattle.pgn_language.specs.Tokens.{Lexeme, Wrong}
use Rattle.pgn_language.specs.Grammar.{Slot, fits_slot, table, IsForm, BeginsForm, ReadsAs, begin_one, reading}

-- what begins a form of the table has only prefixes that begin one
abbrev pub PrefixBegins : Type 0
PrefixBegins = (prefix rest : List Lexeme) → BeginsForm (prefix ++ rest) → BeginsForm prefix

-- what is no token fits nowhere, whatever follows it
abbrev pub WrongFitsNowhere : Type 0
WrongFitsNowhere = (prefix rest : List Lexeme) → BeginsForm (prefix ++ Wrong ∷ rest) → ⊥

-- the slots that are left of a list after a token at the first of them
abbrev pub after_first : Lexeme → List Slot → Option (List Slot)
after_first lexeme [] = None
after_first lexeme (slot ∷ slots) = cond (fits_slot slot lexeme) (Some slots) None

-- what may follow tokens, where these slots were left before them
abbrev pub followers : List (List Slot) → List Lexeme → List (List Slot)
followers ways [] = ways
followers ways (lexeme ∷ lexemes) = followers (filter_map (after_first lexeme) ways) lexemes

-- the slots of the table's forms
abbrev pub table_slots : List (List Slot)
table_slots = map (λ form. form.slots) table

-- nothing is left of a list of slots
abbrev pub is_done : List Slot → Bool
is_done [] = true
is_done (slot ∷ slots) = false

-- tokens begin a form of the table exactly where something may follow them, be it nothing more
abbrev pub FollowersTell : Type 0
FollowersTell = (lexemes : List Lexeme) → BeginsForm lexemes ↔ (followers table_slots lexemes ≢ [])

-- tokens are a form of the table exactly where nothing more need follow them
abbrev pub FollowersDone : Type 0
FollowersDone = (lexemes : List Lexeme) → ((command : Command) × IsForm lexemes command) ↔ (list_any is_done (followers table_slots lexemes) ≡ true)

-- tokens begin a form of the table exactly where they fit the first slots of one
abbrev pub BeginsComputes : Type 0
BeginsComputes = (lexemes : List Lexeme) → BeginsForm lexemes ↔ (begin_one table lexemes ≡ true)

-- a line reads as a command exactly where it is the one computed
abbrev pub ReadingComputes : Type 0
ReadingComputes = (text : List ℕ) (command : Command) → ReadsAs text command ↔ (reading text ≡ command)

-- a line has exactly one reading
abbrev pub OneReading : Type 0
OneReading = (text : List ℕ) → (command : Command) × ReadsAs text command × ((other : Command) → ReadsAs text other → other ≡ command)
