-- The table of commands, and the command that a line reads as. A line is a line of text; the table has forms of commands.
use Rattle.std.specs.Prelude.{◌≡◌, ℕ, zero, suc, Bool, true, false, ◌&&◌, ◌==◌, not, cond, nat_le, nat_lt, ◌⊎◌, List, [], ◌∷◌, ◌++◌, map, length, take, drop, flat_map, slice_index_or, Option, None, Some, codes}
use Rattle.std.specs.Str.{str_eq_ignore_ascii_case, str_to_ascii_lowercase, byte}
use Rattle.std.specs.Str.Parse.{digits_value}
use Rattle.std.specs.List.{repeat, list_any}
use Rattle.pgn_base.specs.declared.limits.TheConstants.{NAME_BYTES_MAX, PAYLOAD_BYTES_MAX, REPEATS_MAX}
use Rattle.pgn_base.specs.declared.note.Note.{Note}
use Rattle.pgn_base.specs.declared.answers.Which.{Which}
use Rattle.pgn_base.specs.declared.answers.Which.TheVariants.{ChannelEmpty, ChannelTooLong, PayloadTooLong}
use Rattle.pgn_base.specs.declared.command.Command.{Command}
use Rattle.pgn_base.specs.declared.command.Command.TheVariants as command
use Rattle.pgn_language.specs.Tokens.{Lexeme, Word, Quoted, Literal, Number, Sign, Wrong, Token, tokens}

-- what may stand at a slot of a form of the table
pub data Slot : Type 0 where
  -- this word, without regard to ASCII case
  Key : (word : List ℕ) → Slot
  -- a word or a quoted identifier
  Name : Slot
  -- a literal
  Quote : Slot
  -- a number of at most 10,000
  Count : Slot
  -- this sign
  Punct : (sign : ℕ) → Slot

-- the token may stand at the slot
abbrev pub fits_slot : Slot → Lexeme → Bool
fits_slot (Key word) (Word text) = str_eq_ignore_ascii_case word text
fits_slot Name (Word text) = true
fits_slot Name (Quoted text) = true
fits_slot Quote (Literal text) = true
fits_slot Count (Number digits) = nat_le (digits_value 10 digits) REPEATS_MAX
fits_slot (Punct sign) (Sign other) = sign == other
fits_slot slot lexeme = false

-- there is one token for each slot, and each may stand at its own
abbrev pub all_fit : List Slot → List Lexeme → Bool
all_fit [] [] = true
all_fit (slot ∷ slots) (lexeme ∷ lexemes) = fits_slot slot lexeme && all_fit slots lexemes
all_fit slots lexemes = false

-- a character begins these bytes, or none follows
abbrev pub begins_character : List ℕ → Bool
begins_character [] = true
begins_character (b ∷ bytes) = not (nat_le 128 b && nat_lt b 192)

-- the longest prefix of whole characters that has at most n bytes
unfoldable pub cut : ℕ → List ℕ → List ℕ
cut zero bytes = []
cut (suc n) bytes = elim (begins_character (drop (suc n) bytes)) [ true ↦ take (suc n) bytes | false ↦ cut n bytes ]

-- the name that a token is: a word in lower case, or a quoted identifier as it is, cut to 63 bytes
abbrev pub name_of : Lexeme → List ℕ
name_of (Word text) = cut NAME_BYTES_MAX (str_to_ascii_lowercase text)
name_of (Quoted text) = cut NAME_BYTES_MAX text
name_of lexeme = []

-- the text of a literal
abbrev pub text_of : Lexeme → List ℕ
text_of (Literal text) = text
text_of lexeme = []

-- the value of a number
abbrev pub value_of : Lexeme → ℕ
value_of (Number digits) = digits_value 10 digits
value_of lexeme = 0

-- the token at a slot, from 0
abbrev pub token_at : List Lexeme → ℕ → Lexeme
token_at lexemes n = slice_index_or lexemes n Wrong

-- a way to write a part of a form: its slots, and the texts that the tokens at them give
pub record Way : Type 0 where
  pub slots : List Slot
  pub texts : List Lexeme → List (List ℕ)

-- these slots, which give no text
abbrev pub silent : List Slot → Way
silent slots = record { slots = slots; texts = λ lexemes. [] }

-- a key word
abbrev pub key : List ℕ → List Way
key word = silent (Key word ∷ []) ∷ []

-- one of two key words
abbrev pub either : List ℕ → List ℕ → List Way
either one other = key one ++ key other

-- a sign
abbrev pub sign : ℕ → List Way
sign mark = silent (Punct mark ∷ []) ∷ []

-- a part that may be absent
abbrev pub optional : List Way → List Way
optional part = silent [] ∷ part

-- WORK or TRANSACTION, or neither
abbrev pub work : List Way
work = optional (either (codes "work") (codes "transaction"))

-- a name gives itself
abbrev pub name : List Way
name = record { slots = Name ∷ []; texts = λ lexemes. name_of (token_at lexemes 0) ∷ [] } ∷ []

-- a literal gives its text
abbrev pub literal : List Way
literal = record { slots = Quote ∷ []; texts = λ lexemes. text_of (token_at lexemes 0) ∷ [] } ∷ []

-- NULL gives the empty text
abbrev pub null : List Way
null = record { slots = Key (codes "null") ∷ []; texts = λ lexemes. [] ∷ [] } ∷ []

-- `repeat(text, n)` gives the text n times
abbrev pub repeated : List Way
repeated = record {
  slots = Key (codes "repeat") ∷ Punct (byte "(") ∷ Quote ∷ Punct (byte ",") ∷ Count ∷ Punct (byte ")") ∷ [];
  texts = λ lexemes. repeat (value_of (token_at lexemes 4)) (text_of (token_at lexemes 2)) ∷ [];
} ∷ []

-- an argument of pg_notify
abbrev pub argument : List Way
argument = literal ++ null ++ repeated

-- one way after another
abbrev pub followed : Way → Way → Way
followed a b = record { slots = a.slots ++ b.slots; texts = λ lexemes. a.texts (take (length a.slots) lexemes) ++ b.texts (drop (length a.slots) lexemes) }

-- the ways to write parts one after another
abbrev pub sequence : List (List Way) → List Way
sequence [] = silent [] ∷ []
sequence (part ∷ parts) = flat_map (λ way. map (followed way) (sequence parts)) part

-- a form of a command: its slots, and the command that tokens at them are
pub record Form : Type 0 where
  pub slots : List Slot
  pub command : List Lexeme → Command

-- the forms of a row: its parts, after which one `;` may stand, and the command with the texts that they give
abbrev pub row : List (List Way) → (List (List ℕ) → Command) → List Form
row parts gives = map (λ way. record { slots = way.slots; command = λ lexemes. gives (way.texts lexemes) }) (sequence (parts ++ optional (sign (byte ";")) ∷ []))

-- the first of the texts
abbrev pub first : List (List ℕ) → List ℕ
first texts = slice_index_or texts 0 []

-- the first of the texts as the channel, and the second as the payload, empty where none stands
abbrev pub note : List (List ℕ) → Note
note texts = record { channel = slice_index_or texts 0 []; payload = slice_index_or texts 1 [] }

-- the table of commands
unfoldable pub table : List Form
table =
    row [] (λ texts. command.Empty)
    ++ row (key (codes "begin") ∷ work ∷ []) (λ texts. command.Begin)
    ++ row (key (codes "start") ∷ key (codes "transaction") ∷ []) (λ texts. command.Start)
    ++ row (either (codes "commit") (codes "end") ∷ work ∷ []) (λ texts. command.Commit)
    ++ row (either (codes "rollback") (codes "abort") ∷ work ∷ []) (λ texts. command.Rollback)
    ++ row (key (codes "savepoint") ∷ name ∷ []) (λ texts. command.Savepoint (first texts))
    ++ row (key (codes "rollback") ∷ work ∷ key (codes "to") ∷ optional (key (codes "savepoint")) ∷ name ∷ []) (λ texts. command.RollbackTo (first texts))
    ++ row (key (codes "release") ∷ optional (key (codes "savepoint")) ∷ name ∷ []) (λ texts. command.Release (first texts))
    ++ row (key (codes "listen") ∷ name ∷ []) (λ texts. command.Listen (first texts))
    ++ row (key (codes "unlisten") ∷ name ∷ []) (λ texts. command.Unlisten (first texts))
    ++ row (key (codes "unlisten") ∷ sign (byte "*") ∷ []) (λ texts. command.UnlistenAll)
    ++ row (key (codes "notify") ∷ name ∷ []) (λ texts. command.Notify (note texts))
    ++ row (key (codes "notify") ∷ name ∷ sign (byte ",") ∷ literal ∷ []) (λ texts. command.Notify (note texts))
    ++ row (key (codes "select") ∷ key (codes "pg_notify") ∷ sign (byte "(") ∷ argument ∷ sign (byte ",") ∷ argument ∷ sign (byte ")") ∷ []) (λ texts. command.PgNotify (note texts))
    ++ row (key (codes "select") ∷ key (codes "pg_listening_channels") ∷ sign (byte "(") ∷ sign (byte ")") ∷ []) (λ texts. command.ListeningChannels)
    ++ row (key (codes "select") ∷ key (codes "pg_notification_queue_usage") ∷ sign (byte "(") ∷ sign (byte ")") ∷ []) (λ texts. command.QueueUsage)

-- tokens are one of these forms, with this command
abbrev pub IsOneOf : List Form → List Lexeme → Command → Type 0
IsOneOf [] lexemes command = ⊥
IsOneOf (form ∷ forms) lexemes command = ((all_fit form.slots lexemes ≡ true) × (form.command lexemes ≡ command)) ⊎ IsOneOf forms lexemes command

-- tokens are a form of the table, with this command
abbrev pub IsForm : List Lexeme → Command → Type 0
IsForm lexemes command = IsOneOf table lexemes command

-- there are further tokens, or none, with which these are a form of the table
pub record BeginsForm (lexemes : List Lexeme) : Type 0 where
  pub more : List Lexeme
  pub command : Command
  pub form : IsForm (lexemes ++ more) command

-- what tokens are, without the bytes where they begin
abbrev pub lexemes_of : List Token → List Lexeme
lexemes_of tokens = map (λ token. token.lexeme) tokens

-- a payload is too long
abbrev pub is_long : List ℕ → Bool
is_long payload = nat_lt PAYLOAD_BYTES_MAX (length payload)

-- which limit a call of pg_notify goes past: the first of three tests, of an empty channel, of a channel that is too long and
-- of a payload that is too long
abbrev pub past_limit : Note → Option Which
past_limit note =
    cond (length note.channel == 0) (Some ChannelEmpty)
    (cond (nat_lt NAME_BYTES_MAX (length note.channel)) (Some ChannelTooLong)
    (cond (is_long note.payload) (Some PayloadTooLong) None))

-- a command, or Invalid where its notification goes past a limit; the channel of NOTIFY is a name, which goes past none
abbrev pub limited : Command → Command
limited (command.Notify note) = cond (is_long note.payload) (command.Invalid PayloadTooLong) (command.Notify note)
limited (command.PgNotify note) = elim (past_limit note) [ None ↦ command.PgNotify note | Some which ↦ command.Invalid which ]
limited command = command

-- the command that a line reads as
pub data ReadsAs (text : List ℕ) : Command → Type 0 where
  -- its tokens are a form of the table
  Whole : (command : Command) → IsForm (lexemes_of (tokens text)) command → ReadsAs text (limited command)
  -- it goes wrong at the first token such that the tokens up to and including it begin no form of the table
  Stops : (prefix : List Token) → (token : Token) → (rest : List Token) → tokens text ≡ prefix ++ token ∷ rest → BeginsForm (lexemes_of prefix)
      → (BeginsForm (lexemes_of (prefix ++ token ∷ [])) → ⊥) → ReadsAs text (command.Bad token.at)
  -- it goes wrong at its end where all of its tokens begin a form of the table but are none
  Lacks : BeginsForm (lexemes_of (tokens text)) → ((command : Command) → IsForm (lexemes_of (tokens text)) command → ⊥) → ReadsAs text (command.Bad (length text))

-- What a line reads as, computed.

-- there is a slot for each token at which it may stand, from the first slot on
abbrev pub prefix_fits : List Slot → List Lexeme → Bool
prefix_fits slots [] = true
prefix_fits [] (lexeme ∷ lexemes) = false
prefix_fits (slot ∷ slots) (lexeme ∷ lexemes) = fits_slot slot lexeme && prefix_fits slots lexemes

-- tokens begin one of these forms
abbrev pub begin_one : List Form → List Lexeme → Bool
begin_one forms lexemes = list_any (λ form. prefix_fits form.slots lexemes) forms

-- the command of the first of these forms that tokens are
abbrev pub command_of : List Form → List Lexeme → Option Command
command_of [] lexemes = None
command_of (form ∷ forms) lexemes = elim (all_fit form.slots lexemes) [ true ↦ Some (form.command lexemes) | false ↦ command_of forms lexemes ]

-- where the first token begins with which those before it begin none of these forms, or the end
abbrev pub stop : List Form → ℕ → List Lexeme → List Token → ℕ
stop forms end prefix [] = end
stop forms end prefix (token ∷ tokens) = elim (begin_one forms (prefix ++ token.lexeme ∷ [])) [ true ↦ stop forms end (prefix ++ token.lexeme ∷ []) tokens | false ↦ token.at ]

-- the command that tokens are, or Bad with the byte where they stop
abbrev pub reading_of : ℕ → List Token → Option Command → Command
reading_of end tokens (Some command) = limited command
reading_of end tokens None = command.Bad (stop table end [] tokens)

-- the command that a line reads as
abbrev pub reading : List ℕ → Command
reading text = reading_of (length text) (tokens text) (command_of table (lexemes_of (tokens text)))
