-- What a text asks for that is no command of the grammar: the words that drivers send beside these.
use Rattle.std.specs.Prelude.{ℕ, zero, suc, ◌+◌, Bool, true, false, not, cond, ◌||◌, ◌&&◌, ◌==◌, nat_le, List, [], ◌∷◌, ◌++◌, length, take, drop, bytes_eq, codes, Option, None, Some}
use Rattle.std.specs.List.{prefix_len}
use Rattle.std.specs.Str.{str_eq_ignore_ascii_case, str_to_ascii_lowercase, byte}
use Rattle.pgn_base.specs.declared.limits.TheConstants.{NAME_BYTES_MAX}
use Rattle.pgn_base.specs.declared.note.Note.{Note}
use Rattle.pgn_base.specs.declared.command.Command.{Command}
use Rattle.pgn_base.specs.declared.answers.Which.TheVariants.{ChannelEmpty}
use Rattle.pgn_base.specs.declared.command.Command.TheVariants as command
use Rattle.pgn_language.specs.Tokens.{Lexeme, Word, Quoted, Literal, Number, tokens}
use Rattle.pgn_language.specs.Grammar.{Key, Name, Punct, fits_slot, cut, lexemes_of, limited}
use Rattle.pgn_requests.specs.declared.complaint.Cause.{Cause}
use Rattle.pgn_requests.specs.declared.complaint.Cause.TheVariants as cause
use Rattle.pgn_requests.specs.declared.complaint.Complaint.{Complaint}
use Rattle.pgn_requests.specs.declared.complaint.Wording.TheVariants.{Plain, Called, Refused}
use Rattle.pgn_requests.specs.declared.limits.TheConstants.{TOKENS_MAX}
use Rattle.pgn_requests.specs.declared.request.Request.{Request}
use Rattle.pgn_requests.specs.declared.request.Request.TheVariants.{Line, Settles, Discards}
use Rattle.pgn_requests.specs.declared.setting.Setting.{Setting}
use Rattle.pgn_requests.specs.declared.setting.Setting.TheVariants as setting
use Rattle.pgn_requests.specs.declared.settled.Settled.{Settled}
use Rattle.pgn_requests.specs.declared.settled.Settled.TheVariants as settled
use Rattle.pgn_requests.specs.Settings.{setting_name}
use Rattle.pgn_requests.specs.Texts.{one_line}
use Rattle.pgn_requests.specs.declared.verdict.Verdict.{Verdict}
use Rattle.pgn_requests.specs.declared.verdict.Verdict.TheVariants.{Becomes, Invalid, Unchangeable, Unsupported}
use Rattle.pgn_requests.specs.Values.{accepted}

-- What is refused.

-- the command that the session refuses for this cause: a text that cannot be read in each state of the block, what it asks not in a failed
-- one, where all such commands are ignored, and so it refuses it as one past a limit
abbrev pub refused_by : Cause → ℕ → Command
refused_by cause.BadEncoding at = command.Bad at
refused_by cause.BadMessage at = command.Bad at
refused_by why at = command.Invalid ChannelEmpty

-- a line that the session refuses at this byte, and a client is told why in these words
abbrev pub refused : List ℕ → ℕ → Cause → List ℕ → Request
refused line at why words = let complaint : Complaint = record { cause = why; text = words } in Line line (refused_by why at) (Refused complaint)

-- a bare text that the session refuses at this byte as a syntax error
abbrev pub unread : List ℕ → ℕ → Request
unread text at = Line (one_line text) (command.Bad at) Plain

-- a value as it is told
abbrev pub told_value : List ℕ → List ℕ
told_value value = cut NAME_BYTES_MAX value

-- no setting has this name
abbrev pub no_setting : List ℕ → List ℕ
no_setting name = codes "unrecognized configuration parameter \"" ++ told_value name ++ codes "\""

-- a setting cannot have this value
abbrev pub bad_value : Setting → List ℕ → List ℕ
bad_value one value = codes "invalid value for parameter \"" ++ setting_name one ++ codes "\": \"" ++ told_value value ++ codes "\""

-- a setting cannot be changed
abbrev pub fixed : Setting → List ℕ
fixed one = codes "parameter \"" ++ setting_name one ++ codes "\" cannot be changed"

-- the service cannot have this value of a setting
abbrev pub unsupported : Setting → List ℕ → List ℕ
unsupported one value = setting_name one ++ codes ": \"" ++ told_value value ++ codes "\" is not supported"

-- Words.

-- the token is this word, without regard to ASCII case
abbrev pub is_key : List ℕ → Lexeme → Bool
is_key word lexeme = fits_slot (Key word) lexeme

-- the tokens are this word and no other; these two; these three
abbrev pub is_one : List ℕ → List Lexeme → Bool
is_one word (a ∷ []) = is_key word a
is_one word lexemes = false

abbrev pub are_two : List ℕ → List ℕ → List Lexeme → Bool
are_two one other (a ∷ b ∷ []) = is_key one a && is_key other b
are_two one other lexemes = false

abbrev pub are_three : List ℕ → List ℕ → List ℕ → List Lexeme → Bool
are_three one other third (a ∷ b ∷ c ∷ []) = is_key one a && is_key other b && is_key third c
are_three one other third lexemes = false

-- the tokens after this word, if they begin with it; after these two
abbrev pub after_one : List ℕ → List Lexeme → Option (List Lexeme)
after_one word [] = None
after_one word (a ∷ lexemes) = cond (is_key word a) (Some lexemes) None

abbrev pub after_two : List ℕ → List ℕ → List Lexeme → Option (List Lexeme)
after_two one other (a ∷ b ∷ lexemes) = cond (is_key one a && is_key other b) (Some lexemes) None
after_two one other lexemes = None

-- what the tokens after some words are, or else
abbrev pub going : {A : Type 0} → Option (List Lexeme) → (List Lexeme → A) → A → A
going None goes otherwise = otherwise
going (Some rest) goes otherwise = goes rest

-- they are a call of this function without arguments
abbrev pub is_call : List ℕ → List Lexeme → Bool
is_call word (a ∷ b ∷ c ∷ []) = is_key word a && fits_slot (Punct (byte "(")) b && fits_slot (Punct (byte ")")) c
is_call word lexemes = false

-- Transactions with modes, which do nothing here.

-- the tokens after how a transaction is kept apart from others, or nothing where they do not begin with that
abbrev pub past_level : List Lexeme → Option (List Lexeme)
past_level lexemes =
    going (after_one (codes "serializable") lexemes) Some
    (going (after_two (codes "repeatable") (codes "read") lexemes) Some
    (going (after_two (codes "read") (codes "committed") lexemes) Some
    (going (after_two (codes "read") (codes "uncommitted") lexemes) Some None)))

-- the tokens after a mode of a transaction, or nothing where they begin with none
abbrev pub past_mode : List Lexeme → Option (List Lexeme)
past_mode lexemes =
    going (after_one (codes "deferrable") lexemes) Some
    (going (after_two (codes "not") (codes "deferrable") lexemes) Some
    (going (after_two (codes "read") (codes "write") lexemes) Some
    (going (after_two (codes "read") (codes "only") lexemes) Some
    (going (after_two (codes "isolation") (codes "level") lexemes) past_level None))))

-- without the comma at the front, where a token stands after it
abbrev pub past_comma : List Lexeme → List Lexeme
past_comma (a ∷ b ∷ lexemes) = cond (fits_slot (Punct (byte ",")) a) (b ∷ lexemes) (a ∷ b ∷ lexemes)
past_comma lexemes = lexemes

-- no token is left
abbrev pub is_end : List Lexeme → Bool
is_end [] = true
is_end (a ∷ lexemes) = false

-- the tokens are at most so many modes, with commas between them or without
abbrev pub are_modes : ℕ → List Lexeme → Bool
are_modes zero lexemes = false
are_modes (suc most) lexemes = going (past_mode lexemes) (λ rest. cond (is_end rest) true (are_modes most (past_comma rest))) false

-- without WORK or TRANSACTION at the front
abbrev pub past_work : List Lexeme → List Lexeme
past_work lexemes = going (after_one (codes "work") lexemes) (λ rest. rest) (going (after_one (codes "transaction") lexemes) (λ rest. rest) lexemes)

-- a line that is another command in the table's words
abbrev pub commanded : List ℕ → Command → Request
commanded text one = Line (one_line text) one Plain

-- after BEGIN
abbrev pub begin_asks : List ℕ → ℕ → List Lexeme → Request
begin_asks text at lexemes = cond (are_modes TOKENS_MAX (past_work lexemes)) (commanded text command.Begin) (unread text at)

-- after START
abbrev pub start_asks : List ℕ → ℕ → List Lexeme → Request
start_asks text at lexemes = going (after_one (codes "transaction") lexemes) (λ rest. cond (are_modes TOKENS_MAX rest) (commanded text command.Start) (unread text at)) (unread text at)

-- Constants and calls.

-- the number that is written so
abbrev pub is_number : List ℕ → Lexeme → Bool
is_number written (Number digits) = bytes_eq written digits
is_number written lexeme = false

-- one number, and nothing else
abbrev pub is_one_number : List ℕ → List Lexeme → Bool
is_one_number written (a ∷ []) = is_number written a
is_one_number written lexemes = false

-- the tokens after a `*` and FROM, if they begin with these
abbrev pub after_all_from : List Lexeme → Option (List Lexeme)
after_all_from (a ∷ b ∷ lexemes) = cond (fits_slot (Punct (byte "*")) a && is_key (codes "from") b) (Some lexemes) None
after_all_from lexemes = None

-- a `*`, FROM, and then a call of this function without arguments
abbrev pub is_all_of : List ℕ → List Lexeme → Bool
is_all_of word lexemes = going (after_all_from lexemes) (is_call word) false

-- after SELECT
abbrev pub select_asks : List ℕ → ℕ → List Lexeme → Request
select_asks text at lexemes =
    cond (is_one_number (codes "1") lexemes) (Settles settled.One)
    (cond (is_call (codes "version") lexemes) (Settles settled.Version)
    (cond (is_call (codes "pg_backend_pid") lexemes) (Settles settled.Process)
    (cond (is_all_of (codes "pg_listening_channels") lexemes) (commanded text command.ListeningChannels) (unread text at))))

-- Calls of pg_notify with brackets around arguments, as drivers put values into a text.

-- the tokens after this sign, if they begin with it
abbrev pub after_sign : ℕ → List Lexeme → Option (List Lexeme)
after_sign mark [] = None
after_sign mark (a ∷ lexemes) = cond (fits_slot (Punct mark) a) (Some lexemes) None

-- the tokens are this sign and no other
abbrev pub is_one_sign : ℕ → List Lexeme → Bool
is_one_sign mark (a ∷ []) = fits_slot (Punct mark) a
is_one_sign mark lexemes = false

-- the text of an argument, and the tokens after it
pub record Argued : Type 0 where
  pub text : List ℕ
  pub rest : List Lexeme

-- the argument that this token is, before these: a literal, or NULL for the empty text
abbrev pub argued : Lexeme → List Lexeme → Option Argued
argued (Literal text) rest = Some (record { text = text; rest = rest })
argued (Word text) rest = cond (str_eq_ignore_ascii_case (codes "null") text) (Some (record { text = []; rest = rest })) None
argued lexeme rest = None

-- the argument between brackets that tokens begin with
abbrev pub bracketed : List Lexeme → Option Argued
bracketed (a ∷ b ∷ c ∷ lexemes) = cond (fits_slot (Punct (byte "(")) a && fits_slot (Punct (byte ")")) c) (argued b lexemes) None
bracketed lexemes = None

-- the argument without brackets that they begin with
abbrev pub unbracketed : List Lexeme → Option Argued
unbracketed [] = None
unbracketed (a ∷ lexemes) = argued a lexemes

-- the argument that they begin with
abbrev pub argument_of : List Lexeme → Option Argued
argument_of lexemes = elim (bracketed lexemes) [ Some one ↦ Some one | None ↦ unbracketed lexemes ]

-- the notification of a call whose second argument and end these are
abbrev pub second_of : List ℕ → List Lexeme → Option Note
second_of channel lexemes = elim (argument_of lexemes) [
  | None ↦ None
  | Some payload ↦ cond (is_one_sign (byte ")") payload.rest) (Some (record { channel = channel; payload = payload.text })) None
]

-- the same, of its two arguments
abbrev pub first_of : List Lexeme → Option Note
first_of lexemes = elim (argument_of lexemes) [ None ↦ None | Some channel ↦ going (after_sign (byte ",") channel.rest) (second_of channel.text) None ]

-- the notification of a call of pg_notify
abbrev pub called : List Lexeme → Option Note
called lexemes = going (after_two (codes "select") (codes "pg_notify") lexemes) (λ rest. going (after_sign (byte "(") rest) first_of None) None

-- a notification is past a limit
abbrev pub is_past_limit : Command → Bool
is_past_limit (command.Invalid which) = true
is_past_limit command = false

-- the line that is such a call
abbrev pub notifies : List ℕ → Note → Request
notifies text note = let one : Command = limited (command.PgNotify note) in Line (one_line text) one (cond (is_past_limit one) Called Plain)

-- Settings.

-- the setting of this name among the last eight
abbrev pub later_named : List ℕ → Option Setting
later_named name =
    cond (str_eq_ignore_ascii_case (codes "server_version") name) (Some setting.ServerVersion)
    (cond (str_eq_ignore_ascii_case (codes "session_authorization") name) (Some setting.SessionAuthorization)
    (cond (str_eq_ignore_ascii_case (codes "standard_conforming_strings") name) (Some setting.StandardConformingStrings)
    (cond (str_eq_ignore_ascii_case (codes "TimeZone") name) (Some setting.TimeZone)
    (cond (str_eq_ignore_ascii_case (codes "client_min_messages") name) (Some setting.ClientMinMessages)
    (cond (str_eq_ignore_ascii_case (codes "extra_float_digits") name) (Some setting.ExtraFloatDigits)
    (cond (str_eq_ignore_ascii_case (codes "transaction_isolation") name) (Some setting.TransactionIsolation)
    (cond (str_eq_ignore_ascii_case (codes "transaction_read_only") name) (Some setting.TransactionReadOnly) None)))))))

-- the setting of this name, without regard to ASCII case
abbrev pub setting_named : List ℕ → Option Setting
setting_named name =
    cond (str_eq_ignore_ascii_case (codes "application_name") name) (Some setting.ApplicationName)
    (cond (str_eq_ignore_ascii_case (codes "client_encoding") name) (Some setting.ClientEncoding)
    (cond (str_eq_ignore_ascii_case (codes "DateStyle") name) (Some setting.DateStyle)
    (cond (str_eq_ignore_ascii_case (codes "default_transaction_read_only") name) (Some setting.DefaultTransactionReadOnly)
    (cond (str_eq_ignore_ascii_case (codes "in_hot_standby") name) (Some setting.InHotStandby)
    (cond (str_eq_ignore_ascii_case (codes "integer_datetimes") name) (Some setting.IntegerDatetimes)
    (cond (str_eq_ignore_ascii_case (codes "IntervalStyle") name) (Some setting.IntervalStyle)
    (cond (str_eq_ignore_ascii_case (codes "is_superuser") name) (Some setting.IsSuperuser)
    (cond (str_eq_ignore_ascii_case (codes "server_encoding") name) (Some setting.ServerEncoding) (later_named name)))))))))

-- the text of a word or of a quoted identifier
abbrev pub ident_text : Lexeme → List ℕ
ident_text (Word text) = text
ident_text (Quoted text) = text
ident_text lexeme = []

-- the token is a name
abbrev pub is_name : Lexeme → Bool
is_name lexeme = fits_slot Name lexeme

-- what is asked of the setting of this name, or that there is none
abbrev pub with_setting : List ℕ → ℕ → List ℕ → (Setting → Request) → Request
with_setting text at name asks = elim (setting_named name) [ Some one ↦ asks one | None ↦ refused (one_line text) at cause.NoSetting (no_setting name) ]

-- the value that a token is: a word in lower case, a text, or a number as it is written
abbrev pub value_text : Lexeme → Option (List ℕ)
value_text (Word text) = Some (str_to_ascii_lowercase text)
value_text (Quoted text) = Some text
value_text (Literal text) = Some text
value_text (Number digits) = Some digits
value_text lexeme = None

-- two values as one
abbrev pub joined : Option (List ℕ) → Option (List ℕ) → Option (List ℕ)
joined (Some one) (Some other) = Some (one ++ codes ", " ++ other)
joined one other = None

-- the value that tokens are: one token, or two with a comma between them
abbrev pub value_of : List Lexeme → Option (List ℕ)
value_of (a ∷ []) = value_text a
value_of (a ∷ b ∷ c ∷ []) = cond (fits_slot (Punct (byte ",")) b) (joined (value_text a) (value_text c)) None
value_of lexemes = None

-- a setting gets a value, if it can have it
abbrev pub set_asks : List ℕ → ℕ → Bool → List ℕ → Setting → Verdict → Request
set_asks text at starts value one (Becomes shown) = Settles (settled.Sets one shown starts)
set_asks text at starts value one Invalid = refused (one_line text) at cause.BadValue (bad_value one value)
set_asks text at starts value one Unchangeable = refused (one_line text) at cause.Fixed (fixed one)
set_asks text at starts value one Unsupported = refused (one_line text) at cause.Unsupported (unsupported one value)

-- a setting gets the value that these tokens are
abbrev pub given_asks : List ℕ → ℕ → Bool → Setting → Option (List ℕ) → Request
given_asks text at starts one None = unread text at
given_asks text at starts one (Some value) = set_asks text at starts value one (accepted one value)

-- nobody can change the setting
abbrev pub is_fixed : Setting → Bool
is_fixed setting.InHotStandby = true
is_fixed setting.IntegerDatetimes = true
is_fixed setting.IsSuperuser = true
is_fixed setting.ServerEncoding = true
is_fixed setting.ServerVersion = true
is_fixed one = false

-- a setting gets the value that it had at the start, if it can be changed
abbrev pub back_asks : List ℕ → ℕ → Settled → Setting → Request
back_asks text at back one = cond (is_fixed one) (refused (one_line text) at cause.Fixed (fixed one)) (Settles back)

-- a setting gets the value that these tokens are, or its own where they are DEFAULT
abbrev pub valued_asks : List ℕ → ℕ → Bool → List Lexeme → Setting → Request
valued_asks text at starts lexemes one = cond (is_one (codes "default") lexemes) (back_asks text at (settled.SetsBack one) one) (given_asks text at starts one (value_of lexemes))

-- a name, TO and a value
abbrev pub assigned_asks : List ℕ → ℕ → Bool → List Lexeme → Request
assigned_asks text at starts (a ∷ b ∷ lexemes) = cond (is_name a && is_key (codes "to") b) (with_setting text at (ident_text a) (valued_asks text at starts lexemes)) (unread text at)
assigned_asks text at starts lexemes = unread text at

-- after SET, and after SET SESSION
abbrev pub session_asks : List ℕ → ℕ → List Lexeme → Request
session_asks text at lexemes =
    going (after_two (codes "time") (codes "zone") lexemes) (λ rest. valued_asks text at false rest setting.TimeZone) (assigned_asks text at false lexemes)

-- after SET
abbrev pub setting_asks : List ℕ → ℕ → List Lexeme → Request
setting_asks text at lexemes =
    going (after_one (codes "local") lexemes) (λ rest. refused (one_line text) at cause.Unsupported (codes "SET LOCAL is not supported"))
    (going (after_one (codes "names") lexemes) (λ rest. valued_asks text at false rest setting.ClientEncoding)
    (going (after_one (codes "startup") lexemes) (λ rest. assigned_asks text at true rest)
    (going (after_two (codes "session") (codes "authorization") lexemes) (λ rest. valued_asks text at false rest setting.SessionAuthorization)
    (going (after_one (codes "session") lexemes) (λ rest. session_asks text at rest) (session_asks text at lexemes)))))

-- a setting is shown, or reset
abbrev pub named_settled : List ℕ → ℕ → Bool → Setting → Request
named_settled text at true one = Settles (settled.Shows one)
named_settled text at false one = back_asks text at (settled.Resets one) one

-- a name of a setting that is shown or reset, and nothing else
abbrev pub named_asks : List ℕ → ℕ → Bool → List Lexeme → Request
named_asks text at shows (a ∷ []) = cond (is_name a) (with_setting text at (ident_text a) (named_settled text at shows)) (unread text at)
named_asks text at shows lexemes = unread text at

-- after RESET
abbrev pub reset_asks : List ℕ → ℕ → List Lexeme → Request
reset_asks text at lexemes =
    cond (is_one (codes "all") lexemes) (Settles settled.ResetsAll)
    (cond (are_two (codes "session") (codes "authorization") lexemes) (Settles (settled.Resets setting.SessionAuthorization))
    (cond (are_two (codes "time") (codes "zone") lexemes) (Settles (settled.Resets setting.TimeZone))
    (named_asks text at false lexemes)))

-- after SHOW
abbrev pub show_asks : List ℕ → ℕ → List Lexeme → Request
show_asks text at lexemes =
    cond (are_three (codes "transaction") (codes "isolation") (codes "level") lexemes) (Settles (settled.Shows setting.TransactionIsolation))
    (cond (are_two (codes "session") (codes "authorization") lexemes) (Settles (settled.Shows setting.SessionAuthorization))
    (cond (are_two (codes "time") (codes "zone") lexemes) (Settles (settled.Shows setting.TimeZone))
    (named_asks text at true lexemes)))

-- The text.

-- what the tokens after a command's word ask for where they are none of the settings
abbrev pub other_asks : List ℕ → ℕ → Lexeme → List Lexeme → Request
other_asks text at a lexemes =
    cond (is_key (codes "deallocate") a && (is_one (codes "all") lexemes || are_two (codes "prepare") (codes "all") lexemes)) (Settles settled.Deallocates)
    (cond (is_key (codes "close") a && is_one (codes "all") lexemes) (Settles settled.Closes)
    (cond (is_key (codes "discard") a && is_one (codes "all") lexemes) Discards (unread text at)))

-- what the tokens of a bare text ask for that the grammar refuses at this byte
abbrev pub asks : List ℕ → ℕ → List Lexeme → Request
asks text at [] = unread text at
asks text at (a ∷ lexemes) =
    cond (is_key (codes "set") a) (setting_asks text at lexemes)
    (cond (is_key (codes "reset") a) (reset_asks text at lexemes)
    (cond (is_key (codes "show") a) (show_asks text at lexemes)
    (cond (is_key (codes "begin") a) (begin_asks text at lexemes)
    (cond (is_key (codes "start") a) (start_asks text at lexemes)
    (cond (is_key (codes "select") a) (select_asks text at lexemes) (other_asks text at a lexemes))))))

-- a byte before which a `=` is looked for: neither it nor a quote of a literal
abbrev pub is_before_equals : ℕ → Bool
is_before_equals b = not (b == 61 || b == 39)

-- a `=` stands at the front
abbrev pub begins_equals : List ℕ → Bool
begins_equals [] = false
begins_equals (b ∷ bytes) = b == 61

-- the tokens before a byte of a text, TO, and the tokens after the byte
abbrev pub spread_at : ℕ → List ℕ → List Lexeme
spread_at at text = lexemes_of (tokens (take at text)) ++ Word (codes "to") ∷ [] ++ lexemes_of (tokens (drop (at + 1) text))

-- the tokens of a bare text, where the first `=` stands for TO if it stands before each literal
abbrev pub spread : List ℕ → List Lexeme
spread text = let at : ℕ = prefix_len is_before_equals text in cond (begins_equals (drop at text)) (spread_at at text) (lexemes_of (tokens text))

-- the tokens, or none where they are too many
abbrev pub few : List Lexeme → List Lexeme
few lexemes = cond (nat_le (length lexemes) TOKENS_MAX) lexemes []

-- what the tokens of a bare text ask for that the grammar refuses at this byte, or the call with brackets that they are
abbrev pub calls_or_asks : List ℕ → ℕ → List Lexeme → Request
calls_or_asks text at lexemes = elim (called lexemes) [ Some note ↦ notifies text note | None ↦ asks text at lexemes ]

-- what a bare text asks for that the grammar refuses at this byte
abbrev pub asked_of : List ℕ → ℕ → Request
asked_of text at = calls_or_asks text at (few (spread text))
