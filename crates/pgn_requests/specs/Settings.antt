-- The settings of a client: their names, their values, and how these change.
use Rattle.std.specs.Prelude.{ℕ, Bool, true, false, cond, ◌==◌, List, [], ◌∷◌, codes}
use Rattle.pgn_answers.specs.declared.block_state.BlockState.{BlockState}
use Rattle.pgn_answers.specs.declared.block_state.BlockState.TheVariants.{Idle, InBlock, Failed}
use Rattle.pgn_requests.specs.declared.setting.Setting.{Setting}
use Rattle.pgn_requests.specs.declared.setting.Setting.TheVariants.{ApplicationName, ClientEncoding, DateStyle, DefaultTransactionReadOnly, InHotStandby, IntegerDatetimes, IntervalStyle, IsSuperuser, ServerEncoding, ServerVersion, SessionAuthorization, StandardConformingStrings, TimeZone, ClientMinMessages, ExtraFloatDigits, TransactionIsolation, TransactionReadOnly}
use Rattle.pgn_requests.specs.declared.settings.Entry.{Entry}
use Rattle.pgn_requests.specs.declared.settled.Settled.{Settled}
use Rattle.pgn_requests.specs.declared.settled.Settled.TheVariants.{Sets, SetsBack, Resets, ResetsAll}

-- a setting's number, by which settings are told apart
abbrev pub number_of : Setting → ℕ
number_of ApplicationName = 0
number_of ClientEncoding = 1
number_of DateStyle = 2
number_of DefaultTransactionReadOnly = 3
number_of InHotStandby = 4
number_of IntegerDatetimes = 5
number_of IntervalStyle = 6
number_of IsSuperuser = 7
number_of ServerEncoding = 8
number_of ServerVersion = 9
number_of SessionAuthorization = 10
number_of StandardConformingStrings = 11
number_of TimeZone = 12
number_of ClientMinMessages = 13
number_of ExtraFloatDigits = 14
number_of TransactionIsolation = 15
number_of TransactionReadOnly = 16

-- its name, as a server writes it
abbrev pub setting_name : Setting → List ℕ
setting_name ApplicationName = codes "application_name"
setting_name ClientEncoding = codes "client_encoding"
setting_name DateStyle = codes "DateStyle"
setting_name DefaultTransactionReadOnly = codes "default_transaction_read_only"
setting_name InHotStandby = codes "in_hot_standby"
setting_name IntegerDatetimes = codes "integer_datetimes"
setting_name IntervalStyle = codes "IntervalStyle"
setting_name IsSuperuser = codes "is_superuser"
setting_name ServerEncoding = codes "server_encoding"
setting_name ServerVersion = codes "server_version"
setting_name SessionAuthorization = codes "session_authorization"
setting_name StandardConformingStrings = codes "standard_conforming_strings"
setting_name TimeZone = codes "TimeZone"
setting_name ClientMinMessages = codes "client_min_messages"
setting_name ExtraFloatDigits = codes "extra_float_digits"
setting_name TransactionIsolation = codes "transaction_isolation"
setting_name TransactionReadOnly = codes "transaction_read_only"

-- its value where none was set
abbrev pub default_of : Setting → List ℕ
default_of ApplicationName = []
default_of ClientEncoding = codes "UTF8"
default_of DateStyle = codes "ISO, MDY"
default_of DefaultTransactionReadOnly = codes "off"
default_of InHotStandby = codes "off"
default_of IntegerDatetimes = codes "on"
default_of IntervalStyle = codes "postgres"
default_of IsSuperuser = codes "off"
default_of ServerEncoding = codes "UTF8"
default_of ServerVersion = codes "15.0 (pgnotify)"
default_of SessionAuthorization = codes "postgres"
default_of StandardConformingStrings = codes "on"
default_of TimeZone = codes "UTC"
default_of ClientMinMessages = codes "notice"
default_of ExtraFloatDigits = codes "1"
default_of TransactionIsolation = codes "read committed"
default_of TransactionReadOnly = codes "off"

-- all settings, in the order of their numbers, and those of whose changes a client is told
abbrev pub reported_settings : List Setting
reported_settings = ApplicationName ∷ ClientEncoding ∷ DateStyle ∷ DefaultTransactionReadOnly ∷ InHotStandby ∷ IntegerDatetimes ∷ IntervalStyle ∷ IsSuperuser ∷ ServerEncoding ∷ ServerVersion ∷ SessionAuthorization ∷ StandardConformingStrings ∷ TimeZone ∷ []

-- what was set is this setting
abbrev pub is_of : Setting → Entry → Bool
is_of setting entry = number_of entry.setting == number_of setting

-- the value of a setting, where these were set
abbrev pub value_in : List Entry → Setting → List ℕ
value_in [] setting = default_of setting
value_in (entry ∷ entries) setting = cond (is_of setting entry) entry.value (value_in entries setting)

-- what was set, and then this besides
abbrev pub with_value : List Entry → Setting → List ℕ → List Entry
with_value [] setting value = record { setting = setting; value = value } ∷ []
with_value (entry ∷ entries) setting value = cond (is_of setting entry)
    (record { setting = entry.setting; value = value } ∷ entries)
    (entry ∷ with_value entries setting value)

-- the settings of a client: what was set at its start, which is what RESET gives, and what is set now
pub record Kept : Type 0 where
  pub start : List Entry
  pub now : List Entry

-- before a client's first word
abbrev pub fresh : Kept
fresh = record { start = []; now = [] }

-- as at the start
abbrev pub set_back : Kept → Kept
set_back kept = record kept { now = kept.start }

-- this setting as at the start
abbrev pub with_start : Kept → Setting → Kept
with_start kept setting = record kept { now = with_value kept.now setting (value_in kept.start setting) }

-- this setting with this value, also at the start where it comes of it
abbrev pub with_set : Setting → List ℕ → Bool → Kept → Kept
with_set setting value true kept = record { start = with_value kept.start setting value; now = with_value kept.now setting value }
with_set setting value false kept = record kept { now = with_value kept.now setting value }

-- the settings after what was settled
abbrev pub settled_kept : Settled → Kept → Kept
settled_kept (Sets setting value starts) kept = with_set setting value starts kept
settled_kept (SetsBack setting) kept = with_start kept setting
settled_kept (Resets setting) kept = with_start kept setting
settled_kept ResetsAll kept = set_back kept
settled_kept other kept = kept

-- the same in a state of the block: in a failed one nothing is done
abbrev pub kept_after : BlockState → Settled → Kept → Kept
kept_after Idle settled kept = settled_kept settled kept
kept_after InBlock settled kept = settled_kept settled kept
kept_after Failed settled kept = kept
