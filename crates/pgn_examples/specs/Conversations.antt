-- What clients of a service are told beside, byte by byte.
use Rattle.std.specs.Prelude.{ℕ, false, List, [], ◌∷◌, ◌++◌, None, codes}
use Rattle.pgn_base.specs.declared.answers.Refusal.TheVariants as refused
use Rattle.pgn_base.specs.declared.answers.Tag.TheVariants as tag
use Rattle.pgn_base.specs.declared.answers.Which.TheVariants.{ChannelEmpty}
use Rattle.pgn_base.specs.declared.command.Command.TheVariants as command
use Rattle.pgn_model.specs.declared.item.Item.{Item}
use Rattle.pgn_model.specs.declared.item.Item.TheVariants as item
use Rattle.pgn_requests.specs.declared.complaint.Cause.TheVariants.{NoSetting}
use Rattle.pgn_requests.specs.declared.complaint.Wording.TheVariants as wording
use Rattle.pgn_requests.specs.declared.setting.Setting.TheVariants.{ApplicationName, ExtraFloatDigits}
use Rattle.pgn_requests.specs.declared.settled.Settled.{Settled}
use Rattle.pgn_requests.specs.declared.settled.Settled.TheVariants.{Sets, Resets, Shows}
use Rattle.pgn_messages.specs.declared.asked.Asked.{Asked}
use Rattle.pgn_messages.specs.declared.asked.Ask.{Ask}
use Rattle.pgn_messages.specs.declared.asked.Ask.TheVariants.{Query, Discard}
use Rattle.pgn_messages.specs.declared.asked.Parting.TheVariants.{Plain}
use Rattle.pgn_messages.specs.Turns.{Turn, Leaves, Settles}

-- `SET application_name TO 'a'`, `SHOW application_name`, `RESET application_name`; and a setting of whose changes no client is told
abbrev pub sets_name : Settled
sets_name = Sets ApplicationName (codes "a") false

abbrev pub shows_name : Settled
shows_name = Shows ApplicationName

abbrev pub resets_name : Settled
resets_name = Resets ApplicationName

abbrev pub sets_digits : Settled
sets_digits = Sets ExtraFloatDigits (codes "3") false

-- `SET application_name TO ''`, which is its value at the start
abbrev pub sets_nothing : Settled
sets_nothing = Sets ApplicationName [] false

-- T with the length 0x21, one column of the type 23 with four bytes; D with `1`, C `SELECT 1`, Z
abbrev pub one_bytes : List ℕ
one_bytes = 84 ∷ 0 ∷ 0 ∷ 0 ∷ 33 ∷ 0 ∷ 1 ∷ (codes "?column?" ++ 0 ∷ 0 ∷ 0 ∷ 0 ∷ 0 ∷ 0 ∷ 0 ∷ 0 ∷ 0 ∷ 0 ∷ 23 ∷ 0 ∷ 4 ∷ 255 ∷ 255 ∷ 255 ∷ 255 ∷ 0 ∷ 0 ∷ 68 ∷ 0 ∷ 0 ∷ 0 ∷ 11 ∷ 0 ∷ 1 ∷ 0 ∷ 0 ∷ 0 ∷ 1 ∷ (codes "1" ++ 67 ∷ 0 ∷ 0 ∷ 0 ∷ 13 ∷ (codes "SELECT 1" ++ 0 ∷ 90 ∷ 0 ∷ 0 ∷ 0 ∷ 5 ∷ 73 ∷ [])))

-- the same without Z
abbrev pub endless_bytes : List ℕ
endless_bytes = 84 ∷ 0 ∷ 0 ∷ 0 ∷ 33 ∷ 0 ∷ 1 ∷ (codes "?column?" ++ 0 ∷ 0 ∷ 0 ∷ 0 ∷ 0 ∷ 0 ∷ 0 ∷ 0 ∷ 0 ∷ 0 ∷ 23 ∷ 0 ∷ 4 ∷ 255 ∷ 255 ∷ 255 ∷ 255 ∷ 0 ∷ 0 ∷ 68 ∷ 0 ∷ 0 ∷ 0 ∷ 11 ∷ 0 ∷ 1 ∷ 0 ∷ 0 ∷ 0 ∷ 1 ∷ (codes "1" ++ 67 ∷ 0 ∷ 0 ∷ 0 ∷ 13 ∷ (codes "SELECT 1" ++ 0 ∷ [])))

-- T with the length 0x27, D with `1002`, C `SELECT 1`, Z
abbrev pub process_bytes : List ℕ
process_bytes = 84 ∷ 0 ∷ 0 ∷ 0 ∷ 39 ∷ 0 ∷ 1 ∷ (codes "pg_backend_pid" ++ 0 ∷ 0 ∷ 0 ∷ 0 ∷ 0 ∷ 0 ∷ 0 ∷ 0 ∷ 0 ∷ 0 ∷ 23 ∷ 0 ∷ 4 ∷ 255 ∷ 255 ∷ 255 ∷ 255 ∷ 0 ∷ 0 ∷ 68 ∷ 0 ∷ 0 ∷ 0 ∷ 14 ∷ 0 ∷ 1 ∷ 0 ∷ 0 ∷ 0 ∷ 4 ∷ (codes "1002" ++ 67 ∷ 0 ∷ 0 ∷ 0 ∷ 13 ∷ (codes "SELECT 1" ++ 0 ∷ 90 ∷ 0 ∷ 0 ∷ 0 ∷ 5 ∷ 73 ∷ [])))

-- T with the length 0x20, one column of the type 25, which is text; D, C `SELECT 1`, Z
abbrev pub version_bytes : List ℕ
version_bytes = 84 ∷ 0 ∷ 0 ∷ 0 ∷ 32 ∷ 0 ∷ 1 ∷ (codes "version" ++ 0 ∷ 0 ∷ 0 ∷ 0 ∷ 0 ∷ 0 ∷ 0 ∷ 0 ∷ 0 ∷ 0 ∷ 25 ∷ 255 ∷ 255 ∷ 255 ∷ 255 ∷ 255 ∷ 255 ∷ 0 ∷ 0 ∷ 68 ∷ 0 ∷ 0 ∷ 0 ∷ 36 ∷ 0 ∷ 1 ∷ 0 ∷ 0 ∷ 0 ∷ 26 ∷ (codes "PostgreSQL 15.0 (pgnotify)" ++ 67 ∷ 0 ∷ 0 ∷ 0 ∷ 13 ∷ (codes "SELECT 1" ++ 0 ∷ 90 ∷ 0 ∷ 0 ∷ 0 ∷ 5 ∷ 73 ∷ [])))

-- C `SET`, S with the setting and its value, Z
abbrev pub set_bytes : List ℕ
set_bytes = 67 ∷ 0 ∷ 0 ∷ 0 ∷ 8 ∷ (codes "SET" ++ 0 ∷ 83 ∷ 0 ∷ 0 ∷ 0 ∷ 23 ∷ (codes "application_name" ++ 0 ∷ (codes "a" ++ 0 ∷ 90 ∷ 0 ∷ 0 ∷ 0 ∷ 5 ∷ 73 ∷ [])))

-- C `SET`, Z
abbrev pub unreported_bytes : List ℕ
unreported_bytes = 67 ∷ 0 ∷ 0 ∷ 0 ∷ 8 ∷ (codes "SET" ++ 0 ∷ 90 ∷ 0 ∷ 0 ∷ 0 ∷ 5 ∷ 73 ∷ [])

-- C `SET`, S with the empty value that the setting had before, Z
abbrev pub same_status_bytes : List ℕ
same_status_bytes = 67 ∷ 0 ∷ 0 ∷ 0 ∷ 8 ∷ (codes "SET" ++ 0 ∷ 83 ∷ 0 ∷ 0 ∷ 0 ∷ 22 ∷ (codes "application_name" ++ 0 ∷ 0 ∷ 90 ∷ 0 ∷ 0 ∷ 0 ∷ 5 ∷ 73 ∷ []))

-- T with the length 0x29, D with `a`, C `SHOW`, Z
abbrev pub show_bytes : List ℕ
show_bytes = 84 ∷ 0 ∷ 0 ∷ 0 ∷ 41 ∷ 0 ∷ 1 ∷ (codes "application_name" ++ 0 ∷ 0 ∷ 0 ∷ 0 ∷ 0 ∷ 0 ∷ 0 ∷ 0 ∷ 0 ∷ 0 ∷ 25 ∷ 255 ∷ 255 ∷ 255 ∷ 255 ∷ 255 ∷ 255 ∷ 0 ∷ 0 ∷ 68 ∷ 0 ∷ 0 ∷ 0 ∷ 11 ∷ 0 ∷ 1 ∷ 0 ∷ 0 ∷ 0 ∷ 1 ∷ (codes "a" ++ 67 ∷ 0 ∷ 0 ∷ 0 ∷ 9 ∷ (codes "SHOW" ++ 0 ∷ 90 ∷ 0 ∷ 0 ∷ 0 ∷ 5 ∷ 73 ∷ [])))

-- C `RESET`, S with the empty value, Z
abbrev pub reset_bytes : List ℕ
reset_bytes = 67 ∷ 0 ∷ 0 ∷ 0 ∷ 10 ∷ (codes "RESET" ++ 0 ∷ 83 ∷ 0 ∷ 0 ∷ 0 ∷ 22 ∷ (codes "application_name" ++ 0 ∷ 0 ∷ 90 ∷ 0 ∷ 0 ∷ 0 ∷ 5 ∷ 73 ∷ []))

-- E with the length 0x6b and the code 25P02, Z in a failed block
abbrev pub aborted_bytes : List ℕ
aborted_bytes = 69 ∷ 0 ∷ 0 ∷ 0 ∷ 107 ∷ (codes "SERROR" ++ 0 ∷ (codes "VERROR" ++ 0 ∷ (codes "C25P02" ++ 0 ∷ (codes "Mcurrent transaction is aborted, commands ignored until end of transaction block" ++ 0 ∷ 0 ∷ 90 ∷ 0 ∷ 0 ∷ 0 ∷ 5 ∷ 69 ∷ []))))

-- C `DISCARD ALL`; S with the empty value; E with the length 0x4d and the code 25001, Z in a failed block
abbrev pub discarded_bytes : List ℕ
discarded_bytes = 67 ∷ 0 ∷ 0 ∷ 0 ∷ 16 ∷ (codes "DISCARD ALL" ++ 0 ∷ [])

abbrev pub name_bytes : List ℕ
name_bytes = 83 ∷ 0 ∷ 0 ∷ 0 ∷ 22 ∷ (codes "application_name" ++ 0 ∷ 0 ∷ [])

abbrev pub in_block_bytes : List ℕ
in_block_bytes = 69 ∷ 0 ∷ 0 ∷ 0 ∷ 77 ∷ (codes "SERROR" ++ 0 ∷ (codes "VERROR" ++ 0 ∷ (codes "C25001" ++ 0 ∷ (codes "MDISCARD ALL cannot run inside a transaction block" ++ 0 ∷ 0 ∷ 90 ∷ 0 ∷ 0 ∷ 0 ∷ 5 ∷ 69 ∷ []))))

-- Z outside of a block
abbrev pub idle_bytes : List ℕ
idle_bytes = 90 ∷ 0 ∷ 0 ∷ 0 ∷ 5 ∷ 73 ∷ []

-- a client begins a block, and asks `DISCARD ALL` in it and again
abbrev pub begin_first : Asked
begin_first = record { line = 1; text = codes "BEGIN"; command = command.Begin; wording = wording.Plain }

abbrev pub failing_asks : List Ask
failing_asks = Query begin_first ∷ Discard 2 ∷ Discard 4 ∷ []

abbrev pub failing_items : List Item
failing_items =
    item.Line 1 ∷ item.Reply tag.Begin None ∷ item.Line 2 ∷ item.Refuse (refused.Syntax 0) ∷ item.Line 3 ∷ item.Refuse refused.Aborted
    ∷ item.Line 4 ∷ item.Refuse (refused.Syntax 0) ∷ item.Line 5 ∷ item.Refuse refused.Aborted ∷ []

-- and the first two of them
abbrev pub failed_items : List Item
failed_items = item.Line 1 ∷ item.Reply tag.Begin None ∷ item.Line 2 ∷ item.Refuse (refused.Syntax 0) ∷ item.Line 3 ∷ item.Refuse refused.Aborted ∷ []

-- T with the length 0x22, one column of the type 2278 with four bytes; D with an empty text, C `SELECT 1`, Z
abbrev pub call_bytes : List ℕ
call_bytes = 84 ∷ 0 ∷ 0 ∷ 0 ∷ 34 ∷ 0 ∷ 1 ∷ (codes "pg_notify" ++ 0 ∷ 0 ∷ 0 ∷ 0 ∷ 0 ∷ 0 ∷ 0 ∷ 0 ∷ 0 ∷ 8 ∷ 230 ∷ 0 ∷ 4 ∷ 255 ∷ 255 ∷ 255 ∷ 255 ∷ 0 ∷ 0 ∷ 68 ∷ 0 ∷ 0 ∷ 0 ∷ 10 ∷ 0 ∷ 1 ∷ 0 ∷ 0 ∷ 0 ∷ 0 ∷ 67 ∷ 0 ∷ 0 ∷ 0 ∷ 13 ∷ (codes "SELECT 1" ++ 0 ∷ 90 ∷ 0 ∷ 0 ∷ 0 ∷ 5 ∷ 73 ∷ []))

-- a call of pg_notify without a channel: T, E with the length 0x38 and the code 22023, Z
abbrev pub empty_call : Asked
empty_call = record { line = 1; text = codes "SELECT pg_notify('', 'x')"; command = command.Invalid ChannelEmpty; wording = wording.Called }

abbrev pub empty_call_items : List Item
empty_call_items = item.Line 1 ∷ item.Refuse (refused.Bounds ChannelEmpty) ∷ []

abbrev pub empty_call_bytes : List ℕ
empty_call_bytes = 84 ∷ 0 ∷ 0 ∷ 0 ∷ 34 ∷ 0 ∷ 1 ∷ (codes "pg_notify" ++ 0 ∷ 0 ∷ 0 ∷ 0 ∷ 0 ∷ 0 ∷ 0 ∷ 0 ∷ 0 ∷ 8 ∷ 230 ∷ 0 ∷ 4 ∷ 255 ∷ 255 ∷ 255 ∷ 255 ∷ 0 ∷ 0 ∷ 69 ∷ 0 ∷ 0 ∷ 0 ∷ 56 ∷ (codes "SERROR" ++ 0 ∷ (codes "VERROR" ++ 0 ∷ (codes "C22023" ++ 0 ∷ (codes "Mchannel name cannot be empty" ++ 0 ∷ 0 ∷ 90 ∷ 0 ∷ 0 ∷ 0 ∷ 5 ∷ 73 ∷ [])))))

-- one of 256 pages is occupied: T with the length 0x34, one column of the type 701 with eight bytes; D, C `SELECT 1`, Z
abbrev pub measure : Asked
measure = record { line = 1; text = codes "SELECT pg_notification_queue_usage()"; command = command.QueueUsage; wording = wording.Plain }

abbrev pub measure_items : List Item
measure_items = item.Line 1 ∷ item.Used (record { at = 3; occupied = 1; limit = 256; floor_mark = 3; holder = None }) ∷ item.Reply (tag.Select 1) None ∷ []

abbrev pub measure_bytes : List ℕ
measure_bytes = 84 ∷ 0 ∷ 0 ∷ 0 ∷ 52 ∷ 0 ∷ 1 ∷ (codes "pg_notification_queue_usage" ++ 0 ∷ 0 ∷ 0 ∷ 0 ∷ 0 ∷ 0 ∷ 0 ∷ 0 ∷ 0 ∷ 2 ∷ 189 ∷ 0 ∷ 8 ∷ 255 ∷ 255 ∷ 255 ∷ 255 ∷ 0 ∷ 0 ∷ 68 ∷ 0 ∷ 0 ∷ 0 ∷ 20 ∷ 0 ∷ 1 ∷ 0 ∷ 0 ∷ 0 ∷ 10 ∷ (codes "0.00390625" ++ 67 ∷ 0 ∷ 0 ∷ 0 ∷ 13 ∷ (codes "SELECT 1" ++ 0 ∷ 90 ∷ 0 ∷ 0 ∷ 0 ∷ 5 ∷ 73 ∷ [])))

-- there is no such setting: E with the length 0x49 and the code 42704, Z
abbrev pub colour : Asked
colour =
    record {
      line = 1;
      text = codes "SET colour TO 'red'";
      command = command.Bad 0;
      wording = wording.Refused (record { cause = NoSetting; text = codes "unrecognized configuration parameter \"colour\"" });
    }

abbrev pub colour_items : List Item
colour_items = item.Line 1 ∷ item.Refuse (refused.Syntax 0) ∷ []

abbrev pub colour_bytes : List ℕ
colour_bytes = 69 ∷ 0 ∷ 0 ∷ 0 ∷ 73 ∷ (codes "SERROR" ++ 0 ∷ (codes "VERROR" ++ 0 ∷ (codes "C42704" ++ 0 ∷ (codes "Munrecognized configuration parameter \"colour\"" ++ 0 ∷ 0 ∷ 90 ∷ 0 ∷ 0 ∷ 0 ∷ 5 ∷ 73 ∷ []))))

-- E with the length 0x42, where a client sends a message of the extended protocol
abbrev pub extended_bytes : List ℕ
extended_bytes = 69 ∷ 0 ∷ 0 ∷ 0 ∷ 66 ∷ (codes "SFATAL" ++ 0 ∷ (codes "VFATAL" ++ 0 ∷ (codes "C0A000" ++ 0 ∷ (codes "Mthe extended protocol is not supported" ++ 0 ∷ 0 ∷ []))))

-- a client sets its name, and leaves; the next one asks
abbrev pub named_before : List Turn
named_before = Settles sets_name ∷ Leaves Plain 1 [] [] ∷ []

-- a name of 64 letters, which is cut to 63; of 63; of 64 in quotes, the first of them great; and of 62 with a character of three bytes
abbrev pub long_listen : Asked
long_listen = record { line = 1; text = codes "LISTEN aaaaaaaaaaaaaaaaaaaaaaaaaaaaaaaaaaaaaaaaaaaaaaaaaaaaaaaaaaaaaaaa"; command = command.Listen (codes "aaaaaaaaaaaaaaaaaaaaaaaaaaaaaaaaaaaaaaaaaaaaaaaaaaaaaaaaaaaaaaa"); wording = wording.Plain }

abbrev pub short_listen : Asked
short_listen = record { line = 1; text = codes "LISTEN aaaaaaaaaaaaaaaaaaaaaaaaaaaaaaaaaaaaaaaaaaaaaaaaaaaaaaaaaaaaaaa"; command = command.Listen (codes "aaaaaaaaaaaaaaaaaaaaaaaaaaaaaaaaaaaaaaaaaaaaaaaaaaaaaaaaaaaaaaa"); wording = wording.Plain }

abbrev pub quoted_listen : Asked
quoted_listen = record { line = 1; text = codes "LISTEN \"Aaaaaaaaaaaaaaaaaaaaaaaaaaaaaaaaaaaaaaaaaaaaaaaaaaaaaaaaaaaaaaaa\""; command = command.Listen (codes "Aaaaaaaaaaaaaaaaaaaaaaaaaaaaaaaaaaaaaaaaaaaaaaaaaaaaaaaaaaaaaaa"); wording = wording.Plain }

abbrev pub wide_listen : Asked
wide_listen = record { line = 1; text = codes "LISTEN aaaaaaaaaaaaaaaaaaaaaaaaaaaaaaaaaaaaaaaaaaaaaaaaaaaaaaaaaaaaaa" ++ 226 ∷ 130 ∷ 172 ∷ []; command = command.Listen (codes "aaaaaaaaaaaaaaaaaaaaaaaaaaaaaaaaaaaaaaaaaaaaaaaaaaaaaaaaaaaaaa"); wording = wording.Plain }

-- the items of each of the four
abbrev pub listened_items : List Item
listened_items = item.Line 1 ∷ item.Enlist 3 3 ∷ item.Reply tag.Listen None ∷ []

-- N with the length 0xc2, and its fields, for the first of them, the third and the last
abbrev pub notice_with : List ℕ → List ℕ
notice_with text = 78 ∷ 0 ∷ 0 ∷ 0 ∷ 194 ∷ (codes "SNOTICE" ++ 0 ∷ (codes "VNOTICE" ++ 0 ∷ (codes "C42622" ++ 0 ∷ (77 ∷ text ++ 0 ∷ 0 ∷ []))))

abbrev pub long_notice : List ℕ
long_notice = notice_with (codes "identifier \"aaaaaaaaaaaaaaaaaaaaaaaaaaaaaaaaaaaaaaaaaaaaaaaaaaaaaaaaaaaaaaaa\" will be truncated to \"aaaaaaaaaaaaaaaaaaaaaaaaaaaaaaaaaaaaaaaaaaaaaaaaaaaaaaaaaaaaaaa\"")

abbrev pub quoted_notice : List ℕ
quoted_notice = notice_with (codes "identifier \"Aaaaaaaaaaaaaaaaaaaaaaaaaaaaaaaaaaaaaaaaaaaaaaaaaaaaaaaaaaaaaaaa\" will be truncated to \"Aaaaaaaaaaaaaaaaaaaaaaaaaaaaaaaaaaaaaaaaaaaaaaaaaaaaaaaaaaaaaaa\"")

abbrev pub wide_notice : List ℕ
wide_notice = notice_with (codes "identifier \"aaaaaaaaaaaaaaaaaaaaaaaaaaaaaaaaaaaaaaaaaaaaaaaaaaaaaaaaaaaaaa" ++ 226 ∷ 130 ∷ 172 ∷ codes "\" will be truncated to \"aaaaaaaaaaaaaaaaaaaaaaaaaaaaaaaaaaaaaaaaaaaaaaaaaaaaaaaaaaaaaa\"")

-- in a failed block
abbrev pub failed_listen : Asked
failed_listen = record long_listen { line = 4 }

abbrev pub failed_listen_items : List Item
failed_listen_items = failed_items ++ item.Line 4 ∷ item.Refuse refused.Aborted ∷ []
