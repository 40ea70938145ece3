-- Four conversations, and an error that ends one.
use Rattle.std.specs.Prelude.{ℕ, List, [], ◌∷◌, ◌++◌, Some, None, codes}
use Rattle.pgn_base.specs.declared.note.Note.{Note}
use Rattle.pgn_base.specs.declared.answers.Tag.TheVariants as tag
use Rattle.pgn_base.specs.declared.answers.Warning.TheVariants as warning
use Rattle.pgn_base.specs.declared.answers.Refusal.TheVariants as refused
use Rattle.pgn_base.specs.declared.command.Command.TheVariants as command
use Rattle.pgn_base.specs.declared.queue_answers.Usage.{Usage}
use Rattle.pgn_language.specs.declared.scenario.Act.TheVariants.{Run, Quit}
use Rattle.pgn_language.specs.declared.scenario.ScriptLine.{ScriptLine}
use Rattle.pgn_language.specs.declared.scenario.Section.{Section}
use Rattle.pgn_model.specs.declared.item.Item.{Item}
use Rattle.pgn_model.specs.declared.item.Item.TheVariants.{Line, Enlist, Publish, Leave, Reply, Refuse, Channels, Used, Read}

-- the notification `NOTIFY c, 'x'`
abbrev pub sent : Note
sent = record { channel = codes "c"; payload = codes "x" }

-- the line that ends the script of a conversation
abbrev pub quits : ScriptLine
quits = record { line = 4294967295; text = codes "\\quit"; act = Quit }

-- a conversation of these queries
abbrev pub conversation : List ScriptLine → Section
conversation queries = record { no = 1; name = codes "wire"; db = 1; lines = queries ++ quits ∷ []; note_lines = 65536 }

-- `LISTEN c` and `NOTIFY c, 'x'`
abbrev pub first_section : Section
first_section = conversation (record { line = 1; text = codes "LISTEN c"; act = Run (command.Listen (codes "c")) } ∷ record { line = 2; text = codes "NOTIFY c, 'x'"; act = Run (command.Notify sent) } ∷ [])

-- what the session did: it became a listener, sent the notification, received it, and left
abbrev pub first_items : List Item
first_items =
    Line 1 ∷ Enlist 3 3 ∷ Reply tag.Listen None ∷ Line 2 ∷ Publish 3 (sent ∷ []) ∷ Reply tag.Notify None ∷ Read 3 4 (record { xid = 3; pid = 1001; note = sent } ∷ []) ∷ Line 4294967295 ∷ Leave ∷ []

-- C `LISTEN`, Z, C `NOTIFY`, A with 1001, `c` and `x`, Z
abbrev pub first_bytes : List ℕ
first_bytes =
    67 ∷ 0 ∷ 0 ∷ 0 ∷ 11 ∷ 76 ∷ 73 ∷ 83 ∷ 84 ∷ 69 ∷ 78 ∷ 0 ∷ 90 ∷ 0 ∷ 0 ∷ 0 ∷ 5 ∷ 73
    ∷ 67 ∷ 0 ∷ 0 ∷ 0 ∷ 11 ∷ 78 ∷ 79 ∷ 84 ∷ 73 ∷ 70 ∷ 89 ∷ 0 ∷ 65 ∷ 0 ∷ 0 ∷ 0 ∷ 12 ∷ 0 ∷ 0 ∷ 3 ∷ 233 ∷ 99 ∷ 0 ∷ 120 ∷ 0 ∷ 90 ∷ 0 ∷ 0 ∷ 0 ∷ 5 ∷ 73 ∷ []

-- `LISTEN` without a channel
abbrev pub second_section : Section
second_section = conversation (record { line = 1; text = codes "LISTEN"; act = Run (command.Bad 6) } ∷ [])

abbrev pub second_items : List Item
second_items = Line 1 ∷ Refuse (refused.Syntax 6) ∷ Line 4294967295 ∷ []

-- E with the length 0x32, its fields, and Z
abbrev pub second_bytes : List ℕ
second_bytes =
    69 ∷ 0 ∷ 0 ∷ 0 ∷ 50 ∷ (codes "SERROR" ++ 0 ∷ [] ++ codes "VERROR" ++ 0 ∷ [] ++ codes "C42601" ++ 0 ∷ [] ++ codes "Msyntax error at byte 6" ++ 0 ∷ 0 ∷ 90 ∷ 0 ∷ 0 ∷ 0 ∷ 5 ∷ 73 ∷ [])

-- `COMMIT` outside of a block
abbrev pub third_section : Section
third_section = conversation (record { line = 1; text = codes "COMMIT"; act = Run command.Commit } ∷ [])

abbrev pub third_items : List Item
third_items = Line 1 ∷ Reply tag.Commit (Some warning.NotInBlock) ∷ Line 4294967295 ∷ []

-- N with the length 0x43, its fields, C `COMMIT`, and Z
abbrev pub third_bytes : List ℕ
third_bytes =
    78 ∷ 0 ∷ 0 ∷ 0 ∷ 67 ∷ (codes "SWARNING" ++ 0 ∷ [] ++ codes "VWARNING" ++ 0 ∷ [] ++ codes "C25P01" ++ 0 ∷ [] ++ codes "Mthere is no transaction in progress" ++ 0 ∷ 0
    ∷ 67 ∷ 0 ∷ 0 ∷ 0 ∷ 11 ∷ 67 ∷ 79 ∷ 77 ∷ 77 ∷ 73 ∷ 84 ∷ 0 ∷ 90 ∷ 0 ∷ 0 ∷ 0 ∷ 5 ∷ 73 ∷ [])

-- `LISTEN c`, and both queries
abbrev pub fourth_section : Section
fourth_section = conversation (record { line = 1; text = codes "LISTEN c"; act = Run (command.Listen (codes "c")) }
    ∷ record { line = 2; text = codes "SELECT pg_listening_channels()"; act = Run command.ListeningChannels }
    ∷ record { line = 3; text = codes "SELECT pg_notification_queue_usage()"; act = Run command.QueueUsage } ∷ [])

-- it listens to `c`, and of 256 pages none is occupied
abbrev pub fourth_items : List Item
fourth_items =
    Line 1 ∷ Enlist 3 3 ∷ Reply tag.Listen None ∷ Line 2 ∷ Channels (codes "c" ∷ []) ∷ Reply (tag.Select 1) None
    ∷ Line 3 ∷ Used (record { at = 3; occupied = 0; limit = 256; floor_mark = 3; holder = None }) ∷ Reply (tag.Select 1) None ∷ Line 4294967295 ∷ Leave ∷ []

-- C `LISTEN`, Z; T with the length 0x2e, D with `c`, C `SELECT 1`, Z; T with the length 0x34, D with `0/256`, C `SELECT 1`, Z. A column is
-- of no table, of the type 25, which is text, of no fixed size, and in the format text
abbrev pub fourth_bytes : List ℕ
fourth_bytes =
    67 ∷ 0 ∷ 0 ∷ 0 ∷ 11 ∷ 76 ∷ 73 ∷ 83 ∷ 84 ∷ 69 ∷ 78 ∷ 0 ∷ 90 ∷ 0 ∷ 0 ∷ 0 ∷ 5 ∷ 73
    ∷ 84 ∷ 0 ∷ 0 ∷ 0 ∷ 46 ∷ 0 ∷ 1 ∷ (codes "pg_listening_channels" ++ 0 ∷ 0 ∷ 0 ∷ 0 ∷ 0 ∷ 0 ∷ 0 ∷ 0 ∷ 0 ∷ 0 ∷ 25 ∷ 255 ∷ 255 ∷ 255 ∷ 255 ∷ 255 ∷ 255 ∷ 0 ∷ 0
    ∷ 68 ∷ 0 ∷ 0 ∷ 0 ∷ 11 ∷ 0 ∷ 1 ∷ 0 ∷ 0 ∷ 0 ∷ 1 ∷ 99 ∷ 67 ∷ 0 ∷ 0 ∷ 0 ∷ 13 ∷ 83 ∷ 69 ∷ 76 ∷ 69 ∷ 67 ∷ 84 ∷ 32 ∷ 49 ∷ 0 ∷ 90 ∷ 0 ∷ 0 ∷ 0 ∷ 5 ∷ 73
    ∷ 84 ∷ 0 ∷ 0 ∷ 0 ∷ 52 ∷ 0 ∷ 1 ∷ (codes "pg_notification_queue_usage" ++ 0 ∷ 0 ∷ 0 ∷ 0 ∷ 0 ∷ 0 ∷ 0 ∷ 0 ∷ 0 ∷ 0 ∷ 25 ∷ 255 ∷ 255 ∷ 255 ∷ 255 ∷ 255 ∷ 255 ∷ 0 ∷ 0
    ∷ 68 ∷ 0 ∷ 0 ∷ 0 ∷ 15 ∷ 0 ∷ 1 ∷ 0 ∷ 0 ∷ 0 ∷ 5 ∷ 48 ∷ 47 ∷ 50 ∷ 53 ∷ 54 ∷ 67 ∷ 0 ∷ 0 ∷ 0 ∷ 13 ∷ 83 ∷ 69 ∷ 76 ∷ 69 ∷ 67 ∷ 84 ∷ 32 ∷ 49 ∷ 0 ∷ 90 ∷ 0 ∷ 0 ∷ 0 ∷ 5 ∷ 73 ∷ []))

-- E with the length 0x27, its fields, of which the severity is FATAL
abbrev pub fatal_bytes : List ℕ
fatal_bytes = 69 ∷ 0 ∷ 0 ∷ 0 ∷ 39 ∷ (codes "SFATAL" ++ 0 ∷ [] ++ codes "VFATAL" ++ 0 ∷ [] ++ codes "C08P01" ++ 0 ∷ [] ++ codes "Mbad message" ++ 0 ∷ 0 ∷ [])

-- T with the length 0x22: a column of no table, of the type 2278, which is void and has four bytes, and in the format text
abbrev pub void_bytes : List ℕ
void_bytes = 84 ∷ 0 ∷ 0 ∷ 0 ∷ 34 ∷ 0 ∷ 1 ∷ (codes "pg_notify" ++ 0 ∷ 0 ∷ 0 ∷ 0 ∷ 0 ∷ 0 ∷ 0 ∷ 0 ∷ 0 ∷ 8 ∷ 230 ∷ 0 ∷ 4 ∷ 255 ∷ 255 ∷ 255 ∷ 255 ∷ 0 ∷ 0 ∷ [])

-- C `DISCARD ALL`, and the same without the zero byte behind the text
abbrev pub discard_bytes : List ℕ
discard_bytes = 67 ∷ 0 ∷ 0 ∷ 0 ∷ 16 ∷ (codes "DISCARD ALL" ++ 0 ∷ [])

abbrev pub endless_bytes : List ℕ
endless_bytes = 67 ∷ 0 ∷ 0 ∷ 0 ∷ 15 ∷ codes "DISCARD ALL"

-- S with the length 0x11: the setting and its value
abbrev pub zone_bytes : List ℕ
zone_bytes = 83 ∷ 0 ∷ 0 ∷ 0 ∷ 17 ∷ (codes "TimeZone" ++ 0 ∷ (codes "UTC" ++ 0 ∷ []))

-- E with the length 0x49, and its fields
abbrev pub no_setting_bytes : List ℕ
no_setting_bytes = 69 ∷ 0 ∷ 0 ∷ 0 ∷ 73 ∷ (codes "SERROR" ++ 0 ∷ [] ++ codes "VERROR" ++ 0 ∷ [] ++ codes "C42704" ++ 0 ∷ [] ++ codes "Munrecognized configuration parameter \"colour\"" ++ 0 ∷ 0 ∷ [])

-- so many pages of 256 are occupied
abbrev pub occupied_pages : ℕ → Usage
occupied_pages pages = record { at = 3; occupied = pages; limit = 256; floor_mark = 3; holder = None }

-- N with the length 0x46, and its fields, of which the severity is NOTICE
abbrev pub cut_bytes : List ℕ
cut_bytes =
    78 ∷ 0 ∷ 0 ∷ 0 ∷ 70 ∷ (codes "SNOTICE" ++ 0 ∷ [] ++ codes "VNOTICE" ++ 0 ∷ [] ++ codes "C42622" ++ 0 ∷ [] ++ codes "Midentifier \"ab\" will be truncated to \"a\"" ++ 0 ∷ 0 ∷ [])
