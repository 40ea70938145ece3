-- Seats: what they are asked, what their sessions do, and what their clients are told.
use Rattle.std.specs.Prelude.{ℕ, List, [], ◌∷◌, ◌++◌, Some, None, codes}
use Rattle.pgn_base.specs.declared.note.Note.{Note}
use Rattle.pgn_base.specs.declared.note.Delivery.{Delivery}
use Rattle.pgn_base.specs.declared.answers.Tag.TheVariants as tag
use Rattle.pgn_base.specs.declared.answers.Warning.TheVariants as warning
use Rattle.pgn_base.specs.declared.command.Command.TheVariants as command
use Rattle.pgn_language.specs.declared.scenario.Section.{Section}
use Rattle.pgn_model.specs.declared.item.Item.{Item}
use Rattle.pgn_model.specs.declared.item.Item.TheVariants.{Line, Enlist, Publish, Leave, Reply, Read}
use Rattle.pgn_requests.specs.declared.complaint.Wording.TheVariants as wording
use Rattle.pgn_messages.specs.declared.asked.Asked.{Asked}
use Rattle.pgn_messages.specs.declared.asked.Ask.{Ask}
use Rattle.pgn_messages.specs.declared.asked.Ask.TheVariants.{Query, End}
use Rattle.pgn_messages.specs.declared.asked.Parting.TheVariants.{Plain}
use Rattle.pgn_messages.specs.Asks.{script_of}

-- the notification `NOTIFY c, 'x'`, and as transaction 3 of the session with this process number
abbrev pub sent : Note
sent = record { channel = codes "c"; payload = codes "x" }

abbrev pub sent_by : ℕ → Delivery
sent_by pid = record { xid = 3; pid = pid; note = sent }

-- queries
abbrev pub listen : Asked
listen = record { line = 1; text = codes "LISTEN c"; command = command.Listen (codes "c"); wording = wording.Plain }

abbrev pub notify : Asked
notify = record { line = 2; text = codes "NOTIFY c, 'x'"; command = command.Notify sent; wording = wording.Plain }

abbrev pub begin : Asked
begin = record { line = 2; text = codes "BEGIN"; command = command.Begin; wording = wording.Plain }

abbrev pub call : Asked
call = record { line = 1; text = codes "SELECT pg_notify('c', 'x')"; command = command.PgNotify sent; wording = wording.Plain }

-- C `LISTEN`, and Z outside of a block; A with the process number 1002, `c` and `x`
abbrev pub listen_bytes : List ℕ
listen_bytes = 67 ∷ 0 ∷ 0 ∷ 0 ∷ 11 ∷ 76 ∷ 73 ∷ 83 ∷ 84 ∷ 69 ∷ 78 ∷ 0 ∷ 90 ∷ 0 ∷ 0 ∷ 0 ∷ 5 ∷ 73 ∷ []

abbrev pub other_bytes : List ℕ
other_bytes = 65 ∷ 0 ∷ 0 ∷ 0 ∷ 12 ∷ 0 ∷ 0 ∷ 3 ∷ 234 ∷ 99 ∷ 0 ∷ 120 ∷ 0 ∷ []

-- a session listens, and notifies itself
abbrev pub own_items : List Item
own_items = Line 1 ∷ Enlist 3 3 ∷ Reply tag.Listen None ∷ Line 2 ∷ Publish 3 (sent ∷ []) ∷ Reply tag.Notify None ∷ Read 3 4 (sent_by 1001 ∷ []) ∷ []

-- C `NOTIFY`, A with the process number 1001, `c` and `x`, and Z behind it
abbrev pub own_bytes : List ℕ
own_bytes =
    67 ∷ 0 ∷ 0 ∷ 0 ∷ 11 ∷ 78 ∷ 79 ∷ 84 ∷ 73 ∷ 70 ∷ 89 ∷ 0 ∷ 65 ∷ 0 ∷ 0 ∷ 0 ∷ 12 ∷ 0 ∷ 0 ∷ 3 ∷ 233 ∷ 99 ∷ 0 ∷ 120 ∷ 0 ∷ 90 ∷ 0 ∷ 0 ∷ 0 ∷ 5 ∷ 73 ∷ []

-- a session listens, and reads what another one has sent
abbrev pub idle_items : List Item
idle_items = Line 1 ∷ Enlist 3 3 ∷ Reply tag.Listen None ∷ Read 3 4 (sent_by 1002 ∷ []) ∷ []

-- and then begins a block
abbrev pub between_items : List Item
between_items = idle_items ++ Line 2 ∷ Reply tag.Begin None ∷ []

-- C `BEGIN`, and Z in a block
abbrev pub begin_bytes : List ℕ
begin_bytes = 67 ∷ 0 ∷ 0 ∷ 0 ∷ 10 ∷ 66 ∷ 69 ∷ 71 ∷ 73 ∷ 78 ∷ 0 ∷ 90 ∷ 0 ∷ 0 ∷ 0 ∷ 5 ∷ 84 ∷ []

-- a client listens and ends, and the seat is set back
abbrev pub left_asks : List Ask
left_asks = Query listen ∷ End 2 Plain ∷ []

abbrev pub left_items : List Item
left_items = Line 1 ∷ Enlist 3 3 ∷ Reply tag.Listen None ∷ Line 2 ∷ Reply tag.Rollback (Some warning.NotInBlock) ∷ Line 3 ∷ Leave ∷ Reply tag.Unlisten None ∷ []

-- a client ends before it has asked
abbrev pub early_items : List Item
early_items = Line 1 ∷ Reply tag.Rollback (Some warning.NotInBlock) ∷ Line 2 ∷ Reply tag.Unlisten None ∷ []

-- E with the length 0x27, where its bytes had a fault, and with the length 0x32, where it would notify once more than it may
abbrev pub refused_bytes : List ℕ
refused_bytes = 69 ∷ 0 ∷ 0 ∷ 0 ∷ 39 ∷ (codes "SFATAL" ++ 0 ∷ [] ++ codes "VFATAL" ++ 0 ∷ [] ++ codes "C08P01" ++ 0 ∷ [] ++ codes "Mbad message" ++ 0 ∷ 0 ∷ [])

abbrev pub spent_bytes : List ℕ
spent_bytes = 69 ∷ 0 ∷ 0 ∷ 0 ∷ 50 ∷ (codes "SFATAL" ++ 0 ∷ [] ++ codes "VFATAL" ++ 0 ∷ [] ++ codes "C53400" ++ 0 ∷ [] ++ codes "Mtoo many notifications" ++ 0 ∷ 0 ∷ [])

-- a call of pg_notify: what the session does, and C `SELECT 1` with Z, without the row of the call
abbrev pub call_items : List Item
call_items = Line 1 ∷ Publish 3 (sent ∷ []) ∷ Reply (tag.Select 1) None ∷ []

abbrev pub rowless_bytes : List ℕ
rowless_bytes = 67 ∷ 0 ∷ 0 ∷ 0 ∷ 13 ∷ 83 ∷ 69 ∷ 76 ∷ 69 ∷ 67 ∷ 84 ∷ 32 ∷ 49 ∷ 0 ∷ 90 ∷ 0 ∷ 0 ∷ 0 ∷ 5 ∷ 73 ∷ []

-- two clients, one after another: the lines of the second go on behind those that set the seat back
abbrev pub second_notify : Asked
second_notify = record { line = 4; text = codes "NOTIFY c, 'x'"; command = command.Notify sent; wording = wording.Plain }

abbrev pub two_clients : List Ask
two_clients = Query listen ∷ End 2 Plain ∷ Query second_notify ∷ []

-- the section of a seat that is asked this
abbrev pub seat_section : List Ask → Section
seat_section asks = record { no = 1; name = codes "seat1"; db = 1; lines = script_of asks; note_lines = 0 }

-- a session listens, begins a block, and reads in it
abbrev pub in_block_items : List Item
in_block_items = Line 1 ∷ Enlist 3 3 ∷ Reply tag.Listen None ∷ Line 2 ∷ Reply tag.Begin None ∷ Read 3 4 (sent_by 1002 ∷ []) ∷ []
