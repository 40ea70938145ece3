-- Worked examples of traces, lawful ones and ones that are refused.
use Rattle.std.specs.Prelude.{ℕ, List, [], ◌∷◌, ◌++◌, length, Option, Some, None, codes}
use Rattle.pgn_base.specs.declared.note.Note.{Note}
use Rattle.pgn_base.specs.declared.note.Delivery.{Delivery}
use Rattle.pgn_base.specs.declared.answers.Tag.{Tag}
use Rattle.pgn_base.specs.declared.answers.Tag.TheVariants as tag
use Rattle.pgn_base.specs.declared.answers.Warning.TheVariants.{AlreadyInBlock}
use Rattle.pgn_journal.specs.declared.tx.Tx.{Tx}
use Rattle.pgn_journal.specs.declared.tx.Fate.TheVariants.{Committed, Aborted}
use Rattle.pgn_answers.specs.declared.block_state.BlockState.TheVariants.{InBlock}
use Rattle.pgn_base.specs.declared.command.Command.{Command}
use Rattle.pgn_base.specs.declared.command.Command.TheVariants as command
use Rattle.pgn_language.specs.declared.scenario.Act.{Act}
use Rattle.pgn_language.specs.declared.scenario.Act.TheVariants.{Run, Await}
use Rattle.pgn_language.specs.declared.scenario.ScriptLine.{ScriptLine}
use Rattle.pgn_language.specs.declared.scenario.Section.{Section}
use Rattle.pgn_language.specs.declared.scenario.Scenario.{Scenario}
use Rattle.pgn_model.specs.declared.item.Item.{Item}
use Rattle.pgn_model.specs.declared.item.Item.TheVariants.{Line, Enlist, Publish, Reply, Found, Read}
use Rattle.pgn_model.specs.declared.trace.Trace.{Trace}
use Rattle.pgn_base.specs.declared.format.Format.TheVariants.{Two}
use Rattle.pgn_base.specs.declared.queue_answers.Full.{Full}
use Rattle.pgn_base.specs.declared.queue_answers.Usage.{Usage}
use Rattle.pgn_journal.specs.declared.tx.Fate.{Fate}
use Rattle.pgn_model.specs.Legal.{Legal}
use Rattle.pgn_model.specs.Walk.{Terms, State, Settings, Enlisting, Replied, default_settings, start}
use Rattle.pgn_model.specs.Trace.{TraceOk, Fresh}

-- a notification on the channel `c`
abbrev pub on_c : List ℕ → Note
on_c payload = record { channel = codes "c"; payload = payload }

-- one on the channel `d`
abbrev pub on_d : List ℕ → Note
on_d payload = record { channel = codes "d"; payload = payload }

-- the notification `NOTIFY c, 'x'`
abbrev pub x_note : Note
x_note = on_c (codes "x")

-- the channel `c`
abbrev pub c_name : List ℕ
c_name = codes "c"

-- a line of a script
abbrev pub line_of : ℕ → Act → ScriptLine
line_of n act = record { line = n; text = []; act = act }

-- a line that is a command
abbrev pub runs : ℕ → Command → ScriptLine
runs n command = line_of n (Run command)

-- the session 5 in database 7, with these lines
abbrev pub walker : List ScriptLine → Section
walker lines = record { no = 5; name = codes "w"; db = 7; lines = lines; note_lines = 0 }

-- what its trace is judged by
abbrev pub its_terms : List ScriptLine → Terms
its_terms lines = record { section = walker lines; settings = default_settings }

-- its trace
abbrev pub its_trace : List Item → Option ℕ → Trace
its_trace items last = record { session = 5; db = 7; items = items; last = last }

-- over a journal this is a lawful trace of its lines
abbrev pub IsTraceOf : List ScriptLine → List Tx → List Item → Option ℕ → Type 0
IsTraceOf lines journal items last = TraceOk (its_terms lines) (its_trace items last) journal

-- over a journal this is no lawful trace of its lines
abbrev pub IsRefused : List ScriptLine → List Tx → List Item → Option ℕ → Type 0
IsRefused lines journal items last = IsTraceOf lines journal items last → ⊥

-- over a journal its trace leaves no read out
abbrev pub IsFresh : List ScriptLine → List Tx → List Item → Option ℕ → Type 0
IsFresh lines journal items last = Fresh (its_terms lines) (its_trace items last) journal

-- a transaction of a session in a database, which committed
abbrev pub sent_by : ℕ → ℕ → List Note → Tx
sent_by session db notes = record { session = session; db = db; notes = notes; queued = length notes; fate = Committed }

-- one of the session
abbrev pub own_tx : List Note → Tx
own_tx notes = sent_by 5 7 notes

-- one of the session 6 in its database
abbrev pub other_tx : List Note → Tx
other_tx notes = sent_by 6 7 notes

-- a delivery
abbrev pub delivered : ℕ → ℕ → Note → Delivery
delivered xid pid note = record { xid = xid; pid = pid; note = note }

-- a line that has its tag alone
abbrev pub answered : ℕ → Tag → List Item
answered n tag = Line n ∷ Reply tag None ∷ []

-- a line that begins as LISTEN, with this base and point
abbrev pub enlisted : ℕ → ℕ → ℕ → List Item
enlisted n base point = Line n ∷ Enlist base point ∷ Reply tag.Listen None ∷ []

-- a line that is NOTIFY, with this number
abbrev pub published : ℕ → ℕ → List Item
published n xid = Line n ∷ Publish xid (x_note ∷ []) ∷ Reply tag.Notify None ∷ []

-- LISTEN c; NOTIFY c, 'x'
abbrev pub listen_notify : List ScriptLine
listen_notify = runs 2 (command.Listen c_name) ∷ runs 3 (command.Notify x_note) ∷ []

-- NOTIFY c, 'x'
abbrev pub notify_alone : List ScriptLine
notify_alone = runs 2 (command.Notify x_note) ∷ []

-- NOTIFY c, 'x'; LISTEN c
abbrev pub notify_listen : List ScriptLine
notify_listen = runs 2 (command.Notify x_note) ∷ runs 3 (command.Listen c_name) ∷ []

-- LISTEN c
abbrev pub listen_alone : List ScriptLine
listen_alone = runs 2 (command.Listen c_name) ∷ []

-- LISTEN c; LISTEN c; an empty line; LISTEN d
abbrev pub listen_again : List ScriptLine
listen_again = runs 2 (command.Listen c_name) ∷ runs 3 (command.Listen c_name) ∷ runs 4 command.Empty ∷ runs 5 (command.Listen (codes "d")) ∷ []

-- its items: only the first line enlists, and the empty one has nothing
abbrev pub listen_again_items : List Item
listen_again_items = enlisted 2 3 3 ++ answered 3 tag.Listen ++ Line 4 ∷ [] ++ answered 5 tag.Listen

-- UNLISTEN c; BEGIN; BEGIN; ROLLBACK; NOTIFY c, 'x'
abbrev pub never_listens : List ScriptLine
never_listens = runs 2 (command.Unlisten c_name) ∷ runs 3 command.Begin ∷ runs 4 command.Begin ∷ runs 5 command.Rollback ∷ runs 6 (command.Notify x_note) ∷ []

-- its items: who is no listener neither enlists nor leaves
abbrev pub never_listens_items : List Item
never_listens_items = answered 2 tag.Unlisten ++ answered 3 tag.Begin ++ (Line 4 ∷ Reply tag.Begin (Some AlreadyInBlock) ∷ []) ++ answered 5 tag.Rollback ++ published 6 3

-- LISTEN c; BEGIN; NOTIFY c, 'a'; SAVEPOINT s; NOTIFY c, 'z'; ROLLBACK TO s; NOTIFY d, 'b'; NOTIFY c, 'a'; COMMIT
abbrev pub block_lines : List ScriptLine
block_lines = runs 2 (command.Listen c_name)
    ∷ runs 3 command.Begin
    ∷ runs 4 (command.Notify (on_c (codes "a")))
    ∷ runs 5 (command.Savepoint (codes "s"))
    ∷ runs 6 (command.Notify (on_c (codes "z")))
    ∷ runs 7 (command.RollbackTo (codes "s"))
    ∷ runs 8 (command.Notify (on_d (codes "b")))
    ∷ runs 9 (command.Notify (on_c (codes "a")))
    ∷ runs 10 command.Commit
    ∷ []

-- the items of its lines but the last
abbrev pub block_front : List Item
block_front = enlisted 2 3 3 ++ answered 3 tag.Begin ++ answered 4 tag.Notify ++ answered 5 tag.Savepoint ++ answered 6 tag.Notify ++ answered 7 tag.Rollback
    ++ answered 8 tag.Notify ++ answered 9 tag.Notify

-- what its COMMIT publishes: the repeat once, and not what was rolled back
abbrev pub block_notes : List Note
block_notes = on_c (codes "a") ∷ on_d (codes "b") ∷ []

-- its items: the read is of the channel that is listened to
abbrev pub block_items : List Item
block_items = block_front ++ Line 10 ∷ Publish 3 block_notes ∷ Reply tag.Commit None ∷ Read 3 4 (delivered 3 1005 (on_c (codes "a")) ∷ []) ∷ []

-- its journal
abbrev pub block_journal : List Tx
block_journal = own_tx block_notes ∷ []

-- BEGIN; NOTIFY c, 'x'; UNLISTEN c; LISTEN c; COMMIT
abbrev pub joining_lines : List ScriptLine
joining_lines = runs 2 command.Begin ∷ runs 3 (command.Notify x_note) ∷ runs 4 (command.Unlisten c_name) ∷ runs 5 (command.Listen c_name) ∷ runs 6 command.Commit ∷ []

-- the items of its lines but the last
abbrev pub joining_front : List Item
joining_front = answered 2 tag.Begin ++ answered 3 tag.Notify ++ answered 4 tag.Unlisten ++ answered 5 tag.Listen

-- its items over a journal of which it has the second transaction: its base is the first number, and its point the next
abbrev pub joining_items : List Item
joining_items = joining_front ++ Line 6 ∷ Enlist 3 4 ∷ Publish 4 (x_note ∷ []) ∷ Reply tag.Commit None ∷ Read 4 5 (delivered 4 1005 x_note ∷ []) ∷ []

-- its journal: one transaction of another session, and its own
abbrev pub joining_journal : List Tx
joining_journal = other_tx (x_note ∷ []) ∷ own_tx (x_note ∷ []) ∷ []

-- LISTEN c; BEGIN
abbrev pub left_open : List ScriptLine
left_open = runs 2 (command.Listen c_name) ∷ runs 3 command.Begin ∷ []

-- LISTEN c; BEGIN; COMMIT
abbrev pub held_back : List ScriptLine
held_back = runs 2 (command.Listen c_name) ∷ runs 3 command.Begin ∷ runs 4 command.Commit ∷ []

-- a journal of another session's transaction
abbrev pub other_journal : List Tx
other_journal = other_tx (x_note ∷ []) ∷ []

-- one of the session's own
abbrev pub own_journal : List Tx
own_journal = own_tx (x_note ∷ []) ∷ []

-- one of another database, one of another session with two notifications, and its own
abbrev pub mixed_journal : List Tx
mixed_journal = sent_by 8 5 (x_note ∷ []) ∷ other_tx (on_c (codes "1") ∷ on_c (codes "2") ∷ []) ∷ own_tx (x_note ∷ []) ∷ []

-- what is due of it from the first number on
abbrev pub mixed_due : List Delivery
mixed_due = delivered 4 1006 (on_c (codes "1")) ∷ delivered 4 1006 (on_c (codes "2")) ∷ delivered 5 1005 x_note ∷ []

-- the items over it of LISTEN c; NOTIFY c, 'x', up to the read
abbrev pub mixed_front : List Item
mixed_front = enlisted 2 3 3 ++ published 3 5

-- a journal whose one transaction of the session was aborted
abbrev pub aborted_journal : List Tx
aborted_journal = record (own_tx (x_note ∷ [])) { queued = 0; fate = Aborted } ∷ []

-- the items of LISTEN c; NOTIFY c, 'x' with the own transaction 3, up to the read
abbrev pub own_front : List Item
own_front = enlisted 2 3 3 ++ published 3 3

-- its read
abbrev pub own_read : List Item
own_read = Read 3 4 (delivered 3 1005 x_note ∷ []) ∷ []

-- LISTEN c, and then a line
abbrev pub listen_then : Act → List ScriptLine
listen_then act = runs 2 (command.Listen c_name) ∷ line_of 3 act ∷ []

-- LISTEN c; \await f; BEGIN
abbrev pub listen_await_begin : List ScriptLine
listen_await_begin = listen_then (Await 0) ++ runs 4 command.Begin ∷ []

-- the items of LISTEN c, and then nothing but the line's beginning
abbrev pub listen_then_nothing : List Item
listen_then_nothing = enlisted 2 3 3 ++ Line 3 ∷ []

-- a session that is to become a listener, and has read up to 5 before
abbrev pub listener_again : State
listener_again = record (start (walker [])) { owed = Enlisting [] [] (Replied tag.Listen None); marks = 3 ∷ 5 ∷ [] }

-- a listener in a block that was told of more than it has read
abbrev pub behind_in_block : State
behind_in_block = record (start (walker [])) { block = InBlock; mark = Some 3; told = 4 }

-- a journal of another session's transaction on the channel `d`
abbrev pub d_journal : List Tx
d_journal = other_tx (on_d (codes "2") ∷ []) ∷ []

-- a listener on the channel `c` that was told of more than it has read, and whose next line is this command
abbrev pub behind_before : Command → State
behind_before command = record (start (walker (runs 4 command ∷ []))) { set = c_name ∷ []; mark = Some 3; told = 4 }

-- LISTEN c; \await f; LISTEN d
abbrev pub listen_await_listen : List ScriptLine
listen_await_listen = listen_then (Await 0) ++ runs 4 (command.Listen (codes "d")) ∷ []

-- its items up to the flag, which is found behind a transaction on the channel `d`
abbrev pub listen_await_front : List Item
listen_await_front = enlisted 2 3 3 ++ Line 3 ∷ Found 4 ∷ []

-- and all of them, where it reads only behind LISTEN d
abbrev pub reads_behind : List Item
reads_behind = listen_await_front ++ answered 4 tag.Listen ++ Read 3 4 (delivered 3 1006 (on_d (codes "2")) ∷ []) ∷ []

-- and where it reads before that line
abbrev pub reads_before : List Item
reads_before = listen_await_front ++ Read 3 4 [] ∷ answered 4 tag.Listen

-- BEGIN; BEGIN
abbrev pub begin_twice : List ScriptLine
begin_twice = runs 2 command.Begin ∷ runs 3 command.Begin ∷ []

-- an empty line
abbrev pub empty_line : List ScriptLine
empty_line = runs 2 command.Empty ∷ []

-- LISTEN c; UNLISTEN c
abbrev pub listen_unlisten : List ScriptLine
listen_unlisten = runs 2 (command.Listen c_name) ∷ runs 3 (command.Unlisten c_name) ∷ []

-- LISTEN c; LISTEN c
abbrev pub listen_twice : List ScriptLine
listen_twice = runs 2 (command.Listen c_name) ∷ runs 3 (command.Listen c_name) ∷ []

-- NOTIFY c, 'x'; NOTIFY c, 'x'
abbrev pub notify_twice : List ScriptLine
notify_twice = runs 2 (command.Notify x_note) ∷ runs 3 (command.Notify x_note) ∷ []

-- LISTEN c; NOTIFY c, 'x'; BEGIN
abbrev pub listen_notify_begin : List ScriptLine
listen_notify_begin = listen_notify ++ runs 4 command.Begin ∷ []

-- BEGIN; NOTIFY c, 'x'; ROLLBACK
abbrev pub roll_back : List ScriptLine
roll_back = runs 2 command.Begin ∷ runs 3 (command.Notify x_note) ∷ runs 4 command.Rollback ∷ []

-- another notification
abbrev pub y_note : Note
y_note = on_c (codes "y")

-- a journal of it
abbrev pub y_journal : List Tx
y_journal = own_tx (y_note ∷ []) ∷ []

-- a journal of two of the session's own transactions
abbrev pub two_own_journal : List Tx
two_own_journal = own_tx (x_note ∷ []) ∷ own_tx (x_note ∷ []) ∷ []

-- what a COMMIT that sends repeats would publish
abbrev pub repeats : List Note
repeats = on_c (codes "a") ∷ on_d (codes "b") ∷ on_c (codes "a") ∷ []

-- a journal of it
abbrev pub repeats_journal : List Tx
repeats_journal = own_tx repeats ∷ []

-- what is due of it on the channel `c`
abbrev pub repeats_due : List Delivery
repeats_due = delivered 3 1005 (on_c (codes "a")) ∷ delivered 3 1005 (on_c (codes "a")) ∷ []

-- LISTEN c; NOTIFY c, 'x'; LISTEN d
abbrev pub listen_notify_listen : List ScriptLine
listen_notify_listen = listen_notify ++ runs 4 (command.Listen (codes "d")) ∷ []

-- the session 6 in the same database, with one line: NOTIFY c, 'x'
abbrev pub sender : Section
sender = record { no = 6; name = codes "v"; db = 7; lines = runs 3 (command.Notify x_note) ∷ []; note_lines = 1 }

-- the scenario of a listener and this sender
abbrev pub pair : Scenario
pair = record { sections = walker listen_alone ∷ sender ∷ []; flags = [] }

-- the listener's trace: it has read up to a number, and received these
abbrev pub listener_trace : ℕ → List Delivery → Trace
listener_trace to deliveries = its_trace (enlisted 2 3 3 ++ Read 3 to deliveries ∷ []) (Some to)

-- the one delivery of the sender's transaction
abbrev pub one_delivery : List Delivery
one_delivery = delivered 3 1006 x_note ∷ []

-- the sender's trace
abbrev pub sender_trace : Trace
sender_trace = record { session = 6; db = 7; items = published 3 3; last = None }

-- a trace of the sender that shows nothing
abbrev pub silent_trace : Trace
silent_trace = record { session = 6; db = 7; items = []; last = None }

-- over a journal these are a run of the two
abbrev pub IsRun : List Tx → List Trace → Type 0
IsRun journal traces = Legal pair default_settings journal traces

-- the scenario of one section with these lines
abbrev pub alone : List ScriptLine → Scenario
alone lines = record { sections = walker lines ∷ []; flags = [] }

-- a transaction of two notifications, of which this many were queued, and which ended so
abbrev pub two_sent : List Note → ℕ → Fate → Tx
two_sent notes queued fate = record { session = 6; db = 7; notes = notes; queued = queued; fate = fate }

-- four aborted transactions, each of which fills a page
abbrev pub pages_journal : List Tx
pages_journal =
    let filling = two_sent (x_note ∷ y_note ∷ []) 1 Aborted in
    filling ∷ filling ∷ filling ∷ filling ∷ []

-- the settings with entries of format Two
abbrev pub settings_of_two : Settings
settings_of_two = record default_settings { format = Two }

-- a full queue
abbrev pub full_at : ℕ → ℕ → Full
full_at xid floor_mark = record { xid = xid; queued = 0; head_page = 0; floor_mark = floor_mark; floor_page = 0; holder = None }

-- a usage of the queue
abbrev pub usage_at : ℕ → ℕ → Usage
usage_at at floor_mark = record { at = at; occupied = 0; limit = 2; floor_mark = floor_mark; holder = None }

-- BEGIN; NOTIFY d, 'b'; ROLLBACK; BEGIN; NOTIFY c, 'y'; an empty line; COMMIT; NOTIFY c, 'x'
abbrev pub two_blocks : List ScriptLine
two_blocks = runs 2 command.Begin
    ∷ runs 3 (command.Notify (on_d (codes "b")))
    ∷ runs 4 command.Rollback
    ∷ runs 5 command.Begin
    ∷ runs 6 (command.Notify y_note)
    ∷ runs 7 command.Empty
    ∷ runs 8 command.Commit
    ∷ runs 9 (command.Notify x_note)
    ∷ []

-- its items: no line has what an ended block had
abbrev pub two_blocks_items : List Item
two_blocks_items = answered 2 tag.Begin ++ answered 3 tag.Notify ++ answered 4 tag.Rollback ++ answered 5 tag.Begin ++ answered 6 tag.Notify
    ++ (Line 7 ∷ Line 8 ∷ Publish 3 (y_note ∷ []) ∷ Reply tag.Commit None ∷ []) ++ published 9 4

-- its journal
abbrev pub two_blocks_journal : List Tx
two_blocks_journal = own_tx (y_note ∷ []) ∷ own_tx (x_note ∷ []) ∷ []

-- LISTEN c; BEGIN; LISTEN d; COMMIT
abbrev pub listen_in_block : List ScriptLine
listen_in_block = runs 2 (command.Listen c_name) ∷ runs 3 command.Begin ∷ runs 4 (command.Listen (codes "d")) ∷ runs 5 command.Commit ∷ []

-- its items, up to the read
abbrev pub listen_in_block_front : List Item
listen_in_block_front = enlisted 2 3 3 ++ answered 3 tag.Begin ++ answered 4 tag.Listen ++ answered 5 tag.Commit

-- LISTEN c; LISTEN d; UNLISTEN c
abbrev pub unlisten_one : List ScriptLine
unlisten_one = runs 2 (command.Listen c_name) ∷ runs 3 (command.Listen (codes "d")) ∷ runs 4 (command.Unlisten c_name) ∷ []

-- its items, up to the read
abbrev pub unlisten_one_front : List Item
unlisten_one_front = enlisted 2 3 3 ++ answered 3 tag.Listen ++ answered 4 tag.Unlisten

-- a journal of another session's transaction on two channels
abbrev pub both_journal : List Tx
both_journal = other_tx (on_c (codes "1") ∷ on_d (codes "2") ∷ []) ∷ []

-- SELECT pg_notify('c', 'x')
abbrev pub pg_notify_alone : List ScriptLine
pg_notify_alone = runs 2 (command.PgNotify x_note) ∷ []
