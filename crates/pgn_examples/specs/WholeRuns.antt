-- Data of whole runs: flags, full queues, usages, failed blocks, reads of an await, and summaries.
use Rattle.std.specs.Prelude.{ℕ, List, [], ◌∷◌, ◌++◌, Option, None, codes}
use Rattle.pgn_base.specs.declared.note.Note.{Note}
use Rattle.pgn_base.specs.declared.answers.Tag.TheVariants as tag
use Rattle.pgn_base.specs.declared.answers.Which.TheVariants.{ChannelEmpty}
use Rattle.pgn_base.specs.declared.answers.Refusal.{Refusal}
use Rattle.pgn_base.specs.declared.answers.Refusal.TheVariants as refused
use Rattle.pgn_base.specs.declared.queue_answers.Full.{Full}
use Rattle.pgn_base.specs.declared.queue_answers.Usage.{Usage}
use Rattle.pgn_journal.specs.declared.tx.Tx.{Tx}
use Rattle.pgn_journal.specs.declared.tx.Fate.TheVariants.{Aborted}
use Rattle.pgn_base.specs.declared.command.Command.TheVariants as command
use Rattle.pgn_language.specs.declared.scenario.Act.TheVariants.{Signal, Await, Quit}
use Rattle.pgn_language.specs.declared.scenario.ScriptLine.{ScriptLine}
use Rattle.pgn_language.specs.declared.scenario.Scenario.{Scenario}
use Rattle.pgn_model.specs.declared.item.Item.{Item}
use Rattle.pgn_model.specs.declared.item.Item.TheVariants.{Line, Publish, QueueFull, Leave, Reply, Refuse, Used, Read}
use Rattle.pgn_model.specs.declared.trace.Trace.{Trace}
use Rattle.pgn_examples.specs.Runs.{hello}
use Rattle.pgn_examples.specs.Walks.{on_c, x_note, c_name, line_of, runs, sent_by, delivered, answered, enlisted}
use Rattle.pgn_examples.specs.RefusedRuns.{usage_section}

-- Flags. The flags 0, 1 and 2 are called f, g and h.

-- NOTIFY c, 'x'; \signal f
abbrev pub notify_signal : List ScriptLine
notify_signal = runs 2 (command.Notify x_note) ∷ line_of 3 (Signal 0) ∷ []

-- \await f; \await f
abbrev pub await_twice : List ScriptLine
await_twice = line_of 2 (Await 0) ∷ line_of 3 (Await 0) ∷ []

-- NOTIFY c, 'x'; \signal g; \await f; \signal h
abbrev pub other_flag_greater : List ScriptLine
other_flag_greater = runs 2 (command.Notify x_note) ∷ line_of 3 (Signal 1) ∷ line_of 4 (Await 0) ∷ line_of 5 (Signal 2) ∷ []

-- \signal g; \await h; \await f
abbrev pub other_flags_known : List ScriptLine
other_flags_known = line_of 2 (Signal 1) ∷ line_of 3 (Await 2) ∷ line_of 4 (Await 0) ∷ []

-- BEGIN; LISTEN 5; \signal f; \await g; \await f; COMMIT
abbrev pub flags_in_failed : List ScriptLine
flags_in_failed = runs 2 command.Begin ∷ runs 3 (command.Bad 7) ∷ line_of 4 (Signal 0) ∷ line_of 5 (Await 1) ∷ line_of 6 (Await 0) ∷ runs 7 command.Commit ∷ []

-- SELECT pg_notification_queue_usage(); \signal f
abbrev pub usage_signal : List ScriptLine
usage_signal = runs 2 command.QueueUsage ∷ line_of 3 (Signal 0) ∷ []

-- Full queues.

-- a full queue, with this number, as many notifications queued, this floor mark and this holder
abbrev pub full_of : ℕ → ℕ → ℕ → Option ℕ → Full
full_of xid queued floor holder = record { xid = xid; queued = queued; head_page = 2; floor_mark = floor; floor_page = 0; holder = holder }

-- a line that is NOTIFY and meets it
abbrev pub met_full : ℕ → Full → List Item
met_full n full = Line n ∷ QueueFull full (x_note ∷ []) ∷ Refuse refused.QueueFull ∷ []

-- an aborted transaction of a session in a database with one notification, of which nothing was queued
abbrev pub aborted_by : ℕ → ℕ → Note → Tx
aborted_by session db note = record (sent_by session db (note ∷ [])) { queued = 0; fate = Aborted }

-- a notification whose entry has 40 bytes
abbrev pub of_40_bytes : Note
of_40_bytes = on_c (codes "xxxxxxxxxxxxxxxxxxxxx")

-- \await f; NOTIFY c, 'x'
abbrev pub await_notify : List ScriptLine
await_notify = line_of 2 (Await 0) ∷ runs 3 (command.Notify x_note) ∷ []

-- the first transaction is another session's, and the second met a full queue
abbrev pub second_aborted : List Tx
second_aborted = sent_by 6 7 (x_note ∷ []) ∷ aborted_by 5 7 x_note ∷ []

-- Usages.

-- LISTEN c; SELECT pg_notification_queue_usage()
abbrev pub listen_usage : List ScriptLine
listen_usage = runs 2 (command.Listen c_name) ∷ runs 3 command.QueueUsage ∷ []

-- a usage at this number with no page in use, with this floor mark and this holder
abbrev pub none_in_use : ℕ → ℕ → Option ℕ → Usage
none_in_use at floor holder = record { at = at; occupied = 0; limit = 256; floor_mark = floor; holder = holder }

-- the line that shows it
abbrev pub used : ℕ → Usage → List Item
used n usage = Line n ∷ Used usage ∷ Reply (tag.Select 1) None ∷ []

-- a usage of the run with a full queue
abbrev pub full_run_usage : ℕ → ℕ → ℕ → Option ℕ → Usage
full_run_usage at occupied floor holder = record { at = at; occupied = occupied; limit = 2; floor_mark = floor; holder = holder }

-- the scenario of the section `\session a 1`, `NOTIFY c`, `SELECT pg_notification_queue_usage()`
abbrev pub usage_scenario : Scenario
usage_scenario = record { sections = usage_section ∷ []; flags = [] }

-- Channels and leaving.

-- LISTEN c; BEGIN; LISTEN d; SELECT pg_listening_channels()
abbrev pub channels_in_block : List ScriptLine
channels_in_block = runs 2 (command.Listen c_name) ∷ runs 3 command.Begin ∷ runs 4 (command.Listen (codes "d")) ∷ runs 5 command.ListeningChannels ∷ []

-- its items, up to the rows
abbrev pub channels_in_block_front : List Item
channels_in_block_front = enlisted 2 3 3 ++ answered 3 tag.Begin ++ answered 4 tag.Listen

-- BEGIN; SAVEPOINT s; LISTEN c; ROLLBACK TO s; COMMIT
abbrev pub listen_rolled_back : List ScriptLine
listen_rolled_back = runs 2 command.Begin ∷ runs 3 (command.Savepoint (codes "s")) ∷ runs 4 (command.Listen c_name) ∷ runs 5 (command.RollbackTo (codes "s")) ∷ runs 6 command.Commit ∷ []

-- LISTEN c; BEGIN; UNLISTEN c; COMMIT; LISTEN c
abbrev pub listens_twice : List ScriptLine
listens_twice = runs 2 (command.Listen c_name) ∷ runs 3 command.Begin ∷ runs 4 (command.Unlisten c_name) ∷ runs 5 command.Commit ∷ runs 6 (command.Listen c_name) ∷ []

-- its items, with the point 4 at first and this point at last
abbrev pub listens_twice_items : ℕ → List Item
listens_twice_items point = enlisted 2 3 4 ++ answered 3 tag.Begin ++ answered 4 tag.Unlisten ++ (Line 5 ∷ Leave ∷ Reply tag.Commit None ∷ []) ++ enlisted 6 3 point

-- \quit
abbrev pub quit_alone : List ScriptLine
quit_alone = line_of 2 Quit ∷ []

-- LISTEN c; BEGIN; \quit
abbrev pub quit_in_block : List ScriptLine
quit_in_block = runs 2 (command.Listen c_name) ∷ runs 3 command.Begin ∷ line_of 4 Quit ∷ []

-- LISTEN c; BEGIN; SAVEPOINT s; \quit
abbrev pub quit_with_savepoint : List ScriptLine
quit_with_savepoint = runs 2 (command.Listen c_name) ∷ runs 3 command.Begin ∷ runs 4 (command.Savepoint (codes "s")) ∷ line_of 5 Quit ∷ []

-- Refusals and failed blocks.

-- SAVEPOINT s; ROLLBACK TO s; RELEASE s; LISTEN 5; NOTIFY with an empty channel; BEGIN; RELEASE s; NOTIFY c, 'x'
abbrev pub each_refused : List ScriptLine
each_refused = runs 2 (command.Savepoint (codes "s"))
    ∷ runs 3 (command.RollbackTo (codes "s"))
    ∷ runs 4 (command.Release (codes "s"))
    ∷ runs 5 (command.Bad 7)
    ∷ runs 6 (command.Invalid ChannelEmpty)
    ∷ runs 7 command.Begin
    ∷ runs 8 (command.Release (codes "s"))
    ∷ runs 9 (command.Notify x_note)
    ∷ []

-- its items, with these refusals in order
abbrev pub refused_with : Refusal → Refusal → Refusal → Refusal → Refusal → Refusal → Refusal → List Item
refused_with a b c d e f g = Line 2 ∷ Refuse a
    ∷ Line 3 ∷ Refuse b
    ∷ Line 4 ∷ Refuse c
    ∷ Line 5 ∷ Refuse d
    ∷ Line 6 ∷ Refuse e
    ∷ Line 7 ∷ Reply tag.Begin None
    ∷ Line 8 ∷ Refuse f
    ∷ Line 9 ∷ Refuse g
    ∷ []

-- one line that is no command, from its byte 7 on
abbrev pub bad_alone : List ScriptLine
bad_alone = runs 2 (command.Bad 7) ∷ []

-- BEGIN; RELEASE s
abbrev pub begin_release : List ScriptLine
begin_release = runs 2 command.Begin ∷ runs 3 (command.Release (codes "s")) ∷ []

-- BEGIN; SAVEPOINT s; RELEASE s; ROLLBACK TO s
abbrev pub back_to_released : List ScriptLine
back_to_released = runs 2 command.Begin ∷ runs 3 (command.Savepoint (codes "s")) ∷ runs 4 (command.Release (codes "s")) ∷ runs 5 (command.RollbackTo (codes "s")) ∷ []

-- BEGIN; NOTIFY c, 'a'; SAVEPOINT s; NOTIFY c, 'z'; LISTEN 5; SAVEPOINT t; RELEASE s; ROLLBACK TO t; ROLLBACK TO s; COMMIT
abbrev pub back_from_failed : List ScriptLine
back_from_failed = runs 2 command.Begin
    ∷ runs 3 (command.Notify (on_c (codes "a")))
    ∷ runs 4 (command.Savepoint (codes "s"))
    ∷ runs 5 (command.Notify (on_c (codes "z")))
    ∷ runs 6 (command.Bad 7)
    ∷ runs 7 (command.Savepoint (codes "t"))
    ∷ runs 8 (command.Release (codes "s"))
    ∷ runs 9 (command.RollbackTo (codes "t"))
    ∷ runs 10 (command.RollbackTo (codes "s"))
    ∷ runs 11 command.Commit
    ∷ []

-- its items: what stood before the savepoint is sent, and what the failed block ignored has done nothing
abbrev pub back_from_failed_items : List Item
back_from_failed_items = answered 2 tag.Begin ++ answered 3 tag.Notify ++ answered 4 tag.Savepoint ++ answered 5 tag.Notify
    ++ (Line 6 ∷ Refuse (refused.Syntax 7) ∷ Line 7 ∷ Refuse refused.Aborted ∷ Line 8 ∷ Refuse refused.Aborted ∷ Line 9 ∷ Refuse (refused.NoSavepoint (codes "t")) ∷ [])
    ++ answered 10 tag.Rollback ++ Line 11 ∷ Publish 3 (on_c (codes "a") ∷ []) ∷ Reply tag.Commit None ∷ []

-- its journal
abbrev pub back_from_failed_journal : List Tx
back_from_failed_journal = sent_by 5 7 (on_c (codes "a") ∷ []) ∷ []

-- Reads.

-- the read of the first transaction, another session's
abbrev pub other_read : Item
other_read = Read 3 4 (delivered 3 1006 x_note ∷ [])

-- LISTEN c; BEGIN; \await f
abbrev pub await_in_block : List ScriptLine
await_in_block = runs 2 (command.Listen c_name) ∷ runs 3 command.Begin ∷ line_of 4 (Await 0) ∷ []

-- LISTEN c; BEGIN; LISTEN 5; ROLLBACK
abbrev pub listener_failed : List ScriptLine
listener_failed = runs 2 (command.Listen c_name) ∷ runs 3 command.Begin ∷ runs 4 (command.Bad 7) ∷ runs 5 command.Rollback ∷ []

-- LISTEN c; BEGIN; LISTEN 5; \await f; ROLLBACK
abbrev pub await_in_failed : List ScriptLine
await_in_failed = runs 2 (command.Listen c_name) ∷ runs 3 command.Begin ∷ runs 4 (command.Bad 7) ∷ line_of 5 (Await 0) ∷ runs 6 command.Rollback ∷ []

-- the items of both, up to the line that fails the block
abbrev pub listener_failed_front : List Item
listener_failed_front = enlisted 2 3 3 ++ answered 3 tag.Begin ++ Line 4 ∷ Refuse (refused.Syntax 7) ∷ []

-- LISTEN c; BEGIN; NOTIFY c, 'x'; UNLISTEN *; COMMIT
abbrev pub leaves_at_commit : List ScriptLine
leaves_at_commit = runs 2 (command.Listen c_name) ∷ runs 3 command.Begin ∷ runs 4 (command.Notify x_note) ∷ runs 5 command.UnlistenAll ∷ runs 6 command.Commit ∷ []

-- its items, up to the COMMIT
abbrev pub leaves_at_commit_front : List Item
leaves_at_commit_front = enlisted 2 3 3 ++ answered 3 tag.Begin ++ answered 4 tag.Notify ++ answered 5 tag.Unlisten

-- BEGIN; LISTEN c; NOTIFY c, 'x'; COMMIT
abbrev pub listen_notify_block : List ScriptLine
listen_notify_block = runs 2 command.Begin ∷ runs 3 (command.Listen c_name) ∷ runs 4 (command.Notify x_note) ∷ runs 5 command.Commit ∷ []

-- another session's transaction, and an own one
abbrev pub other_and_own : List Tx
other_and_own = sent_by 6 7 (x_note ∷ []) ∷ sent_by 5 7 (x_note ∷ []) ∷ []

-- Summaries.

-- three committed transactions and two aborted ones
abbrev pub counted_journal : List Tx
counted_journal = sent_by 1 1 (hello ∷ []) ∷ aborted_by 1 1 hello ∷ sent_by 2 1 (hello ∷ []) ∷ aborted_by 2 1 hello ∷ sent_by 1 1 (hello ∷ []) ∷ []

-- a read of this many notifications
abbrev pub reads : ℕ → ℕ → List Item
reads from to = Read from to (delivered from 1001 hello ∷ delivered from 1002 hello ∷ []) ∷ []

-- four traces that received six notifications in three reads
abbrev pub counted_traces : List Trace
counted_traces =
    let trace : List Item → Trace = λ items. record { session = 1; db = 1; items = items; last = None } in
    trace (Line 2 ∷ reads 3 4 ++ Line 3 ∷ reads 4 8) ∷ trace [] ∷ trace (Line 5 ∷ []) ∷ trace (reads 3 4) ∷ []

-- their summary, with the seed 40 and 9 notifications of each session
abbrev pub counted_text : List ℕ
counted_text = codes "drill seed 40 sessions 4 notes 9\njournal 5\ncommitted 3\naborted 2\nreceived 6\n"
