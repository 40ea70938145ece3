-- Worked examples of runs in which the queue is full: by a listener that doesn't read, and by a transaction larger than the queue.
use Rattle.std.specs.Prelude.{ℕ, List, [], ◌∷◌, ◌++◌, replicate, Some, None, codes}
use Rattle.std.specs.Str.{byte}
use Rattle.pgn_base.specs.declared.limits.TheConstants.{PATIENCE_DEFAULT}
use Rattle.pgn_base.specs.declared.format.Format.TheVariants.{One}
use Rattle.pgn_base.specs.declared.note.Note.{Note}
use Rattle.pgn_base.specs.declared.answers.Tag.TheVariants as tag
use Rattle.pgn_base.specs.declared.answers.Refusal.TheVariants as refused
use Rattle.pgn_journal.specs.declared.tx.Tx.{Tx}
use Rattle.pgn_journal.specs.declared.tx.Fate.TheVariants.{Committed, Aborted}
use Rattle.pgn_base.specs.declared.command.Command.TheVariants as command
use Rattle.pgn_language.specs.declared.scenario.Act.TheVariants.{Signal, Await}
use Rattle.pgn_language.specs.declared.scenario.Section.{Section}
use Rattle.pgn_language.specs.declared.scenario.Scenario.{Scenario}
use Rattle.pgn_model.specs.declared.item.Item.TheVariants.{Line, Enlist, Publish, QueueFull, Reply, Refuse, Raise, Found, Read}
use Rattle.pgn_model.specs.declared.trace.Trace.{Trace}
use Rattle.pgn_model.specs.Walk.{Settings}
use Rattle.pgn_language.specs.Inputs.{script_line}
use Rattle.pgn_examples.specs.Scripts.{command_line, note_on, finished}

-- this letter 7,999 times: the longest payload
unfoldable pub many : ℕ → List ℕ
many letter = replicate 7999 letter

-- the notification `SELECT pg_notify('c', repeat(.., 7999))` of a letter
abbrev pub long_note : ℕ → Note
long_note letter = note_on (codes "c") (many letter)

-- the settings of a queue of two pages
abbrev pub two_pages : Settings
two_pages = record { format = One; limit = 2; patience = PATIENCE_DEFAULT }

-- the notification `NOTIFY c, 'last'`
abbrev pub last_one : Note
last_one = note_on (codes "c") (codes "last")

-- the section `\session l 1`, `LISTEN c`, `BEGIN`, `\signal ready`, `\await four`, `COMMIT`, `\signal read`
abbrev pub full_listener : Section
full_listener = record {
  no = 1;
  name = codes "l";
  db = 1;
  lines = command_line 2 (codes "LISTEN c") (command.Listen (codes "c"))
      ∷ command_line 3 (codes "BEGIN") command.Begin
      ∷ script_line 4 (codes "\\signal ready") (Signal 0)
      ∷ script_line 5 (codes "\\await four") (Await 1)
      ∷ command_line 6 (codes "COMMIT") command.Commit
      ∷ script_line 7 (codes "\\signal read") (Signal 2) ∷ [];
  note_lines = 0;
}

-- the section `\session s 1`, `\await ready`, four times `SELECT pg_notify('c', repeat('x', 7999))`, `\signal four`, `\await read`, `NOTIFY c, 'last'`
abbrev pub full_sender : Section
full_sender = record {
  no = 2;
  name = codes "s";
  db = 1;
  lines = script_line 9 (codes "\\await ready") (Await 0)
      ∷ command_line 10 (codes "SELECT pg_notify('c', repeat('x', 7999))") (command.PgNotify (long_note (byte "x")))
      ∷ command_line 11 (codes "SELECT pg_notify('c', repeat('x', 7999))") (command.PgNotify (long_note (byte "x")))
      ∷ command_line 12 (codes "SELECT pg_notify('c', repeat('x', 7999))") (command.PgNotify (long_note (byte "x")))
      ∷ command_line 13 (codes "SELECT pg_notify('c', repeat('x', 7999))") (command.PgNotify (long_note (byte "x")))
      ∷ script_line 14 (codes "\\signal four") (Signal 1)
      ∷ script_line 15 (codes "\\await read") (Await 2)
      ∷ command_line 16 (codes "NOTIFY c, 'last'") (command.Notify last_one) ∷ [];
  note_lines = 5;
}

-- the scenario of both
abbrev pub full_scenario : Scenario
full_scenario = record { sections = full_listener ∷ full_sender ∷ []; flags = codes "ready" ∷ codes "four" ∷ codes "read" ∷ [] }

-- its journal: two transactions fill the queue's two pages, two more are aborted, and the last is committed
abbrev pub full_run_journal : List Tx
full_run_journal = finished 2 1 (long_note (byte "x") ∷ []) 1 Committed
    ∷ finished 2 1 (long_note (byte "x") ∷ []) 1 Committed
    ∷ finished 2 1 (long_note (byte "x") ∷ []) 0 Aborted
    ∷ finished 2 1 (long_note (byte "x") ∷ []) 0 Aborted
    ∷ finished 2 1 (last_one ∷ []) 1 Committed ∷ []

-- the trace of the listener: its block keeps the floor at 3 until it has read, and the aborted transactions give it nothing
abbrev pub full_listener_trace : Trace
full_listener_trace = record {
  session = 1;
  db = 1;
  items = Line 2 ∷ Enlist 3 3 ∷ Reply tag.Listen None
      ∷ Line 3 ∷ Reply tag.Begin None
      ∷ Line 4 ∷ Raise 3
      ∷ Line 5 ∷ Found 7
      ∷ Line 6 ∷ Reply tag.Commit None ∷ Read 3 7 (record { xid = 3; pid = 1002; note = long_note (byte "x") } ∷ record { xid = 4; pid = 1002; note = long_note (byte "x") } ∷ [])
      ∷ Line 7 ∷ Raise 7 ∷ Read 7 8 (record { xid = 7; pid = 1002; note = last_one } ∷ []) ∷ [];
  last = Some 8;
}

-- the trace of the sender
abbrev pub full_sender_trace : Trace
full_sender_trace = record {
  session = 2;
  db = 1;
  items = Line 9 ∷ Found 3
      ∷ Line 10 ∷ Publish 3 (long_note (byte "x") ∷ []) ∷ Reply (tag.Select 1) None
      ∷ Line 11 ∷ Publish 4 (long_note (byte "x") ∷ []) ∷ Reply (tag.Select 1) None
      ∷ Line 12 ∷ QueueFull (record { xid = 5; queued = 0; head_page = 2; floor_mark = 3; floor_page = 0; holder = Some 1 }) (long_note (byte "x") ∷ []) ∷ Refuse refused.QueueFull
      ∷ Line 13 ∷ QueueFull (record { xid = 6; queued = 0; head_page = 2; floor_mark = 3; floor_page = 0; holder = Some 1 }) (long_note (byte "x") ∷ []) ∷ Refuse refused.QueueFull
      ∷ Line 14 ∷ Raise 7
      ∷ Line 15 ∷ Found 7
      ∷ Line 16 ∷ Publish 7 (last_one ∷ []) ∷ Reply tag.Notify None ∷ [];
  last = None;
}

-- the output
abbrev pub full_text : List ℕ
full_text = codes "journal 5\nxid 3 session 2 commit 1\n  \"c\", '"
    ++ many (byte "x")
    ++ codes "'\nxid 4 session 2 commit 1\n  \"c\", '"
    ++ many (byte "x")
    ++ codes "'\nxid 5 session 2 abort 0 of 1\n  \"c\", '"
    ++ many (byte "x")
    ++ codes "'\nxid 6 session 2 abort 0 of 1\n  \"c\", '"
    ++ many (byte "x")
    ++ codes "'\nxid 7 session 2 commit 1\n  \"c\", 'last'\nsession 1 l db 1 pid 1001\n> LISTEN c\n+enlist 3 3\nLISTEN\n> BEGIN\nBEGIN\n> \\signal ready\n+signal 3\n> \\await four\n+await 7\n> COMMIT\nCOMMIT\n+read 3 7\n  3 1002 \"c\", '"
    ++ many (byte "x")
    ++ codes "'\n  4 1002 \"c\", '"
    ++ many (byte "x")
    ++ codes "'\n> \\signal read\n+signal 7\n+read 7 8\n  7 1002 \"c\", 'last'\nend mark 8\nsession 2 s db 1 pid 1002\n> \\await ready\n+await 3\n> SELECT pg_notify('c', repeat('x', 7999))\n+publish 3\nSELECT 1\n> SELECT pg_notify('c', repeat('x', 7999))\n+publish 4\nSELECT 1\n> SELECT pg_notify('c', repeat('x', 7999))\n+full 5 queued 0 head 2 floor 3 page 0 holder 1\nERROR: 54000: too many notifications in the NOTIFY queue\n> SELECT pg_notify('c', repeat('x', 7999))\n+full 6 queued 0 head 2 floor 3 page 0 holder 1\nERROR: 54000: too many notifications in the NOTIFY queue\n> \\signal four\n+signal 7\n> \\await read\n+await 7\n> NOTIFY c, 'last'\n+publish 7\nNOTIFY\nend\n"

-- the notification `NOTIFY c`
abbrev pub bare_one : Note
bare_one = note_on (codes "c") []

-- the scenario `\session a 1`, `BEGIN`, `SELECT pg_notify('c', repeat('x', 7999))`, the same with y and with z, `COMMIT`, `NOTIFY c`
abbrev pub larger_section : Section
larger_section = record {
  no = 1;
  name = codes "a";
  db = 1;
  lines = command_line 2 (codes "BEGIN") command.Begin
      ∷ command_line 3 (codes "SELECT pg_notify('c', repeat('x', 7999))") (command.PgNotify (long_note (byte "x")))
      ∷ command_line 4 (codes "SELECT pg_notify('c', repeat('y', 7999))") (command.PgNotify (long_note (byte "y")))
      ∷ command_line 5 (codes "SELECT pg_notify('c', repeat('z', 7999))") (command.PgNotify (long_note (byte "z")))
      ∷ command_line 6 (codes "COMMIT") command.Commit
      ∷ command_line 7 (codes "NOTIFY c") (command.Notify bare_one) ∷ [];
  note_lines = 4;
}

-- the scenario of this section
abbrev pub larger_scenario : Scenario
larger_scenario = record { sections = larger_section ∷ []; flags = [] }

-- its journal: a transaction larger than the queue, of which two notifications were queued, and a short one
abbrev pub larger_run_journal : List Tx
larger_run_journal = finished 1 1 (long_note (byte "x") ∷ long_note (byte "y") ∷ long_note (byte "z") ∷ []) 2 Aborted ∷ finished 1 1 (bare_one ∷ []) 1 Committed ∷ []

-- its trace
abbrev pub larger_trace : Trace
larger_trace = record {
  session = 1;
  db = 1;
  items = Line 2 ∷ Reply tag.Begin None
      ∷ Line 3 ∷ Reply (tag.Select 1) None
      ∷ Line 4 ∷ Reply (tag.Select 1) None
      ∷ Line 5 ∷ Reply (tag.Select 1) None
      ∷ Line 6 ∷ QueueFull (record { xid = 3; queued = 2; head_page = 2; floor_mark = 3; floor_page = 0; holder = None }) (long_note (byte "x") ∷ long_note (byte "y") ∷ long_note (byte "z") ∷ []) ∷ Refuse refused.QueueFull
      ∷ Line 7 ∷ Publish 4 (bare_one ∷ []) ∷ Reply tag.Notify None ∷ [];
  last = None;
}

-- its output
abbrev pub larger_text : List ℕ
larger_text = codes "journal 2\nxid 3 session 1 abort 2 of 3\n  \"c\", '"
    ++ many (byte "x")
    ++ codes "'\n  \"c\", '"
    ++ many (byte "y")
    ++ codes "'\n  \"c\", '"
    ++ many (byte "z")
    ++ codes "'\nxid 4 session 1 commit 1\n  \"c\", ''\nsession 1 a db 1 pid 1001\n> BEGIN\nBEGIN\n> SELECT pg_notify('c', repeat('x', 7999))\nSELECT 1\n> SELECT pg_notify('c', repeat('y', 7999))\nSELECT 1\n> SELECT pg_notify('c', repeat('z', 7999))\nSELECT 1\n> COMMIT\n+full 3 queued 2 head 2 floor 3 page 0 holder none\nERROR: 54000: too many notifications in the NOTIFY queue\n> NOTIFY c\n+publish 4\nNOTIFY\nend\n"
