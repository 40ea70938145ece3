-- Worked examples of runs in which flags order sessions, and of one in which a flag comes too late.
use Rattle.std.specs.Prelude.{ℕ, List, [], ◌∷◌, Some, None, codes}
use Rattle.pgn_base.specs.declared.format.Format.TheVariants.{One}
use Rattle.pgn_base.specs.declared.note.Note.{Note}
use Rattle.pgn_base.specs.declared.answers.Tag.TheVariants as tag
use Rattle.pgn_journal.specs.declared.tx.Tx.{Tx}
use Rattle.pgn_journal.specs.declared.tx.Fate.TheVariants.{Committed}
use Rattle.pgn_base.specs.declared.command.Command.TheVariants as command
use Rattle.pgn_language.specs.declared.scenario.Act.TheVariants.{Signal, Await}
use Rattle.pgn_language.specs.declared.scenario.Section.{Section}
use Rattle.pgn_language.specs.declared.scenario.Scenario.{Scenario}
use Rattle.pgn_model.specs.declared.item.Item.TheVariants.{Line, Enlist, Publish, Reply, Raise, Found, TimedOut, Read}
use Rattle.pgn_model.specs.declared.trace.Trace.{Trace}
use Rattle.pgn_model.specs.Walk.{Settings}
use Rattle.pgn_language.specs.Inputs.{script_line}
use Rattle.pgn_examples.specs.Scripts.{command_line, note_on, finished}

-- the notification `NOTIFY c, 'x'`
abbrev pub notified_x : Note
notified_x = note_on (codes "c") (codes "x")

-- the section `\session a 1`, `LISTEN c`, `BEGIN`, `\signal up`, `\await done`, `COMMIT`
abbrev pub databases_listener : Section
databases_listener = record {
  no = 1;
  name = codes "a";
  db = 1;
  lines = command_line 2 (codes "LISTEN c") (command.Listen (codes "c"))
      ∷ command_line 3 (codes "BEGIN") command.Begin
      ∷ script_line 4 (codes "\\signal up") (Signal 0)
      ∷ script_line 5 (codes "\\await done") (Await 1)
      ∷ command_line 6 (codes "COMMIT") command.Commit ∷ [];
  note_lines = 0;
}

-- the section `\session b 2`, `\await up`, `NOTIFY c, 'x'`, `\signal done`
abbrev pub databases_sender : Section
databases_sender = record {
  no = 2;
  name = codes "b";
  db = 2;
  lines = script_line 8 (codes "\\await up") (Await 0)
      ∷ command_line 9 (codes "NOTIFY c, 'x'") (command.Notify notified_x)
      ∷ script_line 10 (codes "\\signal done") (Signal 1) ∷ [];
  note_lines = 1;
}

-- the scenario of both
abbrev pub databases_scenario : Scenario
databases_scenario = record { sections = databases_listener ∷ databases_sender ∷ []; flags = codes "up" ∷ codes "done" ∷ [] }

-- its journal: one transaction, of the second database
abbrev pub databases_journal : List Tx
databases_journal = finished 2 2 (notified_x ∷ []) 1 Committed ∷ []

-- the trace of the first session: it reads to the end and receives nothing
abbrev pub databases_listener_trace : Trace
databases_listener_trace = record {
  session = 1;
  db = 1;
  items = Line 2 ∷ Enlist 3 3 ∷ Reply tag.Listen None
      ∷ Line 3 ∷ Reply tag.Begin None
      ∷ Line 4 ∷ Raise 3
      ∷ Line 5 ∷ Found 4
      ∷ Line 6 ∷ Reply tag.Commit None ∷ Read 3 4 [] ∷ [];
  last = Some 4;
}

-- the trace of the second
abbrev pub databases_sender_trace : Trace
databases_sender_trace = record {
  session = 2;
  db = 2;
  items = Line 8 ∷ Found 3
      ∷ Line 9 ∷ Publish 3 (notified_x ∷ []) ∷ Reply tag.Notify None
      ∷ Line 10 ∷ Raise 4 ∷ [];
  last = None;
}

-- the output
abbrev pub databases_text : List ℕ
databases_text = codes "journal 1\nxid 3 session 2 commit 1\n  \"c\", 'x'\nsession 1 a db 1 pid 1001\n> LISTEN c\n+enlist 3 3\nLISTEN\n> BEGIN\nBEGIN\n> \\signal up\n+signal 3\n> \\await done\n+await 4\n> COMMIT\nCOMMIT\n+read 3 4\nend mark 4\nsession 2 b db 2 pid 1002\n> \\await up\n+await 3\n> NOTIFY c, 'x'\n+publish 3\nNOTIFY\n> \\signal done\n+signal 4\nend\n"

-- the notification `NOTIFY c, 'hi'`
abbrev pub hi : Note
hi = note_on (codes "c") (codes "hi")

-- the section `\session l 1`, `LISTEN c`, `BEGIN`, `\signal ready`, `\await sent`, `COMMIT`
abbrev pub held_listener : Section
held_listener = record {
  no = 1;
  name = codes "l";
  db = 1;
  lines = command_line 2 (codes "LISTEN c") (command.Listen (codes "c"))
      ∷ command_line 3 (codes "BEGIN") command.Begin
      ∷ script_line 4 (codes "\\signal ready") (Signal 0)
      ∷ script_line 5 (codes "\\await sent") (Await 1)
      ∷ command_line 6 (codes "COMMIT") command.Commit ∷ [];
  note_lines = 0;
}

-- the section `\session s 1`, `\await ready`, `NOTIFY c, 'hi'`, `\signal sent`
abbrev pub held_sender : Section
held_sender = record {
  no = 2;
  name = codes "s";
  db = 1;
  lines = script_line 8 (codes "\\await ready") (Await 0)
      ∷ command_line 9 (codes "NOTIFY c, 'hi'") (command.Notify hi)
      ∷ script_line 10 (codes "\\signal sent") (Signal 1) ∷ [];
  note_lines = 1;
}

-- the scenario of both
abbrev pub held_scenario : Scenario
held_scenario = record { sections = held_listener ∷ held_sender ∷ []; flags = codes "ready" ∷ codes "sent" ∷ [] }

-- its journal: one committed transaction
abbrev pub held_journal : List Tx
held_journal = finished 2 1 (hi ∷ []) 1 Committed ∷ []

-- the trace of the first session: it receives the notification once its block has ended
abbrev pub held_listener_trace : Trace
held_listener_trace = record {
  session = 1;
  db = 1;
  items = Line 2 ∷ Enlist 3 3 ∷ Reply tag.Listen None
      ∷ Line 3 ∷ Reply tag.Begin None
      ∷ Line 4 ∷ Raise 3
      ∷ Line 5 ∷ Found 4
      ∷ Line 6 ∷ Reply tag.Commit None ∷ Read 3 4 (record { xid = 3; pid = 1002; note = hi } ∷ []) ∷ [];
  last = Some 4;
}

-- the trace of the second
abbrev pub held_sender_trace : Trace
held_sender_trace = record {
  session = 2;
  db = 1;
  items = Line 8 ∷ Found 3
      ∷ Line 9 ∷ Publish 3 (hi ∷ []) ∷ Reply tag.Notify None
      ∷ Line 10 ∷ Raise 4 ∷ [];
  last = None;
}

-- the output
abbrev pub held_text : List ℕ
held_text = codes "journal 1\nxid 3 session 2 commit 1\n  \"c\", 'hi'\nsession 1 l db 1 pid 1001\n> LISTEN c\n+enlist 3 3\nLISTEN\n> BEGIN\nBEGIN\n> \\signal ready\n+signal 3\n> \\await sent\n+await 4\n> COMMIT\nCOMMIT\n+read 3 4\n  3 1002 \"c\", 'hi'\nend mark 4\nsession 2 s db 1 pid 1002\n> \\await ready\n+await 3\n> NOTIFY c, 'hi'\n+publish 3\nNOTIFY\n> \\signal sent\n+signal 4\nend\n"

-- the notification `NOTIFY b, 'old'`
abbrev pub old : Note
old = note_on (codes "b") (codes "old")

-- the section `\session l 1`, `LISTEN c`, `BEGIN`, `\signal ready`, `\await sent`, `LISTEN b`, `COMMIT`
abbrev pub filter_listener : Section
filter_listener = record {
  no = 1;
  name = codes "l";
  db = 1;
  lines = command_line 2 (codes "LISTEN c") (command.Listen (codes "c"))
      ∷ command_line 3 (codes "BEGIN") command.Begin
      ∷ script_line 4 (codes "\\signal ready") (Signal 0)
      ∷ script_line 5 (codes "\\await sent") (Await 1)
      ∷ command_line 6 (codes "LISTEN b") (command.Listen (codes "b"))
      ∷ command_line 7 (codes "COMMIT") command.Commit ∷ [];
  note_lines = 0;
}

-- the section `\session s 1`, `\await ready`, `NOTIFY b, 'old'`, `\signal sent`
abbrev pub filter_sender : Section
filter_sender = record {
  no = 2;
  name = codes "s";
  db = 1;
  lines = script_line 9 (codes "\\await ready") (Await 0)
      ∷ command_line 10 (codes "NOTIFY b, 'old'") (command.Notify old)
      ∷ script_line 11 (codes "\\signal sent") (Signal 1) ∷ [];
  note_lines = 1;
}

-- the scenario of both
abbrev pub filter_scenario : Scenario
filter_scenario = record { sections = filter_listener ∷ filter_sender ∷ []; flags = codes "ready" ∷ codes "sent" ∷ [] }

-- its journal: one committed transaction
abbrev pub filter_journal : List Tx
filter_journal = finished 2 1 (old ∷ []) 1 Committed ∷ []

-- the trace of the first session: at the read it listens on the channel, though not when the notification was sent
abbrev pub filter_listener_trace : Trace
filter_listener_trace = record {
  session = 1;
  db = 1;
  items = Line 2 ∷ Enlist 3 3 ∷ Reply tag.Listen None
      ∷ Line 3 ∷ Reply tag.Begin None
      ∷ Line 4 ∷ Raise 3
      ∷ Line 5 ∷ Found 4
      ∷ Line 6 ∷ Reply tag.Listen None
      ∷ Line 7 ∷ Reply tag.Commit None ∷ Read 3 4 (record { xid = 3; pid = 1002; note = old } ∷ []) ∷ [];
  last = Some 4;
}

-- the trace of the second
abbrev pub filter_sender_trace : Trace
filter_sender_trace = record {
  session = 2;
  db = 1;
  items = Line 9 ∷ Found 3
      ∷ Line 10 ∷ Publish 3 (old ∷ []) ∷ Reply tag.Notify None
      ∷ Line 11 ∷ Raise 4 ∷ [];
  last = None;
}

-- the output
abbrev pub filter_text : List ℕ
filter_text = codes "journal 1\nxid 3 session 2 commit 1\n  \"b\", 'old'\nsession 1 l db 1 pid 1001\n> LISTEN c\n+enlist 3 3\nLISTEN\n> BEGIN\nBEGIN\n> \\signal ready\n+signal 3\n> \\await sent\n+await 4\n> LISTEN b\nLISTEN\n> COMMIT\nCOMMIT\n+read 3 4\n  3 1002 \"b\", 'old'\nend mark 4\nsession 2 s db 1 pid 1002\n> \\await ready\n+await 3\n> NOTIFY b, 'old'\n+publish 3\nNOTIFY\n> \\signal sent\n+signal 4\nend\n"

-- the settings that make an await give up after ten looks
abbrev pub ten_looks : Settings
ten_looks = record { format = One; limit = 256; patience = 10 }

-- the scenario `\session a 1`, `\await f`, `\signal f`
abbrev pub timeout_section : Section
timeout_section = record {
  no = 1;
  name = codes "a";
  db = 1;
  lines = script_line 2 (codes "\\await f") (Await 0)
      ∷ script_line 3 (codes "\\signal f") (Signal 0) ∷ [];
  note_lines = 0;
}

-- the scenario of this section
abbrev pub timeout_scenario : Scenario
timeout_scenario = record { sections = timeout_section ∷ []; flags = codes "f" ∷ [] }

-- its trace
abbrev pub timeout_trace : Trace
timeout_trace = record {
  session = 1;
  db = 1;
  items = Line 2 ∷ TimedOut 10
      ∷ Line 3 ∷ Raise 3 ∷ [];
  last = None;
}

-- its output; the journal is empty
abbrev pub timeout_text : List ℕ
timeout_text = codes "journal 0\nsession 1 a db 1 pid 1001\n> \\await f\n+timeout 10\n> \\signal f\n+signal 3\nend\n"

-- the notification `NOTIFY c, 'from a'`
abbrev pub from_a : Note
from_a = note_on (codes "c") (codes "from a")

-- the notification `NOTIFY c, 'from b'`
abbrev pub from_b : Note
from_b = note_on (codes "c") (codes "from b")

-- the section `\session a 1`, `LISTEN c`, `BEGIN`, `\await b1`, `NOTIFY c, 'from a'`, `COMMIT`, `BEGIN`, `\signal a2`, `\await b2`, `COMMIT`
abbrev pub crossing_a : Section
crossing_a = record {
  no = 1;
  name = codes "a";
  db = 1;
  lines = command_line 2 (codes "LISTEN c") (command.Listen (codes "c"))
      ∷ command_line 3 (codes "BEGIN") command.Begin
      ∷ script_line 4 (codes "\\await b1") (Await 0)
      ∷ command_line 5 (codes "NOTIFY c, 'from a'") (command.Notify from_a)
      ∷ command_line 6 (codes "COMMIT") command.Commit
      ∷ command_line 7 (codes "BEGIN") command.Begin
      ∷ script_line 8 (codes "\\signal a2") (Signal 1)
      ∷ script_line 9 (codes "\\await b2") (Await 2)
      ∷ command_line 10 (codes "COMMIT") command.Commit ∷ [];
  note_lines = 1;
}

-- the section `\session b 1`, `LISTEN c`, `BEGIN`, `\signal b1`, `\await a2`, `COMMIT`, `NOTIFY c, 'from b'`, `\signal b2`
abbrev pub crossing_b : Section
crossing_b = record {
  no = 2;
  name = codes "b";
  db = 1;
  lines = command_line 12 (codes "LISTEN c") (command.Listen (codes "c"))
      ∷ command_line 13 (codes "BEGIN") command.Begin
      ∷ script_line 14 (codes "\\signal b1") (Signal 0)
      ∷ script_line 15 (codes "\\await a2") (Await 1)
      ∷ command_line 16 (codes "COMMIT") command.Commit
      ∷ command_line 17 (codes "NOTIFY c, 'from b'") (command.Notify from_b)
      ∷ script_line 18 (codes "\\signal b2") (Signal 2) ∷ [];
  note_lines = 1;
}

-- the scenario of both
abbrev pub crossing_scenario : Scenario
crossing_scenario = record { sections = crossing_a ∷ crossing_b ∷ []; flags = codes "b1" ∷ codes "a2" ∷ codes "b2" ∷ [] }

-- its journal: a transaction of each
abbrev pub crossing_journal : List Tx
crossing_journal = finished 1 1 (from_a ∷ []) 1 Committed ∷ finished 2 1 (from_b ∷ []) 1 Committed ∷ []

-- the trace of the first session
abbrev pub crossing_a_trace : Trace
crossing_a_trace = record {
  session = 1;
  db = 1;
  items = Line 2 ∷ Enlist 3 3 ∷ Reply tag.Listen None
      ∷ Line 3 ∷ Reply tag.Begin None
      ∷ Line 4 ∷ Found 3
      ∷ Line 5 ∷ Reply tag.Notify None
      ∷ Line 6 ∷ Publish 3 (from_a ∷ []) ∷ Reply tag.Commit None ∷ Read 3 4 (record { xid = 3; pid = 1001; note = from_a } ∷ [])
      ∷ Line 7 ∷ Reply tag.Begin None
      ∷ Line 8 ∷ Raise 4
      ∷ Line 9 ∷ Found 5
      ∷ Line 10 ∷ Reply tag.Commit None ∷ Read 4 5 (record { xid = 4; pid = 1002; note = from_b } ∷ []) ∷ [];
  last = Some 5;
}

-- the trace of the second
abbrev pub crossing_b_trace : Trace
crossing_b_trace = record {
  session = 2;
  db = 1;
  items = Line 12 ∷ Enlist 3 3 ∷ Reply tag.Listen None
      ∷ Line 13 ∷ Reply tag.Begin None
      ∷ Line 14 ∷ Raise 3
      ∷ Line 15 ∷ Found 4
      ∷ Line 16 ∷ Reply tag.Commit None ∷ Read 3 4 (record { xid = 3; pid = 1001; note = from_a } ∷ [])
      ∷ Line 17 ∷ Publish 4 (from_b ∷ []) ∷ Reply tag.Notify None ∷ Read 4 5 (record { xid = 4; pid = 1002; note = from_b } ∷ [])
      ∷ Line 18 ∷ Raise 5 ∷ [];
  last = Some 5;
}

-- the output
abbrev pub crossing_text : List ℕ
crossing_text = codes "journal 2\nxid 3 session 1 commit 1\n  \"c\", 'from a'\nxid 4 session 2 commit 1\n  \"c\", 'from b'\nsession 1 a db 1 pid 1001\n> LISTEN c\n+enlist 3 3\nLISTEN\n> BEGIN\nBEGIN\n> \\await b1\n+await 3\n> NOTIFY c, 'from a'\nNOTIFY\n> COMMIT\n+publish 3\nCOMMIT\n+read 3 4\n  3 1001 \"c\", 'from a'\n> BEGIN\nBEGIN\n> \\signal a2\n+signal 4\n> \\await b2\n+await 5\n> COMMIT\nCOMMIT\n+read 4 5\n  4 1002 \"c\", 'from b'\nend mark 5\nsession 2 b db 1 pid 1002\n> LISTEN c\n+enlist 3 3\nLISTEN\n> BEGIN\nBEGIN\n> \\signal b1\n+signal 3\n> \\await a2\n+await 4\n> COMMIT\nCOMMIT\n+read 3 4\n  3 1001 \"c\", 'from a'\n> NOTIFY c, 'from b'\n+publish 4\nNOTIFY\n+read 4 5\n  4 1002 \"c\", 'from b'\n> \\signal b2\n+signal 5\nend mark 5\n"
