-- Worked examples of runs of one session: a block that fails, a listener that leaves in the transaction in which it began, and a
-- listener that quits.
use Rattle.std.specs.Prelude.{ℕ, List, [], ◌∷◌, Some, None, codes}
use Rattle.pgn_base.specs.declared.note.Note.{Note}
use Rattle.pgn_base.specs.declared.answers.Tag.TheVariants as tag
use Rattle.pgn_base.specs.declared.answers.Warning.TheVariants.{NotInBlock}
use Rattle.pgn_base.specs.declared.answers.Refusal.TheVariants.{Syntax, NoSavepoint, Aborted}
use Rattle.pgn_journal.specs.declared.tx.Tx.{Tx}
use Rattle.pgn_journal.specs.declared.tx.Fate.TheVariants.{Committed}
use Rattle.pgn_base.specs.declared.command.Command.TheVariants as command
use Rattle.pgn_language.specs.declared.scenario.Act.TheVariants.{Quit}
use Rattle.pgn_language.specs.declared.scenario.Section.{Section}
use Rattle.pgn_language.specs.declared.scenario.Scenario.{Scenario}
use Rattle.pgn_model.specs.declared.item.Item.TheVariants.{Line, Enlist, Publish, Leave, Reply, Refuse, Used}
use Rattle.pgn_model.specs.declared.trace.Trace.{Trace}
use Rattle.pgn_language.specs.Inputs.{script_line}
use Rattle.pgn_examples.specs.Scripts.{command_line, note_on, finished}

-- the notification `NOTIFY c`
abbrev pub empty_note : Note
empty_note = note_on (codes "c") []

-- the scenario `\session a 1`, `BEGIN`, `ROLLBACK TO s`, `NOTIFY c`, `LISTEN 5`, `COMMIT`, `COMMIT`
abbrev pub failed_block_section : Section
failed_block_section = record {
  no = 1;
  name = codes "a";
  db = 1;
  lines = command_line 2 (codes "BEGIN") command.Begin
      ∷ command_line 3 (codes "ROLLBACK TO s") (command.RollbackTo (codes "s"))
      ∷ command_line 4 (codes "NOTIFY c") (command.Notify empty_note)
      ∷ command_line 5 (codes "LISTEN 5") (command.Bad 7)
      ∷ command_line 6 (codes "COMMIT") command.Commit
      ∷ command_line 7 (codes "COMMIT") command.Commit ∷ [];
  note_lines = 1;
}

-- the scenario of this section
abbrev pub failed_block_scenario : Scenario
failed_block_scenario = record { sections = failed_block_section ∷ []; flags = [] }

-- its trace: the block fails, and its COMMIT rolls it back; the second COMMIT stands outside a block
abbrev pub failed_block_trace : Trace
failed_block_trace = record {
  session = 1;
  db = 1;
  items = Line 2 ∷ Reply tag.Begin None
      ∷ Line 3 ∷ Refuse (NoSavepoint (codes "s"))
      ∷ Line 4 ∷ Refuse Aborted
      ∷ Line 5 ∷ Refuse (Syntax 7)
      ∷ Line 6 ∷ Reply tag.Rollback None
      ∷ Line 7 ∷ Reply tag.Commit (Some NotInBlock) ∷ [];
  last = None;
}

-- its output; the journal is empty
abbrev pub failed_block_text : List ℕ
failed_block_text = codes "journal 0\nsession 1 a db 1 pid 1001\n> BEGIN\nBEGIN\n> ROLLBACK TO s\nERROR: 3B001: savepoint \"s\" does not exist\n> NOTIFY c\nERROR: 25P02: current transaction is aborted, commands ignored until end of transaction block\n> LISTEN 5\nERROR: 42601: syntax error at byte 7\n> COMMIT\nROLLBACK\n> COMMIT\nWARNING: 25P01: there is no transaction in progress\nCOMMIT\nend\n"

-- the scenario `\session a 1`, `BEGIN`, `LISTEN c`, `UNLISTEN *`, `NOTIFY c`, `COMMIT`
abbrev pub left_section : Section
left_section = record {
  no = 1;
  name = codes "a";
  db = 1;
  lines = command_line 2 (codes "BEGIN") command.Begin
      ∷ command_line 3 (codes "LISTEN c") (command.Listen (codes "c"))
      ∷ command_line 4 (codes "UNLISTEN *") command.UnlistenAll
      ∷ command_line 5 (codes "NOTIFY c") (command.Notify empty_note)
      ∷ command_line 6 (codes "COMMIT") command.Commit ∷ [];
  note_lines = 1;
}

-- the scenario of this section
abbrev pub left_scenario : Scenario
left_scenario = record { sections = left_section ∷ []; flags = [] }

-- its journal: one committed transaction
abbrev pub left_journal : List Tx
left_journal = finished 1 1 (empty_note ∷ []) 1 Committed ∷ []

-- its trace: at the commit the session becomes a listener, publishes and leaves
abbrev pub left_trace : Trace
left_trace = record {
  session = 1;
  db = 1;
  items = Line 2 ∷ Reply tag.Begin None
      ∷ Line 3 ∷ Reply tag.Listen None
      ∷ Line 4 ∷ Reply tag.Unlisten None
      ∷ Line 5 ∷ Reply tag.Notify None
      ∷ Line 6 ∷ Enlist 3 3 ∷ Publish 3 (empty_note ∷ []) ∷ Leave ∷ Reply tag.Commit None ∷ [];
  last = None;
}

-- its output
abbrev pub left_text : List ℕ
left_text = codes "journal 1\nxid 3 session 1 commit 1\n  \"c\", ''\nsession 1 a db 1 pid 1001\n> BEGIN\nBEGIN\n> LISTEN c\nLISTEN\n> UNLISTEN *\nUNLISTEN\n> NOTIFY c\nNOTIFY\n> COMMIT\n+enlist 3 3\n+publish 3\n+leave\nCOMMIT\nend\n"

-- the scenario `\session a 1`, `LISTEN c`, `SELECT pg_notification_queue_usage()`, `BEGIN`, `NOTIFY c`, `\quit`
abbrev pub quit_section : Section
quit_section = record {
  no = 1;
  name = codes "a";
  db = 1;
  lines = command_line 2 (codes "LISTEN c") (command.Listen (codes "c"))
      ∷ command_line 3 (codes "SELECT pg_notification_queue_usage()") command.QueueUsage
      ∷ command_line 4 (codes "BEGIN") command.Begin
      ∷ command_line 5 (codes "NOTIFY c") (command.Notify empty_note)
      ∷ script_line 6 (codes "\\quit") Quit ∷ [];
  note_lines = 1;
}

-- the scenario of this section
abbrev pub quit_scenario : Scenario
quit_scenario = record { sections = quit_section ∷ []; flags = [] }

-- its trace: no page is in use, and the session leaves as it quits
abbrev pub quit_trace : Trace
quit_trace = record {
  session = 1;
  db = 1;
  items = Line 2 ∷ Enlist 3 3 ∷ Reply tag.Listen None
      ∷ Line 3 ∷ Used (record { at = 3; occupied = 0; limit = 256; floor_mark = 3; holder = None }) ∷ Reply (tag.Select 1) None
      ∷ Line 4 ∷ Reply tag.Begin None
      ∷ Line 5 ∷ Reply tag.Notify None
      ∷ Line 6 ∷ Leave ∷ [];
  last = None;
}

-- its output; the journal is empty
abbrev pub quit_text : List ℕ
quit_text = codes "journal 0\nsession 1 a db 1 pid 1001\n> LISTEN c\n+enlist 3 3\nLISTEN\n> SELECT pg_notification_queue_usage()\n+usage 3 floor 3 holder none\n  0/256\nSELECT 1\n> BEGIN\nBEGIN\n> NOTIFY c\nNOTIFY\n> \\quit\n+leave\nend\n"
