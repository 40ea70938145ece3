-- Worked examples of the output: tags, warnings and refusals, entries of a journal, and sections with their traces.
use Rattle.std.specs.Prelude.{ℕ, List, [], ◌∷◌, Option, Some, None, codes}
use Rattle.pgn_base.specs.declared.note.Note.{Note}
use Rattle.pgn_base.specs.declared.answers.Tag.{Tag}
use Rattle.pgn_base.specs.declared.answers.Tag.TheVariants as tag
use Rattle.pgn_base.specs.declared.answers.Warning.{Warning}
use Rattle.pgn_base.specs.declared.answers.Warning.TheVariants.{AlreadyInBlock, NotInBlock}
use Rattle.pgn_base.specs.declared.answers.Which.TheVariants.{ChannelEmpty, ChannelTooLong, PayloadTooLong}
use Rattle.pgn_base.specs.declared.answers.Needs.TheVariants as needs
use Rattle.pgn_base.specs.declared.answers.Refusal.{Refusal}
use Rattle.pgn_base.specs.declared.answers.Refusal.TheVariants.{Syntax, Bounds, NeedsBlock, NoSavepoint, Aborted, QueueFull}
use Rattle.pgn_journal.specs.declared.tx.Tx.{Tx}
use Rattle.pgn_journal.specs.declared.tx.Fate.TheVariants as fate
use Rattle.pgn_base.specs.declared.command.Command.TheVariants as command
use Rattle.pgn_language.specs.declared.scenario.Act.TheVariants.{Run}
use Rattle.pgn_language.specs.declared.scenario.Section.{Section}
use Rattle.pgn_language.specs.declared.scenario.Scenario.{Scenario}
use Rattle.pgn_model.specs.declared.item.Item.TheVariants.{Line, Enlist, Publish, Reply, Read}
use Rattle.pgn_model.specs.declared.trace.Trace.{Trace}

-- each tag, and that of rows with several numbers
abbrev pub each_tag : List Tag
each_tag = tag.Begin ∷ tag.Start ∷ tag.Commit ∷ tag.Rollback ∷ tag.Savepoint ∷ tag.Release ∷ tag.Listen ∷ tag.Unlisten ∷ tag.Notify ∷ tag.Select 0 ∷ tag.Select 1 ∷ tag.Select 120 ∷ []

-- their lines
abbrev pub tag_lines : List (List ℕ)
tag_lines = codes "BEGIN"
    ∷ codes "START TRANSACTION"
    ∷ codes "COMMIT"
    ∷ codes "ROLLBACK"
    ∷ codes "SAVEPOINT"
    ∷ codes "RELEASE"
    ∷ codes "LISTEN"
    ∷ codes "UNLISTEN"
    ∷ codes "NOTIFY"
    ∷ codes "SELECT 0"
    ∷ codes "SELECT 1"
    ∷ codes "SELECT 120"
    ∷ []

-- no warning, and each warning
abbrev pub each_warning : List (Option Warning)
each_warning = None ∷ Some AlreadyInBlock ∷ Some NotInBlock ∷ []

-- their lines
abbrev pub lines_of_warnings : List (List ℕ)
lines_of_warnings = codes "WARNING: 25001: there is already a transaction in progress"
    ∷ codes "WARNING: 25P01: there is no transaction in progress"
    ∷ []

-- each refusal; the second of a savepoint has a name with quotes, which stand as they are
abbrev pub each_refusal : List Refusal
each_refusal = Syntax 0
    ∷ Syntax 65536
    ∷ Bounds ChannelEmpty
    ∷ Bounds ChannelTooLong
    ∷ Bounds PayloadTooLong
    ∷ NeedsBlock needs.Savepoint
    ∷ NeedsBlock needs.RollbackTo
    ∷ NeedsBlock needs.Release
    ∷ NoSavepoint (codes "s")
    ∷ NoSavepoint (codes "a\"b'c")
    ∷ Aborted
    ∷ QueueFull
    ∷ []

-- their lines
abbrev pub lines_of_refusals : List (List ℕ)
lines_of_refusals = codes "ERROR: 42601: syntax error at byte 0"
    ∷ codes "ERROR: 42601: syntax error at byte 65536"
    ∷ codes "ERROR: 22023: channel name cannot be empty"
    ∷ codes "ERROR: 22023: channel name too long"
    ∷ codes "ERROR: 22023: payload string too long"
    ∷ codes "ERROR: 25P01: SAVEPOINT can only be used in transaction blocks"
    ∷ codes "ERROR: 25P01: ROLLBACK TO SAVEPOINT can only be used in transaction blocks"
    ∷ codes "ERROR: 25P01: RELEASE SAVEPOINT can only be used in transaction blocks"
    ∷ codes "ERROR: 3B001: savepoint \"s\" does not exist"
    ∷ codes "ERROR: 3B001: savepoint \"a\"b'c\" does not exist"
    ∷ codes "ERROR: 25P02: current transaction is aborted, commands ignored until end of transaction block"
    ∷ codes "ERROR: 54000: too many notifications in the NOTIFY queue"
    ∷ []

-- a notification whose channel and payload have both quotes
abbrev pub quoted_note : Note
quoted_note = record { channel = codes "a\"b'c"; payload = codes "it's \"x\"" }

-- one whose payload is a quote
abbrev pub quote_note : Note
quote_note = record { channel = codes "C d"; payload = codes "'" }

-- one without a payload
abbrev pub empty_note : Note
empty_note = record { channel = codes "c"; payload = [] }

-- a committed transaction of two notifications with quotes
abbrev pub quoted_tx : Tx
quoted_tx = record { session = 2; db = 7; notes = quoted_note ∷ quote_note ∷ []; queued = 2; fate = fate.Committed }

-- a transaction that was aborted before its notification was queued
abbrev pub unqueued_tx : Tx
unqueued_tx = record { session = 2; db = 7; notes = empty_note ∷ []; queued = 0; fate = fate.Aborted }

-- a transaction that was aborted after one of its two notifications was queued
abbrev pub half_queued_tx : Tx
half_queued_tx = record { session = 1; db = 3; notes = empty_note ∷ quote_note ∷ []; queued = 1; fate = fate.Aborted }

-- the journal of these
abbrev pub shown_journal : List Tx
shown_journal = quoted_tx ∷ half_queued_tx ∷ unqueued_tx ∷ []

-- its text
abbrev pub shown_journal_text : List ℕ
shown_journal_text = codes "journal 3\nxid 3 session 2 commit 2\n  \"a\"\"b'c\", 'it''s \"x\"'\n  \"C d\", ''''\nxid 4 session 1 abort 1 of 2\n  \"c\", ''\n  \"C d\", ''''\nxid 5 session 2 abort 0 of 1\n  \"c\", ''\n"

-- a section whose number is not its database
abbrev pub first_section : Section
first_section = record {
  no = 1;
  name = codes "a-1";
  db = 3;
  lines = record { line = 2; text = codes "ROLLBACK"; act = Run command.Rollback } ∷ record { line = 4; text = codes "begin"; act = Run command.Begin } ∷ [];
  note_lines = 0;
}

-- its trace: it is no listener in the end
abbrev pub first_trace : Trace
first_trace = record {
  session = 1;
  db = 3;
  items = Line 2 ∷ Reply tag.Rollback (Some NotInBlock) ∷ Line 4 ∷ Reply tag.Begin None ∷ [];
  last = None;
}

-- its text
abbrev pub first_text : List ℕ
first_text = codes "session 1 a-1 db 3 pid 1001\n> ROLLBACK\nWARNING: 25P01: there is no transaction in progress\nROLLBACK\n> begin\nBEGIN\nend\n"

-- a second section
abbrev pub second_section : Section
second_section = record {
  no = 2;
  name = codes "b";
  db = 7;
  lines = record { line = 6; text = codes "LISTEN \"a\"\"b'c\""; act = Run (command.Listen (codes "a\"b'c")) } ∷ record { line = 8; text = codes "COMMIT;"; act = Run command.Commit } ∷ [];
  note_lines = 0;
}

-- its trace: it reads notifications with quotes, and ends as a listener
abbrev pub second_trace : Trace
second_trace = record {
  session = 2;
  db = 7;
  items = Line 6 ∷ Enlist 3 5 ∷ Reply tag.Listen None ∷ Line 8 ∷ Publish 5 (quoted_note ∷ []) ∷ Reply tag.Commit None
      ∷ Read 5 12 (record { xid = 5; pid = 1002; note = quoted_note } ∷ record { xid = 11; pid = 1001; note = quote_note } ∷ []) ∷ Read 12 13 [] ∷ [];
  last = Some 13;
}

-- its text
abbrev pub second_text : List ℕ
second_text = codes "session 2 b db 7 pid 1002\n> LISTEN \"a\"\"b'c\"\n+enlist 3 5\nLISTEN\n> COMMIT;\n+publish 5\nCOMMIT\n+read 5 12\n  5 1002 \"a\"\"b'c\", 'it''s \"x\"'\n  11 1001 \"C d\", ''''\n+read 12 13\nend mark 13\n"

-- the scenario of the two sections
abbrev pub shown_scenario : Scenario
shown_scenario = record { sections = first_section ∷ second_section ∷ []; flags = [] }
