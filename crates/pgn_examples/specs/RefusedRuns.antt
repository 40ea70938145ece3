-- Traces that no run has. Each is a trace that a run has, with one thing changed.
use Rattle.std.specs.Prelude.{ℕ, ◌+◌, List, [], ◌∷◌, ◌++◌, take, drop, Option, Some, None, codes}
use Rattle.std.specs.Str.{byte}
use Rattle.pgn_base.specs.declared.limits.TheConstants.{PATIENCE_DEFAULT}
use Rattle.pgn_base.specs.declared.format.Format.TheVariants.{One}
use Rattle.pgn_base.specs.declared.answers.Tag.TheVariants as tag
use Rattle.pgn_base.specs.declared.answers.Refusal.TheVariants as refused
use Rattle.pgn_journal.specs.declared.tx.Tx.{Tx}
use Rattle.pgn_journal.specs.declared.tx.Fate.TheVariants.{Committed, Aborted}
use Rattle.pgn_base.specs.declared.command.Command.TheVariants as command
use Rattle.pgn_language.specs.declared.scenario.Act.TheVariants.{Signal, Await}
use Rattle.pgn_language.specs.declared.scenario.Section.{Section}
use Rattle.pgn_model.specs.declared.item.Item.{Item}
use Rattle.pgn_model.specs.declared.item.Item.TheVariants.{Line, Enlist, Publish, QueueFull, Leave, Reply, Refuse, Channels, Used, Raise, Found, Read}
use Rattle.pgn_model.specs.declared.trace.Trace.{Trace}
use Rattle.pgn_model.specs.Walk.{Settings, Terms}
use Rattle.pgn_language.specs.Inputs.{script_line}
use Rattle.pgn_examples.specs.Scripts.{command_line, finished}
use Rattle.pgn_examples.specs.Runs.{hello}
use Rattle.pgn_examples.specs.Blocks.{empty_note}
use Rattle.pgn_examples.specs.Flags.{hi}
use Rattle.pgn_examples.specs.FullQueue.{long_note}

-- a section under settings
abbrev pub judged : Section → Settings → Terms
judged section settings = record { section = section; settings = settings }

-- a trace with this item in the place of the one at a place, counted from 0
abbrev pub with_item : Trace → ℕ → Item → Trace
with_item trace at item = record trace { items = take at trace.items ++ item ∷ drop (at + 1) trace.items }

-- a trace with one more item, at a place
abbrev pub with_more : Trace → ℕ → Item → Trace
with_more trace at item = record trace { items = take at trace.items ++ item ∷ drop at trace.items }

-- a trace without the item at a place
abbrev pub without_item : Trace → ℕ → Trace
without_item trace at = record trace { items = take at trace.items ++ drop (at + 1) trace.items }

-- such a trace, at whose end the session still listens
abbrev pub stays_at : ℕ → Trace → Trace
stays_at mark trace = record trace { last = Some mark }

-- the section `\session a 1`, `\signal f`, `\await f`
abbrev pub known_flag_section : Section
known_flag_section = record {
  no = 1;
  name = codes "a";
  db = 1;
  lines = script_line 2 (codes "\\signal f") (Signal 0)
      ∷ script_line 3 (codes "\\await f") (Await 0) ∷ [];
  note_lines = 0;
}

-- its trace
abbrev pub known_flag_trace : Trace
known_flag_trace = record {
  session = 1;
  db = 1;
  items = Line 2 ∷ Raise 3
      ∷ Line 3 ∷ Found 3 ∷ [];
  last = None;
}

-- the read of a listener that was held back by its block
abbrev pub held_read : Item
held_read = Read 3 4 (record { xid = 3; pid = 1002; note = hi } ∷ [])

-- a full queue at the fifth transaction of the run with two pages, with this floor and this holder
abbrev pub full_item : ℕ → Option ℕ → Item
full_item floor holder = QueueFull (record { xid = 5; queued = 0; head_page = 2; floor_mark = floor; floor_page = 0; holder = holder }) (long_note (byte "x") ∷ [])

-- the settings of a queue of three pages
abbrev pub three_pages : Settings
three_pages = record { format = One; limit = 3; patience = PATIENCE_DEFAULT }

-- a full queue at the fourth transaction, with this floor and this holder
abbrev pub own_full_item : ℕ → Option ℕ → Item
own_full_item floor holder = QueueFull (record { xid = 4; queued = 0; head_page = 2; floor_mark = floor; floor_page = 0; holder = holder }) (hello ∷ [])

-- a transaction of another session and database, and one that met a full queue
abbrev pub own_full_journal : List Tx
own_full_journal = finished 2 2 (hello ∷ []) 1 Committed ∷ finished 1 1 (hello ∷ []) 0 Aborted ∷ []

-- the trace of a session that listens and then meets a full queue, of which it holds the floor itself
abbrev pub own_full_trace : Trace
own_full_trace = record {
  session = 1;
  db = 1;
  items = Line 2 ∷ Enlist 3 3 ∷ Reply tag.Listen None
      ∷ Line 3 ∷ own_full_item 3 (Some 1) ∷ Refuse refused.QueueFull ∷ [];
  last = Some 3;
}

-- the section `\session a 1`, `BEGIN`, `LISTEN c`, `NOTIFY c`, `COMMIT`, `SELECT pg_listening_channels()`
abbrev pub full_listen_section : Section
full_listen_section = record {
  no = 1;
  name = codes "a";
  db = 1;
  lines = command_line 2 (codes "BEGIN") command.Begin
      ∷ command_line 3 (codes "LISTEN c") (command.Listen (codes "c"))
      ∷ command_line 4 (codes "NOTIFY c") (command.Notify empty_note)
      ∷ command_line 5 (codes "COMMIT") command.Commit
      ∷ command_line 6 (codes "SELECT pg_listening_channels()") command.ListeningChannels ∷ [];
  note_lines = 1;
}

-- a transaction that met a full queue
abbrev pub full_listen_journal : List Tx
full_listen_journal = finished 1 1 (empty_note ∷ []) 0 Aborted ∷ []

-- its trace: the full queue leaves the set as it was, so that the session listens to nothing
abbrev pub full_listen_trace : Trace
full_listen_trace = record {
  session = 1;
  db = 1;
  items = Line 2 ∷ Reply tag.Begin None
      ∷ Line 3 ∷ Reply tag.Listen None
      ∷ Line 4 ∷ Reply tag.Notify None
      ∷ Line 5 ∷ Enlist 3 3 ∷ QueueFull (record { xid = 3; queued = 0; head_page = 2; floor_mark = 3; floor_page = 0; holder = None }) (empty_note ∷ []) ∷ Leave ∷ Refuse refused.QueueFull
      ∷ Line 6 ∷ Channels [] ∷ Reply (tag.Select 0) None ∷ [];
  last = None;
}

-- the section `\session a 1`, `NOTIFY c`, `SELECT pg_notification_queue_usage()`
abbrev pub usage_section : Section
usage_section = record {
  no = 1;
  name = codes "a";
  db = 1;
  lines = command_line 2 (codes "NOTIFY c") (command.Notify empty_note)
      ∷ command_line 3 (codes "SELECT pg_notification_queue_usage()") command.QueueUsage ∷ [];
  note_lines = 1;
}

-- no page is in use at a number
abbrev pub usage_at : ℕ → Item
usage_at xid = Used (record { at = xid; occupied = 0; limit = 256; floor_mark = xid; holder = None })

-- its trace
abbrev pub usage_trace : Trace
usage_trace = record {
  session = 1;
  db = 1;
  items = Line 2 ∷ Publish 3 (empty_note ∷ []) ∷ Reply tag.Notify None
      ∷ Line 3 ∷ usage_at 4 ∷ Reply (tag.Select 1) None ∷ [];
  last = None;
}

-- the section `\session a 1`, `LISTEN c`, `LISTEN b`, `SELECT pg_listening_channels()`
abbrev pub channels_section : Section
channels_section = record {
  no = 1;
  name = codes "a";
  db = 1;
  lines = command_line 2 (codes "LISTEN c") (command.Listen (codes "c"))
      ∷ command_line 3 (codes "LISTEN b") (command.Listen (codes "b"))
      ∷ command_line 4 (codes "SELECT pg_listening_channels()") command.ListeningChannels ∷ [];
  note_lines = 0;
}

-- its trace: the channels in order of listening
abbrev pub channels_trace : Trace
channels_trace = record {
  session = 1;
  db = 1;
  items = Line 2 ∷ Enlist 3 3 ∷ Reply tag.Listen None
      ∷ Line 3 ∷ Reply tag.Listen None
      ∷ Line 4 ∷ Channels (codes "c" ∷ codes "b" ∷ []) ∷ Reply (tag.Select 2) None ∷ [];
  last = Some 3;
}
