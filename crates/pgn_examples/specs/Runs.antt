-- Worked examples, written out.
use Rattle.std.specs.Prelude.{ℕ, List, [], ◌∷◌, Some, None, codes}
use Rattle.pgn_base.specs.declared.note.Note.{Note}
use Rattle.pgn_base.specs.declared.answers.Tag.TheVariants as tag
use Rattle.pgn_journal.specs.declared.tx.Tx.{Tx}
use Rattle.pgn_journal.specs.declared.tx.Fate.TheVariants.{Committed}
use Rattle.pgn_base.specs.declared.command.Command.TheVariants as command
use Rattle.pgn_language.specs.declared.scenario.Act.TheVariants.{Run}
use Rattle.pgn_language.specs.declared.scenario.Section.{Section}
use Rattle.pgn_language.specs.declared.scenario.Scenario.{Scenario}
use Rattle.pgn_model.specs.declared.item.Item.TheVariants.{Line, Enlist, Publish, Reply, Read}
use Rattle.pgn_model.specs.declared.trace.Trace.{Trace}

-- the notification `NOTIFY c, 'x'`
abbrev pub hello : Note
hello = record { channel = codes "c"; payload = codes "x" }

-- the scenario `\session a 1`, `LISTEN c`, `NOTIFY c, 'x'`
abbrev pub self_notify_section : Section
self_notify_section = record {
  no = 1;
  name = codes "a";
  db = 1;
  lines = record { line = 2; text = codes "LISTEN c"; act = Run (command.Listen (codes "c")) }
      ∷ record { line = 3; text = codes "NOTIFY c, 'x'"; act = Run (command.Notify hello) } ∷ [];
  note_lines = 1;
}

-- the scenario of this section
abbrev pub self_notify_scenario : Scenario
self_notify_scenario = record { sections = self_notify_section ∷ []; flags = [] }

-- its journal: one committed transaction
abbrev pub self_notify_journal : List Tx
self_notify_journal = record { session = 1; db = 1; notes = hello ∷ []; queued = 1; fate = Committed } ∷ []

-- its trace: the session becomes a listener, commits and receives its own notification
abbrev pub self_notify_trace : Trace
self_notify_trace = record {
  session = 1;
  db = 1;
  items = Line 2 ∷ Enlist 3 3 ∷ Reply tag.Listen None ∷ Line 3 ∷ Publish 3 (hello ∷ []) ∷ Reply tag.Notify None
      ∷ Read 3 4 (record { xid = 3; pid = 1001; note = hello } ∷ []) ∷ [];
  last = Some 4;
}

-- its output
abbrev pub self_notify_text : List ℕ
self_notify_text = codes "journal 1\nxid 3 session 1 commit 1\n  \"c\", 'x'\nsession 1 a db 1 pid 1001\n> LISTEN c\n+enlist 3 3\nLISTEN\n> NOTIFY c, 'x'\n+publish 3\nNOTIFY\n+read 3 4\n  3 1001 \"c\", 'x'\nend mark 4\n"

-- the scenario of one section without a line
abbrev pub empty_scenario : Scenario
empty_scenario = record { sections = record { no = 1; name = codes "a"; db = 1; lines = []; note_lines = 0 } ∷ []; flags = [] }

-- its trace
abbrev pub empty_trace : Trace
empty_trace = record { session = 1; db = 1; items = []; last = None }

-- its output
abbrev pub empty_text : List ℕ
empty_text = codes "journal 0\nsession 1 a db 1 pid 1001\nend\n"
