-- Two runs of one scenario, and texts that are those of no run.
use Rattle.std.specs.Prelude.{◌≡◌, ℕ, List, [], ◌∷◌, ◌++◌, Some, None, codes}
use Rattle.pgn_base.specs.declared.note.Note.{Note}
use Rattle.pgn_base.specs.declared.answers.Tag.TheVariants as tag
use Rattle.pgn_base.specs.declared.command.Command.TheVariants as command
use Rattle.pgn_journal.specs.declared.tx.Tx.{Tx}
use Rattle.pgn_journal.specs.declared.tx.Fate.TheVariants.{Committed}
use Rattle.pgn_language.specs.declared.scenario.Act.TheVariants.{Run}
use Rattle.pgn_language.specs.declared.scenario.Section.{Section}
use Rattle.pgn_language.specs.declared.scenario.Scenario.{Scenario}
use Rattle.pgn_model.specs.declared.item.Item.{Item}
use Rattle.pgn_model.specs.declared.item.Item.TheVariants.{Line, Enlist, Publish, Reply, Read}
use Rattle.pgn_model.specs.declared.trace.Trace.{Trace}
use Rattle.pgn_model.specs.Walk.{Settings}
use Rattle.pgn_model.specs.Legal.{Legal}
use Rattle.pgn_model.specs.Text.{text}

-- the notification `NOTIFY c, 'x'`
abbrev pub sent : Note
sent = record { channel = codes "c"; payload = codes "x" }

-- `\session a 1`, `LISTEN c`
abbrev pub listener : Section
listener = record {
  no = 1;
  name = codes "a";
  db = 1;
  lines = record { line = 2; text = codes "LISTEN c"; act = Run (command.Listen (codes "c")) } ∷ [];
  note_lines = 0;
}

-- `\session b 1`, `NOTIFY c, 'x'`
abbrev pub sender : Section
sender = record {
  no = 2;
  name = codes "b";
  db = 1;
  lines = record { line = 4; text = codes "NOTIFY c, 'x'"; act = Run (command.Notify sent) } ∷ [];
  note_lines = 1;
}

-- the two side by side
abbrev pub side_by_side : Scenario
side_by_side = record { sections = listener ∷ sender ∷ []; flags = [] }

-- the journal of either run
abbrev pub one_sent : List Tx
one_sent = record { session = 2; db = 1; notes = sent ∷ []; queued = 1; fate = Committed } ∷ []

-- the listener's trace up to its answer, where it receives from this number on
abbrev pub listens_from : ℕ → List Item
listens_from point = Line 2 ∷ Enlist 3 point ∷ Reply tag.Listen None ∷ []

-- the notification is received
abbrev pub received_items : List Item
received_items = Read 3 4 (record { xid = 3; pid = 1002; note = sent } ∷ []) ∷ []

-- the listener's trace where it listens early enough
abbrev pub receives : Trace
receives = record { session = 1; db = 1; items = listens_from 3 ++ received_items; last = Some 4 }

-- its trace where it listens too late, and receives nothing
abbrev pub misses : Trace
misses = record { session = 1; db = 1; items = listens_from 4; last = Some 4 }

-- the sender's trace
abbrev pub sends : Trace
sends = record { session = 2; db = 1; items = Line 4 ∷ Publish 3 (sent ∷ []) ∷ Reply tag.Notify None ∷ []; last = None }

-- the text of the run in which the notification is received
abbrev pub received_text : List ℕ
received_text = codes "journal 1\nxid 3 session 2 commit 1\n  \"c\", 'x'\nsession 1 a db 1 pid 1001\n> LISTEN c\n+enlist 3 3\nLISTEN\n+read 3 4\n  3 1002 \"c\", 'x'\nend mark 4\nsession 2 b db 1 pid 1002\n> NOTIFY c, 'x'\n+publish 3\nNOTIFY\nend\n"

-- that of the run in which it is missed
abbrev pub missed_text : List ℕ
missed_text = codes "journal 1\nxid 3 session 2 commit 1\n  \"c\", 'x'\nsession 1 a db 1 pid 1001\n> LISTEN c\n+enlist 3 4\nLISTEN\nend mark 4\nsession 2 b db 1 pid 1002\n> NOTIFY c, 'x'\n+publish 3\nNOTIFY\nend\n"

-- the first with another payload in what was received
abbrev pub changed_text : List ℕ
changed_text = codes "journal 1\nxid 3 session 2 commit 1\n  \"c\", 'x'\nsession 1 a db 1 pid 1001\n> LISTEN c\n+enlist 3 3\nLISTEN\n+read 3 4\n  3 1002 \"c\", 'y'\nend mark 4\nsession 2 b db 1 pid 1002\n> NOTIFY c, 'x'\n+publish 3\nNOTIFY\nend\n"

-- the first, cut after the line of the read
abbrev pub cut_in_a_trace : List ℕ
cut_in_a_trace = codes "journal 1\nxid 3 session 2 commit 1\n  \"c\", 'x'\nsession 1 a db 1 pid 1001\n> LISTEN c\n+enlist 3 3\nLISTEN\n+read 3 4\n"

-- the first without its last line
abbrev pub cut_before_the_end : List ℕ
cut_before_the_end = codes "journal 1\nxid 3 session 2 commit 1\n  \"c\", 'x'\nsession 1 a db 1 pid 1001\n> LISTEN c\n+enlist 3 3\nLISTEN\n+read 3 4\n  3 1002 \"c\", 'x'\nend mark 4\nsession 2 b db 1 pid 1002\n> NOTIFY c, 'x'\n+publish 3\nNOTIFY\n"

-- no legal run of the scenario has this text
abbrev pub IsTextOfNone : Scenario → Settings → List ℕ → Type 0
IsTextOfNone scenario settings bytes = (journal : List Tx) (traces : List Trace) → Legal scenario settings journal traces → text scenario journal traces ≡ bytes → ⊥
