-- A scenario, the output of its run, and outputs of which something was changed.
use Rattle.std.specs.Prelude.{ℕ, List, [], ◌∷◌, ◌++◌, Some, None, codes}
use Rattle.pgn_base.specs.declared.note.Note.{Note}
use Rattle.pgn_base.specs.declared.answers.Tag.TheVariants as tag
use Rattle.pgn_base.specs.declared.command.Command.TheVariants as command
use Rattle.pgn_journal.specs.declared.tx.Tx.{Tx}
use Rattle.pgn_journal.specs.declared.tx.Fate.TheVariants.{Committed}
use Rattle.pgn_language.specs.declared.scenario.Act.TheVariants.{Run}
use Rattle.pgn_language.specs.declared.scenario.Section.{Section}
use Rattle.pgn_language.specs.declared.scenario.Scenario.{Scenario}
use Rattle.pgn_model.specs.declared.item.Item.{Item}
use Rattle.pgn_model.specs.declared.item.Item.TheVariants.{Line, Enlist, Publish, Reply, Read}
use Rattle.pgn_model.specs.declared.trace.Trace.{Trace}
use Rattle.pgn_model.specs.Walk.{Terms, default_settings, start}
use Rattle.pgn_model.specs.Trace.{IsFreshAt}
use Rattle.pgn_reading.specs.Completed.{ready, walked}
use Rattle.pgn_reading.specs.Blame.{BlamesTrace}

-- the notification with this payload on the channel `c`
abbrev pub note : List ℕ → Note
note payload = record { channel = codes "c"; payload = payload }

-- `\session a 1`, `LISTEN c`, `NOTIFY c, 'x'`
abbrev pub self : Section
self = record {
  no = 1;
  name = codes "a";
  db = 1;
  lines = record { line = 2; text = codes "LISTEN c"; act = Run (command.Listen (codes "c")) }
      ∷ record { line = 3; text = codes "NOTIFY c, 'x'"; act = Run (command.Notify (note (codes "x"))) } ∷ [];
  note_lines = 1;
}

-- the scenario of this one session
abbrev pub self_notify : Scenario
self_notify = record { sections = self ∷ []; flags = [] }

-- a journal of one notification with this payload
abbrev pub sent : List ℕ → List Tx
sent payload = record { session = 1; db = 1; notes = note payload ∷ []; queued = 1; fate = Committed } ∷ []

-- the items up to the last answer, where the commit shows these notifications
abbrev pub notifies : List Note → List Item
notifies notes = Line 2 ∷ Enlist 3 3 ∷ Reply tag.Listen None ∷ Line 3 ∷ Publish 3 notes ∷ Reply tag.Notify None ∷ []

-- the read of the notification
abbrev pub receives : List Item
receives = Read 3 4 (record { xid = 3; pid = 1001; note = note (codes "x") } ∷ []) ∷ []

-- a trace of these items
abbrev pub trace_of : List Item → Trace
trace_of items = record { session = 1; db = 1; items = items; last = Some 4 }

-- the trace of the run
abbrev pub run : Trace
run = trace_of (notifies (note (codes "x") ∷ []) ++ receives)

-- the trace as its lines show it
abbrev pub run_seen : Trace
run_seen = trace_of (notifies [] ++ receives)

-- the trace without its read
abbrev pub run_unread : Trace
run_unread = trace_of (notifies [])

-- the output of the run
abbrev pub run_text : List ℕ
run_text = codes "journal 1\nxid 3 session 1 commit 1\n  \"c\", 'x'\nsession 1 a db 1 pid 1001\n> LISTEN c\n+enlist 3 3\nLISTEN\n> NOTIFY c, 'x'\n+publish 3\nNOTIFY\n+read 3 4\n  3 1001 \"c\", 'x'\nend mark 4\n"

-- with another payload in its third line
abbrev pub changed_text : List ℕ
changed_text = codes "journal 1\nxid 3 session 1 commit 1\n  \"c\", 'y'\nsession 1 a db 1 pid 1001\n> LISTEN c\n+enlist 3 3\nLISTEN\n> NOTIFY c, 'x'\n+publish 3\nNOTIFY\n+read 3 4\n  3 1001 \"c\", 'x'\nend mark 4\n"

-- without its lines 11 and 12
abbrev pub unread_text : List ℕ
unread_text = codes "journal 1\nxid 3 session 1 commit 1\n  \"c\", 'x'\nsession 1 a db 1 pid 1001\n> LISTEN c\n+enlist 3 3\nLISTEN\n> NOTIFY c, 'x'\n+publish 3\nNOTIFY\nend mark 4\n"

-- without its last LF
abbrev pub unended_text : List ℕ
unended_text = codes "journal 1\nxid 3 session 1 commit 1\n  \"c\", 'x'\nsession 1 a db 1 pid 1001\n> LISTEN c\n+enlist 3 3\nLISTEN\n> NOTIFY c, 'x'\n+publish 3\nNOTIFY\n+read 3 4\n  3 1001 \"c\", 'x'\nend mark 4"

-- a first line with a zero too many
abbrev pub zero_text : List ℕ
zero_text = codes "journal 00\n"

-- its first line
abbrev pub one_line_text : List ℕ
one_line_text = codes "journal 1\n"

-- the payload that is sent, and another
abbrev pub codes_x : List ℕ
codes_x = codes "x"

abbrev pub codes_y : List ℕ
codes_y = codes "y"

-- what the session is judged by
abbrev pub terms : Terms
terms = record { section = self; settings = default_settings }

-- the items before the commit
abbrev pub before_commit : List Item
before_commit = Line 2 ∷ Enlist 3 3 ∷ Reply tag.Listen None ∷ Line 3 ∷ []

-- the same session with a third line, `BEGIN`
abbrev pub self_on : Section
self_on = record self { lines = self.lines ++ record { line = 4; text = codes "BEGIN"; act = Run command.Begin } ∷ [] }

abbrev pub terms_on : Terms
terms_on = record { section = self_on; settings = default_settings }

-- its trace, of which the read before the third line is left out
abbrev pub run_late : Trace
run_late = trace_of (notifies [] ++ Line 4 ∷ Reply tag.Begin None ∷ [])

-- the last line before the third script line, the tenth, is to blame
abbrev pub ItsReadIsLeftOut : Type 0
ItsReadIsLeftOut = BlamesTrace terms_on (sent codes_x) (self_on ∷ []) (run_late ∷ []) 4 run_late 10

-- after these items the third line may begin: no read is left out before it
abbrev pub MayBegin : List Item → Type 0
MayBegin items = IsFreshAt terms_on (sent codes_x) (ready (walked (start self_on) items)) (Line 4)

-- where the journal has another payload the line of the commit, the ninth, is to blame
abbrev pub ItsCommitIsRefused : Type 0
ItsCommitIsRefused = BlamesTrace terms (sent codes_y) (self ∷ []) (run_seen ∷ []) 4 run_seen 9

-- without its read the last line before the end, the tenth, is to blame
abbrev pub ItsReadIsMissing : Type 0
ItsReadIsMissing = BlamesTrace terms (sent codes_x) (self ∷ []) (run_unread ∷ []) 4 run_unread 10
