-- What clients send, and what it reads as.
use Rattle.std.specs.Prelude.{ℕ, List, [], ◌∷◌, codes}
use Rattle.pgn_base.specs.declared.command.Command.{Command}
use Rattle.pgn_base.specs.declared.command.Command.TheVariants as command
use Rattle.pgn_language.specs.declared.scenario.Act.TheVariants.{Run, Quit}
use Rattle.pgn_language.specs.declared.scenario.ScriptLine.{ScriptLine}
use Rattle.pgn_language.specs.declared.scenario.Section.{Section}
use Rattle.pgn_queries.specs.Queries.{Place}

-- a Query `LISTEN c`, and one `NOTIFY c, 'x'`
abbrev pub asks_listen : List ℕ
asks_listen = 81 ∷ 0 ∷ 0 ∷ 0 ∷ 13 ∷ 76 ∷ 73 ∷ 83 ∷ 84 ∷ 69 ∷ 78 ∷ 32 ∷ 99 ∷ 0 ∷ []

abbrev pub asks_notify : List ℕ
asks_notify = 81 ∷ 0 ∷ 0 ∷ 0 ∷ 18 ∷ 78 ∷ 79 ∷ 84 ∷ 73 ∷ 70 ∷ 89 ∷ 32 ∷ 99 ∷ 44 ∷ 32 ∷ 39 ∷ 120 ∷ 39 ∷ 0 ∷ []

-- a Query without a text, and one whose text is an LF
abbrev pub asks_nothing : List ℕ
asks_nothing = 81 ∷ 0 ∷ 0 ∷ 0 ∷ 5 ∷ 0 ∷ []

abbrev pub asks_lf : List ℕ
asks_lf = 81 ∷ 0 ∷ 0 ∷ 0 ∷ 6 ∷ 10 ∷ 0 ∷ []

-- a Terminate
abbrev pub terminates : List ℕ
terminates = 88 ∷ 0 ∷ 0 ∷ 0 ∷ 4 ∷ []

-- the line of a query
abbrev pub query_line : ℕ → List ℕ → Command → ScriptLine
query_line number text command = record { line = number; text = text; act = Run command }

-- the lines of the first two
abbrev pub listen_line : ScriptLine
listen_line = query_line 1 (codes "LISTEN c") (command.Listen (codes "c"))

abbrev pub notify_line : ScriptLine
notify_line = query_line 2 (codes "NOTIFY c, 'x'") (command.Notify (record { channel = codes "c"; payload = codes "x" }))

-- the line of the second where it comes first
abbrev pub notify_first : ScriptLine
notify_first = query_line 1 (codes "NOTIFY c, 'x'") (command.Notify (record { channel = codes "c"; payload = codes "x" }))

-- a body that is text is none, one with two zero bytes, and one with a byte that stands in no UTF-8
abbrev pub asks_unended : List ℕ
asks_unended = 81 ∷ 0 ∷ 0 ∷ 0 ∷ 6 ∷ 59 ∷ 59 ∷ []

abbrev pub asks_two_ends : List ℕ
asks_two_ends = 81 ∷ 0 ∷ 0 ∷ 0 ∷ 6 ∷ 0 ∷ 0 ∷ []

abbrev pub asks_no_utf8 : List ℕ
asks_no_utf8 = 81 ∷ 0 ∷ 0 ∷ 0 ∷ 6 ∷ 255 ∷ 0 ∷ []

-- the section of the first two queries
abbrev pub asks_section : Section
asks_section = record {
  no = 1;
  name = codes "wire";
  db = 1;
  lines = listen_line ∷ notify_line ∷ record { line = 4294967295; text = codes "\\quit"; act = Quit } ∷ [];
  note_lines = 1;
}

-- a reader after so many queries, of which so many notified, where so many may
abbrev pub place_after : ℕ → ℕ → ℕ → Place
place_after counted noted most = record { at = 0; queries = counted; notes = noted; most = most }
