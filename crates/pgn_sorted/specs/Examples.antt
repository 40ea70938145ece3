-- Live outputs of one run, and what sorting them gives.
use Rattle.std.specs.Prelude.{ℕ, List, [], ◌∷◌, codes}
use Rattle.pgn_model.specs.declared.trace.Trace.{Trace}
use Rattle.pgn_live.specs.Cames.{Came}
use Rattle.pgn_live.specs.Lives.{came_from}
use Rattle.pgn_unique.specs.Examples.{receives, sends, listens_from, received_items}

-- the traces of a run in which a session listens and another notifies it
abbrev pub both_traces : List Trace
both_traces = receives ∷ sends ∷ []

-- what came of it: the listener's lines up to its answer, all of the sender, and then the listener's read
abbrev pub read_last : List Came
read_last = came_from 1 (listens_from 3) ∷ came_from 2 sends.items ∷ came_from 1 received_items ∷ []

-- another order: the sender first
abbrev pub sender_first : List Came
sender_first = came_from 2 sends.items ∷ came_from 1 receives.items ∷ []

-- the live output of the first
abbrev pub read_last_text : List ℕ
read_last_text = codes "1| > LISTEN c\n1| +enlist 3 3\n1| LISTEN\n2| > NOTIFY c, 'x'\n2| +publish 3\n2| NOTIFY\n1| +read 3 4\n1|   3 1002 \"c\", 'x'\njournal 1\nxid 3 session 2 commit 1\n  \"c\", 'x'\nsession 1 a db 1 pid 1001\nend mark 4\nsession 2 b db 1 pid 1002\nend\n"

-- that of the other
abbrev pub sender_first_text : List ℕ
sender_first_text = codes "2| > NOTIFY c, 'x'\n2| +publish 3\n2| NOTIFY\n1| > LISTEN c\n1| +enlist 3 3\n1| LISTEN\n1| +read 3 4\n1|   3 1002 \"c\", 'x'\njournal 1\nxid 3 session 2 commit 1\n  \"c\", 'x'\nsession 1 a db 1 pid 1001\nend mark 4\nsession 2 b db 1 pid 1002\nend\n"

-- the first, with the second and the third line of the listener exchanged
abbrev pub exchanged_text : List ℕ
exchanged_text = codes "1| > LISTEN c\n1| LISTEN\n1| +enlist 3 3\n2| > NOTIFY c, 'x'\n2| +publish 3\n2| NOTIFY\n1| +read 3 4\n1|   3 1002 \"c\", 'x'\njournal 1\nxid 3 session 2 commit 1\n  \"c\", 'x'\nsession 1 a db 1 pid 1001\nend mark 4\nsession 2 b db 1 pid 1002\nend\n"

-- the first, with the listener's third line behind the sender's number
abbrev pub misnamed_text : List ℕ
misnamed_text = codes "1| > LISTEN c\n1| +enlist 3 3\n2| LISTEN\n2| > NOTIFY c, 'x'\n2| +publish 3\n2| NOTIFY\n1| +read 3 4\n1|   3 1002 \"c\", 'x'\njournal 1\nxid 3 session 2 commit 1\n  \"c\", 'x'\nsession 1 a db 1 pid 1001\nend mark 4\nsession 2 b db 1 pid 1002\nend\n"
