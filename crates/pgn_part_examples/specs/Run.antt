-- What a client's session did, and what is written of it live.
use Rattle.std.specs.Prelude.{ℕ, List, [], ◌∷◌, Some, None, codes}
use Rattle.pgn_journal.specs.declared.tx.Tx.{Tx}
use Rattle.pgn_journal.specs.declared.tx.Fate.TheVariants.{Committed}
use Rattle.pgn_language.specs.declared.scenario.Scenario.{Scenario}
use Rattle.pgn_model.specs.declared.trace.Trace.{Trace}
use Rattle.pgn_queries.specs.Script.{wire_scenario}
use Rattle.pgn_examples.specs.Queries.{listen_line}
use Rattle.pgn_part_examples.specs.Service.{listens}

-- the scenario of the query `LISTEN c`
abbrev pub client : Scenario
client = wire_scenario (listen_line ∷ [])

-- a journal of one notification
abbrev pub one_sent : List Tx
one_sent = record { session = 1; db = 1; notes = record { channel = codes "c"; payload = codes "x" } ∷ []; queued = 1; fate = Committed } ∷ []

-- it ended without listening on, or with its mark
abbrev pub ended : Trace
ended = record { session = 1; db = 1; items = listens; last = None }

abbrev pub listens_on : Trace
listens_on = record ended { last = Some 4 }

-- the lines of what came of it
abbrev pub came_text : List ℕ
came_text = codes "1| > LISTEN c\n1| +enlist 3 3\n1| LISTEN\n"

-- what stands behind them
abbrev pub ended_text : List ℕ
ended_text = codes "journal 1\nxid 3 session 1 commit 1\n  \"c\", 'x'\nsession 1 wire db 1 pid 1001\nend\n"
