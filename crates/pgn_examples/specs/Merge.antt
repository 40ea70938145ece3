-- Items and a trace with notifications.
use Rattle.std.specs.Prelude.{ℕ, List, [], ◌∷◌, Some, None, codes}
use Rattle.pgn_base.specs.declared.note.Note.{Note}
use Rattle.pgn_base.specs.declared.note.Delivery.{Delivery}
use Rattle.pgn_base.specs.declared.queue_answers.Full.{Full}
use Rattle.pgn_language.specs.declared.scenario.Scenario.{Scenario}
use Rattle.pgn_model.specs.declared.item.Item.{Item}
use Rattle.pgn_model.specs.declared.trace.Trace.{Trace}

-- a notification with the payload a
abbrev pub note_a : Note
note_a = record { channel = codes "c"; payload = codes "a" }

-- one with the payload b
abbrev pub note_b : Note
note_b = record { channel = codes "c"; payload = codes "b" }

-- the transaction 4 met a full queue, with one notification queued
abbrev pub full_4 : Full
full_4 = record { xid = 4; queued = 1; head_page = 2; floor_mark = 3; floor_page = 0; holder = None }

-- what was received from the transaction 3
abbrev pub received : List Delivery
received = record { xid = 3; pid = 1001; note = note_a } ∷ []

-- a trace of these items, of a session that listens at the end
abbrev pub of_session : ℕ → ℕ → List Item → Trace
of_session session db items = record { session = session; db = db; items = items; last = Some 5 }

-- one session, without a script
abbrev pub one_section : Scenario
one_section = record { sections = record { no = 1; name = codes "a"; db = 7; note_lines = 0; lines = [] } ∷ []; flags = [] }
