-- A worked example: two sessions in one database, the channel `c`, and what is known of their two passes from call to call.
use Rattle.std.specs.Prelude.{true, false, List, [], ◌∷◌, Some, None, codes}
use Rattle.std.specs.Str.{byte}
use Rattle.pgn_base.specs.declared.format.Format.TheVariants.{One}
use Rattle.pgn_base.specs.declared.note.Note.{Note}
use Rattle.pgn_base.specs.declared.note.Delivery.{Delivery}
use Rattle.pgn_base.specs.declared.queue_answers.Full.{Full}
use Rattle.pgn_base.specs.declared.queue_answers.Usage.{Usage}
use Rattle.pgn_base.specs.declared.queue_answers.Enlisted.{Enlisted}
use Rattle.pgn_hub.specs.declared.setup.SeatSetup.{SeatSetup}
use Rattle.pgn_journal.specs.declared.tx.Tx.{Tx}
use Rattle.pgn_journal.specs.declared.tx.Fate.TheVariants.{Committed, Aborted}
use Rattle.pgn_hub.specs.declared.known.Known.{Known}
use Rattle.pgn_hub.specs.declared.known.Advance.{Advance}
use Rattle.pgn_journal.specs.Due.{delivery}
use Rattle.pgn_hub.specs.Shape.{Shape}
use Rattle.pgn_examples.specs.Packing.{letters, sent}
use Rattle.pgn_hub.specs.Passes.{opened_pass}

-- each session may send eight notifications in database 1
abbrev pub seat : SeatSetup
seat = record { db = 1; notes = 8 }

-- two pages, two flags and two sessions
abbrev pub two_seats : Shape
two_seats = record { pages = 2; flags = 2; seats = seat ∷ seat ∷ []; format = One }

-- the two passes as they are opened
abbrev pub opened_1 : Known
opened_1 = opened_pass 1 seat

abbrev pub opened_2 : Known
opened_2 = opened_pass 2 seat

-- two notifications on the channel
abbrev pub note_a : Note
note_a = record { channel = codes "c"; payload = codes "a" }

abbrev pub note_b : Note
note_b = record { channel = codes "c"; payload = codes "b" }

abbrev pub both_notes : List Note
both_notes = note_a ∷ note_b ∷ []

-- the transaction 3: session 2 sends both
abbrev pub tx_3 : Tx
tx_3 = record { session = 2; db = 1; notes = both_notes; queued = 2; fate = Committed }

-- session 1 becomes a listener: nothing was sent so far
abbrev pub first_point : Enlisted
first_point = record { base = 3; point = 3 }

abbrev pub enlisted : Known
enlisted = record opened_1 { mark = Some 3; marks = 3 ∷ 3 ∷ [] }

-- it tells that it listens on the channel
abbrev pub interested : Known
interested = record enlisted { set = codes "c" ∷ []; owes = true }

-- it listens on the channel and owes no read. What it has read so far is left out here
abbrev pub listening : Known
listening = record enlisted { set = codes "c" ∷ [] }

-- it isn't woken
abbrev pub quiet : Known
quiet = record listening { wake_look = Some (false, false) }

-- session 2 publishes
abbrev pub published : Known
published = record opened_2 { seen = tx_3 ∷ []; own = 3 ∷ []; told = 4; signalled = 4; notes_left = 6 }

-- session 1, which listens, publishes after it
abbrev pub also_published : Known
also_published = record listening {
  seen = tx_3 ∷ (record { session = 1; db = 1; notes = note_a ∷ []; queued = 1; fate = Committed }) ∷ [];
  own = 4 ∷ [];
  told = 5;
  signalled = 5;
  notes_left = 7;
}

-- session 1 is woken
abbrev pub woken_1 : Known
woken_1 = record listening { seen = tx_3 ∷ []; owes = true; wake_look = Some (true, false) }

-- it reads
abbrev pub got_a : Delivery
got_a = delivery 3 2 note_a

abbrev pub got_b : Delivery
got_b = delivery 3 2 note_b

abbrev pub has_read : Known
has_read = record woken_1 { mark = Some 4; told = 4; marks = 3 ∷ 3 ∷ 4 ∷ []; owes = false }

-- it leaves
abbrev pub has_left : Known
has_left = record has_read { mark = None }

-- session 2 raises the flag 0
abbrev pub raised_0 : Known
raised_0 = record published { raised = (0, 4) ∷ [] }

-- session 1 looks at the flag 0 before it has read, and then owes a read; and at the flag 1, which nobody raised
abbrev pub found_0 : Known
found_0 = record listening { seen = tx_3 ∷ []; told = 4; owes = true; found = (0, 4) ∷ []; looks = 1; flag_look = Some (0, Some 4) }

abbrev pub found_none : Known
found_none = record listening { looks = 1; flag_look = Some (1, None) }

-- both looks of an advance meet session 1 at the mark 3, and at the other seat nobody
abbrev pub met_one : Advance
met_one = record { first = Some 3 ∷ None ∷ []; second = Some 3 ∷ None ∷ []; tail = Some 3 }

-- they meet nobody
abbrev pub met_nobody : Advance
met_nobody = record { first = None ∷ None ∷ []; second = None ∷ None ∷ []; tail = Some 3 }

-- they meet both sessions at the mark 3
abbrev pub met_both : Advance
met_both = record { first = Some 3 ∷ Some 3 ∷ []; second = Some 3 ∷ Some 3 ∷ []; tail = Some 3 }

-- session 1 reads between the looks: they meet it at the mark 3, and then at 4
abbrev pub met_reader : Advance
met_reader = record { first = Some 3 ∷ None ∷ []; second = Some 4 ∷ None ∷ []; tail = Some 3 }

-- session 1 joins between the looks: only the second meets it
abbrev pub met_joiner : Advance
met_joiner = record { first = None ∷ None ∷ []; second = Some 3 ∷ None ∷ []; tail = Some 3 }

-- session 2 asks for the usage: the transaction 3 and the next one begin on the same page
abbrev pub usage_4 : Usage
usage_4 = record { at = 4; occupied = 0; limit = 2; floor_mark = 3; holder = Some 1 }

abbrev pub measured : Known
measured = record published { named = (1, 3) ∷ (1, 3) ∷ []; advance = met_one }

abbrev pub measured_reader : Known
measured_reader = record published { named = (1, 3) ∷ (1, 4) ∷ []; advance = met_reader }

abbrev pub measured_joiner : Known
measured_joiner = record published { named = (1, 3) ∷ []; advance = met_joiner }

-- session 1 hears what session 2 knows
abbrev pub heard : Known
heard = record listening { seen = tx_3 ∷ []; told = 4; signalled = 4; owes = true }

-- Another run: two transactions of one long notification each have filled two pages, and a third meets a full queue.
abbrev pub long_note : List Note
long_note = letters (byte "x") 7999 ∷ []

abbrev pub long_3 : Tx
long_3 = sent long_note 1 Committed

abbrev pub long_5 : Tx
long_5 = sent long_note 0 Aborted

abbrev pub before_full : Known
before_full = record opened_2 { seen = long_3 ∷ long_3 ∷ []; own = 3 ∷ 4 ∷ []; told = 5; signalled = 5; notes_left = 6 }

-- session 1 still stands at the mark 3, on page 0
abbrev pub full_5 : Full
full_5 = record { xid = 5; queued = 0; head_page = 2; floor_mark = 3; floor_page = 0; holder = Some 1 }

abbrev pub after_full : Known
after_full = record before_full {
  seen = long_3 ∷ long_3 ∷ long_5 ∷ [];
  own = 3 ∷ 4 ∷ 5 ∷ [];
  told = 6;
  signalled = 6;
  notes_left = 5;
  named = (1, 3) ∷ (1, 3) ∷ [];
  advance = met_one;
}

-- session 2 listens too, and stands at the same mark
abbrev pub both_before_full : Known
both_before_full = record before_full { mark = Some 3; set = codes "c" ∷ []; marks = 3 ∷ 3 ∷ [] }

abbrev pub both_after_full : Known
both_after_full = record after_full {
  mark = Some 3;
  set = codes "c" ∷ [];
  marks = 3 ∷ 3 ∷ [];
  named = (1, 3) ∷ (2, 3) ∷ (1, 3) ∷ (2, 3) ∷ [];
  advance = met_both;
}

-- A third run: session 2 alone sends three long notifications, of which two fill both pages.
abbrev pub three_notes : List Note
three_notes = letters (byte "x") 7999 ∷ letters (byte "y") 7999 ∷ letters (byte "z") 7999 ∷ []

abbrev pub full_3 : Full
full_3 = record { xid = 3; queued = 2; head_page = 2; floor_mark = 3; floor_page = 0; holder = None }

abbrev pub larger_full : Known
larger_full = record opened_2 { seen = sent three_notes 2 Aborted ∷ []; own = 3 ∷ []; told = 4; signalled = 4; notes_left = 5; advance = met_nobody }

-- The end of the first run: session 1 has read and found the flag 0, session 2 has raised it and met session 1 in an advance.
abbrev pub last_1 : Known
last_1 = record has_read { found = (0, 4) ∷ []; looks = 1; flag_look = Some (0, Some 4) }

abbrev pub last_2 : Known
last_2 = record measured { raised = (0, 4) ∷ [] }
