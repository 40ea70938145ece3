-- Data of the examples.
use Rattle.std.specs.Prelude.{ℕ, List, codes}
use Rattle.pgn_base.specs.declared.note.Note.{Note}
use Rattle.pgn_base.specs.declared.note.Delivery.{Delivery}

-- the payload `it's` on the channel `c`
abbrev pub its : Note
its = record { channel = codes "c"; payload = codes "it's" }

-- received from session 2, which sent it with the transaction number 3
abbrev pub from_second : Delivery
from_second = record { xid = 3; pid = 1002; note = its }

-- a text of 64 bytes
abbrev pub long_text : List ℕ
long_text = codes "0123456789012345678901234567890123456789012345678901234567890123"
