-- Small cases that the definitions of this crate refuse, and a few that they meet.
use Rattle.std.specs.Prelude.{true, false, ◌*◌, ◌^◌, [], ◌∷◌, Some}
use Rattle.pgn_journal.specs.Packing.{Sender}
use Rattle.pgn_journal.specs.declared.tx.Fate.TheVariants.{Aborted}
use Rattle.pgn_hub.specs.Passes.{opened_pass}
use Rattle.pgn_part_examples.specs.Hub.{seat, two_seats, met_nobody}
use Rattle.pgn_words.specs.declared.view.View.{View}
use Rattle.pgn_words.specs.declared.view.Phase.TheVariants.{Open, Signalling}
use Rattle.pgn_words.specs.declared.view.Verdict.TheVariants.{Unseen}
use Rattle.pgn_words.specs.declared.view.Look.TheVariants.{First, Second}
use Rattle.pgn_words.specs.Views.{opened_view, no_tx, no_eye}

-- the first session's pass as it is opened
abbrev pub first_pass : View
first_pass = opened_view two_seats 1

-- the same, as a pass of a third session, which has no seat
abbrev pub third_pass : View
third_pass = record first_pass { known = opened_pass 3 seat }

-- the same, once it was told of transaction 3
abbrev pub told_of_3 : View
told_of_3 = record first_pass { known = record (opened_pass 1 seat) { told = 4 } }

-- it has an open transaction, and has stored a cell past the head
abbrev pub stored_one : View
stored_one = record first_pass { phase = Open; pen = record first_pass.pen { batch = Some 44 ∷ [] } }

-- it has an open transaction and has stored nothing
abbrev pub writing : View
writing = record first_pass { phase = Open }

-- it has ended a transaction, and does not know of the first seat whether it needs a wake
abbrev pub undecided_one : View
undecided_one = record first_pass { phase = Signalling; verdicts = Unseen ∷ []; concerned = true ∷ [] }

-- it has ended a transaction in which it knows that the first seat listens to nothing, and it has looked at no seat
abbrev pub loaded_one : View
loaded_one = record first_pass { phase = Signalling; verdicts = Unseen ∷ Unseen ∷ []; concerned = false ∷ true ∷ [] }

-- the same, where the transaction was aborted
abbrev pub aborted_one : View
aborted_one = record loaded_one { pen = record first_pass.pen { ending = record no_tx { fate = Aborted } } }

-- its first look has come to no seat yet
abbrev pub first_look : View
first_look = record first_pass { eye = record no_eye { look = First } }

-- its second look has come to no seat yet, and the announced tail is before the least mark of the first look
abbrev pub tail_is_late : View
tail_is_late = record first_pass { eye = record no_eye { look = Second; least = 4 * 2 ^ 32; tail = 3 * 2 ^ 32 } }

-- its second look has come over one seat
abbrev pub one_seen : View
one_seen = record first_pass { eye = record no_eye { look = Second; looked = 1; target = 2048 } }

-- its second look has come over both seats and met nobody, page 1 is the first that is needed, and both pages are kept
abbrev pub none_freed : View
none_freed = record first_pass {
  stop = 0;
  eye = record no_eye { look = Second; looked = 2; target = 2048 };
  known = record (opened_pass 1 seat) { advance = met_nobody };
}

-- two sessions, as senders of transaction 3 and of one in another database
abbrev pub sender_3 : Sender
sender_3 = record { db = 1; xid = 3; pid = 1001 }

abbrev pub other_db : Sender
other_db = record { db = 2; xid = 3; pid = 1001 }

-- one whose transaction has a number that does not fit in a cell
abbrev pub far_sender : Sender
far_sender = record { db = 1; xid = 2 ^ 32; pid = 1001 }
