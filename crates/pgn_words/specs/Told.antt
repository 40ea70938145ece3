-- What each step needs beyond its phase, what the pass is after it, and what it tells.
use Rattle.std.specs.Prelude.{◌≡◌, ◌≢◌, ℕ, ◌+◌, ◌-◌, ◌^◌, ◌<◌, ◌≤◌, List, [], ◌∷◌, ◌++◌, length, replicate, Some, All, None, true, unwrap_or, drop, cond, max}
use Rattle.atomic_table.specs.Table.{Step, Me}
use Rattle.pgn_base.specs.declared.note.Note.{Note}
use Rattle.pgn_journal.specs.declared.tx.Tx.{Tx}
use Rattle.pgn_journal.specs.declared.tx.Fate.{Fate}
use Rattle.pgn_journal.specs.declared.tx.Fate.TheVariants.{Committed, Aborted}
use Rattle.pgn_layout.specs.Status.{status_word, status_in, status_code}
use Rattle.pgn_base.specs.declared.limits.TheConstants.{FIRST_XID}
use Rattle.pgn_journal.specs.Journal.{next_xid, entry, IsFinished}
use Rattle.pgn_journal.specs.Packing.{page_of, page_start, image}
use Rattle.pgn_journal.specs.Pieces.{draft}
use Rattle.pgn_hub.specs.Shape.{notes_of_seats}
use Rattle.pgn_hub.specs.Calls.{owes_after}
use Rattle.pgn_layout.specs.Batches.{padded_to}
use Rattle.pgn_hub.specs.Passes.{no_advance, opened_pass}
use Rattle.pgn_words.specs.declared.view.View.{View}
use Rattle.pgn_words.specs.declared.view.Phase.TheVariants.{Free, Held, Headed, Ready, Open, Finished, Signalling}
use Rattle.pgn_words.specs.declared.view.Verdict.TheVariants.{Unseen}
use Rattle.pgn_words.specs.declared.view.Look.TheVariants.{Idle, Second}
use Rattle.pgn_words.specs.Words.{seats_of, statuses_at}
use Rattle.pgn_words.specs.Views.{stored_by, opened_view, holds_lock, no_seat, no_setup}

-- A seat at the table of words: what the rule sees of it, and the slots that it holds, of which there are none.
abbrev pub Mine : Type 0
Mine = Me ℕ View

-- what a pass shows of itself stays
pub record IsSamePass (v w : View) : Type 0 where
  pub setup : w.setup ≡ v.setup
  pub session : w.known.session ≡ v.known.session
  pub db : w.known.db ≡ v.known.db
  pub mark : w.known.mark ≡ v.known.mark
  pub told : w.known.told ≡ v.known.told
  pub left : w.known.notes_left ≡ v.known.notes_left
  pub owes : w.known.owes ≡ v.known.owes
  pub ended : w.ended ≡ v.ended
  pub base : w.post.mark ≡ v.post.mark
  pub at : w.post.at ≡ v.post.at

-- the pass holds the lock, knows this journal, and has looked at nothing: of an advance nothing is loaded yet
abbrev pub locked : List Tx → View → View
locked seen v = record v { phase = Held; held_by = None; eye = record v.eye { look = Idle }; known = record v.known { seen = seen; advance = no_advance } }

-- the lock was free: the pass holds it, and knows the whole journal
pub record HasLocked (v w : View) : Type 0 where
  pub more : List Tx
  pub view : w ≡ locked (v.known.seen ++ more) v
  pub finished : All IsFinished w.known.seen
  -- each further notification still has a number and a status
  pub few : length w.known.seen + w.known.notes_left ≤ notes_of_seats w.setup.seats

-- another session holds the lock
pub record IsLocked (v : View) (by : ℕ) : Type 0 where
  pub some : 0 < by
  pub seated : by ≤ seats_of v.setup
  pub other : by ≢ v.known.session

-- the pass keeps who had it
abbrev pub refused : ℕ → View → View
refused by v = record v { held_by = Some by }

-- what a try for the lock tells
pub record TellsLock (s : Step ℕ) (v : Mine) (n : ℕ) (w : Mine) : Type 0 where
  pub slots : w.1 ≡ v.1
  pub same : w.0.setup ≡ v.0.setup
  pub free : n ≡ 0 → HasLocked v.0 w.0
  pub locked : n ≢ 0 → (w.0 ≡ refused n v.0) × IsLocked v.0 n

-- the pass gives the lock up; where it has finished a transaction, it is told of it, and all wakes are set
abbrev pub freed : View → View
freed v = record v { phase = Free; ended = None; verdicts = []; concerned = []; known = record v.known { told = unwrap_or v.ended v.known.told; signalled = unwrap_or v.ended v.known.signalled } }

-- what the drop of the lock tells
pub record TellsDrop (s : Step ℕ) (v : Mine) (n : ℕ) (w : Mine) : Type 0 where
  pub slots : w.1 ≡ v.1
  pub view : w.0 ≡ freed v.0

-- the holder has loaded the head, which stands behind the whole journal
abbrev pub head_known : View → View
head_known v = record v { phase = Headed; pen = record v.pen { cells = image v.setup.format v.known.seen; batch = [] } }

-- what the load of the head by the holder tells
pub record TellsHead (s : Step ℕ) (v : Mine) (n : ℕ) (w : Mine) : Type 0 where
  pub slots : w.1 ≡ v.1
  pub view : w.0 ≡ head_known v.0
  pub head : n ≡ length (image v.0.setup.format v.0.known.seen)
  pub low : n < 2 ^ 32

-- the holder has loaded the oldest kept page
abbrev pub stop_known : ℕ → View → View
stop_known n v = record v { phase = Ready; stop = n; loaded_stop = n }

-- what the load of the oldest kept page tells
pub record TellsStop (s : Step ℕ) (v : Mine) (n : ℕ) (w : Mine) : Type 0 where
  pub slots : w.1 ≡ v.1
  pub view : w.0 ≡ stop_known n v.0
  -- the head is no further than the limit from it
  pub ahead : length (image v.0.setup.format v.0.known.seen) ≤ page_start (n + v.0.setup.pages)

-- the holder has drawn a number for a transaction of these notifications, which are taken from those that it may still send
abbrev pub drawn : List Note → View → View
drawn notes v = record v {
  phase = Open;
  eye = record v.eye { look = Idle };
  known = record v.known { notes_left = v.known.notes_left - length notes };
  pen = record v.pen { notes = notes; taken = length notes };
}

-- what the draw of a number for notifications tells
pub record TellsDraw (notes : List Note) (s : Step ℕ) (v : Mine) (n : ℕ) (w : Mine) : Type 0 where
  pub slots : w.1 ≡ v.1
  pub view : w.0 ≡ drawn notes v.0
  pub number : n ≡ next_xid v.0.known.seen
  -- it has a status
  pub reach : length v.0.known.seen < notes_of_seats v.0.setup.seats
  pub low : n < 2 ^ 32

-- one more cell is stored past the head
abbrev pub cell_stored : ℕ → View → View
cell_stored value v = record v { pen = record v.pen { batch = v.pen.batch ++ Some value ∷ [] } }

-- what the store of a cell tells
pub record TellsCellStore (s : Step ℕ) (v : Mine) (n : ℕ) (w : Mine) : Type 0 where
  pub slots : w.1 ≡ v.1
  pub view : w.0 ≡ cell_stored s.first v.0

-- so many notifications of a transaction are written, so far with this fate: not all of them, where a filler stands after them
abbrev pub IsWrittenOf : Fate → ℕ → ℕ → Type 0
IsWrittenOf Committed queued count = queued ≤ count
IsWrittenOf Aborted queued count = queued < count

-- The head may move to a place: what was stored, padded up to the place, is the image of the journal and of what is written of the
-- transaction. So far it has one of two fates: Committed after an entry, Aborted after a filler.
pub record MayShow (v : View) (to : ℕ) : Type 0 where
  pub queued : ℕ
  pub fate : Fate
  pub image_is : image v.setup.format (v.known.seen ++ draft v.known.session v.known.db v.pen.notes queued fate ∷ []) ≡ padded_to to (stored_by v)
  pub written : IsWrittenOf fate queued (length v.pen.notes)
  pub up : length (stored_by v) ≤ to
  -- it is no further than the limit from the oldest kept page
  pub within : to ≤ page_start (v.stop + v.setup.pages)

-- the head shows what was stored, and what was loaded of an advance counts no more
abbrev pub head_stored : ℕ → View → View
head_stored to v = record v {
  pen = record v.pen { cells = padded_to to (stored_by v); batch = [] };
  eye = record v.eye { look = Idle };
  known = record v.known { advance = no_advance };
}

-- what the store of the head tells
pub record TellsHeadStore (s : Step ℕ) (v : Mine) (n : ℕ) (w : Mine) : Type 0 where
  pub slots : w.1 ≡ v.1
  pub view : w.0 ≡ head_stored s.first v.0
  pub low : s.first < 2 ^ 32

-- The holder has looked at every position twice since the head last moved, has kept no more pages than are needed, and still there is
-- no page left for the head.
pub record HasAdvanced (v : View) : Type 0 where
  pub second : v.eye.look ≡ Second
  pub all : v.eye.looked ≡ seats_of v.setup
  pub kept : page_of v.eye.target ≤ v.stop
  pub no_page : v.stop + v.setup.pages ≤ page_of (length v.pen.cells)

-- The transaction may end so: nothing is stored past the head, and the head shows the journal and the transaction. It is aborted only
-- where no page is left.
pub record MayEnd (v : View) (tx : Tx) : Type 0 where
  pub none_stored : v.pen.batch ≡ []
  pub all_shown : v.pen.cells ≡ image v.setup.format (v.known.seen ++ tx ∷ [])
  pub finished : IsFinished tx
  pub full : tx.fate ≡ Aborted → HasAdvanced v

-- the transaction's status is set
abbrev pub ended_by : Tx → View → View
ended_by tx v = record v { phase = Finished; pen = record v.pen { ending = tx } }

-- what the setting of the status of a transaction tells
pub record TellsStatusSet (tx : Tx) (s : Step ℕ) (v : Mine) (n : ℕ) (w : Mine) : Type 0 where
  pub slots : w.1 ≡ v.1
  pub view : w.0 ≡ ended_by tx v.0

-- the transaction is one of the journal, and of the pass's own
abbrev pub fin_stored : View → View
fin_stored v = record v {
  phase = Signalling;
  verdicts = replicate (seats_of v.setup) Unseen;
  concerned = replicate (seats_of v.setup) true;
  ended = Some (next_xid v.known.seen + 1);
  known = record v.known { seen = v.known.seen ++ v.pen.ending ∷ []; own = v.known.own ++ next_xid v.known.seen ∷ [] };
  pen = record v.pen { taken = 0 };
}

-- what the store of the first unfinished number tells
pub record TellsFinStore (s : Step ℕ) (v : Mine) (n : ℕ) (w : Mine) : Type 0 where
  pub slots : w.1 ≡ v.1
  pub view : w.0 ≡ fin_stored v.0
  pub low : next_xid v.0.known.seen + 1 < 2 ^ 32

-- the pass has heard of all of the journal: the number is the first unfinished one
pub record HasHeard (v : View) (n : ℕ) (w : View) : Type 0 where
  pub more : List Tx
  pub view : w ≡ record v { known = record v.known { seen = v.known.seen ++ more } }
  pub number : n ≡ next_xid w.known.seen
  pub finished : All IsFinished w.known.seen
  -- each further notification still has a number and a status
  pub few : length w.known.seen + w.known.notes_left ≤ notes_of_seats w.setup.seats
  -- the holder knew it all
  pub holder : holds_lock v.phase ≡ true → w ≡ v

-- what the load of the first unfinished number tells
pub record TellsFin (s : Step ℕ) (v : Mine) (n : ℕ) (w : Mine) : Type 0 where
  pub slots : w.1 ≡ v.1
  pub heard : HasHeard v.0 n w.0
  pub low : n < 2 ^ 32
  pub kept : (w.0.setup ≡ v.0.setup) × (w.0.ended ≡ v.0.ended)

-- a status word has the fate of each finished transaction that the pass knows
pub record TellsStatus (s : Step ℕ) (v : Mine) (n : ℕ) (w : Mine) : Type 0 where
  pub slots : w.1 ≡ v.1
  pub view : w.0 ≡ v.0
  pub value : (x : ℕ) (tx : Tx) → s.word ≡ statuses_at v.0.setup + status_word x → FIRST_XID ≤ x → entry v.0.known.seen x ≡ Some tx → status_in n x ≡ status_code tx.fate

-- of a note that was joined, or of a pass that another has taken in, nothing is known
abbrev pub spent_view : View
spent_view = record (opened_view no_setup 0) { known = opened_pass 0 no_seat }

-- of a note nothing is known but what is in it
abbrev pub noted : View → View
noted v = record spent_view { known = record (opened_pass 0 no_seat) { seen = v.known.seen; told = v.known.told; signalled = v.known.signalled } }

-- the first list, and then what the second has beyond its length
abbrev pub longer : List Tx → List Tx → List Tx
longer xs ys = xs ++ drop (length xs) ys

-- the pass has learned what is in a note. The holder's journal stays
abbrev pub joined : View → View → View
joined v w = record v {
  known = record v.known {
    seen = cond (holds_lock v.phase) v.known.seen (longer v.known.seen w.known.seen);
    told = max v.known.told w.known.told;
    signalled = max v.known.signalled w.known.signalled;
    owes = owes_after v.known w.known.told;
  };
}

-- one more pass is made
abbrev pub after_making : View → View
after_making v = record v { made = v.made + 1 }

-- the pass that is made next
abbrev pub made_by : View → View
made_by v = opened_view v.setup (v.made + 1)
