-- What the rule sees of a pass: as it is opened, and what its phase says.
use Rattle.std.specs.Prelude.{◌≡◌, ℕ, ◌+◌, ◌-◌, Bool, true, false, List, [], ◌++◌, slice_index_or, Option, None, All}
use Rattle.pgn_base.specs.declared.format.Format.TheVariants.{One}
use Rattle.pgn_base.specs.declared.limits.TheConstants.{FIRST_XID}
use Rattle.pgn_journal.specs.declared.tx.Tx.{Tx}
use Rattle.pgn_journal.specs.declared.tx.Fate.{Fate}
use Rattle.pgn_journal.specs.declared.tx.Fate.TheVariants.{Committed}
use Rattle.pgn_hub.specs.declared.setup.SeatSetup.{SeatSetup}
use Rattle.pgn_hub.specs.Shape.{Shape}
use Rattle.pgn_layout.specs.Status.{status_code}
use Rattle.pgn_hub.specs.Passes.{opened_pass}
use Rattle.pgn_words.specs.declared.view.View.{View}
use Rattle.pgn_words.specs.declared.view.Pen.{Pen}
use Rattle.pgn_words.specs.declared.view.Phase.{Phase}
use Rattle.pgn_words.specs.declared.view.Phase.TheVariants.{Free, Held, Headed, Ready, Open, Finished, Signalling}
use Rattle.pgn_words.specs.declared.view.Verdict.{Verdict}
use Rattle.pgn_words.specs.declared.view.Verdict.TheVariants.{Unseen, Needed, Decided}
use Rattle.pgn_words.specs.declared.view.Listen.{Listen}
use Rattle.pgn_words.specs.declared.view.Listen.TheVariants.{Out, Joining, Based, Registered}
use Rattle.pgn_words.specs.declared.view.Stage.{Stage}
use Rattle.pgn_words.specs.declared.view.Stage.TheVariants.{Still, Begun, Shown}
use Rattle.pgn_words.specs.declared.view.Look.TheVariants.{Idle}
use Rattle.pgn_words.specs.declared.view.Post.{Post}
use Rattle.pgn_words.specs.declared.view.Walk.{Walk}
use Rattle.pgn_words.specs.declared.view.Eye.{Eye}

-- the pass holds the lock
abbrev pub holds_lock : Phase → Bool
holds_lock Free = false
holds_lock Held = true
holds_lock Headed = true
holds_lock Ready = true
holds_lock Open = true
holds_lock Finished = true
holds_lock Signalling = true

-- the pass holds the lock and has no transaction open
abbrev pub may_drop : Phase → Bool
may_drop Free = false
may_drop Held = true
may_drop Headed = true
may_drop Ready = true
may_drop Open = false
may_drop Finished = false
may_drop Signalling = true

-- the pass knows the oldest kept page
abbrev pub knows_stop : Phase → Bool
knows_stop Free = false
knows_stop Held = false
knows_stop Headed = false
knows_stop Ready = true
knows_stop Open = true
knows_stop Finished = true
knows_stop Signalling = true

-- the pass may advance the tail: it knows the head and the oldest kept page, and has not set a status that is still to be finished
abbrev pub may_look : Phase → Bool
may_look Free = false
may_look Held = false
may_look Headed = false
may_look Ready = true
may_look Open = true
may_look Finished = false
may_look Signalling = true

-- the writer still has to decide on a seat
abbrev pub is_open : Verdict → Bool
is_open Unseen = true
is_open Needed = true
is_open Decided = false

-- it has decided on each seat
abbrev pub AreDecided : List Verdict → Type 0
AreDecided verdicts = All (λ verdict. verdict ≡ Decided) verdicts

-- it is a listener or none, and on no way between
abbrev pub is_settled : Listen → Bool
is_settled Out = true
is_settled Joining = false
is_settled Based = false
is_settled Registered = true

-- the pass is on its way to a later mark
abbrev pub is_walking : Stage → Bool
is_walking Still = false
is_walking Begun = true
is_walking Shown = true

-- how many numbers the pass has drawn and not yet finished
abbrev pub drawn_by : Phase → ℕ
drawn_by Free = 0
drawn_by Held = 0
drawn_by Headed = 0
drawn_by Ready = 0
drawn_by Open = 1
drawn_by Finished = 1
drawn_by Signalling = 0

-- the status of the first unfinished transaction, by the holder's phase and by how its transaction ended
abbrev pub fated : Phase → Fate → ℕ
fated Free fate = 0
fated Held fate = 0
fated Headed fate = 0
fated Ready fate = 0
fated Open fate = 0
fated Finished fate = status_code fate
fated Signalling fate = 0

-- no seat
abbrev pub no_seat : SeatSetup
no_seat = record { db = 0; notes = 0 }

-- what the seat of a session is for
abbrev pub seat_of : Shape → ℕ → SeatSetup
seat_of z session = slice_index_or z.seats (session - 1) no_seat

-- nothing is opened
abbrev pub no_setup : Shape
no_setup = record { pages = 0; flags = 0; seats = []; format = One }

-- no transaction
abbrev pub no_tx : Tx
no_tx = record { session = 0; db = 0; notes = []; queued = 0; fate = Committed }

-- nothing is written
abbrev pub no_pen : Pen
no_pen = record { notes = []; taken = 0; cells = []; batch = []; ending = no_tx }

-- it is no listener
abbrev pub no_post : Post
no_post = record { listen = Out; mark = FIRST_XID; at = 0 }

-- it is on no way
abbrev pub no_walk : Walk
no_walk = record { stage = Still; upto = FIRST_XID; shown = [] }

-- nothing is looked at
abbrev pub no_eye : Eye
no_eye = record { look = Idle; looked = 0; least = 0; tail = 0; target = 0; joins = None }

-- the pass of a session as it is opened
abbrev pub opened_view : Shape → ℕ → View
opened_view z session = record {
  known = opened_pass session (seat_of z session);
  setup = z;
  made = 0;
  joined = [];
  phase = Free;
  held_by = None;
  ended = None;
  stop = 0;
  loaded_stop = 0;
  pen = no_pen;
  post = no_post;
  walk = no_walk;
  eye = no_eye;
  verdicts = [];
  concerned = [];
}

-- the first pass, which makes the others
abbrev pub first_view : Shape → View
first_view z = record (opened_view z 1) { made = 1 }

-- what the pass has stored: up to the head, and past it
abbrev pub stored_by : View → List (Option ℕ)
stored_by v = v.pen.cells ++ v.pen.batch

-- the notifications that the pass may still send, and those of its transaction
abbrev pub spent_by : View → ℕ
spent_by v = v.known.notes_left + v.pen.taken
