-- What is known of a pass as it is opened, and what holds of each pass between calls.
use Rattle.std.specs.Prelude.{◌≡◌, ℕ, ◌+◌, ◌-◌, ◌<◌, ◌≤◌, max, false, List, [], ◌∷◌, None, slice_get, All, IfSome, IsSomeAnd}
use Rattle.pgn_base.specs.declared.limits.TheConstants.{FIRST_XID}
use Rattle.pgn_hub.specs.declared.setup.SeatSetup.{SeatSetup}
use Rattle.pgn_hub.specs.declared.known.Known.{Known}
use Rattle.pgn_hub.specs.declared.known.Advance.{Advance}
use Rattle.pgn_journal.specs.Journal.{next_xid}
use Rattle.pgn_hub.specs.Shape.{Shape}

-- nothing is loaded yet
abbrev pub no_advance : Advance
no_advance = record { first = []; second = []; tail = None }

-- the pass of a session as it is opened: the journal is empty, and the session is no listener
abbrev pub opened_pass : ℕ → SeatSetup → Known
opened_pass session seat = record {
  session = session;
  db = seat.db;
  seen = [];
  own = [];
  marks = [];
  mark = None;
  set = [];
  told = FIRST_XID;
  signalled = FIRST_XID;
  notes_left = seat.notes;
  owes = false;
  raised = [];
  found = [];
  named = [];
  looks = 0;
  flag_look = None;
  advance = no_advance;
  wake_look = None;
}

-- the passes of seats as they are opened, of which the first is that of session n
abbrev pub opened_passes : ℕ → List SeatSetup → List Known
opened_passes n [] = []
opened_passes n (seat ∷ seats) = opened_pass n seat ∷ opened_passes (n + 1) seats

-- a flag's number, or a session's mark, is at most n
abbrev pub IsPairWithin : ℕ → ℕ × ℕ → Type 0
IsPairWithin n pair = pair.1 ≤ n

-- what holds of each pass between calls
pub record IsWithin (k : Known) : Type 0 where
  -- its marks are within what it has seen of the journal
  pub mark : IfSome k.mark (λ mark. mark ≤ next_xid k.seen)
  pub marks : All (λ mark. mark ≤ next_xid k.seen) k.marks
  -- no transaction has a number below the first
  pub first : FIRST_XID ≤ k.signalled
  -- it knows the wakes of each transaction of its own to be set
  pub own : All (λ x. x < k.signalled) k.own
  -- it was told of each transaction whose wakes it knows to be set and of each that it has read, and of none that it has not seen
  pub signalled : k.signalled ≤ k.told
  pub told_of_read : IfSome k.mark (λ mark. mark ≤ k.told)
  pub told : k.told ≤ next_xid k.seen
  -- it was told of each number that it raised or found
  pub raised : All (IsPairWithin k.told) k.raised
  pub found : All (IsPairWithin k.told) k.found
  -- a listener that owes no read has read what it was told of, or knows its wakes to be set
  pub to_read : k.owes ≡ false → IfSome k.mark (λ mark. k.told ≤ max mark k.signalled)

-- the pass is that of a seat: it has the seat's database, and no more notifications left than the seat may send
pub record IsSeated (shape : Shape) (k : Known) : Type 0 where
  pub first : 1 ≤ k.session
  pub seat : IsSomeAnd (slice_get shape.seats (k.session - 1)) (λ seat. (seat.db ≡ k.db) × (k.notes_left ≤ seat.notes))
