-- What each call does to what is known of its pass. Of what is known, a call changes what the equation of its record names, and
-- nothing else; what the pass learns of the journal besides is `more`.
use Rattle.std.specs.Prelude.{true, ◌≡◌, ◌≢◌, ℕ, ◌+◌, ◌-◌, ◌<◌, ◌≤◌, nat_lt, max, Bool, false, ◌&&◌, ◌||◌, List, [], ◌∷◌, ◌++◌, length, drop, Option, Some, None, is_some, All, Contains, IfSome}
use Rattle.pgn_base.specs.declared.limits.TheConstants.{FIRST_XID}
use Rattle.pgn_base.specs.declared.format.Format.{Format}
use Rattle.pgn_base.specs.declared.note.Note.{Note}
use Rattle.pgn_base.specs.declared.note.Delivery.{Delivery}
use Rattle.pgn_base.specs.declared.queue_answers.Full.{Full}
use Rattle.pgn_base.specs.declared.queue_answers.Usage.{Usage}
use Rattle.pgn_base.specs.declared.queue_answers.Enlisted.{Enlisted}
use Rattle.pgn_journal.specs.declared.tx.Tx.{Tx}
use Rattle.pgn_journal.specs.declared.tx.Fate.{Fate}
use Rattle.pgn_journal.specs.declared.tx.Fate.TheVariants.{Committed, Aborted}
use Rattle.pgn_hub.specs.declared.known.Known.{Known}
use Rattle.pgn_hub.specs.declared.known.Advance.{Advance}
use Rattle.pgn_journal.specs.Journal.{next_xid}
use Rattle.pgn_journal.specs.Due.{due, is_due_to}
use Rattle.pgn_journal.specs.Near.{Near}
use Rattle.pgn_journal.specs.QueueUse.{NoPage, ShowsUsage}
use Rattle.pgn_hub.specs.Shape.{Shape}

-- the pass learns of the journal, and nothing else
pub record HasLearned (old new : Known) : Type 0 where
  pub more : List Tx
  pub known : new ≡ record old { seen = old.seen ++ more }

-- a transaction of the pass
abbrev pub tx_of : Known → List Note → ℕ → Fate → Tx
tx_of k notes queued fate = record { session = k.session; db = k.db; notes = notes; queued = queued; fate = fate }

-- `publish` answers a number: this transaction is the journal's next, committed; the pass is told of it, and all wakes are set
pub record HasPublished (old new : Known) (notes : List Note) (x : ℕ) : Type 0 where
  pub more : List Tx
  pub named : List (ℕ × ℕ)
  pub advance : Advance
  pub number : x ≡ next_xid (old.seen ++ more)
  pub known : new ≡ record old {
    seen = old.seen ++ more ++ tx_of old notes (length notes) Committed ∷ [];
    own = old.own ++ x ∷ [];
    told = x + 1;
    signalled = x + 1;
    notes_left = old.notes_left - length notes;
    named = old.named ++ named;
    advance = advance;
  }

-- the sessions with their marks that one look at seats met, of which the first is that of session n
abbrev pub met_from : ℕ → List (Option ℕ) → List (ℕ × ℕ)
met_from n [] = []
met_from n (None ∷ seats) = met_from (n + 1) seats
met_from n (Some mark ∷ seats) = (n, mark) ∷ met_from (n + 1) seats

-- the sessions with their marks that the two looks of an advance met
abbrev pub met_by : Advance → List (ℕ × ℕ)
met_by advance = met_from 1 advance.first ++ met_from 1 advance.second

-- each seat was looked at twice, the pass's own seat with its own mark
pub record LooksTwice (shape : Shape) (session : ℕ) (mark : Option ℕ) (advance : Advance) : Type 0 where
  pub first_look : length advance.first ≡ length shape.seats
  pub second_look : length advance.second ≡ length shape.seats
  pub own_first : All (λ pair. pair.0 ≡ session → mark ≡ Some pair.1) (met_from 1 advance.first)
  pub own_second : All (λ pair. pair.0 ≡ session → mark ≡ Some pair.1) (met_from 1 advance.second)
  pub own_met : IfSome mark (λ own. Contains (met_from 1 advance.first) (session, own) × Contains (met_from 1 advance.second) (session, own))

-- who holds the floor: nobody where no mark is below the number; else the session with the floor mark, and the lowest number where
-- several have it
abbrev pub IsHolder : ℕ → List (ℕ × ℕ) → ℕ → Option ℕ → Type 0
IsHolder x met floor None = floor ≡ x
IsHolder x met floor (Some session) = (floor < x) × Contains met (session, floor) × All (λ pair. pair.1 ≡ floor → session ≤ pair.0) met

-- the floor is the least of a number and the marks that were met
pub record IsFloor (x : ℕ) (met : List (ℕ × ℕ)) (floor : ℕ) (holder : Option ℕ) : Type 0 where
  pub below : floor ≤ x
  pub least : All (λ pair. floor ≤ pair.1) met
  pub held : IsHolder x met floor holder

-- `publish` answers that the queue is full: this transaction is the journal's next, aborted; the pass is told of it, and all wakes are set. It
-- comes after an advance of this very call, and the head hasn't moved since: what is known of an advance is emptied as the lock is taken
-- and as the head moves. What its looks met is named by this call, and the floor is the least of it
pub record HasMetFull (shape : Shape) (old new : Known) (notes : List Note) (full : Full) : Type 0 where
  pub more : List Tx
  pub named : List (ℕ × ℕ)
  pub number : full.xid ≡ next_xid (old.seen ++ more)
  pub known : new ≡ record old {
    seen = old.seen ++ more ++ tx_of old notes full.queued Aborted ∷ [];
    own = old.own ++ full.xid ∷ [];
    told = full.xid + 1;
    signalled = full.xid + 1;
    notes_left = old.notes_left - length notes;
    named = old.named ++ named;
    advance = new.advance;
  }
  pub no_page : NoPage shape.format shape.pages new.seen full
  pub looked : LooksTwice shape old.session old.mark new.advance
  pub floor : IsFloor full.xid (met_by new.advance) full.floor_mark full.holder
  pub met : All (Contains named) (met_by new.advance)

-- `enlist`: the session is a listener from the point on, up to which it is told; its mark is the point, it has told no set, and no
-- read is owed
pub record HasEnlisted (old new : Known) (got : Enlisted) : Type 0 where
  pub more : List Tx
  pub known : new ≡ record old {
    seen = old.seen ++ more;
    mark = Some got.point;
    told = max old.told got.point;
    set = [];
    marks = old.marks ++ got.base ∷ [] ++ got.point ∷ [];
    owes = false;
  }
  pub first : FIRST_XID ≤ got.base
  pub ordered : got.base ≤ got.point
  pub after_told : old.told ≤ got.point
  pub after_marks : All (λ mark. mark ≤ got.point) old.marks
  pub after_seen : next_xid old.seen ≤ got.point
  pub in_seen : got.point ≤ next_xid new.seen

-- `interest`: the listener has told this set, and owes a read
abbrev pub HasInterest : Known → Known → List (List ℕ) → Type 0
HasInterest old new set = new ≡ record old { set = set; owes = true }

-- `scan` answers a number: what was due from the mark up to it is put behind what was there, it is the new mark, up to which the pass is
-- told, and no read is owed
pub record HasRead (old new : Known) (set : List (List ℕ)) (to : ℕ) (before after : List Delivery) : Type 0 where
  pub more : List Tx
  pub from : ℕ
  pub from_mark : old.mark ≡ Some from
  pub known : new ≡ record old {
    seen = old.seen ++ more;
    mark = Some to;
    told = max old.told to;
    marks = old.marks ++ to ∷ [];
    owes = false;
  }
  pub forward : from ≤ to
  pub after_told : old.told ≤ to
  pub after_seen : next_xid old.seen ≤ to
  pub in_seen : to ≤ next_xid new.seen
  pub delivered : after ≡ before ++ due new.seen from to old.db set

-- `leave`: the session is no listener any more
pub record HasLeft (old new : Known) : Type 0 where
  pub more : List Tx
  pub known : new ≡ record old { seen = old.seen ++ more; mark = None }

-- `woken` answers whether its own look found the wake set, or a read was owed; a read is then owed. Where it answers that neither was
-- so, the session need not read up to what it was told of, as far as its database and the set that it has told go
pub record HasWoken (format : Format) (old new : Known) (woken : Bool) : Type 0 where
  pub more : List Tx
  pub was_set : Bool
  pub known : new ≡ record old { seen = old.seen ++ more; owes = woken; wake_look = Some (was_set, old.owes) }
  pub cause : woken ≡ (was_set || old.owes)
  pub near : woken ≡ false → IfSome old.mark (λ mark. Near format (is_due_to old.db old.set) new.seen mark old.told)

-- `raise` answers what the pass was told
pub record HasRaised (old new : Known) (flag x : ℕ) : Type 0 where
  pub more : List Tx
  pub shown : x ≡ old.told
  pub known : new ≡ record old { seen = old.seen ++ more; raised = old.raised ++ (flag, x) ∷ [] }

-- the flag is none of these
abbrev pub IsUnknownIn : List (ℕ × ℕ) → ℕ → Type 0
IsUnknownIn pairs flag = All (λ pair. pair.0 ≢ flag) pairs

-- the number is no less than each that these have for the flag
abbrev pub IsGreatestIn : List (ℕ × ℕ) → ℕ → ℕ → Type 0
IsGreatestIn pairs flag x = All (λ pair. pair.0 ≡ flag → pair.1 ≤ x) pairs

-- `look` finds no number: the flag was not raised at its own look, so the pass has neither raised nor found it
pub record HasFoundNone (old new : Known) (flag : ℕ) : Type 0 where
  pub more : List Tx
  pub known : new ≡ record old { seen = old.seen ++ more; looks = old.looks + 1; flag_look = Some (flag, None) }
  pub not_raised : IsUnknownIn old.raised flag
  pub not_found : IsUnknownIn old.found flag

-- a listener that is told up to a number, of more than before, owes a read
abbrev pub owes_after : Known → ℕ → Bool
owes_after k x = k.owes || (is_some k.mark && nat_lt k.told x)

-- `look` finds a number: the pass is told of it, and it is no less than each that the pass has raised or found for the flag. A listener
-- that is so told of more owes a read, since wakes of it may still have to be set
pub record HasFound (old new : Known) (flag x : ℕ) : Type 0 where
  pub more : List Tx
  pub known : new ≡ record old {
    seen = old.seen ++ more;
    told = max old.told x;
    owes = owes_after old x;
    found = old.found ++ (flag, x) ∷ [];
    looks = old.looks + 1;
    flag_look = Some (flag, Some x);
  }
  pub after_raised : IsGreatestIn old.raised flag x
  pub after_found : IsGreatestIn old.found flag x

-- what `look` answers
abbrev pub HasLooked : Known → Known → ℕ → Option ℕ → Type 0
HasLooked old new flag None = HasFoundNone old new flag
HasLooked old new flag (Some x) = HasFound old new flag x

-- `usage` answers what is in use as the next transaction would begin, after an advance of this very call: what its looks met is named
-- by this call, and the floor is the least of it
pub record HasMeasured (shape : Shape) (old new : Known) (usage : Usage) : Type 0 where
  pub more : List Tx
  pub named : List (ℕ × ℕ)
  pub number : usage.at ≡ next_xid (old.seen ++ more)
  pub known : new ≡ record old { seen = old.seen ++ more; named = old.named ++ named; advance = new.advance }
  pub shows : ShowsUsage shape.format shape.pages new.seen usage
  pub looked : LooksTwice shape old.session old.mark new.advance
  pub floor : IsFloor usage.at (met_by new.advance) usage.floor_mark usage.holder
  pub met : All (Contains named) (met_by new.advance)

-- the first list, and then what the second has beyond its length
abbrev pub longer : List Tx → List Tx → List Tx
longer xs ys = xs ++ drop (length xs) ys

-- `meet`: one pass hears what another one knows of the journal and of wakes, and was told; a listener that is so told of more owes a
-- read
pub record HasHeard (from old new : Known) : Type 0 where
  pub more : List Tx
  pub known : new ≡ record old {
    seen = longer old.seen from.seen ++ more;
    told = max old.told from.told;
    signalled = max old.signalled from.signalled;
    owes = owes_after old from.told;
  }
