-- Wakes and flags: what each step makes of the pass, and what it tells.
use Rattle.std.specs.Prelude.{◌≡◌, ◌≢◌, ℕ, ◌+◌, ◌^◌, ◌<◌, ◌≤◌, ◌==◌, ◌||◌, max, Bool, false, not, cond, List, [], ◌∷◌, ◌++◌, length, get_or, slice_set, Option, Some, None, All}
use Rattle.atomic_table.specs.Table.{Step}
use Rattle.pgn_base.specs.declared.limits.TheConstants.{FIRST_XID}
use Rattle.pgn_lanes.specs.Behind.{is_woken}
use Rattle.pgn_journal.specs.declared.tx.Tx.{Tx}
use Rattle.pgn_journal.specs.Journal.{next_xid, is_committed}
use Rattle.pgn_journal.specs.Due.{is_due_to}
use Rattle.pgn_journal.specs.Near.{Near}
use Rattle.pgn_journal.specs.Packing.{image}
use Rattle.pgn_hub.specs.Calls.{owes_after}
use Rattle.pgn_words.specs.declared.pos_word.PosWord.{PosWord}
use Rattle.pgn_words.specs.declared.view.View.{View}
use Rattle.pgn_words.specs.declared.view.Verdict.{Verdict}
use Rattle.pgn_words.specs.declared.view.Verdict.TheVariants.{Needed, Decided}
use Rattle.pgn_words.specs.declared.view.Stage.TheVariants.{Still}
use Rattle.pgn_words.specs.Words.{pos_at, wakes_at, flags_at}
use Rattle.pgn_words.specs.Views.{seat_of}
use Rattle.pgn_words.specs.Positions.{mark_in, position_in, place_or}
use Rattle.pgn_words.specs.Looking.{TellsPosition}
use Rattle.pgn_words.specs.Told.{Mine, IsSamePass}

-- The pass has taken its wake. It owes a read where the wake was set or a read was owed; and where neither was so, the journal has
-- nothing for its channels that it need read, up to where it knows wakes to be set.
pub record HasTaken (v : View) (was_set : Bool) (w : View) : Type 0 where
  pub more : List Tx
  pub view : w ≡ record v {
    known = record v.known { seen = v.known.seen ++ more; owes = was_set || v.known.owes; wake_look = Some (was_set, v.known.owes) };
    walk = record v.walk { stage = Still };
  }
  pub near : (was_set || v.known.owes) ≡ false → Near v.setup.format (is_due_to v.known.db v.known.set) w.known.seen v.post.mark v.known.signalled

-- what the taking of a wake tells
pub record TellsTaken (s : Step ℕ) (v : Mine) (n : ℕ) (w : Mine) : Type 0 where
  pub slots : w.1 ≡ v.1
  pub taken : HasTaken v.0 (not (n == 0)) w.0
  pub kept : (w.0.setup ≡ v.0.setup) × (w.0.ended ≡ v.0.ended)

-- what the pass has found out about a seat
abbrev pub verdict_on : View → ℕ → Verdict
verdict_on v seat = get_or v.verdicts seat Decided

-- by a look at it
abbrev pub verdict_of : Bool → Verdict
verdict_of needs = cond needs Needed Decided

-- the transaction may concern the listener at a seat, as far as the pass knows
abbrev pub is_concerned : View → ℕ → Bool
is_concerned v seat = get_or v.concerned seat false

-- The database by which the listener at a seat is tested: its own, and none where it is known to listen to nothing of the transaction.
-- After one that was aborted, for which the queue was full, each is tested by the pass's own database, so that nobody is left behind.
abbrev pub concerned_db : View → ℕ → ℕ
concerned_db v seat = cond (is_committed v.pen.ending.fate) (cond (is_concerned v seat) (seat_of v.setup (seat + 1)).db 0) v.known.db

-- a listener at this position, of the session of this seat, needs a wake by what the pass has finished: nobody who is out or joins does
abbrev pub needs_wake : View → ℕ → PosWord → Bool
needs_wake v seat position =
    let head = length (image v.setup.format v.known.seen) in
    is_woken head v.known.db (place_or head position) (concerned_db v seat)

-- the pass has looked at the position of a seat
abbrev pub wake_looked : ℕ → PosWord → View → View
wake_looked seat position v = record v { verdicts = slice_set v.verdicts seat (verdict_of (needs_wake v seat position)) }

-- what a look at a seat with this position makes of the pass, and what it learns
pub record HasLookedToWake (v : View) (seat : ℕ) (found : PosWord) (w : View) : Type 0 where
  pub view : w ≡ wake_looked seat found v
  pub position : TellsPosition v seat found

-- what the load of a position by a writer that signals tells
pub record TellsWakeLook (s : Step ℕ) (v : Mine) (n : ℕ) (w : Mine) : Type 0 where
  pub slots : w.1 ≡ v.1
  pub looked : (seat : ℕ) → s.word ≡ pos_at + seat → HasLookedToWake v.0 seat (position_in n) w.0
  pub low : 2 ≤ n → FIRST_XID ≤ mark_in n
  pub same : IsSamePass v.0 w.0

-- the wake of a seat is set
abbrev pub wake_set : ℕ → View → View
wake_set seat v = record v { verdicts = slice_set v.verdicts seat Decided }

-- what the setting of a wake tells
pub record TellsWakeSet (s : Step ℕ) (v : Mine) (n : ℕ) (w : Mine) : Type 0 where
  pub slots : w.1 ≡ v.1
  pub view : (seat : ℕ) → s.word ≡ wakes_at v.0.setup + seat → w.0 ≡ wake_set seat v.0
  pub same : IsSamePass v.0 w.0

-- a flag was raised with what the pass was told
abbrev pub raised : ℕ → View → View
raised flag v = record v { known = record v.known { raised = v.known.raised ++ (flag, v.known.told) ∷ [] } }

-- what the raise of a flag tells
pub record TellsRaised (s : Step ℕ) (v : Mine) (n : ℕ) (w : Mine) : Type 0 where
  pub slots : w.1 ≡ v.1
  pub view : (flag : ℕ) → s.word ≡ flags_at v.0.setup + flag → w.0 ≡ raised flag v.0
  pub same : IsSamePass v.0 w.0

-- The flag was not raised when the pass looked at it, so the pass has neither raised nor found it.
pub record HasFoundNone (v : View) (flag : ℕ) (w : View) : Type 0 where
  pub more : List Tx
  pub view : w ≡ record v { known = record v.known { seen = v.known.seen ++ more; looks = v.known.looks + 1; flag_look = Some (flag, None) } }
  pub not_raised : All (λ pair. pair.0 ≢ flag) v.known.raised
  pub not_found : All (λ pair. pair.0 ≢ flag) v.known.found

-- The pass has found a number at the flag: it is told of it, and of a listener that is so told of more a read is owed; it knows the journal
-- up to it, and has raised or found no greater one for the flag.
pub record HasFound (v : View) (flag x : ℕ) (w : View) : Type 0 where
  pub more : List Tx
  pub view : w ≡ record v {
    known = record v.known {
      seen = v.known.seen ++ more;
      told = max v.known.told x;
      owes = owes_after v.known x;
      found = v.known.found ++ (flag, x) ∷ [];
      looks = v.known.looks + 1;
      flag_look = Some (flag, Some x);
    };
  }
  pub first : FIRST_XID ≤ x
  pub within : x ≤ next_xid w.known.seen
  pub after_raised : All (λ pair. pair.0 ≡ flag → pair.1 ≤ x) v.known.raised
  pub after_found : All (λ pair. pair.0 ≡ flag → pair.1 ≤ x) v.known.found

-- what a look at a flag finds
abbrev pub HasLooked : View → ℕ → Option ℕ → View → Type 0
HasLooked v flag None w = HasFoundNone v flag w
HasLooked v flag (Some x) w = HasFound v flag x w

-- what the load of a flag tells
pub record TellsLooked (s : Step ℕ) (v : Mine) (n : ℕ) (w : Mine) : Type 0 where
  pub slots : w.1 ≡ v.1
  pub none : (flag : ℕ) → s.word ≡ flags_at v.0.setup + flag → n ≡ 0 → HasFoundNone v.0 flag w.0
  pub found : (flag : ℕ) → s.word ≡ flags_at v.0.setup + flag → n ≢ 0 → HasFound v.0 flag n w.0
  pub first : n ≢ 0 → FIRST_XID ≤ n
  pub low : n < 2 ^ 32
  -- what it shows of itself stays, but for what it was told and whether it owes a read
  pub told : w.0.known.told ≡ max v.0.known.told n
  pub owes : w.0.known.owes ≡ owes_after v.0.known n
  pub same : IsSamePass v.0 (record w.0 { known = record w.0.known { told = v.0.known.told; owes = v.0.known.owes } })
