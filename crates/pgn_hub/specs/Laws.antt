-- Laws of what the calls say: what a clause says over as much of the journal as is known stays so as more of it becomes known.
use Rattle.std.specs.Prelude.{◌≡◌, ℕ, ◌+◌, ◌≤◌, false, Bool, List, [], ◌++◌, length, map, Some, None, All, Contains, IfSome, IsSome}
use Rattle.std.specs.List.{range_with_len}
use Rattle.pgn_base.specs.declared.limits.TheConstants.{FIRST_XID}
use Rattle.pgn_base.specs.declared.queue_answers.Enlisted.{Enlisted}
use Rattle.pgn_hub.specs.declared.setup.SeatSetup.{SeatSetup}
use Rattle.pgn_journal.specs.declared.tx.Fate.TheVariants.{Committed, Aborted}
use Rattle.pgn_journal.specs.QueueUse.{IsFloorFor, NoPage, ShowsUsage}
use Rattle.pgn_base.specs.declared.format.Format.{Format}
use Rattle.pgn_base.specs.declared.note.Note.{Note}
use Rattle.pgn_base.specs.declared.note.Delivery.{Delivery}
use Rattle.pgn_base.specs.declared.queue_answers.Full.{Full}
use Rattle.pgn_base.specs.declared.queue_answers.Usage.{Usage}
use Rattle.pgn_journal.specs.declared.tx.Tx.{Tx}
use Rattle.pgn_hub.specs.declared.known.Known.{Known}
use Rattle.pgn_journal.specs.Journal.{next_xid, entry}
use Rattle.pgn_journal.specs.Due.{due, is_due_to}
use Rattle.pgn_journal.specs.Near.{Near}
use Rattle.pgn_hub.specs.Shape.{Shape}
use Rattle.pgn_hub.specs.Passes.{IsWithin, opened_passes}
use Rattle.pgn_hub.specs.Calls.{HasPublished, HasEnlisted, HasHeard, HasLearned, HasLeft, HasFound, HasFoundNone, HasInterest, HasMetFull, HasRaised, HasRead, HasMeasured, HasWoken, tx_of}
use Rattle.pgn_hub.specs.Gathered.{Gathered}

-- what a read has delivered is due over a longer journal too
abbrev pub ReadGrows : Type 0
ReadGrows = (old new : Known) (set : List (List ℕ)) (to : ℕ) (before after : List Delivery) (more : List Tx) → HasRead old new set to before after
    → IfSome old.mark (λ from. after ≡ before ++ due (new.seen ++ more) from to old.db set)

-- who was not woken need not read up to what it was told of, over a longer journal too
abbrev pub WokenGrows : Type 0
WokenGrows = (format : Format) (old new : Known) (woken : Bool) (more : List Tx) → IsWithin old → HasWoken format old new woken → woken ≡ false
    → IfSome old.mark (λ mark. Near format (is_due_to old.db old.set) (new.seen ++ more) mark old.told)

-- why the queue was full stays so over a longer journal
abbrev pub FullGrows : Type 0
FullGrows = (shape : Shape) (old new : Known) (notes : List Note) (full : Full) (more : List Tx) → HasMetFull shape old new notes full
    → NoPage shape.format shape.pages (new.seen ++ more) full

-- what is in use stays so over a longer journal
abbrev pub MeasuredGrows : Type 0
MeasuredGrows = (shape : Shape) (old new : Known) (usage : Usage) (more : List Tx) → HasMeasured shape old new usage
    → ShowsUsage shape.format shape.pages (new.seen ++ more) usage

-- who holds the floor is named with the floor mark
pub record HoldersAreNamed : Type 0 where
  pub of_full : (shape : Shape) (old new : Known) (notes : List Note) (full : Full) → HasMetFull shape old new notes full
      → IfSome full.holder (λ session. Contains new.named (session, full.floor_mark))
  pub of_usage : (shape : Shape) (old new : Known) (usage : Usage) → HasMeasured shape old new usage
      → IfSome usage.holder (λ session. Contains new.named (session, usage.floor_mark))

-- what always holds of a pass holds of each pass as it is opened, and stays so in each call. A number with which a flag was found is
-- within what the pass has seen
pub record CallsKeepWithin : Type 0 where
  pub opened : (n : ℕ) (seats : List SeatSetup) → All IsWithin (opened_passes n seats)
  pub published : (old new : Known) (notes : List Note) (x : ℕ) → HasPublished old new notes x → IsWithin old → IsWithin new
  pub met_full : (shape : Shape) (old new : Known) (notes : List Note) (full : Full) → HasMetFull shape old new notes full → IsWithin old → IsWithin new
  pub enlisted : (old new : Known) (got : Enlisted) → HasEnlisted old new got → IsWithin old → IsWithin new
  pub interested : (old new : Known) (set : List (List ℕ)) → HasInterest old new set → IsWithin old → IsWithin new
  pub read : (old new : Known) (set : List (List ℕ)) (to : ℕ) (before after : List Delivery) → HasRead old new set to before after → IsWithin old → IsWithin new
  pub learned : (old new : Known) → HasLearned old new → IsWithin old → IsWithin new
  pub left : (old new : Known) → HasLeft old new → IsWithin old → IsWithin new
  pub woken : (format : Format) (old new : Known) (woken : Bool) → HasWoken format old new woken → IsWithin old → IsWithin new
  pub raised : (old new : Known) (flag x : ℕ) → HasRaised old new flag x → IsWithin old → IsWithin new
  pub found_none : (old new : Known) (flag : ℕ) → HasFoundNone old new flag → IsWithin old → IsWithin new
  pub found : (old new : Known) (flag x : ℕ) → HasFound old new flag x → x ≤ next_xid new.seen → IsWithin old → IsWithin new
  pub measured : (shape : Shape) (old new : Known) (usage : Usage) → HasMeasured shape old new usage → IsWithin old → IsWithin new
  pub heard : (from old new : Known) → HasHeard from old new → IsWithin from → IsWithin old → IsWithin new

-- the pass is of the same session and database
pub record KeepsSeat (old new : Known) : Type 0 where
  pub session : new.session ≡ old.session
  pub database : new.db ≡ old.db

-- the passes that are opened are those of the sessions in order, and each call keeps them so: in the end they can be gathered
pub record SeatsStay : Type 0 where
  pub opened : (n : ℕ) (seats : List SeatSetup) → map (λ k. k.session) (opened_passes n seats) ≡ range_with_len n (length seats)
  pub published : (old new : Known) (notes : List Note) (x : ℕ) → HasPublished old new notes x → KeepsSeat old new
  pub met_full : (shape : Shape) (old new : Known) (notes : List Note) (full : Full) → HasMetFull shape old new notes full → KeepsSeat old new
  pub enlisted : (old new : Known) (got : Enlisted) → HasEnlisted old new got → KeepsSeat old new
  pub interested : (old new : Known) (set : List (List ℕ)) → HasInterest old new set → KeepsSeat old new
  pub read : (old new : Known) (set : List (List ℕ)) (to : ℕ) (before after : List Delivery) → HasRead old new set to before after → KeepsSeat old new
  pub learned : (old new : Known) → HasLearned old new → KeepsSeat old new
  pub left : (old new : Known) → HasLeft old new → KeepsSeat old new
  pub woken : (format : Format) (old new : Known) (woken : Bool) → HasWoken format old new woken → KeepsSeat old new
  pub raised : (old new : Known) (flag x : ℕ) → HasRaised old new flag x → KeepsSeat old new
  pub found_none : (old new : Known) (flag : ℕ) → HasFoundNone old new flag → KeepsSeat old new
  pub found : (old new : Known) (flag x : ℕ) → HasFound old new flag x → KeepsSeat old new
  pub measured : (shape : Shape) (old new : Known) (usage : Usage) → HasMeasured shape old new usage → KeepsSeat old new
  pub heard : (from old new : Known) → HasHeard from old new → KeepsSeat old new

-- whether the session listens after a call: a pass that is opened may enlist, a listener may tell its channels, read, look at its wake
-- and leave, and then enlist again
pub record MarksFollow : Type 0 where
  pub opened : (n : ℕ) (seats : List SeatSetup) → All (λ k. k.mark ≡ None) (opened_passes n seats)
  pub enlisted : (old new : Known) (got : Enlisted) → HasEnlisted old new got → IsSome new.mark
  pub interested : (old new : Known) (set : List (List ℕ)) → HasInterest old new set → new.mark ≡ old.mark
  pub read : (old new : Known) (set : List (List ℕ)) (to : ℕ) (before after : List Delivery) → HasRead old new set to before after → IsSome new.mark
  pub left : (old new : Known) → HasLeft old new → new.mark ≡ None
  pub learned : (old new : Known) → HasLearned old new → new.mark ≡ old.mark
  pub published : (old new : Known) (notes : List Note) (x : ℕ) → HasPublished old new notes x → new.mark ≡ old.mark
  pub met_full : (shape : Shape) (old new : Known) (notes : List Note) (full : Full) → HasMetFull shape old new notes full → new.mark ≡ old.mark
  pub woken : (format : Format) (old new : Known) (woken : Bool) → HasWoken format old new woken → new.mark ≡ old.mark
  pub raised : (old new : Known) (flag x : ℕ) → HasRaised old new flag x → new.mark ≡ old.mark
  pub found_none : (old new : Known) (flag : ℕ) → HasFoundNone old new flag → new.mark ≡ old.mark
  pub found : (old new : Known) (flag x : ℕ) → HasFound old new flag x → new.mark ≡ old.mark
  pub measured : (shape : Shape) (old new : Known) (usage : Usage) → HasMeasured shape old new usage → new.mark ≡ old.mark
  pub heard : (from old new : Known) → HasHeard from old new → new.mark ≡ old.mark

-- the set that a listener has told is the one that it reads by, until it tells another or is none any more: no other call changes it
pub record SetsFollow : Type 0 where
  pub opened : (n : ℕ) (seats : List SeatSetup) → All (λ k. k.set ≡ []) (opened_passes n seats)
  pub enlisted : (old new : Known) (got : Enlisted) → HasEnlisted old new got → new.set ≡ []
  pub interested : (old new : Known) (set : List (List ℕ)) → HasInterest old new set → new.set ≡ set
  pub read : (old new : Known) (set : List (List ℕ)) (to : ℕ) (before after : List Delivery) → HasRead old new set to before after → new.set ≡ old.set
  pub learned : (old new : Known) → HasLearned old new → new.set ≡ old.set
  pub published : (old new : Known) (notes : List Note) (x : ℕ) → HasPublished old new notes x → new.set ≡ old.set
  pub met_full : (shape : Shape) (old new : Known) (notes : List Note) (full : Full) → HasMetFull shape old new notes full → new.set ≡ old.set
  pub woken : (format : Format) (old new : Known) (woken : Bool) → HasWoken format old new woken → new.set ≡ old.set
  pub raised : (old new : Known) (flag x : ℕ) → HasRaised old new flag x → new.set ≡ old.set
  pub found_none : (old new : Known) (flag : ℕ) → HasFoundNone old new flag → new.set ≡ old.set
  pub found : (old new : Known) (flag x : ℕ) → HasFound old new flag x → new.set ≡ old.set
  pub measured : (shape : Shape) (old new : Known) (usage : Usage) → HasMeasured shape old new usage → new.set ≡ old.set
  pub heard : (from old new : Known) → HasHeard from old new → new.set ≡ old.set

-- a transaction takes its notifications from those that are left, whether it commits or not
pub record NotesFollow : Type 0 where
  pub published : (old new : Known) (notes : List Note) (x : ℕ) → length notes ≤ old.notes_left → HasPublished old new notes x → new.notes_left + length notes ≡ old.notes_left
  pub met_full : (shape : Shape) (old new : Known) (notes : List Note) (full : Full) → length notes ≤ old.notes_left → HasMetFull shape old new notes full
      → new.notes_left + length notes ≡ old.notes_left

-- the number comes after all that the pass was told of and has read
pub record ComesAfter (old : Known) (x : ℕ) : Type 0 where
  pub told : old.told ≤ x
  pub mark : IfSome old.mark (λ mark. mark ≤ x)

-- a transaction and a usage come after all that the pass was told of and has read, and the transaction stands at its number
pub record TransactionsFollow : Type 0 where
  pub published : (old new : Known) (notes : List Note) (x : ℕ) → HasPublished old new notes x → IsWithin old → ComesAfter old x
  pub committed : (old new : Known) (notes : List Note) (x : ℕ) → HasPublished old new notes x → entry new.seen x ≡ Some (tx_of old notes (length notes) Committed)
  pub met_full : (shape : Shape) (old new : Known) (notes : List Note) (full : Full) → HasMetFull shape old new notes full → IsWithin old → ComesAfter old full.xid
  pub aborted : (shape : Shape) (old new : Known) (notes : List Note) (full : Full) → HasMetFull shape old new notes full
      → entry new.seen full.xid ≡ Some (tx_of old notes full.queued Aborted)
  pub measured : (shape : Shape) (old new : Known) (usage : Usage) → HasMeasured shape old new usage → IsWithin old → ComesAfter old usage.at

-- a listener's own mark is no lower than the floor, and it holds the floor only where its mark is the floor
pub record OwnFloors : Type 0 where
  pub of_full : (session : ℕ) (shape : Shape) (old new : Known) (notes : List Note) (full : Full) → old.session ≡ session → HasMetFull shape old new notes full
      → IsFloorFor session old.mark full.floor_mark full.holder
  pub of_usage : (session : ℕ) (shape : Shape) (old new : Known) (usage : Usage) → old.session ≡ session → HasMeasured shape old new usage
      → IsFloorFor session old.mark usage.floor_mark usage.holder

-- where all passes are gathered, and each listener has read up to where every pass knows wakes to be set, each has read the whole
-- journal
abbrev pub LastReads : Type 0
LastReads = (passes : List Known) (count : ℕ) → Gathered passes count → All IsWithin passes
    → All (λ k. IfSome k.mark (λ mark. All (λ other. other.signalled ≤ mark) passes)) passes
    → All (λ k. IfSome k.mark (λ mark. mark ≡ FIRST_XID + count)) passes
