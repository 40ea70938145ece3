-- Where a session stands in the walk over its trace, and the states of the walk that it stands for.
use Rattle.std.specs.Prelude.{◌≡◌, ◌==◌, ◌↔◌, ℕ, ◌≤◌, Bool, false, List, length, drop, Option, None, IfSome, All, if◌then◌else◌, ◌&&◌, is_none, nat_eq}
use Rattle.std.specs.List.{list_any}
use Rattle.std.specs.Map.{lookup}
use Rattle.pgn_base.specs.declared.note.Note.{Note}
use Rattle.pgn_base.specs.declared.action.Action.{Action}
use Rattle.pgn_base.specs.Channels.{applied}
use Rattle.pgn_answers.specs.Savepoints.{is_listen}
use Rattle.pgn_journal.specs.declared.tx.Tx.{Tx}
use Rattle.pgn_due.specs.Next.{IsWatch}
use Rattle.pgn_language.specs.declared.scenario.Section.{Section}
use Rattle.pgn_model.specs.Walk.{State, IsGreatest, IsUnknown, queueing_or_settled, settled}
use Rattle.pgn_model.specs.Walk as walk
use Rattle.pgn_block.specs.Kept.{StandsFor}
use Rattle.pgn_ledger.specs.declared.to_show.ToShow.{ToShow}
use Rattle.pgn_ledger.specs.declared.to_show.ToShow.TheVariants as show
use Rattle.pgn_ledger.specs.ToShow.{ending_of, owed_of}
use Rattle.pgn_walk.specs.declared.standing.Standing.{Standing}

-- a mark is no less than each of these exactly where it is no less than this one
abbrev pub IsGreatestMark : List ℕ → ℕ → Type 0
IsGreatestMark marks greatest = (point : ℕ) → All (λ mark. mark ≤ point) marks ↔ (greatest ≤ point)

-- the number with which a flag is known
abbrev pub known_at : List (ℕ × ℕ) → ℕ → Option ℕ
known_at known flag = lookup (nat_eq flag) known

-- what a session has raised and found of each flag
pub record AreKnown (raised found known : List (ℕ × ℕ)) : Type 0 where
  pub greatest : (flag value : ℕ) → (IsGreatest raised flag value × IsGreatest found flag value) ↔ IfSome (known_at known flag) (λ most. most ≤ value)
  pub unknown : (flag : ℕ) → (IsUnknown raised flag × IsUnknown found flag) ↔ (known_at known flag ≡ None)

-- a session that stands so may be in this state of the walk
pub record Holds (section : Section) (journal : List Tx) (at : Standing) (s : State) : Type 0 where
  pub rest : s.rest ≡ drop at.next section.lines
  pub owed : s.owed ≡ owed_of at.owed
  pub block : s.block ≡ at.block.state
  pub changes : StandsFor s.changes at.block.kept
  pub set : s.set ≡ at.set.channels
  pub mark : s.mark ≡ at.mark
  pub told : s.told ≡ at.told
  pub marks : IsGreatestMark s.marks at.greatest
  pub flags : AreKnown s.raised s.found at.known.entries
  pub watch : IsWatch journal section.db at.set.channels at.mark at.watch

-- a step leads from one standing to another as this does from a state of the walk to another
abbrev pub Leads : Standing → Standing → (State → State) → Type 0
Leads old new step = (section : Section) (journal : List Tx) (s : State) → Holds section journal old s → Holds section journal new (step s)

-- a commit of these actions and notifications: a session that is to listen and is no listener becomes one first
abbrev pub commits : State → List Action → List Note → walk.Ending → State
commits s actions notes ending = if list_any is_listen actions && is_none s.mark then record s { owed = walk.Enlisting actions notes ending } else queueing_or_settled s actions notes ending

-- the rows of no channel come next
abbrev pub has_no_rows : ToShow → Bool
has_no_rows (show.Listing names ending) = length names == 0
has_no_rows other = false

-- what is left to show behind rows, or where a session has left
abbrev pub behind : ToShow → ToShow
behind (show.Listing names ending) = show.Answering ending
behind (show.Measuring ending) = show.Answering ending
behind (show.Leaving ending) = show.Answering ending
behind show.Quitting = show.Nothing
behind other = other

-- a commit that was to enlist or to publish goes on from one standing to another
abbrev pub GoesOn : ToShow → Standing → Standing → Type 0
GoesOn (show.Enlisting actions notes ending) old new = Leads old new (λ s. queueing_or_settled s actions notes (ending_of ending))
GoesOn (show.Queueing actions notes ending) old new = Leads old new (λ s. settled s actions (ending_of ending))
GoesOn other old new = Unit {0}

-- the set has room for actions, and what is due next is due as after them
pub record IsReadyFor (actions : List Action) (old new : Standing) : Type 0 where
  pub same : new ≡ record old { set = new.set; watch = new.watch }
  pub channels : new.set.channels ≡ old.set.channels
  pub room : length actions ≤ new.set.room
  pub watch : (journal : List Tx) (db : ℕ) (channels : List (List ℕ)) → IsWatch journal db channels old.mark old.watch → IsWatch journal db (applied channels actions) old.mark new.watch
