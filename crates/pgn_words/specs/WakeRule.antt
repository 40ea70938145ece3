-- The groups of the rule on wakes, flags, the marks that looks met, and the passes that were taken in at the end.
use Rattle.std.specs.Prelude.{◌≡◌, ◌≢◌, ◌⊎◌, ℕ, ◌+◌, ◌-◌, ◌<◌, ◌≤◌, ◌&&◌, Bool, true, false, cond, List, [], ◌∷◌, ◌++◌, get_or, Option, None, Some, All, Any, Contains, flat_map}
use Rattle.std.specs.List.{list_any}
use Rattle.pgn_base.specs.declared.format.Format.{Format}
use Rattle.pgn_base.specs.declared.limits.TheConstants.{FIRST_XID, CLEANUP_DELAY_PAGES}
use Rattle.pgn_journal.specs.declared.tx.Tx.{Tx}
use Rattle.pgn_hub.specs.declared.known.Known.{Known}
use Rattle.pgn_journal.specs.Begins.{Begins}
use Rattle.pgn_journal.specs.Journal.{next_xid, xids_of, entries_between}
use Rattle.pgn_journal.specs.Due.{is_due_to}
use Rattle.pgn_journal.specs.Interest.{Covers}
use Rattle.pgn_journal.specs.Packing.{page_of, place}
use Rattle.pgn_hub.specs.Shape.{Shape}
use Rattle.pgn_words.specs.declared.view.View.{View}
use Rattle.pgn_words.specs.declared.view.Phase.{Phase}
use Rattle.pgn_words.specs.declared.view.Phase.TheVariants.{Free, Held, Headed, Ready, Open, Finished, Signalling}
use Rattle.pgn_words.specs.declared.view.Verdict.{Verdict}
use Rattle.pgn_words.specs.declared.view.Verdict.TheVariants.{Decided}
use Rattle.pgn_words.specs.declared.view.Listen.TheVariants.{Registered}
use Rattle.pgn_words.specs.Views.{holds_lock, is_open, is_walking, seat_of}
use Rattle.pgn_words.specs.Each.{Each, Someone}

-- how far the listener at a seat was served as to its pages: of the last transaction only once its seat was decided
abbrev pub served : (ℕ → Bool) → ℕ → ℕ → ℕ
served undecided fin i = cond (undecided i) (fin - 1) fin

-- how far it was passed by as to its channels: of the last transaction once its seat was decided, or once it is known that the
-- transaction does not concern it
abbrev pub passed : (ℕ → Bool) → (ℕ → Bool) → ℕ → ℕ → ℕ
passed undecided concerned fin i = cond (undecided i && concerned i) (fin - 1) fin

-- a listener at the mark need not read: nothing for it stands before the one number, and the other begins less than four pages on
pub record IsServed (format : Format) (matters : Tx → Bool) (past : List Tx) (mark by upto : ℕ) : Type 0 where
  pub nothing_due : list_any matters (entries_between past mark by) ≡ false
  pub few_pages : page_of (place format past upto) < page_of (place format past mark) + CLEANUP_DELAY_PAGES

-- the wakes of each transaction below the number were set
pub record IsHeard (fin : ℕ) (undecided : ℕ → Bool) (n : ℕ) : Type 0 where
  pub most : n ≤ fin
  pub decided : (i : ℕ) → undecided i ≡ true → n + 1 ≤ fin

-- a listener at a seat is woken, or owes a read, or need not read as far as it was passed by and served; the same from the end of its
-- walk on
pub record IsHeeded (format : Format) (matters : Tx → Bool) (past : List Tx) (by upto : ℕ) (wake mark : ℕ) (walks : Bool) (ends : ℕ) (owes : Bool) : Type 0 where
  pub still : (wake ≡ 1) ⊎ ((owes ≡ true) ⊎ IsServed format matters past mark by upto)
  pub walked : walks ≡ true → (wake ≡ 1) ⊎ IsServed format matters past ends by upto

-- so is the pass of each listener
abbrev pub Heeds : Format → List Tx → ℕ → (ℕ → Bool) → (ℕ → Bool) → List ℕ → ℕ → View → Type 0
Heeds format past fin undecided concerned wakes j v = v.post.listen ≡ Registered → (i : ℕ) → v.known.session ≡ i + 1
    → IsHeeded format (is_due_to v.known.db v.known.set) past (passed undecided concerned fin i) (served undecided fin i) (get_or wakes i 0) v.post.mark (is_walking v.walk.stage) v.walk.upto v.known.owes

-- in a list of verdicts, whether there is still to decide on a seat
abbrev pub waits_in : List Verdict → ℕ → Bool
waits_in verdicts i = is_open (get_or verdicts i Decided)

-- the seats that are undecided, by the holder's phase and by its list
abbrev pub pending : Phase → (ℕ → Bool) → ℕ → Bool
pending Free waits i = false
pending Held waits i = false
pending Headed waits i = false
pending Ready waits i = false
pending Open waits i = false
pending Finished waits i = false
pending Signalling waits i = waits i

-- of the holder the seats are undecided that are so by its phase and its list
abbrev pub Signals : (ℕ → Bool) → ℕ → View → Type 0
Signals undecided j v = holds_lock v.phase ≡ true → (i : ℕ) → undecided i ≡ pending v.phase (waits_in v.verdicts) i

-- what the holder will be told, by its phase
abbrev pub ended_in : Phase → ℕ → Option ℕ
ended_in Free fin = None
ended_in Held fin = None
ended_in Headed fin = None
ended_in Ready fin = None
ended_in Open fin = None
ended_in Finished fin = None
ended_in Signalling fin = Some fin

-- no wake is lost
pub record Wakes (format : Format) (lock fin : ℕ) (past : List Tx) (undecided concerned : ℕ → Bool) (wakes : List ℕ) (views : List View) : Type 0 where
  pub small : (i : ℕ) → get_or wakes i 0 ≤ 1
  pub heeds : Each (Heeds format past fin undecided concerned wakes) views
  pub signals : Each (Signals undecided) views
  pub calm : lock ≡ 0 → (i : ℕ) → undecided i ≡ false
  pub heard : Each (λ _ v. IsHeard fin undecided v.known.signalled) views
  pub ended : Each (λ _ v. v.ended ≡ ended_in v.phase fin) views

-- the word of a listener's seat has the bit of each channel that it has told
abbrev pub Covered : List ℕ → ℕ → View → Type 0
Covered interests j v = v.post.listen ≡ Registered → (i : ℕ) → v.known.session ≡ i + 1 → Covers (get_or interests i 0) v.known.set

-- whom the last transaction may concern, by the list of the holder while it signals
abbrev pub Deems : Phase → (ℕ → Bool) → List Bool → Type 0
Deems Free concerned deemed = Unit {0}
Deems Held concerned deemed = Unit {0}
Deems Headed concerned deemed = Unit {0}
Deems Ready concerned deemed = Unit {0}
Deems Open concerned deemed = Unit {0}
Deems Finished concerned deemed = Unit {0}
Deems Signalling concerned deemed = (i : ℕ) → concerned i ≡ get_or deemed i false

-- what listeners have told of their channels, and whom the last transaction may concern
pub record Interests (concerned : ℕ → Bool) (interests : List ℕ) (views : List View) : Type 0 where
  pub covered : Each (Covered interests) views
  pub deems : Each (λ _ v. Deems v.phase concerned v.concerned) views

-- the flags that a pass raised, with those of the passes that it has taken in
abbrev pub raised_in : View → List (ℕ × ℕ)
raised_in v = v.known.raised ++ flat_map (λ k. k.raised) v.joined

-- the flags that it found, with theirs
abbrev pub found_in : View → List (ℕ × ℕ)
found_in v = v.known.found ++ flat_map (λ k. k.found) v.joined

-- the marks that its looks met, with theirs
abbrev pub named_in : View → List (ℕ × ℕ)
named_in v = v.known.named ++ flat_map (λ k. k.named) v.joined

-- a pass raised the flag with the number
abbrev pub Raised : List View → ℕ × ℕ → Type 0
Raised views pair = Someone (λ v. Contains (raised_in v) pair) views

-- a flag's number is that of a transaction, and no more than the flag's word holds
abbrev pub IsMost : List ℕ → ℕ × ℕ → Type 0
IsMost flags pair = (FIRST_XID ≤ pair.1) × (pair.1 ≤ get_or flags pair.0 0)

-- the transactions below what a pass was told are finished, and it knows the wakes to be set of no more than of these
pub record IsTold (fin told signalled : ℕ) : Type 0 where
  pub first : FIRST_XID ≤ signalled
  pub below : signalled ≤ told
  pub finished : told ≤ fin

-- each flag's word holds the greatest number with which it was raised, and 0 where it was not
pub record Flags (fin : ℕ) (flags : List ℕ) (views : List View) : Type 0 where
  -- the transactions below it are finished
  pub finished : (f : ℕ) → get_or flags f 0 ≤ fin
  pub told : Each (λ _ v. IsTold fin v.known.told v.known.signalled) views
  pub most : Each (λ _ v. All (IsMost flags) (raised_in v)) views
  pub source : (f : ℕ) → (get_or flags f 0 ≡ 0) ⊎ Raised views (f, get_or flags f 0)
  pub found : Each (λ _ v. All (Raised views) (found_in v)) views

-- the session stood at the mark
abbrev pub IsMarkedBy : ℕ × ℕ → Known → Type 0
IsMarkedBy pair k = (k.session ≡ pair.0) × Contains k.marks pair.1

-- by the pass or by one that it took
abbrev pub MarkedBy : ℕ × ℕ → View → Type 0
MarkedBy pair v = IsMarkedBy pair v.known ⊎ Any (IsMarkedBy pair) v.joined

-- the session's pass stood at the mark, or one that it took in did
abbrev pub Marked : List View → ℕ × ℕ → Type 0
Marked views pair = Someone (MarkedBy pair) views

-- it is the last one of a list
abbrev pub IsLast : List ℕ → ℕ → Type 0
IsLast marks mark = (before : List ℕ) × (marks ≡ before ++ mark ∷ [])

-- a listener's mark is the last of its marks, and each mark that a look met is one of its session
pub record Named (views : List View) : Type 0 where
  pub current : Each (λ _ v. v.post.listen ≡ Registered → IsLast v.known.marks v.post.mark) views
  pub named : Each (λ _ v. All (Marked views) (named_in v)) views

-- a pass that was taken in is that of another session, it has its seat's database, and knows what a pass knows
pub record IsTaken (z : Shape) (made fin : ℕ) (seat : ℕ → ℕ) (past : List Tx) (j session : ℕ) (k : Known) : Type 0 where
  pub sits : seat k.session ≡ j
  pub positive : 0 < k.session
  pub was_made : k.session ≤ made
  pub other : k.session ≢ session
  pub db_is : k.db ≡ (seat_of z k.session).db
  pub sees : Begins k.seen past
  pub owns : k.own ≡ xids_of k.session past
  pub own_seen : All (λ x. x < next_xid k.seen) k.own
  pub told : k.told ≤ fin

-- each pass that was taken in is so, at the seat of the pass that took it
abbrev pub Taken : Shape → ℕ → ℕ → (ℕ → ℕ) → List Tx → List View → Type 0
Taken z made fin seat past views = Each (λ j v. All (IsTaken z made fin seat past j v.known.session) v.joined) views
