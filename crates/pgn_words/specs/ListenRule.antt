-- The groups of the rule on listeners: their positions, their walks through the cells, and the looks of an advance of the tail.
use Rattle.std.specs.Prelude.{◌≡◌, ℕ, ◌+◌, ◌^◌, ◌<◌, ◌≤◌, true, List, length, get_or}
use mathlib.Core.Option.{some}
use lib.ListN.{get_elem?}
use Rattle.pgn_base.specs.declared.format.Format.{Format}
use Rattle.pgn_base.specs.declared.limits.TheConstants.{FIRST_XID}
use Rattle.pgn_journal.specs.declared.tx.Tx.{Tx}
use Rattle.pgn_journal.specs.Journal.{next_xid}
use Rattle.pgn_journal.specs.Packing.{page_of, place, image}
use Rattle.pgn_words.specs.declared.view.View.{View}
use Rattle.pgn_words.specs.declared.view.Eye.{Eye}
use Rattle.pgn_words.specs.declared.view.Listen.TheVariants.{Registered}
use Rattle.pgn_words.specs.declared.view.Stage.TheVariants.{Shown}
use Rattle.pgn_words.specs.declared.view.Look.{Look}
use Rattle.pgn_words.specs.declared.view.Look.TheVariants.{Idle, First, Second}
use Rattle.pgn_words.specs.Views.{holds_lock, is_walking}
use Rattle.pgn_words.specs.Positions.{mark_in, place_in, shown_as, word_of, listens_at, is_placed}
use Rattle.pgn_words.specs.Each.{Each, Keeps}

-- a mark is at most the first unfinished number, it stands with its place, and its page is kept
pub record IsPlaced (format : Format) (past : List Tx) (fin stop mark at : ℕ) : Type 0 where
  pub at_is : at ≡ place format past mark
  pub least : FIRST_XID ≤ mark
  pub most : mark ≤ fin
  pub kept : stop ≤ page_of at
  pub low : at < 2 ^ 32

-- a listener, or one that has loaded its base, has a session, and its mark stands with its place
abbrev pub Placed : Format → List Tx → ℕ → ℕ → ℕ → View → Type 0
Placed format past fin stop j v = is_placed v.post.listen ≡ true → (0 < v.known.session) × IsPlaced format past fin stop v.post.mark v.post.at

-- what the pass shows as its mark is that of its position
abbrev pub Marks : ℕ → View → Type 0
Marks j v = v.known.mark ≡ listens_at v.post

-- its session's word shows its position
abbrev pub ShowsPosition : List ℕ → ℕ → View → Type 0
ShowsPosition pos j v = (i : ℕ) → v.known.session ≡ i + 1 → get_or pos i 0 ≡ word_of (shown_as v.post.listen v.post.mark v.post.at)

-- a word that shows a mark is that of a pass
abbrev pub Owned : List ℕ → List View → Type 0
Owned pos views = (i : ℕ) → 2 ≤ get_or pos i 0 → (j : ℕ) × (v : View) × (get_elem? views j ≡ some v) × (v.known.session ≡ i + 1)

-- where each pass stands as a listener, and where the announced tail is
pub record Posts (format : Format) (past : List Tx) (fin stop made tail : ℕ) (pos : List ℕ) (views : List View) : Type 0 where
  pub placed : Each (Placed format past fin stop) views
  pub marks : Each Marks views
  pub shows : Each (ShowsPosition pos) views
  pub owned : Owned pos views
  pub unmade : (i : ℕ) → made ≤ i → get_or pos i 0 ≡ 0
  pub tail_placed : IsPlaced format past fin stop (mark_in tail) (place_in tail)

-- a walk is that of a listener, and ends behind its mark and within what the pass has seen of the journal
abbrev pub Walking : ℕ → View → Type 0
Walking j v = is_walking v.walk.stage ≡ true → (v.post.listen ≡ Registered) × (v.post.mark ≤ v.walk.upto) × (v.walk.upto ≤ next_xid v.known.seen)

-- the cells hold what the loaded head showed, from the mark's place on
abbrev pub Bounds : Format → ℕ → ℕ → List ℕ → ℕ → View → Type 0
Bounds format room head cells j v = v.walk.stage ≡ Shown → Keeps room v.post.at (image format v.walk.shown) cells × (length (image format v.walk.shown) ≤ head)

-- the walks through the cells
pub record Walks (format : Format) (room head : ℕ) (cells : List ℕ) (views : List View) : Type 0 where
  pub walking : Each Walking views
  pub bounds : Each (Bounds format room head cells) views

-- a word has a mark with its place
pub record IsLeast (format : Format) (past : List Tx) (fin least : ℕ) : Type 0 where
  pub at_is : place_in least ≡ place format past (mark_in least)
  pub first : FIRST_XID ≤ mark_in least
  pub most : mark_in least ≤ fin

-- the second look is as far as the world says, and no further than the announced tail; once it has met a seat, the least mark is no
-- further than the target
pub record IsSecond (looked target tail : ℕ) (eye : Eye) : Type 0 where
  pub looked_is : eye.looked ≡ looked
  pub target_is : eye.target ≡ target
  pub tail_is : eye.tail ≡ tail
  pub begins : looked ≡ 0 → target ≡ place_in tail
  pub floor : 0 < looked → place_in eye.least ≤ target

-- what a look has found out so far, by which of the two it is
abbrev pub LookIn : Look → Format → List Tx → ℕ → ℕ → ℕ → ℕ → Eye → Type 0
LookIn Idle format past fin looked target tail eye = Unit {0}
LookIn First format past fin looked target tail eye = IsLeast format past fin eye.least
LookIn Second format past fin looked target tail eye = IsLeast format past fin eye.least × IsSecond looked target tail eye

-- the same of the pass that holds the lock
abbrev pub LooksBy : Format → List Tx → ℕ → ℕ → ℕ → ℕ → ℕ → View → Type 0
LooksBy format past fin looked target tail j v = holds_lock v.phase ≡ true → LookIn v.eye.look format past fin looked target tail v.eye

-- a place at a seat that was looked at is no earlier than the target
abbrev pub Spared : ℕ → ℕ → ℕ → View → Type 0
Spared looked target j v = is_placed v.post.listen ≡ true → v.known.session ≤ looked → target ≤ v.post.at

-- the looks of the holder, and what they find out
pub record Looks (format : Format) (past : List Tx) (fin stop looked target tail : ℕ) (views : List View) : Type 0 where
  pub looking : Each (LooksBy format past fin looked target tail) views
  pub spared : Each (Spared looked target) views
  pub aims : target ≤ place_in tail
  pub above : stop ≤ page_of target
