-- Positions: what a word says as one, and what a pass shows as its own.
use Rattle.std.specs.Prelude.{◌≡◌, ℕ, ◌+◌, ◌*◌, ◌/◌, ◌%◌, ◌^◌, ◌==◌, ◌≤◌, cond, Bool, true, false, List, [], ◌∷◌, length, Option, None, Some}
use Rattle.pgn_base.specs.declared.limits.TheConstants.{FIRST_XID}
use Rattle.pgn_base.specs.declared.format.Format.{Format}
use Rattle.pgn_journal.specs.declared.tx.Tx.{Tx}
use Rattle.pgn_journal.specs.Journal.{next_xid}
use Rattle.pgn_journal.specs.Packing.{image, place}
use Rattle.pgn_words.specs.declared.pos_word.PosWord.{PosWord}
use Rattle.pgn_words.specs.declared.pos_word.PosWord.TheVariants as words
use Rattle.pgn_words.specs.declared.view.Listen.{Listen}
use Rattle.pgn_words.specs.declared.view.Listen.TheVariants.{Out, Joining, Based, Registered}
use Rattle.pgn_words.specs.declared.view.Post.{Post}

-- the word of a mark and a place: the mark above the place's 32 bits
abbrev pub packed : ℕ → ℕ → ℕ
packed mark at = mark * 2 ^ 32 + at

-- the mark in a word
abbrev pub mark_in : ℕ → ℕ
mark_in word = word / 2 ^ 32

-- the place in a word
abbrev pub place_in : ℕ → ℕ
place_in word = word % 2 ^ 32

-- what a word says as a position
abbrev pub position_in : ℕ → PosWord
position_in word = cond (word == 0) words.Out (cond (word == 1) words.Joining (words.At (mark_in word) (place_in word)))

-- the position of a pass, by what it is as a listener, its mark and its place
abbrev pub shown_as : Listen → ℕ → ℕ → PosWord
shown_as Out mark at = words.Out
shown_as Joining mark at = words.Joining
shown_as Based mark at = words.Joining
shown_as Registered mark at = words.At mark at

-- the word of a position
abbrev pub word_of : PosWord → ℕ
word_of words.Out = 0
word_of words.Joining = 1
word_of (words.At mark at) = packed mark at

-- the mark that a position shows, if it is a listener's
abbrev pub marked : PosWord → Option ℕ
marked words.Out = None
marked words.Joining = None
marked (words.At mark at) = Some mark

-- the place that it shows, and another one where it shows none
abbrev pub place_or : ℕ → PosWord → ℕ
place_or other words.Out = other
place_or other words.Joining = other
place_or other (words.At mark at) = at

-- the session of a seat with its mark, where it is a listener
abbrev pub met_at : ℕ → PosWord → List (ℕ × ℕ)
met_at seat words.Out = []
met_at seat words.Joining = []
met_at seat (words.At mark at) = (seat + 1, mark) ∷ []

-- a listener's mark, and no other's
abbrev pub listens_at : Post → Option ℕ
listens_at post = marked (shown_as post.listen post.mark post.at)

-- the pass has a mark and the mark's place
abbrev pub is_placed : Listen → Bool
is_placed Out = false
is_placed Joining = false
is_placed Based = true
is_placed Registered = true

-- a mark and a place belong to a journal: the transaction numbered by the mark begins at the place, or would begin there
pub record IsPlacedIn (format : Format) (journal : List Tx) (mark at : ℕ) : Type 0 where
  pub first : FIRST_XID ≤ mark
  pub within : mark ≤ next_xid journal
  pub at_is : at ≡ place format journal mark
  -- it is no later than the journal's end
  pub before : at ≤ length (image format journal)

-- so do those of a position, if it has them
abbrev pub IsPositionIn : Format → List Tx → PosWord → Type 0
IsPositionIn format journal words.Out = Unit {0}
IsPositionIn format journal words.Joining = Unit {0}
IsPositionIn format journal (words.At mark at) = IsPlacedIn format journal mark at
