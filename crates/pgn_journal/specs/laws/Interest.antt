-- Laws of which channels a reader may care for.
use Rattle.std.specs.Prelude.{◌≡◌, ℕ, false, List}
use Rattle.std.specs.List.{list_any}
use Rattle.pgn_base.specs.declared.note.Note.{Note}
use Rattle.pgn_journal.specs.Due.{listens}
use Rattle.pgn_base.specs.Interest.{interest}
use Rattle.pgn_journal.specs.Interest.{channels_of, meets, Covers}

-- the bits of channels have the bit of each
abbrev pub InterestCovers : Type 0
InterestCovers = (channels : List (List ℕ)) → Covers (interest channels) channels

-- where a number has the bit of each channel, and no bit in common with those of notifications, none of these is on one of the channels
abbrev pub NothingInCommon : Type 0
NothingInCommon = (word : ℕ) (channels : List (List ℕ)) (notes : List Note) → Covers word channels → meets word (interest (channels_of notes)) ≡ false → list_any (listens channels) notes ≡ false
