use Rattle.std.proofs.Common.{◌≡◌, take}
use Rattle.pgn_base.specs.Interest.{interest}
use Rattle.pgn_journal.specs.Interest.{channels_of}
use Rattle.pgn_journal.proofs.channel_bits.interest_of_notes.Given as goal

abbrev pub invariant-loop-note : goal.invariant-loop-note
invariant-loop-note l = l.word ≡ interest (channels_of (take l.note-index l.notes))
