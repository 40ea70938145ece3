use Rattle.std.proofs.Common.{◌≡◌, ◌+◌, ◌*◌, ◌%◌, ◌<◌, length, drop}
use Rattle.pgn_base.specs.Interest.{channel_bit}
use Rattle.pgn_base.specs.declared.note.Note.{Note}
use Rattle.pgn_journal.specs.Packing.{Sender}
use Rattle.pgn_journal.specs.Pieces.{AnEntry, piece_bytes}
use Rattle.pgn_words.specs.Words.{cell_word, IsCellWord}
use Rattle.pgn_words.specs.Passes.{IsPassOf, view_of}
use Rattle.pgn_wordhub.specs.Passes.{hub_shape}
use Rattle.pgn_wordhub.specs.Walks.{StandsAt, sum_to_zero, shown_cells}
use Rattle.pgn_wordhub.proofs.reading.Reader.channel_bit_at.Given as goal

abbrev pub invariant-loop-k : goal.invariant-loop-k
invariant-loop-k l = IsPassOf l.self.hub.now.queue l.pass × (view_of l.pass ≡ view_of l.fn.pass) × (l.word ≡ cell_word (hub_shape l.self.hub.now) (l.fn.at + l.k)) × IsCellWord (hub_shape l.self.hub.now) l.word
    × ((note : Note) (sender : Sender) → StandsAt l.self.format (shown_cells (view_of l.fn.pass)) l.fn.at (AnEntry note sender) → length (piece_bytes l.self.format (AnEntry note sender)) ≡ 4 * l.fn.cells
    → (l.sum + sum_to_zero (drop (4 * l.k) (piece_bytes l.self.format (AnEntry note sender)))) % 64 ≡ channel_bit note.channel)
    × (l.sum < 64)
