use Rattle.std.proofs.Common.{◌≡◌, ◌+◌, ◌*◌, length, take}
use Rattle.pgn_base.specs.declared.format.Format.{Format}
use Rattle.pgn_journal.specs.Pieces.{Piece, piece_bytes}
use Rattle.pgn_words.specs.Words.{cell_word, IsCellWord}
use Rattle.pgn_words.specs.Passes.{IsPassOf, view_of}
use Rattle.pgn_wordhub.specs.Passes.{hub_shape}
use Rattle.pgn_wordhub.specs.Walks.{StandsAt, shown_cells}
use Rattle.pgn_wordhub.proofs.hub.WordHub.load_bytes.Given as goal

abbrev pub invariant-loop-k : goal.invariant-loop-k
invariant-loop-k l = IsPassOf l.self.queue l.pass × (view_of l.pass ≡ view_of l.fn.pass) × (length l.page ≡ length l.fn.page)
    × (l.word ≡ cell_word (hub_shape l.self) (l.fn.at + l.k)) × IsCellWord (hub_shape l.self) l.word
    × ((format : Format) (piece : Piece) → StandsAt format (shown_cells (view_of l.fn.pass)) l.fn.at piece → length l.fn.page ≡ length (piece_bytes format piece) → take (4 * l.k) l.page ≡ take (4 * l.k) (piece_bytes format piece))
