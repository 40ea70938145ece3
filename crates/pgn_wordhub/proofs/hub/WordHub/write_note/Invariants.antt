use Rattle.std.proofs.Common.{◌≡◌, ◌+◌, take}
use Rattle.pgn_layout.specs.Batches.{entry_of}
use Rattle.pgn_words.specs.Words.{cell_word, IsCellWord}
use Rattle.pgn_words.specs.Passes.{IsPassOf, view_of, known_of}
use Rattle.pgn_wordhub.specs.Passes.{hub_shape}
use Rattle.pgn_wordhub.specs.Placing.{stored_more, writer_of}
use Rattle.pgn_wordhub.proofs.hub.WordHub.write_note.Given as goal

abbrev pub invariant-loop-k : goal.invariant-loop-k
invariant-loop-k l = IsPassOf l.self.queue l.pass × (view_of l.pass ≡ stored_more (take l.k (entry_of l.self.format (writer_of (known_of l.fn.pass)) l.note)) (view_of l.fn.pass))
    × (l.word ≡ cell_word (hub_shape l.self) (l.at + l.k)) × IsCellWord (hub_shape l.self) l.word
