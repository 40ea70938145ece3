use Rattle.std.proofs.Common.{◌≡◌, ◌+◌, length, take}
use Rattle.pgn_layout.specs.Batches.{entries_of}
use Rattle.pgn_words.specs.Passes.{IsPassOf, view_of, known_of}
use Rattle.pgn_wordhub.specs.Placing.{stored_more, writer_of}
use Rattle.pgn_wordhub.proofs.hub.WordHub.write_batch.Given as goal

abbrev pub invariant-loop-note : goal.invariant-loop-note
invariant-loop-note l = IsPassOf l.self.queue l.pass
    × (view_of l.pass ≡ stored_more (entries_of l.self.format (writer_of (known_of l.fn.pass)) (take l.note-index (take l.batch.fits l.fn.notes))) (view_of l.fn.pass))
    × (l.next ≡ l.fn.at + length (entries_of l.self.format (writer_of (known_of l.fn.pass)) (take l.note-index (take l.batch.fits l.fn.notes))))
