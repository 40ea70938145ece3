use Rattle.std.proofs.Common.{◌≡◌, ◌+◌, take}
use Rattle.pgn_base.specs.declared.limits.TheConstants.{PID_BASE}
use Rattle.pgn_journal.specs.Bytes.{filler}
use Rattle.pgn_journal.specs.Packing.{filled_cells}
use Rattle.pgn_words.specs.Words.{cell_word, IsCellWord}
use Rattle.pgn_words.specs.Passes.{IsPassOf, view_of, known_of}
use Rattle.pgn_wordhub.specs.Passes.{hub_shape}
use Rattle.pgn_wordhub.specs.Placing.{stored_more}
use Rattle.pgn_wordhub.proofs.hub.WordHub.write_filler.Given as goal

abbrev pub invariant-loop-k : goal.invariant-loop-k
invariant-loop-k l = IsPassOf l.self.queue l.pass × (view_of l.pass ≡ stored_more (take l.k (filled_cells (filler l.self.format l.len l.xid (PID_BASE + (known_of l.fn.pass).session)))) (view_of l.fn.pass))
    × (l.word ≡ cell_word (hub_shape l.self) (l.fn.at + l.k)) × IsCellWord (hub_shape l.self) l.word
