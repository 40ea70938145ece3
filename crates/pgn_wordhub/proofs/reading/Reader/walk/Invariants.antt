use Rattle.std.proofs.Common.{◌≡◌, ℕ, ◌-◌, ◌≤◌, List, take, vec_len}
use Rattle.pgn_base.specs.declared.note.Delivery.{Delivery}
use Rattle.pgn_words.specs.Passes.{IsPassOf, view_of, known_of}
use Rattle.pgn_wordhub.specs.Walks.{Walks, IsWalking, shown_cells}
use Rattle.pgn_wordhub.proofs.reading.Reader.walk.Given as goal

abbrev pub invariant-loop-pass : goal.invariant-loop-pass
invariant-loop-pass l = IsPassOf l.self.hub.now.queue l.pass × (view_of l.pass ≡ view_of l.fn.pass) × (l.fn.from ≤ l.at) × (l.last ≡ l.fn.head)
    × (take (vec_len l.fn.out) l.out.items ≡ l.fn.out.items)
    × IsWalking l.fn.self.format (shown_cells (view_of l.fn.pass)) l.fn.self.fin (known_of l.fn.pass).db l.fn.self.set.now.channels (known_of l.fn.pass).seen l.at l.out.items
    × ((end : ℕ) (owed : List Delivery) → Walks l.fn.self.format (shown_cells (view_of l.fn.pass)) l.fn.self.fin (known_of l.fn.pass).db l.fn.self.set.now.channels (known_of l.fn.pass).seen l.fn.from end l.fn.out.items owed
    → Walks l.fn.self.format (shown_cells (view_of l.fn.pass)) l.fn.self.fin (known_of l.fn.pass).db l.fn.self.set.now.channels (known_of l.fn.pass).seen l.at end l.out.items owed)

abbrev pub decreases-loop-pass : goal.decreases-loop-pass
decreases-loop-pass l = l.last - l.at
