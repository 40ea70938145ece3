use Rattle.std.proofs.Common.{◌≡◌, ℕ, ◌-◌, ◌≤◌}
use Rattle.pgn_words.specs.Passes.{IsPassOf, view_of}
use Rattle.pgn_wordhub.specs.Walks.{HasWay, Leads, shown_cells}
use Rattle.pgn_wordhub.proofs.hub.WordHub.come_to.Given as goal

abbrev pub invariant-loop-pass : goal.invariant-loop-pass
invariant-loop-pass l = IsPassOf l.self.queue l.pass × (view_of l.pass ≡ view_of l.fn.pass) × (l.fn.from ≤ l.at) × (l.last ≡ l.fn.head) × (l.end ≡ l.fn.fin) × HasWay l.self.format (shown_cells (view_of l.fn.pass)) l.fn.fin l.at
    × ((end : ℕ) → Leads l.self.format (shown_cells (view_of l.fn.pass)) l.fn.fin l.fn.from end → Leads l.self.format (shown_cells (view_of l.fn.pass)) l.fn.fin l.at end)

abbrev pub decreases-loop-pass : goal.decreases-loop-pass
decreases-loop-pass l = l.last - l.at
