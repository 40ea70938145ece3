-- A writer that ends its transaction.
use Rattle.std.specs.Prelude.{◌≡◌, ℕ, Bool, List, ◌++◌}
use Rattle.pgn_journal.specs.declared.tx.Tx.{Tx}
use Rattle.pgn_journal.specs.declared.tx.Fate.{Fate}
use Rattle.pgn_journal.specs.Pieces.{draft}
use Rattle.pgn_words.specs.declared.view.View.{View}
use Rattle.pgn_words.specs.declared.view.Phase.TheVariants.{Signalling}
use Rattle.pgn_words.specs.declared.view.Verdict.{Verdict}
use Rattle.pgn_words.specs.Views.{AreDecided}
use Rattle.pgn_words.specs.Told.{ended_by, fin_stored}

-- the transaction of the pass, of whose notifications so many were queued
abbrev pub own_tx : View → ℕ → Fate → Tx
own_tx v queued fate = draft v.known.session v.known.db v.pen.notes queued fate

-- the transaction is one of the journal, and what was found out about the seats is told besides
abbrev pub finished_view : Tx → List Verdict → List Bool → View → View
finished_view tx verdicts concerned v = record (fin_stored (ended_by tx v)) { verdicts = verdicts; concerned = concerned }

-- the transaction is one of the journal, all wakes are decided, and an advance may have been tried
pub record HasCommitted (v w : View) (tx : Tx) : Type 0 where
  pub named : List (ℕ × ℕ)
  pub view : w ≡ record (finished_view tx w.verdicts w.concerned v) { stop = w.stop; eye = w.eye; known = record (fin_stored (ended_by tx v)).known { named = v.known.named ++ named; advance = w.known.advance } }
  pub decided : AreDecided w.verdicts

-- the pass has ended a transaction under the lock, and all wakes are decided: what it is as a listener stays, and what it has taken in
pub record HasEnded (v w : View) : Type 0 where
  pub view : w ≡ record v { phase = Signalling; ended = w.ended; stop = w.stop; loaded_stop = w.loaded_stop; pen = w.pen; eye = w.eye; verdicts = w.verdicts; concerned = w.concerned; known = w.known }
  pub decided : AreDecided w.verdicts
