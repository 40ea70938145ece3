-- Laws of how far a reader is behind.
use Rattle.std.specs.Prelude.{ℕ, ◌≤◌, Bool, List, ◌++◌}
use Rattle.pgn_base.specs.declared.format.Format.{Format}
use Rattle.pgn_journal.specs.declared.tx.Tx.{Tx}
use Rattle.pgn_journal.specs.Journal.{next_xid}
use Rattle.pgn_journal.specs.Near.{Near}

-- who need not read up to x need not read up to a smaller number, nor from a greater mark
abbrev pub NearShrinks : Type 0
NearShrinks = (format : Format) (matters : Tx → Bool) (journal : List Tx) (m n x y : ℕ) → y ≤ x → m ≤ n → Near format matters journal m x → Near format matters journal n y

-- nobody need read up to its own mark, or to a number below it
abbrev pub NearItself : Type 0
NearItself = (format : Format) (matters : Tx → Bool) (journal : List Tx) (m x : ℕ) → x ≤ m → Near format matters journal m x

-- a longer journal changes nothing of it
abbrev pub NearGrows : Type 0
NearGrows = (format : Format) (matters : Tx → Bool) (journal more : List Tx) (m x : ℕ) → x ≤ next_xid journal → Near format matters journal m x → Near format matters (journal ++ more) m x
