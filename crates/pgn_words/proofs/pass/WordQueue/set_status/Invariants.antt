use Rattle.pgn_journal.specs.Pieces.{draft}
use Rattle.pgn_words.specs.Passes.{known_of, view_of}
use Rattle.pgn_words.proofs.pass.WordQueue.set_status.Given as goal

abbrev pub ghosts-set_status_as : goal.ghosts-set_status_as
ghosts-set_status_as a = record { tx = draft (known_of a.pass.now).session (known_of a.pass.now).db (view_of a.pass.now).pen.notes a.queued a.fate }
