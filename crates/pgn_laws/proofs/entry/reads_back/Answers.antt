use Rattle.std.proofs.Common.{◌++◌, refl}
use Rattle.pgn_journal.specs.Bytes.{entry_length, spelled, filler}
use Rattle.pgn_entry.specs.Reading.{AnEntry, AFiller}
use Rattle.pgn_entry.proofs.AnswerLaws.{reads_as_one}
use Rattle.pgn_laws.proofs.entry.reads_back.Goals as goal

pub returns-clause-entry : goal.returns-clause-entry
returns-clause-entry c format note db xid pid rest valid fits some answer r =
    reads_as_one format (spelled format note db xid pid ++ rest) answer (AnEntry (entry_length format note) note db xid pid) r
    (refl, record { valid = valid; numbers = fits; of_database = some; rest = rest; spelling = refl })

pub returns-clause-filler : goal.returns-clause-filler
returns-clause-filler c format len xid pid rest valid fits answer r =
    reads_as_one format (filler format len xid pid ++ rest) answer (AFiller len xid pid) r (record { valid = valid; numbers = fits; rest = rest; spelling = refl })
