use Rattle.pgn_journal.proofs.BytesLemmas.{are_bytes, entry_lengths, filler_reads_back, length-filler, length-spelled, none_begins, none_is_filler, reads_back}
use Rattle.pgn_laws.proofs.journal.bytes.Goals as goal

pub returns-clause-spelled_length : goal.returns-clause-spelled_length
returns-clause-spelled_length c = length-spelled

pub returns-clause-filler_length : goal.returns-clause-filler_length
returns-clause-filler_length c = length-filler

pub returns-clause-entry_lengths : goal.returns-clause-entry_lengths
returns-clause-entry_lengths c = entry_lengths

pub returns-clause-are_bytes : goal.returns-clause-are_bytes
returns-clause-are_bytes c = are_bytes

pub returns-clause-spelling_reads_back : goal.returns-clause-spelling_reads_back
returns-clause-spelling_reads_back c = reads_back

pub returns-clause-no_spelling_begins : goal.returns-clause-no_spelling_begins
returns-clause-no_spelling_begins c = none_begins

pub returns-clause-no_spelling_is_filler : goal.returns-clause-no_spelling_is_filler
returns-clause-no_spelling_is_filler c = none_is_filler

pub returns-clause-filler_reads_back : goal.returns-clause-filler_reads_back
returns-clause-filler_reads_back c = filler_reads_back
