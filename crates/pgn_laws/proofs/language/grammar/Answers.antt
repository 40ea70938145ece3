use Rattle.pgn_language.proofs.GrammarLaws.{begins-computes, followers-done, followers-tell, reading-computes}
use Rattle.pgn_laws.proofs.GrammarLaws.{front-begins, one-reading, wrong-fits_nowhere}
use Rattle.pgn_language.proofs.ValidForms.{readings-valid}
use Rattle.pgn_laws.proofs.language.grammar.Goals as goal

pub returns-clause-begins_computes : goal.returns-clause-begins_computes
returns-clause-begins_computes c = begins-computes

pub returns-clause-prefix_begins : goal.returns-clause-prefix_begins
returns-clause-prefix_begins c = front-begins

pub returns-clause-wrong_fits_nowhere : goal.returns-clause-wrong_fits_nowhere
returns-clause-wrong_fits_nowhere c = wrong-fits_nowhere

pub returns-clause-followers_tell : goal.returns-clause-followers_tell
returns-clause-followers_tell c = followers-tell

pub returns-clause-followers_done : goal.returns-clause-followers_done
returns-clause-followers_done c = followers-done

pub returns-clause-reading_computes : goal.returns-clause-reading_computes
returns-clause-reading_computes c = reading-computes

pub returns-clause-one_reading : goal.returns-clause-one_reading
returns-clause-one_reading c = one-reading

pub returns-clause-readings_are_valid : goal.returns-clause-readings_are_valid
returns-clause-readings_are_valid c = readings-valid
