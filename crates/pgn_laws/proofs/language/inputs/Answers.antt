use Rattle.pgn_laws.proofs.InputLaws.{input-computes, one-input_reading}
use Rattle.pgn_language.proofs.OneLineCommands.{commands-one_line}
use Rattle.pgn_language.proofs.SoundLaws.{only-sound}
use Rattle.pgn_laws.proofs.language.inputs.Goals as goal

pub returns-clause-input_reading_computes : goal.returns-clause-input_reading_computes
returns-clause-input_reading_computes c = input-computes

pub returns-clause-one_input_reading : goal.returns-clause-one_input_reading
returns-clause-one_input_reading c = one-input_reading

pub returns-clause-commands_have_one_line : goal.returns-clause-commands_have_one_line
returns-clause-commands_have_one_line c = commands-one_line

pub returns-clause-readings_are_sound : goal.returns-clause-readings_are_sound
returns-clause-readings_are_sound c = only-sound
