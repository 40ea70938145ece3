use Rattle.std.specs.Prelude.{[], ◌∷◌, ◌++◌, codes}
use Rattle.std.specs.Str.{is_utf8, chars}
use Rattle.std.specs.Str.Lossy.{utf8_valid_len}
use Rattle.std.proofs.Math.Utf8.{encode}
use Rattle.pgn_language.specs.Grammar.{table, cut}
use Rattle.pgn_language.specs.Lines.{says}
use Rattle.pgn_language.specs.Inputs.{fault_of, scenario_of}
use Rattle.pgn_language.proofs.InputLaws.{input-reads}
use Rattle.pgn_examples.proofs.inputs.faults_of_bytes.Goals as goal

pub returns-clause-not_utf8 : goal.returns-clause-not_utf8
unfolding table cut says fault_of scenario_of is_utf8 chars encode utf8_valid_len
returns-clause-not_utf8 c = input-reads (codes "\\session a 1\nNOTIFY c, 'abcdef" ++ 255 ∷ [])

pub returns-clause-cut_character : goal.returns-clause-cut_character
unfolding table cut says fault_of scenario_of is_utf8 chars encode utf8_valid_len
returns-clause-cut_character c = input-reads (codes "\\x" ++ 195 ∷ 10 ∷ [])

pub returns-clause-zero_byte : goal.returns-clause-zero_byte
unfolding table cut says fault_of scenario_of is_utf8 chars encode utf8_valid_len
returns-clause-zero_byte c = input-reads (codes "\\session a 1\nLISTEN c" ++ 0 ∷ [])

pub returns-clause-zero_byte_in_meta : goal.returns-clause-zero_byte_in_meta
unfolding table cut says fault_of scenario_of is_utf8 chars encode utf8_valid_len
returns-clause-zero_byte_in_meta c = input-reads (codes "\\x" ++ 0 ∷ [])

pub returns-clause-after_character : goal.returns-clause-after_character
unfolding table cut says fault_of scenario_of is_utf8 chars encode utf8_valid_len
returns-clause-after_character c = input-reads (codes "--" ++ 195 ∷ 169 ∷ 255 ∷ [])

pub returns-clause-zero_byte_before : goal.returns-clause-zero_byte_before
unfolding table cut says fault_of scenario_of is_utf8 chars encode utf8_valid_len
returns-clause-zero_byte_before c = input-reads (0 ∷ 255 ∷ [])

pub returns-clause-blank_line : goal.returns-clause-blank_line
unfolding table cut says fault_of scenario_of is_utf8 chars encode utf8_valid_len
returns-clause-blank_line c = input-reads (10 ∷ 32 ∷ 0 ∷ [])
