use Rattle.std.specs.Prelude.{◌∷◌, ◌++◌, codes}
use Rattle.std.specs.Str.{is_utf8, chars}
use Rattle.std.specs.Str.Lossy.{utf8_valid_len}
use Rattle.std.proofs.Math.Utf8.{encode}
use Rattle.pgn_language.specs.Grammar.{table, cut}
use Rattle.pgn_language.specs.Lines.{says}
use Rattle.pgn_language.specs.Inputs.{fault_of, scenario_of}
use Rattle.pgn_language.proofs.InputLaws.{input-reads}
use Rattle.pgn_examples.proofs.inputs.faults_of_meta_lines.Goals as goal

pub returns-clause-unknown_word : goal.returns-clause-unknown_word
unfolding table cut says fault_of scenario_of is_utf8 chars encode utf8_valid_len
returns-clause-unknown_word c = input-reads (codes "\\session a 1\n\\wait f")

pub returns-clause-upper_case : goal.returns-clause-upper_case
unfolding table cut says fault_of scenario_of is_utf8 chars encode utf8_valid_len
returns-clause-upper_case c = input-reads (codes "\\SESSION a 1")

pub returns-clause-no_database : goal.returns-clause-no_database
unfolding table cut says fault_of scenario_of is_utf8 chars encode utf8_valid_len
returns-clause-no_database c = input-reads (codes "\\session a")

pub returns-clause-database_zero : goal.returns-clause-database_zero
unfolding table cut says fault_of scenario_of is_utf8 chars encode utf8_valid_len
returns-clause-database_zero c = input-reads (codes "\\session a 00")

pub returns-clause-database_past_limit : goal.returns-clause-database_past_limit
unfolding table cut says fault_of scenario_of is_utf8 chars encode utf8_valid_len
returns-clause-database_past_limit c = input-reads (codes "\\session a 4294967296")

pub returns-clause-long_database : goal.returns-clause-long_database
unfolding table cut says fault_of scenario_of is_utf8 chars encode utf8_valid_len
returns-clause-long_database c = input-reads (codes "\\session a 00000000001")

pub returns-clause-odd_name : goal.returns-clause-odd_name
unfolding table cut says fault_of scenario_of is_utf8 chars encode utf8_valid_len
returns-clause-odd_name c = input-reads (codes "\\session a.b 1")

pub returns-clause-long_name : goal.returns-clause-long_name
unfolding table cut says fault_of scenario_of is_utf8 chars encode utf8_valid_len
returns-clause-long_name c = input-reads (codes "\\session aaaaaaaaaaaaaaaaaaaaaaaaaaaaaaaaaaaaaaaaaaaaaaaaaaaaaaaaaaaaaaaa 1")

pub returns-clause-one_word_more : goal.returns-clause-one_word_more
unfolding table cut says fault_of scenario_of is_utf8 chars encode utf8_valid_len
returns-clause-one_word_more c = input-reads (codes "\\session a 1 2")

pub returns-clause-other_blank : goal.returns-clause-other_blank
unfolding table cut says fault_of scenario_of is_utf8 chars encode utf8_valid_len
returns-clause-other_blank c = input-reads (codes "\\session a" ++ 11 ∷ codes "1")

pub returns-clause-comment_after : goal.returns-clause-comment_after
unfolding table cut says fault_of scenario_of is_utf8 chars encode utf8_valid_len
returns-clause-comment_after c = input-reads (codes "\\session a 1\n\\quit -- done")

pub returns-clause-before_any_session : goal.returns-clause-before_any_session
unfolding table cut says fault_of scenario_of is_utf8 chars encode utf8_valid_len
returns-clause-before_any_session c = input-reads (codes "\\wait f")

pub returns-clause-command_after_quit : goal.returns-clause-command_after_quit
unfolding table cut says fault_of scenario_of is_utf8 chars encode utf8_valid_len
returns-clause-command_after_quit c = input-reads (codes "\\session a 1\n\\quit\n\nLISTEN c")

pub returns-clause-quit_after_quit : goal.returns-clause-quit_after_quit
unfolding table cut says fault_of scenario_of is_utf8 chars encode utf8_valid_len
returns-clause-quit_after_quit c = input-reads (codes "\\session a 1\n\\quit\n\\quit")

pub returns-clause-carriage_return : goal.returns-clause-carriage_return
unfolding table cut says fault_of scenario_of is_utf8 chars encode utf8_valid_len
returns-clause-carriage_return c = input-reads (codes "\\session a\r1")

pub returns-clause-upper_case_quit : goal.returns-clause-upper_case_quit
unfolding table cut says fault_of scenario_of is_utf8 chars encode utf8_valid_len
returns-clause-upper_case_quit c = input-reads (codes "\\session a 1\n\\QUIT")

pub returns-clause-odd_flag : goal.returns-clause-odd_flag
unfolding table cut says fault_of scenario_of is_utf8 chars encode utf8_valid_len
returns-clause-odd_flag c = input-reads (codes "\\session a 1\n\\signal a.b")

pub returns-clause-long_flag : goal.returns-clause-long_flag
unfolding table cut says fault_of scenario_of is_utf8 chars encode utf8_valid_len
returns-clause-long_flag c = input-reads (codes "\\session a 1\n\\await aaaaaaaaaaaaaaaaaaaaaaaaaaaaaaaaaaaaaaaaaaaaaaaaaaaaaaaaaaaaaaaa")

pub returns-clause-plus_in_name : goal.returns-clause-plus_in_name
unfolding table cut says fault_of scenario_of is_utf8 chars encode utf8_valid_len
returns-clause-plus_in_name c = input-reads (codes "\\session a+b 1")

pub returns-clause-dollar_in_name : goal.returns-clause-dollar_in_name
unfolding table cut says fault_of scenario_of is_utf8 chars encode utf8_valid_len
returns-clause-dollar_in_name c = input-reads (codes "\\session a$b 1")
