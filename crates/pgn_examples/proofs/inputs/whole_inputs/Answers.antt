use Rattle.std.specs.Prelude.{codes}
use Rattle.std.specs.Str.{is_utf8, chars}
use Rattle.std.specs.Str.Lossy.{utf8_valid_len}
use Rattle.std.proofs.Math.Utf8.{encode}
use Rattle.pgn_language.specs.Grammar.{table, cut}
use Rattle.pgn_language.specs.Lines.{says}
use Rattle.pgn_language.specs.Inputs.{fault_of, scenario_of}
use Rattle.pgn_examples.specs.Inputs.{meta_input, two_sections}
use Rattle.pgn_language.proofs.InputLaws.{input-reads}
use Rattle.pgn_examples.proofs.inputs.whole_inputs.Goals as goal

pub returns-clause-self_notify : goal.returns-clause-self_notify
unfolding table cut says fault_of scenario_of is_utf8 chars encode utf8_valid_len
returns-clause-self_notify c = input-reads (codes "\\session a 1\nLISTEN c\nNOTIFY c, 'x'\n")

pub returns-clause-no_last_line_feed : goal.returns-clause-no_last_line_feed
unfolding table cut says fault_of scenario_of is_utf8 chars encode utf8_valid_len
returns-clause-no_last_line_feed c = input-reads (codes "\\session a 1\nLISTEN c\nNOTIFY c, 'x'")

pub returns-clause-no_line : goal.returns-clause-no_line
unfolding table cut says fault_of scenario_of is_utf8 chars encode utf8_valid_len
returns-clause-no_line c = input-reads (codes "\\session a 1\n")

pub returns-clause-blank_lines : goal.returns-clause-blank_lines
unfolding table cut says fault_of scenario_of is_utf8 chars encode utf8_valid_len
returns-clause-blank_lines c = input-reads (codes "\n -- sessions\n\\session a 1\r\n;\n")

pub returns-clause-meta_lines : goal.returns-clause-meta_lines
unfolding table cut says fault_of scenario_of is_utf8 chars encode utf8_valid_len
returns-clause-meta_lines c = input-reads meta_input

pub returns-clause-sections : goal.returns-clause-sections
unfolding table cut says fault_of scenario_of is_utf8 chars encode utf8_valid_len
returns-clause-sections c = input-reads two_sections

pub returns-clause-section_after_quit : goal.returns-clause-section_after_quit
unfolding table cut says fault_of scenario_of is_utf8 chars encode utf8_valid_len
returns-clause-section_after_quit c = input-reads (codes "\\session a_b 1\n\\quit\n\n\\session b 1\nLISTEN c")

pub returns-clause-past_a_limit : goal.returns-clause-past_a_limit
unfolding table cut says fault_of scenario_of is_utf8 chars encode utf8_valid_len
returns-clause-past_a_limit c = input-reads (codes "\\session aaaaaaaaaaaaaaaaaaaaaaaaaaaaaaaaaaaaaaaaaaaaaaaaaaaaaaaaaaaaaaa 1\nSELECT pg_notify('', '')")

pub returns-clause-ten_digits : goal.returns-clause-ten_digits
unfolding table cut says fault_of scenario_of is_utf8 chars encode utf8_valid_len
returns-clause-ten_digits c = input-reads (codes "\\session a 0000000001")
