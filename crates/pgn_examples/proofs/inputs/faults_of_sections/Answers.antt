use Rattle.std.specs.Prelude.{[], codes}
use Rattle.std.specs.Str.{is_utf8, chars}
use Rattle.std.specs.Str.Lossy.{utf8_valid_len}
use Rattle.std.proofs.Math.Utf8.{encode}
use Rattle.pgn_language.specs.Grammar.{table, cut}
use Rattle.pgn_language.specs.Lines.{says}
use Rattle.pgn_language.specs.Inputs.{fault_of, scenario_of}
use Rattle.pgn_language.proofs.InputLaws.{input-reads}
use Rattle.pgn_examples.proofs.inputs.faults_of_sections.Goals as goal

pub returns-clause-no_session : goal.returns-clause-no_session
unfolding table cut says fault_of scenario_of is_utf8 chars encode utf8_valid_len
returns-clause-no_session c = input-reads (codes "NOTIFY c")

pub returns-clause-flag_before_session : goal.returns-clause-flag_before_session
unfolding table cut says fault_of scenario_of is_utf8 chars encode utf8_valid_len
returns-clause-flag_before_session c = input-reads (codes "-- x\n\\signal f\n\\session a 1")

pub returns-clause-same_name : goal.returns-clause-same_name
unfolding table cut says fault_of scenario_of is_utf8 chars encode utf8_valid_len
returns-clause-same_name c = input-reads (codes "\\session a 1\n\\session b 1\n\\session a 2")

pub returns-clause-other_case : goal.returns-clause-other_case
unfolding table cut says fault_of scenario_of is_utf8 chars encode utf8_valid_len
returns-clause-other_case c = input-reads (codes "\\session a 1\n\\session A 1\n\\signal")

pub returns-clause-nothing : goal.returns-clause-nothing
unfolding table cut says fault_of scenario_of is_utf8 chars encode utf8_valid_len
returns-clause-nothing c = input-reads []

pub returns-clause-only_blank : goal.returns-clause-only_blank
unfolding table cut says fault_of scenario_of is_utf8 chars encode utf8_valid_len
returns-clause-only_blank c = input-reads (codes "\n;\n-- \\session a 1\n")

pub returns-clause-never_signalled : goal.returns-clause-never_signalled
unfolding table cut says fault_of scenario_of is_utf8 chars encode utf8_valid_len
returns-clause-never_signalled c = input-reads (codes "\\session a 1\n\\await f")

pub returns-clause-lowest_await : goal.returns-clause-lowest_await
unfolding table cut says fault_of scenario_of is_utf8 chars encode utf8_valid_len
returns-clause-lowest_await c = input-reads (codes "\\session a 1\n\\signal g\n\\await g\n\\await f\n\\await e\n")

pub returns-clause-lowest_line : goal.returns-clause-lowest_line
unfolding table cut says fault_of scenario_of is_utf8 chars encode utf8_valid_len
returns-clause-lowest_line c = input-reads (codes "\\session a 1\n\\await f\n\\session a 1\n\\x")

pub returns-clause-other_case_flag : goal.returns-clause-other_case_flag
unfolding table cut says fault_of scenario_of is_utf8 chars encode utf8_valid_len
returns-clause-other_case_flag c = input-reads (codes "\\session a 1\n\\await f\n\\signal F")

pub returns-clause-quit_before_session : goal.returns-clause-quit_before_session
unfolding table cut says fault_of scenario_of is_utf8 chars encode utf8_valid_len
returns-clause-quit_before_session c = input-reads (codes "\\quit\n\\session a 1")
