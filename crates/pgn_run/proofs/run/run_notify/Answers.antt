use Rattle.std.proofs.Common.{map}
use Rattle.pgn_run.proofs.CallLaws.{bad_frame-said, bad_frame_where_due-said, bad_scenario-said, bad_scenario_where_checked-said, bad_scenario_where_due-said, bad_scenario_writes_nothing-said, bad_wire-said, bad_wire_where_due-said, bad_words-said, bad_words_read_nothing-said, bad_words_where_due-said, bad_words_write_nothing-said, check_complete-said, check_too_large-said, check_too_large_where_due-said, check_too_large_writes_nothing-said, complete-said, done-said, done_reads_all-said, drill_complete-said, drill_reads_nothing-said, illegal-said, illegal_where_due-said, no_memory_writes_first_lines-said, no_memory_writes_nothing-said, no_memory_writes_whole_answers-said, no_memory_writes_whole_turns-said, no_output-said, no_output_where_due-said, no_output_writes_nothing-said, read_fault-said, read_fault_where_due-said, read_fault_where_served-said, read_fault_writes_answers-said, read_fault_writes_nothing-said, read_fault_writes_what_was_told-said, serve_complete-said, what_was_checked-said, what_was_read-said, wire_complete-said, write_fault-said, write_fault_where_due-said, write_fault_writes_a_prefix-said}
use Rattle.pgn_run.proofs.run.run_notify.Goals as goal

pub returns-clause-done : goal.returns-clause-done
returns-clause-done g c = done-said g.S.Source.left g.S.Source.faults g.K.Sink.held g.K.Sink.faults (map (λ word. word.now) c.args.words.now) c.args.source.now c.perform.new.source c.args.sink.now c.perform.new.sink c.perform.result c.read_words-asked.result c.read_words-asked.ensures.asked c.read_words-asked.ensures.bad_words c.perform.ensures

pub returns-clause-done_reads_all : goal.returns-clause-done_reads_all
returns-clause-done_reads_all g c = done_reads_all-said g.S.Source.left g.S.Source.faults g.K.Sink.held g.K.Sink.faults (map (λ word. word.now) c.args.words.now) c.args.source.now c.perform.new.source c.args.sink.now c.perform.new.sink c.perform.result c.read_words-asked.result c.read_words-asked.ensures.asked c.read_words-asked.ensures.bad_words c.perform.ensures

pub returns-clause-bad_words : goal.returns-clause-bad_words
returns-clause-bad_words g c = bad_words-said g.S.Source.left g.S.Source.faults g.K.Sink.held g.K.Sink.faults (map (λ word. word.now) c.args.words.now) c.args.source.now c.perform.new.source c.args.sink.now c.perform.new.sink c.perform.result c.read_words-asked.result c.read_words-asked.ensures.asked c.read_words-asked.ensures.bad_words c.perform.ensures

pub returns-clause-bad_words_where_due : goal.returns-clause-bad_words_where_due
returns-clause-bad_words_where_due g c = bad_words_where_due-said g.S.Source.left g.S.Source.faults g.K.Sink.held g.K.Sink.faults (map (λ word. word.now) c.args.words.now) c.args.source.now c.perform.new.source c.args.sink.now c.perform.new.sink c.perform.result c.read_words-asked.result c.read_words-asked.ensures.asked c.read_words-asked.ensures.bad_words c.perform.ensures

pub returns-clause-bad_words_read_nothing : goal.returns-clause-bad_words_read_nothing
returns-clause-bad_words_read_nothing g c = bad_words_read_nothing-said g.S.Source.left g.S.Source.faults g.K.Sink.held g.K.Sink.faults (map (λ word. word.now) c.args.words.now) c.args.source.now c.perform.new.source c.args.sink.now c.perform.new.sink c.perform.result c.read_words-asked.result c.read_words-asked.ensures.asked c.read_words-asked.ensures.bad_words c.perform.ensures

pub returns-clause-bad_words_write_nothing : goal.returns-clause-bad_words_write_nothing
returns-clause-bad_words_write_nothing g c = bad_words_write_nothing-said g.S.Source.left g.S.Source.faults g.K.Sink.held g.K.Sink.faults (map (λ word. word.now) c.args.words.now) c.args.source.now c.perform.new.source c.args.sink.now c.perform.new.sink c.perform.result c.read_words-asked.result c.read_words-asked.ensures.asked c.read_words-asked.ensures.bad_words c.perform.ensures

pub returns-clause-bad_scenario : goal.returns-clause-bad_scenario
returns-clause-bad_scenario g c = bad_scenario-said g.S.Source.left g.S.Source.faults g.K.Sink.held g.K.Sink.faults (map (λ word. word.now) c.args.words.now) c.args.source.now c.perform.new.source c.args.sink.now c.perform.new.sink c.perform.result c.read_words-asked.result c.read_words-asked.ensures.asked c.read_words-asked.ensures.bad_words c.perform.ensures

pub returns-clause-bad_scenario_where_due : goal.returns-clause-bad_scenario_where_due
returns-clause-bad_scenario_where_due g c = bad_scenario_where_due-said g.S.Source.left g.S.Source.faults g.K.Sink.held g.K.Sink.faults (map (λ word. word.now) c.args.words.now) c.args.source.now c.perform.new.source c.args.sink.now c.perform.new.sink c.perform.result c.read_words-asked.result c.read_words-asked.ensures.asked c.read_words-asked.ensures.bad_words c.perform.ensures

pub returns-clause-bad_scenario_where_checked : goal.returns-clause-bad_scenario_where_checked
returns-clause-bad_scenario_where_checked g c = bad_scenario_where_checked-said g.S.Source.left g.S.Source.faults g.K.Sink.held g.K.Sink.faults (map (λ word. word.now) c.args.words.now) c.args.source.now c.perform.new.source c.args.sink.now c.perform.new.sink c.perform.result c.read_words-asked.result c.read_words-asked.ensures.asked c.read_words-asked.ensures.bad_words c.perform.ensures

pub returns-clause-bad_scenario_writes_nothing : goal.returns-clause-bad_scenario_writes_nothing
returns-clause-bad_scenario_writes_nothing g c = bad_scenario_writes_nothing-said g.S.Source.left g.S.Source.faults g.K.Sink.held g.K.Sink.faults (map (λ word. word.now) c.args.words.now) c.args.source.now c.perform.new.source c.args.sink.now c.perform.new.sink c.perform.result c.read_words-asked.result c.read_words-asked.ensures.asked c.read_words-asked.ensures.bad_words c.perform.ensures

pub returns-clause-illegal : goal.returns-clause-illegal
returns-clause-illegal g c = illegal-said g.S.Source.left g.S.Source.faults g.K.Sink.held g.K.Sink.faults (map (λ word. word.now) c.args.words.now) c.args.source.now c.perform.new.source c.args.sink.now c.perform.new.sink c.perform.result c.read_words-asked.result c.read_words-asked.ensures.asked c.read_words-asked.ensures.bad_words c.perform.ensures

pub returns-clause-illegal_where_due : goal.returns-clause-illegal_where_due
returns-clause-illegal_where_due g c = illegal_where_due-said g.S.Source.left g.S.Source.faults g.K.Sink.held g.K.Sink.faults (map (λ word. word.now) c.args.words.now) c.args.source.now c.perform.new.source c.args.sink.now c.perform.new.sink c.perform.result c.read_words-asked.result c.read_words-asked.ensures.asked c.read_words-asked.ensures.bad_words c.perform.ensures

pub returns-clause-no_output : goal.returns-clause-no_output
returns-clause-no_output g c = no_output-said g.S.Source.left g.S.Source.faults g.K.Sink.held g.K.Sink.faults (map (λ word. word.now) c.args.words.now) c.args.source.now c.perform.new.source c.args.sink.now c.perform.new.sink c.perform.result c.read_words-asked.result c.read_words-asked.ensures.asked c.read_words-asked.ensures.bad_words c.perform.ensures

pub returns-clause-no_output_where_due : goal.returns-clause-no_output_where_due
returns-clause-no_output_where_due g c = no_output_where_due-said g.S.Source.left g.S.Source.faults g.K.Sink.held g.K.Sink.faults (map (λ word. word.now) c.args.words.now) c.args.source.now c.perform.new.source c.args.sink.now c.perform.new.sink c.perform.result c.read_words-asked.result c.read_words-asked.ensures.asked c.read_words-asked.ensures.bad_words c.perform.ensures

pub returns-clause-no_output_writes_nothing : goal.returns-clause-no_output_writes_nothing
returns-clause-no_output_writes_nothing g c = no_output_writes_nothing-said g.S.Source.left g.S.Source.faults g.K.Sink.held g.K.Sink.faults (map (λ word. word.now) c.args.words.now) c.args.source.now c.perform.new.source c.args.sink.now c.perform.new.sink c.perform.result c.read_words-asked.result c.read_words-asked.ensures.asked c.read_words-asked.ensures.bad_words c.perform.ensures

pub returns-clause-check_too_large : goal.returns-clause-check_too_large
returns-clause-check_too_large g c = check_too_large-said g.S.Source.left g.S.Source.faults g.K.Sink.held g.K.Sink.faults (map (λ word. word.now) c.args.words.now) c.args.source.now c.perform.new.source c.args.sink.now c.perform.new.sink c.perform.result c.read_words-asked.result c.read_words-asked.ensures.asked c.read_words-asked.ensures.bad_words c.perform.ensures

pub returns-clause-check_too_large_where_due : goal.returns-clause-check_too_large_where_due
returns-clause-check_too_large_where_due g c = check_too_large_where_due-said g.S.Source.left g.S.Source.faults g.K.Sink.held g.K.Sink.faults (map (λ word. word.now) c.args.words.now) c.args.source.now c.perform.new.source c.args.sink.now c.perform.new.sink c.perform.result c.read_words-asked.result c.read_words-asked.ensures.asked c.read_words-asked.ensures.bad_words c.perform.ensures

pub returns-clause-check_too_large_writes_nothing : goal.returns-clause-check_too_large_writes_nothing
returns-clause-check_too_large_writes_nothing g c = check_too_large_writes_nothing-said g.S.Source.left g.S.Source.faults g.K.Sink.held g.K.Sink.faults (map (λ word. word.now) c.args.words.now) c.args.source.now c.perform.new.source c.args.sink.now c.perform.new.sink c.perform.result c.read_words-asked.result c.read_words-asked.ensures.asked c.read_words-asked.ensures.bad_words c.perform.ensures

pub returns-clause-read_fault : goal.returns-clause-read_fault
returns-clause-read_fault g c = read_fault-said g.S.Source.left g.S.Source.faults g.K.Sink.held g.K.Sink.faults (map (λ word. word.now) c.args.words.now) c.args.source.now c.perform.new.source c.args.sink.now c.perform.new.sink c.perform.result c.read_words-asked.result c.read_words-asked.ensures.asked c.read_words-asked.ensures.bad_words c.perform.ensures

pub returns-clause-read_fault_where_due : goal.returns-clause-read_fault_where_due
returns-clause-read_fault_where_due g c = read_fault_where_due-said g.S.Source.left g.S.Source.faults g.K.Sink.held g.K.Sink.faults (map (λ word. word.now) c.args.words.now) c.args.source.now c.perform.new.source c.args.sink.now c.perform.new.sink c.perform.result c.read_words-asked.result c.read_words-asked.ensures.asked c.read_words-asked.ensures.bad_words c.perform.ensures

pub returns-clause-read_fault_where_served : goal.returns-clause-read_fault_where_served
returns-clause-read_fault_where_served g c = read_fault_where_served-said g.S.Source.left g.S.Source.faults g.K.Sink.held g.K.Sink.faults (map (λ word. word.now) c.args.words.now) c.args.source.now c.perform.new.source c.args.sink.now c.perform.new.sink c.perform.result c.read_words-asked.result c.read_words-asked.ensures.asked c.read_words-asked.ensures.bad_words c.perform.ensures

pub returns-clause-read_fault_writes_nothing : goal.returns-clause-read_fault_writes_nothing
returns-clause-read_fault_writes_nothing g c = read_fault_writes_nothing-said g.S.Source.left g.S.Source.faults g.K.Sink.held g.K.Sink.faults (map (λ word. word.now) c.args.words.now) c.args.source.now c.perform.new.source c.args.sink.now c.perform.new.sink c.perform.result c.read_words-asked.result c.read_words-asked.ensures.asked c.read_words-asked.ensures.bad_words c.perform.ensures

pub returns-clause-read_fault_writes_answers : goal.returns-clause-read_fault_writes_answers
returns-clause-read_fault_writes_answers g c = read_fault_writes_answers-said g.S.Source.left g.S.Source.faults g.K.Sink.held g.K.Sink.faults (map (λ word. word.now) c.args.words.now) c.args.source.now c.perform.new.source c.args.sink.now c.perform.new.sink c.perform.result c.read_words-asked.result c.read_words-asked.ensures.asked c.read_words-asked.ensures.bad_words c.perform.ensures

pub returns-clause-read_fault_writes_what_was_told : goal.returns-clause-read_fault_writes_what_was_told
returns-clause-read_fault_writes_what_was_told g c = read_fault_writes_what_was_told-said g.S.Source.left g.S.Source.faults g.K.Sink.held g.K.Sink.faults (map (λ word. word.now) c.args.words.now) c.args.source.now c.perform.new.source c.args.sink.now c.perform.new.sink c.perform.result c.read_words-asked.result c.read_words-asked.ensures.asked c.read_words-asked.ensures.bad_words c.perform.ensures

pub returns-clause-write_fault : goal.returns-clause-write_fault
returns-clause-write_fault g c = write_fault-said g.S.Source.left g.S.Source.faults g.K.Sink.held g.K.Sink.faults (map (λ word. word.now) c.args.words.now) c.args.source.now c.perform.new.source c.args.sink.now c.perform.new.sink c.perform.result c.read_words-asked.result c.read_words-asked.ensures.asked c.read_words-asked.ensures.bad_words c.perform.ensures

pub returns-clause-write_fault_where_due : goal.returns-clause-write_fault_where_due
returns-clause-write_fault_where_due g c = write_fault_where_due-said g.S.Source.left g.S.Source.faults g.K.Sink.held g.K.Sink.faults (map (λ word. word.now) c.args.words.now) c.args.source.now c.perform.new.source c.args.sink.now c.perform.new.sink c.perform.result c.read_words-asked.result c.read_words-asked.ensures.asked c.read_words-asked.ensures.bad_words c.perform.ensures

pub returns-clause-write_fault_writes_a_prefix : goal.returns-clause-write_fault_writes_a_prefix
returns-clause-write_fault_writes_a_prefix g c = write_fault_writes_a_prefix-said g.S.Source.left g.S.Source.faults g.K.Sink.held g.K.Sink.faults (map (λ word. word.now) c.args.words.now) c.args.source.now c.perform.new.source c.args.sink.now c.perform.new.sink c.perform.result c.read_words-asked.result c.read_words-asked.ensures.asked c.read_words-asked.ensures.bad_words c.perform.ensures

pub returns-clause-no_memory_writes_nothing : goal.returns-clause-no_memory_writes_nothing
returns-clause-no_memory_writes_nothing g c = no_memory_writes_nothing-said g.S.Source.left g.S.Source.faults g.K.Sink.held g.K.Sink.faults (map (λ word. word.now) c.args.words.now) c.args.source.now c.perform.new.source c.args.sink.now c.perform.new.sink c.perform.result c.read_words-asked.result c.read_words-asked.ensures.asked c.read_words-asked.ensures.bad_words c.perform.ensures

pub returns-clause-no_memory_writes_first_lines : goal.returns-clause-no_memory_writes_first_lines
returns-clause-no_memory_writes_first_lines g c = no_memory_writes_first_lines-said g.S.Source.left g.S.Source.faults g.K.Sink.held g.K.Sink.faults (map (λ word. word.now) c.args.words.now) c.args.source.now c.perform.new.source c.args.sink.now c.perform.new.sink c.perform.result c.read_words-asked.result c.read_words-asked.ensures.asked c.read_words-asked.ensures.bad_words c.perform.ensures

pub returns-clause-no_memory_writes_whole_answers : goal.returns-clause-no_memory_writes_whole_answers
returns-clause-no_memory_writes_whole_answers g c = no_memory_writes_whole_answers-said g.S.Source.left g.S.Source.faults g.K.Sink.held g.K.Sink.faults (map (λ word. word.now) c.args.words.now) c.args.source.now c.perform.new.source c.args.sink.now c.perform.new.sink c.perform.result c.read_words-asked.result c.read_words-asked.ensures.asked c.read_words-asked.ensures.bad_words c.perform.ensures

pub returns-clause-no_memory_writes_whole_turns : goal.returns-clause-no_memory_writes_whole_turns
returns-clause-no_memory_writes_whole_turns g c = no_memory_writes_whole_turns-said g.S.Source.left g.S.Source.faults g.K.Sink.held g.K.Sink.faults (map (λ word. word.now) c.args.words.now) c.args.source.now c.perform.new.source c.args.sink.now c.perform.new.sink c.perform.result c.read_words-asked.result c.read_words-asked.ensures.asked c.read_words-asked.ensures.bad_words c.perform.ensures

pub returns-clause-bad_wire : goal.returns-clause-bad_wire
returns-clause-bad_wire g c = bad_wire-said g.S.Source.left g.S.Source.faults g.K.Sink.held g.K.Sink.faults (map (λ word. word.now) c.args.words.now) c.args.source.now c.perform.new.source c.args.sink.now c.perform.new.sink c.perform.result c.read_words-asked.result c.read_words-asked.ensures.asked c.read_words-asked.ensures.bad_words c.perform.ensures

pub returns-clause-bad_wire_where_due : goal.returns-clause-bad_wire_where_due
returns-clause-bad_wire_where_due g c = bad_wire_where_due-said g.S.Source.left g.S.Source.faults g.K.Sink.held g.K.Sink.faults (map (λ word. word.now) c.args.words.now) c.args.source.now c.perform.new.source c.args.sink.now c.perform.new.sink c.perform.result c.read_words-asked.result c.read_words-asked.ensures.asked c.read_words-asked.ensures.bad_words c.perform.ensures

pub returns-clause-bad_frame : goal.returns-clause-bad_frame
returns-clause-bad_frame g c = bad_frame-said g.S.Source.left g.S.Source.faults g.K.Sink.held g.K.Sink.faults (map (λ word. word.now) c.args.words.now) c.args.source.now c.perform.new.source c.args.sink.now c.perform.new.sink c.perform.result c.read_words-asked.result c.read_words-asked.ensures.asked c.read_words-asked.ensures.bad_words c.perform.ensures

pub returns-clause-bad_frame_where_due : goal.returns-clause-bad_frame_where_due
returns-clause-bad_frame_where_due g c = bad_frame_where_due-said g.S.Source.left g.S.Source.faults g.K.Sink.held g.K.Sink.faults (map (λ word. word.now) c.args.words.now) c.args.source.now c.perform.new.source c.args.sink.now c.perform.new.sink c.perform.result c.read_words-asked.result c.read_words-asked.ensures.asked c.read_words-asked.ensures.bad_words c.perform.ensures

pub returns-clause-what_was_read : goal.returns-clause-what_was_read
returns-clause-what_was_read g c = what_was_read-said g.S.Source.left g.S.Source.faults g.K.Sink.held g.K.Sink.faults (map (λ word. word.now) c.args.words.now) c.args.source.now c.perform.new.source c.args.sink.now c.perform.new.sink c.perform.result c.read_words-asked.result c.read_words-asked.ensures.asked c.read_words-asked.ensures.bad_words c.perform.ensures

pub returns-clause-what_was_checked : goal.returns-clause-what_was_checked
returns-clause-what_was_checked g c = what_was_checked-said g.S.Source.left g.S.Source.faults g.K.Sink.held g.K.Sink.faults (map (λ word. word.now) c.args.words.now) c.args.source.now c.perform.new.source c.args.sink.now c.perform.new.sink c.perform.result c.read_words-asked.result c.read_words-asked.ensures.asked c.read_words-asked.ensures.bad_words c.perform.ensures

pub returns-clause-drill_reads_nothing : goal.returns-clause-drill_reads_nothing
returns-clause-drill_reads_nothing g c = drill_reads_nothing-said g.S.Source.left g.S.Source.faults g.K.Sink.held g.K.Sink.faults (map (λ word. word.now) c.args.words.now) c.args.source.now c.perform.new.source c.args.sink.now c.perform.new.sink c.perform.result c.read_words-asked.result c.read_words-asked.ensures.asked c.read_words-asked.ensures.bad_words c.perform.ensures

pub returns-clause-complete : goal.returns-clause-complete
returns-clause-complete g c = complete-said g.S.Source.left g.S.Source.faults g.K.Sink.held g.K.Sink.faults (map (λ word. word.now) c.args.words.now) c.args.source.now c.perform.new.source c.args.sink.now c.perform.new.sink c.perform.result c.read_words-asked.result c.read_words-asked.ensures.asked c.read_words-asked.ensures.bad_words c.perform.ensures

pub returns-clause-wire_complete : goal.returns-clause-wire_complete
returns-clause-wire_complete g c = wire_complete-said g.S.Source.left g.S.Source.faults g.K.Sink.held g.K.Sink.faults (map (λ word. word.now) c.args.words.now) c.args.source.now c.perform.new.source c.args.sink.now c.perform.new.sink c.perform.result c.read_words-asked.result c.read_words-asked.ensures.asked c.read_words-asked.ensures.bad_words c.perform.ensures

pub returns-clause-serve_complete : goal.returns-clause-serve_complete
returns-clause-serve_complete g c = serve_complete-said g.S.Source.left g.S.Source.faults g.K.Sink.held g.K.Sink.faults (map (λ word. word.now) c.args.words.now) c.args.source.now c.perform.new.source c.args.sink.now c.perform.new.sink c.perform.result c.read_words-asked.result c.read_words-asked.ensures.asked c.read_words-asked.ensures.bad_words c.perform.ensures

pub returns-clause-check_complete : goal.returns-clause-check_complete
returns-clause-check_complete g c = check_complete-said g.S.Source.left g.S.Source.faults g.K.Sink.held g.K.Sink.faults (map (λ word. word.now) c.args.words.now) c.args.source.now c.perform.new.source c.args.sink.now c.perform.new.sink c.perform.result c.read_words-asked.result c.read_words-asked.ensures.asked c.read_words-asked.ensures.bad_words c.perform.ensures

pub returns-clause-drill_complete : goal.returns-clause-drill_complete
returns-clause-drill_complete g c = drill_complete-said g.S.Source.left g.S.Source.faults g.K.Sink.held g.K.Sink.faults (map (λ word. word.now) c.args.words.now) c.args.source.now c.perform.new.source c.args.sink.now c.perform.new.sink c.perform.result c.read_words-asked.result c.read_words-asked.ensures.asked c.read_words-asked.ensures.bad_words c.perform.ensures
