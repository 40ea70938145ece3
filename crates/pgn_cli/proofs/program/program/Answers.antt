use Rattle.std.proofs.Common.{◌∙◌, ap, map, string_bytes}
use Rattle.pgn_run.specs.Run.{code_of}
use Rattle.pgn_cli.specs.Program.{texts_of}
use Rattle.pgn_cli.proofs.EndLaws.{code-of_words, done-code, if-bad, if-memory, if-read, illegal-code, memory-code, memory-lines, names-fault, names-frame, names-wire, no-output-code, of-if-ok, of-ok-and, read-fault-code, read-lines, refused-code, served-codes, to-if-ok, too-large-code, write-fault-code, written-prefix, written-whole}
use Rattle.pgn_cli.proofs.program.program.Goals as goal

pub returns-clause-ends : goal.returns-clause-ends
returns-clause-ends g c = record {
  status = c.status_of-status.result;
  is_code = c.code.ensures;
  line = written-prefix _ _ c.fault_line.result _ c.fault_line.ensures.bytes;
  whole = λ none. written-whole _ _ _ _ c.fault_line.result _ c.fault_line.ensures.bytes c.fault_line.ensures.cause none;
}

pub returns-clause-done : goal.returns-clause-done
returns-clause-done g c zero = of-ok-and c.args.words (λ words. map string_bytes words.items) _ (c.status_of-status.ensures.done (done-code c.status_of-status.result _ c.code.ensures zero))

pub returns-clause-bad_scenario : goal.returns-clause-bad_scenario
returns-clause-bad_scenario g c = names-fault (g.S.Source.left c.args.source.now) (g.E.Sink.held c.args.errors.now) (g.E.Sink.held c.fault_line.new.sink) c.status_of-status.result _ c.code.ensures (written-prefix _ _ c.fault_line.result _ c.fault_line.ensures.bytes) c.status_of-status.ensures.bad_scenario

pub returns-clause-bad_wire : goal.returns-clause-bad_wire
returns-clause-bad_wire g c ten =
    let said = names-wire _ (g.S.Source.left c.args.source.now) (g.K.Sink.held c.args.sink.now) (g.K.Sink.held c.status_of-status.new.sink) (g.E.Sink.held c.args.errors.now) (g.E.Sink.held c.fault_line.new.sink) c.status_of-status.result _ c.code.ensures (written-prefix _ _ c.fault_line.result _ c.fault_line.ensures.bytes) c.status_of-status.ensures.bad_wire ten in
    (of-ok-and c.args.words (λ words. map string_bytes words.items) _ said.0, said.1)

pub returns-clause-bad_frame : goal.returns-clause-bad_frame
returns-clause-bad_frame g c =
    names-frame c.args.words (λ words. map string_bytes words.items) (g.S.Source.left c.args.source.now) (g.K.Sink.held c.args.sink.now) (g.K.Sink.held c.status_of-status.new.sink) (g.E.Sink.held c.args.errors.now) (g.E.Sink.held c.fault_line.new.sink) c.status_of-status.result _ c.code.ensures (written-prefix _ _ c.fault_line.result _ c.fault_line.ensures.bytes)
    (λ fault e. of-ok-and c.args.words (λ words. map string_bytes words.items) _ (c.status_of-status.ensures.bad_frame fault e))

pub returns-clause-illegal : goal.returns-clause-illegal
returns-clause-illegal g c eight = let found = illegal-code c.status_of-status.result _ c.code.ensures eight in of-ok-and c.args.words (λ words. map string_bytes words.items) _ (c.status_of-status.ensures.illegal found.0 found.1)

pub returns-clause-no_output : goal.returns-clause-no_output
returns-clause-no_output g c nine = let said = c.status_of-status.ensures.no_output (no-output-code c.status_of-status.result _ c.code.ensures nine) in (of-ok-and c.args.words (λ words. map string_bytes words.items) _ said.0, said.1)

pub returns-clause-check_too_large : goal.returns-clause-check_too_large
returns-clause-check_too_large g c eleven = let said = c.status_of-status.ensures.check_too_large (too-large-code c.status_of-status.result _ c.code.ensures eleven) in (of-ok-and c.args.words (λ words. map string_bytes words.items) _ said.0, said.1)

pub returns-clause-read_fault : goal.returns-clause-read_fault
returns-clause-read_fault g c four = c.status_of-status.ensures.read_fault (read-fault-code c.status_of-status.result _ c.code.ensures four)

pub returns-clause-read_fault_where_due : goal.returns-clause-read_fault_where_due
returns-clause-read_fault_where_due g c other rose = c.code.ensures ∙ ap code_of (c.status_of-status.ensures.read_fault_where_due (to-if-ok c.args.words (λ words. map string_bytes words.items) _ other) rose)

pub returns-clause-read_fault_where_served : goal.returns-clause-read_fault_where_served
returns-clause-read_fault_where_served g c = served-codes c.args.words _ _ c.status_of-status.result _ c.code.ensures (of-if-ok c.args.words (λ words. map string_bytes words.items) _ c.status_of-status.ensures.read_fault_where_served)

pub returns-clause-write_fault : goal.returns-clause-write_fault
returns-clause-write_fault g c five = c.status_of-status.ensures.write_fault (write-fault-code c.status_of-status.result _ c.code.ensures five)

pub returns-clause-write_fault_where_due : goal.returns-clause-write_fault_where_due
returns-clause-write_fault_where_due g c rose = c.code.ensures ∙ ap code_of (c.status_of-status.ensures.write_fault_where_due rose)

pub returns-clause-write_fault_writes_a_prefix : goal.returns-clause-write_fault_writes_a_prefix
returns-clause-write_fault_writes_a_prefix g c five = of-ok-and c.args.words (λ words. map string_bytes words.items) _ (c.status_of-status.ensures.write_fault_writes_a_prefix (write-fault-code c.status_of-status.result _ c.code.ensures five))

pub returns-clause-refused_writes_nothing : goal.returns-clause-refused_writes_nothing
returns-clause-refused_writes_nothing g c some = c.status_of-status.ensures.refused_writes_nothing (refused-code c.status_of-status.result _ c.code.ensures some)

pub returns-clause-read_fault_writes_nothing : goal.returns-clause-read_fault_writes_nothing
returns-clause-read_fault_writes_nothing g c other served four =
    c.status_of-status.ensures.read_fault_writes_nothing (to-if-ok c.args.words (λ words. map string_bytes words.items) _ other) (to-if-ok c.args.words (λ words. map string_bytes words.items) _ served) (read-fault-code c.status_of-status.result _ c.code.ensures four)

pub returns-clause-read_fault_writes_answers : goal.returns-clause-read_fault_writes_answers
returns-clause-read_fault_writes_answers g c = read-lines c.args.words _ _ c.status_of-status.result _ c.code.ensures (of-if-ok c.args.words (λ words. map string_bytes words.items) _ c.status_of-status.ensures.read_fault_writes_answers)

pub returns-clause-read_fault_writes_what_was_told : goal.returns-clause-read_fault_writes_what_was_told
returns-clause-read_fault_writes_what_was_told g c = if-read c.args.words _ c.status_of-status.result _ c.code.ensures (of-if-ok c.args.words (λ words. map string_bytes words.items) _ c.status_of-status.ensures.read_fault_writes_what_was_told)

pub returns-clause-no_memory_writes_nothing : goal.returns-clause-no_memory_writes_nothing
returns-clause-no_memory_writes_nothing g c once other served six =
    c.status_of-status.ensures.no_memory_writes_nothing (to-if-ok c.args.words (λ words. map string_bytes words.items) _ once) (to-if-ok c.args.words (λ words. map string_bytes words.items) _ other) (to-if-ok c.args.words (λ words. map string_bytes words.items) _ served) (memory-code c.status_of-status.result _ c.code.ensures six)

pub returns-clause-no_memory_writes_first_lines : goal.returns-clause-no_memory_writes_first_lines
returns-clause-no_memory_writes_first_lines g c = memory-lines c.args.words _ _ c.status_of-status.result _ c.code.ensures (of-if-ok c.args.words (λ words. map string_bytes words.items) _ c.status_of-status.ensures.no_memory_writes_first_lines)

pub returns-clause-no_memory_writes_whole_answers : goal.returns-clause-no_memory_writes_whole_answers
returns-clause-no_memory_writes_whole_answers g c = memory-lines c.args.words _ _ c.status_of-status.result _ c.code.ensures (of-if-ok c.args.words (λ words. map string_bytes words.items) _ c.status_of-status.ensures.no_memory_writes_whole_answers)

pub returns-clause-no_memory_writes_whole_turns : goal.returns-clause-no_memory_writes_whole_turns
returns-clause-no_memory_writes_whole_turns g c = if-memory c.args.words _ c.status_of-status.result _ c.code.ensures (of-if-ok c.args.words (λ words. map string_bytes words.items) _ c.status_of-status.ensures.no_memory_writes_whole_turns)

pub returns-clause-no_memory : goal.returns-clause-no_memory
returns-clause-no_memory g c e = c.code.ensures ∙ ap code_of (c.status_of-status.ensures.no_memory (ap (λ r. texts_of r (λ words. map string_bytes words.items)) e))

pub returns-clause-not_text : goal.returns-clause-not_text
returns-clause-not_text g c e = c.code.ensures ∙ ap code_of (c.status_of-status.ensures.not_text (ap (λ r. texts_of r (λ words. map string_bytes words.items)) e))

pub returns-clause-right_words : goal.returns-clause-right_words
returns-clause-right_words g c = if-bad c.args.words _ c.status_of-status.result _ c.code.ensures (of-if-ok c.args.words (λ words. map string_bytes words.items) _ c.status_of-status.ensures.right_words)

pub returns-clause-other_words : goal.returns-clause-other_words
returns-clause-other_words g c = code-of_words c.args.words _ c.status_of-status.result _ c.code.ensures (of-if-ok c.args.words (λ words. map string_bytes words.items) _ c.status_of-status.ensures.other_words)
