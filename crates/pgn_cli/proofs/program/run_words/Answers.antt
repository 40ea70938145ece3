use Rattle.std.proofs.Common.{◌≡◌, List, ℕ, Ok, map, string_bytes, ap, subst, inl, inr}
use Rattle.pgn_cli.specs.Program.{Comes}
use Rattle.pgn_cli.proofs.EndLaws.{comes-to_no_memory, faulty-either, lent-words, refused-keeps, says-illegal}
use Rattle.pgn_cli.proofs.program.run_words.Goals as goal

pub returns-in-Ok : goal.returns-in-Ok
returns-in-Ok g c =
    let same : map (λ text. text.now) c.as_slice.result.now ≡ map string_bytes c.args.words.now = lent-words _ _ _ _ c.as_slice.ensures.value c.in-Ok.ensures in
    let said = c.run_notify-status.ensures in
    subst (λ (ws : List (List ℕ)). Comes (Ok ws) (g.S.Source.left c.args.source.now) (g.S.Source.faults c.args.source.now) (g.S.Source.faults c.run_notify-status.new.source) (g.K.Sink.held c.args.sink.now) (g.K.Sink.held c.run_notify-status.new.sink) (g.K.Sink.faults c.args.sink.now) (g.K.Sink.faults c.run_notify-status.new.sink) c.run_notify-status.result) same (record {
      done = said.done;
      bad_scenario = λ fault e. faulty-either (g.S.Source.left c.args.source.now) fault _ _ (said.bad_scenario fault e);
      bad_wire = said.bad_wire;
      bad_frame = said.bad_frame;
      illegal = λ line e. let found = said.illegal line e in (found.0, says-illegal _ (g.S.Source.left c.args.source.now) _ _ line found.1);
      no_output = said.no_output;
      check_too_large = said.check_too_large;
      read_fault = λ e. (said.read_fault e).1;
      read_fault_where_due = said.read_fault_where_due;
      read_fault_where_served = said.read_fault_where_served;
      write_fault = said.write_fault;
      write_fault_where_due = said.write_fault_where_due;
      write_fault_writes_a_prefix = said.write_fault_writes_a_prefix;
      refused_writes_nothing = refused-keeps (g.K.Sink.held c.args.sink.now) (g.K.Sink.held c.run_notify-status.new.sink) c.run_notify-status.result
          (λ e. ap g.K.Sink.held (said.bad_words_write_nothing (said.bad_words e))) said.bad_scenario_writes_nothing said.no_output_writes_nothing said.check_too_large_writes_nothing;
      read_fault_writes_nothing = said.read_fault_writes_nothing;
      read_fault_writes_answers = said.read_fault_writes_answers;
      read_fault_writes_what_was_told = λ e ask. said.read_fault_writes_what_was_told ask e;
      no_memory_writes_nothing = said.no_memory_writes_nothing;
      no_memory_writes_first_lines = said.no_memory_writes_first_lines;
      no_memory_writes_whole_answers = said.no_memory_writes_whole_answers;
      no_memory_writes_whole_turns = λ e ask. said.no_memory_writes_whole_turns ask e;
      no_memory = λ e. absurd (cc);
      not_text = λ e. absurd (cc);
      right_words = said.bad_words;
      other_words = λ other memory. elim (said.bad_words_where_due other) [ inl bad ↦ bad | inr short ↦ absurd (memory short) ];
    })

pub returns-in-Err : goal.returns-in-Err
returns-in-Err g c = comes-to_no_memory (Ok (map string_bytes c.args.words.now)) _ _ _ _ (λ e. absurd (cc))
