use Rattle.std.proofs.Common.{take, drop, [], ◌∷◌, refl, rules, arith, ◌≡◌, ◌≢◌, List, None, fold, sym, ap, subst}
use Rattle.std.specs.Prelude.{All, flat_map}
use Rattle.std.specs.Str.{byte}
use Rattle.std.specs.Fmt.{digits}
use Rattle.std.proofs.lemmas.List.Elements.{All-from_recursion}
use Rattle.pgn_model.specs.declared.trace.Trace.{Trace}
use Rattle.pgn_base.specs.Notes.{IsNote}
use Rattle.pgn_journal.specs.Journal.{IsFinished}
use Rattle.pgn_model.specs.Along.{Along}
use Rattle.pgn_model.specs.Walk.{Terms, start, after_item, State, Queueing, Replied, queueing_or_settled, Allowed}
use Rattle.pgn_model.specs.Trace.{IsLawful, IsFreshAt, state_after, IsEnd, IsUpToDate}
use Rattle.pgn_model.specs.Legal.{IsFullThere, ends, End, WasRaised, StoodAt}
use Rattle.pgn_examples.specs.FullQueue.{many, long_note, last_one, two_pages, full_sender, full_scenario, full_run_journal, full_listener_trace, full_sender_trace, bare_one, larger_section, larger_run_journal, larger_trace}
use Rattle.pgn_journal.proofs.PlainNotes.{plain-note}
use Rattle.pgn_examples.proofs.RunSteps.{lawful_in_parts, one_committed, one_aborted, all_found, all_stood, all_shown, Along-append}
use Rattle.pgn_examples.proofs.FullSteps.{long_valid, full_at_5, full_at_6, letters_differ, three_firsts, larger_at_3}
use Rattle.std.proofs.lemmas.List.Kept.{AllPairs-cons}
use Rattle.pgn_base.specs.declared.note.Note.{Note}
use Rattle.pgn_answers.specs.declared.block_state.BlockState.TheVariants.{Idle}
use Rattle.pgn_model.specs.declared.item.Item.{Item}
use Rattle.pgn_journal.specs.declared.tx.Fate.TheVariants.{Aborted}
use Rattle.pgn_examples.specs.Scripts.{finished}
use Rattle.pgn_base.specs.declared.answers.Tag.TheVariants as tag
use Rattle.pgn_examples.proofs.LawfulSteps.{along-computed, trace-computed, fresh-computed}
use Rattle.pgn_examples.proofs.full_queue.runs_with_full_queue.Goals as goal

abbrev sender_terms : Terms
sender_terms = record { section = full_sender; settings = two_pages }

x_valid : IsNote (long_note (byte "x"))
x_valid = long_valid (byte "x") refl

last_valid : IsNote last_one
last_valid = plain-note last_one refl refl (omega arith) (omega arith) (omega arith)

sender_lawful : IsLawful sender_terms full_run_journal full_sender_trace.items
sender_lawful =
    let first : IsLawful sender_terms full_run_journal (take 9 full_sender_trace.items) =
    along-computed sender_terms full_run_journal (start full_sender) (take 9 full_sender_trace.items) refl in
    let second : IsLawful sender_terms full_run_journal (take 13 full_sender_trace.items) =
    lawful_in_parts sender_terms full_run_journal (take 9 full_sender_trace.items) (take 4 (drop 9 full_sender_trace.items)) first (search rules) in
    lawful_in_parts sender_terms full_run_journal (take 13 full_sender_trace.items) (drop 13 full_sender_trace.items) second
    (along-computed sender_terms full_run_journal (state_after sender_terms (take 13 full_sender_trace.items)) (drop 13 full_sender_trace.items) refl)

pub returns-clause-full : goal.returns-clause-full
returns-clause-full c = record {
  lawful = (trace-computed refl refl refl refl refl refl, (record { session = refl; database = refl; lawful = sender_lawful; ended = record { answered = refl; done = refl; mark = refl } }, tt));
  fresh = (fresh-computed refl, (fresh-computed refl, tt));
  own = (refl, (refl, tt));
  finished = All-from_recursion IsFinished full_run_journal
      (one_committed 2 1 (long_note (byte "x")) x_valid, (one_committed 2 1 (long_note (byte "x")) x_valid, (one_aborted 2 1 (long_note (byte "x")) x_valid, (one_aborted 2 1 (long_note (byte "x")) x_valid, (one_committed 2 1 last_one last_valid, tt)))));
  named = search rules;
  full = All-from_recursion (λ (trace : Trace). All (IsFullThere two_pages full_run_journal) trace.items) (full_listener_trace ∷ full_sender_trace ∷ []) (
    search rules,
    (
      All-from_recursion (IsFullThere two_pages full_run_journal) full_sender_trace.items
          (tt, (tt, (tt, (tt, (tt, (tt, (tt, (tt, (tt, (full_at_5, (tt, (tt, (full_at_6, (tt, (tt, (tt, (tt, (tt, (tt, (tt, (tt, tt))))))))))))))))))))),
      tt,
    ),
  );
  found = all_found (ends two_pages full_scenario.sections (full_listener_trace ∷ full_sender_trace ∷ [])) refl;
  holders = all_stood (ends two_pages full_scenario.sections (full_listener_trace ∷ full_sender_trace ∷ [])) refl;
  shown = all_shown 8 (full_listener_trace ∷ full_sender_trace ∷ []) refl;
  read_all = search rules;
}

pub returns-clause-full_shown : goal.returns-clause-full_shown
unfolding digits many
returns-clause-full_shown c = refl

abbrev terms : Terms
terms = record { section = larger_section; settings = two_pages }

abbrev items : List Item
items = larger_trace.items

abbrev three : List Note
three = long_note (byte "x") ∷ long_note (byte "y") ∷ long_note (byte "z") ∷ []

-- where COMMIT begins, but for its notifications
abbrev committed_state : State
committed_state = record (state_after terms (take 8 items)) { rest = drop 5 larger_section.lines; block = Idle; changes = [] }

-- and with them
abbrev at_commit : State
at_commit = record committed_state { owed = Queueing [] three (Replied tag.Commit None) }

commit-state : state_after terms (take 9 items) ≡ at_commit
commit-state = ap (λ (notes : List Note). queueing_or_settled committed_state [] notes (Replied tag.Commit None)) three_firsts

abbrev last_state : State
last_state = fold after_item at_commit (drop 9 items)

last-state : state_after terms items ≡ last_state
last-state = ap (λ (s : State). fold after_item s (drop 9 items)) commit-state

trace_lawful : IsLawful terms larger_run_journal items
trace_lawful =
    lawful_in_parts terms larger_run_journal (take 9 items) (drop 9 items) (along-computed terms larger_run_journal (start larger_section) (take 9 items) refl)
    (subst (λ (s : State). Along after_item (Allowed terms larger_run_journal) s (drop 9 items)) (sym commit-state) (search rules))

trace_fresh : Along after_item (IsFreshAt terms larger_run_journal) (start larger_section) items
trace_fresh =
    Along-append after_item (IsFreshAt terms larger_run_journal) (start larger_section) (take 9 items) (drop 9 items) (search rules)
    (subst (λ (s : State). Along after_item (IsFreshAt terms larger_run_journal) s (drop 9 items)) (sym commit-state)
    (tt, (tt, (λ idle. record { up_to_date = tt; read_first = λ reads. tt }, (tt, (tt, tt))))))

-- the end of a trace in this state
abbrev end_at : State → List End
end_at s = (record { session = 1; state = s }) ∷ []

bare_valid : IsNote bare_one
bare_valid = plain-note bare_one refl refl (omega arith) (omega arith) (omega arith)

three_finished : IsFinished (finished 1 1 three 2 Aborted)
three_finished = record {
  some = λ e. cc;
  valid = All-from_recursion IsNote three (long_valid (byte "x") refl, (long_valid (byte "y") refl, (long_valid (byte "z") refl, tt)));
  different =
      AllPairs-cons (λ (a b : Note). a ≢ b) (long_note (byte "x")) (long_note (byte "y") ∷ long_note (byte "z") ∷ [])
      (All-from_recursion (λ (b : Note). long_note (byte "x") ≢ b) (long_note (byte "y") ∷ long_note (byte "z") ∷ [])
      (letters_differ (byte "x") (byte "y") (λ e. absurd (omega (arith, e))), (letters_differ (byte "x") (byte "z") (λ e. absurd (omega (arith, e))), tt)))
      (AllPairs-cons (λ (a b : Note). a ≢ b) (long_note (byte "y")) (long_note (byte "z") ∷ [])
      (All-from_recursion (λ (b : Note). long_note (byte "y") ≢ b) (long_note (byte "z") ∷ []) (letters_differ (byte "y") (byte "z") (λ e. absurd (omega (arith, e))), tt))
      (λ i j d before within. absurd (omega (arith, before, within))));
  queueing = omega arith;
}

pub returns-clause-larger_than_queue : goal.returns-clause-larger_than_queue
returns-clause-larger_than_queue c = record {
  lawful = (record { session = refl; database = refl; lawful = trace_lawful; ended = subst (λ (s : State). IsEnd s None) (sym last-state) (record { answered = refl; done = refl; mark = refl }) }, tt);
  fresh = (record { between_lines = trace_fresh; at_end = subst (λ (s : State). IsUpToDate terms larger_run_journal s) (sym last-state) tt }, tt);
  own = search rules;
  finished = All-from_recursion IsFinished larger_run_journal (three_finished, (one_committed 1 1 bare_one bare_valid, tt));
  named = search rules;
  full = All-from_recursion (λ (trace : Trace). All (IsFullThere two_pages larger_run_journal) trace.items) (larger_trace ∷ [])
      (All-from_recursion (IsFullThere two_pages larger_run_journal) items (tt, (tt, (tt, (tt, (tt, (tt, (tt, (tt, (tt, (larger_at_3, (tt, (tt, (tt, (tt, tt)))))))))))))), tt);
  found = subst (λ (s : State). All (WasRaised (end_at s)) (flat_map (λ (end : End). end.state.found) (end_at s))) (sym last-state) (all_found (end_at last_state) refl);
  holders = subst (λ (s : State). All (StoodAt (end_at s)) (flat_map (λ (end : End). end.state.named) (end_at s))) (sym last-state) (all_stood (end_at last_state) refl);
  shown = all_shown 5 (larger_trace ∷ []) refl;
  read_all = search rules;
}

pub returns-clause-larger_than_queue_shown : goal.returns-clause-larger_than_queue_shown
unfolding digits many
returns-clause-larger_than_queue_shown c = refl
