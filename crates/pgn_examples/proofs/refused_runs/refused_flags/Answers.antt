use Rattle.std.proofs.Common.{◌≤◌, [], refl, take, drop, arith, ◌≡◌, false, true, ◌∷◌}
use Rattle.pgn_model.specs.declared.item.Item.TheVariants.{Found, TimedOut}
use Rattle.pgn_examples.specs.Flags.{ten_looks, held_scenario, held_listener_trace, held_sender_trace}
use Rattle.pgn_examples.specs.RefusedRuns.{judged, known_flag_section, known_flag_trace, with_item}
use Rattle.pgn_examples.proofs.RefusedSteps.{allowed_at, raised-test}
use Rattle.pgn_model.specs.Walk.{default_settings}
use Rattle.pgn_model.specs.Legal.{ends}
use Rattle.pgn_examples.proofs.LawfulSteps.{trace-computed}
use Rattle.pgn_examples.proofs.refused_runs.refused_flags.Goals as goal

pub returns-clause-found_below : goal.returns-clause-found_below
returns-clause-found_below c = λ h.
    let found = allowed_at (judged known_flag_section ten_looks) [] (take 3 known_flag_trace.items) (Found 2) (drop 4 known_flag_trace.items) h.lawful in
    let below : 3 ≤ 2 = found.0 0 (0, 0) (omega arith) refl in
    absurd (omega (arith, below))

pub returns-clause-known_times_out : goal.returns-clause-known_times_out
returns-clause-known_times_out c = λ h.
    let out = allowed_at (judged known_flag_section ten_looks) [] (take 3 known_flag_trace.items) (TimedOut 10) (drop 4 known_flag_trace.items) h.lawful in
    out.awaited.0 0 (0, 0) (omega arith) refl

pub returns-clause-found_not_raised : goal.returns-clause-found_not_raised
returns-clause-found_not_raised c = λ h.
    let raised : false ≡ true =
    raised-test (ends default_settings held_scenario.sections (with_item held_listener_trace 8 (Found 3) ∷ held_sender_trace ∷ [])) (1, 3) (h.found 0 (0, 0) (omega arith)) in
    absurd (cc)

pub returns-clause-known_flag : goal.returns-clause-known_flag
returns-clause-known_flag c = trace-computed refl refl refl refl refl refl

pub returns-clause-found_is_lawful : goal.returns-clause-found_is_lawful
returns-clause-found_is_lawful c = trace-computed refl refl refl refl refl refl
