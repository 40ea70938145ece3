use Rattle.std.proofs.Common.{◌≡◌, false, true, Some, [], ◌∷◌, arith, ◌≤◌, refl}
use Rattle.pgn_model.specs.Legal.{ends}
use Rattle.pgn_examples.specs.FullQueue.{two_pages, full_scenario, full_listener_trace, full_sender_trace}
use Rattle.pgn_examples.specs.RefusedRuns.{with_item, full_item}
use Rattle.pgn_examples.proofs.FullSteps.{full_at_5_from_4}
use Rattle.pgn_examples.proofs.RefusedSteps.{stood-test}
use Rattle.pgn_model.specs.declared.item.Item.TheVariants.{Leave}
use Rattle.pgn_examples.proofs.refused_runs.refused_queues.Goals as goal

pub returns-clause-holder_never_stood_there : goal.returns-clause-holder_never_stood_there
returns-clause-holder_never_stood_there c = λ h.
    let stood : false ≡ true =
    stood-test (ends two_pages full_scenario.sections (full_listener_trace ∷ with_item full_sender_trace 9 (full_item 4 (Some 1)) ∷ [])) (1, 4) (h.holders 0 (0, 0) (omega arith)) in
    absurd (cc)

pub returns-clause-as_full : goal.returns-clause-as_full
returns-clause-as_full c = full_at_5_from_4

pub returns-clause-page_left : goal.returns-clause-page_left
returns-clause-page_left c = λ h.
    let full = h.full 1 full_listener_trace (omega arith) 9 Leave (omega arith) in
    let pages : 3 ≤ 2 = full.no_page in
    absurd (omega (arith, pages))

pub returns-clause-full_without_holder : goal.returns-clause-full_without_holder
returns-clause-full_without_holder c = λ h.
    let full = h.full 1 full_listener_trace (omega arith) 9 Leave (omega arith) in
    let same : 3 ≡ 5 = full.holder.0 refl in
    absurd (omega (arith, same))
