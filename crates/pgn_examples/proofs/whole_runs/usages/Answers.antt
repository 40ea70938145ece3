use Rattle.std.proofs.Common.{◌≡◌, ◌+◌, ap, refl, arith, false, true, Some, [], ◌∷◌}
use Rattle.pgn_base.specs.declared.format.Format.TheVariants.{One}
use Rattle.pgn_journal.specs.Packing.{page_of, place}
use Rattle.pgn_examples.specs.FullQueue.{full_run_journal}
use Rattle.pgn_journal.proofs.PackingLemmas.{first_place}
use Rattle.pgn_examples.proofs.FullSteps.{full_5, full_8}
use Rattle.pgn_model.specs.declared.item.Item.TheVariants.{Used}
use Rattle.pgn_model.specs.Walk.{default_settings}
use Rattle.pgn_model.specs.Legal.{ends}
use Rattle.pgn_examples.specs.RefusedRuns.{with_item, usage_trace}
use Rattle.pgn_examples.specs.WholeRuns.{none_in_use, usage_scenario}
use Rattle.pgn_examples.proofs.RefusedSteps.{stood-test}
use Rattle.pgn_examples.proofs.whole_runs.usages.Goals as goal

first : page_of (place One full_run_journal 3) ≡ 0
first = ap page_of (first_place One full_run_journal)

fifth : page_of (place One full_run_journal 5) ≡ 1
fifth = ap page_of full_5

last : page_of (place One full_run_journal 8) ≡ 2
last = ap page_of full_8

pub returns-clause-two : goal.returns-clause-two
returns-clause-two c = record {
  limited = refl;
  in_journal = omega arith;
  floor_below = omega arith;
  in_use = omega (arith, first, last);
  holder = (λ e. absurd (cc), λ e. absurd (omega (arith, e)));
}

pub returns-clause-one : goal.returns-clause-one
returns-clause-one c = record {
  limited = refl;
  in_journal = omega arith;
  floor_below = omega arith;
  in_use = omega (arith, first, fifth);
  holder = (λ e. absurd (cc), λ e. absurd (omega (arith, e)));
}

pub returns-clause-fewer : goal.returns-clause-fewer
returns-clause-fewer c = λ h.
    let pages : page_of (place One full_run_journal 3) + 1 ≡ page_of (place One full_run_journal 8) = h.in_use in
    absurd (omega (arith, first, last, pages))

pub returns-clause-usage_with_a_stranger : goal.returns-clause-usage_with_a_stranger
returns-clause-usage_with_a_stranger c = λ h.
    let stood : false ≡ true = stood-test (ends default_settings usage_scenario.sections (with_item usage_trace 4 (Used (none_in_use 4 3 (Some 2))) ∷ [])) (2, 3) (h.holders 0 (0, 0) (omega arith)) in
    absurd (cc)
