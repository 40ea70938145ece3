use Rattle.std.proofs.Common.{◌≡◌, ap, arith, ◌⊎◌, inl, inr, refl}
use Rattle.pgn_base.specs.declared.format.Format.TheVariants.{One}
use Rattle.pgn_journal.specs.Packing.{page_of, place, put, put_bytes, after_bytes, after_rest}
use Rattle.pgn_examples.specs.FullQueue.{full_run_journal}
use Rattle.pgn_examples.proofs.FullSteps.{full_5, full_6}
use Rattle.pgn_journal.specs.Bytes.{entry_length}
use Rattle.pgn_examples.proofs.whole_runs.full_queues_shown.Goals as goal

pub returns-clause-floor_page : goal.returns-clause-floor_page
returns-clause-floor_page c = λ h.
    let shown : 0 ≡ page_of (place One full_run_journal 5) = h.floor in
    let page : page_of (place One full_run_journal 5) ≡ 1 = ap page_of full_5 in
    absurd (omega (arith, shown, page))

pub returns-clause-head_page : goal.returns-clause-head_page
returns-clause-head_page c = λ h.
    let shown : 3 ≡ page_of (place One full_run_journal 6) = h.head in
    let page : page_of (place One full_run_journal 6) ≡ 2 = ap page_of full_6 in
    absurd (omega (arith, shown, page))

neither : {A B : Type 0} → (A → ⊥) → (B → ⊥) → A ⊎ B → ⊥
neither f g (inl a) = f a
neither f g (inr b) = g b

pub returns-clause-cut_at_a_page : goal.returns-clause-cut_at_a_page
unfolding put put_bytes after_bytes after_rest entry_length
returns-clause-cut_at_a_page c = record { aborted = refl; some = refl; not_all = omega arith; stopped = inl refl }

pub returns-clause-cut_though_it_fits : goal.returns-clause-cut_though_it_fits
unfolding entry_length
returns-clause-cut_though_it_fits c = λ h. neither (λ e. absurd (cc)) (λ e. absurd (cc)) h.stopped

pub returns-clause-cut_though_next_fits : goal.returns-clause-cut_though_next_fits
unfolding put put_bytes after_bytes after_rest entry_length
returns-clause-cut_though_next_fits c = λ h. neither (λ e. absurd (cc)) (λ e. absurd (cc)) h.stopped
