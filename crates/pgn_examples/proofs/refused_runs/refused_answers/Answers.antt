use Rattle.std.proofs.Common.{refl, ◌≡◌, false, true, [], arith}
use Rattle.pgn_journal.specs.declared.tx.Tx.{Tx}
use Rattle.pgn_journal.specs.declared.tx.Fate.TheVariants.{Committed}
use Rattle.pgn_examples.specs.Scripts.{finished}
use Rattle.pgn_examples.proofs.LawfulSteps.{trace-computed}
use Rattle.pgn_examples.proofs.refused_runs.refused_answers.Goals as goal

-- the value of an index past the journal's end, which does not matter
abbrev past_end : Tx
past_end = finished 1 1 [] 0 Committed

pub returns-clause-transaction_of_no_session : goal.returns-clause-transaction_of_no_session
returns-clause-transaction_of_no_session c = λ h.
    let named : false ≡ true = h.named 0 past_end (omega arith) in
    absurd (cc)

pub returns-clause-not_all_queued : goal.returns-clause-not_all_queued
returns-clause-not_all_queued c = λ h.
    let tx = h.finished 0 past_end (omega arith) in
    let queued : 0 ≡ 1 = tx.queueing in
    absurd (omega (arith, queued))

pub returns-clause-channels_in_order : goal.returns-clause-channels_in_order
returns-clause-channels_in_order c = trace-computed refl refl refl refl refl refl
