use Rattle.std.proofs.Common.{[], ◌∷◌, arith}
use Rattle.std.proofs.lemmas.List.Elements.{All-head, All-tail}
use Rattle.pgn_base.specs.declared.note.Note.{Note}
use Rattle.pgn_base.specs.Notes.{IsNote}
use Rattle.pgn_examples.specs.Walks.{x_note}
use Rattle.pgn_examples.proofs.walks.unfinished_transactions.Goals as goal

pub returns-clause-more_queued : goal.returns-clause-more_queued
returns-clause-more_queued c = λ h. let e = h.queueing in absurd (omega (arith, e))

pub returns-clause-no_channel : goal.returns-clause-no_channel
returns-clause-no_channel c = λ h. let e = (All-head IsNote (record { channel = []; payload = [] }) [] h.valid).name.some in absurd (omega (arith, e))

pub returns-clause-no_channel_not_queued : goal.returns-clause-no_channel_not_queued
returns-clause-no_channel_not_queued c = λ h.
    let bare : Note = record { channel = []; payload = [] } in
    let e = (All-head IsNote bare [] (All-tail IsNote x_note (bare ∷ []) h.valid)).name.some in
    absurd (omega (arith, e))
