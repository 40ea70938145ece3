use Rattle.std.proofs.Common.{ℕ, get_or, ◌∙◌, subst, below_more, arith}
use Rattle.std.proofs.lemmas.List.{get_or_default}
use Rattle.pgn_base.specs.declared.note.Note.{Note}
use Rattle.pgn_base.specs.Notes.{IsNote}
use Rattle.pgn_base.proofs.note.are_notes.Goals as goal

pub loop-note-preserved : goal.loop-note-preserved
loop-note-preserved c =
    λ k d. below_more (λ (n : ℕ). IsNote (get_or c.args.notes.now n d)) c.loop-note.note-index (λ j. c.loop-note.invariant j d)
    (subst (λ (note : Note). IsNote note) (c.note-item.is ∙ get_or_default c.args.notes.now c.loop-note.note-index c.note-item.result d c.loop-note-test.true) c.is_note.ensures) k

pub returns : goal.returns
returns c = λ k d lt. c.loop-note.invariant k d (omega arith)
