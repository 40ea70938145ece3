use Rattle.std.proofs.Common.{◌∷◌, ◌++◌, [], List, length, sym, ap, ◌∙◌, arith, append_assoc, length-append}
use Rattle.pgn_base.specs.declared.note.Note.{Note}
use Rattle.pgn_block.proofs.pending.in_list.Goals as goal

pub loop-note-preserved : goal.loop-note-preserved
loop-note-preserved c =
    let was = c.loop-note.notes.items in
    let rest = c.next.new.self in
    let pushed = rw c.unwrap.ensures at c.push.ensures.items in
    record {
      all = ap (λ (notes : List Note). notes ++ rest) pushed ∙ append_assoc was (c.in-Some.note ∷ []) rest ∙ ap (λ (notes : List Note). was ++ notes) (sym c.in-Some.ensures.steps) ∙ c.loop-note.invariant.all;
      fits = omega (arith, c.loop-note.invariant.fits, c.push.ensures.capacity);
    }

pub unwrap-requires : goal.unwrap-requires
unwrap-requires c =
    let notes = c.loop-note.notes in
    c.push.ensures.succeeds
    (omega (arith, c.loop-note.invariant.fits, ap length c.loop-note.invariant.all, length-append notes.items c.loop-note.note-iterator, ap length c.in-Some.ensures.steps, notes.ok.0))
