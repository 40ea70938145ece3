use Rattle.std.proofs.Common.{◌≡◌, ◌+◌, ◌∷◌, true, not, drop, ap, sym, ◌∙◌}
use Rattle.std.proofs.lemmas.List.{drop_all, drop_more}
use Rattle.pgn_base.specs.declared.note.Note.{Note}
use Rattle.pgn_check.specs.Entries.{repeats_after}
use Rattle.pgn_check.proofs.NoteLaws.{repeat_found, repeat_none}
use Rattle.pgn_check.proofs.entries.put_all.Goals as goal

pub loop-note-preserved : goal.loop-note-preserved
loop-note-preserved c =
    let notes = c.args.notes.now in
    let k = c.loop-note.note-index in
    let keys = c.loop-note.seen.keys in
    let note = c.note-item.result in
    let rest : drop k notes ≡ note ∷ drop (k + 1) notes = drop_more notes k note c.loop-note-test.true ∙ ap (λ (n : Note). n ∷ drop (k + 1) notes) (sym c.note-item.is) in
    sym (repeat_none keys c.put.new.seen.keys (drop (k + 1) notes) note _ _ c.in_ok-copy.ensures.equal c.in_ok-put.ensures.added c.if-not-branch.false c.in_ok-put.ensures.keys) ∙ sym (ap (repeats_after keys) rest) ∙ c.loop-note.invariant

pub returns-then-not-branch : goal.returns-then-not-branch
returns-then-not-branch c =
    let notes = c.args.notes.now in
    let k = c.loop-note.note-index in
    let keys = c.loop-note.seen.keys in
    let note = c.note-item.result in
    let rest : drop k notes ≡ note ∷ drop (k + 1) notes = drop_more notes k note c.loop-note-test.true ∙ ap (λ (n : Note). n ∷ drop (k + 1) notes) (sym c.note-item.is) in
    let found : repeats_after c.args.seen.now.keys notes ≡ true =
    sym c.loop-note.invariant ∙ ap (repeats_after keys) rest ∙ repeat_found keys (drop (k + 1) notes) note _ _ c.in_ok-copy.ensures.equal c.in_ok-put.ensures.added c.if-not-branch.true in
    sym (ap not found)

pub returns : goal.returns
returns c =
    let notes = c.args.notes.now in
    sym (ap not (sym c.loop-note.invariant ∙ ap (repeats_after c.loop-note.seen.keys) (drop_all c.loop-note.note-index notes c.loop-note-test.false)))
