-- Each notification has its spot behind those before.
use Rattle.std.proofs.Common.{◌<◌, ◌≤◌, List, length, subst}
use Rattle.std.proofs.lemmas.List.{take_all}
use Rattle.pgn_base.specs.declared.note.Note.{Note}
use Rattle.pgn_due.proofs.SendLaws.{Shown, shown_all, shown_more, shown_none}
use Rattle.pgn_due.proofs.sends.send.Goals as goal

pub loop-note-init : goal.loop-note-init
loop-note-init c = λ journal e. shown_none journal c.args.at c.args.tx.now c.args.spots.now.items

pub loop-note-preserved : goal.loop-note-preserved
loop-note-preserved c = λ journal e.
    shown_more journal c.args.at c.loop-note.note c.args.tx.now c.args.spots.now.items c.loop-note.spots.items c.push.new.self.items
    (subst (λ (notes : List Note). c.loop-note.note < length notes) c.as_slice-note-end.ensures c.loop-note-test.true) c.in_ok-push.ensures.items e (c.loop-note.invariant journal e)

pub returns : goal.returns
returns c = λ journal e.
    let end : length c.args.tx.now.notes ≤ c.loop-note.note = subst (λ (notes : List Note). length notes ≤ c.loop-note.note) c.as_slice-note-end.ensures c.loop-note-test.false in
    shown_all journal c.args.at c.args.tx.now c.args.spots.now.items c.loop-note.spots.items c.in_default.is
    (subst (λ (notes : List Note). Shown journal c.args.at c.args.tx.now notes c.args.spots.now.items c.loop-note.spots.items) (take_all c.loop-note.note c.args.tx.now.notes end) (c.loop-note.invariant journal e))
