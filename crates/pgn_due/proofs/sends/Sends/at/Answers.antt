-- The spot in that place says where it stands.
use Rattle.std.proofs.Common.{arith, length, rules}
use borrow.Author.Rules.{scaled_Fits}
use Rattle.pgn_due.proofs.SendLaws.{note_within, sender_within, shown_there, stands_here}
use Rattle.pgn_due.proofs.sends.Sends.at.Goals as goal

pub bounds-self-sender : goal.bounds-self-sender
bounds-self-sender c =
    let sends = c.args.self.now in let journal = sends.journal.now in let spot = c.index.result.now in
    sender_within journal c.args.at spot (stands_here journal sends.spots.items c.args.at spot sends.sent c.requires c.index.ensures)

pub offset_bounds-self-sender : goal.offset_bounds-self-sender
offset_bounds-self-sender c =
    let sends = c.args.self.now in let journal = sends.journal.now in let spot = c.index.result.now in
    scaled_Fits spot.tx (length journal) _ (sender_within journal c.args.at spot (stands_here journal sends.spots.items c.args.at spot sends.sent c.requires c.index.ensures)) (search rules)

pub overflow_add-result : goal.overflow_add-result
overflow_add-result c =
    let sends = c.args.self.now in let journal = sends.journal.now in let spot = c.index.result.now in
    omega (arith, sender_within journal c.args.at spot (stands_here journal sends.spots.items c.args.at spot sends.sent c.requires c.index.ensures))

pub bounds-as_slice-note : goal.bounds-as_slice-note
bounds-as_slice-note c =
    let sends = c.args.self.now in let journal = sends.journal.now in let spot = c.index.result.now in
    let s = stands_here journal sends.spots.items c.args.at spot sends.sent c.requires c.index.ensures in
    note_within journal c.args.at spot c.index-self-sender.result c.as_slice.result.now s c.as_slice.ensures

pub offset_bounds-as_slice-note : goal.offset_bounds-as_slice-note
offset_bounds-as_slice-note c =
    let sends = c.args.self.now in let journal = sends.journal.now in let spot = c.index.result.now in
    let s = stands_here journal sends.spots.items c.args.at spot sends.sent c.requires c.index.ensures in
    scaled_Fits spot.note (length c.as_slice.result.now) _ (note_within journal c.args.at spot c.index-self-sender.result c.as_slice.result.now s c.as_slice.ensures) (search rules)

pub returns : goal.returns
returns c =
    let sends = c.args.self.now in let journal = sends.journal.now in let spot = c.index.result.now in
    let s = stands_here journal sends.spots.items c.args.at spot sends.sent c.requires c.index.ensures in
    shown_there journal c.args.at spot c.index-self-sender.result c.as_slice.result.now c.index-as_slice-note.result s c.as_slice.ensures c.index-as_slice-note.is
