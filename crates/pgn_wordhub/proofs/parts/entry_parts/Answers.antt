use Rattle.std.proofs.Common.{Ok, ap, subst}
use Rattle.pgn_base.specs.declared.note.Note.{Note}
use Rattle.pgn_journal.specs.Pieces.{AnEntry}
use Rattle.pgn_entry.specs.declared.entry_view.EntryView.{EntryView}
use Rattle.pgn_entry.specs.Pieces.{IsReadAs}
use Rattle.pgn_entry.specs.Reading.{told}
use Rattle.pgn_wordhub.proofs.parts.entry_parts.Goals as goal

pub returns : goal.returns
returns c note sender readable spelling =
    let read = subst (λ (r : EntryView). IsReadAs c.args.format (AnEntry note sender) (told (Ok r))) c.in-Entry.is (c.read_piece.ensures (AnEntry note sender) readable spelling) in record {
      xid_is = read.from_xid;
      pid_is = read.from_pid;
      channel_is = ap (λ (n : Note). n.channel) read.same;
      payload_is = ap (λ (n : Note). n.payload) read.same;
    }

pub unreachable-requires : goal.unreachable-requires
unreachable-requires c =
    let e = c.requires in
    subst (λ (r : EntryView). IsReadAs c.args.format (AnEntry e.note e.sender) (told (Ok r))) c.in-Filler.is (c.read_piece.ensures (AnEntry e.note e.sender) e.readable e.spelling)
