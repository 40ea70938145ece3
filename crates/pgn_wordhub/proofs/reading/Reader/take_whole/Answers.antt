use Rattle.std.proofs.Common.{◌≡◌, ℕ, ◌++◌, OnOk, subst}
use Rattle.std.proofs.lemmas.List.{length-take-le}
use Rattle.pgn_base.specs.declared.note.Note.{Note}
use Rattle.pgn_journal.specs.Packing.{Sender}
use Rattle.pgn_journal.specs.Pieces.{AnEntry, gives, committed_by}
use Rattle.pgn_words.specs.Passes.{view_of, known_of}
use Rattle.pgn_wordhub.specs.Walks.{IsEntryAt, shown_cells}
use Rattle.pgn_wordhub.proofs.reading.Reader.take_whole.Goals as goal

pub returns-then-len-le-SHORT_BYTES-clause-taken : goal.returns-then-len-le-SHORT_BYTES-clause-taken
returns-then-len-le-SHORT_BYTES-clause-taken c =
    let k = known_of c.args.pass.now in
    let low = c.if-len-le-SHORT_BYTES.true in
    subst (λ (n : ℕ). OnOk c.take_by.result ((note : Note) (sender : Sender) → IsEntryAt c.args.self.now.format (shown_cells (view_of c.args.pass.now)) c.args.at n k.db k.seen note sender
    → c.take_by.new.out.items ≡ c.args.out.now.items ++ gives k.db c.args.self.now.set.now.channels (committed_by k.seen) (AnEntry note sender))) (length-take-le c.args.len _ low) c.take_by.ensures.taken
