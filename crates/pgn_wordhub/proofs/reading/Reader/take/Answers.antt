use Rattle.std.proofs.Common.{◌≡◌, ◌≤◌, ◌++◌, length, OnOk, sym, ◌∙◌, subst, arith}
use Rattle.pgn_base.specs.declared.note.Note.{Note}
use Rattle.pgn_journal.specs.Packing.{Sender}
use Rattle.pgn_journal.specs.Pieces.{AnEntry, gives, committed_by}
use Rattle.pgn_journal.proofs.PieceLaws.{piece_has_bytes}
use Rattle.pgn_hub.specs.Shape.{notes_of_seats}
use Rattle.pgn_words.specs.declared.view.View.{View}
use Rattle.pgn_words.specs.Passes.{known_of}
use Rattle.pgn_wordhub.specs.Passes.{hub_shape}
use Rattle.pgn_wordhub.specs.Walks.{IsEntryAt, HasEntryAt, shown_cells}
use Rattle.pgn_wordhub.proofs.ReadingLaws.{adds_nothing}
use Rattle.pgn_wordhub.proofs.reading.Reader.take.Goals as goal

pub returns-then-is_apart-clause-taken : goal.returns-then-is_apart-clause-taken
returns-then-is_apart-clause-taken c note sender entry =
    let k = known_of c.args.pass.now in
    let long = entry.long in
    let whole = piece_has_bytes.whole c.args.self.now.format (AnEntry note sender) entry.stands.readable in
    adds_nothing k.db c.args.self.now.set.now.channels (committed_by k.seen) c.args.out.now.items note sender entry.of_db (c.is_apart.ensures.apart c.if-is_apart.true note sender entry.stands (omega (arith, long, whole)))

pub returns-clause-taken : goal.returns-clause-taken
returns-clause-taken c =
    subst (λ (u : View). OnOk c.take_whole.result ((note : Note) (sender : Sender) → IsEntryAt c.args.self.now.format (shown_cells u) c.args.at c.args.head.now.len u.known.db u.known.seen note sender
    → c.take_whole.new.out.items ≡ c.args.out.now.items ++ gives u.known.db c.args.self.now.set.now.channels (committed_by u.known.seen) (AnEntry note sender))) c.is_apart.ensures.view c.take_whole.ensures.taken

pub take_whole-requires-clause-from : goal.take_whole-requires-clause-from
take_whole-requires-clause-from c = subst (λ (u : View). u.post.at ≤ c.args.at) (sym c.is_apart.ensures.view) c.requires.from

pub take_whole-requires-clause-reach : goal.take_whole-requires-clause-reach
take_whole-requires-clause-reach c =
    let limit = notes_of_seats (hub_shape c.args.self.now.hub.now).seats in subst (λ (u : View). length u.known.seen ≤ limit) (sym c.is_apart.ensures.view) c.requires.reach

pub take_whole-requires-clause-entry : goal.take_whole-requires-clause-entry
take_whole-requires-clause-entry c =
    subst (λ (u : View). HasEntryAt c.args.self.now.format (shown_cells u) c.args.at c.args.head.now.len u.known.db u.known.seen) (sym c.is_apart.ensures.view) c.requires.entry

pub returns-clause-own : goal.returns-clause-own
returns-clause-own c = c.take_whole.ensures.own

pub returns-clause-view : goal.returns-clause-view
returns-clause-view c = c.take_whole.ensures.view ∙ c.is_apart.ensures.view
