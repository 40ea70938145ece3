use Rattle.std.proofs.Common.{◌≡◌, ℕ, ◌++◌, List, length, OnOk, sym, ◌∙◌, subst}
use Rattle.pgn_base.specs.declared.note.Note.{Note}
use Rattle.pgn_journal.specs.Packing.{Sender}
use Rattle.pgn_journal.specs.Pieces.{AnEntry, gives, committed_by}
use Rattle.pgn_words.specs.declared.view.View.{View}
use Rattle.pgn_words.specs.Passes.{view_of}
use Rattle.pgn_wordhub.specs.Walks.{IsEntryAt, IsDueEntry, HasDueEntry, shown_cells}
use Rattle.pgn_wordhub.proofs.ReadingLaws.{due_at, on_ok}
use Rattle.pgn_wordhub.proofs.reading.Reader.take_by.Goals as goal

pub deliver-requires-clause-entry : goal.deliver-requires-clause-entry
deliver-requires-clause-entry c =
    let e = c.requires.entry in
    let v = view_of c.args.pass.now in
    let are = c.load_bytes.ensures.bytes c.args.self.now.format (AnEntry e.note e.sender) e.entry.stands e.entry.long in
    subst (λ (u : View). HasDueEntry c.args.self.now.format u.known.db u.known.seen c.load_bytes.new.page) (sym c.load_bytes.ensures.view)
    (record { note = e.note; sender = e.sender; due = due_at c.args.self.now.format (shown_cells v) c.args.at (length c.args.bytes.now) v.known.db v.known.seen _ e.note e.sender e.entry are })

pub returns-clause-taken : goal.returns-clause-taken
returns-clause-taken c =
    let v = view_of c.args.pass.now in
    let bytes : List ℕ = c.load_bytes.new.page in
    on_ok c.deliver.result
    ((note : Note) (sender : Sender) → IsDueEntry c.args.self.now.format v.known.db v.known.seen bytes note sender → c.deliver.new.out.items ≡ c.args.out.now.items ++ gives v.known.db c.args.self.now.set.now.channels (committed_by v.known.seen) (AnEntry note sender))
    ((note : Note) (sender : Sender) → IsEntryAt c.args.self.now.format (shown_cells v) c.args.at (length c.args.bytes.now) v.known.db v.known.seen note sender → c.deliver.new.out.items ≡ c.args.out.now.items ++ gives v.known.db c.args.self.now.set.now.channels (committed_by v.known.seen) (AnEntry note sender))
    (λ due note sender entry. due note sender (due_at c.args.self.now.format (shown_cells v) c.args.at (length c.args.bytes.now) v.known.db v.known.seen bytes note sender entry (c.load_bytes.ensures.bytes c.args.self.now.format (AnEntry note sender) entry.stands entry.long)))
    (subst (λ (u : View). OnOk c.deliver.result ((note : Note) (sender : Sender) → IsDueEntry c.args.self.now.format u.known.db u.known.seen bytes note sender
    → c.deliver.new.out.items ≡ c.args.out.now.items ++ gives u.known.db c.args.self.now.set.now.channels (committed_by u.known.seen) (AnEntry note sender))) c.load_bytes.ensures.view c.deliver.ensures.delivered)

pub returns-clause-own : goal.returns-clause-own
returns-clause-own c = c.deliver.ensures.own

pub returns-clause-view : goal.returns-clause-view
returns-clause-view c = c.deliver.ensures.view ∙ c.load_bytes.ensures.view
