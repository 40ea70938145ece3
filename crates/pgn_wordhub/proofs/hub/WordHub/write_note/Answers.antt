use Rattle.std.proofs.Common.{◌≡◌, ℕ, ◌+◌, ◌*◌, List, drop, ap, ◌∙◌, arith, length, length-append}
use Rattle.std.specs.Int.{w32, from_le_bytes}
use Rattle.pgn_journal.specs.Bytes.{spelled}
use Rattle.pgn_journal.proofs.BytesLemmas.{length-spelled}
use Rattle.pgn_words.specs.declared.view.View.{View}
use Rattle.pgn_words.specs.Words.{cell_word}
use Rattle.pgn_words.specs.Passes.{view_of, known_of}
use Rattle.pgn_wordhub.specs.Passes.{hub_shape}
use Rattle.pgn_wordhub.specs.Placing.{writer_of}
use Rattle.pgn_wordhub.proofs.StoringLaws.{next_at, stores_next, stores_all, spelled_by, entry_long}
use Rattle.pgn_wordhub.proofs.hub.WordHub.write_note.Goals as goal

pub store_cell-requires-clause-next : goal.store_cell-requires-clause-next
store_cell-requires-clause-next c =
    let by = writer_of (known_of c.args.pass.now) in
    let test = c.loop-k-test.true in
    let len = c.of-entry.ensures.entry.len in
    let long = length-spelled c.args.self.now.format c.args.note.now by.db by.xid by.pid in
    let there = next_at (view_of c.args.pass.now) (view_of c.loop-k.pass) (spelled c.args.self.now.format c.args.note.now by.db by.xid by.pid) c.loop-k.k c.args.at c.loop-k.invariant.1 (omega (arith, test, len, long)) c.requires.next in
    c.loop-k.invariant.2 ∙ ap (cell_word (hub_shape c.args.self.now)) there

pub store_cell-requires-clause-page : goal.store_cell-requires-clause-page
store_cell-requires-clause-page c =
    let by = writer_of (known_of c.args.pass.now) in
    let test = c.loop-k-test.true in
    let len = c.of-entry.ensures.entry.len in
    let long = length-spelled c.args.self.now.format c.args.note.now by.db by.xid by.pid in
    let there = next_at (view_of c.args.pass.now) (view_of c.loop-k.pass) (spelled c.args.self.now.format c.args.note.now by.db by.xid by.pid) c.loop-k.k c.args.at c.loop-k.invariant.1 (omega (arith, test, len, long)) c.requires.next in
    let pages = c.requires.pages in
    let stop : (view_of c.loop-k.pass).stop ≡ (view_of c.args.pass.now).stop = ap (λ (u : View). u.stop) c.loop-k.invariant.1 in omega (arith, there, test, len, pages, stop)

pub store_cell-requires-clause-stays : goal.store_cell-requires-clause-stays
store_cell-requires-clause-stays c =
    let v = view_of c.args.pass.now in
    let by = writer_of (known_of c.args.pass.now) in
    let test = c.loop-k-test.true in
    let len = c.of-entry.ensures.entry.len in
    let long = length-spelled c.args.self.now.format c.args.note.now by.db by.xid by.pid in
    let there = next_at v (view_of c.loop-k.pass) (spelled c.args.self.now.format c.args.note.now by.db by.xid by.pid) c.loop-k.k c.args.at c.loop-k.invariant.1 (omega (arith, test, len, long)) c.requires.next in
    let stays = c.requires.stays in
    let next = c.requires.next in
    let parts = length-append v.pen.cells v.pen.batch in
    let cells : length (view_of c.loop-k.pass).pen.cells ≡ length v.pen.cells = ap (λ (u : View). length u.pen.cells) c.loop-k.invariant.1 in omega (arith, there, test, len, stays, next, parts, cells)

pub loop-k-preserved : goal.loop-k-preserved
loop-k-preserved c =
    let z = hub_shape c.args.self.now in
    let by = writer_of (known_of c.args.pass.now) in
    let bytes : List ℕ = spelled c.args.self.now.format c.args.note.now by.db by.xid by.pid in
    let test = c.loop-k-test.true in
    let len = c.of-entry.ensures.entry.len in
    let long = length-spelled c.args.self.now.format c.args.note.now by.db by.xid by.pid in
    let more : c.args.at + c.loop-k.k + 1 ≡ c.args.at + (c.loop-k.k + 1) = omega arith in (
      c.store_cell.ensures.own,
      stores_next (view_of c.args.pass.now) (view_of c.loop-k.pass) (view_of c.store_cell.new.pass) bytes c.loop-k.k c.cell-cell.result c.loop-k.invariant.1 (omega (arith, test, len, long))
          (c.cell-cell.ensures c.args.note.now c.db-db.result c.args.xid c.pid-pid.result c.of-entry.ensures.entry ∙ ap (λ (xs : List ℕ). from_le_bytes w32 (drop (4 * c.loop-k.k) xs)) (spelled_by c.args.self.now.format by c.args.note.now c.db-db.result c.args.xid c.pid-pid.result c.db-db.ensures c.requires.xid c.pid-pid.ensures)) c.store_cell.ensures.view,
      c.next_word-word.ensures.value (c.args.at + c.loop-k.k) c.loop-k.invariant.2 ∙ ap (cell_word z) more,
      c.next_word-word.ensures.word,
    )

pub returns-clause-view : goal.returns-clause-view
returns-clause-view c =
    let by = writer_of (known_of c.args.pass.now) in
    let test = c.loop-k-test.false in
    let len = c.of-entry.ensures.entry.len in
    let long = length-spelled c.args.self.now.format c.args.note.now by.db by.xid by.pid in
    stores_all (view_of c.args.pass.now) (view_of c.loop-k.pass) (spelled c.args.self.now.format c.args.note.now by.db by.xid by.pid) c.loop-k.k c.loop-k.invariant.1 (omega (arith, test, len, long))

pub returns-clause-end : goal.returns-clause-end
returns-clause-end c =
    let long = entry_long c.args.self.now.format (writer_of (known_of c.args.pass.now)) c.args.note.now in
    let len = c.of-entry.ensures.entry.len in
    let at = c.get.ensures.value in
    let new = c.new.ensures in omega (arith, long, len, at, new)
