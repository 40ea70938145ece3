use Rattle.std.proofs.Common.{◌≡◌, ◌+◌, ◌/◌, List, length, take, refl, sym, ap, ◌∙◌, arith}
use Rattle.std.proofs.lemmas.List.{take_all}
use Rattle.std.proofs.lemmas.Option.{slice_get_read}
use Rattle.pgn_base.specs.declared.note.Note.{Note}
use Rattle.pgn_journal.specs.Journal.{next_xid}
use Rattle.pgn_words.specs.declared.view.View.{View}
use Rattle.pgn_words.specs.Passes.{view_of, known_of}
use Rattle.pgn_wordhub.specs.Passes.{hub_shape}
use Rattle.pgn_wordhub.specs.Placing.{writer_of}
use Rattle.pgn_layout.specs.Batches.{entries_of}
use Rattle.pgn_wordhub.proofs.StoringLaws.{entry_long, entries_within, filler_within, entries_on, entries_end, batch_stored, batch_filled}
use Rattle.pgn_wordhub.proofs.hub.WordHub.write_batch.Goals as goal

pub write_note-next-requires-clause-pages : goal.write_note-next-requires-clause-pages
write_note-next-requires-clause-pages c =
    let v = view_of c.args.pass.now in
    let run = take c.plan_batch-batch.result.fits c.args.notes.now in
    let there = slice_get_read run (length run) c.loop-note.note-index c.note-item.result refl c.loop-note-test.true c.note-item.is in
    let end = v.stop + (hub_shape c.args.self.now).pages in
    let fits = entries_within c.args.self.now.format (writer_of v.known) c.args.at c.args.notes.now c.plan_batch-batch.result end c.loop-note.note-index c.note-item.result c.requires.room c.plan_batch-batch.ensures.planned c.requires.pages there in
    let long = entry_long c.args.self.now.format (writer_of v.known) c.note-item.result in
    let at = c.loop-note.invariant.2 in
    let stop : (view_of c.loop-note.pass).stop ≡ v.stop = ap (λ (u : View). u.stop) c.loop-note.invariant.1 in omega (arith, fits, long, at, stop)

pub write_note-next-requires-clause-low : goal.write_note-next-requires-clause-low
write_note-next-requires-clause-low c =
    let v = view_of c.args.pass.now in
    let run = take c.plan_batch-batch.result.fits c.args.notes.now in
    let there = slice_get_read run (length run) c.loop-note.note-index c.note-item.result refl c.loop-note-test.true c.note-item.is in
    let own = c.args.at / 2048 + 1 in
    let fits = entries_within c.args.self.now.format (writer_of v.known) c.args.at c.args.notes.now c.plan_batch-batch.result own c.loop-note.note-index c.note-item.result c.requires.room c.plan_batch-batch.ensures.planned (omega arith) there in
    let long = entry_long c.args.self.now.format (writer_of v.known) c.note-item.result in
    let at = c.loop-note.invariant.2 in
    let low = c.requires.low in
    omega (arith, fits, long, at, low)

pub write_filler-requires-clause-long : goal.write_filler-requires-clause-long
write_filler-requires-clause-long c =
    let some = c.if-batch-gt0.true in
    (filler_within c.args.self.now.format (writer_of (known_of c.args.pass.now)) c.args.at c.args.notes.now c.plan_batch-batch.result (c.args.at / 2048 + 1) c.requires.room c.plan_batch-batch.ensures.planned (omega arith) (omega (arith, some))).0

pub write_filler-requires-clause-pages : goal.write_filler-requires-clause-pages
write_filler-requires-clause-pages c =
    let v = view_of c.args.pass.now in
    let some = c.if-batch-gt0.true in
    let run = take c.plan_batch-batch.result.fits c.args.notes.now in
    let end = v.stop + (hub_shape c.args.self.now).pages in
    let within = (filler_within c.args.self.now.format (writer_of v.known) c.args.at c.args.notes.now c.plan_batch-batch.result end c.requires.room c.plan_batch-batch.ensures.planned c.requires.pages (omega (arith, some))).1 in
    let test = c.loop-note-test.false in
    let all : take c.loop-note.note-index run ≡ run = take_all c.loop-note.note-index run (omega (arith, test)) in
    let size = ap (λ (notes : List Note). length (entries_of c.args.self.now.format (writer_of v.known) notes)) all in
    let at = c.loop-note.invariant.2 in
    let stop : (view_of c.loop-note.pass).stop ≡ v.stop = ap (λ (u : View). u.stop) c.loop-note.invariant.1 in omega (arith, within, size, at, stop)

pub write_filler-requires-clause-low : goal.write_filler-requires-clause-low
write_filler-requires-clause-low c =
    let v = view_of c.args.pass.now in
    let some = c.if-batch-gt0.true in
    let run = take c.plan_batch-batch.result.fits c.args.notes.now in
    let within = (filler_within c.args.self.now.format (writer_of v.known) c.args.at c.args.notes.now c.plan_batch-batch.result (c.args.at / 2048 + 1) c.requires.room c.plan_batch-batch.ensures.planned (omega arith) (omega (arith, some))).1 in
    let test = c.loop-note-test.false in
    let all : take c.loop-note.note-index run ≡ run = take_all c.loop-note.note-index run (omega (arith, test)) in
    let size = ap (λ (notes : List Note). length (entries_of c.args.self.now.format (writer_of v.known) notes)) all in
    let at = c.loop-note.invariant.2 in
    let low = c.requires.low in omega (arith, within, size, at, low)

pub write_note-next-requires-clause-stays : goal.write_note-next-requires-clause-stays
write_note-next-requires-clause-stays c =
    let v = view_of c.args.pass.now in
    let run = take c.plan_batch-batch.result.fits c.args.notes.now in
    let there = slice_get_read run (length run) c.loop-note.note-index c.note-item.result refl c.loop-note-test.true c.note-item.is in
    let own = c.args.at / 2048 + 1 in
    let fits = entries_within c.args.self.now.format (writer_of v.known) c.args.at c.args.notes.now c.plan_batch-batch.result own c.loop-note.note-index c.note-item.result c.requires.room c.plan_batch-batch.ensures.planned (omega arith) there in
    let long = entry_long c.args.self.now.format (writer_of v.known) c.note-item.result in
    let at = c.loop-note.invariant.2 in
    let begins = c.requires.begins in
    let cells : length (view_of c.loop-note.pass).pen.cells ≡ length v.pen.cells = ap (λ (u : View). length u.pen.cells) c.loop-note.invariant.1 in omega (arith, fits, long, at, begins, cells)

pub write_filler-requires-clause-stays : goal.write_filler-requires-clause-stays
write_filler-requires-clause-stays c =
    let v = view_of c.args.pass.now in
    let some = c.if-batch-gt0.true in
    let run = take c.plan_batch-batch.result.fits c.args.notes.now in
    let within = (filler_within c.args.self.now.format (writer_of v.known) c.args.at c.args.notes.now c.plan_batch-batch.result (c.args.at / 2048 + 1) c.requires.room c.plan_batch-batch.ensures.planned (omega arith) (omega (arith, some))).1 in
    let test = c.loop-note-test.false in
    let all : take c.loop-note.note-index run ≡ run = take_all c.loop-note.note-index run (omega (arith, test)) in
    let size = ap (λ (notes : List Note). length (entries_of c.args.self.now.format (writer_of v.known) notes)) all in
    let at = c.loop-note.invariant.2 in
    let begins = c.requires.begins in
    let cells : length (view_of c.loop-note.pass).pen.cells ≡ length v.pen.cells = ap (λ (u : View). length u.pen.cells) c.loop-note.invariant.1 in omega (arith, within, size, at, begins, cells)

pub loop-note-preserved : goal.loop-note-preserved
loop-note-preserved c =
    let inv = c.loop-note.invariant in
    let run = take c.plan_batch-batch.result.fits c.args.notes.now in
    let there = slice_get_read run (length run) c.loop-note.note-index c.note-item.result refl c.loop-note-test.true c.note-item.is in
    let more = entries_on c.args.self.now.format (view_of c.args.pass.now) (view_of c.loop-note.pass) (view_of c.write_note-next.new.pass) run c.loop-note.note-index c.args.at c.loop-note.next c.write_note-next.result c.note-item.result
    there inv.1 inv.2 c.write_note-next.ensures.view c.write_note-next.ensures.end in
    (c.write_note-next.ensures.own, more.0, more.1)

pub write_note-next-requires-clause-next : goal.write_note-next-requires-clause-next
write_note-next-requires-clause-next c =
    entries_end c.args.self.now.format (view_of c.args.pass.now) (view_of c.loop-note.pass) (take c.loop-note.note-index (take c.plan_batch-batch.result.fits c.args.notes.now)) c.args.at c.loop-note.next
    c.loop-note.invariant.1 c.loop-note.invariant.2 c.requires.next

pub write_note-next-requires-clause-xid : goal.write_note-next-requires-clause-xid
write_note-next-requires-clause-xid c = c.requires.xid ∙ sym (ap (λ (u : View). next_xid u.known.seen) c.loop-note.invariant.1)

pub write_filler-requires-clause-next : goal.write_filler-requires-clause-next
write_filler-requires-clause-next c =
    entries_end c.args.self.now.format (view_of c.args.pass.now) (view_of c.loop-note.pass) (take c.loop-note.note-index (take c.plan_batch-batch.result.fits c.args.notes.now)) c.args.at c.loop-note.next
    c.loop-note.invariant.1 c.loop-note.invariant.2 c.requires.next

pub returns-then-batch-gt0-clause-own : goal.returns-then-batch-gt0-clause-own
returns-then-batch-gt0-clause-own c = c.write_filler.ensures.own

pub returns-then-batch-gt0-clause-planned : goal.returns-then-batch-gt0-clause-planned
returns-then-batch-gt0-clause-planned c = c.plan_batch-batch.ensures.planned

pub returns-then-batch-gt0-clause-view : goal.returns-then-batch-gt0-clause-view
returns-then-batch-gt0-clause-view c =
    let some = c.if-batch-gt0.true in
    let test = c.loop-note-test.false in
    batch_filled c.args.self.now.format (view_of c.args.pass.now) (view_of c.loop-note.pass) (view_of c.write_filler.new.pass) c.args.notes.now c.plan_batch-batch.result c.loop-note.note-index c.args.xid
    c.loop-note.invariant.1 (omega (arith, test)) (omega (arith, some)) c.requires.xid c.write_filler.ensures.view

pub returns-else-batch-gt0-clause-view : goal.returns-else-batch-gt0-clause-view
returns-else-batch-gt0-clause-view c =
    let none = c.if-batch-gt0.false in
    let test = c.loop-note-test.false in
    batch_stored c.args.self.now.format (view_of c.args.pass.now) (view_of c.loop-note.pass) c.args.notes.now c.plan_batch-batch.result c.loop-note.note-index c.loop-note.invariant.1 (omega (arith, test)) (omega (arith, none))
