use Rattle.std.proofs.Common.{◌≡◌, ℕ, ◌+◌, ◌*◌, drop, ap, ◌∙◌, arith, length, length-append}
use Rattle.std.specs.Int.{w32, from_le_bytes}
use Rattle.pgn_base.specs.declared.limits.TheConstants.{PID_BASE}
use Rattle.pgn_journal.specs.Bytes.{filler}
use Rattle.pgn_journal.proofs.BytesLemmas.{length-filler}
use Rattle.pgn_journal.proofs.PackingLemmas.{least_within}
use Rattle.pgn_words.specs.declared.view.View.{View}
use Rattle.pgn_words.specs.Words.{cell_word}
use Rattle.pgn_words.specs.Passes.{view_of, known_of}
use Rattle.pgn_wordhub.specs.Passes.{hub_shape}
use Rattle.pgn_wordhub.proofs.StoringLaws.{next_at, stores_next, stores_all}
use Rattle.pgn_wordhub.proofs.hub.WordHub.write_filler.Goals as goal

pub store_cell-requires-clause-next : goal.store_cell-requires-clause-next
store_cell-requires-clause-next c =
    let pid = PID_BASE + (known_of c.args.pass.now).session in
    let test = c.loop-k-test.true in
    let least = c.requires.long.least in
    let head = least_within c.args.self.now.format in
    let long = length-filler c.args.self.now.format c.args.len c.args.xid pid (omega (arith, least, head.0)) in
    let there = next_at (view_of c.args.pass.now) (view_of c.loop-k.pass) (filler c.args.self.now.format c.args.len c.args.xid pid) c.loop-k.k c.args.at c.loop-k.invariant.1 (omega (arith, test, long)) c.requires.next in
    c.loop-k.invariant.2 ∙ ap (cell_word (hub_shape c.args.self.now)) there

pub store_cell-requires-clause-page : goal.store_cell-requires-clause-page
store_cell-requires-clause-page c =
    let pid = PID_BASE + (known_of c.args.pass.now).session in
    let test = c.loop-k-test.true in
    let least = c.requires.long.least in
    let head = least_within c.args.self.now.format in
    let long = length-filler c.args.self.now.format c.args.len c.args.xid pid (omega (arith, least, head.0)) in
    let there = next_at (view_of c.args.pass.now) (view_of c.loop-k.pass) (filler c.args.self.now.format c.args.len c.args.xid pid) c.loop-k.k c.args.at c.loop-k.invariant.1 (omega (arith, test, long)) c.requires.next in
    let pages = c.requires.pages in
    let stop : (view_of c.loop-k.pass).stop ≡ (view_of c.args.pass.now).stop = ap (λ (u : View). u.stop) c.loop-k.invariant.1 in omega (arith, there, test, pages, stop)

pub store_cell-requires-clause-stays : goal.store_cell-requires-clause-stays
store_cell-requires-clause-stays c =
    let v = view_of c.args.pass.now in
    let pid = PID_BASE + (known_of c.args.pass.now).session in
    let test = c.loop-k-test.true in
    let least = c.requires.long.least in
    let head = least_within c.args.self.now.format in
    let long = length-filler c.args.self.now.format c.args.len c.args.xid pid (omega (arith, least, head.0)) in
    let there = next_at v (view_of c.loop-k.pass) (filler c.args.self.now.format c.args.len c.args.xid pid) c.loop-k.k c.args.at c.loop-k.invariant.1 (omega (arith, test, long)) c.requires.next in
    let stays = c.requires.stays in
    let next = c.requires.next in
    let parts = length-append v.pen.cells v.pen.batch in
    let cells : length (view_of c.loop-k.pass).pen.cells ≡ length v.pen.cells = ap (λ (u : View). length u.pen.cells) c.loop-k.invariant.1 in omega (arith, there, test, stays, next, parts, cells)

pub loop-k-preserved : goal.loop-k-preserved
loop-k-preserved c =
    let z = hub_shape c.args.self.now in
    let pid = PID_BASE + (known_of c.args.pass.now).session in
    let test = c.loop-k-test.true in
    let least = c.requires.long.least in
    let head = least_within c.args.self.now.format in
    let long = length-filler c.args.self.now.format c.args.len c.args.xid pid (omega (arith, least, head.0)) in
    let more : c.args.at + c.loop-k.k + 1 ≡ c.args.at + (c.loop-k.k + 1) = omega arith in (
      c.store_cell.ensures.own,
      stores_next (view_of c.args.pass.now) (view_of c.loop-k.pass) (view_of c.store_cell.new.pass) (filler c.args.self.now.format c.args.len c.args.xid pid) c.loop-k.k c.filler_cell-cell.result c.loop-k.invariant.1 (omega (arith, test, long))
          (c.filler_cell-cell.ensures ∙ ap (λ (n : ℕ). from_le_bytes w32 (drop (4 * c.loop-k.k) (filler c.args.self.now.format c.args.len c.args.xid n))) c.pid-pid.ensures) c.store_cell.ensures.view,
      c.next_word-word.ensures.value (c.args.at + c.loop-k.k) c.loop-k.invariant.2 ∙ ap (cell_word z) more,
      c.next_word-word.ensures.word,
    )

pub returns-clause-view : goal.returns-clause-view
returns-clause-view c =
    let pid = PID_BASE + (known_of c.args.pass.now).session in
    let test = c.loop-k-test.false in
    let least = c.requires.long.least in
    let head = least_within c.args.self.now.format in
    let long = length-filler c.args.self.now.format c.args.len c.args.xid pid (omega (arith, least, head.0)) in
    stores_all (view_of c.args.pass.now) (view_of c.loop-k.pass) (filler c.args.self.now.format c.args.len c.args.xid pid) c.loop-k.k c.loop-k.invariant.1 (omega (arith, test, long))
