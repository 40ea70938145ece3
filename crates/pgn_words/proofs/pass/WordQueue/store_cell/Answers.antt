use Rattle.std.proofs.Common.{refl, arith, ℕ, ap, ◌∙◌}
use Rattle.pgn_words.proofs.CellKept.{store_cell_allowed}
use Rattle.pgn_words.proofs.RingLaws.{word_within}
use Rattle.pgn_words.specs.Passes.{view_of}
use Rattle.pgn_words.specs.Told.{cell_stored}
use Rattle.pgn_words.proofs.pass.WordQueue.store_cell.Goals as goal

pub store-requires : goal.store-requires
store-requires c =
    let z = c.args.self.now.table.shared.key in
    let counted = c.args.self.now.counted in
    let within = word_within z _ _ c.requires.next in
    let value = c.from.ensures in
    let low = c.ranges.value.fits in (
      c.requires.own.table,
      omega (arith, counted, within),
      store_cell_allowed z _ _ _ _ _ _ c.requires.next c.requires.phase refl c.requires.page c.requires.stays (omega (arith, value, low)),
    )

pub returns-clause-view : goal.returns-clause-view
returns-clause-view c = c.store.ensures.2.view ∙ ap (λ (n : ℕ). cell_stored n (view_of c.args.pass.now)) c.from.ensures
