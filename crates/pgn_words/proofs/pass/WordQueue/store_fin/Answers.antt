use Rattle.std.proofs.Common.{arith}
use Rattle.pgn_words.proofs.FinKept.{store_fin_allowed}
use Rattle.pgn_words.proofs.pass.WordQueue.store_fin.Goals as goal

pub store-requires : goal.store-requires
store-requires c =
    let number = c.requires.number in
    let value = c.get.ensures.value in
    let same = c.from-next.ensures in (
      c.requires.own.table,
      (let counted = c.args.self.now.counted in omega (arith, counted)),
      store_fin_allowed _ _ _ _ _ c.requires.phase (omega (arith, number, value, same)),
    )
