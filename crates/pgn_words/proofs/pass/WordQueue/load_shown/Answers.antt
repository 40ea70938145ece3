use Rattle.std.proofs.Common.{◌-◌, arith}
use Rattle.pgn_words.specs.Words.{cells_at}
use Rattle.pgn_words.proofs.RingLaws.{cell_there}
use Rattle.pgn_words.proofs.WalkKept.{load_shown_allowed}
use Rattle.pgn_words.proofs.pass.WordQueue.load_shown.Goals as goal

pub load-requires : goal.load-requires
load-requires c =
    let z = c.args.self.now.table.shared.key in
    let counted = c.args.self.now.counted in
    let within = c.requires.word.within in (
      c.requires.own.table,
      omega (arith, counted, within),
      load_shown_allowed z _ _ _ (c.args.word - cells_at z) _ c.requires.own.number (cell_there z c.args.word c.requires.word) c.requires.shown,
    )
