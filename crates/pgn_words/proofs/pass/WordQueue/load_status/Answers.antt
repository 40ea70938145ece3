use Rattle.std.proofs.Common.{arith}
use Rattle.pgn_words.proofs.StatusKept.{load_status_allowed}
use Rattle.pgn_words.proofs.pass.WordQueue.load_status.Goals as goal

pub load-statuses-requires : goal.load-statuses-requires
load-statuses-requires c = (
  c.requires.own.table,
  (let counted = c.args.self.now.counted in let within = c.word_of_status-word.ensures.within in omega (arith, counted, within)),
  load_status_allowed _ _ _ _ _ c.requires.own.number,
)
