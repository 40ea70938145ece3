use Rattle.pgn_due.proofs.WatchLaws.{finds_by}
use Rattle.pgn_due.proofs.watch.Watch.finds_nothing.Goals as goal

pub returns : goal.returns
returns c = λ journal db mark set h. finds_by journal db mark c.args.to set c.args.self.now c.start.result c.is_past.result h c.start.ensures c.is_past.ensures
