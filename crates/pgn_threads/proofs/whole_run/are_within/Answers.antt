use Rattle.std.proofs.Common.{slice_index_or}
use Rattle.pgn_threads.proofs.whole_run.are_within.Goals as goal

pub returns : goal.returns
returns g c = λ k d lt. g.met.H.Hub.within c.args.hub.now (slice_index_or c.args.passes.now k d) (c.requires k d lt)
