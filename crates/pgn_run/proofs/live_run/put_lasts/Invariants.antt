use Rattle.std.proofs.Common.{drop}
use Rattle.pgn_live.specs.Lives.{tagged}
use Rattle.pgn_text.proofs.PutsLaws.{Toward}
use Rattle.pgn_run.specs.Live.{lasts}
use Rattle.pgn_run.proofs.live_run.put_lasts.Given as goal

abbrev pub invariant-loop-i : goal.invariant-loop-i
invariant-loop-i g l = Toward g.K.Sink.held g.K.Sink.faults l.fn.sink l.fn.out l.sink l.out (tagged l.sections (lasts (drop l.i l.told) (drop l.i l.traces))) (tagged l.fn.sections (lasts l.fn.told l.fn.traces))
