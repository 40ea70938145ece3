use Rattle.std.proofs.Common.{refl}
use Rattle.pgn_due.proofs.WatchLaws.{keeps_nothing}
use Rattle.pgn_due.proofs.watch.Watch.is_past.Goals as goal

pub returns-in-None : goal.returns-in-None
returns-in-None c = (λ _. keeps_nothing c.args.self.now.next c.args.end (λ lt. c.in-None.ensures.variant.1 lt), λ _. refl)
