use Rattle.std.proofs.Common.{List, ap}
use Rattle.pgn_language.specs.declared.scenario.Section.{Section}
use Rattle.pgn_threads.specs.Opened.{scenario_of}
use Rattle.pgn_threads.proofs.whole_run.run_on_hub.Goals as goal

pub returns-in-Ok-clause-back : goal.returns-in-Ok-clause-back
returns-in-Ok-clause-back g c = ap (λ (ss : List Section). scenario_of ss c.args.scenario.flags) c.in-Ok.ensures.back

pub returns-in-Ok-clause-legal : goal.returns-in-Ok-clause-legal
returns-in-Ok-clause-legal g c = c.in-Ok.ensures.legal
