use Rattle.std.proofs.Common.{◌≡◌, List, IfOk, map, sym, subst}
use Rattle.pgn_language.specs.declared.scenario.Section.{Section}
use Rattle.pgn_language.specs.Inputs.{IsSound}
use Rattle.pgn_session.specs.Runs.{script_of}
use Rattle.pgn_threads.specs.Opened.{plan_for, scenario_of, script_for, shape_for}
use Rattle.pgn_threads.proofs.whole_run.open_on_hub.Goals as goal

pub open_with-requires-clause-sound : goal.open_with-requires-clause-sound
open_with-requires-clause-sound g c = subst (λ (ss : List Section). IsSound (scenario_of ss c.args.scenario.now.flags)) (sym c.in_ok-sections.ensures.equal) c.requires.sound

pub returns-clause-shape : goal.returns-clause-shape
returns-clause-shape g c =
    subst (λ (ss : List Section). IfOk c.open_with.result (λ opened. g.H.Hub.shape opened.0 ≡ shape_for (scenario_of ss c.args.scenario.now.flags) c.args.pages c.args.format)) c.in_ok-sections.ensures.equal c.open_with.ensures.shape

pub returns-clause-ready : goal.returns-clause-ready
returns-clause-ready g c = c.open_with.ensures.ready

pub returns-clause-scripts : goal.returns-clause-scripts
returns-clause-scripts g c =
    subst (λ (ss : List Section). IfOk c.open_with.result (λ opened. map script_of opened.1.items ≡ map (script_for (plan_for (scenario_of ss c.args.scenario.now.flags)) c.args.patience) ss)) c.in_ok-sections.ensures.equal c.open_with.ensures.scripts
