use Rattle.std.proofs.Common.{Option, ap, ◌∙◌}
use Rattle.pgn_language.specs.declared.scenario.ScenarioFault.{ScenarioFault}
use Rattle.pgn_scenario.specs.Steps.{outcome}
use Rattle.pgn_scenario.proofs.ReadingLaws.{taken, reads-faulty, finish-reads}
use Rattle.pgn_scenario.proofs.scenario_reading.read_all.Goals as goal

pub returns-in-None : goal.returns-in-None
returns-in-None c =
    finish-reads c.args.bytes.now c.read_lines.new.so_far c.finish.result c.requires.short
    (taken c.args.bytes.now c.args.so_far.now c.read_lines.new.so_far c.in_ok-read_lines.field-0 c.requires.start c.in_ok-read_lines.ensures ∙ ap (λ (found : Option ScenarioFault). outcome found c.read_lines.new.so_far) c.in-None.is)
    c.finish.ensures

pub returns-in-Some : goal.returns-in-Some
returns-in-Some c =
    reads-faulty c.args.bytes.now c.in-Some.fault c.requires.short
    (taken c.args.bytes.now c.args.so_far.now c.read_lines.new.so_far c.in_ok-read_lines.field-0 c.requires.start c.in_ok-read_lines.ensures ∙ ap (λ (found : Option ScenarioFault). outcome found c.read_lines.new.so_far) c.in-Some.is)
