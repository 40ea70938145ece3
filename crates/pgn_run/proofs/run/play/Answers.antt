use Rattle.pgn_run.specs.Run.{settings_of}
use Rattle.pgn_run.proofs.OverLaws.{answers-over, live-answers-over}
use Rattle.pgn_run.proofs.run.play.Goals as goal

pub returns-in-AtEnd-clause-answers : goal.returns-in-AtEnd-clause-answers
returns-in-AtEnd-clause-answers g c = λ input reads.
    rw c.in-AtEnd.is
    (answers-over c.in-AtEnd.print (settings_of c.args.settings) input c.args.scenario (g.K.Sink.held c.args.sink.now) (g.K.Sink.held c.run_scenario.new.sink) _ _ c.run_scenario.result reads
    c.run_scenario.ensures.done c.run_scenario.ensures.write_fault c.run_scenario.ensures.write_fault_writes_a_prefix c.run_scenario.ensures.no_memory_writes_nothing c.run_scenario.ensures.only)

pub returns-in-Live-clause-answers : goal.returns-in-Live-clause-answers
returns-in-Live-clause-answers g c = λ input reads.
    rw c.in-Live.is
    (live-answers-over (settings_of c.args.settings) input c.args.scenario (g.K.Sink.held c.args.sink.now) (g.K.Sink.held c.run_scenario_live-status.new.sink) _ _ c.run_scenario_live-status.result reads
    c.run_scenario_live-status.ensures.done c.run_scenario_live-status.ensures.write_fault c.run_scenario_live-status.ensures.write_fault_writes_a_prefix c.run_scenario_live-status.ensures.no_memory_writes_first_lines c.run_scenario_live-status.ensures.only)
