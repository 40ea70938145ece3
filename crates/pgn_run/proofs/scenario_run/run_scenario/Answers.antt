use Rattle.std.proofs.Common.{subst, inr, refl}
use Rattle.pgn_language.specs.declared.scenario.Scenario.{Scenario}
use Rattle.pgn_run.specs.Run.{HasWritten, printed}
use Rattle.pgn_run.proofs.OverLaws.{done-over, prefix-over, fault-over, memory-over, only-over, memory-done, memory-fault}
use Rattle.pgn_run.proofs.scenario_run.run_scenario.Goals as goal

pub returns-in-Ok-clause-done : goal.returns-in-Ok-clause-done
returns-in-Ok-clause-done g c =
    done-over c.args.print c.args.scenario _ c.in-Ok.played.journal.items c.in-Ok.played.traces.items (g.K.Sink.held c.args.sink.now) (g.K.Sink.held c.write_run-status.new.sink) _ _ c.write_run-status.result c.in-Ok.ensures.legal
    (subst (λ (s : Scenario). HasWritten (printed c.args.print s c.in-Ok.played.journal.items c.in-Ok.played.traces.items) (g.K.Sink.held c.args.sink.now) (g.K.Sink.held c.write_run-status.new.sink) (g.K.Sink.faults c.args.sink.now) (g.K.Sink.faults c.write_run-status.new.sink) c.write_run-status.result) c.in-Ok.ensures.back c.write_run-status.ensures.written)

pub returns-in-Ok-clause-write_fault : goal.returns-in-Ok-clause-write_fault
returns-in-Ok-clause-write_fault g c = fault-over _ (g.K.Sink.held c.args.sink.now) (g.K.Sink.held c.write_run-status.new.sink) _ _ c.write_run-status.result c.write_run-status.ensures.written

pub returns-in-Ok-clause-write_fault_writes_a_prefix : goal.returns-in-Ok-clause-write_fault_writes_a_prefix
returns-in-Ok-clause-write_fault_writes_a_prefix g c =
    prefix-over c.args.print c.args.scenario _ c.in-Ok.played.journal.items c.in-Ok.played.traces.items (g.K.Sink.held c.args.sink.now) (g.K.Sink.held c.write_run-status.new.sink) _ _ c.write_run-status.result c.in-Ok.ensures.legal
    (subst (λ (s : Scenario). HasWritten (printed c.args.print s c.in-Ok.played.journal.items c.in-Ok.played.traces.items) (g.K.Sink.held c.args.sink.now) (g.K.Sink.held c.write_run-status.new.sink) (g.K.Sink.faults c.args.sink.now) (g.K.Sink.faults c.write_run-status.new.sink) c.write_run-status.result) c.in-Ok.ensures.back c.write_run-status.ensures.written)

pub returns-in-Ok-clause-no_memory_writes_nothing : goal.returns-in-Ok-clause-no_memory_writes_nothing
returns-in-Ok-clause-no_memory_writes_nothing g c = memory-over _ (g.K.Sink.held c.args.sink.now) (g.K.Sink.held c.write_run-status.new.sink) _ _ c.write_run-status.result c.write_run-status.ensures.written

pub returns-in-Ok-clause-only : goal.returns-in-Ok-clause-only
returns-in-Ok-clause-only g c = only-over _ (g.K.Sink.held c.args.sink.now) (g.K.Sink.held c.write_run-status.new.sink) _ _ c.write_run-status.result c.write_run-status.ensures.written

pub returns-in-Err-clause-done : goal.returns-in-Err-clause-done
returns-in-Err-clause-done g c = λ e. memory-done e

pub returns-in-Err-clause-write_fault : goal.returns-in-Err-clause-write_fault
returns-in-Err-clause-write_fault g c = λ e. memory-fault e

pub returns-in-Err-clause-write_fault_writes_a_prefix : goal.returns-in-Err-clause-write_fault_writes_a_prefix
returns-in-Err-clause-write_fault_writes_a_prefix g c = λ e. memory-fault e

pub returns-in-Err-clause-only : goal.returns-in-Err-clause-only
returns-in-Err-clause-only g c = inr (inr refl)

pub returns-in-Ok-clause-write_fault_where_due : goal.returns-in-Ok-clause-write_fault_where_due
returns-in-Ok-clause-write_fault_where_due g c = c.write_run-status.ensures.rose
