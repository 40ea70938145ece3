use Rattle.std.proofs.Common.{subst, sym}
use Rattle.pgn_run.specs.declared.print.Print.{Print}
use Rattle.pgn_run.specs.Run.{HasWritten, printed}
use Rattle.pgn_run.proofs.scenario_run.write_run.Goals as goal

pub returns-in-Text-clause-written : goal.returns-in-Text-clause-written
returns-in-Text-clause-written g c = subst (λ (p : Print). HasWritten (printed p c.args.scenario.now c.args.run.now.journal.items c.args.run.now.traces.items) (g.K.Sink.held c.args.sink.now) (g.K.Sink.held c.write_text.new.sink) (g.K.Sink.faults c.args.sink.now) (g.K.Sink.faults c.write_text.new.sink) c.write_text.result) (sym c.in-Text.is) c.write_text.ensures.written

pub returns-in-Summary-clause-written : goal.returns-in-Summary-clause-written
returns-in-Summary-clause-written g c = subst (λ (p : Print). HasWritten (printed p c.args.scenario.now c.args.run.now.journal.items c.args.run.now.traces.items) (g.K.Sink.held c.args.sink.now) (g.K.Sink.held c.write_summary.new.sink) (g.K.Sink.faults c.args.sink.now) (g.K.Sink.faults c.write_summary.new.sink) c.write_summary.result) (sym c.in-Summary.is) c.write_summary.ensures.written
