use Rattle.std.proofs.Common.{List, ℕ, Ok, subst, sym}
use Rattle.pgn_language.specs.Inputs.{ReadsAsScenario}
use Rattle.pgn_drill.proofs.ReadLaws.{drill-reads}
use Rattle.pgn_run.specs.Run.{drill_settings}
use Rattle.pgn_run.specs.declared.print.Print.TheVariants.{Summary}
use Rattle.pgn_run.proofs.OverLaws.{drill-answers, memory-done, memory-fault}
use Rattle.pgn_run.proofs.run.drill.Goals as goal

pub returns-clause-only : goal.returns-clause-only
returns-clause-only g c =
    let read = drill-reads c.args.seed c.args.sessions c.args.notes c.requires.some_sessions c.requires.few_sessions c.requires.few_notes in
    let reads = subst (λ (text : List ℕ). ReadsAsScenario text (Ok read.0)) (sym c.in-Ok.ensures) read.1 in
    drill-answers (Summary c.args.seed c.args.notes) drill_settings c.in-Ok.input.items read.0 (g.K.Sink.held c.args.sink.now) (g.K.Sink.held c.answer.new.sink)
    (g.K.Sink.faults c.args.sink.now) (g.K.Sink.faults c.answer.new.sink) c.answer.result reads c.answer.ensures.answers

pub returns-in_default-clause-done : goal.returns-in_default-clause-done
returns-in_default-clause-done g c = λ e. memory-done e

pub returns-in_default-clause-write_fault_writes_a_prefix : goal.returns-in_default-clause-write_fault_writes_a_prefix
returns-in_default-clause-write_fault_writes_a_prefix g c = λ e. memory-fault e
