use Rattle.std.proofs.Common.{◌∙◌, Result, Ok, Err, IfOk, ap, refl, subst, sym}
use Rattle.pgn_options.specs.declared.asked.Asked.{Asked}
use Rattle.pgn_options.specs.declared.reading.WordsFault.{WordsFault}
use Rattle.pgn_options.specs.Words.{IsWithin}
use Rattle.pgn_run.specs.Calls.{Performed, RunEnds}
use Rattle.pgn_run.specs.Run.{settings_with}
use Rattle.pgn_run.specs.declared.print.Shows.{Shows}
use Rattle.pgn_run.specs.declared.status.Status.TheVariants.{BadWords, NoMemory}
use Rattle.pgn_run.proofs.run.perform.Goals as goal

pub run-requires-clause-some_pages : goal.run-requires-clause-some_pages
run-requires-clause-some_pages g c κs within = (subst (λ (r : Result Asked WordsFault). IfOk r IsWithin) (c.in-Ok-Run.is ∙ ap Ok (rw c.in-Ok-Run.is at c.in-Ok-Run.field-0-is)) c.requires).0

pub run-requires-clause-few_pages : goal.run-requires-clause-few_pages
run-requires-clause-few_pages g c κs within = (subst (λ (r : Result Asked WordsFault). IfOk r IsWithin) (c.in-Ok-Run.is ∙ ap Ok (rw c.in-Ok-Run.is at c.in-Ok-Run.field-0-is)) c.requires).1

pub run-requires-clause-patient : goal.run-requires-clause-patient
run-requires-clause-patient g c κs within = (subst (λ (r : Result Asked WordsFault). IfOk r IsWithin) (c.in-Ok-Run.is ∙ ap Ok (rw c.in-Ok-Run.is at c.in-Ok-Run.field-0-is)) c.requires).2

pub drill-requires-clause-some_sessions : goal.drill-requires-clause-some_sessions
drill-requires-clause-some_sessions g c κs within = (subst (λ (r : Result Asked WordsFault). IfOk r IsWithin) (c.in-Ok-Drill.is ∙ ap Ok (rw c.in-Ok-Drill.is at c.in-Ok-Drill.field-0-is)) c.requires).0

pub drill-requires-clause-few_sessions : goal.drill-requires-clause-few_sessions
drill-requires-clause-few_sessions g c κs within = (subst (λ (r : Result Asked WordsFault). IfOk r IsWithin) (c.in-Ok-Drill.is ∙ ap Ok (rw c.in-Ok-Drill.is at c.in-Ok-Drill.field-0-is)) c.requires).1

pub drill-requires-clause-few_notes : goal.drill-requires-clause-few_notes
drill-requires-clause-few_notes g c κs within = (subst (λ (r : Result Asked WordsFault). IfOk r IsWithin) (c.in-Ok-Drill.is ∙ ap Ok (rw c.in-Ok-Drill.is at c.in-Ok-Drill.field-0-is)) c.requires).3

pub serve-requires-clause-some : goal.serve-requires-clause-some
serve-requires-clause-some g c κs within = (subst (λ (r : Result Asked WordsFault). IfOk r IsWithin) (c.in-Ok-Serve.is ∙ ap Ok (rw c.in-Ok-Serve.is at c.in-Ok-Serve.field-0-is)) c.requires).0

pub serve-requires-clause-few : goal.serve-requires-clause-few
serve-requires-clause-few g c κs within = (subst (λ (r : Result Asked WordsFault). IfOk r IsWithin) (c.in-Ok-Serve.is ∙ ap Ok (rw c.in-Ok-Serve.is at c.in-Ok-Serve.field-0-is)) c.requires).1

pub returns-in-Ok-Run : goal.returns-in-Ok-Run
returns-in-Ok-Run g c =
    subst (λ (r : Result Asked WordsFault). Performed g.S.Source.left g.S.Source.faults g.K.Sink.held g.K.Sink.faults r c.args.source.now c.run.new.source c.args.sink.now c.run.new.sink c.run.result) (sym (c.in-Ok-Run.is ∙ ap Ok (rw c.in-Ok-Run.is at c.in-Ok-Run.field-0-is)))
    (subst (λ (s : Shows). RunEnds g.S.Source.left g.S.Source.faults g.K.Sink.held g.K.Sink.faults s (settings_with c.in-Ok-Run.pages c.in-Ok-Run.patience c.in-Ok-Run.format) c.args.source.now c.run.new.source c.args.sink.now c.run.new.sink c.run.result) c.shows_if.ensures c.run.ensures)

pub returns-in-Ok-Drill : goal.returns-in-Ok-Drill
returns-in-Ok-Drill g c =
    subst (λ (r : Result Asked WordsFault). Performed g.S.Source.left g.S.Source.faults g.K.Sink.held g.K.Sink.faults r c.args.source.now c.args.source.now c.args.sink.now c.drill.new.sink c.drill.result) (sym (c.in-Ok-Drill.is ∙ ap Ok (rw c.in-Ok-Drill.is at c.in-Ok-Drill.field-0-is)))
    (record { done = c.drill.ensures.done; write_fault = c.drill.ensures.write_fault; write_fault_where_due = c.drill.ensures.write_fault_where_due; write_fault_writes_a_prefix = c.drill.ensures.write_fault_writes_a_prefix; no_memory_writes_nothing = c.drill.ensures.no_memory_writes_nothing; only = c.drill.ensures.only; reads = refl })

pub returns-in-Ok-Wire : goal.returns-in-Ok-Wire
returns-in-Ok-Wire g c =
    subst (λ (r : Result Asked WordsFault). Performed g.S.Source.left g.S.Source.faults g.K.Sink.held g.K.Sink.faults r c.args.source.now c.wire.new.source c.args.sink.now c.wire.new.sink c.wire.result) (sym (c.in-Ok-Wire.is ∙ ap Ok (rw c.in-Ok-Wire.is at c.in-Ok-Wire.field-0-is)))
    (record { answers = c.wire.ensures.answers; own = c.wire.ensures.own; read_fault = c.wire.ensures.read_fault; read_fault_where_due = c.wire.ensures.read_fault_where_due; write_fault = c.wire.ensures.write_fault; write_fault_where_due = c.wire.ensures.write_fault_where_due })

pub returns-in-Ok-Serve : goal.returns-in-Ok-Serve
returns-in-Ok-Serve g c =
    subst (λ (r : Result Asked WordsFault). Performed g.S.Source.left g.S.Source.faults g.K.Sink.held g.K.Sink.faults r c.args.source.now c.serve.new.source c.args.sink.now c.serve.new.sink c.serve.result) (sym (c.in-Ok-Serve.is ∙ ap Ok (rw c.in-Ok-Serve.is at c.in-Ok-Serve.field-0-is)))
    (record { answers = c.serve.ensures.answers; own = c.serve.ensures.own; read_fault = c.serve.ensures.read_fault; fault_where_due = c.serve.ensures.fault_where_due; write_fault = c.serve.ensures.write_fault; write_fault_where_due = c.serve.ensures.write_fault_where_due })

pub returns-in-Ok-Check : goal.returns-in-Ok-Check
returns-in-Ok-Check g c =
    subst (λ (r : Result Asked WordsFault). Performed g.S.Source.left g.S.Source.faults g.K.Sink.held g.K.Sink.faults r c.args.source.now c.check.new.source c.args.sink.now c.check.new.sink c.check.result) (sym (c.in-Ok-Check.is ∙ ap Ok (rw c.in-Ok-Check.is at c.in-Ok-Check.field-0-is)))
    (record { answers = c.check.ensures.answers; own = c.check.ensures.own; what_was_read = c.check.ensures.what_was_read; nothing = c.check.ensures.nothing; read_fault = c.check.ensures.read_fault; read_fault_where_due = c.check.ensures.read_fault_where_due; write_fault = c.check.ensures.write_fault; write_fault_where_due = c.check.ensures.write_fault_where_due })

pub returns-in-Err-BadWords : goal.returns-in-Err-BadWords
returns-in-Err-BadWords g c =
    subst (λ (r : Result Asked WordsFault). Performed g.S.Source.left g.S.Source.faults g.K.Sink.held g.K.Sink.faults r c.args.source.now c.args.source.now c.args.sink.now c.args.sink.now BadWords) (sym (c.in-Err-BadWords.is ∙ ap Err (rw c.in-Err-BadWords.is at c.in-Err-BadWords.field-0-is)))
    (record { is = refl; reads = refl; writes = refl })

pub returns-in-Err-Memory : goal.returns-in-Err-Memory
returns-in-Err-Memory g c =
    subst (λ (r : Result Asked WordsFault). Performed g.S.Source.left g.S.Source.faults g.K.Sink.held g.K.Sink.faults r c.args.source.now c.args.source.now c.args.sink.now c.args.sink.now NoMemory) (sym (c.in-Err-Memory.is ∙ ap Err (rw c.in-Err-Memory.is at c.in-Err-Memory.field-0-is)))
    (record { is = refl; reads = refl; writes = refl })
