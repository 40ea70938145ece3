use Rattle.std.proofs.Common.{ℕ, List, inl, inr, refl, subst}
use Rattle.pgn_run.specs.Checking.{AnswersCheck}
use Rattle.pgn_run.specs.Run.{settings_of}
use Rattle.pgn_run.specs.declared.status.Status.TheVariants.{NoMemory, ReadFault}
use Rattle.pgn_run.proofs.CheckingLaws.{answers-left, fault-rose, own-answer, same-known, untold-same}
use Rattle.pgn_run.proofs.checking.check.Goals as goal

pub returns-in-Ok-clause-answers : goal.returns-in-Ok-clause-answers
returns-in-Ok-clause-answers g c =
    answers-left (settings_of c.args.settings) (g.S.Source.left c.args.source.now) c.in-Ok.input.items (g.K.Sink.held c.args.sink.now) (g.K.Sink.held c.judge-status.new.sink) _ _ c.judge-status.result
    c.in-Ok.ensures.bytes (subst (λ (bytes : List ℕ). AnswersCheck (settings_of c.args.settings) bytes (g.K.Sink.held c.args.sink.now) (g.K.Sink.held c.judge-status.new.sink) (g.K.Sink.faults c.args.sink.now) (g.K.Sink.faults c.judge-status.new.sink) c.judge-status.result) c.as_slice.ensures.value c.judge-status.ensures.answers)

pub returns-in-Ok-clause-own : goal.returns-in-Ok-clause-own
returns-in-Ok-clause-own g c = own-answer (settings_of c.args.settings) c.as_slice.result.now (g.K.Sink.held c.args.sink.now) (g.K.Sink.held c.judge-status.new.sink) _ _ c.judge-status.result c.judge-status.ensures.answers

pub returns-in-Ok-clause-nothing : goal.returns-in-Ok-clause-nothing
returns-in-Ok-clause-nothing g c = untold-same (settings_of c.args.settings) c.as_slice.result.now (g.K.Sink.held c.args.sink.now) (g.K.Sink.held c.judge-status.new.sink) _ _ c.judge-status.result c.judge-status.ensures.answers

pub returns-in-Ok-clause-write_fault : goal.returns-in-Ok-clause-write_fault
returns-in-Ok-clause-write_fault g c = fault-rose (settings_of c.args.settings) c.as_slice.result.now (g.K.Sink.held c.args.sink.now) (g.K.Sink.held c.judge-status.new.sink) _ _ c.judge-status.result c.judge-status.ensures.answers

pub returns-in-Err-Failed-clause-answers : goal.returns-in-Err-Failed-clause-answers
returns-in-Err-Failed-clause-answers g c = same-known (settings_of c.args.settings) (g.S.Source.left c.args.source.now) (g.K.Sink.held c.args.sink.now) (g.K.Sink.held c.args.sink.now) (g.K.Sink.faults c.args.sink.now) (g.K.Sink.faults c.args.sink.now) ReadFault (inl refl) refl

pub returns-in-Err-Memory-clause-answers : goal.returns-in-Err-Memory-clause-answers
returns-in-Err-Memory-clause-answers g c = same-known (settings_of c.args.settings) (g.S.Source.left c.args.source.now) (g.K.Sink.held c.args.sink.now) (g.K.Sink.held c.args.sink.now) (g.K.Sink.faults c.args.sink.now) (g.K.Sink.faults c.args.sink.now) NoMemory (inr refl) refl
