use Rattle.std.proofs.Common.{Err, ap, ◌∙◌}
use Rattle.pgn_run.specs.Run.{settings_of}
use Rattle.pgn_run.proofs.CommandLaws.{run-answered, run-short, run-unread}
use Rattle.pgn_run.proofs.run.run.Goals as goal

pub returns-in-Ok : goal.returns-in-Ok
returns-in-Ok g c =
    run-answered g.S.Source.left g.S.Source.faults g.K.Sink.held g.K.Sink.faults c.args.shows (settings_of c.args.settings) c.args.source.now c.read_input.new.source c.args.sink.now c.answer.new.sink c.in-Ok.input.items c.in-Ok.input
    c.answer.result c.read_input.result c.in-Ok.is c.read_input.ensures.rose c.in-Ok.ensures.bytes c.in-Ok.ensures.consumed c.answer.ensures.answers c.answer.ensures.rose

pub returns-in-Err-Failed : goal.returns-in-Err-Failed
returns-in-Err-Failed g c =
    run-unread g.S.Source.left g.S.Source.faults g.K.Sink.held g.K.Sink.faults c.args.shows (settings_of c.args.settings) c.args.source.now c.read_input.new.source c.args.sink.now
    (c.read_input.ensures.failed (c.in-Err-Failed.is ∙ ap Err c.in-Err-Failed.field-0-is))

pub returns-in-Err-Memory : goal.returns-in-Err-Memory
returns-in-Err-Memory g c =
    run-short g.S.Source.left g.S.Source.faults g.K.Sink.held g.K.Sink.faults c.args.shows (settings_of c.args.settings) c.args.source.now c.read_input.new.source c.args.sink.now c.read_input.result
    (c.in-Err-Memory.is ∙ ap Err c.in-Err-Memory.field-0-is) c.read_input.ensures.rose
