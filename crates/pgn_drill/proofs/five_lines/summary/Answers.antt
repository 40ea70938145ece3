use Rattle.std.proofs.Common.{◌∙◌}
use Rattle.pgn_model.specs.Text.{received_in}
use Rattle.pgn_drill.proofs.SummaryLaws.{received-is, summary-begun, summary-written}
use Rattle.pgn_drill.proofs.five_lines.summary.Goals as goal

pub returns-in-Ok-clause-bytes : goal.returns-in-Ok-clause-bytes
returns-in-Ok-clause-bytes g c =
    summary-written (g.K.Sink.held c.args.sink.now) (g.K.Sink.held c.numbers.new.sink) c.args.seed c.args.notes c.args.journal.now c.args.traces.now c.committed-done.result c.unwrap_or.result
    c.committed-done.ensures (c.unwrap_or.ensures ∙ received-is c.received.result (received_in c.args.traces.now) c.received.ensures c.requires)
    (g.K.Sink.held c.write_all.new.sink) c.write_all.result c.in-Ok.ensures.bytes c.write_all.ensures.bytes

pub returns-in-Err-clause-bytes : goal.returns-in-Err-clause-bytes
returns-in-Err-clause-bytes g c =
    summary-begun (g.K.Sink.held c.args.sink.now) (g.K.Sink.held c.numbers.new.sink) c.args.seed c.args.notes c.args.journal.now c.args.traces.now c.committed-done.result c.unwrap_or.result
    c.committed-done.ensures (c.unwrap_or.ensures ∙ received-is c.received.result (received_in c.args.traces.now) c.received.ensures c.requires) c.in-Err.ensures.bytes
