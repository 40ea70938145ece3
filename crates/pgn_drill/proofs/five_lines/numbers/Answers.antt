use Rattle.std.proofs.Common.{◌∙◌}
use Rattle.pgn_drill.proofs.SummaryLaws.{begun-fails, told, told-all, told-begun, told-front, told-whole}
use Rattle.pgn_drill.proofs.five_lines.numbers.Goals as goal

pub returns-in_err-number-clause-bytes : goal.returns-in_err-number-clause-bytes
returns-in_err-number-clause-bytes g c =
    begun-fails c.from_residual.result (g.K.Sink.held c.args.sink.now) (g.K.Sink.held c.number.new.sink) (told c.args.pieces.now) c.from_residual.ensures.0 (c.loop-piece.invariant.front (g.K.Sink.held c.number.new.sink)
    (told-begun c.args.pieces.now c.loop-piece.piece-index _ c.loop-piece-test.true (g.K.Sink.held c.loop-piece.sink) (g.K.Sink.held c.number.new.sink) c.in_err-number.ensures.bytes))

pub loop-piece-preserved : goal.loop-piece-preserved
loop-piece-preserved g c = record {
  whole = λ new h. c.loop-piece.invariant.whole new
      (told-whole c.args.pieces.now c.loop-piece.piece-index _ c.loop-piece-test.true (g.K.Sink.held c.loop-piece.sink) (g.K.Sink.held c.number.new.sink) new c.in_ok-number.ensures.bytes h);
  front = λ new h. c.loop-piece.invariant.front new
      (told-front c.args.pieces.now c.loop-piece.piece-index _ c.loop-piece-test.true (g.K.Sink.held c.loop-piece.sink) (g.K.Sink.held c.number.new.sink) new c.in_ok-number.ensures.bytes h);
  same = c.in_ok-number.ensures.cause.passed ∙ c.loop-piece.invariant.same;
}

pub returns-clause-bytes : goal.returns-clause-bytes
returns-clause-bytes g c =
    c.loop-piece.invariant.whole (g.K.Sink.held c.loop-piece.sink) (told-all c.args.pieces.now c.loop-piece.piece-index (g.K.Sink.held c.loop-piece.sink) c.loop-piece-test.false)
