use Rattle.std.proofs.Common.{◌≡◌, ◌≤◌}
use Rattle.pgn_wire.specs.Serving.{IsReady, IsServing}
use Rattle.pgn_wire.proofs.serving.converse.Given as goal

-- the client was served so far
abbrev pub invariant-loop-query : goal.invariant-loop-query
invariant-loop-query g l = record {
  ready : IsReady (g.H.Hub.is_pass l.fn.host.hub.now) (g.H.Hub.shape l.fn.host.hub.now) g.P.PassView.known l.session;
  serving : IsServing l.fn.session l.session l.queries (g.S.Source.left l.fn.source) (g.S.Source.left l.source) (g.K.Sink.held l.fn.sink) (g.K.Sink.held l.sink);
  counted : l.queries.queries ≡ l._query;
  few : l.queries.queries ≤ 4294967294;
  source : g.S.Source.faults l.source ≡ g.S.Source.faults l.fn.source;
  sink : g.K.Sink.faults l.sink ≡ g.K.Sink.faults l.fn.sink;
}
