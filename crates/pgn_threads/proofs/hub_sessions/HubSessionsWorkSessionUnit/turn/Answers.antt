use Rattle.std.proofs.Common.{[]}
use Rattle.std.proofs.lemmas.List.Elements.{All-head}
use Rattle.pgn_session.specs.Runs.{IsReady}
use Rattle.pgn_threads.proofs.WorkLaws.{one-turn}
use Rattle.pgn_threads.proofs.hub_sessions.HubSessionsWorkSessionUnit.turn.Goals as goal

pub take_turn-requires : goal.take_turn-requires
take_turn-requires g c = record { ready = All-head (IsReady (g.H.Hub.is_pass c.args.self.now.hub.now) (g.H.Hub.shape c.args.self.now.hub.now) g.P.PassView.known) c.args.session.now [] c.requires }

pub returns-clause-took : goal.returns-clause-took
returns-clause-took g c = one-turn (g.H.Hub.is_pass c.args.self.now.hub.now) (g.H.Hub.shape c.args.self.now.hub.now) g.P.PassView.known c.args.session.now c.take_turn.new.session c.take_turn.result c.take_turn.ensures

pub returns-clause-ready : goal.returns-clause-ready
returns-clause-ready g c = c.take_turn.ensures.ready

pub returns-clause-over : goal.returns-clause-over
returns-clause-over g c = c.take_turn.ensures.over
