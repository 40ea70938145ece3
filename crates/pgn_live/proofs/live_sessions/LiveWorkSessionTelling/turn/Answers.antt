use Rattle.std.proofs.Common.{[]}
use Rattle.std.proofs.lemmas.List.Elements.{All-head}
use Rattle.pgn_outlet.specs.Passes.{knows}
use Rattle.pgn_outlet.specs.Rule.{MayPush}
use Rattle.pgn_session.specs.Runs.{IsReady}
use Rattle.pgn_session.specs.declared.session.Session.{Session}
use Rattle.pgn_live.specs.Turns.{IsToldBy}
use Rattle.pgn_live.proofs.WorkLaws.{part-turned}
use Rattle.pgn_live.proofs.live_sessions.LiveWorkSessionTelling.turn.Goals as goal

pub take_turn-requires-clause-own : goal.take_turn-requires-clause-own
take_turn-requires-clause-own g c = c.requires.own

pub take_turn-requires-clause-ready : goal.take_turn-requires-clause-ready
take_turn-requires-clause-ready g c = All-head (IsReady (g.H.Hub.is_pass c.args.self.now.hub.now) (g.H.Hub.shape c.args.self.now.hub.now) g.P.PassView.known) c.args.session.now [] c.requires.may.ready

pub take_turn-requires-clause-may : goal.take_turn-requires-clause-may
take_turn-requires-clause-may g c =
    All-head (λ (s : Session g.row.P.Denot). MayPush (knows c.args.telling.now.pass) s.section.no) c.args.session.now [] c.requires.may.may

pub take_turn-requires-clause-told : goal.take_turn-requires-clause-told
take_turn-requires-clause-told g c =
    All-head (IsToldBy c.args.telling.now.told (knows c.args.telling.now.pass)) c.args.session.now [] c.requires.may.so_far

pub returns-clause-took : goal.returns-clause-took
returns-clause-took g c =
    part-turned (g.H.Hub.is_pass c.args.self.now.hub.now) (g.H.Hub.shape c.args.self.now.hub.now) g.P.PassView.known c.args.self.now.outlet.now c.args.session.now c.take_turn.new.session c.args.telling.now c.take_turn.new.telling c.take_turn.result c.take_turn.ensures.own c.take_turn.ensures.told

pub returns-clause-ready : goal.returns-clause-ready
returns-clause-ready g c = c.take_turn.ensures.told.ready

pub returns-clause-over : goal.returns-clause-over
returns-clause-over g c = c.take_turn.ensures.told.over
