use Rattle.std.proofs.Common.{get_or}
use Rattle.pgn_session.specs.Runs.{IsReady, slept}
use Rattle.pgn_session.proofs.SleepLaws.{rest-below}
use Rattle.pgn_session.proofs.TogetherLaws.{one-held, one-changed}
use Rattle.pgn_session.proofs.together.wait_alone.Goals as goal

pub wait_once-requires-clause-own : goal.wait_once-requires-clause-own
wait_once-requires-clause-own g c =
    (one-held (IsReady (g.H.Hub.is_pass c.args.hub.now) (g.H.Hub.shape c.args.hub.now) g.P.PassView.known) c.args.sessions.now c.index-sessions-0.result c.requires.one c.requires.ready).own

pub wait_once-requires-clause-ends : goal.wait_once-requires-clause-ends
wait_once-requires-clause-ends g c =
    (one-held (IsReady (g.H.Hub.is_pass c.args.hub.now) (g.H.Hub.shape c.args.hub.now) g.P.PassView.known) c.args.sessions.now c.index-sessions-0.result c.requires.one c.requires.ready).served.ends

pub wait_once-requires-clause-awaited : goal.wait_once-requires-clause-awaited
wait_once-requires-clause-awaited g c =
    let ready = one-held (IsReady (g.H.Hub.is_pass c.args.hub.now) (g.H.Hub.shape c.args.hub.now) g.P.PassView.known) c.args.sessions.now c.index-sessions-0.result c.requires.one c.requires.ready in
    rest-below (g.H.Hub.shape c.args.hub.now) g.P.PassView.known (get_or c.args.sessions.now 0 c.index-sessions-0.result) ready.served ready.rested

pub returns : goal.returns
returns g c =
    let waited = c.wait_once.ensures in
    (waited.0, waited.1, one-changed (slept waited.0) c.args.sessions.now c.index-sessions-0.result c.wait_once.new.self c.requires.one waited.2)
