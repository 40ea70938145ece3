use Rattle.std.proofs.Common.{List, All, subst}
use Rattle.std.proofs.lemmas.List.{take_all}
use Rattle.std.proofs.lemmas.List.Elements.{All-more}
use Rattle.pgn_session.specs.declared.session.Session.{Session}
use Rattle.pgn_live.specs.Turns.{IsWhollyToldBy}
use Rattle.pgn_live.proofs.live_sessions.have_told.Goals as goal

pub loop-session-preserved : goal.loop-session-preserved
loop-session-preserved g c =
    All-more (IsWhollyToldBy c.args.told.now) c.args.sessions.now c.loop-session.session-index c.session-item.result c.loop-session-test.true c.loop-session.invariant
    (subst (λ (s : Session g.row.P.Denot). IsWhollyToldBy c.args.told.now s) c.session-item.is (c.is_told.ensures c.if-not-is_told.false))

pub returns : goal.returns
returns g c = λ told.
    subst (λ (ss : List (Session g.row.P.Denot)). All (IsWhollyToldBy c.args.told.now) ss) (take_all c.loop-session.session-index c.args.sessions.now c.loop-session-test.false) c.loop-session.invariant
