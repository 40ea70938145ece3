use Rattle.pgn_service.proofs.ConversationLaws.{finished}
use Rattle.pgn_service.proofs.ClientLaws.{alone-is, own-one, session-one}
use Rattle.pgn_service.proofs.client.finish.Goals as goal

pub gather-roll-requires-clause-own : goal.gather-roll-requires-clause-own
gather-roll-requires-clause-own g c =
    own-one (g.H.Hub.is_pass c.args.hub) c.args.session.pass c.in-Ok.passes.items (alone-is c.in-Ok.passes.items c.into_log-pass.result.0 c.args.session.pass c.in-Ok.ensures c.into_log-pass.ensures.pass) c.requires.own

pub gather-roll-requires-clause-all : goal.gather-roll-requires-clause-all
gather-roll-requires-clause-all g c =
    session-one (g.H.Hub.shape c.args.hub) g.P.PassView.known c.args.session c.in-Ok.passes.items c.requires.rested c.requires.number
    (alone-is c.in-Ok.passes.items c.into_log-pass.result.0 c.args.session.pass c.in-Ok.ensures c.into_log-pass.ensures.pass) c.requires.shape

pub returns-in-Ok : goal.returns-in-Ok
returns-in-Ok g c = λ names.
    let all = alone-is c.in-Ok.passes.items c.into_log-pass.result.0 c.args.session.pass c.in-Ok.ensures c.into_log-pass.ensures.pass in
    finished c.runs_are_legal.ensures (g.H.Hub.shape c.args.hub) g.P.PassView.known c.args.session _ _ c.gather-roll.ensures all (rw c.into_log-pass.ensures.pass at c.is_within.ensures) c.requires.shape c.requires.rested c.requires.over
    c.requires.left c.requires.number c.requires.plan c.requires.patience names
