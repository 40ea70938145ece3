use Rattle.pgn_live.proofs.RoundLaws.{gave-up-lawful, ready-held}
use Rattle.pgn_live.proofs.lives.give_up_first.Goals as goal

pub returns-clause-lawful : goal.returns-clause-lawful
returns-clause-lawful g c =
    gave-up-lawful (g.H.Hub.is_pass c.args.hub.now) (g.H.Hub.shape c.args.hub.now) g.P.PassView.known c.args.sessions.now c.give_up_all.new.sessions c.requires.ready c.give_up_all.ensures.scripts c.give_up_all.ensures.shown

pub give_up_all-requires : goal.give_up_all-requires
give_up_all-requires g c = record { held = ready-held (g.H.Hub.is_pass c.args.hub.now) (g.H.Hub.shape c.args.hub.now) g.P.PassView.known c.args.sessions.now c.requires.ready }
