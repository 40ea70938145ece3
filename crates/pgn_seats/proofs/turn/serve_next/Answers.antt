use Rattle.std.proofs.Common.{[], ◌∷◌, ◌++◌, Option, ap, ◌∙◌}
use Rattle.pgn_outlet.specs.Passes.{knows}
use Rattle.pgn_session.proofs.OpenLaws.{quit-unread}
use Rattle.pgn_messages.specs.declared.asked.Ask.{Ask}
use Rattle.pgn_seats.specs.Serving.{taken}
use Rattle.pgn_seats.proofs.SeatLaws.{turned-did, turned-idle, turned-not, turned-open, turned-over}
use Rattle.pgn_seats.proofs.turn.serve_next.Goals as goal

pub run_line-requires : goal.run_line-requires
run_line-requires g c =
    record {
      own = c.requires.serves.own;
      served = c.requires.serves.served;
      rested = c.requires.serves.rested;
      read_up = λ first. absurd (quit-unread c.args.desk.now.session c.requires.serves.is_open first);
    }

pub returns-in-Ok-clause-turned : goal.returns-in-Ok-clause-turned
returns-in-Ok-clause-turned g c =
    turned-did (g.H.Hub.is_pass c.args.service.now.hub.now) (g.H.Hub.shape c.args.service.now.hub.now) g.P.PassView.known c.args.service.now.inboxes.now c.args.desk.now c.serve-served.new.desk c.take_ask.new.asks c.in-Some-Some.ask (knows c.args.tells.now)
    (knows c.serve-served.new.tells) _ c.requires.serves c.take_ask.ensures.own c.take_ask.ensures.takes (c.in-Some-Some.ensures.took ∙ ap (λ (o : Option Ask). taken c.args.desk.now.session.section.no (knows c.args.desk.now.asks) ++ o ∷ []) c.in-Some-Some.field-0-is)
    c.in-Ok.ensures.tried

pub returns-in-Err-clause-turned : goal.returns-in-Err-clause-turned
returns-in-Err-clause-turned g c =
    turned-not (g.H.Hub.is_pass c.args.service.now.hub.now) (g.H.Hub.shape c.args.service.now.hub.now) g.P.PassView.known c.args.service.now.inboxes.now c.args.desk.now c.serve-served.new.desk c.take_ask.new.asks c.in-Some-Some.field-0 c.in-Some-Some.ask (knows c.args.tells.now)
    (knows c.serve-served.new.tells) _ _ c.requires.serves c.take_ask.ensures.own c.take_ask.ensures.takes c.in-Some-Some.ensures.took c.in-Err.ensures.tried

pub returns-in-Ok-run_line-clause-turned : goal.returns-in-Ok-run_line-clause-turned
returns-in-Ok-run_line-clause-turned g c =
    turned-over (g.H.Hub.is_pass c.args.service.now.hub.now) (g.H.Hub.shape c.args.service.now.hub.now) g.P.PassView.known c.args.service.now.inboxes.now c.args.desk.now c.run_line.new.session c.take_ask.new.asks (knows c.args.tells.now) c.requires.serves
    c.take_ask.ensures.own c.take_ask.ensures.takes (c.in-Some-None.ensures.took ∙ ap (λ (o : Option Ask). taken c.args.desk.now.session.section.no (knows c.args.desk.now.asks) ++ o ∷ []) c.in-Some-None.field-0-is) c.run_line.ensures.same
    c.run_line.ensures.own c.in-Ok-run_line.ensures.rested (c.in-Ok-run_line.ensures.quits c.requires.serves.is_open)

pub returns-in-Err-run_line-clause-turned : goal.returns-in-Err-run_line-clause-turned
returns-in-Err-run_line-clause-turned g c =
    turned-open (g.H.Hub.is_pass c.args.service.now.hub.now) (g.H.Hub.shape c.args.service.now.hub.now) g.P.PassView.known c.args.service.now.inboxes.now c.args.desk.now c.run_line.new.session c.take_ask.new.asks (knows c.args.tells.now) _ c.requires.serves
    c.take_ask.ensures.own c.take_ask.ensures.takes (c.in-Some-None.ensures.took ∙ ap (λ (o : Option Ask). taken c.args.desk.now.session.section.no (knows c.args.desk.now.asks) ++ o ∷ []) c.in-Some-None.field-0-is) c.run_line.ensures.same
    c.run_line.ensures.lawful c.run_line.ensures.first

pub returns-in-None-clause-turned : goal.returns-in-None-clause-turned
returns-in-None-clause-turned g c =
    turned-idle (g.H.Hub.is_pass c.args.service.now.hub.now) (g.H.Hub.shape c.args.service.now.hub.now) g.P.PassView.known c.args.service.now.inboxes.now c.args.desk.now c.listen.new.session c.take_ask.new.asks (knows c.args.tells.now) (knows c.listen.new.tells) c.listen.result
    c.requires.serves c.take_ask.ensures.own c.take_ask.ensures.takes c.in-None.ensures.found_none c.listen.ensures.heard
