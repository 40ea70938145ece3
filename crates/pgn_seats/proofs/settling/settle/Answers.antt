use Rattle.std.proofs.Common.{[], refl, rules}
use Rattle.pgn_outlet.specs.Passes.{knows}
use Rattle.pgn_session.proofs.LawfulLaws.{rest-lawful}
use Rattle.pgn_seats.proofs.DoneLaws.{done-first, first-untold, settles-done}
use Rattle.pgn_seats.proofs.ResultLaws.{err_then, ok_then, on_err, on_ok}
use Rattle.pgn_seats.proofs.SayLaws.{pushed-same, said-as}
use Rattle.pgn_seats.proofs.WorkLaws.{client-same}
use Rattle.pgn_seats.proofs.settling.settle.Goals as goal

pub say-requires-clause-may : goal.say-requires-clause-may
say-requires-clause-may g c = c.requires.may.may

pub returns-in_err-bytes-clause-tried : goal.returns-in_err-bytes-clause-tried
returns-in_err-bytes-clause-tried g c = record {
  alone = pushed-same c.args.desk.now.session.section.no (knows c.args.tells.now) (knows c.args.tells.now) refl;
  asks = refl;
  same = client-same c.args.desk.now.session c.args.desk.now.session refl;
  lawful = rest-lawful (g.H.Hub.shape c.args.service.now.hub.now) g.P.PassView.known c.args.desk.now.session c.requires.may.work.rested;
  counted = c.requires.may.counted;
  work = search rules;
  went = search rules;
  stopped = on_err c.from_residual.result _ (λ kept asks h. done-first [] asks c.args.desk.now.session kept (knows c.args.tells.now) h);
}

pub returns-clause-tried : goal.returns-clause-tried
returns-clause-tried g c = record {
  alone = c.say.ensures.alone;
  asks = refl;
  same = client-same c.args.desk.now.session c.args.desk.now.session refl;
  lawful = rest-lawful (g.H.Hub.shape c.args.service.now.hub.now) g.P.PassView.known c.args.desk.now.session c.requires.may.work.rested;
  counted = c.requires.may.counted;
  work = on_ok c.say.result _ c.requires.may.work;
  went = ok_then c.say.result _ _
      (λ said asks h. settles-done (g.H.Hub.is_pass c.args.service.now.hub.now) (g.H.Hub.shape c.args.service.now.hub.now) g.P.PassView.known asks c.args.settled.now c.state-state.result c.args.desk.now.session c.args.desk.now.settings c.tell_settled.new.settings
      (knows c.args.tells.now) (knows c.say.new.tells) c.requires.may.work h c.state-state.ensures c.in_ok-bytes.ensures.kept
      (said-as c.args.desk.now.session.section.no c.in_ok-bytes.bytes.items _ (knows c.args.tells.now) (knows c.say.new.tells) c.in_ok-bytes.ensures.told said)) c.say.ensures.said;
  stopped = err_then c.say.result _ _
      (λ same kept asks h. first-untold asks c.args.desk.now.session (knows c.args.tells.now) (knows c.say.new.tells) same (done-first [] asks c.args.desk.now.session kept (knows c.args.tells.now) h)) c.say.ensures.unsaid;
}
