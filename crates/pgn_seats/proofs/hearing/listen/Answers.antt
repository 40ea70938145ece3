use Rattle.std.proofs.Common.{◌≡◌, [], length, sym, refl, rules}
use Rattle.pgn_outlet.specs.Passes.{knows}
use Rattle.pgn_session.proofs.LawfulLaws.{answer-lawful, rest-lawful}
use Rattle.pgn_session.proofs.LineTakenLaws.{idle-shows}
use Rattle.pgn_seats.proofs.DoneLaws.{done-first, first-untold, read-done, read-stays}
use Rattle.pgn_seats.proofs.ResultLaws.{on_err, on_ok}
use Rattle.pgn_seats.proofs.SayLaws.{may-at, pushed-at, pushed-same}
use Rattle.pgn_seats.proofs.WorkLaws.{no-read, rest-answers, within-grown, work-read}
use Rattle.pgn_seats.proofs.hearing.listen.Goals as goal

pub idle-requires-clause-own : goal.idle-requires-clause-own
idle-requires-clause-own g c = c.requires.work.own

pub idle-requires-clause-answered : goal.idle-requires-clause-answered
idle-requires-clause-answered g c =
    rest-answers (g.H.Hub.shape c.args.service.now.hub.now) g.P.PassView.known c.args.session.now c.requires.work.is_open.between c.requires.work.rested

pub say_heard-requires-clause-may : goal.say_heard-requires-clause-may
say_heard-requires-clause-may g c = may-at _ _ (knows c.args.tells.now) (sym (no-read c.args.session.now c.idle.new.self c.idle.ensures.same)) c.requires.may

pub say_heard-requires-clause-within : goal.say_heard-requires-clause-within
say_heard-requires-clause-within g c =
    let from : c.len-from.result ≡ length c.args.session.now.items.items = search rules in
    within-grown c.len-from.result _ _ from c.idle.ensures.grows

pub returns-in_err-done-clause-heard : goal.returns-in_err-done-clause-heard
returns-in_err-done-clause-heard g c = record {
  same = c.idle.ensures.same;
  alone = pushed-same c.args.session.now.section.no (knows c.args.tells.now) (knows c.args.tells.now) refl;
  lawful = answer-lawful (g.H.Hub.shape c.args.service.now.hub.now) g.P.PassView.known c.idle.new.self c.in_err-done.ensures.refused;
  work = search rules;
  went = search rules;
  stopped = on_err c.from_residual.result _ (λ kept asks h. read-stays c.args.session.now c.idle.new.self c.idle.ensures.same c.idle.ensures.grows asks (knows c.args.tells.now) (done-first [] asks c.args.session.now kept (knows c.args.tells.now) h));
  waits = search rules;
}

pub returns-in_err-say_heard-clause-heard : goal.returns-in_err-say_heard-clause-heard
returns-in_err-say_heard-clause-heard g c = record {
  same = c.idle.ensures.same;
  alone = pushed-at _ _ _ _ (no-read c.args.session.now c.idle.new.self c.idle.ensures.same) c.say_heard.ensures.alone;
  lawful = rest-lawful (g.H.Hub.shape c.args.service.now.hub.now) g.P.PassView.known c.idle.new.self c.in_ok-done.ensures.rested;
  work = search rules;
  went = search rules;
  stopped = on_err c.from_residual-in_err-say_heard.result _
      (λ kept asks h. first-untold asks c.idle.new.self (knows c.args.tells.now) (knows c.say_heard.new.tells) c.in_err-say_heard.ensures.unsaid
      (read-stays c.args.session.now c.idle.new.self c.idle.ensures.same c.idle.ensures.grows asks (knows c.args.tells.now) (done-first [] asks c.args.session.now kept (knows c.args.tells.now) h)));
  waits = search rules;
}

pub returns-clause-heard : goal.returns-clause-heard
returns-clause-heard g c =
    let from : c.len-from.result ≡ length c.args.session.now.items.items = search rules in
    let shows = idle-shows (g.H.Hub.shape c.args.service.now.hub.now).format _ _ _ c.args.session.now.items.items c.idle.new.self.items.items c.in_ok-done.done c.in_ok-done.ensures.idled in
    record {
      same = c.idle.ensures.same;
      alone = pushed-at _ _ _ _ (no-read c.args.session.now c.idle.new.self c.idle.ensures.same) c.say_heard.ensures.alone;
      lawful = rest-lawful (g.H.Hub.shape c.args.service.now.hub.now) g.P.PassView.known c.idle.new.self c.in_ok-done.ensures.rested;
      work = on_ok c.rest_behind.result _
          (work-read (g.H.Hub.is_pass c.args.service.now.hub.now) (g.H.Hub.shape c.args.service.now.hub.now) g.P.PassView.known c.args.session.now c.idle.new.self c.requires.work c.idle.ensures.own c.in_ok-done.ensures.rested c.idle.ensures.same);
      went = on_ok c.rest_behind.result _
          (λ kept asks h. read-done [] asks c.args.session.now c.idle.new.self kept (knows c.args.tells.now) (knows c.say_heard.new.tells) c.len-from.result h c.idle.ensures.same shows from c.in_ok-say_heard.ensures.said);
      stopped = on_err c.rest_behind.result _
          (λ kept asks h. done-first [] asks c.idle.new.self kept (knows c.say_heard.new.tells)
          (read-done [] asks c.args.session.now c.idle.new.self kept (knows c.args.tells.now) (knows c.say_heard.new.tells) c.len-from.result h c.idle.ensures.same shows from c.in_ok-say_heard.ensures.said));
      waits = c.rest_behind.ensures;
    }
