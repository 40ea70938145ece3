use Rattle.std.proofs.Common.{◌+◌, [], sym, refl, subst, rules}
use Rattle.pgn_base.specs.declared.command.Command.TheVariants.{Rollback}
use Rattle.pgn_language.specs.declared.scenario.ScriptLine.{ScriptLine}
use Rattle.pgn_outlet.specs.Passes.{knows}
use Rattle.pgn_messages.specs.Asks.{rollback_line, unlisten_line}
use Rattle.pgn_seats.specs.Working.{HasRunBoth}
use Rattle.pgn_seats.proofs.DoneLaws.{done-first, first-untold, leaves-done}
use Rattle.pgn_seats.proofs.ResultLaws.{err_then, ok_then, on_err, on_ok}
use Rattle.pgn_seats.proofs.SayLaws.{may-at, pushed-at, pushed-same}
use Rattle.pgn_seats.proofs.WorkLaws.{client-no, may-take}
use Rattle.pgn_seats.proofs.resetting.reset.Goals as goal

pub say_end-requires-clause-may : goal.say_end-requires-clause-may
say_end-requires-clause-may g c = may-at _ _ (knows c.args.tells.now) (sym (client-no c.args.desk.now.session c.take_both.new.desk.session c.take_both.ensures.same)) c.requires.may.may

pub take_both-requires : goal.take_both-requires
take_both-requires g c =
    may-take (g.H.Hub.is_pass c.args.service.now.hub.now) (g.H.Hub.shape c.args.service.now.hub.now) g.P.PassView.known c.rollback_at.result (rollback_line c.args.line) c.args.desk.now Rollback c.rollback_at.ensures refl refl c.requires.may.work c.requires.may.counted

pub returns-in_err-take_both-clause-tried : goal.returns-in_err-take_both-clause-tried
returns-in_err-take_both-clause-tried g c = record {
  alone = pushed-same c.args.desk.now.session.section.no (knows c.args.tells.now) (knows c.args.tells.now) refl;
  asks = c.take_both.ensures.asks;
  same = c.take_both.ensures.same;
  lawful = c.take_both.ensures.lawful;
  counted = c.take_both.ensures.counted;
  work = search rules;
  went = search rules;
  stopped = on_err c.from_residual.result _ (λ kept asks h. c.take_both.ensures.first asks (knows c.args.tells.now) (done-first [] asks c.args.desk.now.session kept (knows c.args.tells.now) h));
}

pub returns-clause-tried : goal.returns-clause-tried
returns-clause-tried g c = record {
  alone = pushed-at _ _ _ _ (client-no c.args.desk.now.session c.take_both.new.desk.session c.take_both.ensures.same) c.say_end.ensures.alone;
  asks = c.take_both.ensures.asks;
  same = c.take_both.ensures.same;
  lawful = c.take_both.ensures.lawful;
  counted = c.take_both.ensures.counted;
  work = on_ok c.say_end.result _ c.in_ok-take_both.ensures.work;
  went = ok_then c.say_end.result _ _
      (λ said asks h. leaves-done asks c.args.parting c.args.line c.args.desk.now.session c.take_both.new.desk.session c.args.desk.now.settings c.freshen.new.settings (knows c.args.tells.now) (knows c.say_end.new.tells) h
      (subst (λ (l : ScriptLine). HasRunBoth c.args.desk.now.session l (unlisten_line (l.line + 1)) c.take_both.new.desk.session) c.rollback_at.ensures c.in_ok-take_both.ensures.ran) c.freshen.ensures said) c.say_end.ensures.said;
  stopped = err_then c.say_end.result _ _
      (λ same kept asks h. first-untold asks c.take_both.new.desk.session (knows c.args.tells.now) (knows c.say_end.new.tells) same
      (c.take_both.ensures.first asks (knows c.args.tells.now) (done-first [] asks c.args.desk.now.session kept (knows c.args.tells.now) h))) c.say_end.ensures.unsaid;
}
