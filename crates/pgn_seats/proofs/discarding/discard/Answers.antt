use Rattle.std.proofs.Common.{◌≡◌, ◌+◌, [], drop, length, ap, sym, ◌∙◌, refl, rules, subst}
use Rattle.std.specs.Prelude.{flat_map}
use Rattle.pgn_base.specs.declared.command.Command.TheVariants.{Bad}
use Rattle.pgn_language.specs.declared.scenario.ScriptLine.{ScriptLine}
use Rattle.pgn_outlet.specs.Passes.{knows}
use Rattle.pgn_requests.specs.Settings.{Kept}
use Rattle.pgn_messages.specs.Asks.{discard_line, unlisten_line}
use Rattle.pgn_messages.specs.Served.{discard_answer, discarded}
use Rattle.pgn_messages.specs.Turns.{heard}
use Rattle.pgn_seats.specs.Working.{HasRunBoth}
use Rattle.pgn_seats.proofs.DoneLaws.{discards-done, done-first, first-untold}
use Rattle.pgn_seats.proofs.ResultLaws.{err_then, ok_then, on_err, on_ok}
use Rattle.pgn_seats.proofs.SayLaws.{may-at, pushed-at, pushed-same, said-as}
use Rattle.pgn_seats.proofs.WorkLaws.{client-no, may-take}
use Rattle.pgn_seats.proofs.discarding.discard.Goals as goal

pub say-requires-clause-may : goal.say-requires-clause-may
say-requires-clause-may g c = may-at _ _ (knows c.args.tells.now) (sym (client-no c.args.desk.now.session c.take_both.new.desk.session c.take_both.ensures.same)) c.requires.may.may

pub take_both-requires : goal.take_both-requires
take_both-requires g c =
    may-take (g.H.Hub.is_pass c.args.service.now.hub.now) (g.H.Hub.shape c.args.service.now.hub.now) g.P.PassView.known c.discard_at.result (discard_line c.args.line) c.args.desk.now (Bad 0) c.discard_at.ensures refl refl c.requires.may.work c.requires.may.counted

pub returns-in_err-take_both-clause-tried : goal.returns-in_err-take_both-clause-tried
returns-in_err-take_both-clause-tried g c = record {
  alone = pushed-same c.args.desk.now.session.section.no (knows c.args.tells.now) (knows c.args.tells.now) refl;
  asks = c.take_both.ensures.asks;
  same = c.take_both.ensures.same;
  lawful = c.take_both.ensures.lawful;
  counted = c.take_both.ensures.counted;
  work = search rules;
  went = search rules;
  stopped = on_err c.from_residual.result _ (λ kept asks h. c.take_both.ensures.first asks (knows c.args.tells.now) (done-first [] asks c.args.desk.now.session kept (knows c.args.tells.now) h));
}

pub returns-in_err-bytes-clause-tried : goal.returns-in_err-bytes-clause-tried
returns-in_err-bytes-clause-tried g c = record {
  alone = pushed-same c.args.desk.now.session.section.no (knows c.args.tells.now) (knows c.args.tells.now) refl;
  asks = c.take_both.ensures.asks;
  same = c.take_both.ensures.same;
  lawful = c.take_both.ensures.lawful;
  counted = c.take_both.ensures.counted;
  work = search rules;
  went = search rules;
  stopped = on_err c.from_residual-in_err-bytes.result _ (λ kept asks h. c.take_both.ensures.first asks (knows c.args.tells.now) (done-first [] asks c.args.desk.now.session kept (knows c.args.tells.now) h));
}

pub returns-clause-tried : goal.returns-clause-tried
returns-clause-tried g c = record {
  alone = pushed-at _ _ _ _ (client-no c.args.desk.now.session c.take_both.new.desk.session c.take_both.ensures.same) c.say.ensures.alone;
  asks = c.take_both.ensures.asks;
  same = c.take_both.ensures.same;
  lawful = c.take_both.ensures.lawful;
  counted = c.take_both.ensures.counted;
  work = on_ok c.say.result _ c.in_ok-take_both.ensures.work;
  went = let from : c.len-from.result ≡ length c.args.desk.now.session.items.items = search rules in
      let ran = subst (λ (l : ScriptLine). HasRunBoth c.args.desk.now.session l (unlisten_line (l.line + 1)) c.take_both.new.desk.session) c.discard_at.ensures c.in_ok-take_both.ensures.ran in
      let settings = c.take_both.ensures.settings in
      let kept = c.in_ok-bytes.ensures.kept ∙ ap (λ (k : Kept). discarded c.state-state.result k) settings in
      let told =
      c.in_ok-bytes.ensures.told
      ∙ ap (λ (k : Kept). discard_answer c.state-state.result k (flat_map heard (drop c.len-from.result c.take_both.new.desk.session.items.items))) settings in
      ok_then c.say.result _ _
      (λ said asks h. discards-done (g.H.Hub.is_pass c.args.service.now.hub.now) (g.H.Hub.shape c.args.service.now.hub.now) g.P.PassView.known asks c.args.line c.len-from.result c.state-state.result c.args.desk.now.session c.take_both.new.desk.session
      c.args.desk.now.settings c.discard_bytes.new.settings (knows c.args.tells.now) (knows c.say.new.tells) c.requires.may.work h ran from c.state-state.ensures kept
      (said-as _ c.in_ok-bytes.bytes.items _ (knows c.args.tells.now) (knows c.say.new.tells) told said)) c.say.ensures.said;
  stopped = err_then c.say.result _ _
      (λ same kept asks h. first-untold asks c.take_both.new.desk.session (knows c.args.tells.now) (knows c.say.new.tells) same
      (c.take_both.ensures.first asks (knows c.args.tells.now) (done-first [] asks c.args.desk.now.session kept (knows c.args.tells.now) h))) c.say.ensures.unsaid;
}
