use Rattle.std.proofs.Common.{◌≡◌, ◌+◌, ap, ◌∙◌, refl, rules, subst}
use Rattle.pgn_base.specs.declared.command.Command.TheVariants.{UnlistenAll}
use Rattle.pgn_language.specs.declared.scenario.ScriptLine.{ScriptLine}
use Rattle.pgn_session.proofs.OpenLaws.{same-client}
use Rattle.pgn_messages.specs.Asks.{unlisten_line}
use Rattle.pgn_seats.specs.Working.{HasRunBoth}
use Rattle.pgn_seats.proofs.DoneLaws.{both-ran, stays-both}
use Rattle.pgn_seats.proofs.ResultLaws.{ok_then}
use Rattle.pgn_seats.proofs.WorkLaws.{may-take}
use Rattle.pgn_seats.proofs.lines.take_both.Goals as goal

pub take_line-requires : goal.take_line-requires
take_line-requires g c = c.requires

pub take_line-requires-2 : goal.take_line-requires-2
take_line-requires-2 g c =
    may-take (g.H.Hub.is_pass c.args.service.now.hub.now) (g.H.Hub.shape c.args.service.now.hub.now) g.P.PassView.known c.unlisten_at-behind.result (unlisten_line c.in-Some.next) c.take_line.new.desk UnlistenAll c.unlisten_at-behind.ensures refl refl
    c.in_ok-take_line.ensures.work c.take_line.ensures.counted

pub returns-in_err-take_line : goal.returns-in_err-take_line
returns-in_err-take_line g c = record {
  asks = c.take_line.ensures.asks;
  settings = c.take_line.ensures.settings;
  same = c.take_line.ensures.same;
  lawful = c.take_line.ensures.lawful;
  first = c.take_line.ensures.first;
  counted = c.take_line.ensures.counted;
  work = search rules;
  ran = search rules;
}

pub returns-in_default : goal.returns-in_default
returns-in_default g c = record {
  asks = c.take_line.ensures.asks;
  settings = c.take_line.ensures.settings;
  same = c.take_line.ensures.same;
  lawful = c.take_line.ensures.lawful;
  first = c.take_line.ensures.first;
  counted = c.take_line.ensures.counted;
  work = tt;
  ran = tt;
}

pub returns : goal.returns
returns g c =
    let next : c.in-Some.next ≡ c.args.line.line + 1 = search rules in
    let behind : c.unlisten_at-behind.result ≡ unlisten_line (c.args.line.line + 1) = c.unlisten_at-behind.ensures ∙ ap unlisten_line next in
    let old = c.args.desk.now.session in
    let mid = c.take_line.new.desk.session in
    let new = c.take_line-2.new.desk.session in
    record {
      asks = c.take_line-2.ensures.asks ∙ c.take_line.ensures.asks;
      settings = c.take_line-2.ensures.settings ∙ c.take_line.ensures.settings;
      same = same-client old mid new c.take_line.ensures.same c.take_line-2.ensures.same;
      lawful = c.take_line-2.ensures.lawful;
      first = stays-both old mid new c.take_line.ensures.first c.take_line-2.ensures.first;
      counted = c.take_line-2.ensures.counted;
      work = c.take_line-2.ensures.work;
      ran = ok_then c.take_line-2.result _ _
          (λ put. subst (λ (l : ScriptLine). HasRunBoth old c.args.line l new) behind
          (both-ran old mid new c.args.line c.unlisten_at-behind.result c.in_ok-take_line.ensures.ran.ran c.in_ok-take_line.ensures.ran.section put.ran put.section)) c.take_line-2.ensures.ran;
    }
