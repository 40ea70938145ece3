use Rattle.std.proofs.Common.{[], ◌∷◌, ap, sym, ◌∙◌, refl, rules}
use Rattle.pgn_language.specs.declared.scenario.Section.{Section}
use Rattle.pgn_language.specs.Inputs.{note_lines_of}
use Rattle.pgn_outlet.specs.Passes.{knows}
use Rattle.pgn_session.proofs.OpenLaws.{quit-same, same-client}
use Rattle.pgn_messages.specs.Asks.{line_of}
use Rattle.pgn_seats.proofs.DoneLaws.{done-first, done-kept, put-done, same-stays}
use Rattle.pgn_seats.proofs.ResultLaws.{err_then, ok_then, on_err}
use Rattle.pgn_seats.proofs.SayLaws.{may-at, may-still, pushed-at, pushed-both, pushed-same}
use Rattle.pgn_seats.proofs.WorkLaws.{client-fed, client-no, client-read, client-same, lawful-same, line-put, notes-read, put-asks, put-settings}
use Rattle.pgn_seats.proofs.answering.answer.Goals as goal

pub put_query-requires-clause-is_open : goal.put_query-requires-clause-is_open
put_query-requires-clause-is_open g c = c.requires.may.work.is_open

pub hear_before-requires-clause-may : goal.hear_before-requires-clause-may
hear_before-requires-clause-may g c =
    let fed = client-fed c.args.desk.now.session c.put_query.new.desk.session (line_of c.args.query.now) c.in_ok-put_query.ensures.fed in
    may-at _ _ (knows c.args.tells.now) (sym (client-no c.args.desk.now.session c.put_query.new.desk.session fed)) c.requires.may.may

pub hear_before-requires-clause-line : goal.hear_before-requires-clause-line
hear_before-requires-clause-line g c =
    let shape = g.H.Hub.shape c.args.service.now.hub.now in (
      line_of c.args.query.now,
      line-put (g.H.Hub.is_pass c.args.service.now.hub.now) shape g.P.PassView.known c.args.desk.now.session c.put_query.new.desk.session (line_of c.args.query.now) (c.args.query.now.command, refl) c.requires.may.work
          c.in_ok-put_query.ensures.fed (c.in_ok-put_query.ensures.rested shape c.requires.may.work.rested),
    )

pub run_query-requires-clause-may : goal.run_query-requires-clause-may
run_query-requires-clause-may g c =
    let fed = client-fed c.args.desk.now.session c.put_query.new.desk.session (line_of c.args.query.now) c.in_ok-put_query.ensures.fed in
    let read = client-read c.put_query.new.desk.session c.hear_before.new.session c.hear_before.ensures.same in
    let all = same-client c.args.desk.now.session c.put_query.new.desk.session c.hear_before.new.session fed read in
    may-at _ _ (knows c.hear_before.new.tells) (sym (client-no c.args.desk.now.session c.hear_before.new.session all)) (may-still _ _ (knows c.args.tells.now) (knows c.hear_before.new.tells) c.hear_before.ensures.alone c.requires.may.may)

pub run_query-requires-clause-line : goal.run_query-requires-clause-line
run_query-requires-clause-line g c =
    let shape = g.H.Hub.shape c.args.service.now.hub.now in
    c.hear_before.ensures.line (line_of c.args.query.now) (line-put (g.H.Hub.is_pass c.args.service.now.hub.now) shape g.P.PassView.known c.args.desk.now.session c.put_query.new.desk.session (line_of c.args.query.now)
    (c.args.query.now.command, refl) c.requires.may.work c.in_ok-put_query.ensures.fed (c.in_ok-put_query.ensures.rested shape c.requires.may.work.rested))

pub put_query-requires-clause-counted : goal.put_query-requires-clause-counted
put_query-requires-clause-counted g c = c.requires.may.counted

pub returns-in_err-put_query-clause-tried : goal.returns-in_err-put_query-clause-tried
returns-in_err-put_query-clause-tried g c = record {
  alone = pushed-same c.args.desk.now.session.section.no (knows c.args.tells.now) (knows c.args.tells.now) refl;
  asks = put-asks c.args.desk.now c.put_query.new.desk c.put_query.ensures.same;
  same = client-same c.args.desk.now.session c.put_query.new.desk.session c.in_err-put_query.ensures.unchanged;
  lawful = lawful-same (g.H.Hub.shape c.args.service.now.hub.now) g.P.PassView.known c.args.desk.now.session c.put_query.new.desk.session c.in_err-put_query.ensures.unchanged c.requires.may.work.rested;
  counted = c.put_query.ensures.counted;
  work = search rules;
  went = search rules;
  stopped = on_err c.from_residual.result _ (λ kept asks h. same-stays c.args.desk.now.session c.put_query.new.desk.session c.in_err-put_query.ensures.unchanged asks (knows c.args.tells.now) (done-first [] asks c.args.desk.now.session kept (knows c.args.tells.now) h));
}

pub returns-in_err-hear_before-clause-tried : goal.returns-in_err-hear_before-clause-tried
returns-in_err-hear_before-clause-tried g c = record {
  alone = let fed = client-fed c.args.desk.now.session c.put_query.new.desk.session (line_of c.args.query.now) c.in_ok-put_query.ensures.fed in
      pushed-at _ _ _ _ (client-no c.args.desk.now.session c.put_query.new.desk.session fed) c.hear_before.ensures.alone;
  asks = put-asks c.args.desk.now c.put_query.new.desk c.put_query.ensures.same;
  same = same-client c.args.desk.now.session c.put_query.new.desk.session c.hear_before.new.session (client-fed c.args.desk.now.session c.put_query.new.desk.session (line_of c.args.query.now) c.in_ok-put_query.ensures.fed)
      (client-read c.put_query.new.desk.session c.hear_before.new.session c.hear_before.ensures.same);
  lawful = c.hear_before.ensures.lawful;
  counted = c.put_query.ensures.counted ∙ notes-read c.put_query.new.desk.session c.hear_before.new.session c.hear_before.ensures.same;
  work = search rules;
  went = search rules;
  stopped = let line = line_of c.args.query.now in
      on_err c.from_residual-in_err-hear_before.result _
      (λ kept asks h. c.in_err-hear_before.ensures.stopped (line ∷ []) kept asks (put-done asks c.args.desk.now.session c.put_query.new.desk.session kept (knows c.args.tells.now) line c.in_ok-put_query.ensures.fed h));
}

pub returns-clause-tried : goal.returns-clause-tried
returns-clause-tried g c = record {
  alone = let fed = client-fed c.args.desk.now.session c.put_query.new.desk.session (line_of c.args.query.now) c.in_ok-put_query.ensures.fed in
      let read = client-read c.put_query.new.desk.session c.hear_before.new.session c.hear_before.ensures.same in
      let all = same-client c.args.desk.now.session c.put_query.new.desk.session c.hear_before.new.session fed read in
      pushed-both _ _ _ _ (pushed-at _ _ _ _ (client-no c.args.desk.now.session c.put_query.new.desk.session fed) c.hear_before.ensures.alone)
      (pushed-at _ _ _ _ (client-no c.args.desk.now.session c.hear_before.new.session all) c.run_query.ensures.alone);
  asks = put-asks c.args.desk.now c.put_query.new.desk c.put_query.ensures.same;
  same = let fed = client-fed c.args.desk.now.session c.put_query.new.desk.session (line_of c.args.query.now) c.in_ok-put_query.ensures.fed in
      let read = client-read c.put_query.new.desk.session c.hear_before.new.session c.hear_before.ensures.same in
      let all = same-client c.args.desk.now.session c.put_query.new.desk.session c.hear_before.new.session fed read in
      quit-same c.args.desk.now.session c.hear_before.new.session c.run_query.new.session all c.run_query.ensures.same;
  lawful = c.run_query.ensures.lawful;
  counted = c.put_query.ensures.counted ∙ notes-read c.put_query.new.desk.session c.hear_before.new.session c.hear_before.ensures.same ∙ ap (λ (s : Section). note_lines_of s.lines) (sym c.run_query.ensures.same.section);
  work = c.run_query.ensures.work;
  went = let line = line_of c.args.query.now in
      let kept = c.args.desk.now.settings in
      ok_then c.run_query.result _ _
      (λ went asks h. done-kept [] _ _ kept c.put_query.new.desk.settings _ (put-settings c.args.desk.now c.put_query.new.desk c.put_query.ensures.same) (went kept asks (c.in_ok-hear_before.ensures.went (line ∷ []) kept asks (put-done asks c.args.desk.now.session c.put_query.new.desk.session kept (knows c.args.tells.now) line c.in_ok-put_query.ensures.fed h)))) c.run_query.ensures.went;
  stopped = let line = line_of c.args.query.now in
      err_then c.run_query.result _ _
      (λ stopped kept asks h. stopped kept asks (c.in_ok-hear_before.ensures.went (line ∷ []) kept asks (put-done asks c.args.desk.now.session c.put_query.new.desk.session kept (knows c.args.tells.now) line c.in_ok-put_query.ensures.fed h))) c.run_query.ensures.stopped;
}
