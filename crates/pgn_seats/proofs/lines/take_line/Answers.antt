use Rattle.std.proofs.Common.{ap, sym, ◌∙◌, rules}
use Rattle.pgn_language.specs.declared.scenario.Section.{Section}
use Rattle.pgn_language.specs.Inputs.{note_lines_of}
use Rattle.pgn_session.proofs.OpenLaws.{quit-same}
use Rattle.pgn_seats.proofs.DoneLaws.{put-stays, same-stays, stays-both}
use Rattle.pgn_seats.proofs.ResultLaws.{ok_then}
use Rattle.pgn_seats.proofs.WorkLaws.{client-fed, client-same, fed-section, lawful-same, line-put, line-unread, put-asks, put-settings, ran-behind}
use Rattle.pgn_seats.proofs.lines.take_line.Goals as goal

pub put_line-requires-clause-is_open : goal.put_line-requires-clause-is_open
put_line-requires-clause-is_open g c = c.requires.work.is_open

pub put_line-requires-clause-runs : goal.put_line-requires-clause-runs
put_line-requires-clause-runs g c = c.requires.runs

pub put_line-requires-clause-counted : goal.put_line-requires-clause-counted
put_line-requires-clause-counted g c = c.requires.counted

pub run_line-requires : goal.run_line-requires
run_line-requires g c =
    let shape = (g.H.Hub.shape c.args.service.now.hub.now) in
    let line = line-put (g.H.Hub.is_pass c.args.service.now.hub.now) shape g.P.PassView.known c.args.desk.now.session c.put_line.new.desk.session c.args.line c.requires.runs c.requires.work c.in_ok-put_line.ensures.fed
    (c.in_ok-put_line.ensures.rested shape c.requires.work.rested) in
    record { own = line.own; served = line.served; rested = line.rested; read_up = λ first. absurd (line-unread c.put_line.new.desk.session c.args.line line.before c.requires.unread first) }

pub returns-in_err-put_line : goal.returns-in_err-put_line
returns-in_err-put_line g c = record {
  asks = put-asks c.args.desk.now c.put_line.new.desk c.put_line.ensures.same;
  settings = put-settings c.args.desk.now c.put_line.new.desk c.put_line.ensures.same;
  same = client-same c.args.desk.now.session c.put_line.new.desk.session c.in_err-put_line.ensures.unchanged;
  lawful = lawful-same (g.H.Hub.shape c.args.service.now.hub.now) g.P.PassView.known c.args.desk.now.session c.put_line.new.desk.session c.in_err-put_line.ensures.unchanged c.requires.work.rested;
  first = same-stays c.args.desk.now.session c.put_line.new.desk.session c.in_err-put_line.ensures.unchanged;
  counted = c.put_line.ensures.counted;
  work = search rules;
  ran = search rules;
}

pub returns : goal.returns
returns g c =
    let shape = (g.H.Hub.shape c.args.service.now.hub.now) in
    let line = line-put (g.H.Hub.is_pass c.args.service.now.hub.now) shape g.P.PassView.known c.args.desk.now.session c.put_line.new.desk.session c.args.line c.requires.runs c.requires.work c.in_ok-put_line.ensures.fed
    (c.in_ok-put_line.ensures.rested shape c.requires.work.rested) in
    let old = c.args.desk.now.session in
    let mid = c.put_line.new.desk.session in
    let new = c.run_line.new.session in
    record {
      asks = put-asks c.args.desk.now c.put_line.new.desk c.put_line.ensures.same;
      settings = put-settings c.args.desk.now c.put_line.new.desk c.put_line.ensures.same;
      same = quit-same old mid new (client-fed old mid c.args.line c.in_ok-put_line.ensures.fed) c.run_line.ensures.same;
      lawful = c.run_line.ensures.lawful;
      first = stays-both old mid new (put-stays old mid c.args.line c.in_ok-put_line.ensures.fed) c.run_line.ensures.first;
      counted = c.put_line.ensures.counted ∙ ap (λ (s : Section). note_lines_of s.lines) (sym c.run_line.ensures.same.section);
      work = ok_then c.run_line.result _ _ (λ ran. (ran c.args.line line).work) c.run_line.ensures.ran;
      ran = ok_then c.run_line.result _ _
          (λ ran. record {
            section = c.run_line.ensures.same.section ∙ fed-section old mid c.args.line c.in_ok-put_line.ensures.fed;
            ran = ran-behind old mid new c.args.line c.in_ok-put_line.ensures.fed (ran c.args.line line).ran;
          }) c.run_line.ensures.ran;
    }
