use Rattle.std.proofs.Common.{rules}
use Rattle.pgn_session.proofs.GrowthLaws.{begins-then, none-more}
use Rattle.pgn_session.proofs.LawfulLaws.{answer-lawful, rest-lawful}
use Rattle.pgn_seats.proofs.DoneLaws.{shown-stays}
use Rattle.pgn_seats.proofs.WorkLaws.{line-ran, line-work, quit-done, script-read}
use Rattle.pgn_seats.proofs.lines.run_line.Goals as goal

pub step-requires-clause-own : goal.step-requires-clause-own
step-requires-clause-own g c = c.requires.own

pub step-requires-clause-served : goal.step-requires-clause-served
step-requires-clause-served g c = c.requires.served

pub step-requires-clause-rested : goal.step-requires-clause-rested
step-requires-clause-rested g c = c.requires.rested

pub step-requires-clause-read_first : goal.step-requires-clause-read_first
step-requires-clause-read_first g c = c.requires.read_up

pub returns-in_err-_step : goal.returns-in_err-_step
returns-in_err-_step g c = record {
  own = c.step.ensures.own;
  same = c.step.ensures.same;
  lawful = rest-lawful (g.H.Hub.shape c.args.service.now.hub.now) g.P.PassView.known c.step.new.self c.in_err-_step.ensures.refused;
  first = shown-stays c.args.session.now c.step.new.self c.step.ensures.same.section (none-more _ _ c.in_err-_step.ensures.unshown);
  rested = search rules;
  ran = search rules;
  quits = search rules;
}

pub returns-in_err-_done : goal.returns-in_err-_done
returns-in_err-_done g c =
    let same = script-read c.args.session.now c.step.new.self c.idle.new.self c.step.ensures.same c.idle.ensures.same in
    record {
      own = c.idle.ensures.own;
      same = same;
      lawful = answer-lawful (g.H.Hub.shape c.args.service.now.hub.now) g.P.PassView.known c.idle.new.self c.in_err-_done.ensures.refused;
      first = shown-stays c.args.session.now c.idle.new.self same.section (begins-then _ _ _ c.step.ensures.grows c.idle.ensures.grows);
      rested = search rules;
      ran = search rules;
      quits = search rules;
    }

pub returns : goal.returns
returns g c =
    let same = script-read c.args.session.now c.step.new.self c.idle.new.self c.step.ensures.same c.idle.ensures.same in
    record {
      own = c.idle.ensures.own;
      same = same;
      lawful = rest-lawful (g.H.Hub.shape c.args.service.now.hub.now) g.P.PassView.known c.idle.new.self c.in_ok-_done.ensures.rested;
      first = shown-stays c.args.session.now c.idle.new.self same.section (begins-then _ _ _ c.step.ensures.grows c.idle.ensures.grows);
      rested = c.in_ok-_done.ensures.rested;
      ran = λ line at. record {
        ran = line-ran (g.H.Hub.shape c.args.service.now.hub.now) g.P.PassView.known c.args.session.now c.step.new.self c.idle.new.self line c.in_ok-_step._step c.in_ok-_done._done at.before at.runs c.in_ok-_step.ensures.moved
            c.in_ok-_done.ensures.idled;
        work = line-work (g.H.Hub.is_pass c.args.service.now.hub.now) (g.H.Hub.shape c.args.service.now.hub.now) g.P.PassView.known c.args.session.now c.step.new.self c.idle.new.self line c.in_ok-_step._step at c.step.ensures.same
            c.in_ok-_step.ensures.moved c.idle.ensures.same c.idle.ensures.own c.in_ok-_done.ensures.rested;
      };
      quits = λ is_open.
          quit-done (g.H.Hub.shape c.args.service.now.hub.now) g.P.PassView.known c.args.session.now c.step.new.self c.idle.new.self c.in_ok-_step._step c.in_ok-_done._done is_open c.step.ensures.same
          c.in_ok-_step.ensures.moved c.idle.ensures.same c.in_ok-_done.ensures.idled;
    }
