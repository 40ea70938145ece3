use Rattle.std.proofs.Common.{ap, sym, subst}
use Rattle.pgn_session.specs.declared.session.Session.{Session}
use Rattle.pgn_session.specs.Standing.{terms_of}
use Rattle.pgn_session.specs.Whole.{HasAnswer, HasRest}
use Rattle.pgn_session.proofs.EndLaws.{waited-rested, waited-answered}
use Rattle.pgn_session.proofs.session.Session.wait_for_others.Goals as goal

pub returns-clause-stepped : goal.returns-clause-stepped
returns-clause-stepped g c =
    let s = c.args.self.now in
    let n = c.look_on.new.self in
    let shape = g.H.Hub.shape c.args.hub.now in
    let known = g.P.PassView.known in
    let same = c.look_on.ensures.same in
    let rests = waited-rested (terms_of shape s.section s.patience) s.plan s.done s.block s.set.channels (known s.pass) (known n.pass) s.items.items c.args.found c.args.looks n.doing c.look_on.result c.look_on.ensures.waited c.requires.rested in
    let answers = waited-answered (terms_of shape s.section s.patience) s.plan s.done s.block s.set.channels (known s.pass) (known n.pass) s.items.items c.args.found c.args.looks n.doing c.look_on.result c.look_on.ensures.waited rests in
    record {
      same = record { section = ap (λ (x : Session g.row.P.Denot). x.section) same; plan = ap (λ (x : Session g.row.P.Denot). x.plan) same; patience = ap (λ (x : Session g.row.P.Denot). x.patience) same };
      answered = subst (λ (x : Session g.row.P.Denot). HasAnswer shape known x) (sym same) answers;
      rested = λ ended. subst (λ (x : Session g.row.P.Denot). HasRest shape known x) (sym same) rests;
      moved = (c.look_on.ensures.waited, ap (λ (x : Session g.row.P.Denot). x.items.items) same, ap (λ (x : Session g.row.P.Denot). x.done) same);
    }
