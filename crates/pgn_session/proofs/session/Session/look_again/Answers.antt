use Rattle.std.proofs.Common.{◌+◌, List, refl, ap, sym, subst, arith}
use Rattle.pgn_model.specs.declared.item.Item.{Item}
use Rattle.pgn_session.specs.declared.session.Session.{Session}
use Rattle.pgn_session.specs.declared.doing.Doing.TheVariants.{Awaiting}
use Rattle.pgn_session.specs.Standing.{terms_of, IsRested}
use Rattle.pgn_session.specs.Steps.{HasTurned}
use Rattle.pgn_session.specs.Whole.{HasAnswer}
use Rattle.pgn_session.proofs.AwaitLaws.{await-again, turn-answers}
use Rattle.pgn_session.proofs.session.Session.look_again.Goals as goal

pub returns-clause-stepped : goal.returns-clause-stepped
returns-clause-stepped g c =
    let s = c.args.self.now in
    let n = c.look_for.new.self in
    let shape = g.H.Hub.shape c.args.hub.now in
    let known = g.P.PassView.known in
    let terms = terms_of shape s.section s.patience in
    let same = c.look_for.ensures.same in
    let turned : HasTurned c.args.flag (c.args.looks + 1) s.patience (known s.pass) (known n.pass) s.items.items n.items.items n.doing c.look_for.result =
    subst (λ (items : List Item). HasTurned c.args.flag (c.args.looks + 1) s.patience (known s.pass) (known n.pass) items n.items.items n.doing c.look_for.result) c.reserve.ensures.items c.look_for.ensures.turned in
    let answers = turn-answers terms s.plan s.done s.block s.set.channels (known s.pass) (known n.pass) s.items.items n.items.items c.args.flag (c.args.looks + 1) n.doing c.look_for.result
    (omega (arith, c.requires.few)) (g.met.H.Hub.within c.args.hub.now n.pass c.look_for.ensures.own)
    (await-again terms s.plan s.done s.block s.set.channels (known s.pass) s.items.items c.args.flag c.args.looks c.requires.rested) turned in
    record {
      same = record { section = ap (λ (x : Session g.row.P.Denot). x.section) same; plan = ap (λ (x : Session g.row.P.Denot). x.plan) same; patience = ap (λ (x : Session g.row.P.Denot). x.patience) same };
      answered = subst (λ (x : Session g.row.P.Denot). HasAnswer shape known x) (sym same) answers.0;
      rested = λ ended. absurd (answers.1 ended);
      moved = (turned, ap (λ (x : Session g.row.P.Denot). x.done) same);
    }

pub returns-then-is_err-clause-refused : goal.returns-then-is_err-clause-refused
returns-then-is_err-clause-refused g c =
    let s = c.args.self.now in
    rw c.set.ensures (record {
      same = record { section = refl; plan = refl; patience = refl };
      place = refl;
      pass = refl;
      shown = c.reserve.ensures.items;
      counted = refl;
      channels = refl;
      rested = subst (λ (items : List Item). IsRested (terms_of (g.H.Hub.shape c.args.hub.now) s.section s.patience) s.plan s.done s.block s.set.channels (Awaiting c.args.flag c.args.looks) (g.P.PassView.known s.pass) items)
          (sym c.reserve.ensures.items) c.requires.rested;
    })
