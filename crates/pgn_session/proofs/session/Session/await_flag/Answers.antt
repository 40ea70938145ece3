use Rattle.std.proofs.Common.{◌≡◌, ◌+◌, List, ◌∷◌, ◌++◌, [], ap, ◌∙◌, sym, subst}
use Rattle.pgn_model.specs.declared.item.Item.{Item}
use Rattle.pgn_model.specs.declared.item.Item.TheVariants.{Line}
use Rattle.pgn_language.specs.declared.scenario.Act.TheVariants.{Await}
use Rattle.pgn_session.specs.declared.session.Session.{Session}
use Rattle.pgn_session.specs.Standing.{terms_of}
use Rattle.pgn_session.specs.Steps.{HasTurned}
use Rattle.pgn_session.specs.Whole.{HasAnswer}
use Rattle.pgn_session.proofs.AwaitLaws.{await-line, turn-answers}
use Rattle.pgn_session.proofs.WholeLaws.{line-stepped}
use Rattle.pgn_session.proofs.session.Session.await_flag.Goals as goal

pub returns-clause-stepped : goal.returns-clause-stepped
returns-clause-stepped g c =
    let s = c.args.self.now in
    let n = c.look_for.new.self in
    let shape = g.H.Hub.shape c.args.hub.now in
    let known = g.P.PassView.known in
    let terms = terms_of shape s.section s.patience in
    let pushed : c.put.new.items.items ≡ s.items.items ++ Line c.args.line ∷ [] =
    c.put.ensures.items ∙ ap (λ (items : List Item). items ++ Line c.args.line ∷ []) c.reserve.ensures.items in
    let same = c.look_for.ensures.same in
    let answers = turn-answers terms s.plan (s.done + 1) s.block s.set.channels (known s.pass) (known n.pass) c.put.new.items.items n.items.items c.args.flag 1 n.doing c.look_for.result
    c.requires.rested.stands.patient (g.met.H.Hub.within c.args.hub.now n.pass c.look_for.ensures.own)
    (await-line terms s.plan s.done s.block s.set.channels s.doing (known s.pass) s.items.items c.put.new.items.items c.requires.comes.next c.args.line c.args.flag
    c.requires.place c.requires.rested c.requires.comes.split c.requires.comes.number c.requires.comes.does pushed)
    c.look_for.ensures.turned in
    line-stepped shape known s n c.args.line (Await c.args.flag) c.look_for.result c.requires.comes
    (record { section = ap (λ (x : Session g.row.P.Denot). x.section) same; plan = ap (λ (x : Session g.row.P.Denot). x.plan) same; patience = ap (λ (x : Session g.row.P.Denot). x.patience) same })
    (ap (λ (x : Session g.row.P.Denot). x.done) same)
    (subst (λ (x : Session g.row.P.Denot). HasAnswer shape known x) (sym same) answers.0)
    (λ ended. absurd (answers.1 ended))
    (subst (λ (items : List Item). HasTurned c.args.flag 1 s.patience (known s.pass) (known n.pass) items n.items.items n.doing c.look_for.result) pushed c.look_for.ensures.turned)
