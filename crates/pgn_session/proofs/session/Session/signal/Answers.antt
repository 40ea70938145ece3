use Rattle.std.proofs.Common.{◌≡◌, List, ◌∷◌, ◌++◌, [], ap, ◌∙◌, refl}
use Rattle.pgn_model.specs.declared.item.Item.{Item}
use Rattle.pgn_model.specs.declared.item.Item.TheVariants.{Line, Raise}
use Rattle.pgn_language.specs.declared.scenario.Act.TheVariants.{Signal}
use Rattle.pgn_session.specs.Standing.{terms_of}
use Rattle.pgn_session.proofs.FlagLaws.{signal-line}
use Rattle.pgn_session.proofs.WholeLaws.{line-did}
use Rattle.pgn_session.proofs.session.Session.signal.Goals as goal

pub returns-clause-stepped : goal.returns-clause-stepped
returns-clause-stepped g c =
    let s = c.args.self.now in
    let k = g.P.PassView.known s.pass in
    let shown : c.signal.new.items.items ≡ s.items.items ++ Line c.args.line ∷ [] ++ Raise k.told ∷ [] =
    c.signal.ensures.shown ∙ ap (λ (items : List Item). items ++ Line c.args.line ∷ [] ++ Raise k.told ∷ []) c.reserve.ensures.items in
    line-did _ _ s _ c.args.line (Signal c.args.flag) c.requires.comes (record { section = refl; plan = refl; patience = refl }) refl
    (signal-line (terms_of (g.H.Hub.shape c.args.hub.now) s.section s.patience) s.plan s.done s.block s.set.channels s.doing k (g.P.PassView.known c.signal.new.pass) s.items.items c.signal.new.items.items c.requires.comes.next c.args.line c.args.flag
    c.requires.place c.requires.rested c.requires.comes.split c.requires.comes.number c.requires.comes.does c.signal.ensures.raised shown)
    (record { raised = c.signal.ensures.raised; shown = shown }, c.requires.place, refl)
