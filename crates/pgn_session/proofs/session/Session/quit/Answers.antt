use Rattle.std.proofs.Common.{◌≤◌, ◌+◌, ℕ, List, ◌∷◌, ◌++◌, [], ap, ◌∙◌, sym, subst, refl}
use Rattle.pgn_listening.specs.Listening.{Listening}
use Rattle.pgn_model.specs.declared.item.Item.{Item}
use Rattle.pgn_model.specs.declared.item.Item.TheVariants.{Line}
use Rattle.pgn_language.specs.declared.scenario.Act.TheVariants.{Quit}
use Rattle.pgn_model.specs.laws.NextLine.{quit_items}
use Rattle.pgn_block.specs.Views.{BlockView, idle_view}
use Rattle.pgn_session.specs.declared.doing.Doing.TheVariants.{Over}
use Rattle.pgn_session.specs.Standing.{terms_of, IsAnswered}
use Rattle.pgn_session.specs.Steps.{HasQuitAt}
use Rattle.pgn_session.proofs.QuitLaws.{quit-line}
use Rattle.pgn_session.proofs.WholeLaws.{line-did}
use Rattle.pgn_session.proofs.session.Session.quit.Goals as goal

pub returns-clause-stepped : goal.returns-clause-stepped
returns-clause-stepped g c =
    let s = c.args.self.now in
    let known = g.P.PassView.known in
    let k = known s.pass in
    let q = known c.raise_end.new.pass in
    let terms = terms_of (g.H.Hub.shape c.args.hub.now) s.section s.patience in
    let first : 1 ≤ s.section.no = subst (λ (n : ℕ). 1 ≤ n) c.requires.rested.stands.session (g.met.H.Hub.seated c.args.hub.now s.pass c.requires.own).first in
    let quits : HasQuitAt s.plan s.section.no k q c.args.line s.items.items c.quit.new.items.items = record {
      left = known c.quit.new.pass;
      leaves = c.quit.ensures.left;
      raised = c.raise_end.ensures.raised;
      shown = c.quit.ensures.shown ∙ ap (λ (items : List Item). items ++ Line c.args.line ∷ [] ++ quit_items k.mark) c.reserve.ensures.items;
    } in
    rw (c.set.ensures, c.replace.ensures.after)
    (line-did _ _ s _ c.args.line Quit c.requires.comes (record { section = refl; plan = refl; patience = refl }) refl
    (subst (λ (b : BlockView). IsAnswered terms s.plan (s.done + 1) b c.new.result.channels Over q c.quit.new.items.items) (sym c.drop_block.ensures)
    (subst (λ (set : List (List ℕ)). IsAnswered terms s.plan (s.done + 1) idle_view set Over q c.quit.new.items.items) (sym (ap (λ (l : Listening). l.channels) c.new.ensures))
    (quit-line terms s.plan s.done s.block s.set.channels s.doing k q s.items.items c.quit.new.items.items c.requires.comes.next c.args.line
    c.requires.place c.requires.rested c.requires.comes.split c.requires.comes.number c.requires.comes.does first c.requires.served.session quits)))
    (quits, refl, refl))

pub returns-clause-own : goal.returns-clause-own
returns-clause-own g c = c.raise_end.ensures.own
