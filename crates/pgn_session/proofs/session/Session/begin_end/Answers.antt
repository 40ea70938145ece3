use Rattle.std.proofs.Common.{◌≤◌, ℕ, List, sym, subst, refl}
use Rattle.pgn_language.specs.declared.scenario.ScriptLine.{ScriptLine}
use Rattle.pgn_block.specs.Views.{BlockView}
use Rattle.pgn_session.specs.declared.doing.Doing.{Doing}
use Rattle.pgn_session.specs.declared.doing.Doing.TheVariants.{Lines, Ending}
use Rattle.pgn_session.specs.declared.doing.Step.TheVariants.{Did}
use Rattle.pgn_session.specs.Standing.{terms_of, IsAnswered, IsRested}
use Rattle.pgn_session.specs.Steps.{HasMoved}
use Rattle.pgn_session.proofs.EndLaws.{end-answered}
use Rattle.pgn_session.proofs.WholeLaws.{did-goes_on}
use Rattle.pgn_session.proofs.session.Session.begin_end.Goals as goal

pub returns-clause-stepped : goal.returns-clause-stepped
returns-clause-stepped g c =
    let s = c.args.self.now in
    let known = g.P.PassView.known in
    let terms = terms_of (g.H.Hub.shape c.args.hub.now) s.section s.patience in
    let first : 1 ≤ s.section.no = subst (λ (n : ℕ). 1 ≤ n) c.requires.rested.stands.session (g.met.H.Hub.seated c.args.hub.now s.pass c.requires.own).first in
    let rested = subst (λ (d : Doing). IsRested terms s.plan s.done s.block s.set.channels d (known s.pass) s.items.items) c.requires.place c.requires.rested in
    rw c.set.ensures (record {
      same = record { section = refl; plan = refl; patience = refl };
      answered = subst (λ (b : BlockView). IsAnswered terms s.plan s.done b s.set.channels (Ending 0 0) (known c.raise_end.new.pass) s.items.items) (sym c.drop_block.ensures)
          (end-answered terms s.plan s.done s.block s.set.channels (known s.pass) (known c.raise_end.new.pass) s.items.items rested c.requires.no_line first c.requires.served.session c.raise_end.ensures.raised);
      rested = λ ended. absurd (did-goes_on ended);
      moved = subst (λ (lines : List ScriptLine). HasMoved s.plan s.section.no s.patience lines Lines s.done s.done (known s.pass) (known c.raise_end.new.pass) s.items.items s.items.items (Ending 0 0) Did) (sym c.requires.no_line)
          (record { raised = c.raise_end.ensures.raised; shown = refl; place = refl; comes_to = refl }, refl);
    })
