use Rattle.std.proofs.Common.{sym, subst}
use Rattle.pgn_words.specs.declared.view.View.{View}
use Rattle.pgn_words.specs.Passes.{view_of, noted_view}
use Rattle.pgn_wordhub.specs.Passes.{hub_shape, IsHubView}
use Rattle.pgn_wordhub.proofs.StayLaws.{heard_stays}
use Rattle.pgn_wordhub.proofs.serving.WordHubHub.meet.Goals as goal

pub returns-clause-own_from : goal.returns-clause-own_from
returns-clause-own_from c = record { own = c.split-note.ensures.own; view = subst (λ (u : View). IsHubView (hub_shape c.args.self.now) u) (sym c.split-note.ensures.view) c.requires.from.view }

pub returns-clause-own_into : goal.returns-clause-own_into
returns-clause-own_into c =
    let done = heard_stays (hub_shape c.args.self.now) (view_of c.args.from.now) (view_of c.args.into.now) (noted_view c.split-note.result) (view_of c.join.new.pass) (view_of c.load_fin.new.pass) c.load_fin.result
    c.requires.from.view c.requires.into.view c.split-note.ensures.noted c.join.ensures.view c.load_fin.ensures.heard in
    record { own = c.load_fin.ensures.own; view = done.0 }

pub returns-clause-heard : goal.returns-clause-heard
returns-clause-heard c =
    let done = heard_stays (hub_shape c.args.self.now) (view_of c.args.from.now) (view_of c.args.into.now) (noted_view c.split-note.result) (view_of c.join.new.pass) (view_of c.load_fin.new.pass) c.load_fin.result
    c.requires.from.view c.requires.into.view c.split-note.ensures.noted c.join.ensures.view c.load_fin.ensures.heard in
    done.1
