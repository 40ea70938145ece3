use Rattle.std.proofs.Common.{ℕ, Option, sym, subst, refl}
use Rattle.pgn_session.specs.Parts.{HasFinishedFrom}
use Rattle.pgn_session.specs.Standing.{terms_of}
use Rattle.pgn_session.proofs.KnownLaws.{told-set}
use Rattle.pgn_session.proofs.OverLaws.{learned-at_end, read-at_end}
use Rattle.pgn_session.proofs.session.Session.finish_read.Goals as goal

pub returns-in_err-_to-clause-rested : goal.returns-in_err-_to-clause-rested
returns-in_err-_to-clause-rested g c =
    let s = c.args.self.now in
    learned-at_end (terms_of (g.H.Hub.shape c.args.hub.now) s.section s.patience) s.plan s.done s.block s.set.channels s.doing (g.P.PassView.known s.pass) (g.P.PassView.known c.read_on.new.pass) s.items.items c.read_on.new.items.items
    c.requires.over c.in_err-_to.ensures.refused c.in_err-_to.ensures.refused_shows_nothing c.requires.rested

pub returns-clause-rested : goal.returns-clause-rested
returns-clause-rested g c =
    let s = c.args.self.now in
    read-at_end (terms_of (g.H.Hub.shape c.args.hub.now) s.section s.patience) s.plan s.done s.block s.set.channels s.doing (g.P.PassView.known s.pass) (g.P.PassView.known c.read_on.new.pass) s.items.items c.read_on.new.items.items c.in-Some.from c.in_ok-_to._to
    c.requires.over c.in_ok-_to.ensures.read (sym c.in-Some.ensures) (g.met.H.Hub.within c.args.hub.now s.pass c.requires.own) c.requires.rested

pub read_on-requires-clause-interested : goal.read_on-requires-clause-interested
read_on-requires-clause-interested g c =
    let s = c.args.self.now in
    told-set (terms_of (g.H.Hub.shape c.args.hub.now) s.section s.patience) s.done s.set.channels (g.P.PassView.known s.pass) s.items.items _ c.in-Some.from (sym c.in-Some.ensures) c.requires.rested

pub returns-clause-finished : goal.returns-clause-finished
returns-clause-finished g c =
    let s = c.args.self.now in
    subst (λ (mark : Option ℕ). HasFinishedFrom mark (g.P.PassView.known s.pass) (g.P.PassView.known c.read_on.new.pass) s.set.channels s.items.items c.read_on.new.items.items) c.in-Some.ensures
    (c.in_ok-_to._to, c.in_ok-_to.ensures.read)

pub returns-clause-own : goal.returns-clause-own
returns-clause-own g c = c.read_on.ensures.own

pub returns-clause-same : goal.returns-clause-same
returns-clause-same g c = refl
