use Rattle.std.proofs.Common.{length, sym, refl, ap, ◌∙◌}
use Rattle.pgn_words.specs.declared.view.View.{View}
use Rattle.pgn_words.specs.Passes.{view_of}
use Rattle.pgn_wordhub.specs.Passes.{hub_shape}
use Rattle.pgn_wordhub.proofs.AdvanceSteps.{second_begins, tries}
use Rattle.pgn_wordhub.proofs.hub.WordHub.try_advance.Goals as goal

pub try_second-requires-clause-begun : goal.try_second-requires-clause-begun
try_second-requires-clause-begun c =
    let x = view_of c.announce-tail.new.pass in
    second_begins (view_of c.args.pass.now) (view_of c.look_first-floor.new.pass) x (length (hub_shape c.args.self.now).seats) c.look_first-floor.result.mark c.look_first-floor.result.at x.eye.tail c.look_first-floor.result.holder
    c.announce-tail.ensures.own.number c.look_first-floor.ensures.seen c.announce-tail.ensures.view c.announce-tail.ensures.announced

pub free-requires-clause-stop : goal.free-requires-clause-stop
free-requires-clause-stop c =
    c.requires.stop ∙ sym (ap (λ (u : View). u.stop) c.try_second.ensures.some_seen.view ∙ ap (λ (u : View). u.stop) c.announce-tail.ensures.view ∙ ap (λ (u : View). u.stop) c.look_first-floor.ensures.seen.view)

pub returns-in-Some-clause-tried : goal.returns-in-Some-clause-tried
returns-in-Some-clause-tried c =
    let x = view_of c.announce-tail.new.pass in
    tries (view_of c.args.pass.now) (view_of c.look_first-floor.new.pass) x (view_of c.try_second.new.pass) (view_of c.free.new.pass) (length (hub_shape c.args.self.now).seats) c.look_first-floor.result.mark c.look_first-floor.result.at x.eye.tail
    c.free.result c.look_first-floor.result.holder c.look_first-floor.ensures.seen c.announce-tail.ensures.view c.try_second.ensures.some_seen c.free.ensures.view

pub returns-in_default-clause-tried : goal.returns-in_default-clause-tried
returns-in_default-clause-tried c =
    let x = view_of c.announce-tail.new.pass in
    let y = view_of c.try_second.new.pass in
    tries (view_of c.args.pass.now) (view_of c.look_first-floor.new.pass) x y y (length (hub_shape c.args.self.now).seats) c.look_first-floor.result.mark c.look_first-floor.result.at x.eye.tail
    y.stop c.look_first-floor.result.holder c.look_first-floor.ensures.seen c.announce-tail.ensures.view c.try_second.ensures.some_seen refl

pub free-requires-clause-own : goal.free-requires-clause-own
free-requires-clause-own c = c.try_second.ensures.own

pub returns-in-Some-clause-own : goal.returns-in-Some-clause-own
returns-in-Some-clause-own c = c.free.ensures.own

pub returns-in_default-clause-own : goal.returns-in_default-clause-own
returns-in_default-clause-own c = c.try_second.ensures.own
