use Rattle.std.proofs.Common.{length, sym, ap, ◌∙◌, arith}
use Rattle.std.proofs.Math.Nat.{le-max_left, le-max_right}
use Rattle.pgn_journal.specs.Packing.{page_of}
use Rattle.pgn_words.specs.declared.view.View.{View}
use Rattle.pgn_words.specs.Passes.{view_of}
use Rattle.pgn_wordhub.specs.Passes.{hub_shape}
use Rattle.pgn_wordhub.proofs.AdvanceLaws.{advances}
use Rattle.pgn_wordhub.proofs.AdvanceSteps.{second_begins, advanced_on, stops_on}
use Rattle.pgn_wordhub.proofs.hub.WordHub.advance.Goals as goal

pub returns-clause-advanced : goal.returns-clause-advanced
returns-clause-advanced g c =
    let z = hub_shape c.args.self.now in
    let v = view_of c.args.pass.now in
    let x = view_of c.announce-tail.new.pass in
    let y = view_of c.look_second-target.new.pass in
    let target = c.look_second-target.ensures.target in
    let greater = c.free-stop.ensures.greater in
    let right = le-max_right c.args.extent.now.stop (page_of c.look_second-target.result) in
    let seats = c.args.self.now.shaped.some_seats in
    let done = advances z v (view_of c.look_first-floor.new.pass) x y (view_of c.free-stop.new.pass) c.look_second-target.new.floor.mark c.look_second-target.new.floor.at c.look_first-floor.result.mark c.look_first-floor.result.at x.eye.tail c.free-stop.result
    c.look_second-target.new.floor.holder c.look_first-floor.result.holder c.requires.own.setup (omega (arith, seats)) c.requires.own.within
    c.look_first-floor.ensures.seen c.announce-tail.ensures.view c.look_second-target.ensures.seen c.free-stop.ensures.view (omega (arith, target, greater, right)) in done.1

pub look_second-target-requires-clause-begun : goal.look_second-target-requires-clause-begun
look_second-target-requires-clause-begun g c =
    let x = view_of c.announce-tail.new.pass in
    second_begins (view_of c.args.pass.now) (view_of c.look_first-floor.new.pass) x (length (hub_shape c.args.self.now).seats) c.look_first-floor.result.mark c.look_first-floor.result.at x.eye.tail c.look_first-floor.result.holder
    c.announce-tail.ensures.own.number c.look_first-floor.ensures.seen c.announce-tail.ensures.view c.announce-tail.ensures.announced

pub free-stop-requires-clause-stop : goal.free-stop-requires-clause-stop
free-stop-requires-clause-stop g c =
    c.requires.stop ∙ sym (ap (λ (u : View). u.stop) c.look_second-target.ensures.seen.view ∙ ap (λ (u : View). u.stop) c.announce-tail.ensures.view ∙ ap (λ (u : View). u.stop) c.look_first-floor.ensures.seen.view)

pub returns-clause-stop : goal.returns-clause-stop
returns-clause-stop g c = sym (ap (λ (u : View). u.stop) c.free-stop.ensures.view)

pub returns-clause-view : goal.returns-clause-view
returns-clause-view g c =
    let y = view_of c.look_second-target.new.pass in
    let u = view_of c.free-stop.new.pass in
    let at_second = advanced_on (view_of c.args.pass.now) (view_of c.look_first-floor.new.pass) (view_of c.announce-tail.new.pass) y (length (hub_shape c.args.self.now).seats) c.look_second-target.new.floor.mark c.look_second-target.new.floor.at
    c.look_first-floor.result.mark c.look_first-floor.result.at (view_of c.announce-tail.new.pass).eye.tail c.look_second-target.new.floor.holder c.look_first-floor.result.holder c.look_first-floor.ensures.seen c.announce-tail.ensures.view c.look_second-target.ensures.seen in
    stops_on (view_of c.args.pass.now) y u c.free-stop.result at_second c.free-stop.ensures.view

pub returns-clause-grows : goal.returns-clause-grows
returns-clause-grows g c =
    let greater = c.free-stop.ensures.greater in
    let left = le-max_left c.args.extent.now.stop (page_of c.look_second-target.result) in
    let is = ap (λ (y : View). y.stop) c.free-stop.ensures.view in
    let stop = c.requires.stop in omega (arith, greater, left, is, stop)

pub free-stop-requires-clause-own : goal.free-stop-requires-clause-own
free-stop-requires-clause-own g c = c.look_second-target.ensures.own

pub free-stop-requires-clause-all : goal.free-stop-requires-clause-all
free-stop-requires-clause-all g c = c.look_second-target.ensures.seen.looked

pub returns-clause-own : goal.returns-clause-own
returns-clause-own g c = c.free-stop.ensures.own
