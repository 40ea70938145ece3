use Rattle.std.proofs.Common.{true≢false, sym, arith}
use Rattle.pgn_words.specs.Passes.{view_of}
use Rattle.pgn_wordhub.specs.Passes.{hub_shape}
use Rattle.pgn_wordhub.proofs.PlacingKept.{nothing_written, advance_written}
use Rattle.pgn_wordhub.proofs.hub.WordHub.find_page.Goals as goal

pub returns-then-has_page-clause-writes : goal.returns-then-has_page-clause-writes
returns-then-has_page-clause-writes g c = nothing_written (view_of c.args.pass.now)

pub returns-then-has_page-clause-page : goal.returns-then-has_page-clause-page
returns-then-has_page-clause-page g c _ = c.has_page.ensures.some c.if-has_page.true

pub returns-then-has_page-clause-no_page : goal.returns-then-has_page-clause-no_page
returns-then-has_page-clause-no_page g c some = absurd (true≢false (sym some))

pub returns-then-has_page-2-clause-own : goal.returns-then-has_page-2-clause-own
returns-then-has_page-2-clause-own g c = c.advance-floor.ensures.own

pub returns-then-has_page-2-clause-view : goal.returns-then-has_page-2-clause-view
returns-then-has_page-2-clause-view g c = c.advance-floor.ensures.view

pub returns-then-has_page-2-clause-writes : goal.returns-then-has_page-2-clause-writes
returns-then-has_page-2-clause-writes g c =
    let f = c.advance-floor.result.0 in
    advance_written (hub_shape c.args.self.now) (view_of c.args.pass.now) (view_of c.advance-floor.new.pass) f.mark f.at f.holder c.advance-floor.ensures.view c.advance-floor.ensures.advanced

pub returns-then-has_page-2-clause-at_once : goal.returns-then-has_page-2-clause-at_once
returns-then-has_page-2-clause-at_once g c below =
    let none = c.has_page.ensures.none c.if-has_page.false in absurd (omega (arith, below, none))

pub returns-then-has_page-2-clause-grows : goal.returns-then-has_page-2-clause-grows
returns-then-has_page-2-clause-grows g c = c.advance-floor.ensures.grows

pub returns-then-has_page-2-clause-stop : goal.returns-then-has_page-2-clause-stop
returns-then-has_page-2-clause-stop g c = c.advance-floor.ensures.stop

pub returns-then-has_page-2-clause-page : goal.returns-then-has_page-2-clause-page
returns-then-has_page-2-clause-page g c _ = c.has_page-2.ensures.some c.if-has_page-2.true

pub returns-then-has_page-2-clause-no_page : goal.returns-then-has_page-2-clause-no_page
returns-then-has_page-2-clause-no_page g c some = absurd (true≢false (sym some))

pub returns-clause-own : goal.returns-clause-own
returns-clause-own g c = c.advance-floor.ensures.own

pub returns-clause-view : goal.returns-clause-view
returns-clause-view g c = c.advance-floor.ensures.view

pub returns-clause-writes : goal.returns-clause-writes
returns-clause-writes g c =
    let f = c.advance-floor.result.0 in
    advance_written (hub_shape c.args.self.now) (view_of c.args.pass.now) (view_of c.advance-floor.new.pass) f.mark f.at f.holder c.advance-floor.ensures.view c.advance-floor.ensures.advanced

pub returns-clause-at_once : goal.returns-clause-at_once
returns-clause-at_once g c below =
    let none = c.has_page.ensures.none c.if-has_page.false in absurd (omega (arith, below, none))

pub returns-clause-grows : goal.returns-clause-grows
returns-clause-grows g c = c.advance-floor.ensures.grows

pub returns-clause-stop : goal.returns-clause-stop
returns-clause-stop g c = c.advance-floor.ensures.stop

pub returns-clause-page : goal.returns-clause-page
returns-clause-page g c none = absurd (true≢false none)

pub returns-clause-no_page : goal.returns-clause-no_page
returns-clause-no_page g c _ = c.has_page-2.ensures.none c.if-has_page-2.false

pub returns-clause-held : goal.returns-clause-held
returns-clause-held g c = c.advance-floor.ensures.advanced
