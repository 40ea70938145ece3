use Rattle.std.proofs.Common.{◌+◌, ◌≤◌, List, length, ◌∙◌, ap, subst}
use Rattle.pgn_journal.specs.declared.tx.Tx.{Tx}
use Rattle.pgn_journal.specs.Packing.{page_start, image}
use Rattle.pgn_words.specs.declared.view.View.{View}
use Rattle.pgn_words.specs.Told.{stop_known, drawn}
use Rattle.pgn_words.specs.Passes.{view_of}
use Rattle.pgn_wordhub.specs.Passes.{hub_shape}
use Rattle.pgn_wordhub.proofs.PublishLaws.{begins}
use Rattle.pgn_wordhub.proofs.hub.WordHub.begin.Goals as goal

pub returns-clause-view : goal.returns-clause-view
returns-clause-view c =
    c.draw_xid-xid.ensures.view ∙ ap (drawn c.args.notes.now) (c.load_stop-stop.ensures.view ∙ ap (stop_known c.load_stop-stop.result) c.load_head-at.ensures.view)

pub returns-clause-placing : goal.returns-clause-placing
returns-clause-placing c =
    begins (hub_shape c.args.self.now) (view_of c.args.pass.now) (view_of c.draw_xid-xid.new.pass) c.args.notes.now c.load_head-at.result c.load_stop-stop.result c.requires.own.setup
    (c.draw_xid-xid.ensures.view ∙ ap (drawn c.args.notes.now) (c.load_stop-stop.ensures.view ∙ ap (stop_known c.load_stop-stop.result) c.load_head-at.ensures.view)) c.requires.valid c.load_head-at.ensures.head c.load_head-at.ensures.low
    (subst (λ (txs : List Tx). length (image (hub_shape c.args.self.now).format txs) ≤ page_start (c.load_stop-stop.result + (hub_shape c.args.self.now).pages)) (ap (λ (y : View). y.known.seen) c.load_head-at.ensures.view) c.load_stop-stop.ensures.ahead)
