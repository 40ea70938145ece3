use Rattle.std.proofs.Common.{rules, ◌≡◌, ap, ◌∙◌, subst, sym}
use Rattle.pgn_outlet.specs.declared.hand.Hand.{Hand}
use Rattle.pgn_outlet.specs.Passes.{knows}
use Rattle.pgn_outlet.specs.Rule.{sender, taker}
use Rattle.pgn_messages.specs.declared.saying.Saying.{Saying}
use Rattle.pgn_seats.specs.Desks.{MayServe}
use Rattle.pgn_service.proofs.ArmLaws.{told-by, told-nothing}
use Rattle.pgn_service.proofs.arms.serve_and_write.Goals as goal

pub returns-in_default : goal.returns-in_default
returns-in_default g c =
    told-nothing g.K.Sink.held g.K.Sink.faults (g.H.Hub.is_pass c.args.room.now.hub.now) (g.H.Hub.shape c.args.room.now.hub.now) g.P.PassView.known c.args.room.now.inboxes.now c.args.desks.now c.args.sink.now _ c.requires.may

pub serve_beside-served-requires-clause-may : goal.serve_beside-served-requires-clause-may
serve_beside-served-requires-clause-may g c κs within =
    let sends : knows c.in-Ok.sends ≡ sender = search rules in
    subst (λ (v : Hand Saying). MayServe (g.H.Hub.is_pass c.args.room.now.hub.now) (g.H.Hub.shape c.args.room.now.hub.now) g.P.PassView.known c.args.room.now.inboxes.now c.args.desks.now v)
    (sym (ap knows c.new-tells.ensures.pass ∙ sends)) c.requires.may

pub returns : goal.returns
returns g c =
    let sends : knows c.in-Ok.sends ≡ sender = search rules in
    let takes : knows c.in-Ok.takes ≡ taker = search rules in
    told-by g.K.Sink.held g.K.Sink.faults (g.H.Hub.is_pass c.args.room.now.hub.now) (g.H.Hub.shape c.args.room.now.hub.now) g.P.PassView.known c.args.room.now.inboxes.now c.args.desks.now c.serve_beside-served.new.desks
    (knows c.new-tells.result.pass) (knows c.serve_beside-served.new.tells.pass) (knows c.in-Ok.takes) (knows c.serve_beside-served.new.writing.takes) c.args.sink.now c.serve_beside-served.new.sink c.write_to_the_end-out.new.sink
    c.end_writing.new.sink c.new.result c.serve_beside-served.new.writing.out c.write_to_the_end-out.result c.end_writing.new.out c.is_over.result c.serve_beside-served.result.0 (ap knows c.new-tells.ensures.pass ∙ sends) c.serve_beside-served.ensures.served takes
    c.serve_beside-served.ensures.wrote c.write_to_the_end-out.ensures c.end_writing.ensures.puts c.end_writing.ensures.sent c.new.ensures.nothing c.new.ensures.fine c.is_over.ensures
