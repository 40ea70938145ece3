use Rattle.std.proofs.Common.{List, map, Option, ap, subst, sym, ◌∙◌}
use Rattle.pgn_outlet.specs.declared.outlet.Outlet.{Outlet}
use Rattle.pgn_messages.specs.declared.asked.Ask.{Ask}
use Rattle.pgn_seats.specs.declared.desk.Desk.{Desk}
use Rattle.pgn_service.specs.Closing.{MayCloseAll}
use Rattle.pgn_service.proofs.ClosingLaws.{gathered-all, order-all, own-all}
use Rattle.pgn_service.proofs.ServiceLaws.{close-moved, took-moved}
use Rattle.pgn_service.proofs.closing.close.Goals as goal

pub leave_each-left-requires-clause-close : goal.leave_each-left-requires-clause-close
leave_each-left-requires-clause-close g c =
    subst (λ (boxes : List (Outlet (Option Ask))). MayCloseAll boxes c.into_iter-desks.result.rest.items c.into_iter-callers.result.rest.items) (sym c.as_slice.ensures.value)
    (close-moved c.args.seating.inboxes.items c.into_iter-desks.result.rest.items c.args.seating.desks.items c.into_iter-callers.result.rest.items c.args.seating.callers.items c.into_iter-desks.ensures.rest c.into_iter-callers.ensures.rest c.requires.close)

pub gather_where_served-requires-clause-own : goal.gather_where_served-requires-clause-own
gather_where_served-requires-clause-own g c =
    own-all g.P.PassView.known c.args.seating.desks.items c.leave_each-left.new.passes.items (c.in-Ok.ensures.passes ∙ ap (λ (ds : List (Desk g.row.P.Denot)). map (λ (desk : Desk g.row.P.Denot). desk.session.pass) ds) c.into_iter-desks.ensures.rest) (g.H.Hub.is_pass c.args.hub) (g.H.Hub.shape c.args.hub) c.args.served c.requires.over

pub gather_where_served-requires-clause-all : goal.gather_where_served-requires-clause-all
gather_where_served-requires-clause-all g c =
    order-all g.P.PassView.known c.args.seating.desks.items c.leave_each-left.new.passes.items (c.in-Ok.ensures.passes ∙ ap (λ (ds : List (Desk g.row.P.Denot)). map (λ (desk : Desk g.row.P.Denot). desk.session.pass) ds) c.into_iter-desks.ensures.rest) (g.H.Hub.is_pass c.args.hub) (g.H.Hub.shape c.args.hub) c.args.served c.requires.over

pub returns-in-Ok-clause-gathered : goal.returns-in-Ok-clause-gathered
returns-in-Ok-clause-gathered g c =
    gathered-all g.P.PassView.known c.args.seating.desks.items c.leave_each-left.new.passes.items (c.in-Ok.ensures.passes ∙ ap (λ (ds : List (Desk g.row.P.Denot)). map (λ (desk : Desk g.row.P.Denot). desk.session.pass) ds) c.into_iter-desks.ensures.rest) c.gather_where_served.result c.gather_where_served.ensures.gathered c.gather_where_served.ensures.within

pub returns-in-Ok-clause-took : goal.returns-in-Ok-clause-took
returns-in-Ok-clause-took g c =
    took-moved c.into_iter-desks.result.rest.items c.args.seating.desks.items c.into_iter-callers.result.rest.items c.args.seating.callers.items c.into_iter-desks.ensures.rest c.into_iter-callers.ensures.rest c.leave_each-left.ensures.took

pub returns-in-Err-clause-took : goal.returns-in-Err-clause-took
returns-in-Err-clause-took g c =
    took-moved c.into_iter-desks.result.rest.items c.args.seating.desks.items c.into_iter-callers.result.rest.items c.args.seating.callers.items c.into_iter-desks.ensures.rest c.into_iter-callers.ensures.rest c.leave_each-left.ensures.took
