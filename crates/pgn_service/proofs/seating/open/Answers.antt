use Rattle.std.proofs.Common.{List, ap, ◌∙◌}
use Rattle.pgn_base.specs.declared.format.Format.TheVariants.{One}
use Rattle.pgn_base.specs.declared.limits.TheConstants.{PAGES_DEFAULT}
use Rattle.pgn_hub.specs.declared.setup.SeatSetup.{SeatSetup}
use Rattle.pgn_hub.specs.Shape.{Shape}
use Rattle.pgn_service.proofs.SeatingLaws.{passes-count}
use Rattle.pgn_service.proofs.seating.open.Goals as goal

pub returns-in-Ok : goal.returns-in-Ok
returns-in-Ok g c = record {
  shape_is = c.in_ok-hub.ensures.shape ∙ c.new-setup.ensures ∙ ap (λ (s : List SeatSetup). let x : Shape = record { pages = PAGES_DEFAULT; flags = c.args.seats; seats = s; format = One } in x) c.in_ok-seats_for.ensures;
  passes = c.in_ok-hub.passes.items;
  own = c.in_ok-hub.ensures.own;
  count = passes-count g.P.PassView.known c.args.seats c.in_ok-hub.passes.items c.new-setup.result.seats c.in_ok-hub.ensures.passes (ap (λ (x : Shape). x.seats) c.new-setup.ensures ∙ c.in_ok-seats_for.ensures);
  seated = c.in-Ok.ensures;
}
