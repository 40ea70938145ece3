use Rattle.std.proofs.Common.{ap}
use Rattle.pgn_hub.specs.Shape.{Shape}
use Rattle.pgn_service.proofs.ClientLaws.{only-has, only-one, opened-known}
use Rattle.pgn_service.proofs.client.open_hub.Goals as goal

pub returns-clause-own : goal.returns-clause-own
returns-clause-own g c = only-has (g.H.Hub.is_pass c.in_ok-hub.hub) c.in_ok-hub.passes.items c.only-pass.result c.in_ok-hub.ensures.own c.only-pass.ensures

pub returns-clause-opened : goal.returns-clause-opened
returns-clause-opened g c =
    opened-known g.P.PassView.known c.in_ok-hub.passes.items c.only-pass.result c.new-setup.result c.in_ok-seats.seats.items c.in_ok-hub.ensures.passes (ap (λ (s : Shape). s.seats) c.new-setup.ensures) c.in_ok-seats.ensures
    c.only-pass.ensures

pub only-pass-requires : goal.only-pass-requires
only-pass-requires g c = record { one = only-one g.P.PassView.known c.in_ok-hub.passes.items c.new-setup.result c.in_ok-seats.seats.items c.in_ok-hub.ensures.passes (ap (λ (s : Shape). s.seats) c.new-setup.ensures) c.in_ok-seats.ensures }
