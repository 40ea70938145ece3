use Rattle.std.proofs.Common.{map, ap, ◌∙◌, arith}
use Rattle.std.proofs.lemmas.List.{take_all}
use Rattle.pgn_hub.specs.declared.setup.SeatSetup.{SeatSetup}
use Rattle.pgn_wordhub.proofs.serving.databases.Goals as goal

pub returns : goal.returns
returns c =
    let test = c.loop-seat-test.false in c.loop-seat.invariant ∙ ap (map (λ (seat : SeatSetup). seat.db)) (take_all c.loop-seat.seat-index c.args.seats.now (omega (arith, test)))
