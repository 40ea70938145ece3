use Rattle.std.proofs.Common.{sym, subst, arith}
use Rattle.std.proofs.lemmas.List.Elements.{All-get_or}
use Rattle.pgn_seats.specs.declared.desk.Desk.{Desk}
use Rattle.pgn_seats.specs.Workers.{HasSeat, HaveSeats}
use Rattle.pgn_seats.proofs.desks.wait_behind.Goals as goal

pub rest_at-requires : goal.rest_at-requires
unfolding HaveSeats
rest_at-requires g c =
    let shape = g.H.Hub.shape c.args.hub.now in
    let desk = c.index-desks-0.result in
    subst (λ (d : Desk g.row.P.Denot). HasSeat shape d) (sym c.index-desks-0.is) (All-get_or (HasSeat shape) c.args.desks.now 0 desk (omega arith) c.requires)
