use Rattle.std.proofs.Common.{◌≡◌, drop, rules, arith}
use Rattle.std.specs.Int.{from_be_bytes, w16}
use Rattle.pgn_frames.specs.Frames.{IsSeat}
use Rattle.pgn_frames.proofs.ArrivalLaws.{CutBody-known, Whole-known}
use Rattle.pgn_frames.proofs.framing.behind_head.Goals as goal

pub returns-then-n-size-clause-next : goal.returns-then-n-size-clause-next
returns-then-n-size-clause-next g c =
    let size : c.from-size.result ≡ from_be_bytes w16 (drop 2 c.args.head.now) = search rules in
    let is : IsSeat c.args.seats c.seat_of-seat.result = record { least = search (rules, arith); most = omega arith } in
    CutBody-known c.args.seats c.args.at c.seat_of-seat.result c.from-size.result c.in-Ok.n c.args.head.now c.fill.new.body.items (g.S.Source.left c.args.source.now) (g.S.Source.left c.fill.new.source)
    c.requires c.seat_of-seat.ensures size is c.in-Ok.ensures.size c.if-n-size.true c.in-Ok.ensures.bytes (c.in-Ok.ensures.ended c.if-n-size.true)

pub returns-else-n-size-clause-next : goal.returns-else-n-size-clause-next
returns-else-n-size-clause-next g c =
    let size : c.from-size.result ≡ from_be_bytes w16 (drop 2 c.args.head.now) = search rules in
    let is : IsSeat c.args.seats c.seat_of-seat.result = record { least = search (rules, arith); most = omega arith } in
    Whole-known c.args.seats c.args.at c.seat_of-seat.result c.from-size.result c.in-Ok.n c.args.head.now c.fill.new.body.items (g.S.Source.left c.args.source.now) (g.S.Source.left c.fill.new.source)
    c.requires c.seat_of-seat.ensures size is c.in-Ok.ensures.size (omega arith) c.in-Ok.ensures.bytes
