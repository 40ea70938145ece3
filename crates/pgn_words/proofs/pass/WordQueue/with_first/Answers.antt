use Rattle.std.proofs.Common.{◌≡◌, ◌≤◌, List, [], ◌∷◌, length, get_or, ap, ◌∙◌, arith}
use Rattle.pgn_hub.specs.declared.setup.SeatSetup.{SeatSetup}
use Rattle.pgn_words.specs.Views.{seat_of, no_seat}
use Rattle.pgn_words.proofs.OpeningLaws.{opens}
use Rattle.pgn_words.proofs.pass.WordQueue.with_first.Goals as goal

first_seat : (seats : List SeatSetup) (x : SeatSetup) → 1 ≤ length seats → x ≡ get_or seats 0 x → x ≡ get_or seats 0 no_seat
first_seat [] x some e = absurd (omega (arith, some))
first_seat (s ∷ seats) x some e = e

pub of_words-requires : goal.of_words-requires
of_words-requires c =
    let z = c.args.setup.now in
    let shape = c.seats-seats.ensures.is_shape in
    let some = c.get-db.ensures.positive in
    let fits = c.get-db.ensures.within in
    let x = c.index-seats-0.result in
    let there : x ≡ get_or z.seats 0 x = c.index-seats-0.is ∙ ap (λ (l : List SeatSetup). get_or l 0 x) c.seats-seats.ensures.value in
    let db : x.db ≡ (seat_of z 1).db = ap (λ (s : SeatSetup). s.db) (first_seat z.seats x shape.some_seats there) in
    opens _ _ shape (omega (arith, db, some)) (omega (arith, db, fits)) (c.as_slice.ensures.value ∙ c.in_ok-words.ensures)
