use Rattle.std.proofs.Common.{◌≡◌, ◌+◌, ℕ, ap, ◌∙◌, arith}
use Rattle.pgn_hub.specs.declared.setup.SeatSetup.{SeatSetup}
use Rattle.pgn_words.specs.Views.{seat_of}
use Rattle.pgn_words.specs.Passes.{view_of}
use Rattle.pgn_words.proofs.PassKept.{make_allowed}
use Rattle.pgn_words.proofs.pass.WordQueue.make_pass.Goals as goal

pub split_seat-made-requires : goal.split_seat-made-requires
split_seat-made-requires c =
    let next = c.requires.next in
    let seated = c.requires.seated in
    let some = c.get-db.ensures.positive in
    let fits = c.get-db.ensures.within in
    let z = c.args.self.now.table.shared.key in
    let db : c.args.seat.db ≡ (seat_of z ((view_of c.args.first.now).made + 1)).db = ap (λ (s : SeatSetup). s.db) c.requires.seat ∙ ap (λ (n : ℕ). (seat_of z n).db) next in (
      c.requires.own.table,
      (let counted = c.args.self.now.counted in omega (arith, counted)),
      make_allowed _ _ _ c.requires.own.setup c.requires.makes (omega (arith, next, seated)) (omega (arith, db, some)) (omega (arith, db, fits)),
    )
