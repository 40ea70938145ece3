use Rattle.std.proofs.Common.{◌≡◌, ℕ, length, sym, refl, ap, ◌∙◌, subst, arith, None}
use Rattle.pgn_journal.specs.Packing.{image}
use Rattle.pgn_hub.specs.Shape.{Shape}
use Rattle.pgn_words.specs.Passes.{view_of}
use Rattle.pgn_journal.specs.Journal.{next_xid}
use Rattle.pgn_wordhub.specs.Looks.{begun_at, HasSeenFirst}
use Rattle.pgn_wordhub.proofs.LookLaws.{first_begins, may_look_first, first_keeps, first_goes_on}
use Rattle.pgn_wordhub.proofs.hub.WordHub.look_first.Goals as goal

pub first_look-position-requires-clause-next : goal.first_look-position-requires-clause-next
first_look-position-requires-clause-next c = may_look_first (view_of c.args.pass.now) (view_of c.loop-seat.pass) c.loop-seat.seat c.loop-seat.floor.mark c.loop-seat.floor.at c.loop-seat.floor.holder c.loop-seat.invariant.2

pub loop-seat-init : goal.loop-seat-init
loop-seat-init c =
    let v = view_of c.args.pass.now in
    let long : length (image v.setup.format v.known.seen) ≡ c.args.head = ap (λ (y : Shape). length (image y.format v.known.seen)) c.requires.own.setup ∙ sym c.requires.head in
    let low = c.requires.low in (
      c.requires.own,
      refl,
      subst (λ (m : ℕ). HasSeenFirst v (begun_at 0 v) 0 m c.args.head None) (sym c.requires.number)
          (subst (λ (a : ℕ). HasSeenFirst v (begun_at 0 v) 0 (next_xid v.known.seen) a None) long (first_begins v c.requires.own.number (omega (arith, long, low)))),
    )

pub loop-seat-preserved : goal.loop-seat-preserved
loop-seat-preserved c =
    let v = view_of c.args.pass.now in
    let long : length (image v.setup.format v.known.seen) ≡ c.args.head = ap (λ (y : Shape). length (image y.format v.known.seen)) c.requires.own.setup ∙ sym c.requires.head in
    let low = c.requires.low in
    let w = view_of c.loop-seat.pass in
    let x = view_of c.first_look-position.new.pass in
    let looked = c.first_look-position.ensures.looked in (
      c.first_look-position.ensures.own,
      first_keeps v w x c.loop-seat.seat c.first_look-position.result c.loop-seat.invariant.1 looked.view,
      first_goes_on v w x c.loop-seat.seat c.loop-seat.floor.mark c.loop-seat.floor.at c.keep_for.new.self.mark c.keep_for.new.self.at c.loop-seat.floor.holder c.keep_for.new.self.holder c.first_look-position.result
          c.requires.listens (omega (arith, long, low)) c.loop-seat.invariant.2 looked c.keep_for.ensures.met,
    )
