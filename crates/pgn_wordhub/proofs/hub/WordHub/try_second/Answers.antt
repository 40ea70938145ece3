use Rattle.std.proofs.Common.{rules, ◌≡◌, ◌+◌, ◌^◌, ◌<◌, length, sym, ◌∙◌, subst, arith, ℕ, suc, take, ap}
use Rattle.pgn_words.specs.declared.pos_word.PosWord.TheVariants as words
use Rattle.std.proofs.lemmas.List.{length-set, length-take-le}
use Rattle.pgn_lanes.specs.Least.{least_with}
use Rattle.pgn_journal.specs.Packing.{image}
use Rattle.pgn_hub.specs.Shape.{Shape}
use Rattle.pgn_words.specs.Passes.{view_of}
use Rattle.pgn_wordhub.specs.Passes.{hub_shape}
use Rattle.pgn_wordhub.proofs.OpenedLaws.{dbs_long}
use Rattle.pgn_wordhub.proofs.AdvanceSteps.{gives_up}
use Rattle.pgn_wordhub.proofs.LookLaws.{may_look_second, second_goes_on, kept_goes_on, first_stays}
use Rattle.pgn_wordhub.proofs.hub.WordHub.try_second.Goals as goal

pub second_look-position-requires-clause-next : goal.second_look-position-requires-clause-next
second_look-position-requires-clause-next c = may_look_second (view_of c.args.pass.now) (view_of c.loop-seat.pass) c.loop-seat.seat c.loop-seat.floor.mark c.loop-seat.floor.at c.loop-seat.floor.holder c.loop-seat.invariant.1

pub slice_bounds-first_needed-end : goal.slice_bounds-first_needed-end
slice_bounds-first_needed-end c =
    let few = c.args.self.now.shaped.few_seats in
    let same : c.len.result ≡ length (hub_shape c.args.self.now).seats = c.len.ensures ∙ dbs_long c.args.self.now in
    sym (length-take-le (c.len.result + 1) c.loop-seat.places (let long = c.loop-seat.invariant.3 in omega (arith, few, long, same)))

pub returns-then-eq-clause-some_seen : goal.returns-then-eq-clause-some_seen
returns-then-eq-clause-some_seen c =
    let f = c.loop-seat.floor in
    let joins : c.second_look-position.result ≡ words.Joining = search rules in
    gives_up (view_of c.args.pass.now) (view_of c.loop-seat.pass) (view_of c.second_look-position.new.pass) c.loop-seat.seat f.mark f.at f.holder c.second_look-position.result c.loop-seat.invariant.1 c.second_look-position.ensures.looked joins

pub loop-seat-preserved : goal.loop-seat-preserved
loop-seat-preserved c =
    let v = view_of c.args.pass.now in
    let w = view_of c.loop-seat.pass in
    let x = view_of c.second_look-position.new.pass in
    let inv = c.loop-seat.invariant in
    let seat = c.loop-seat.seat in
    let kept = c.keep_for.result in
    let small : length (image v.setup.format v.known.seen) < 2 ^ 32 = subst (λ (y : Shape). length (image y.format v.known.seen) < 2 ^ 32) (sym c.requires.own.setup) c.requires.low in
    let test = c.loop-seat-test.true in
    let end = c.seats-seat-end.ensures in
    let few = c.args.self.now.shaped.few_seats in
    let long = inv.3 in
    let settled : c.second_look-position.result ≡ words.Joining → ⊥ = search rules in
    let below : seat + 1 < length c.loop-seat.places = omega (arith, test, end, few, long) in (
      c.second_look-position.ensures.own,
      second_goes_on v w x seat c.loop-seat.floor.mark c.loop-seat.floor.at c.keep_for.new.self.mark c.keep_for.new.self.at c.loop-seat.floor.holder c.keep_for.new.self.holder c.second_look-position.result
          c.requires.listens small settled inv.1 c.second_look-position.ensures.looked c.keep_for.ensures.met,
      kept_goes_on w x seat c.args.tail kept c.loop-seat.places c.second_look-position.result settled c.second_look-position.ensures.looked c.keep_for.ensures.place below inv.2,
      length-set c.loop-seat.places (seat + 1) kept ∙ inv.3,
      first_stays c.loop-seat.places (seat + 1) kept c.args.tail (omega arith) inv.4,
    )

pub slice_bounds-places-end : goal.slice_bounds-places-end
slice_bounds-places-end c =
    let few = c.args.self.now.shaped.few_seats in
    let same : c.len.result ≡ length (hub_shape c.args.self.now).seats = c.len.ensures ∙ dbs_long c.args.self.now in
    let long = c.loop-seat.invariant.3 in omega (arith, few, same, long)

pub returns-clause-target : goal.returns-clause-target
returns-clause-target c =
    let same : c.len.result ≡ length (hub_shape c.args.self.now).seats = c.len.ensures ∙ dbs_long c.args.self.now in
    let all : c.len.result + 1 ≡ suc c.loop-seat.seat = omega (arith, same) in
    c.first_needed.ensures ∙ ap (λ (n : ℕ). least_with c.args.tail (take n c.loop-seat.places)) all ∙ sym c.loop-seat.invariant.2
