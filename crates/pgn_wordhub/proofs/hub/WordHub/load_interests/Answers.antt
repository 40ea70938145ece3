use Rattle.std.proofs.Common.{◌<◌, length, refl, sym, ap, ◌∙◌, arith}
use Rattle.std.proofs.lemmas.List.{length-set}
use Rattle.pgn_base.specs.Interest.{interest}
use Rattle.pgn_journal.specs.Interest.{channels_of}
use Rattle.pgn_journal.specs.Journal.{is_committed}
use Rattle.pgn_words.specs.declared.view.View.{View}
use Rattle.pgn_words.specs.Passes.{view_of}
use Rattle.pgn_wordhub.specs.Passes.{hub_shape}
use Rattle.pgn_wordhub.specs.Wakes.{deemed_as}
use Rattle.pgn_wordhub.proofs.DecidingLaws.{none_loaded, loads_on}
use Rattle.pgn_wordhub.proofs.hub.WordHub.load_interests.Goals as goal

pub loop-seat-init : goal.loop-seat-init
loop-seat-init c = (c.requires.own, refl, refl, none_loaded (view_of c.args.pass.now) c.args.owns.now (length (hub_shape c.args.self.now).seats) c.requires.waits.may c.requires.long)

pub database_to_test-requires-clause-phase : goal.database_to_test-requires-clause-phase
database_to_test-requires-clause-phase c = ap (λ (u : View). u.phase) c.loop-seat.invariant.1 ∙ c.requires.waits.phase

pub database_to_test-requires-clause-sent : goal.database_to_test-requires-clause-sent
database_to_test-requires-clause-sent c = c.requires.sent ∙ sym (ap (λ (u : View). interest (channels_of u.pen.ending.notes)) c.loop-seat.invariant.1)

pub database_to_test-requires-clause-committed : goal.database_to_test-requires-clause-committed
database_to_test-requires-clause-committed c = ap (λ (u : View). is_committed u.pen.ending.fate) c.loop-seat.invariant.1 ∙ c.requires.committed

pub database_to_test-requires-clause-may : goal.database_to_test-requires-clause-may
database_to_test-requires-clause-may c =
    let inv = c.loop-seat.invariant in
    let test = c.loop-seat-test.true in
    let end = c.seats-seat-end.ensures in
    let same = inv.2 in
    let long = c.requires.long in
    inv.3.left c.loop-seat.seat (omega arith) (omega (arith, test, end, same, long))

pub loop-seat-preserved : goal.loop-seat-preserved
loop-seat-preserved c =
    let inv = c.loop-seat.invariant in
    let w = view_of c.loop-seat.pass in
    let x = view_of c.database_to_test.new.pass in
    let seat = c.loop-seat.seat in
    let test = c.loop-seat-test.true in
    let end = c.seats-seat-end.ensures in
    let same = inv.2 in
    let long = c.requires.long in
    let within : seat < length c.loop-seat.owns = omega (arith, test, end, same, long) in
    let more = c.database_to_test.ensures in (
      more.own,
      more.view ∙ ap (deemed_as x.concerned) inv.1,
      length-set c.loop-seat.owns seat c.database_to_test.result ∙ inv.2,
      loads_on w x c.loop-seat.owns seat c.database_to_test.result inv.3 within more.view more.others more.database,
    )

pub returns-clause-concerned : goal.returns-clause-concerned
returns-clause-concerned c i short =
    let inv = c.loop-seat.invariant in
    let test = c.loop-seat-test.false in
    let end = c.seats-seat-end.ensures in
    let same = inv.2 in
    let long = c.requires.long in
    inv.3.tested i (omega (arith, short, test, end, same, long))
