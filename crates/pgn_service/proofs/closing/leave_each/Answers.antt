use Rattle.std.proofs.Common.{◌≡◌, ◌<◌, ◌≤◌, length, get_or, [], ◌∷◌, ◌++◌, OnOk, Option, subst, sym, arith}
use Rattle.pgn_outlet.specs.declared.outlet.Outlet.{Outlet}
use Rattle.pgn_messages.specs.declared.asked.Ask.{Ask}
use Rattle.pgn_seats.specs.declared.desk.Desk.{Desk}
use Rattle.pgn_frames.specs.declared.caller.Caller.{Caller}
use Rattle.pgn_service.specs.Closing.{MayClose}
use Rattle.pgn_service.proofs.ClosingLaws.{all-passes, all-took, next-of, one-closed}
use Rattle.pgn_service.proofs.closing.leave_each.Goals as goal

pub leave-pass-requires : goal.leave-pass-requires
leave-pass-requires g c = record {
  close =
      let place = c.loop-place.place in
      let box : place < length c.args.inboxes.now = omega (arith, c.loop-place-test.true) in
      let desk = (next-of c.args.desks.now.rest.items c.loop-place.desks.rest.items place c.in-Some.desk c.next.new.self.rest.items c.in-Some.desk (omega (arith, box, c.requires.close.desk_count)) c.loop-place.invariant.desks_are c.in-Some.ensures.items).0 in
      let caller = (next-of c.args.callers.now.rest.items c.loop-place.callers.rest.items place c.in-Some-next.caller c.next-in-loop-place.new.self.rest.items c.in-Some-next.caller (omega (arith, box, c.requires.close.caller_count)) c.loop-place.invariant.callers_are c.in-Some-next.ensures.items).0 in
      subst (λ (i : Outlet (Option Ask)). MayClose i c.in-Some.desk c.in-Some-next.caller) (sym c.index-inboxes-place.is)
      (subst (λ (d : Desk g.row.P.Denot). MayClose (get_or c.args.inboxes.now place c.index-inboxes-place.result) d c.in-Some-next.caller) (sym desk)
      (subst (λ (x : Caller). MayClose (get_or c.args.inboxes.now place c.index-inboxes-place.result) (get_or c.args.desks.now.rest.items place c.in-Some.desk) x) (sym caller)
      (c.requires.close.each place c.index-inboxes-place.result c.in-Some.desk c.in-Some-next.caller box)));
}

pub loop-place-preserved : goal.loop-place-preserved
loop-place-preserved g c =
    let place = c.loop-place.place in
    let box : place < length c.args.inboxes.now = omega (arith, c.loop-place-test.true) in
    one-closed place c.args.desks.now.rest.items c.loop-place.desks.rest.items c.next.new.self.rest.items c.args.callers.now.rest.items c.loop-place.callers.rest.items c.next-in-loop-place.new.self.rest.items c.loop-place.passes.items
    c.keep-so_far.new.passes.items c.loop-place.so_far c.keep-so_far.result c.in-Some.desk c.in-Some-next.caller (omega (arith, box, c.requires.close.desk_count)) (omega (arith, box, c.requires.close.caller_count)) c.loop-place.invariant
    c.in-Some.ensures.items c.in-Some-next.ensures.items c.leave-pass.ensures.took c.keep-so_far.ensures.so_far
    (subst (λ (p : g.row.P.Denot). OnOk c.keep-so_far.result (c.keep-so_far.new.passes.items ≡ c.loop-place.passes.items ++ p ∷ [])) c.leave-pass.ensures.pass c.keep-so_far.ensures.kept)

pub returns-clause-took : goal.returns-clause-took
returns-clause-took g c =
    let past : length c.args.inboxes.now ≤ c.loop-place.place = omega (arith, c.loop-place-test.false) in
    all-took c.loop-place.place c.args.desks.now.rest.items c.loop-place.desks.rest.items c.args.callers.now.rest.items c.loop-place.callers.rest.items c.loop-place.passes.items c.loop-place.so_far (omega (arith, past, c.requires.close.desk_count)) c.loop-place.invariant

pub returns-clause-passes : goal.returns-clause-passes
returns-clause-passes g c =
    let past : length c.args.inboxes.now ≤ c.loop-place.place = omega (arith, c.loop-place-test.false) in
    all-passes c.loop-place.place c.args.desks.now.rest.items c.loop-place.desks.rest.items c.args.callers.now.rest.items c.loop-place.callers.rest.items c.loop-place.passes.items c.loop-place.so_far (omega (arith, past, c.requires.close.desk_count)) c.loop-place.invariant
