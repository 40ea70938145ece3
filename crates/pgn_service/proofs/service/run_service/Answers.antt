use Rattle.std.proofs.Common.{◌≡◌, ◌⊎◌, Err, List, length, Option, Result, IfSome, drop, sym, ap, ◌∙◌, subst}
use Rattle.pgn_outlet.specs.declared.outlet.Outlet.{Outlet}
use Rattle.pgn_outlet.specs.Rule.{sender}
use Rattle.pgn_messages.specs.declared.asked.Ask.{Ask}
use Rattle.pgn_seats.specs.declared.desk.Desk.{Desk}
use Rattle.pgn_seats.specs.Desks.{MayServe}
use Rattle.pgn_frames.specs.declared.caller.Caller.{Caller}
use Rattle.pgn_frames.specs.Reading.{MayCall}
use Rattle.pgn_threads.proofs.ListLemmas.{written-back}
use Rattle.pgn_service.specs.declared.service.ServiceEnd.{ServiceEnd}
use Rattle.pgn_service.specs.Ending.{EndsService}
use Rattle.pgn_service.specs.Service.{seat_notes}
use Rattle.pgn_service.proofs.SeatingLaws.{as-many-seats, may-call, may-serve}
use Rattle.pgn_service.specs.declared.service.ServiceEnd.TheVariants as end
use Rattle.pgn_service.proofs.ClosingLaws.{same-count}
use Rattle.pgn_service.proofs.ServiceLaws.{close-moved, close-now, ends-known, fault-due, gathered-moved, over-moved, over-now, read-cause, read-moved, told-moved, took-moved, unopened, write-cause, write-due}
use Rattle.pgn_service.proofs.service.run_service.Goals as goal

pub returns-in_default-clause-ends : goal.returns-in_default-clause-ends
returns-in_default-clause-ends g c = unopened (g.S.Source.left c.args.source.now) (g.K.Sink.held c.args.sink.now) c.args.seats

pub run_arms-read-requires-clause-may : goal.run_arms-read-requires-clause-may
run_arms-read-requires-clause-may g c κs within =
    let is_own = g.H.Hub.is_pass c.in-Ok.hub in
    let shape = g.H.Hub.shape c.in-Ok.hub in
    subst (λ (bs : List (Outlet (Option Ask))). MayServe is_own shape g.P.PassView.known bs c.as_mut_slice.result.now sender) (sym c.as_slice.ensures.value)
    (subst (λ (ds : List (Desk g.row.P.Denot)). MayServe is_own shape g.P.PassView.known c.in-Ok.seating.inboxes.items ds sender) (sym c.as_mut_slice.ensures.value)
    (may-serve is_own shape g.P.PassView.known c.args.seats c.in-Ok.seating.inboxes.items c.in-Ok.seating.desks.items c.in-Ok.seating.callers.items c.in-Ok.ensures c.requires.few))

pub run_arms-read-requires-clause-call : goal.run_arms-read-requires-clause-call
run_arms-read-requires-clause-call g c κs within = (
  seat_notes c.args.seats,
  subst (λ (bs : List (Outlet (Option Ask))). MayCall (seat_notes c.args.seats) bs c.as_mut_slice-2.result.now) (sym c.as_slice.ensures.value)
      (subst (λ (cs : List Caller). MayCall (seat_notes c.args.seats) c.in-Ok.seating.inboxes.items cs) (sym c.as_mut_slice-2.ensures.value)
      (may-call (g.H.Hub.is_pass c.in-Ok.hub) (g.H.Hub.shape c.in-Ok.hub) g.P.PassView.known c.args.seats c.in-Ok.seating.inboxes.items c.in-Ok.seating.desks.items c.in-Ok.seating.callers.items c.in-Ok.ensures c.requires.few)),
)

pub run_arms-read-requires-clause-seats : goal.run_arms-read-requires-clause-seats
run_arms-read-requires-clause-seats g c κs within =
    as-many-seats (g.H.Hub.is_pass c.in-Ok.hub) (g.H.Hub.shape c.in-Ok.hub) g.P.PassView.known c.args.seats c.in-Ok.seating.inboxes.items c.in-Ok.seating.desks.items c.in-Ok.seating.callers.items c.in-Ok.ensures
    ∙ sym (ap (λ (cs : List Caller). length cs) c.as_mut_slice-2.ensures.value)

pub close-ran-requires-clause-close : goal.close-ran-requires-clause-close
close-ran-requires-clause-close g c =
    let told = told-moved (g.H.Hub.is_pass c.in-Ok.hub) (g.H.Hub.shape c.in-Ok.hub) g.P.PassView.known c.as_slice.result.now c.in-Ok.seating.inboxes.items c.as_mut_slice.result.now c.in-Ok.seating.desks.items c.run_arms-read.new.desks g.K.Sink.held g.K.Sink.faults c.args.sink.now c.run_arms-read.new.sink c.run_arms-read.result.0 c.as_slice.ensures.value c.as_mut_slice.ensures.value c.run_arms-read.ensures.told in
    let read = read-moved g.S.Source.left g.S.Source.faults c.as_slice.result.now c.in-Ok.seating.inboxes.items c.as_mut_slice-2.result.now c.in-Ok.seating.callers.items c.run_arms-read.new.callers c.args.source.now c.run_arms-read.new.source c.run_arms-read.result.1 c.as_slice.ensures.value c.as_mut_slice-2.ensures.value c.run_arms-read.ensures.read in
    let all = read.read (seat_notes c.args.seats) (may-call (g.H.Hub.is_pass c.in-Ok.hub) (g.H.Hub.shape c.in-Ok.hub) g.P.PassView.known c.args.seats c.in-Ok.seating.inboxes.items c.in-Ok.seating.desks.items c.in-Ok.seating.callers.items c.in-Ok.ensures c.requires.few) in
    let count = same-count c.as_mut_slice.result.now c.run_arms-read.new.desks c.run_arms-read.ensures.told.ran.clients ∙ c.as_mut_slice.ensures.len in
    let back = written-back c.run_arms-read.new.desks (drop (length c.run_arms-read.new.desks) c.in-Ok.seating.desks.items) c.in-Ok.seating.desks.len (sym count) in
    let count_calls = c.run_arms-read.ensures.read.count ∙ c.as_mut_slice-2.ensures.len in
    let back_calls = written-back c.run_arms-read.new.callers (drop (length c.run_arms-read.new.callers) c.in-Ok.seating.callers.items) c.in-Ok.seating.callers.len (sym count_calls) in
    close-moved c.in-Ok.seating.inboxes.items _ c.run_arms-read.new.desks _ c.run_arms-read.new.callers back back_calls
    (close-now (g.H.Hub.is_pass c.in-Ok.hub) (g.H.Hub.shape c.in-Ok.hub) g.P.PassView.known c.args.seats c.in-Ok.seating.inboxes.items c.in-Ok.seating.desks.items c.run_arms-read.new.desks c.in-Ok.seating.callers.items c.run_arms-read.new.callers g.K.Sink.held g.K.Sink.faults c.args.sink.now c.run_arms-read.new.sink c.run_arms-read.result.0.0 c.run_arms-read.result.0.1 c.in-Ok.ensures told (g.S.Source.left c.args.source.now) c.run_arms-read.result.1 read.count all)

pub close-ran-requires-clause-over : goal.close-ran-requires-clause-over
close-ran-requires-clause-over g c =
    let told = told-moved (g.H.Hub.is_pass c.in-Ok.hub) (g.H.Hub.shape c.in-Ok.hub) g.P.PassView.known c.as_slice.result.now c.in-Ok.seating.inboxes.items c.as_mut_slice.result.now c.in-Ok.seating.desks.items c.run_arms-read.new.desks g.K.Sink.held g.K.Sink.faults c.args.sink.now c.run_arms-read.new.sink c.run_arms-read.result.0 c.as_slice.ensures.value c.as_mut_slice.ensures.value c.run_arms-read.ensures.told in
    let read = read-moved g.S.Source.left g.S.Source.faults c.as_slice.result.now c.in-Ok.seating.inboxes.items c.as_mut_slice-2.result.now c.in-Ok.seating.callers.items c.run_arms-read.new.callers c.args.source.now c.run_arms-read.new.source c.run_arms-read.result.1 c.as_slice.ensures.value c.as_mut_slice-2.ensures.value c.run_arms-read.ensures.read in
    let all = read.read (seat_notes c.args.seats) (may-call (g.H.Hub.is_pass c.in-Ok.hub) (g.H.Hub.shape c.in-Ok.hub) g.P.PassView.known c.args.seats c.in-Ok.seating.inboxes.items c.in-Ok.seating.desks.items c.in-Ok.seating.callers.items c.in-Ok.ensures c.requires.few) in
    let count = same-count c.as_mut_slice.result.now c.run_arms-read.new.desks c.run_arms-read.ensures.told.ran.clients ∙ c.as_mut_slice.ensures.len in
    let back = written-back c.run_arms-read.new.desks (drop (length c.run_arms-read.new.desks) c.in-Ok.seating.desks.items) c.in-Ok.seating.desks.len (sym count) in
    let count_calls = c.run_arms-read.ensures.read.count ∙ c.as_mut_slice-2.ensures.len in
    let back_calls = written-back c.run_arms-read.new.callers (drop (length c.run_arms-read.new.callers) c.in-Ok.seating.callers.items) c.in-Ok.seating.callers.len (sym count_calls) in
    over-moved (g.H.Hub.is_pass c.in-Ok.hub) (g.H.Hub.shape c.in-Ok.hub) g.P.PassView.known _ c.run_arms-read.new.desks c.run_arms-read.result.0.1 back (over-now (g.H.Hub.is_pass c.in-Ok.hub) (g.H.Hub.shape c.in-Ok.hub) g.P.PassView.known c.args.seats c.in-Ok.seating.inboxes.items c.in-Ok.seating.desks.items c.run_arms-read.new.desks c.in-Ok.seating.callers.items c.run_arms-read.new.callers g.K.Sink.held g.K.Sink.faults c.args.sink.now c.run_arms-read.new.sink c.run_arms-read.result.0.0 c.run_arms-read.result.0.1 c.in-Ok.ensures told)

pub returns-clause-ends : goal.returns-clause-ends
returns-clause-ends g c =
    let told = told-moved (g.H.Hub.is_pass c.in-Ok.hub) (g.H.Hub.shape c.in-Ok.hub) g.P.PassView.known c.as_slice.result.now c.in-Ok.seating.inboxes.items c.as_mut_slice.result.now c.in-Ok.seating.desks.items c.run_arms-read.new.desks g.K.Sink.held g.K.Sink.faults c.args.sink.now c.run_arms-read.new.sink c.run_arms-read.result.0 c.as_slice.ensures.value c.as_mut_slice.ensures.value c.run_arms-read.ensures.told in
    let read = read-moved g.S.Source.left g.S.Source.faults c.as_slice.result.now c.in-Ok.seating.inboxes.items c.as_mut_slice-2.result.now c.in-Ok.seating.callers.items c.run_arms-read.new.callers c.args.source.now c.run_arms-read.new.source c.run_arms-read.result.1 c.as_slice.ensures.value c.as_mut_slice-2.ensures.value c.run_arms-read.ensures.read in
    let all = read.read (seat_notes c.args.seats) (may-call (g.H.Hub.is_pass c.in-Ok.hub) (g.H.Hub.shape c.in-Ok.hub) g.P.PassView.known c.args.seats c.in-Ok.seating.inboxes.items c.in-Ok.seating.desks.items c.in-Ok.seating.callers.items c.in-Ok.ensures c.requires.few) in
    let count = same-count c.as_mut_slice.result.now c.run_arms-read.new.desks c.run_arms-read.ensures.told.ran.clients ∙ c.as_mut_slice.ensures.len in
    let back = written-back c.run_arms-read.new.desks (drop (length c.run_arms-read.new.desks) c.in-Ok.seating.desks.items) c.in-Ok.seating.desks.len (sym count) in
    let count_calls = c.run_arms-read.ensures.read.count ∙ c.as_mut_slice-2.ensures.len in
    let back_calls = written-back c.run_arms-read.new.callers (drop (length c.run_arms-read.new.callers) c.in-Ok.seating.callers.items) c.in-Ok.seating.callers.len (sym count_calls) in
    subst (λ (r : Result Unit ServiceEnd). IfSome (g.S.Source.left c.args.source.now) (λ bytes. EndsService c.args.seats r bytes (g.K.Sink.held c.args.sink.now) (g.K.Sink.held c.run_arms-read.new.sink))) (sym c.answer.ensures)
    (ends-known (g.H.Hub.is_pass c.in-Ok.hub) (g.H.Hub.shape c.in-Ok.hub) g.P.PassView.known c.args.seats c.in-Ok.seating.inboxes.items c.in-Ok.seating.desks.items c.run_arms-read.new.desks c.in-Ok.seating.callers.items c.run_arms-read.new.callers g.K.Sink.held g.K.Sink.faults c.args.sink.now c.run_arms-read.new.sink (g.S.Source.left c.args.source.now) c.run_arms-read.result.0.0 c.run_arms-read.result.0.1 c.close-ran.result c.run_arms-read.result.1 c.requires.few c.in-Ok.ensures told read.count all
    (took-moved _ c.run_arms-read.new.desks _ c.run_arms-read.new.callers back back_calls c.close-ran.ensures.took) c.runs_are_legal.ensures c.close-ran.ensures.ran (gathered-moved g.P.PassView.known _ c.run_arms-read.new.desks c.close-ran.result back c.close-ran.ensures.gathered))

pub returns-clause-read : goal.returns-clause-read
returns-clause-read g c = λ e. c.run_arms-read.ensures.read.failed (read-cause c.run_arms-read.result.0.0 c.close-ran.result c.run_arms-read.result.1 (sym c.answer.ensures ∙ e))

pub returns-clause-write : goal.returns-clause-write
returns-clause-write g c = λ e. write-cause (g.K.Sink.faults c.args.sink.now) (g.K.Sink.faults c.run_arms-read.new.sink) c.run_arms-read.result.0.0 c.close-ran.result c.run_arms-read.result.1 c.run_arms-read.ensures.told.cause (sym c.answer.ensures ∙ e)

pub returns-clause-source_later : goal.returns-clause-source_later
returns-clause-source_later g c = c.run_arms-read.ensures.read.later

pub returns-clause-source_rose : goal.returns-clause-source_rose
returns-clause-source_rose g c = λ rose.
    subst (λ (r : Result Unit ServiceEnd). (r ≡ Err end.Read) ⊎ (r ≡ Err end.Write) ⊎ (r ≡ Err end.Memory)) (sym c.answer.ensures) (fault-due c.run_arms-read.result.0.0 c.close-ran.result c.run_arms-read.result.1 (c.run_arms-read.ensures.read.rose rose))

pub returns-clause-sink_later : goal.returns-clause-sink_later
returns-clause-sink_later g c = c.run_arms-read.ensures.told.cause.later

pub returns-clause-sink_rose : goal.returns-clause-sink_rose
returns-clause-sink_rose g c = λ rose. c.answer.ensures ∙ write-due (g.K.Sink.faults c.args.sink.now) (g.K.Sink.faults c.run_arms-read.new.sink) c.run_arms-read.result.0.0 c.close-ran.result c.run_arms-read.result.1 c.run_arms-read.ensures.told.cause rose
