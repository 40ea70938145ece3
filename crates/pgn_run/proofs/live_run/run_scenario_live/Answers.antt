use Rattle.std.proofs.Common.{Err, List, map, drop, length, ap, sym, subst, inl, inr, ◌∙◌, ◌≡◌, Result, refl}
use Rattle.std.specs.Io.KnownBytes.{Appends}
use Rattle.std.proofs.lemmas.List.Elements.{All-same}
use Rattle.pgn_base.specs.Outside.{AppendsPrefix}
use Rattle.pgn_session.specs.declared.session.Session.{Session}
use Rattle.pgn_session.specs.Runs.{IsOver, IsReady, script_of}
use Rattle.pgn_threads.proofs.ListLemmas.{same-count, written-back}
use Rattle.pgn_live.specs.Lives.{logs_of}
use Rattle.pgn_run.specs.Live.{EndsOver}
use Rattle.pgn_run.proofs.LiveLaws.{Appends-more, Appends-prefix, all-numbers, due-behind, early-over, live-over, rose-from, so_far-over, still-few, still-numbered, still-opened, whole-first, later-from}
use Rattle.pgn_live.specs.declared.lives.LiveFault.{LiveFault}
use Rattle.pgn_live.specs.declared.lives.LiveFault.TheVariants.{Memory, Write}
use Rattle.pgn_run.proofs.OverLaws.{fault-done, fault-memory, memory-done, memory-fault}
use Rattle.pgn_run.proofs.live_run.run_scenario_live.Goals as goal

pub run_live-requires-clause-ready : goal.run_live-requires-clause-ready
run_live-requires-clause-ready g c κs within =
    All-same (IsReady (g.H.Hub.is_pass c.in-Ok.hub) (g.H.Hub.shape c.in-Ok.hub) g.P.PassView.known) c.as_mut_slice.result.now c.in-Ok.sessions.items c.as_mut_slice.ensures.value c.in-Ok.ensures.ready

pub run_live-requires-clause-numbered : goal.run_live-requires-clause-numbered
run_live-requires-clause-numbered g c κs within =
    let given = ap (λ (sessions : List (Session g.row.P.Denot)). map script_of sessions) c.as_mut_slice.ensures.value ∙ c.in-Ok.ensures.scripts in
    still-numbered c.args.scenario.now (g.H.Hub.shape c.in-Ok.hub) c.args.settings.pages c.args.settings.patience c.args.settings.format c.as_mut_slice.result.now c.requires.sound c.in-Ok.ensures.shape given

pub run_live-requires-clause-few : goal.run_live-requires-clause-few
run_live-requires-clause-few g c κs within =
    let given = ap (λ (sessions : List (Session g.row.P.Denot)). map script_of sessions) c.as_mut_slice.ensures.value ∙ c.in-Ok.ensures.scripts in
    still-few c.args.scenario.now (g.H.Hub.shape c.in-Ok.hub) c.args.settings.pages c.args.settings.patience c.args.settings.format c.as_mut_slice.result.now c.requires.sound c.in-Ok.ensures.shape given

pub finish_live-requires-clause-over : goal.finish_live-requires-clause-over
finish_live-requires-clause-over g c =
    let new : List (Session g.row.P.Denot) = c.run_live.new.sessions in
    let count = same-count script_of new c.as_mut_slice.result.now c.run_live.ensures.scripts ∙ c.as_mut_slice.ensures.len in
    let back = written-back new (drop (length new) c.in-Ok.sessions.items) c.in-Ok.sessions.len (sym count) in
    All-same (IsOver (g.H.Hub.is_pass c.in-Ok.hub) (g.H.Hub.shape c.in-Ok.hub) g.P.PassView.known) _ new back c.in-Ok-run_live.ensures.over

pub finish_live-requires-clause-all : goal.finish_live-requires-clause-all
finish_live-requires-clause-all g c =
    let new : List (Session g.row.P.Denot) = c.run_live.new.sessions in
    let count = same-count script_of new c.as_mut_slice.result.now c.run_live.ensures.scripts ∙ c.as_mut_slice.ensures.len in
    let back = written-back new (drop (length new) c.in-Ok.sessions.items) c.in-Ok.sessions.len (sym count) in
    let scripts = c.run_live.ensures.scripts ∙ ap (λ (sessions : List (Session g.row.P.Denot)). map script_of sessions) c.as_mut_slice.ensures.value ∙ c.in-Ok.ensures.scripts in
    ap (λ (sessions : List (Session g.row.P.Denot)). map (λ (s : Session g.row.P.Denot). s.section.no) sessions) back
    ∙ all-numbers c.args.scenario.now (g.H.Hub.shape c.in-Ok.hub) c.args.settings.pages c.args.settings.patience c.args.settings.format new c.requires.sound c.in-Ok.ensures.shape scripts

pub returns-in-Ok-run_live-clause-done : goal.returns-in-Ok-run_live-clause-done
returns-in-Ok-run_live-clause-done g c = λ e.
    let new : List (Session g.row.P.Denot) = c.run_live.new.sessions in
    let count = same-count script_of new c.as_mut_slice.result.now c.run_live.ensures.scripts ∙ c.as_mut_slice.ensures.len in
    let back = written-back new (drop (length new) c.in-Ok.sessions.items) c.in-Ok.sessions.len (sym count) in
    let scripts = c.run_live.ensures.scripts ∙ ap (λ (sessions : List (Session g.row.P.Denot)). map script_of sessions) c.as_mut_slice.ensures.value ∙ c.in-Ok.ensures.scripts in
    live-over c.args.scenario.now (g.H.Hub.shape c.in-Ok.hub) c.args.settings.pages c.args.settings.patience c.args.settings.format new (Appends (g.K.Sink.held c.args.sink.now) (g.K.Sink.held c.run_live.new.sink)) (Appends (g.K.Sink.held c.args.sink.now) (g.K.Sink.held c.finish_live.new.sink)) (Appends (g.K.Sink.held c.run_live.new.sink) (g.K.Sink.held c.finish_live.new.sink))
    (still-opened c.args.scenario.now (g.H.Hub.shape c.in-Ok.hub) c.args.settings.pages c.args.settings.patience c.args.settings.format new c.requires.sound c.in-Ok.ensures.shape scripts) (Appends-more (g.K.Sink.held c.args.sink.now) (g.K.Sink.held c.run_live.new.sink) (g.K.Sink.held c.finish_live.new.sink)) (rw c.as_slice-sections.ensures at c.in-Ok-run_live.ensures.done)
    (subst (λ (xs : List (Session g.row.P.Denot)). EndsOver c.args.scenario.now (g.H.Hub.shape c.in-Ok.hub) xs (Appends (g.K.Sink.held c.run_live.new.sink) (g.K.Sink.held c.finish_live.new.sink))) back (c.finish_live.ensures.done e))

pub returns-in-Ok-run_live-clause-write_fault_writes_a_prefix : goal.returns-in-Ok-run_live-clause-write_fault_writes_a_prefix
returns-in-Ok-run_live-clause-write_fault_writes_a_prefix g c = λ e.
    let new : List (Session g.row.P.Denot) = c.run_live.new.sessions in
    let count = same-count script_of new c.as_mut_slice.result.now c.run_live.ensures.scripts ∙ c.as_mut_slice.ensures.len in
    let back = written-back new (drop (length new) c.in-Ok.sessions.items) c.in-Ok.sessions.len (sym count) in
    let scripts = c.run_live.ensures.scripts ∙ ap (λ (sessions : List (Session g.row.P.Denot)). map script_of sessions) c.as_mut_slice.ensures.value ∙ c.in-Ok.ensures.scripts in
    inl (live-over c.args.scenario.now (g.H.Hub.shape c.in-Ok.hub) c.args.settings.pages c.args.settings.patience c.args.settings.format new (Appends (g.K.Sink.held c.args.sink.now) (g.K.Sink.held c.run_live.new.sink)) (AppendsPrefix (g.K.Sink.held c.args.sink.now) (g.K.Sink.held c.finish_live.new.sink)) (AppendsPrefix (g.K.Sink.held c.run_live.new.sink) (g.K.Sink.held c.finish_live.new.sink))
    (still-opened c.args.scenario.now (g.H.Hub.shape c.in-Ok.hub) c.args.settings.pages c.args.settings.patience c.args.settings.format new c.requires.sound c.in-Ok.ensures.shape scripts) (Appends-prefix (g.K.Sink.held c.args.sink.now) (g.K.Sink.held c.run_live.new.sink) (g.K.Sink.held c.finish_live.new.sink)) (rw c.as_slice-sections.ensures at c.in-Ok-run_live.ensures.done)
    (subst (λ (xs : List (Session g.row.P.Denot)). EndsOver c.args.scenario.now (g.H.Hub.shape c.in-Ok.hub) xs (AppendsPrefix (g.K.Sink.held c.run_live.new.sink) (g.K.Sink.held c.finish_live.new.sink))) back (c.finish_live.ensures.write_fault_writes_a_prefix e)))

pub returns-in-Ok-run_live-clause-no_memory_writes_first_lines : goal.returns-in-Ok-run_live-clause-no_memory_writes_first_lines
returns-in-Ok-run_live-clause-no_memory_writes_first_lines g c = λ e.
    let new : List (Session g.row.P.Denot) = c.run_live.new.sessions in
    let scripts = c.run_live.ensures.scripts ∙ ap (λ (sessions : List (Session g.row.P.Denot)). map script_of sessions) c.as_mut_slice.ensures.value ∙ c.in-Ok.ensures.scripts in
    inr (rw (c.finish_live.ensures.no_memory_writes_nothing e)
    (so_far-over c.args.scenario.now (g.H.Hub.shape c.in-Ok.hub) c.args.settings.pages c.args.settings.patience c.args.settings.format new c.requires.sound c.in-Ok.ensures.shape scripts (Appends (g.K.Sink.held c.args.sink.now) (g.K.Sink.held c.run_live.new.sink)) c.run_live.ensures.lawful
    (whole-first c.args.scenario.now.sections (logs_of new) (Appends (g.K.Sink.held c.args.sink.now) (g.K.Sink.held c.run_live.new.sink)) (rw c.as_slice-sections.ensures at c.in-Ok-run_live.ensures.done))))

pub returns-in-Ok-run_live-clause-write_fault : goal.returns-in-Ok-run_live-clause-write_fault
returns-in-Ok-run_live-clause-write_fault g c = λ e. rose-from (g.K.Sink.faults c.args.sink.now) (g.K.Sink.faults c.run_live.new.sink) (g.K.Sink.faults c.finish_live.new.sink) c.run_live.ensures.later (c.finish_live.ensures.write_fault e)

pub returns-in-Ok-run_live-clause-write_fault_where_due : goal.returns-in-Ok-run_live-clause-write_fault_where_due
returns-in-Ok-run_live-clause-write_fault_where_due g c = λ less. c.finish_live.ensures.write_fault_where_due (due-behind (g.K.Sink.faults c.args.sink.now) (g.K.Sink.faults c.run_live.new.sink) (g.K.Sink.faults c.finish_live.new.sink) c.run_live.result _ c.in-Ok-run_live.is c.run_live.ensures.write_where_due less)

pub returns-in-Err-Write-clause-write_fault_writes_a_prefix : goal.returns-in-Err-Write-clause-write_fault_writes_a_prefix
returns-in-Err-Write-clause-write_fault_writes_a_prefix g c = λ e.
    let new : List (Session g.row.P.Denot) = c.run_live.new.sessions in
    let scripts = c.run_live.ensures.scripts ∙ ap (λ (sessions : List (Session g.row.P.Denot)). map script_of sessions) c.as_mut_slice.ensures.value ∙ c.in-Ok.ensures.scripts in
    inr (early-over c.args.scenario.now (g.H.Hub.shape c.in-Ok.hub) c.args.settings.pages c.args.settings.patience c.args.settings.format new c.requires.sound c.in-Ok.ensures.shape scripts (AppendsPrefix (g.K.Sink.held c.args.sink.now) (g.K.Sink.held c.run_live.new.sink)) c.run_live.ensures.lawful (rw c.as_slice-sections.ensures at (c.run_live.ensures.write_writes_a_prefix (c.in-Err-Write.is ∙ ap Err c.in-Err-Write.field-0-is))))

pub returns-in-Err-Memory-clause-no_memory_writes_first_lines : goal.returns-in-Err-Memory-clause-no_memory_writes_first_lines
returns-in-Err-Memory-clause-no_memory_writes_first_lines g c = λ e.
    let new : List (Session g.row.P.Denot) = c.run_live.new.sessions in
    let scripts = c.run_live.ensures.scripts ∙ ap (λ (sessions : List (Session g.row.P.Denot)). map script_of sessions) c.as_mut_slice.ensures.value ∙ c.in-Ok.ensures.scripts in
    inr (so_far-over c.args.scenario.now (g.H.Hub.shape c.in-Ok.hub) c.args.settings.pages c.args.settings.patience c.args.settings.format new c.requires.sound c.in-Ok.ensures.shape scripts (Appends (g.K.Sink.held c.args.sink.now) (g.K.Sink.held c.run_live.new.sink)) c.run_live.ensures.lawful (rw c.as_slice-sections.ensures at (c.run_live.ensures.memory_writes_first_items (c.in-Err-Memory.is ∙ ap Err c.in-Err-Memory.field-0-is))))

-- want of memory is no failed write
no-write : {A T : Type 0} (r : Result T LiveFault) → r ≡ Err Memory → r ≡ Err Write → A
no-write r is e = absurd (cc)

pub returns-in_default-clause-done : goal.returns-in_default-clause-done
returns-in_default-clause-done g c = λ e. memory-done e

pub returns-in_default-clause-write_fault : goal.returns-in_default-clause-write_fault
returns-in_default-clause-write_fault g c = λ e. memory-fault e

pub returns-in_default-clause-write_fault_writes_a_prefix : goal.returns-in_default-clause-write_fault_writes_a_prefix
returns-in_default-clause-write_fault_writes_a_prefix g c = λ e. memory-fault e

pub returns-in_default-clause-no_memory_writes_first_lines : goal.returns-in_default-clause-no_memory_writes_first_lines
returns-in_default-clause-no_memory_writes_first_lines g c = λ e. inl refl

pub returns-in-Ok-run_live-clause-later : goal.returns-in-Ok-run_live-clause-later
returns-in-Ok-run_live-clause-later g c = later-from (g.K.Sink.faults c.args.sink.now) (g.K.Sink.faults c.run_live.new.sink) (g.K.Sink.faults c.finish_live.new.sink) c.run_live.ensures.later c.finish_live.ensures.later

pub returns-in-Err-Write-clause-done : goal.returns-in-Err-Write-clause-done
returns-in-Err-Write-clause-done g c = λ e. fault-done e

pub returns-in-Err-Write-clause-write_fault : goal.returns-in-Err-Write-clause-write_fault
returns-in-Err-Write-clause-write_fault g c = λ e. c.run_live.ensures.write (c.in-Err-Write.is ∙ ap Err c.in-Err-Write.field-0-is)

pub returns-in-Err-Write-clause-no_memory_writes_first_lines : goal.returns-in-Err-Write-clause-no_memory_writes_first_lines
returns-in-Err-Write-clause-no_memory_writes_first_lines g c = λ e. fault-memory e

pub returns-in-Err-Write-clause-only : goal.returns-in-Err-Write-clause-only
returns-in-Err-Write-clause-only g c = inr (inl refl)

pub returns-in-Err-Write-clause-later : goal.returns-in-Err-Write-clause-later
returns-in-Err-Write-clause-later g c = c.run_live.ensures.later

pub returns-in-Err-Memory-clause-done : goal.returns-in-Err-Memory-clause-done
returns-in-Err-Memory-clause-done g c = λ e. memory-done e

pub returns-in-Err-Memory-clause-write_fault : goal.returns-in-Err-Memory-clause-write_fault
returns-in-Err-Memory-clause-write_fault g c = λ e. memory-fault e

pub returns-in-Err-Memory-clause-write_fault_where_due : goal.returns-in-Err-Memory-clause-write_fault_where_due
returns-in-Err-Memory-clause-write_fault_where_due g c = λ less. no-write _ (c.in-Err-Memory.is ∙ ap Err c.in-Err-Memory.field-0-is) (c.run_live.ensures.write_where_due less)

pub returns-in-Err-Memory-clause-write_fault_writes_a_prefix : goal.returns-in-Err-Memory-clause-write_fault_writes_a_prefix
returns-in-Err-Memory-clause-write_fault_writes_a_prefix g c = λ e. memory-fault e

pub returns-in-Err-Memory-clause-only : goal.returns-in-Err-Memory-clause-only
returns-in-Err-Memory-clause-only g c = inr (inr refl)

pub returns-in-Err-Memory-clause-later : goal.returns-in-Err-Memory-clause-later
returns-in-Err-Memory-clause-later g c = c.run_live.ensures.later
