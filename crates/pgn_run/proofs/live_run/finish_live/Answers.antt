use Rattle.std.proofs.Common.{ℕ, List, length, ap, subst, ◌∙◌, inr, refl}
use Rattle.pgn_session.specs.declared.session.Session.{Session}
use Rattle.pgn_run.specs.Live.{counts_of}
use Rattle.pgn_run.specs.Run.{HasWritten}
use Rattle.pgn_run.proofs.BareLaws.{end-bare, sessions-whole}
use Rattle.pgn_run.proofs.LiveLaws.{ends-done, ends-prefix}
use Rattle.pgn_run.proofs.OverLaws.{fault-over, memory-over, only-over, memory-done, memory-fault}
use Rattle.pgn_run.proofs.live_run.finish_live.Goals as goal

pub returns-in-Ok-finish_run-clause-done : goal.returns-in-Ok-finish_run-clause-done
returns-in-Ok-finish_run-clause-done g c = λ e.
    let ended = c.in-Ok-finish_run.ensures.ended in
    ends-done c.args.scenario.now (g.H.Hub.shape c.args.hub) c.args.sessions.items c.in-Ok-finish_run.played.journal.items ended.whole (length (g.H.Hub.shape c.args.hub).seats)
    (λ pages patience format opened. ended.legal c.args.scenario.now pages patience format opened) c.requires.all
    (sessions-whole c.in-Ok-finish_run.played.traces.items ended.whole _ ended.are_bare c.in-Ok-finish_run.ensures.sessions) ended.shown
    c.as_slice-in-Ok-finish_run.result.now (c.as_slice-in-Ok-finish_run.ensures.value ∙ c.in-Ok.ensures ∙ ap (λ (sessions : List (Session g.row.H-Pass.Denot)). counts_of sessions) c.as_slice.ensures.value)
    (g.K.Sink.held c.args.sink.now) (g.K.Sink.held c.write_end-status.new.sink) _ _ c.write_end-status.result
    (subst (λ (all : List ℕ). HasWritten all (g.K.Sink.held c.args.sink.now) (g.K.Sink.held c.write_end-status.new.sink) (g.K.Sink.faults c.args.sink.now) (g.K.Sink.faults c.write_end-status.new.sink) c.write_end-status.result)
    (end-bare c.args.scenario.now c.as_slice-in-Ok-finish_run.result.now c.in-Ok-finish_run.played.journal.items c.in-Ok-finish_run.played.traces.items ended.whole ended.are_bare) c.write_end-status.ensures.written) e

pub returns-in-Ok-finish_run-clause-write_fault_writes_a_prefix : goal.returns-in-Ok-finish_run-clause-write_fault_writes_a_prefix
returns-in-Ok-finish_run-clause-write_fault_writes_a_prefix g c = λ e.
    let ended = c.in-Ok-finish_run.ensures.ended in
    ends-prefix c.args.scenario.now (g.H.Hub.shape c.args.hub) c.args.sessions.items c.in-Ok-finish_run.played.journal.items ended.whole (length (g.H.Hub.shape c.args.hub).seats)
    (λ pages patience format opened. ended.legal c.args.scenario.now pages patience format opened) c.requires.all
    (sessions-whole c.in-Ok-finish_run.played.traces.items ended.whole _ ended.are_bare c.in-Ok-finish_run.ensures.sessions) ended.shown
    c.as_slice-in-Ok-finish_run.result.now (c.as_slice-in-Ok-finish_run.ensures.value ∙ c.in-Ok.ensures ∙ ap (λ (sessions : List (Session g.row.H-Pass.Denot)). counts_of sessions) c.as_slice.ensures.value)
    (g.K.Sink.held c.args.sink.now) (g.K.Sink.held c.write_end-status.new.sink) _ _ c.write_end-status.result
    (subst (λ (all : List ℕ). HasWritten all (g.K.Sink.held c.args.sink.now) (g.K.Sink.held c.write_end-status.new.sink) (g.K.Sink.faults c.args.sink.now) (g.K.Sink.faults c.write_end-status.new.sink) c.write_end-status.result)
    (end-bare c.args.scenario.now c.as_slice-in-Ok-finish_run.result.now c.in-Ok-finish_run.played.journal.items c.in-Ok-finish_run.played.traces.items ended.whole ended.are_bare) c.write_end-status.ensures.written) e

pub returns-in-Ok-finish_run-clause-write_fault : goal.returns-in-Ok-finish_run-clause-write_fault
returns-in-Ok-finish_run-clause-write_fault g c = fault-over _ (g.K.Sink.held c.args.sink.now) (g.K.Sink.held c.write_end-status.new.sink) _ _ c.write_end-status.result c.write_end-status.ensures.written

pub returns-in-Ok-finish_run-clause-no_memory_writes_nothing : goal.returns-in-Ok-finish_run-clause-no_memory_writes_nothing
returns-in-Ok-finish_run-clause-no_memory_writes_nothing g c = memory-over _ (g.K.Sink.held c.args.sink.now) (g.K.Sink.held c.write_end-status.new.sink) _ _ c.write_end-status.result c.write_end-status.ensures.written

pub returns-in-Ok-finish_run-clause-only : goal.returns-in-Ok-finish_run-clause-only
returns-in-Ok-finish_run-clause-only g c = only-over _ (g.K.Sink.held c.args.sink.now) (g.K.Sink.held c.write_end-status.new.sink) _ _ c.write_end-status.result c.write_end-status.ensures.written

pub returns-in_default-clause-done : goal.returns-in_default-clause-done
returns-in_default-clause-done g c = λ e. memory-done e

pub returns-in_default-clause-write_fault : goal.returns-in_default-clause-write_fault
returns-in_default-clause-write_fault g c = λ e. memory-fault e

pub returns-in_default-clause-write_fault_writes_a_prefix : goal.returns-in_default-clause-write_fault_writes_a_prefix
returns-in_default-clause-write_fault_writes_a_prefix g c = λ e. memory-fault e

pub returns-in_default-clause-only : goal.returns-in_default-clause-only
returns-in_default-clause-only g c = inr (inr refl)

pub returns-in-Err-clause-done : goal.returns-in-Err-clause-done
returns-in-Err-clause-done g c = λ e. memory-done e

pub returns-in-Err-clause-write_fault : goal.returns-in-Err-clause-write_fault
returns-in-Err-clause-write_fault g c = λ e. memory-fault e

pub returns-in-Err-clause-write_fault_writes_a_prefix : goal.returns-in-Err-clause-write_fault_writes_a_prefix
returns-in-Err-clause-write_fault_writes_a_prefix g c = λ e. memory-fault e

pub returns-in-Err-clause-only : goal.returns-in-Err-clause-only
returns-in-Err-clause-only g c = inr (inr refl)

pub returns-in-Ok-finish_run-clause-later : goal.returns-in-Ok-finish_run-clause-later
returns-in-Ok-finish_run-clause-later g c = c.write_end-status.ensures.later

pub returns-in-Ok-finish_run-clause-write_fault_where_due : goal.returns-in-Ok-finish_run-clause-write_fault_where_due
returns-in-Ok-finish_run-clause-write_fault_where_due g c = c.write_end-status.ensures.rose
