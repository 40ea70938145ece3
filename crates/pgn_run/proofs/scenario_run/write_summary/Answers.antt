use Rattle.std.proofs.Common.{◌≡◌, ℕ, List, subst}
use Rattle.std.specs.Io.KnownBytes.{Appends}
use Rattle.pgn_base.specs.Outside.{AppendsPrefix}
use Rattle.pgn_journal.specs.declared.tx.Tx.{Tx}
use Rattle.pgn_model.specs.declared.trace.Trace.{Trace}
use Rattle.pgn_model.specs.Text.{brief}
use Rattle.pgn_run.proofs.scenario_run.write_summary.Goals as goal

-- what holds of the summary of a run holds of that of the same run
same-run : (P : List ℕ → Type 0) (seed notes : ℕ) (xs ys : List Tx) (ts us : List Trace) → xs ≡ ys → ts ≡ us → P (brief seed notes xs ts) → P (brief seed notes ys us)
same-run P seed notes xs ys ts us e f h = subst (λ (l : List Trace). P (brief seed notes ys l)) f (subst (λ (l : List Tx). P (brief seed notes l ts)) e h)

pub returns-in-Ok-clause-written : goal.returns-in-Ok-clause-written
returns-in-Ok-clause-written g c = same-run (Appends (g.K.Sink.held c.args.sink.now) (g.K.Sink.held c.summary.new.sink)) c.args.seed c.args.notes _ _ _ _ c.as_slice.ensures.value c.as_slice-traces.ensures.value c.in-Ok.ensures.bytes

pub returns-in-Err-clause-written : goal.returns-in-Err-clause-written
returns-in-Err-clause-written g c = (
  same-run (AppendsPrefix (g.K.Sink.held c.args.sink.now) (g.K.Sink.held c.summary.new.sink)) c.args.seed c.args.notes _ _ _ _ c.as_slice.ensures.value c.as_slice-traces.ensures.value c.in-Err.ensures.bytes,
  c.in-Err.ensures.cause.failed,
)
