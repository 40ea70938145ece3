use Rattle.pgn_model.specs.Text.{journal_lines}
use Rattle.pgn_text.specs.Rendering.{ends_lines}
use Rattle.pgn_text.proofs.PutsLaws.{Puts-lines, Puts-trans, Writes-from_Puts}
use Rattle.pgn_service.proofs.ArmLaws.{cause-from_Puts}
use Rattle.pgn_run.proofs.live_run.put_end.Goals as goal

pub returns-clause-bytes : goal.returns-clause-bytes
returns-clause-bytes g c =
    Writes-from_Puts c.new-out.ensures.nothing c.new-out.ensures.fine
    (Puts-trans c.put_lasts.ensures (Puts-lines (journal_lines c.args.journal.now) (ends_lines c.args.sections.now c.args.traces.now) c.journal.ensures c.ends.ensures))
    c.send.ensures.puts c.send.ensures.emptied

pub returns-clause-cause : goal.returns-clause-cause
returns-clause-cause g c =
    cause-from_Puts c.new-out.ensures.fine
    (Puts-trans (Puts-trans c.put_lasts.ensures (Puts-lines (journal_lines c.args.journal.now) (ends_lines c.args.sections.now c.args.traces.now) c.journal.ensures c.ends.ensures)) c.send.ensures.puts)
