use Rattle.pgn_model.specs.Text.{journal_lines, traces_lines}
use Rattle.pgn_text.proofs.PutsLaws.{Puts-lines, Writes-from_Puts}
use Rattle.pgn_text.proofs.text.render.Goals as goal

pub returns-clause-bytes : goal.returns-clause-bytes
returns-clause-bytes g c =
    let sections = rw c.as_slice.ensures at c.sections.ensures in
    Writes-from_Puts c.new-out.ensures.nothing c.new-out.ensures.fine (Puts-lines (journal_lines c.args.journal.now) (traces_lines c.args.scenario.now.sections c.args.traces.now) c.journal.ensures sections) c.send.ensures.puts c.send.ensures.emptied
