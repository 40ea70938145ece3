use Rattle.std.proofs.Common.{ap}
use Rattle.pgn_language.specs.declared.scenario.ScriptLine.{ScriptLine}
use Rattle.pgn_session.proofs.FullLaws.{indexed-line}
use Rattle.pgn_session.proofs.session.Session.next_number.Goals as goal

pub returns-clause-number : goal.returns-clause-number
returns-clause-number g c = λ next rest e.
    let s = c.args.self.now in
    ap (λ (l : ScriptLine). l.line) (indexed-line s.section.lines c.as_slice.result.now s.done next rest c.index-as_slice-self.result e c.as_slice.ensures)
