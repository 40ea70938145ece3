use Rattle.std.proofs.Common.{refl, rules, subst}
use Rattle.pgn_language.specs.declared.scenario.ScriptLine.{ScriptLine}
use Rattle.pgn_seats.specs.Working.{HasPut}
use Rattle.pgn_seats.proofs.ResultLaws.{on_err}
use Rattle.pgn_seats.proofs.WorkLaws.{query-runs}
use Rattle.pgn_seats.proofs.answering.put_query.Goals as goal

pub put_line-requires-clause-runs : goal.put_line-requires-clause-runs
put_line-requires-clause-runs g c = query-runs c.args.query.now c.in_ok-line.line c.in_ok-line.ensures

pub returns-in_err-line : goal.returns-in_err-line
returns-in_err-line g c = record { same = refl; fed = search rules; unchanged = on_err c.from_residual.result _ refl; rested = λ shape h. search rules; counted = c.requires.counted }

pub returns : goal.returns
returns g c = subst (λ (l : ScriptLine). HasPut g.P.PassView.known c.args.desk.now l c.put_line.new.desk c.put_line.result) c.in_ok-line.ensures c.put_line.ensures
