use Rattle.std.proofs.Common.{◌+◌, List, refl, subst, arith}
use Rattle.std.specs.Prelude.{All}
use Rattle.pgn_language.specs.declared.scenario.Section.{Section}
use Rattle.pgn_model.specs.Walk.{Settings}
use Rattle.pgn_check.specs.Laws.{IsHeld, IsHeldAct}
use Rattle.pgn_check.specs.Entries.{lines_in}
use Rattle.pgn_check.proofs.VerdictLaws.{few_lines, few_notes, illegal_first, illegal_walk, legal_walk, lines_fit_all}
use Rattle.pgn_check.proofs.check.check_output.Goals as goal

pub returns-in-Err : goal.returns-in-Err
returns-in-Err c =
    let settings : Settings = record { format = c.args.format; limit = c.args.pages; patience = c.args.patience } in
    let held : IsHeld c.args.scenario.now settings = record {
      acts = subst (λ (sections : List Section). All (λ section. All (λ line. IsHeldAct line.act) section.lines) sections) c.as_slice.ensures c.are_held.ensures;
      limit = omega arith;
      patience = omega arith;
    } in
    illegal_first c.args.scenario.now settings c.args.out.now c.in-Err.line c.requires.sound held c.requires.few (rw c.in-Err.is at c.in_ok-reading.ensures)

pub walk_reading-found-requires-clause-few_notes : goal.walk_reading-found-requires-clause-few_notes
walk_reading-found-requires-clause-few_notes c =
    let read = rw c.in-Ok.is at c.in_ok-reading.ensures in
    few_notes c.args.scenario.now c.args.out.now c.in-Ok.reading.journal c.in-Ok.reading.traces read.read c.requires.few

pub walk_reading-found-requires-clause-few_lines : goal.walk_reading-found-requires-clause-few_lines
walk_reading-found-requires-clause-few_lines c =
    let read = rw c.in-Ok.is at c.in_ok-reading.ensures in
    few_lines c.args.scenario.now c.args.out.now c.in-Ok.reading.journal c.in-Ok.reading.traces read.read c.requires.few

pub walk_reading-found-requires-clause-fits : goal.walk_reading-found-requires-clause-fits
walk_reading-found-requires-clause-fits c =
    let read = rw c.in-Ok.is at c.in_ok-reading.ensures in
    lines_fit_all c.args.scenario.now c.args.out.now c.in-Ok.reading.journal c.in-Ok.reading.traces read.read c.requires.few

pub returns-in-Some : goal.returns-in-Some
returns-in-Some c =
    let settings : Settings = record { format = c.args.format; limit = c.args.pages; patience = c.args.patience } in
    let held : IsHeld c.args.scenario.now settings = record {
      acts = subst (λ (sections : List Section). All (λ section. All (λ line. IsHeldAct line.act) section.lines) sections) c.as_slice.ensures c.are_held.ensures;
      limit = omega arith;
      patience = omega arith;
    } in
    let read = rw c.in-Ok.is at c.in_ok-reading.ensures in
    illegal_walk c.args.scenario.now settings c.args.out.now c.in-Ok.reading.journal c.in-Ok.reading.traces (2 + lines_in c.in-Ok.reading.journal) c.in-Some.line c.requires.sound held c.requires.few read refl
    (rw c.in-Some.is at (rw c.in_ok-line.was at c.walk_reading-found.ensures))

pub returns-in-None : goal.returns-in-None
returns-in-None c =
    let settings : Settings = record { format = c.args.format; limit = c.args.pages; patience = c.args.patience } in
    let read = rw c.in-Ok.is at c.in_ok-reading.ensures in
    legal_walk c.args.scenario.now settings c.args.out.now c.in-Ok.reading.journal c.in-Ok.reading.traces read (rw c.in-None.is at (rw c.in_ok-line.was at c.walk_reading-found.ensures))
