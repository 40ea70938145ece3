use Rattle.std.proofs.Common.{[], List, take, subst, arith}
use Rattle.std.proofs.lemmas.List.{take_all}
use Rattle.pgn_language.specs.declared.scenario.ScriptLine.{ScriptLine}
use Rattle.pgn_language.specs.declared.scenario.Section.{Section}
use Rattle.pgn_model.specs.declared.trace.Trace.{Trace}
use Rattle.pgn_model.specs.Legal.{EachTrace}
use Rattle.pgn_model.specs.Walk.{Terms}
use Rattle.pgn_reading.specs.Form.{IsReadTrace}
use Rattle.pgn_reading.specs.WholeLaws.{IsWalked}
use Rattle.pgn_check.specs.Sections.{settings_on}
use Rattle.pgn_check.proofs.SectionLaws.{each_long, fits_at, is_at, least_at, line_on, read_at, trace_long, walked_on}
use Rattle.pgn_check.proofs.sections.walk_all.Goals as goal

pub bounds-sections-at : goal.bounds-sections-at
bounds-sections-at c = omega (arith, each_long c.args.sections.now c.args.traces.now c.requires.read)

pub walk-requires : goal.walk-requires
walk-requires c =
    let sections = c.args.sections.now in
    let traces = c.args.traces.now in
    let k = c.loop-at.at in
    let s = c.index-sections-at.result in
    let t = c.index-traces-at.result in
    let at = is_at sections traces k s t c.index-sections-at.is c.index-traces-at.is c.loop-at-test.true c.requires.read in
    record { fits = fits_at sections traces k c.args.head c.loop-at.line s t at c.loop-at.invariant.line c.requires.fits }

pub returns-in-Some : goal.returns-in-Some
returns-in-Some c =
    let sections = c.args.sections.now in
    let traces = c.args.traces.now in
    let k = c.loop-at.at in
    let s = c.index-sections-at.result in
    let t = c.index-traces-at.result in
    let at = is_at sections traces k s t c.index-sections-at.is c.index-traces-at.is c.loop-at-test.true c.requires.read in
    let read : IsReadTrace s t = read_at sections traces k s t at c.requires.read in
    least_at (settings_on c.args.grounds.now) c.args.grounds.now.ledger.now.journal.now sections traces k c.args.head c.loop-at.line c.in-Some.number s t c.requires.read at c.loop-at.invariant.line
    c.loop-at.invariant.walked (rw c.in-Some.is at (c.in_ok-number.ensures sections traces c.requires.tells read))

pub lines_of_trace-line-requires : goal.lines_of_trace-line-requires
lines_of_trace-line-requires c =
    let sections = c.args.sections.now in
    let traces = c.args.traces.now in
    let k = c.loop-at.at in
    let s = c.index-sections-at.result in
    let t = c.index-traces-at.result in
    let at = is_at sections traces k s t c.index-sections-at.is c.index-traces-at.is c.loop-at-test.true c.requires.read in
    let none : List ScriptLine = [] in
    omega (arith, fits_at sections traces k c.args.head c.loop-at.line s t at c.loop-at.invariant.line c.requires.fits, trace_long s t none)

pub overflow_add-line : goal.overflow_add-line
overflow_add-line c =
    let sections = c.args.sections.now in
    let traces = c.args.traces.now in
    let k = c.loop-at.at in
    let s = c.index-sections-at.result in
    let t = c.index-traces-at.result in
    let at = is_at sections traces k s t c.index-sections-at.is c.index-traces-at.is c.loop-at-test.true c.requires.read in
    omega (arith, fits_at sections traces k c.args.head c.loop-at.line s t at c.loop-at.invariant.line c.requires.fits, c.lines_of_trace-line.ensures s)

pub loop-at-preserved : goal.loop-at-preserved
loop-at-preserved c =
    let sections = c.args.sections.now in
    let traces = c.args.traces.now in
    let k = c.loop-at.at in
    let s = c.index-sections-at.result in
    let t = c.index-traces-at.result in
    let at = is_at sections traces k s t c.index-sections-at.is c.index-traces-at.is c.loop-at-test.true c.requires.read in
    let read : IsReadTrace s t = read_at sections traces k s t at c.requires.read in
    record {
      line = omega (arith, c.lines_of_trace-line.ensures s, line_on sections traces k c.args.head c.loop-at.line s t at c.loop-at.invariant.line);
      walked = walked_on (settings_on c.args.grounds.now) (λ terms trace. IsWalked terms c.args.grounds.now.ledger.now.journal.now sections traces trace) sections traces k s t at c.loop-at.invariant.walked
          (rw c.in-None.is at (c.in_ok-number.ensures sections traces c.requires.tells read));
    }

pub returns : goal.returns
returns c =
    let sections = c.args.sections.now in
    let traces = c.args.traces.now in
    let P : Terms → Trace → Type 0 = λ terms trace. IsWalked terms c.args.grounds.now.ledger.now.journal.now sections traces trace in
    let settings = settings_on c.args.grounds.now in
    subst (λ (ss : List Section). EachTrace settings P ss traces) (take_all c.loop-at.at sections (omega (arith, each_long sections traces c.requires.read)))
    (subst (λ (ts : List Trace). EachTrace settings P (take c.loop-at.at sections) ts) (take_all c.loop-at.at traces (omega arith)) c.loop-at.invariant.walked)
