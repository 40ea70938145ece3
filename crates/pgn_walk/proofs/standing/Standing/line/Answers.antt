use Rattle.std.proofs.Common.{◌≡◌, ◌∙◌, List, length, Some, ap, sym, refl}
use Rattle.std.specs.Prelude.{slice_get}
use Rattle.std.proofs.lemmas.Option.{slice_get_read}
use Rattle.pgn_language.specs.declared.scenario.ScriptLine.{ScriptLine}
use Rattle.pgn_walk.proofs.ItemLaws.{line_on, line_other, line_owing}
use Rattle.pgn_walk.proofs.standing.Standing.line.Goals as goal

pub returns-then-not-has_answered : goal.returns-then-not-has_answered
returns-then-not-has_answered c = λ settings journal.
    line_owing (record { section = c.args.section.now; settings = settings }) journal c.args.self.now c.args.self.now c.args.line c.has_answered.result c.has_answered.ensures c.if-not-has_answered.true

pub returns-then-next-line : goal.returns-then-next-line
returns-then-next-line c = λ settings journal.
    let b = c.in-Some.ensures.lookup in
    let next = c.args.self.now.next in
    let read : slice_get c.as_slice.result.now next ≡ Some c.in-Some.next.now = slice_get_read c.as_slice.result.now (length c.as_slice.result.now) next c.in-Some.next.now refl b.3.0 b.1 in
    let there : slice_get c.args.section.now.lines next ≡ Some c.in-Some.next.now = sym (ap (λ (lines : List ScriptLine). slice_get lines next) c.as_slice.ensures) ∙ read in
    line_other (record { section = c.args.section.now; settings = settings }) journal c.args.self.now c.args.self.now c.args.line c.in-Some.next.now there c.if-next-line.true

pub returns : goal.returns
returns c = λ settings journal.
    let b = c.in-Some.ensures.lookup in
    let next = c.args.self.now.next in
    let read : slice_get c.as_slice.result.now next ≡ Some c.in-Some.next.now = slice_get_read c.as_slice.result.now (length c.as_slice.result.now) next c.in-Some.next.now refl b.3.0 b.1 in
    let there : slice_get c.args.section.now.lines next ≡ Some c.in-Some.next.now = sym (ap (λ (lines : List ScriptLine). slice_get lines next) c.as_slice.ensures) ∙ read in
    line_on (record { section = c.args.section.now; settings = settings }) journal c.args.self.now c.begin.new.self c.args.line c.in-Some.next.now there c.if-next-line.false
    (c.has_answered.ensures.0 c.if-not-has_answered.false) c.in_ok-begin.ensures
