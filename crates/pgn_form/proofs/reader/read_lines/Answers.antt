use Rattle.std.proofs.Common.{Option, IfSome, refl, subst}
use Rattle.pgn_form.specs.declared.place.Place.{Place}
use Rattle.pgn_form.specs.Places.{Fits}
use Rattle.pgn_form.proofs.CutLaws.{cut_shorter}
use Rattle.pgn_form.proofs.ReaderLaws.{come_on_at, come_short, come_to_end, come_to_nothing_at}
use Rattle.pgn_form.proofs.reader.read_lines.Goals as goal

pub loop-line-smaller : goal.loop-line-smaller
loop-line-smaller c = cut_shorter _ _ _ c.in-Some.ensures

pub loop-line-preserved : goal.loop-line-preserved
loop-line-preserved c = record {
  come = come_on_at c.args.scenario.now c.args.out.now c.loop-line.rest.now c.in-Some.tail.now c.in-Some.line.now c.loop-line.place c.in-Some-2.next c.loop-line.draft c.step.new.draft c.loop-line.number c.in_ok-next.field-0 c.requires.sound
      c.loop-line.invariant.come c.in-Some.ensures c.in_ok-next.ensures.value c.in-Some-2.is;
  fits = subst (λ (o : Option Place). IfSome o Fits) c.in-Some-2.is c.in_ok-next.ensures.fits;
}

pub returns-in_default-2 : goal.returns-in_default-2
returns-in_default-2 c =
    come_to_nothing_at c.args.scenario.now c.args.out.now c.loop-line.rest.now c.in-Some.tail.now c.in-Some.line.now c.loop-line.place c.loop-line.draft c.step.new.draft c.loop-line.number c.in_ok-next.field-0 c.requires.sound
    c.loop-line.invariant.come c.in-Some.ensures c.in_ok-next.ensures.value c.in_default-2.is

pub returns-then-is_read : goal.returns-then-is_read
returns-then-is_read c =
    come_to_end c.args.scenario.now c.args.out.now c.loop-line.rest.now c.loop-line.place c.loop-line.draft c.loop-line.number c.loop-line.draft.journal c.loop-line.draft.traces c.is_read.result c.loop-line.invariant.come
    c.in_default.ensures c.is_read.ensures c.if-is_read.true refl refl

pub returns-else-is_read : goal.returns-else-is_read
returns-else-is_read c =
    come_short c.args.scenario.now c.args.out.now c.loop-line.rest.now c.loop-line.place c.loop-line.draft c.loop-line.number c.is_read.result c.requires.sound c.loop-line.invariant.come c.in_default.ensures c.is_read.ensures
    c.if-is_read.false
