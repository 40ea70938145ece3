use Rattle.std.proofs.Common.{List, [], length, ap, refl, arith}
use Rattle.std.proofs.lemmas.List.{length-map}
use Rattle.pgn_model.specs.declared.trace.Trace.{Trace}
use Rattle.pgn_reading.specs.Bare.{bare}
use Rattle.pgn_laws.proofs.BareLaws.{commit-first}
use Rattle.pgn_part_examples.proofs.threads.refused_ends.Goals as goal

pub returns-clause-kept : goal.returns-clause-kept
returns-clause-kept c = λ shape sessions journal h. commit-first _ [] h.whole _ _ _ [] h.are_bare refl

pub returns-clause-more : goal.returns-clause-more
returns-clause-more c = λ shape journal h.
    absurd (omega (arith, ap (λ (ts : List Trace). length ts) h.are_bare, length-map h.whole bare, length-map h.whole (λ trace. trace.items), h.shown.count))

pub returns-clause-fewer : goal.returns-clause-fewer
returns-clause-fewer c = λ shape session journal h.
    absurd (omega (arith, ap (λ (ts : List Trace). length ts) h.are_bare, length-map h.whole bare, length-map h.whole (λ trace. trace.items), h.shown.count))
