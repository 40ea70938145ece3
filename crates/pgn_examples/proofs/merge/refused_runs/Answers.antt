use Rattle.std.proofs.Common.{List, [], refl, subst}
use Rattle.pgn_model.specs.declared.trace.Trace.{Trace}
use Rattle.pgn_model.specs.Legal.{Legal}
use Rattle.pgn_examples.specs.Merge.{one_section}
use Rattle.pgn_laws.proofs.BareLaws.{commit-first, no-whole}
use Rattle.pgn_examples.proofs.merge.refused_runs.Goals as goal

pub returns-clause-kept : goal.returns-clause-kept
returns-clause-kept c = λ scenario settings journal h. commit-first _ [] h.whole _ _ _ [] h.are_bare refl

pub returns-clause-lost : goal.returns-clause-lost
returns-clause-lost c = λ settings journal h.
    let legal : Legal one_section settings journal [] = subst (λ (traces : List Trace). Legal one_section settings journal traces) (no-whole h.whole h.are_bare) h.legal in
    legal.lawful
