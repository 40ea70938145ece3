use Rattle.std.proofs.Common.{[], ◌∷◌, ◌∙◌, refl}
use Rattle.pgn_part_examples.specs.Wire.{half_answer}
use Rattle.pgn_part_examples.proofs.WireLaws.{no-half}
use Rattle.pgn_part_examples.proofs.wire.ends.Goals as goal

pub returns-clause-failed_write : goal.returns-clause-failed_write
returns-clause-failed_write c = (half_answer, 90 ∷ 0 ∷ 0 ∷ 0 ∷ 5 ∷ 73 ∷ [], refl, refl)

pub returns-clause-want_of_memory : goal.returns-clause-want_of_memory
returns-clause-want_of_memory c = λ h. no-half h.whole.front h.whole.behind h.whole.split h.whole.line (h.wrote ∙ h.whole.are)
