use Rattle.std.proofs.Common.{refl, ◌≡◌, ℕ, List, get_or, ap, arith}
use Rattle.std.specs.Fmt.{digits}
use Rattle.pgn_drill.specs.Drill.{state_after, up_to}
use Rattle.pgn_examples.proofs.command_lines.scenarios_of_drills.Goals as goal

pub returns-clause-drill_of_one : goal.returns-clause-drill_of_one
unfolding digits state_after up_to
returns-clause-drill_of_one c = refl

pub returns-clause-drill_of_four : goal.returns-clause-drill_of_four
unfolding digits state_after up_to
returns-clause-drill_of_four c = refl

-- the two texts part at a byte of the second section
pub returns-clause-drawn_once : goal.returns-clause-drawn_once
unfolding digits state_after up_to
returns-clause-drawn_once c = λ same. let byte : 66 ≡ 78 = ap (λ (text : List ℕ). get_or text 285 0) same in absurd (omega (arith, byte))
