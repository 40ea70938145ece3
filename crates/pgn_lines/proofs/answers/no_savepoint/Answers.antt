use Rattle.std.proofs.Common.{List, ℕ, subst, rules}
use Rattle.pgn_base.specs.Texts.{IsName}
use Rattle.pgn_lines.proofs.answers.no_savepoint.Goals as goal

pub returns-in_default-2 : goal.returns-in_default-2
returns-in_default-2 c = λ name h e.
    let valid : IsName c.in-Some.text.now = subst (λ (l : List ℕ). IsName l) (c.in-Some.ensures.alone name e) h in
    let read = c.in_ok-name.ensures in
    search rules

pub returns-in_default : goal.returns-in_default
returns-in_default c = λ name h e. c.in_default.ensures name e
