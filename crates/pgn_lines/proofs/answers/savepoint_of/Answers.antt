use Rattle.std.proofs.Common.{ℕ, List, ◌++◌, codes, sym, ap, ◌∙◌}
use Rattle.std.proofs.lemmas.List.{append_cancel_left, append_cancel_right}
use Rattle.pgn_lines.proofs.answers.savepoint_of.Goals as goal

pub returns-in_default : goal.returns-in_default
returns-in_default c = λ name e. c.in_default.ensures (name ++ codes "\" does not exist") (sym e)

pub returns-in_default-before : goal.returns-in_default-before
returns-in_default-before c = λ name e.
    c.in_default-before.ensures name (append_cancel_left (codes "ERROR: 3B001: savepoint \"") c.in-Some.start.now (name ++ codes "\" does not exist") (sym c.in-Some.ensures ∙ sym e))

pub returns : goal.returns
returns c =
    let start : List ℕ = codes "ERROR: 3B001: savepoint \"" in
    let end : List ℕ = codes "\" does not exist" in
    record {
      spelled = ap (λ (l : List ℕ). start ++ l) (sym c.in-Some-before.ensures) ∙ sym c.in-Some.ensures;
      alone = λ other e.
          append_cancel_right other c.in-Some-before.text.now end
          (append_cancel_left start (other ++ end) (c.in-Some-before.text.now ++ end) (e ∙ c.in-Some.ensures ∙ ap (λ (l : List ℕ). start ++ l) c.in-Some-before.ensures));
    }
