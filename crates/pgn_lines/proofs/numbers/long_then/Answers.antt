use Rattle.std.proofs.Common.{ℕ, List, ◌++◌, ◌∷◌, decimal, sym, ap, ◌∙◌}
use Rattle.std.proofs.lemmas.List.{append_cancel_left}
use Rattle.pgn_lines.specs.Fields.{IsParted}
use Rattle.pgn_lines.proofs.FieldLaws.{same_number}
use Rattle.pgn_lines.proofs.numbers.long_then.Goals as goal

pub returns-in_default-long : goal.returns-in_default-long
returns-in_default-long c = λ n rest h e. c.in_default-long.ensures n h (c.in-Some.ensures.first n (c.args.word.now ++ rest) h e).0

pub returns-in_default-after : goal.returns-in_default-after
returns-in_default-after c = λ n rest h e. c.in_default-after.ensures rest (sym (c.in-Some.ensures.first n (c.args.word.now ++ rest) h e).1)

pub returns : goal.returns
returns c =
    let cut : IsParted 32 c.args.text.now c.in-Some.digits.now c.in-Some.tail.now = c.in-Some.ensures in
    let number = c.in-Some-long.number in
    record {
      held = c.in-Some-long.ensures.0;
      spelled = cut.parts ∙ ap (λ (l : List ℕ). l ++ 32 ∷ c.in-Some.tail.now) (sym c.in-Some-long.ensures.1) ∙ ap (λ (l : List ℕ). decimal number ++ 32 ∷ l) c.in-Some-after.ensures;
      alone = λ m more few e.
          let both = cut.first m (c.args.word.now ++ more) few e in (
            same_number m number c.in-Some.digits.now few c.in-Some-long.ensures.0 both.0 c.in-Some-long.ensures.1,
            append_cancel_left c.args.word.now c.in-Some-after.rest.now more (sym (both.1 ∙ c.in-Some-after.ensures)),
          );
    }
