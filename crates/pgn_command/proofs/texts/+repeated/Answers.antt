use Rattle.std.proofs.Common.{◌≡◌, ℕ, List, ◌++◌, ◌/◌, string_bytes, ap, ◌∙◌, arith}
use Rattle.std.specs.List.{repeat}
use Rattle.pgn_command.proofs.RepeatLaws.{repeat-even, repeat-odd}
use Rattle.pgn_command.proofs.texts.+repeated.Goals.{then-count-eq1+in_ok-push_str-3, else-count-eq1}
use Rattle.pgn_command.proofs.texts.+repeated.Goals as goal

pub returns : goal.returns
returns t c =
    let half : List ℕ = repeat (c.args.count / 2) c.args.once.now in
    let first : string_bytes c.push_str.new.self ≡ half =
    c.in_ok-push_str.ensures.bytes ∙ ap (λ (l : List ℕ). l ++ c.as_str.result.now) c.in_ok-text.ensures.bytes ∙ c.as_str.ensures.value ∙ c.in_ok-half.ensures in
    let twice : string_bytes c.push_str-2.new.self ≡ half ++ half =
    c.in_ok-push_str-2.ensures.bytes ∙ ap (λ (l : List ℕ). l ++ c.as_str-2.result.now) first ∙ ap (λ (l : List ℕ). half ++ l) (c.as_str-2.ensures.value ∙ c.in_ok-half.ensures) in
    elim c.if-count-eq1.branch [
      | then-count-eq1+in_ok-push_str-3 w ↦ rw w.text-is (w.in_ok-push_str-3.ensures.bytes ∙ ap (λ (l : List ℕ). l ++ c.args.once.now) twice ∙ repeat-odd c.args.count (c.args.count / 2) c.args.once.now (omega (arith, w.if-count-eq1.true)))
      | else-count-eq1 w ↦ rw w.text-is (twice ∙ repeat-even c.args.count (c.args.count / 2) c.args.once.now (omega (arith, w.if-count-eq1.false)))
    ]
