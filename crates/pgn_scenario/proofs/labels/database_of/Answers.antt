use Rattle.std.proofs.Common.{◌≡◌, ℕ, true, List, length, subst, sym, ◌∙◌}
use Rattle.std.specs.List.{list_all}
use Rattle.std.specs.Char.{is_ascii_digit}
use Rattle.pgn_scenario.proofs.LabelLaws.{some_from, all_digits}
use Rattle.pgn_scenario.proofs.labels.database_of.Goals as goal

pub number_of-requires : goal.number_of-requires
number_of-requires c =
    let digits : list_all is_ascii_digit c.args.part.now ≡ true
    = subst (λ (l : List ℕ). list_all is_ascii_digit l ≡ true) c.as_bytes.ensures.value (sym c.are_digits.ensures ∙ c.if-not-are_digits.false) in
    (some_from (length c.args.part.now) (sym c.is_empty.ensures ∙ c.if-is_empty.false), all_digits c.args.part.now digits)
