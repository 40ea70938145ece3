use Rattle.std.proofs.Common.{decimal, sym, ap, ◌∙◌}
use Rattle.std.proofs.lemmas.Bool.{false≢true}
use Rattle.std.proofs.lemmas.Fmt.{parse-decimal}
use Rattle.pgn_lines.proofs.FieldLaws.{same_ok}
use Rattle.pgn_lines.proofs.numbers.long.Goals as goal

pub returns-in_default : goal.returns-in_default
returns-in_default c = λ n h e. c.in_default.not-Ok n (parse-decimal 64 n c.args.text.now c.parse.result h h (sym e) c.parse.ensures.value.0)

pub returns-else-is_text_of : goal.returns-else-is_text_of
returns-else-is_text_of c = λ n h e.
    let given = parse-decimal 64 n c.args.text.now c.parse.result h h (sym e) c.parse.ensures.value.0 in
    false≢true (sym c.if-is_text_of.false ∙ c.is_text_of.ensures.1 (ap decimal (same_ok _ _ _ c.in-Ok.is given) ∙ e))
