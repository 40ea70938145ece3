use Rattle.std.proofs.Common.{ℕ, length, sym, subst, arith}
use Rattle.std.proofs.lemmas.Str.{IsCharBoundary-after_ascii}
use Rattle.pgn_command.specs.Texts.{single, IsInside}
use Rattle.pgn_lines.specs.Fields.{IsEnclosed}
use Rattle.pgn_lines.proofs.QuotedLaws.{not_enclosed, is_enclosed}
use Rattle.pgn_lines.proofs.quoted.enclosed.Goals as goal

pub returns-in_default : goal.returns-in_default
returns-in_default c = not_enclosed c.args.quote c.args.text.now c.in_default.ensures

pub range_from-rest-requires : goal.range_from-rest-requires
range_from-rest-requires c = λ _.
    let found : IsInside c.args.quote c.args.text.now c.in-Some.found.quote c.in-Some.found.raw.now = c.in-Some.ensures in
    IsCharBoundary-after_ascii c.args.text.now (length c.in-Some.found.raw.now) c.utf8.text (omega (arith, found.short)) (omega (arith, found.last, c.requires.ascii))

pub returns : goal.returns
returns c =
    let found : IsInside c.args.quote c.args.text.now c.in-Some.found.quote c.in-Some.found.raw.now = c.in-Some.ensures in
    let whole = is_enclosed c.args.quote c.args.text.now c.in-Some.found.raw.now c.range_from-rest.result.now c.in-Some.found.quote found c.range_from-rest.ensures.value in (
      found.quote_is,
      subst (λ (q : ℕ). IsEnclosed c.args.quote c.args.text.now (single q c.in-Some.found.raw.now) c.range_from-rest.result.now) (sym found.quote_is) whole,
    )
