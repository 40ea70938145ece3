use Rattle.std.proofs.Common.{ℕ, List, drop, sym, ap, ◌∙◌, subst, arith}
use Rattle.pgn_language.specs.Tokens.{closed}
use Rattle.pgn_command.specs.Texts.{IsInside}
use Rattle.pgn_command.specs.declared.bytes.Start.TheVariants as start
use Rattle.pgn_command.proofs.TokenSteps.{literal-boundary, open-literal, found-boundary, starts-some, read-literal}
use Rattle.pgn_command.proofs.lexer.Lexer.literal.Goals as goal

pub range_from-requires : goal.range_from-requires
range_from-requires c = λ _. literal-boundary c.args.self.now.rest.now c.requires.text c.requires.starts

pub wrong-requires : goal.wrong-requires
wrong-requires c = open-literal c.args.self.now.at c.args.self.now.rest.now c.requires.starts (ap (closed 39) (sym c.range_from.ensures.value) ∙ c.in_default.ensures)

pub skip-requires : goal.skip-requires
skip-requires c =
    let found : IsInside 39 (drop 1 c.args.self.now.rest.now) c.in-Some.found.quote c.in-Some.found.raw.now =
    subst (λ (l : List ℕ). IsInside 39 l c.in-Some.found.quote c.in-Some.found.raw.now) c.range_from.ensures.value c.in-Some.ensures in
    found-boundary c.args.self.now.rest.now 39 c.in-Some.found c.requires.text (omega arith) (starts-some start.Literal c.args.self.now.rest.now c.requires.starts) found

pub returns : goal.returns
returns c =
    let found : IsInside 39 (drop 1 c.args.self.now.rest.now) c.in-Some.found.quote c.in-Some.found.raw.now =
    subst (λ (l : List ℕ). IsInside 39 l c.in-Some.found.quote c.in-Some.found.raw.now) c.range_from.ensures.value c.in-Some.ensures in
    read-literal c.args.self.now.at c.args.self.now.rest.now c.skip.new.self.at c.skip.new.self.rest.now c.in-Some.found c.requires.starts found c.skip.ensures.at c.skip.ensures.rest
