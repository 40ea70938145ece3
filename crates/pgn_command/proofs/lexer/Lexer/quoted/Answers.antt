use Rattle.std.proofs.Common.{ℕ, List, drop, sym, ap, ◌∙◌, subst, arith}
use Rattle.pgn_language.specs.Tokens.{closed}
use Rattle.pgn_command.specs.Texts.{IsInside}
use Rattle.pgn_command.specs.declared.bytes.Start.TheVariants as start
use Rattle.pgn_command.proofs.TokenSteps.{quoted-boundary, open-quoted, found-boundary, starts-some, read-quoted, stuck-empty, none-some, some-none}
use Rattle.pgn_command.proofs.lexer.Lexer.quoted.Goals as goal

pub range_from-requires : goal.range_from-requires
range_from-requires c = λ _. quoted-boundary c.args.self.now.rest.now c.requires.text c.requires.starts

pub wrong-requires : goal.wrong-requires
wrong-requires c = open-quoted c.args.self.now.at c.args.self.now.rest.now c.requires.starts (ap (closed 34) (sym c.range_from.ensures.value) ∙ c.in_default.ensures)

pub wrong-requires-then-is_empty : goal.wrong-requires-then-is_empty
wrong-requires-then-is_empty c =
    let found : IsInside 34 (drop 1 c.args.self.now.rest.now) c.in-Some.found.quote c.in-Some.found.raw.now =
    subst (λ (l : List ℕ). IsInside 34 l c.in-Some.found.quote c.in-Some.found.raw.now) c.range_from.ensures.value c.in-Some.ensures in
    stuck-empty c.args.self.now.at c.args.self.now.rest.now c.in-Some.found c.requires.starts found (some-none c.in-Some.found.raw.now (sym c.is_empty.ensures ∙ c.if-is_empty.true))

pub skip-requires : goal.skip-requires
skip-requires c =
    let found : IsInside 34 (drop 1 c.args.self.now.rest.now) c.in-Some.found.quote c.in-Some.found.raw.now =
    subst (λ (l : List ℕ). IsInside 34 l c.in-Some.found.quote c.in-Some.found.raw.now) c.range_from.ensures.value c.in-Some.ensures in
    found-boundary c.args.self.now.rest.now 34 c.in-Some.found c.requires.text (omega arith) (starts-some start.Quoted c.args.self.now.rest.now c.requires.starts) found

pub returns : goal.returns
returns c =
    let found : IsInside 34 (drop 1 c.args.self.now.rest.now) c.in-Some.found.quote c.in-Some.found.raw.now =
    subst (λ (l : List ℕ). IsInside 34 l c.in-Some.found.quote c.in-Some.found.raw.now) c.range_from.ensures.value c.in-Some.ensures in
    read-quoted c.args.self.now.at c.args.self.now.rest.now c.skip.new.self.at c.skip.new.self.rest.now c.in-Some.found c.requires.starts found (none-some c.in-Some.found.raw.now (sym c.is_empty.ensures ∙ c.if-is_empty.false)) c.skip.ensures.at c.skip.ensures.rest
