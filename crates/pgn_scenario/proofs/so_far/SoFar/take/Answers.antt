use Rattle.std.proofs.Common.{◌≡◌, false, Option, None, Some, refl, sym, ap, ◌∙◌, arith}
use Rattle.std.specs.List.{list_any}
use Rattle.std.specs.Prelude.{◌==◌}
use Rattle.pgn_language.specs.Lines.{trimmed}
use Rattle.pgn_language.specs.declared.scenario.ScenarioFault.{ScenarioFault}
use Rattle.pgn_scenario.specs.Steps.{outcome}
use Rattle.pgn_scenario.proofs.TakeLaws.{nul-found, nul-none, text-no_nul, step-not_utf8, step-nul, step-added, added-at}
use Rattle.pgn_scenario.proofs.so_far.SoFar.take.Goals as goal

pub returns-in-Err : goal.returns-in-Err
returns-in-Err c = rw (← c.self.view_is, c.valid_up_to.ensures, c.in-Err.ensures.valid_len) (step-not_utf8 _ c.args.line.now c.if-line-gt-LINE_BYTES_MAX.false c.in-Err.ensures.cases.0)

pub returns-then-is_some : goal.returns-then-is_some
returns-then-is_some c =
    rw (← c.self.view_is) (step-nul _ c.args.line.now c.if-line-gt-LINE_BYTES_MAX.false c.in-Ok.ensures.cases.1 (nul-found c.args.line.now c.memchr.result c.memchr.ensures (sym c.is_some.ensures ∙ c.if-is_some.true)))

pub said_of-requires-clause-no_nul : goal.said_of-requires-clause-no_nul
said_of-requires-clause-no_nul c =
    rw (c.trimmed-text.ensures, c.in-Ok.ensures.cases.0) (text-no_nul c.args.line.now (nul-none c.args.line.now c.memchr.result c.memchr.ensures (sym c.is_some.ensures ∙ c.if-is_some.false)))

pub pass-requires : goal.pass-requires
pass-requires c =
    let same : c.add.new.self.at ≡ c.args.self.now.at
    = added-at c.args.self.now c.add.new.self c.trimmed-text.result.now _ (ap (λ (found : Option ScenarioFault). outcome found c.add.new.self) (sym c.in-None.is) ∙ c.in_ok-add.ensures) in
    omega (arith, same, c.requires)

pub returns-in-None : goal.returns-in-None
returns-in-None c =
    let none : list_any (λ byte. byte == 0) c.args.line.now ≡ false = nul-none c.args.line.now c.memchr.result c.memchr.ensures (sym c.is_some.ensures ∙ c.if-is_some.false) in
    step-added c.args.self.now c.add.new.self c.pass.new.self c.args.line.now c.trimmed-text.result.now _ None c.if-line-gt-LINE_BYTES_MAX.false c.in-Ok.ensures.cases.1 none
    (c.trimmed-text.ensures ∙ ap trimmed c.in-Ok.ensures.cases.0) c.in_ok-said.ensures
    (ap (λ (found : Option ScenarioFault). outcome found c.add.new.self) (sym c.in-None.is) ∙ c.in_ok-add.ensures) c.pass.ensures

pub returns-in-Some : goal.returns-in-Some
returns-in-Some c =
    let none : list_any (λ byte. byte == 0) c.args.line.now ≡ false = nul-none c.args.line.now c.memchr.result c.memchr.ensures (sym c.is_some.ensures ∙ c.if-is_some.false) in
    step-added c.args.self.now c.add.new.self _ c.args.line.now c.trimmed-text.result.now _ (Some c.in-Some.fault) c.if-line-gt-LINE_BYTES_MAX.false c.in-Ok.ensures.cases.1 none
    (c.trimmed-text.ensures ∙ ap trimmed c.in-Ok.ensures.cases.0) c.in_ok-said.ensures
    (ap (λ (found : Option ScenarioFault). outcome found c.add.new.self) (sym c.in-Some.is) ∙ c.in_ok-add.ensures) refl
