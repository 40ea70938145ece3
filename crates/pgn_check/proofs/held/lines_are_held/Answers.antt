use Rattle.std.proofs.Common.{◌≡◌, ◌+◌, ◌∷◌, ◌++◌, [], List, take, ap, sym, ◌∙◌, subst}
use Rattle.std.specs.Prelude.{All}
use Rattle.std.proofs.lemmas.List.{take_all, take_more}
use Rattle.std.proofs.lemmas.List.Elements.{All-push}
use Rattle.pgn_language.specs.declared.scenario.ScriptLine.{ScriptLine}
use Rattle.pgn_check.specs.Laws.{IsHeldAct}
use Rattle.pgn_check.proofs.held.lines_are_held.Goals as goal

abbrev Held : ScriptLine → Type 0
Held line = IsHeldAct line.act

pub loop-line-preserved : goal.loop-line-preserved
loop-line-preserved c =
    let lines = c.args.lines.now in
    let k = c.loop-line.line-index in
    let more : take (k + 1) lines ≡ take k lines ++ c.line-item.result ∷ [] = take_more lines k c.line-item.result c.loop-line-test.true ∙ ap (λ (line : ScriptLine). take k lines ++ line ∷ []) (sym c.line-item.is) in
    subst (λ (some : List ScriptLine). All Held some) (sym more) (All-push Held (take k lines) c.line-item.result c.loop-line.invariant c.act_is_held.ensures)

pub returns : goal.returns
returns c = subst (λ (some : List ScriptLine). All Held some) (take_all c.loop-line.line-index c.args.lines.now c.loop-line-test.false) c.loop-line.invariant
