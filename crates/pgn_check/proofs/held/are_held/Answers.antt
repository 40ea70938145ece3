use Rattle.std.proofs.Common.{◌≡◌, ◌+◌, ◌∷◌, ◌++◌, [], List, take, ap, sym, ◌∙◌, subst}
use Rattle.std.specs.Prelude.{All}
use Rattle.std.proofs.lemmas.List.{take_all, take_more}
use Rattle.std.proofs.lemmas.List.Elements.{All-push}
use Rattle.pgn_language.specs.declared.scenario.ScriptLine.{ScriptLine}
use Rattle.pgn_language.specs.declared.scenario.Section.{Section}
use Rattle.pgn_check.specs.Laws.{IsHeldAct}
use Rattle.pgn_check.proofs.held.are_held.Goals as goal

abbrev AreHeld : List ScriptLine → Type 0
AreHeld lines = All (λ line. IsHeldAct line.act) lines

abbrev Held : Section → Type 0
Held section = AreHeld section.lines

pub loop-section-preserved : goal.loop-section-preserved
loop-section-preserved c =
    let sections = c.args.sections.now in
    let k = c.loop-section.section-index in
    let more : take (k + 1) sections ≡ take k sections ++ c.section-item.result ∷ [] =
    take_more sections k c.section-item.result c.loop-section-test.true ∙ ap (λ (section : Section). take k sections ++ section ∷ []) (sym c.section-item.is) in
    subst (λ (some : List Section). All Held some) (sym more)
    (All-push Held (take k sections) c.section-item.result c.loop-section.invariant (subst AreHeld c.as_slice.ensures c.lines_are_held.ensures))

pub returns : goal.returns
returns c = subst (λ (some : List Section). All Held some) (take_all c.loop-section.section-index c.args.sections.now c.loop-section-test.false) c.loop-section.invariant
