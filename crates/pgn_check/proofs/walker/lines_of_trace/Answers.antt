use Rattle.std.proofs.Common.{◌≡◌, ◌<◌, ◌≤◌, List, [], length, get_or, ap, subst, arith}
use Rattle.std.proofs.lemmas.List.{take_all}
use Rattle.std.proofs.lemmas.List.Folds.{length-flat_map-take}
use Rattle.std.specs.Prelude.{flat_map}
use Rattle.pgn_language.specs.declared.scenario.ScriptLine.{ScriptLine}
use Rattle.pgn_model.specs.declared.item.Item.{Item}
use Rattle.pgn_model.specs.Text.{item_lines}
use Rattle.pgn_check.proofs.LoopLaws.{lines_on, trace_many}
use Rattle.pgn_check.proofs.walker.lines_of_trace.Goals as goal

pub overflow_add-lines : goal.overflow_add-lines
overflow_add-lines c =
    let items = c.args.trace.now.items in
    let k = c.loop-item.item-index in
    let i = c.item-item.result in
    let none : List ScriptLine = [] in
    let lt : k < length items = omega (arith, ap length c.as_slice-item-items.ensures) in
    let is : i ≡ get_or items k i = subst (λ (xs : List Item). i ≡ get_or xs k i) c.as_slice-item-items.ensures c.item-item.is in
    let there : length (item_lines none i) ≡ length (item_lines none (get_or items k i)) = ap (λ (x : Item). length (item_lines none x)) is in
    omega (arith, c.loop-item.invariant none, c.lines_of-lines.ensures none, length-flat_map-take (item_lines none) items k i lt)

pub loop-item-preserved : goal.loop-item-preserved
loop-item-preserved c =
    let items = c.args.trace.now.items in
    let k = c.loop-item.item-index in
    let i = c.item-item.result in
    let lt : k < length items = omega (arith, ap length c.as_slice-item-items.ensures) in
    let is : i ≡ get_or items k i = subst (λ (xs : List Item). i ≡ get_or xs k i) c.as_slice-item-items.ensures c.item-item.is in
    λ lines. omega (arith, c.loop-item.invariant lines, c.lines_of-lines.ensures lines, lines_on lines items k i lt is)

pub returns : goal.returns
returns c =
    let trace = c.args.trace.now in
    let le : length trace.items ≤ c.loop-item.item-index = omega (arith, ap length c.as_slice-item-items.ensures) in
    λ section. omega (arith, c.loop-item.invariant section.lines, trace_many section trace section.lines, ap (λ (xs : List Item). length (flat_map (item_lines section.lines) xs)) (take_all c.loop-item.item-index trace.items le))
