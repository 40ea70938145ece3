use Rattle.std.proofs.Common.{◌≡◌, ◌+◌, List, length, take}
use Rattle.std.specs.Prelude.{flat_map}
use Rattle.pgn_language.specs.declared.scenario.ScriptLine.{ScriptLine}
use Rattle.pgn_model.specs.Text.{item_lines}
use Rattle.pgn_check.proofs.walker.lines_of_trace.Given as goal

abbrev pub invariant-loop-item : goal.invariant-loop-item
invariant-loop-item l = (lines : List ScriptLine) → l.lines ≡ 2 + length (flat_map (item_lines lines) (take l.item-index l.trace.items))
